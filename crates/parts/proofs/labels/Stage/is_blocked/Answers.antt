use Rattle.std.proofs.Common.{rules, not, leb, ltb, ap, ◌∙◌}
use Rattle.parts.specs.Lifting.{at}
use Rattle.parts.proofs.Duals.{not_holds, blocks_same}
use Rattle.parts.proofs.Steps.{not_leb}
use Rattle.parts.proofs.labels.Stage.is_blocked.Goals as goal

pub returns : goal.returns
returns g c =
    let m = g.S.Site.arena c.args.self.now.site.now in
    let x = at c.args.labels.now in
    ap not (c.holds.ensures (λ label. leb c.args.j label) (λ label r f called. search rules))
    ∙ (not_holds m (λ t. leb c.args.j (x t)) c.args.s
    ∙ blocks_same m (λ t. not (leb c.args.j (x t))) (λ t. ltb (x t) c.args.j) (λ t. not_leb c.args.j (x t)) c.args.s)
