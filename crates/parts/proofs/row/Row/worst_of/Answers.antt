use Rattle.std.proofs.Common.{rules, ◌∙◌, max}
use Rattle.parts.specs.Lifting.{at}
use Rattle.parts.proofs.Ranges.{fold_is, worst_fold}
use Rattle.parts.proofs.row.Row.worst_of.Goals as goal

pub returns : goal.returns
returns g c =
    let m = g.S.Site.arena c.args.self.now.site.now in
    let x = at c.args.self.now.numbers.now in
    fold_is (λ most b. max most (x (m.next c.args.s c.args.a b))) (m.events c.args.s) c.fold.ensures.runs c.events.ensures (λ most b r f called. search rules)
    ∙ worst_fold m x c.args.s c.args.a (m.events c.args.s)
