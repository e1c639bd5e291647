use Rattle.std.proofs.Common.{rules, eqb}
use Rattle.parts.proofs.Ranges.{count_is}
use Rattle.parts.proofs.phases.doubted.Goals as goal

pub returns : goal.returns
returns g c =
    let m = g.S.Site.arena c.args.site.now in
    count_is (λ s. eqb (m.grade s) 1) m.states c.count.ensures.runs c.filter.ensures.runs c.states.ensures (λ s b f called. search rules)
