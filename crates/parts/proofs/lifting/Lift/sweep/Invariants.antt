use Rattle.parts.specs.Lifting.{unnumbered}
use Rattle.parts.proofs.Raises.{Swept}
use Rattle.parts.proofs.lifting.Lift.sweep.Given as goal

abbrev pub invariant-loop-k : goal.invariant-loop-k
invariant-loop-k g l =
    Swept (g.S.Site.arena l.self.site.now) l.direction l.self.top (unnumbered l.self.firsts.now) l.initial.ranks l.ranks l.rose l.k
