use Rattle.parts.specs.Lifting.{unnumbered, Raised, slack}
use Rattle.parts.proofs.lifting.Lift.settle.Given as goal

abbrev pub invariant-sweeps : goal.invariant-sweeps
invariant-sweeps g l =
    Raised (g.S.Site.arena l.self.site.now) l.self.top (unnumbered l.self.firsts.now) l.initial.ranks l.ranks

abbrev pub decreases-sweeps : goal.decreases-sweeps
decreases-sweeps g l = slack l.self.top l.ranks
