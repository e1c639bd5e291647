-- Each count so far is that of the states done.
use Rattle.checker.proofs.Tallies.{Tallied}
use Rattle.checker.proofs.bounding.bounds_of.Given as goal

abbrev pub invariant-loop-s : goal.invariant-loop-s
invariant-loop-s g l = Tallied (g.S.Site.arena l.site).grade l.s l.bounds
