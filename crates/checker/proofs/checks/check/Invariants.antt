-- The states before s have passed, and they are counted by their parts.
use Rattle.checker.proofs.Progress.{Progress}
use Rattle.checker.proofs.checks.check.Given as goal

abbrev pub invariant-loop-s : goal.invariant-loop-s
invariant-loop-s g l = Progress (g.S.Site.arena l.site) l.leaves l.replies l.s l.counts
