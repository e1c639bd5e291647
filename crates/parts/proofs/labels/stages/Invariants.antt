use Rattle.parts.proofs.Seconds.{Staged}
use Rattle.parts.proofs.labels.stages.Given as goal

abbrev pub invariant-loop-number : goal.invariant-loop-number
invariant-loop-number g l = Staged (g.S.Site.arena l.site) l.number l.seconds
