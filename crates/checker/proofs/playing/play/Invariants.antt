-- The calls before i were played.
use Rattle.checker.proofs.CallByCall.{SoFar}
use Rattle.checker.proofs.playing.play.Given as goal

abbrev pub invariant-loop-i : goal.invariant-loop-i
invariant-loop-i g l = SoFar (g.S.Site.arena l.site) l.leaves l.replies l.calls l.initial.answers l.i l.run l.answers
