use Rattle.std.proofs.Common.{eqb}
use Rattle.parts.specs.Lifting.{at}
use Rattle.parts.specs.Written.{Written}
use Rattle.parts.proofs.labels.Stage.keep.Given as goal

abbrev pub invariant-loop-s : goal.invariant-loop-s
invariant-loop-s g l = Written (λ s. eqb (at l.self.firsts.now s) l.self.number) (at l.labels) l.initial.seconds l.s l.seconds
