use Rattle.std.proofs.Common.{ltb}
use Rattle.parts.specs.Lifting.{at}
use Rattle.parts.specs.Written.{Written}
use Rattle.parts.proofs.gaps.raise_above.Given as goal

abbrev pub invariant-loop-rank : goal.invariant-loop-rank
invariant-loop-rank l = Written (λ s. ltb l.gap (at l.initial.ranks s)) (λ _. l.top) l.initial.ranks l.rank-index l.ranks
