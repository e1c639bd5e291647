use Rattle.std.proofs.Common.{◌≡◌, ℕ, ◌<◌, cond, eqb, length}
use Rattle.site.specs.Counting.{some}
use Rattle.parts.specs.Lifting.{at}
use Rattle.parts.proofs.gaps.mark_used.Given as goal

abbrev pub invariant-loop-rank : goal.invariant-loop-rank
invariant-loop-rank l =
    (v : ℕ) → v < length l.marks → at l.marks v ≡ cond (some (λ s. eqb (at l.ranks s) v) l.rank-index) 1 0
