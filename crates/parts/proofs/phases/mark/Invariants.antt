use Rattle.std.proofs.Common.{◌≡◌}
use Rattle.site.specs.Counting.{some}
use Rattle.parts.specs.Written.{Written, lost}
use Rattle.parts.proofs.phases.mark.Given as goal

abbrev pub invariant-loop-s : goal.invariant-loop-s
invariant-loop-s l =
    Written (lost l.top l.ranks l.initial.firsts) (λ _. l.i) l.initial.firsts l.s l.firsts
    × (l.any ≡ some (lost l.top l.ranks l.initial.firsts) l.s)
