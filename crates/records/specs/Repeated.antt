-- One step done again and again, until it is refused.
use Rattle.std.specs.Prelude.{ℕ, zero, suc, Ok, Result}
use Rattle.site.specs.Refusals.{Refusal, and_then}

-- the step done k times from x on; the first refusal is the answer
abbrev pub repeated : {T : Type 0} → (T → Result T Refusal) → ℕ → T → Result T Refusal
repeated step zero x = Ok x
repeated step (suc k) x = and_then (repeated step k x) step
