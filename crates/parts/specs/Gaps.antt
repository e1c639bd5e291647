-- Gaps in a row: numbers that no state has.
use Rattle.std.specs.Prelude.{◌≡◌, ℕ, ◌<◌, Bool, cond, ◌&&◌, List, length, ◌==◌, ◌≢◌, nat_eq, nat_lt}
use Rattle.site.specs.Counting.{some}
use Rattle.parts.specs.Lifting.{at}

-- some state has the number v
abbrev pub in_use : List ℕ → ℕ → Bool
in_use xs v = some (λ s. nat_eq (at xs s) v) (length xs)

-- the number v has a place among the marks, and its mark says that no state has it
abbrev pub unmarked : List ℕ → ℕ → Bool
unmarked marks v = nat_lt v (length marks) && at marks v == 0

-- A row was cut at a gap: no state has the number `gap`, and those above it were raised to `top`. Where no gap is known
-- `gap` is `top`.
pub record Cut (top : ℕ) (before after : List ℕ) : Type 0 where
  pub gap : ℕ
  pub unused : gap < top → (s : ℕ) → s < length before → at before s ≢ gap
  pub cut : (s : ℕ) → at after s ≡ cond (nat_lt gap (at before s)) top (at before s)
