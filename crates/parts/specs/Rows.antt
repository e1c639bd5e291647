-- The numbers of all states in rows.
use Rattle.std.specs.Prelude.{◌≡◌, ℕ, suc, ◌<◌, ◌≤◌, Bool, true, false, cond, not, ◌&&◌, List, ◌++◌, map, drop, Ok, Result, nat_le}
use Rattle.std.specs.List.{range_with_len}
use Rattle.site.specs.Arena.{Arena, graded}
use Rattle.parts.specs.Lifting.{at, none}
use Rattle.parts.specs.Regions.{has, covered, rank, first, second}
use Rattle.site.specs.Refusals.{Refusal, unless}

-- the row of first numbers: none for a covered state, and for an open one its first number, below `many`
pub record FirstRow (m : Arena) (many : ℕ) (firsts : List ℕ) : Type 0 where
  pub few : many ≤ m.states
  pub no_first : (s : ℕ) → s < m.states → has (covered m) s ≡ true → at firsts s ≡ none
  pub numbered : (s : ℕ) → s < m.states → has (covered m) s ≡ false → at firsts s ≡ first m s
  pub below : (s : ℕ) → s < m.states → has (covered m) s ≡ false → first m s < many

-- the row of ranks: a covered state's rank, and for an open one a number that no covered state has
pub record RankRow (m : Arena) (ranks : List ℕ) : Type 0 where
  pub ranked : (s : ℕ) → s < m.states → has (covered m) s ≡ true → at ranks s ≡ rank m s
  pub unranked : (s : ℕ) → s < m.states → has (covered m) s ≡ false → at ranks s ≡ suc (graded m 1)

-- the row of second numbers: 0 for a covered state
pub record SecondRow (m : Arena) (seconds : List ℕ) : Type 0 where
  pub no_second : (s : ℕ) → s < m.states → has (covered m) s ≡ true → at seconds s ≡ 0
  pub numbered : (s : ℕ) → s < m.states → has (covered m) s ≡ false → at seconds s ≡ second m s

-- a row with a number for each of n states
abbrev pub row : ℕ → (ℕ → ℕ) → List ℕ
row n f = map f (range_with_len 0 n)

-- the first numbers of all states, with the mark of no number for a covered one
abbrev pub first_row : Arena → List ℕ
first_row m = row m.states (λ s. cond (has (covered m) s) none (first m s))

-- their ranks, with one more than the number of doubted states for an open one
abbrev pub rank_row : Arena → List ℕ
rank_row m = row m.states (λ s. cond (has (covered m) s) (rank m s) (suc (graded m 1)))

-- their second numbers, with 0 for a covered one
abbrev pub second_row : Arena → List ℕ
second_row m = row m.states (λ s. cond (has (covered m) s) 0 (second m s))

-- whether four slices of these lengths have room for a number for each state
abbrev pub rows_fit : Arena → ℕ → ℕ → ℕ → ℕ → Bool
rows_fit m a b c d = nat_le m.states a && (nat_le m.states b && (nat_le m.states c && nat_le m.states d))

-- numbering the states in four slices of these lengths: 9 where one is short of N, else N
abbrev pub rows_answer : Arena → ℕ → ℕ → ℕ → ℕ → Result ℕ Refusal
rows_answer m a b c d = unless (not (rows_fit m a b c d)) 9 m.states (Ok m.states)

-- a slice after it: the row on its front and then what was there, or all that was there where a slice is short
abbrev pub row_after : Arena → Bool → List ℕ → List ℕ → List ℕ
row_after m fit numbers before = cond fit (numbers ++ drop m.states before) before
