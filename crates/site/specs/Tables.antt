-- What a table means: rows for the states, and one sheet of arrows by state, command and event.
use Rattle.std.specs.Prelude.{◌≡◌, ℕ, zero, suc, ◌+◌, ◌*◌, ◌<◌, ◌≤◌, Bool, cond, ◌&&◌, List, [], ◌∷◌, length, ◌==◌, nat_le, nat_lt, slice_index, slice_index_or}
use Rattle.site.specs.Arena.{Arena}
use Rattle.site.specs.Counting.{every}
use Rattle.site.specs.Grades.{grade_number}
use Rattle.site.specs.declared.grades.Grade.TheVariants.{Confirmed, Ordinary}
use Rattle.site.specs.declared.sheets.Row.{Row}

-- a row that no table uses
abbrev pub no_row : Row
no_row = record { grade = Confirmed; commands = 0; events = 0; first = 0 }

-- the row of state s
abbrev pub row_at : List Row → ℕ → Row
row_at rows s = slice_index_or rows s no_row

-- how many arrows the rows before row s have
abbrev pub arrows_before : List Row → ℕ → ℕ
arrows_before rows zero = 0
arrows_before rows (suc s) = arrows_before rows s + (row_at rows s).commands * (row_at rows s).events

-- a row has 1 to 16 commands and events, and its arrows begin at the number `at`
abbrev pub row_ok : Row → ℕ → Bool
row_ok row at =
    (row.first == at)
    && (nat_le 1 row.commands && (nat_le row.commands 16 && (nat_le 1 row.events && nat_le row.events 16)))

-- row s is in order, and its arrows begin where those of the earlier rows end
abbrev pub row_fair : List Row → ℕ → Bool
row_fair rows s = row_ok (row_at rows s) (arrows_before rows s)

-- an arrow leads to one of n states
abbrev pub arrow_fair : ℕ → List ℕ → ℕ → Bool
arrow_fair n arrows i = nat_lt (slice_index arrows i) n

-- the one test of the sheets for n states: 1 to 8,192 states, a fair row for each, all their arrows, each fair.
-- Entries beyond those are not looked at
abbrev pub fair : ℕ → List Row → List ℕ → Bool
fair n rows arrows =
    nat_le 1 n
    && (nat_le n 8192
    && (nat_le n (length rows)
    && (every (row_fair rows) n
    && (nat_le (arrows_before rows n) (length arrows) && every (arrow_fair n arrows) (arrows_before rows n)))))

-- state s has command a and event b
abbrev pub has_move : ℕ → List Row → ℕ → ℕ → ℕ → Bool
has_move n rows s a b = nat_lt s n && (nat_lt a (row_at rows s).commands && nat_lt b (row_at rows s).events)

-- the site that fair sheets stand for; a number out of range is answered by 0
abbrev pub table : ℕ → List Row → List ℕ → Arena
table n rows arrows =
    record {
      states = n;
      grade = λ s. cond (nat_lt s n) (grade_number (row_at rows s).grade) 0;
      commands = λ s. cond (nat_lt s n) (row_at rows s).commands 0;
      events = λ s. cond (nat_lt s n) (row_at rows s).events 0;
      next = λ s a b.
          cond (has_move n rows s a b) (slice_index arrows ((row_at rows s).first + (a * (row_at rows s).events + b))) 0;
    }

-- the row of the resting site
abbrev pub resting_row : Row
resting_row = record { grade = Ordinary; commands = 1; events = 1; first = 0 }

-- the resting site: one ordinary state with one command and one event, which lead back to it
abbrev pub resting : Arena
resting = table 1 (resting_row ∷ []) (0 ∷ [])

-- what a table made from n and two sheets means: what the sheets stand for, or the resting site if they are broken
abbrev pub made_from : ℕ → List Row → List ℕ → Arena
made_from n rows arrows = cond (fair n rows arrows) (table n rows arrows) resting

-- two pairs of sheets that are long enough for n states and have the same rows and arrows for them
pub record SameFront (n : ℕ) (rows rows' : List Row) (arrows arrows' : List ℕ) : Type 0 where
  pub long_rows : n ≤ length rows
  pub long_rows' : n ≤ length rows'
  pub row : (s : ℕ) → s < n → row_at rows s ≡ row_at rows' s
  pub long_arrows : arrows_before rows n ≤ length arrows
  pub long_arrows' : arrows_before rows n ≤ length arrows'
  pub arrow : (i : ℕ) → i < arrows_before rows n → slice_index arrows i ≡ slice_index arrows' i

-- entries beyond those of the n states have no effect
abbrev pub NothingBeyond : ℕ → List Row → List ℕ → Type 0
NothingBeyond n rows arrows =
    (rows' : List Row) (arrows' : List ℕ) → SameFront n rows rows' arrows arrows' → made_from n rows arrows ≡ made_from n rows' arrows'
