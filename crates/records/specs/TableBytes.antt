-- How a table is read from bytes: a head, then for each state a row and the arrows of that row.
use Rattle.std.specs.Prelude.{ℕ, ◌+◌, ◌*◌, Bool, cond, not, ◌||◌, List, [], ◌∷◌, ◌++◌, length, Ok, Result, ◌==◌, nat_le, nat_lt}
use Rattle.site.specs.Refusals.{Refusal, refuse, unless, and_then}
use Rattle.site.specs.declared.grades.Grade.{Grade}
use Rattle.site.specs.declared.grades.Grade.TheVariants.{Confirmed, Doubted, Ordinary}
use Rattle.site.specs.declared.sheets.Row.{Row}
use Rattle.records.specs.Repeated.{repeated}
use Rattle.records.specs.Taken.{Found, Several, several_in}

-- a number in two bytes, the high byte first
abbrev pub two_bytes : ℕ → ℕ → ℕ
two_bytes hi lo = 256 * hi + lo

-- a record that begins at the offset `at` with the byte `kind`: where no byte is left it is refused by 1,
-- where the byte is another by 2, and else its body is read
abbrev pub of_kind : {T : Type 0} → ℕ → ℕ → (List ℕ → Result T Refusal) → List ℕ → Result T Refusal
of_kind kind at body [] = refuse 1 at
of_kind kind at body (k ∷ bs) = unless (not (k == kind)) 2 at (body bs)

-- the head's body, the number of states in two bytes: 1 to 1,024 (else 3)
abbrev pub head_body : List ℕ → Result (Found ℕ) Refusal
head_body [] = refuse 1 0
head_body (hi ∷ []) = refuse 1 0
head_body (hi ∷ (lo ∷ left)) =
    unless (two_bytes hi lo == 0 || nat_lt 1024 (two_bytes hi lo)) 3 0
    (Ok (record { what = two_bytes hi lo; left = left }))

-- the head is of kind 1
abbrev pub head_in : List ℕ → Result (Found ℕ) Refusal
head_in = of_kind 1 0 head_body

-- the grade with a number from 0 to 2
abbrev pub numbered_grade : ℕ → Grade
numbered_grade g = cond (g == 0) Confirmed (cond (g == 1) Doubted Ordinary)

-- a number of commands or events that no state may have
abbrev pub bad_count : ℕ → Bool
bad_count c = c == 0 || nat_lt 16 c

-- the row of these values, read at the offset `at` after `first` arrows: the grade is 0 to 2 (else 4),
-- commands and events are 1 to 16 (else 5), and all arrows up to those of this row are at most 16,384 (else 6)
abbrev pub row_of : ℕ → ℕ → ℕ → ℕ → ℕ → Result Row Refusal
row_of at first g c e =
    unless (nat_lt 2 g) 4 at
    (unless (bad_count c || bad_count e) 5 at
    (unless (nat_lt 16384 (first + c * e)) 6 at
    (Ok (record { grade = numbered_grade g; commands = c; events = e; first = first }))))

-- a row's body: grade, commands and events, a byte each
abbrev pub row_body : ℕ → ℕ → List ℕ → Result (Found Row) Refusal
row_body at first [] = refuse 1 at
row_body at first (g ∷ []) = refuse 1 at
row_body at first (g ∷ (c ∷ [])) = refuse 1 at
row_body at first (g ∷ (c ∷ (e ∷ left))) =
    and_then (row_of at first g c e) (λ row. Ok (record { what = row; left = left }))

-- a row is of kind 2
abbrev pub row_in : ℕ → ℕ → List ℕ → Result (Found Row) Refusal
row_in at first = of_kind 2 at (row_body at first)

-- an arrow's body at the offset `at`: the next state in two bytes, one of n states (else 7)
abbrev pub arrow_body : ℕ → ℕ → List ℕ → Result (Found ℕ) Refusal
arrow_body n at [] = refuse 1 at
arrow_body n at (hi ∷ []) = refuse 1 at
arrow_body n at (hi ∷ (lo ∷ left)) =
    unless (nat_le n (two_bytes hi lo)) 7 at (Ok (record { what = two_bytes hi lo; left = left }))

-- an arrow is of kind 3
abbrev pub arrow_in : ℕ → ℕ → List ℕ → Result (Found ℕ) Refusal
arrow_in n at = of_kind 3 at (arrow_body n at)

-- k arrows, from the offset `at` on, of three bytes each
abbrev pub arrows_in : ℕ → ℕ → ℕ → List ℕ → Result (Several ℕ) Refusal
arrows_in n k at bs = several_in (arrow_in n) 3 k at bs

-- what was read of a table: its rows and its arrows, the offset after them, and the bytes that are left
pub record Read : Type 0 where
  pub rows : List Row
  pub arrows : List ℕ
  pub at : ℕ
  pub left : List ℕ

-- one state more: its row, and then the row's arrows
abbrev pub one_state : ℕ → Read → Result Read Refusal
one_state n rd =
    and_then (row_in rd.at (length rd.arrows) rd.left) (λ row.
    and_then (arrows_in n (row.what.commands * row.what.events) (rd.at + 4) row.left) (λ more.
    Ok (record { rows = rd.rows ++ row.what ∷ []; arrows = rd.arrows ++ more.items; at = more.at; left = more.left })))

-- k of n states, from the bytes after the head
abbrev pub states_in : ℕ → ℕ → List ℕ → Result Read Refusal
states_in n k bs = repeated (one_state n) k (record { rows = []; arrows = []; at = 3; left = bs })

-- no byte is left (else 8, at the first that is)
abbrev pub ended : Read → Result Read Refusal
ended rd = unless (nat_lt 0 (length rd.left)) 8 rd.at (Ok rd)

-- a whole table: the head, as many states as it says, and nothing after them
abbrev pub table_in : List ℕ → Result Read Refusal
table_in bs = and_then (head_in bs) (λ head. and_then (states_in head.what head.what head.left) ended)
