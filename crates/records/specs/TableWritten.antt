-- The bytes of a site's table: a head, then for each state a row and the arrows of that row.
use Rattle.std.specs.Prelude.{ℕ, zero, suc, ◌+◌, ◌*◌, ◌/◌, ◌%◌, ◌||◌, List, [], ◌∷◌, ◌++◌, Ok, Result, nat_lt}
use Rattle.site.specs.Arena.{Arena}
use Rattle.site.specs.Refusals.{Refusal, unless}

-- a record with a number in two bytes, the high byte first
abbrev pub numbered : ℕ → ℕ → List ℕ
numbered kind v = kind ∷ (v / 256 ∷ (v % 256 ∷ []))

-- where arrow i of state s leads: its arrows go by command and then by event
abbrev pub aim : Arena → ℕ → ℕ → ℕ
aim m s i = m.next s (i / m.events s) (i % m.events s)

-- the first i arrows of state s, each of kind 3
abbrev pub arrows_bytes : Arena → ℕ → ℕ → List ℕ
arrows_bytes m s zero = []
arrows_bytes m s (suc i) = arrows_bytes m s i ++ numbered 3 (aim m s i)

-- the row of state s, of kind 2: grade, commands and events
abbrev pub row_bytes : Arena → ℕ → List ℕ
row_bytes m s = 2 ∷ (m.grade s ∷ (m.commands s ∷ (m.events s ∷ [])))

-- how many arrows state s has
abbrev pub moves : Arena → ℕ → ℕ
moves m s = m.commands s * m.events s

-- the first k states, each with its arrows
abbrev pub states_bytes : Arena → ℕ → List ℕ
states_bytes m zero = []
states_bytes m (suc k) = states_bytes m k ++ (row_bytes m k ++ arrows_bytes m k (moves m k))

-- the table: the head is of kind 1, and has the number of states
abbrev pub table_bytes : Arena → List ℕ
table_bytes m = numbered 1 m.states ++ states_bytes m m.states

-- how many arrows the first k states have
abbrev pub arrows_to : Arena → ℕ → ℕ
arrows_to m zero = 0
arrows_to m (suc k) = arrows_to m k + moves m k

-- how many bytes the table takes
abbrev pub table_long : Arena → ℕ
table_long m = 3 + 4 * m.states + 3 * arrows_to m m.states

-- the table of a site, for a buffer with so much room: too little is refused by 9 with the bytes needed,
-- and then a site with more than 1,024 states or 16,384 arrows by 21 with its states
abbrev pub table_answer : Arena → ℕ → Result (List ℕ) Refusal
table_answer m room =
    unless (nat_lt room (table_long m)) 9 (table_long m)
    (unless (nat_lt 1024 m.states || nat_lt 16384 (arrows_to m m.states)) 21 m.states (Ok (table_bytes m)))
