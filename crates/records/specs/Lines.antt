-- The lines of a listing, byte by byte.
use Rattle.std.specs.Prelude.{ℕ, ◌*◌, List, [], ◌∷◌, ◌++◌, length, take, drop, Ok, codes, decimal, Result, nat_le, nat_lt}
use Rattle.std.specs.List.{flat_map}
use Rattle.site.specs.Arena.{Arena}
use Rattle.site.specs.Refusals.{Refusal, unless}
use Rattle.checker.specs.Leaves.{leaf_at}
use Rattle.checker.specs.declared.leaves.Leaf.{Leaf}
use Rattle.checker.specs.declared.leaves.Leaf.TheVariants.{Covered, Open}

-- a line ends in a line feed
abbrev pub line_end : List ℕ
line_end = 10 ∷ []

-- words, and then a number in decimal digits
abbrev pub field : List ℕ → ℕ → List ℕ
field words n = words ++ decimal n

-- the first line: how many states there are, how many covered and how many open
abbrev pub head_text : ℕ → ℕ → ℕ → List ℕ
head_text states covered left_open =
    field (codes "states ") states
    ++ (field (codes " covered ") covered ++ (field (codes " open ") left_open ++ line_end))

-- each reply after a blank
abbrev pub replies_text : List ℕ → List ℕ
replies_text replies = flat_map (field (codes " ")) replies

-- what the line of a state says of its leaf: the command and the rank, or both numbers and the replies
abbrev pub leaf_text : Leaf → List ℕ → List ℕ
leaf_text (Covered a r) replies = field (codes " covered command ") a ++ field (codes " rank ") r
leaf_text (Open u w) replies =
    field (codes " open pair ") u ++ (field (codes " ") w ++ (codes " events" ++ replies_text replies))

-- the replies of state s, one for each of its commands: sixteen places to a state
abbrev pub own_replies : Arena → List ℕ → ℕ → List ℕ
own_replies m replies s = take (m.commands s) (drop (16 * s) replies)

-- the line of state s
abbrev pub state_text : Arena → List Leaf → List ℕ → ℕ → List ℕ
state_text m leaves replies s = decimal s ++ (leaf_text (leaf_at leaves s) (own_replies m replies s) ++ line_end)

-- the first line, for a buffer with so much room: less than 128 bytes are refused by 9
abbrev pub head_answer : ℕ → ℕ → ℕ → ℕ → Result (List ℕ) Refusal
head_answer states covered left_open room = unless (nat_lt room 128) 9 128 (Ok (head_text states covered left_open))

-- the line of state s: too few leaves, too few replies and too little room are refused by 9 with the
-- number needed, and then a state that the site lacks by 15
abbrev pub state_answer : Arena → List Leaf → List ℕ → ℕ → ℕ → Result (List ℕ) Refusal
state_answer m leaves replies s room =
    unless (nat_lt (length leaves) m.states) 9 m.states
    (unless (nat_lt (length replies) (16 * m.states)) 9 (16 * m.states)
    (unless (nat_lt room 128) 9 128
    (unless (nat_le m.states s) 15 s (Ok (state_text m leaves replies s)))))
