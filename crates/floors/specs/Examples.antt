-- The worked examples.
use Rattle.std.specs.Prelude.{ℕ, List, [], ◌∷◌, ◌++◌, take, Ok, codes}
use Rattle.drift.specs.Drifts.{drift}
use Rattle.site.specs.Refusals.{refuse}
use Rattle.site.specs.Tables.{resting}
use Rattle.checker.specs.declared.calls.Call.TheVariants.{Place, Book, Objection}
use Rattle.checker.specs.declared.leaves.Leaf.TheVariants.{Covered, Open}
use Rattle.checker.specs.declared.runs.Run.TheVariants.{Placed}
use Rattle.floors.specs.Shown.{Example, Pair, floor}
use Rattle.floors.specs.Shown.Example.{Unread, Planned, Listed, Split, Faulty, Played}

-- the records of a table's bytes: the head, a row and an arrow, for numbers below 256
abbrev pub head : ℕ → List ℕ
head n = 1 ∷ 0 ∷ n ∷ []

abbrev pub row : ℕ → ℕ → ℕ → List ℕ
row grade commands events = 2 ∷ grade ∷ commands ∷ events ∷ []

abbrev pub arrow : ℕ → List ℕ
arrow t = 3 ∷ 0 ∷ t ∷ []

-- Floor B, in 43 bytes: a confirmed state, an ordinary one with two commands and two events, and two doubted ones, of
-- which the last is never left.
abbrev pub bytes_b : List ℕ
bytes_b =
    head 4
    ++ (row 0 1 1 ++ arrow 1)
    ++ (row 2 2 2 ++ arrow 1 ++ arrow 2 ++ arrow 0 ++ arrow 1)
    ++ (row 1 1 2 ++ arrow 0 ++ arrow 1)
    ++ (row 1 1 1 ++ arrow 3)

-- its planned pair
abbrev pub pair_b : Pair
pair_b =
    record {
      leaves = Covered 0 0 ∷ Covered 1 0 ∷ Covered 0 1 ∷ Open 0 0 ∷ [];
      replies = [] ∷ [] ∷ [] ∷ (0 ∷ []) ∷ [];
    }

-- the lines that list it, each with its line feed
abbrev pub lines_b : List (List ℕ)
lines_b =
    codes "states 4 covered 3 open 1\n"
    ∷ codes "0 covered command 0 rank 0\n"
    ∷ codes "1 covered command 1 rank 0\n"
    ∷ codes "2 covered command 0 rank 1\n"
    ∷ codes "3 open pair 0 0 events 0\n"
    ∷ []

-- Floor A: the first three states of floor B, but event 1 answers command 1 of state 1 by the doubted state. All is open.
abbrev pub bytes_a : List ℕ
bytes_a =
    head 3
    ++ (row 0 1 1 ++ arrow 1)
    ++ (row 2 2 2 ++ arrow 1 ++ arrow 2 ++ arrow 0 ++ arrow 2)
    ++ (row 1 1 2 ++ arrow 0 ++ arrow 1)

abbrev pub pair_a : Pair
pair_a =
    record {
      leaves = Open 1 0 ∷ Open 0 1 ∷ Open 0 0 ∷ [];
      replies = (0 ∷ []) ∷ (1 ∷ 1 ∷ []) ∷ (1 ∷ []) ∷ [];
    }

-- Floor C: equal numbers lead from the doubted state to the confirmed one, which is never left, and others back.
abbrev pub bytes_c : List ℕ
bytes_c =
    head 2
    ++ (row 1 2 2 ++ arrow 1 ++ arrow 0 ++ arrow 0 ++ arrow 1)
    ++ (row 0 1 1 ++ arrow 1)

abbrev pub pair_c : Pair
pair_c = record { leaves = Open 0 0 ∷ Covered 0 0 ∷ []; replies = (1 ∷ 0 ∷ []) ∷ [] ∷ [] }

-- A floor on which the floor needs two stages: state 3 can be led to the confirmed state 2, and the ordinary state 1 of
-- the first stage counts among its second numbers like any other.
abbrev pub bytes_late : List ℕ
bytes_late =
    head 4
    ++ (row 1 1 1 ++ arrow 0)
    ++ (row 2 1 1 ++ arrow 0)
    ++ (row 0 1 1 ++ arrow 0)
    ++ (row 2 2 1 ++ arrow 1 ++ arrow 2)

abbrev pub pair_late : Pair
pair_late =
    record {
      leaves = Open 0 0 ∷ Open 0 1 ∷ Open 1 0 ∷ Open 1 2 ∷ [];
      replies = (0 ∷ []) ∷ (0 ∷ []) ∷ (0 ∷ []) ∷ (0 ∷ 0 ∷ []) ∷ [];
    }

-- the pair of the resting site
abbrev pub pair_resting : Pair
pair_resting = record { leaves = Covered 0 0 ∷ []; replies = [] ∷ [] }

-- the pair of floor B with rank 0 at its first doubted state, and with rank 3, more than there are doubted states, at
-- the confirmed one
abbrev pub low_rank_b : Pair
low_rank_b =
    record {
      leaves = Covered 0 0 ∷ Covered 1 0 ∷ Covered 0 0 ∷ Open 0 0 ∷ [];
      replies = pair_b.replies;
    }

abbrev pub high_rank_b : Pair
high_rank_b =
    record {
      leaves = Covered 0 3 ∷ Covered 1 0 ∷ Covered 0 1 ∷ Open 0 0 ∷ [];
      replies = pair_b.replies;
    }

-- The list: what is read of floor B and what is not; the planned pairs of the small floors, and a listing; how drift sites are split;
-- pairs that are refused; and a run on floor B, placed at 2, in which events 1, 1 and 0 come and an objection is refused.
abbrev pub examples : List Example
examples =
    Unread (take 42 bytes_b) 1 40
    ∷ Unread (bytes_b ++ 0 ∷ []) 8 43
    ∷ Planned (floor bytes_b) pair_b 3 1
    ∷ Planned (floor bytes_a) pair_a 0 3
    ∷ Planned (floor bytes_c) pair_c 1 1
    ∷ Planned (floor bytes_late) pair_late 0 4
    ∷ Planned resting pair_resting 1 0
    ∷ Listed (floor bytes_b) pair_b lines_b
    ∷ Split (drift 4 2) 53 28
    ∷ Split (drift 4 3) 70 0
    ∷ Faulty (floor bytes_b) low_rank_b 13 2
    ∷ Faulty (floor bytes_b) high_rank_b 11 0
    ∷ Played (floor bytes_b) pair_b
    (Place 2 ∷ Objection 0 ∷ Book 1 ∷ Book 1 ∷ Book 0 ∷ [])
    (Ok 2 ∷ refuse 17 2 ∷ Ok 1 ∷ Ok 1 ∷ Ok 0 ∷ [])
    (0 ∷ 1 ∷ 1 ∷ 2 ∷ [])
    (Placed 0 1 0 0)
    ∷ []
