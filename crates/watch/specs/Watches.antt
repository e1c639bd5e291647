-- What a watch means: positions that turn with the grades of the site below, and the grades that it shows.
use Rattle.std.specs.Prelude.{ℕ, ◌+◌, ◌*◌, Bool, ◌&&◌, List, ◌∷◌, replicate, nat_le, nat_lt, slice_index}
use Rattle.site.specs.Counting.{every}

-- a watch of so many positions; the entry for position p and grade g stands at p × 3 + g
pub record Dial : Type 0 where
  pub positions : ℕ
  pub turns : List ℕ
  pub shows : List ℕ

-- the watch that is set from a number of positions and two sheets of entries
abbrev pub entries : ℕ → List ℕ → List ℕ → Dial
entries m turns shows = record { positions = m; turns = turns; shows = shows }

-- where the watch goes from position p over a state of grade g
abbrev pub turn : Dial → ℕ → ℕ → ℕ
turn w p g = slice_index w.turns (p * 3 + g)

-- what it shows there
abbrev pub show : Dial → ℕ → ℕ → ℕ
show w p g = slice_index w.shows (p * 3 + g)

-- an entry turns to a position of the watch and shows one of the three grades
abbrev pub entry_fair : Dial → ℕ → Bool
entry_fair w i = nat_lt (slice_index w.turns i) w.positions && nat_le (slice_index w.shows i) 2

-- the ranges of watches: 1 to 8 positions, and three fair entries for each of them; entries beyond those are not looked at
abbrev pub watch_range : Dial → Bool
watch_range w = nat_le 1 w.positions && (nat_le w.positions 8 && every (entry_fair w) (3 * w.positions))

-- the clear watch: one position, which shows every grade as it is
abbrev pub clear : Dial
clear = record { positions = 1; turns = replicate 24 0; shows = 0 ∷ 1 ∷ 2 ∷ replicate 21 0 }
