-- What a watch above a site leaves as it is: laws of piles in the subject's words.
use Rattle.std.specs.Prelude.{◌≡◌, ℕ, ◌+◌, ◌*◌, ◌<◌, ◌≤◌, List, [], ◌∷◌, map, slice_index}
use Rattle.site.specs.Arena.{Arena}
use Rattle.watch.specs.Watched.{pile_states, state_below, worn, watched}
use Rattle.watch.specs.Watches.{Dial, turn, show}

-- two sites with the same states, and the same answer to every question
pub record Alike (m n : Arena) : Type 0 where
  pub states : m.states ≡ n.states
  pub grade : (s : ℕ) → m.grade s ≡ n.grade s
  pub commands : (s : ℕ) → m.commands s ≡ n.commands s
  pub events : (s : ℕ) → m.events s ≡ n.events s
  pub next : (s a b : ℕ) → m.next s a b ≡ n.next s a b

-- a watch is clear that has one position and shows every grade as it is
abbrev pub Clear : Dial → Type 0
Clear w = (w.positions ≡ 1) × ((g : ℕ) → g ≤ 2 → show w 0 g ≡ g)

-- a clear watch changes nothing
abbrev pub ClearChangesNothing : Arena → Dial → Type 0
ClearChangesNothing m w = Clear w → Alike m (watched m w)

-- a watch that does not fit changes nothing
abbrev pub UnfitChangesNothing : Arena → Dial → Type 0
UnfitChangesNothing m w = 8192 < pile_states m w → Alike m (watched m w)

-- two watches with the same positions and the same entries for them
abbrev pub SameEntries : Dial → Dial → Type 0
SameEntries w x =
    (w.positions ≡ x.positions)
    × ((i : ℕ) → i < 3 * w.positions → (slice_index w.turns i ≡ slice_index x.turns i) × (slice_index w.shows i ≡ slice_index x.shows i))

-- entries beyond those of the positions have no effect
abbrev pub OwnEntriesCount : Arena → Dial → Type 0
OwnEntriesCount m w = (x : Dial) → SameEntries w x → Alike (watched m w) (watched m x)

-- a pile told by pairs: state v below with the watch w in position p is state v × m + p of the pile, where m is the
-- number of positions. It shows show(p, grade(v)), has the commands and events of v,
-- and leads to next(v, a, b) × m + turn(p, grade(v))
pub record ByPairs (m : Arena) (w : Dial) (pile : Arena) : Type 0 where
  pub states : pile.states ≡ m.states * w.positions
  pub grade : (v p : ℕ) → v < m.states → p < w.positions → pile.grade (v * w.positions + p) ≡ show w p (m.grade v)
  pub commands : (v p : ℕ) → v < m.states → p < w.positions → pile.commands (v * w.positions + p) ≡ m.commands v
  pub events : (v p : ℕ) → v < m.states → p < w.positions → pile.events (v * w.positions + p) ≡ m.events v
  pub next : (v p a b : ℕ) → v < m.states → p < w.positions → a < m.commands v → b < m.events v → pile.next (v * w.positions + p) a b ≡ m.next v a b * w.positions + turn w p (m.grade v)

-- some command and event of state s lead to t
abbrev pub Leads : Arena → ℕ → ℕ → Type 0
Leads m s t =
    (a : ℕ) × ((b : ℕ) × ((a < m.commands s) × ((b < m.events s) × (t ≡ m.next s a b))))

-- a run that has come to state t, after the states ss, the latest first
abbrev pub Run : Arena → ℕ → List ℕ → Type 0
Run m t [] = t < m.states
Run m t (s ∷ ss) = Leads m s t × Run m s ss

-- every run of a pile, seen at the site below, is a run of the site below
abbrev pub RunsAreBelow : Arena → Dial → Type 0
RunsAreBelow m w =
    (t : ℕ) (ss : List ℕ) → Run (watched m w) t ss → Run m (state_below (worn m w) t) (map (state_below (worn m w)) ss)

-- and every run of the site below is seen so: a watch forbids nothing
abbrev pub RunsAreSeen : Arena → Dial → Type 0
RunsAreSeen m w =
    (t : ℕ) (ss : List ℕ) → Run m t ss → (u : ℕ) × ((us : List ℕ) × (Run (watched m w) u us × ((state_below (worn m w) u ≡ t) × (map (state_below (worn m w)) us ≡ ss))))
