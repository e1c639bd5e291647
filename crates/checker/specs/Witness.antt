-- The rules that leaves and replies have to keep, state by state.
use Rattle.std.specs.Prelude.{◌≡◌, ℕ, ◌*◌, ◌<◌, ◌≤◌, not, List, length}
use Rattle.site.specs.Arena.{Arena, graded}
use Rattle.site.specs.Counting.{count}
use Rattle.checker.specs.declared.leaves.Leaf.{Leaf}
use Rattle.checker.specs.declared.leaves.Leaf.TheVariants.{Covered, Open}
use Rattle.checker.specs.Leaves.{leaf_at, reply_at, is_covered}

-- From a state of grade g and rank r an arrow leads to the rank r': below r from a doubted state,
-- not above it from an ordinary one, and anywhere from a confirmed one.
abbrev pub RankKept : ℕ → ℕ → ℕ → Type 0
RankKept g r r' = (g ≡ 1 → r' < r) × (g ≡ 2 → r' ≤ r)

-- From a state of grade g with the numbers u and w an arrow leads to u' and w': u falls at a confirmed
-- state and never rises, and at an ordinary one w falls where u stays.
abbrev pub NumbersKept : ℕ → ℕ → ℕ → ℕ → ℕ → Type 0
NumbersKept g u w u' w' = (g ≡ 0 → u' < u) × (g ≡ 1 → u' ≤ u) × (g ≡ 2 → (u' ≤ u) × (u' ≡ u → w' < w))

-- an arrow from a covered state leads to a covered one, by the rule of ranks
abbrev pub StaysCovered : ℕ → ℕ → Leaf → Type 0
StaysCovered g r (Covered a r') = RankKept g r r'
StaysCovered g r (Open u w) = ⊥

-- an arrow from an open state leads to an open one, by the rule of the two numbers
abbrev pub StaysOpen : ℕ → ℕ → ℕ → Leaf → Type 0
StaysOpen g u w (Covered a r) = ⊥
StaysOpen g u w (Open u' w') = NumbersKept g u w u' w'

-- The rule of a covered leaf with command a and rank r at state s: the command is the state's own,
-- the rank is at most the number of doubted states, and every event leads on by the rule.
pub record KeepsCovered (m : Arena) (leaves : List Leaf) (s a r : ℕ) : Type 0 where
  pub own : a < m.commands s
  pub bounded : r ≤ graded m 1
  pub stays : (b : ℕ) → b < m.events s → StaysCovered (m.grade s) r (leaf_at leaves (m.next s a b))

-- The rule of an open leaf with the numbers u and w at state s: u is at most the number of confirmed
-- states and w that of ordinary ones, and every command has a reply that is an event of the state and
-- leads on by the rule.
pub record KeepsOpen (m : Arena) (leaves : List Leaf) (replies : List ℕ) (s u w : ℕ) : Type 0 where
  pub bounded_first : u ≤ graded m 0
  pub bounded_second : w ≤ graded m 2
  pub own : (a : ℕ) → a < m.commands s → reply_at replies s a < m.events s
  pub stays : (a : ℕ) → a < m.commands s → StaysOpen (m.grade s) u w (leaf_at leaves (m.next s a (reply_at replies s a)))

-- state s keeps the rule of the leaf that is given for it
abbrev pub Keeps : Arena → List Leaf → List ℕ → ℕ → Leaf → Type 0
Keeps m leaves replies s (Covered a r) = KeepsCovered m leaves s a r
Keeps m leaves replies s (Open u w) = KeepsOpen m leaves replies s u w

-- Leaves and replies are accepted: there are enough of both, and every state keeps the rule of its leaf.
pub record Accepted (m : Arena) (leaves : List Leaf) (replies : List ℕ) : Type 0 where
  pub enough_leaves : m.states ≤ length leaves
  pub enough_replies : 16 * m.states ≤ length replies
  pub keeps : (s : ℕ) → s < m.states → Keeps m leaves replies s (leaf_at leaves s)

-- how many states are covered
abbrev pub covered_count : Arena → List Leaf → ℕ
covered_count m leaves = count (λ s. is_covered (leaf_at leaves s)) m.states

-- how many states are open
abbrev pub open_count : Arena → List Leaf → ℕ
open_count m leaves = count (λ s. not (is_covered (leaf_at leaves s))) m.states
