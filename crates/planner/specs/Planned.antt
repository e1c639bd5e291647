-- What planning answers and writes: the leaves and replies that go with the covered part and the numbers of a site.
use Rattle.parts.specs.Regions as regions
use Rattle.std.specs.Prelude.{◌≡◌, ℕ, ◌*◌, Bool, true, cond, not, ◌&&◌, List, length, drop, Ok, Result, ◌≢◌, nat_le, nat_lt}
use Rattle.site.specs.Arena.{Arena}
use Rattle.site.specs.Counting.{count}
use Rattle.site.specs.Refusals.{Refusal, unless}
use Rattle.checker.specs.declared.leaves.Counts.{Counts}
use Rattle.checker.specs.declared.leaves.Leaf.{Leaf}
use Rattle.planner.specs.Choices.{Numbers, leaves_written, replies_written}

-- the numbers of a site: a state is covered if it lies in the covered part, with its rank; else it has a first and a
-- second number
abbrev pub numbers : Arena → Numbers
numbers m =
    record {
      covered = regions.has (regions.covered m);
      rank = regions.rank m;
      first = regions.first m;
      second = regions.second m;
    }

-- how many of the first k states are covered and how many open
abbrev pub parts_counted : Numbers → ℕ → Counts
parts_counted p k = record { covered = count p.covered k; «open» = count (λ s. not (p.covered s)) k }

-- the slices are long enough for planning: N leaves, 16 N replies, 4 N numbers of work
abbrev pub roomy : Arena → ℕ → ℕ → ℕ → Bool
roomy m leaves replies work =
    nat_le m.states leaves && (nat_le (16 * m.states) replies && nat_le (4 * m.states) work)

-- the answer: 9 for the first slice that is short, else how many states are covered and open
abbrev pub planned_answer : Arena → ℕ → ℕ → ℕ → Result Counts Refusal
planned_answer m leaves replies work =
    unless (nat_lt leaves m.states) 9 m.states
    (unless (nat_lt replies (16 * m.states)) 9 (16 * m.states)
    (unless (nat_lt work (4 * m.states)) 9 (4 * m.states) (Ok (parts_counted (numbers m) m.states))))

-- the leaves after planning: those of the N states, and beyond them what was there
abbrev pub planned_leaves : Arena → List Leaf → ℕ → ℕ → List Leaf
planned_leaves m leaves replies work =
    cond (roomy m (length leaves) replies work) (leaves_written m (numbers m) m.states leaves) leaves

-- the replies after planning: those of the open states, and at all other places what was there
abbrev pub planned_replies : Arena → ℕ → List ℕ → ℕ → List ℕ
planned_replies m leaves replies work =
    cond (roomy m leaves (length replies) work) (replies_written m (numbers m) m.states replies) replies

-- the work slice after planning: past its first 4 N numbers it is what it was, and wholly so where a slice is short
pub record WorkKept (m : Arena) (leaves replies : ℕ) (before after : List ℕ) : Type 0 where
  pub beyond : drop (4 * m.states) after ≡ drop (4 * m.states) before
  pub refused : (roomy m leaves replies (length before) ≢ true) → after ≡ before
