-- The law of runs by accepted leaves and replies, and that all accepted ones cover the same states.
use Rattle.std.specs.Prelude.{◌≡◌, ℕ, ◌+◌, ◌<◌, ◌≤◌, true, false, List, ◌++◌, length, is_ok, Some, Decides}
use Rattle.site.specs.Arena.{Arena, graded}
use Rattle.checker.specs.declared.leaves.Leaf.{Leaf}
use Rattle.checker.specs.declared.runs.Run.TheVariants.{Blank}
use Rattle.checker.specs.declared.calls.Call.{Call}
use Rattle.checker.specs.declared.calls.Call.TheVariants.{Book, Objection}
use Rattle.checker.specs.Leaves.{leaf_at, is_covered}
use Rattle.checker.specs.Rounds.{answer, state_of}
use Rattle.checker.specs.Runs.{latest, origin, many, has_grade, ran, recorded, left_by, unplaced}
use Rattle.checker.specs.Witness.{Accepted}

-- vs are states of the run that came one after the other
pub record Stretch (run vs : List ℕ) : Type 0 where
  pub newer : List ℕ
  pub older : List ℕ
  pub whole : run ≡ newer ++ (vs ++ older)

-- A run that was placed in a covered state: a book round for an event of its state is never refused, and
-- a stretch of it without a confirmed state has at most as many doubted ones as the site has in all.
pub record OnTheBook (m : Arena) (leaves : List Leaf) (replies : List ℕ) (run : List ℕ) : Type 0 where
  pub goes_on : (v b : ℕ) → latest run ≡ Some v → b < m.events v → is_ok (answer m leaves replies (latest run) (Book b)) ≡ true
  pub few_doubts : (vs : List ℕ) → Stretch run vs → many (has_grade m 0) vs ≡ 0 → many (has_grade m 1) vs ≤ graded m 1

-- A run that was placed in an open state: an objection round for a command of its state is never refused,
-- it passes at most as many confirmed states as the site has in all, and one state more in a row than the
-- site has ordinary ones includes a confirmed or a doubted one.
pub record OnTheObjection (m : Arena) (leaves : List Leaf) (replies : List ℕ) (run : List ℕ) : Type 0 where
  pub goes_on : (v a : ℕ) → latest run ≡ Some v → a < m.commands v → is_ok (answer m leaves replies (latest run) (Objection a)) ≡ true
  pub few_confirmations : many (has_grade m 0) run ≤ graded m 0
  pub short_rows : (vs : List ℕ) → Stretch run vs → length vs ≡ graded m 2 + 1 → 1 ≤ many (has_grade m 0) vs + many (has_grade m 1) vs

-- The promises to the run that a list of calls makes, by the part in which it was placed.
pub record Kept (m : Arena) (leaves : List Leaf) (replies : List ℕ) (calls : List Call) : Type 0 where
  pub covered : (s : ℕ) → origin (ran m leaves replies calls) ≡ Some s → is_covered (leaf_at leaves s) ≡ true → OnTheBook m leaves replies (ran m leaves replies calls)
  pub uncovered : (s : ℕ) → origin (ran m leaves replies calls) ≡ Some s → is_covered (leaf_at leaves s) ≡ false → OnTheObjection m leaves replies (ran m leaves replies calls)

-- The calls and the run agree: the calls leave of a blank record what belongs to the run, any further call
-- is answered from the record as it is from the run, and the record is blank exactly while no placing has
-- been accepted.
pub record Agrees (m : Arena) (leaves : List Leaf) (replies : List ℕ) (calls : List Call) : Type 0 where
  pub record_is : left_by m leaves replies calls ≡ recorded m (ran m leaves replies calls)
  pub answer_is : (call : Call) → answer m leaves replies (state_of (left_by m leaves replies calls)) call ≡ answer m leaves replies (latest (ran m leaves replies calls)) call
  pub blank_while : Decides (unplaced m calls) (left_by m leaves replies calls ≡ Blank)

-- The law of runs: for any leaves, replies and list of calls the record is the run's; and where the leaves
-- and replies are accepted, the run keeps the promises of its part.
abbrev pub RunLaw : Arena → Type 0
RunLaw m =
    (leaves : List Leaf) (replies : List ℕ) (calls : List Call) → Agrees m leaves replies calls × (Accepted m leaves replies → Kept m leaves replies calls)

-- Whatever leaves and replies are accepted, they cover the same states.
abbrev pub SameCover : Arena → Type 0
SameCover m =
    (leaves : List Leaf) (replies : List ℕ) (leaves' : List Leaf) (replies' : List ℕ) → Accepted m leaves replies → Accepted m leaves' replies' → (s : ℕ) → s < m.states → is_covered (leaf_at leaves s) ≡ is_covered (leaf_at leaves' s)
