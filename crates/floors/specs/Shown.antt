-- What it means that a worked example is as the rules say.
use Rattle.std.specs.Prelude.{◌≡◌, ℕ, ◌-◌, ◌*◌, List, [], ◌∷◌, ◌++◌, map, length, replicate, Ok, Err, Result}
use Rattle.std.specs.List.{range_with_len}
use Rattle.site.specs.Arena.{Arena}
use Rattle.site.specs.Refusals.{Refusal, refuse}
use Rattle.site.specs.Tables.{made_from, resting}
use Rattle.checker.specs.Checked.{checked}
use Rattle.checker.specs.Runs.{answers_to, ran, recorded}
use Rattle.checker.specs.Witness.{covered_count, open_count}
use Rattle.checker.specs.declared.calls.Call.{Call}
use Rattle.checker.specs.declared.leaves.Counts.{Counts}
use Rattle.checker.specs.declared.leaves.Leaf.{Leaf}
use Rattle.checker.specs.declared.leaves.Leaf.TheVariants.{Open}
use Rattle.checker.specs.declared.runs.Run.{Run}
use Rattle.planner.specs.Planned.{planned_answer, planned_leaves, planned_replies}
use Rattle.records.specs.Lines.{head_text, state_text}
use Rattle.records.specs.TableBytes.{Read, table_in}

-- the site that bytes stand for: the table that is read from them, and the resting site where none is
abbrev pub table_of : Result Read Refusal → Arena
table_of (Ok rd) = made_from (length rd.rows) rd.rows rd.arrows
table_of (Err e) = resting

abbrev pub floor : List ℕ → Arena
floor bytes = table_of (table_in bytes)

-- a reply slice with these replies for each state in turn: sixteen places to a state, 0 where there is none
abbrev pub sheet : List (List ℕ) → List ℕ
sheet [] = []
sheet (events ∷ more) = events ++ (replicate (16 - length events) 0 ++ sheet more)

-- leaves for some states, with the replies of each
pub record Pair : Type 0 where
  pub leaves : List Leaf
  pub replies : List (List ℕ)

-- A worked example.
pub data Example : Type 0 where
  -- bytes that are read as no table, with the number and the place of the refusal
  Unread : List ℕ → ℕ → ℕ → Example
  -- a site and its planned pair, to which the check says yes, with so many covered and open states
  Planned : Arena → Pair → ℕ → ℕ → Example
  -- a site, how many states it has, and how many of them are covered
  Split : Arena → ℕ → ℕ → Example
  -- a site and a pair that the check refuses, with the number and the place
  Faulty : Arena → Pair → ℕ → ℕ → Example
  -- a site and a pair, with the lines that list them
  Listed : Arena → Pair → List (List ℕ) → Example
  -- calls on a site by a pair, with what each answers, the states of the run, the latest first, and its record
  Played : Arena → Pair → List Call → List (Result ℕ Refusal) → List ℕ → Run → Example

-- how many states are covered and how many open
abbrev pub split_in : ℕ → ℕ → Counts
split_in c o = record { covered = c; «open» = o }

-- slices for planning as they are before it: just long enough, with open leaves and replies of 0
abbrev pub blank_leaves : Arena → List Leaf
blank_leaves m = replicate m.states (Open 0 0)

abbrev pub blank_replies : Arena → List ℕ
blank_replies m = replicate (16 * m.states) 0

-- what planning answers in such slices
abbrev pub planning : Arena → Result Counts Refusal
planning m = planned_answer m m.states (16 * m.states) (4 * m.states)

-- planning writes this pair
pub record Plans (m : Arena) (p : Pair) : Type 0 where
  pub leaves_are : planned_leaves m (blank_leaves m) (16 * m.states) (4 * m.states) ≡ p.leaves
  pub replies_are : planned_replies m m.states (blank_replies m) (4 * m.states) ≡ sheet p.replies

-- the calls make this run and leave this record
pub record Plays (m : Arena) (p : Pair) (calls : List Call) (answers : List (Result ℕ Refusal)) (run : List ℕ) (kept : Run) : Type 0 where
  pub answers_are : answers_to m p.leaves (sheet p.replies) calls ≡ answers
  pub run_is : ran m p.leaves (sheet p.replies) calls ≡ run
  pub record_is : recorded m (ran m p.leaves (sheet p.replies) calls) ≡ kept

-- the lines of a listing: the head, and then one for each state
abbrev pub listing : Arena → Pair → List (List ℕ)
listing m p =
    head_text m.states (covered_count m p.leaves) (open_count m p.leaves)
    ∷ map (state_text m p.leaves (sheet p.replies)) (range_with_len 0 m.states)

-- The example is as the rules say.
abbrev pub Shown : Example → Type 0
Shown (Unread bytes n place) = table_in bytes ≡ refuse n place
Shown (Planned m p c o) = (planning m ≡ Ok (split_in c o)) × Plans m p × (checked m p.leaves (sheet p.replies) ≡ Ok (split_in c o))
Shown (Split m n c) = (m.states ≡ n) × (planning m ≡ Ok (split_in c (n - c)))
Shown (Faulty m p n place) = checked m p.leaves (sheet p.replies) ≡ refuse n place
Shown (Listed m p lines) = listing m p ≡ lines
Shown (Played m p calls answers run kept) = Plays m p calls answers run kept

-- each example of a list is as the rules say
abbrev pub Each : List Example → Type 0
Each [] = Unit {0}
Each (e ∷ es) = Shown e × Each es
