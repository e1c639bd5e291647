-- The run that a list of calls makes, worked out from the calls alone, and the record that belongs to it.
use Rattle.std.specs.Prelude.{ℕ, ◌+◌, Bool, true, cond, not, ◌&&◌, List, [], ◌∷◌, length, Some, None, Ok, Err, Option, Result, ◌==◌, nat_le}
use Rattle.site.specs.Arena.{Arena}
use Rattle.site.specs.Refusals.{Refusal}
use Rattle.checker.specs.declared.leaves.Leaf.{Leaf}
use Rattle.checker.specs.declared.runs.Run.{Run}
use Rattle.checker.specs.declared.runs.Run.TheVariants.{Blank, Placed}
use Rattle.checker.specs.declared.calls.Call.{Call}
use Rattle.checker.specs.declared.calls.Call.TheVariants.{Place, Book, Objection}
use Rattle.checker.specs.Rounds.{answer, after_call, state_of, capped}

-- A run is the list of its states, the latest first; it is empty before the first accepted placing.

-- the run's state: its latest one
abbrev pub latest : List ℕ → Option ℕ
latest [] = None
latest (v ∷ older) = Some v

-- the state where the run was placed
abbrev pub origin : List ℕ → Option ℕ
origin [] = None
origin (v ∷ []) = Some v
origin (v ∷ (w ∷ older)) = origin (w ∷ older)

-- the run after a call with this answer: an accepted placing begins a new run with its state alone, an
-- accepted round adds the state reached, and a refused call adds nothing
abbrev pub extended : Result ℕ Refusal → List ℕ → Call → List ℕ
extended (Err e) run call = run
extended (Ok s) run (Place p) = s ∷ []
extended (Ok t) run (Book b) = t ∷ run
extended (Ok t) run (Objection a) = t ∷ run

-- the run after one more call, which is answered from the run's state
abbrev pub next_run : Arena → List Leaf → List ℕ → List ℕ → Call → List ℕ
next_run m leaves replies run call = extended (answer m leaves replies (latest run) call) run call

-- the run of a list of calls that goes on from a run
unfoldable pub ran_from : Arena → List Leaf → List ℕ → List ℕ → List Call → List ℕ
ran_from m leaves replies run [] = run
ran_from m leaves replies run (call ∷ calls) = ran_from m leaves replies (next_run m leaves replies run call) calls

-- the run of a list of calls
abbrev pub ran : Arena → List Leaf → List ℕ → List Call → List ℕ
ran m leaves replies calls = ran_from m leaves replies [] calls

-- the answers to calls that go on from a run: each from the state of the run before it
unfoldable pub answers_from : Arena → List Leaf → List ℕ → List ℕ → List Call → List (Result ℕ Refusal)
answers_from m leaves replies run [] = []
answers_from m leaves replies run (call ∷ calls) =
    answer m leaves replies (latest run) call ∷ answers_from m leaves replies (next_run m leaves replies run call) calls

-- the answers to a list of calls
abbrev pub answers_to : Arena → List Leaf → List ℕ → List Call → List (Result ℕ Refusal)
answers_to m leaves replies calls = answers_from m leaves replies [] calls

-- how many states of a list pass a test; a state counts each time it comes
abbrev pub many : (ℕ → Bool) → List ℕ → ℕ
many p [] = 0
many p (v ∷ vs) = cond (p v) 1 0 + many p vs

-- the longest front of a list whose states all pass a test
abbrev pub front : (ℕ → Bool) → List ℕ → List ℕ
front p [] = []
front p (v ∷ vs) = cond (p v) (v ∷ front p vs) []

-- whether the state v has the grade g
abbrev pub has_grade : Arena → ℕ → ℕ → Bool
has_grade m g v = m.grade v == g

-- the confirmed states of a run
abbrev pub confirmations : Arena → List ℕ → ℕ
confirmations m run = many (has_grade m 0) run

-- its doubted states since the last confirmed one
abbrev pub doubts : Arena → List ℕ → ℕ
doubts m run = many (has_grade m 1) (front (λ v. not (has_grade m 0 v)) run)

-- its ordinary states in a row at its end
abbrev pub row : Arena → List ℕ → ℕ
row m run = length (front (has_grade m 2) run)

-- The record that belongs to a run: blank before the first placing, and then its state and its counts.
abbrev pub recorded : Arena → List ℕ → Run
recorded m [] = Blank
recorded m (v ∷ older) = Placed v (capped (confirmations m (v ∷ older))) (capped (doubts m (v ∷ older))) (capped (row m (v ∷ older)))

-- the record that the calls leave, one after another, when they begin from this record
unfoldable pub left_from : Arena → List Leaf → List ℕ → Run → List Call → Run
left_from m leaves replies run [] = run
left_from m leaves replies run (call ∷ calls) =
    left_from m leaves replies (after_call m (answer m leaves replies (state_of run) call) run call) calls

-- the record that a list of calls leaves of a blank one
abbrev pub left_by : Arena → List Leaf → List ℕ → List Call → Run
left_by m leaves replies calls = left_from m leaves replies Blank calls

-- none of the calls is an accepted placing: each placing is at a number that is no state
abbrev pub unplaced : Arena → List Call → Bool
unplaced m [] = true
unplaced m (Place s ∷ calls) = nat_le m.states s && unplaced m calls
unplaced m (Book b ∷ calls) = unplaced m calls
unplaced m (Objection a ∷ calls) = unplaced m calls
