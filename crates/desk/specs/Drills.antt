-- Calls played on a planned site: what each answers, the states of the run, and its record.
use Rattle.std.specs.Prelude.{◌≡◌, ℕ, List, [], ◌∷◌, ◌++◌, map, reverse, vec_items, Result}
use Rattle.std.specs.Global.{Vec}
use Rattle.site.specs.Arena.{Arena}
use Rattle.site.specs.Refusals.{Refusal, answered}
use Rattle.checker.specs.Runs.{answers_to, extended, ran, recorded}
use Rattle.checker.specs.declared.calls.Call.{Call}
use Rattle.checker.specs.declared.calls.Call.TheVariants.{Place, Book, Objection}
use Rattle.desk.specs.Made.{Done}
use Rattle.desk.specs.PlannedSites.{own_leaves, own_replies}
use Rattle.desk.specs.declared.drills.Drill.{Drill}
use Rattle.desk.specs.declared.failures.Failure.{Failure}

-- the run that calls with these answers make, the latest state first, when it goes on from a run
abbrev pub told_from : List ℕ → List Call → List (Result ℕ Refusal) → List ℕ
told_from run [] answers = run
told_from run (call ∷ calls) [] = run
told_from run (call ∷ calls) (answer ∷ answers) = told_from (extended answer run call) calls answers

-- states in new memory, the first first, or want of memory
abbrev pub StatesOf : List ℕ → Result (Vec ℕ) Failure → Type 0
StatesOf run r = Done (λ v. vec_items v ≡ reverse run) r

-- the states of a run, the first first, with one more that a call reached: a placing begins anew, and a round goes on
abbrev pub longer : Call → ℕ → List ℕ → List ℕ
longer (Place p) s states = s ∷ []
longer (Book b) s states = states ++ s ∷ []
longer (Objection a) s states = states ++ s ∷ []

-- the state was added, or memory was wanting
abbrev pub ReachedBy : Call → ℕ → List ℕ → List ℕ → Result (Unit {0}) Failure → Type 0
ReachedBy call s before after r = Done (λ _. after ≡ longer call s before) r

-- the calls were played by the site's planned pair, or memory was wanting; nothing is refused
abbrev pub DrillOf : Arena → List Call → Result Drill Failure → Type 0
DrillOf m calls r =
    Done (λ d. (map answered (vec_items d.answers) ≡ answers_to m (own_leaves m) (own_replies m) calls)
    × (vec_items d.states ≡ reverse (ran m (own_leaves m) (own_replies m) calls))
    × (d.«record» ≡ recorded m (ran m (own_leaves m) (own_replies m) calls))) r
