-- The listing of a planned site, byte by byte.
use Rattle.std.specs.Prelude.{◌≡◌, ℕ, zero, suc, List, ◌++◌, Result}
use Rattle.site.specs.Arena.{Arena}
use Rattle.planner.specs.Planned.{numbers, parts_counted}
use Rattle.records.specs.Lines.{head_text, state_text}
use Rattle.desk.specs.Made.{Done}
use Rattle.desk.specs.PlannedSites.{own_leaves, own_replies}
use Rattle.desk.specs.declared.failures.Failure.{Failure}

-- text was added behind what was there, or memory was wanting; nothing is refused
abbrev pub AddedTo : List ℕ → List ℕ → List ℕ → Result (Unit {0}) Failure → Type 0
AddedTo before text after r = Done (λ _. after ≡ before ++ text) r

-- the head line of the planned site, and then the lines of its first k states
abbrev pub lines_to : Arena → ℕ → List ℕ
lines_to m zero =
    head_text m.states (parts_counted (numbers m) m.states).covered (parts_counted (numbers m) m.states).«open»
lines_to m (suc k) = lines_to m k ++ state_text m (own_leaves m) (own_replies m) k

-- the whole listing
abbrev pub listing : Arena → List ℕ
listing m = lines_to m m.states
