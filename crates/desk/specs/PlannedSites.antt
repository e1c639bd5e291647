-- A planned site in memory of its own.
use Rattle.std.specs.Prelude.{◌≡◌, ℕ, ◌*◌, List, replicate, vec_items, Result}
use Rattle.site.specs.Arena.{Arena}
use Rattle.checker.specs.declared.leaves.Leaf.{Leaf}
use Rattle.checker.specs.declared.leaves.Leaf.TheVariants.{Open}
use Rattle.planner.specs.Choices.{leaves_written, replies_written}
use Rattle.planner.specs.Planned.{numbers, parts_counted}
use Rattle.records.specs.BookWritten.{book_bytes}
use Rattle.desk.specs.Made.{Done}
use Rattle.desk.specs.declared.failures.Failure.{Failure}
use Rattle.desk.specs.declared.planned.Plan.{Plan}

-- the planned leaves, in memory of their own
abbrev pub own_leaves : Arena → List Leaf
own_leaves m = leaves_written m (numbers m) m.states (replicate m.states (Open 0 0))

-- the planned replies, with 0 at all places that planning does not write
abbrev pub own_replies : Arena → List ℕ
own_replies m = replies_written m (numbers m) m.states (replicate (16 * m.states) 0)

-- the book of the planned leaves and replies
abbrev pub own_book : Arena → List ℕ
own_book m = book_bytes m (own_leaves m) (own_replies m)

-- a plan of the site, or want of memory; nothing is refused
abbrev pub PlanOf : Arena → Result Plan Failure → Type 0
PlanOf m r =
    Done (λ p. (vec_items p.leaves ≡ own_leaves m) × (vec_items p.replies ≡ own_replies m) × (p.counts ≡ parts_counted (numbers m) m.states)) r
