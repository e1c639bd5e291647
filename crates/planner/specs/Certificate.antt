-- What the certificate of a site rests on.
use Rattle.std.specs.Prelude.{◌≡◌, ℕ, ◌*◌, ◌<◌, ◌≤◌, List, length}
use Rattle.site.specs.Arena.{Arena}
use Rattle.checker.specs.Leaves.{leaf_at, is_covered}
use Rattle.checker.specs.RunLaws.{RunLaw, SameCover}
use Rattle.checker.specs.Witness.{Accepted}
use Rattle.checker.specs.declared.leaves.Leaf.{Leaf}
use Rattle.parts.specs.Regions.{has, covered}
use Rattle.parts.specs.Words.{Words}
use Rattle.planner.specs.Choices.{leaves_written, replies_written}
use Rattle.planner.specs.Planned.{numbers}

-- The whole promise for the site that m means.
pub record Certificate (m : Arena) : Type 0 where
  -- For every list of placings, book rounds and objection rounds from a blank record, in any mixture, each call
  -- answers by the rules and the record is the run's; and by an accepted pair a run placed in a covered state keeps
  -- the book's promises, one placed in an open state the objection's.
  pub runs : RunLaw m
  -- Planning in slices that are long enough writes a pair that is accepted.
  pub planned : (leaves : List Leaf) (replies : List ℕ) → m.states ≤ length leaves → 16 * m.states ≤ length replies → Accepted m (leaves_written m (numbers m) m.states leaves) (replies_written m (numbers m) m.states replies)
  -- Every accepted pair covers exactly the covered part, so that all cover the same states.
  pub part : (leaves : List Leaf) (replies : List ℕ) → Accepted m leaves replies → (s : ℕ) → s < m.states → is_covered (leaf_at leaves s) ≡ has (covered m) s
  pub cover : SameCover m
  -- The covered part, its levels and the stages of the open states are the fixed points that their words ask for.
  pub words : Words m
