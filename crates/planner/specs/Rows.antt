-- The numbers that rows hold.
use Rattle.std.specs.Prelude.{◌≡◌, length}
use Rattle.site.specs.Arena.{Arena}
use Rattle.parts.specs.Lifting.{at, unnumbered}
use Rattle.planner.specs.Choices.{Numbers}
use Rattle.planner.specs.declared.rows.Rows.{Rows}

-- a state without a first number is covered
abbrev pub numbers_in : Rows → Numbers
numbers_in rows =
    record {
      covered = unnumbered rows.firsts.now;
      rank = at rows.ranks.now;
      first = at rows.firsts.now;
      second = at rows.seconds.now;
    }

-- every row has a number for every state
pub record Full (m : Arena) (rows : Rows) : Type 0 where
  pub firsts : length rows.firsts.now ≡ m.states
  pub ranks : length rows.ranks.now ≡ m.states
  pub seconds : length rows.seconds.now ≡ m.states
