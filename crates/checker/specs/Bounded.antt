-- The bounds of the numbers in leaves: how many states have each grade.
use Rattle.std.specs.Prelude.{◌≡◌}
use Rattle.site.specs.Arena.{Arena, graded}
use Rattle.checker.specs.declared.bounding.Bounds.{Bounds}

-- b counts the states of each grade
pub record Bounded (m : Arena) (b : Bounds) : Type 0 where
  pub confirmed : b.confirmed ≡ graded m 0
  pub doubted : b.doubted ≡ graded m 1
  pub ordinary : b.ordinary ≡ graded m 2
