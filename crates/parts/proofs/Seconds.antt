-- The second numbers, stage after stage.
use Rattle.std.proofs.Common.{◌≡◌, ℕ, ◌<◌, true, false, List}
use Rattle.site.specs.Arena.{Arena}
use Rattle.parts.specs.Lifting.{at}
use Rattle.parts.specs.Regions.{has, covered, first, second}

-- the second numbers after the stages below i
pub record Staged (m : Arena) (i : ℕ) (seconds : List ℕ) : Type 0 where
  pub kept : (s : ℕ) → s < m.states → has (covered m) s ≡ true → at seconds s ≡ 0
  pub numbered : (s : ℕ) → s < m.states → has (covered m) s ≡ false → first m s < i → at seconds s ≡ second m s
