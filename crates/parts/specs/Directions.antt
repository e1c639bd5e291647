-- The order in which a sweep goes over the states.
use Rattle.std.specs.Prelude.{ℕ, ◌-◌}
use Rattle.parts.specs.declared.directions.Direction.{Direction}
use Rattle.parts.specs.declared.directions.Direction.TheVariants.{Up, Down}

-- the state that comes after k others of n
abbrev pub visit : Direction → ℕ → ℕ → ℕ
visit Up n k = k
visit Down n k = n - 1 - k
