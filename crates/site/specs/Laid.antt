-- What a slice holds after entries were written over it.
use Rattle.std.specs.Prelude.{ℕ, suc, List, [], ◌∷◌, slice_set}

-- ys with the entries xs written over it from place `at` on; all other places are as they were,
-- and what would fall past the end is not written
unfoldable pub laid : {X : Type 0} → ℕ → List X → List X → List X
laid at [] ys = ys
laid at (x ∷ xs) ys = laid (suc at) xs (slice_set ys at x)
