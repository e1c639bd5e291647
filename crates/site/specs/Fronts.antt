-- The front of a list, as `&xs[..n]` lends it.
use Rattle.std.specs.Prelude.{◌≡◌, ℕ, ◌-◌, ◌<◌, List, length, take, slice_index_or}
use Rattle.std.specs.List.{slice_range}
use Rattle.std.proofs.Common.{ap, ◌∙◌, arith, length-take}
use Rattle.std.proofs.lemmas.List.{get_or-take}

-- an index of the front is below its end
pub front_below : {X : Type 0} (xs : List X) (n i : ℕ) → i < length (take (n - 0) xs) → i < n
front_below xs n i h = omega (arith, simp length-take at h)

-- and reads what the list has there
pub front_read : {X : Type 0} (xs : List X) (n i : ℕ) (d : X) → i < length (take (n - 0) xs) → slice_index_or (take (n - 0) xs) i d ≡ slice_index_or xs i d
front_read xs n i d h = let lt : i < n - 0 = omega (arith, simp length-take at h) in get_or-take (n - 0) xs i d lt

-- a part that begins at 0 is the front
pub front_is : {X : Type 0} (n : ℕ) (xs ys : List X) → ys ≡ slice_range xs 0 n → ys ≡ take n xs
front_is n xs ys e = let here : n - 0 ≡ n = omega arith in e ∙ ap (λ k. take k xs) here
