-- Laws of entries written over a slice.
use Rattle.std.proofs.Common.{◌≡◌, ℕ, zero, suc, ◌+◌, ◌<◌, ◌≤◌, ◌≢◌, List, [], ◌∷◌, ◌++◌, length, get_or, take, drop, set, refl, ◌∙◌, add-zero, add-suc, suc-add, zero-add, arith, length-set}
use Rattle.std.proofs.lemmas.List.{get_or-set_same, get_or-set_other, take-append-drop, take-set-le, drop-set-add}
use Rattle.std.proofs.lemmas.List.Edits.{sets, sets-eq}
use Rattle.site.specs.Laid.{laid}

module _ {X : Type 0} where
  pub laid_none : (at : ℕ) (ys : List X) → laid at [] ys ≡ ys
  unfolding laid
  laid_none at ys = refl

  -- one entry
  pub laid_one : (at : ℕ) (x : X) (ys : List X) → laid at (x ∷ []) ys ≡ set ys at x
  unfolding laid
  laid_one at x ys = refl

  pub length_laid : (at : ℕ) (xs ys : List X) → length (laid at xs ys) ≡ length ys
  unfolding laid
  length_laid at [] ys = refl
  length_laid at (x ∷ xs) ys = length_laid (suc at) xs (set ys at x) ∙ length-set ys at x

  -- two runs of entries, one after the other
  pub laid_append : (at : ℕ) (xs zs ys : List X) → laid at (xs ++ zs) ys ≡ laid (at + length xs) zs (laid at xs ys)
  unfolding laid
  laid_append at [] zs ys = rw add-zero refl
  laid_append at (x ∷ xs) zs ys = rw (add-suc, ← suc-add) (laid_append (suc at) xs zs (set ys at x))

  -- one entry more
  pub laid_push : (at : ℕ) (xs : List X) (x : X) (ys : List X) → laid at (xs ++ x ∷ []) ys ≡ set (laid at xs ys) (at + length xs) x
  laid_push at xs x ys = laid_append at xs (x ∷ []) ys ∙ laid_one (at + length xs) x (laid at xs ys)

  -- a place before the entries
  pub laid_before : (at : ℕ) (xs ys : List X) (k : ℕ) (d : X) → k < at → get_or (laid at xs ys) k d ≡ get_or ys k d
  unfolding laid
  laid_before at [] ys k d lt = refl
  laid_before at (x ∷ xs) ys k d lt =
      let ne : k ≢ at = omega arith in
      laid_before (suc at) xs (set ys at x) k d (omega arith) ∙ get_or-set_other ys at k x d ne

  -- a place past the entries
  pub laid_past : (at : ℕ) (xs ys : List X) (k : ℕ) (d : X) → at + length xs ≤ k → get_or (laid at xs ys) k d ≡ get_or ys k d
  unfolding laid
  laid_past at [] ys k d le = refl
  laid_past at (x ∷ xs) ys k d le =
      let ne : k ≢ at = omega arith in
      laid_past (suc at) xs (set ys at x) k d (omega arith) ∙ get_or-set_other ys at k x d ne

  -- a place among the entries
  pub laid_within : (at : ℕ) (xs ys : List X) (i : ℕ) (d : X) → i < length xs → at + length xs ≤ length ys → get_or (laid at xs ys) (at + i) d ≡ get_or xs i d
  unfolding laid
  laid_within at [] ys i d lt le = absurd (omega arith)
  laid_within at (x ∷ xs) ys zero d lt le =
      rw add-zero (laid_before (suc at) xs (set ys at x) at d (omega arith) ∙ get_or-set_same ys at x d (omega arith))
  laid_within at (x ∷ xs) ys (suc i) d lt le =
      rw (add-suc, ← suc-add) (laid_within (suc at) xs (set ys at x) i d (omega arith) (rw length-set (omega arith)))

  laid_sets : (at : ℕ) (xs ys : List X) → laid at xs ys ≡ sets ys at xs
  unfolding laid
  laid_sets at [] ys = refl
  laid_sets at (x ∷ xs) ys = laid_sets (suc at) xs (set ys at x)

  -- entries that all lie within the slice
  pub laid_is : (at : ℕ) (xs ys : List X) → at + length xs ≤ length ys → laid at xs ys ≡ take at ys ++ xs ++ drop (at + length xs) ys
  laid_is at xs ys le = laid_sets at xs ys ∙ sets-eq xs ys at le

  -- entries at the front
  pub laid_whole : (xs ys : List X) → length xs ≤ length ys → laid 0 xs ys ≡ xs ++ drop (length xs) ys
  laid_whole xs ys le = laid_is 0 xs ys (omega arith) ∙ rw zero-add refl

module _ {X : Type 0} where
  -- entries written over the part of a slice from k on
  pub laid_part : (k j : ℕ) (ys xs : List X) → k ≤ length xs → take k xs ++ laid j ys (drop k xs) ≡ laid (k + j) ys xs
  unfolding laid
  laid_part k j [] xs le = take-append-drop k xs
  laid_part k j (y ∷ ys) xs le =
      let cut : take k (set xs (k + j) y) ≡ take k xs = take-set-le k xs (k + j) y (omega arith) in
      rw (← drop-set-add k xs j y, ← cut) (laid_part k (suc j) ys (set xs (k + j) y) (rw length-set le) ∙ rw add-suc refl)
