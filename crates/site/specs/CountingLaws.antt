-- Laws of tests over the numbers below a bound.
use Rattle.std.specs.Prelude.{◌≡◌, ℕ, zero, suc, ◌+◌, ◌<◌, ◌≤◌, Bool, true, false, ◌&&◌, List, length, take, slice_index_or}
use Rattle.std.specs.List.{list_all}
use Rattle.std.proofs.Common.{add-one, arith, sym, refl, ◌∙◌, ap, inl, inr}
use Rattle.std.proofs.Math.Bool.{and_comm}
use Rattle.std.proofs.lemmas.Bool.{and_parts, and_from, and_left, and_right, cases_eq}
use Rattle.std.proofs.lemmas.List.Folds.{list_all_more}
use Rattle.site.specs.Counting.{every}

-- what holds of every number below n holds of each
pub every_at : (p : ℕ → Bool) (n k : ℕ) → every p n ≡ true → k < n → p k ≡ true
every_at p zero k h lt = absurd (omega arith)
every_at p (suc n) k h lt =
    let both = and_parts (p n) (every p n) h in
    elim (cases_eq k n) [ inl e ↦ ap p e ∙ both.0 | inr ne ↦ every_at p n k both.1 (omega arith) ]

-- one number that fails
pub every_fails : (p : ℕ → Bool) (n k : ℕ) → p k ≡ false → k < n → every p n ≡ false
every_fails p zero k h lt = absurd (omega arith)
every_fails p (suc n) k h lt =
    elim (cases_eq k n) [
      | inl e ↦ and_left (p n) (every p n) (ap p (sym e) ∙ h)
      | inr ne ↦ and_right (p n) (every p n) (every_fails p n k h (omega arith))
    ]

-- one number more
pub every_more : (p : ℕ → Bool) (n : ℕ) → every p n ≡ true → p n ≡ true → every p (n + 1) ≡ true
every_more p n h here = rw add-one (and_from (p n) (every p n) here h)

-- tests that agree below n
pub every_agree : (p q : ℕ → Bool) (n : ℕ) → ((k : ℕ) → k < n → p k ≡ q k) → every p n ≡ every q n
every_agree p q zero h = refl
every_agree p q (suc n) h = rw (h n (omega arith), every_agree p q n (λ k lt. h k (omega arith))) refl

-- every entry of a list's front passes where every number below its end does, by the entry at it
pub every_listed : {X : Type 0} (p : X → Bool) (xs : List X) (d : X) (n : ℕ) → n ≤ length xs → list_all p (take n xs) ≡ every (λ i. p (slice_index_or xs i d)) n
every_listed p xs d zero le = refl
every_listed p xs d (suc n) le =
    rw (← add-one) (list_all_more p xs n d (omega arith))
    ∙ (ap (λ b. b && p (slice_index_or xs n d)) (every_listed p xs d n (omega arith))
    ∙ and_comm (every (λ i. p (slice_index_or xs i d)) n) (p (slice_index_or xs n d)))
