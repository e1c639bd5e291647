-- The lowest number that passes a test.
use Rattle.std.proofs.Common.{◌≡◌, ℕ, zero, suc, ◌<◌, ◌≤◌, Bool, true, false, ◌⊎◌, refl, ap, ◌∙◌, inl, inr, arith}
use Rattle.std.proofs.lemmas.Bool.{cases_eq, cases_lt, or_parts, or_from, cases_Bool, both_ways}
use Rattle.site.specs.Counting.{some}
use Rattle.parts.specs.Regions.{lowest}
use Rattle.parts.proofs.Steps.{some_at}

-- none passes
pub lowest_none : (p : ℕ → Bool) (n : ℕ) → some p n ≡ false → lowest p n ≡ n
lowest_none p zero h = refl
lowest_none p (suc n) h =
    let both = or_parts (p n) (some p n) h in rw (both.1, both.0) refl

-- the first that passes
pub lowest_found : (p : ℕ → Bool) (n k : ℕ) → some p k ≡ false → p k ≡ true → k < n → lowest p n ≡ k
lowest_found p zero k none here lt = absurd (omega arith)
lowest_found p (suc n) k none here lt =
    elim (cases_eq k n) [
      | inl e ↦ rw (← e, none, here) refl
      | inr ne ↦
          let below : k < n = omega arith in
          rw (some_at p n k here below) (lowest_found p n k none here below)
    ]

-- none below passes
pub some_not : (p : ℕ → Bool) (n : ℕ) → ((k : ℕ) → k < n → p k ≡ false) → some p n ≡ false
some_not p zero h = refl
some_not p (suc n) h = or_from (p n) (some p n) (h n (omega arith)) (some_not p n (λ k lt. h k (omega arith)))

pub not_some : (p : ℕ → Bool) (n k : ℕ) → some p n ≡ false → k < n → p k ≡ false
not_some p n k h lt =
    elim (cases_Bool (p k)) [
      | inl t ↦ absurd (both_ways (some p n) h (some_at p n k t lt))
      | inr f ↦ f
    ]

-- either none passes, or the lowest that does is known
pub lowest_ways : (p : ℕ → Bool) (n : ℕ) → ((lowest p n ≡ n) × (some p n ≡ false)) ⊎ ((lowest p n < n) × (p (lowest p n) ≡ true) × (some p (lowest p n) ≡ false))
lowest_ways p zero = inl (refl, refl)
lowest_ways p (suc n) =
    elim (lowest_ways p n) [
      | inl none ↦ elim (cases_Bool (p n)) [
        | inl t ↦ let e = lowest_found p (suc n) n none.1 t (omega arith) in inr (omega arith, ap p e ∙ t, ap (some p) e ∙ none.1)
        | inr f ↦ let h = or_from (p n) (some p n) f none.1 in inl (lowest_none p (suc n) h, h)
      ]
      | inr found ↦
          let e = lowest_found p (suc n) (lowest p n) found.2 found.1 (omega (arith, found.0)) in
          inr (omega (arith, e, found.0), ap p e ∙ found.1, ap (some p) e ∙ found.2)
    ]

-- it is at most the bound
pub lowest_le : (p : ℕ → Bool) (n : ℕ) → lowest p n ≤ n
lowest_le p n = elim (lowest_ways p n) [ inl a ↦ omega (arith, a.0) | inr b ↦ omega (arith, b.0) ]

-- and at most any number below it that passes
pub lowest_min : (p : ℕ → Bool) (n k : ℕ) → k < n → p k ≡ true → lowest p n ≤ k
lowest_min p n k lt h =
    elim (lowest_ways p n) [
      | inl a ↦ absurd (both_ways (some p n) a.1 (some_at p n k h lt))
      | inr b ↦ elim (cases_lt k (lowest p n)) [
        | inl less ↦ absurd (both_ways (some p (lowest p n)) b.2 (some_at p (lowest p n) k h less))
        | inr ge ↦ ge
      ]
    ]

-- below its bound it passes
pub lowest_passes : (p : ℕ → Bool) (n : ℕ) → lowest p n < n → p (lowest p n) ≡ true
lowest_passes p n lt = elim (lowest_ways p n) [ inl a ↦ absurd (omega (arith, a.0)) | inr b ↦ b.1 ]
