-- Different numbers below a bound that pass a test are at most as many as pass it.
use Rattle.std.proofs.Common.{◌≡◌, ℕ, zero, suc, ◌+◌, ◌<◌, ◌≤◌, Bool, true, false, not, ◌&&◌, eqb, List, [], ◌∷◌, length, sym, inl, inr, arith}
use Rattle.std.specs.List.{AllByRecursion as All}
use Rattle.std.proofs.lemmas.Bool.{cases_eq, eq-eqb, ne_eqb, and_from, not_from_false}
use Rattle.site.specs.Counting.{count}

-- a test without the number x
abbrev pub without : ℕ → (ℕ → Bool) → ℕ → Bool
without x p k = p k && not (eqb k x)

-- it passes no more
count_le : (x : ℕ) (p : ℕ → Bool) (n : ℕ) → count (without x p) n ≤ count p n
count_le x p zero = omega arith
count_le x p (suc n) = let ih = count_le x p n in grind arith

-- and fewer where x passed
count_less : (x : ℕ) (p : ℕ → Bool) (n : ℕ) → x < n → p x ≡ true → count (without x p) n + 1 ≤ count p n
count_less x p zero l h = absurd (omega arith)
count_less x p (suc n) l h =
    elim (cases_eq x n) [
      | inl same ↦ let here : eqb n x ≡ true = eq-eqb _ _ (sym same) in rw (here, sym same, h) (omega (arith, count_le x p x))
      | inr apart ↦ let ih = count_less x p n (omega arith) h in let here : eqb n x ≡ false = ne_eqb _ _ (λ e. apart (sym e)) in rw here (grind arith)
    ]

-- no number comes twice
abbrev pub Different : List ℕ → Type 0
Different [] = Unit {0}
Different (x ∷ xs) = All (λ y. x ≡ y → ⊥) xs × Different xs

-- those that differ from x pass the test without it
still_pass : (x n : ℕ) (p : ℕ → Bool) (xs : List ℕ) → All (λ y. x ≡ y → ⊥) xs → All (λ y. (y < n) × (p y ≡ true)) xs → All (λ y. (y < n) × (without x p y ≡ true)) xs
still_pass x n p [] d h = tt
still_pass x n p (y ∷ ys) d h =
    ((h.0.0, and_from (p y) _ h.0.1 (not_from_false _ (ne_eqb y x (λ e. d.0 (sym e))))), still_pass x n p ys d.1 h.1)

pub pigeons : (n : ℕ) (xs : List ℕ) (p : ℕ → Bool) → Different xs → All (λ y. (y < n) × (p y ≡ true)) xs → length xs ≤ count p n
pigeons n [] p d h = omega arith
pigeons n (x ∷ xs) p d h =
    let ih = pigeons n xs (without x p) d.1 (still_pass x n p xs d.0 h.1) in
    omega (arith, count_less x p n h.0.0 h.0.1)
