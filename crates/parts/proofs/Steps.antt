-- One turn more of the loops over commands and events.
use Rattle.std.proofs.Common.{◌≡◌, ℕ, zero, suc, ◌+◌, ◌<◌, ◌≤◌, Bool, true, false, not, eqb, leb, ltb, sym, refl, ap, ◌∙◌, inl, inr, add-one, arith}
use Rattle.std.proofs.lemmas.Bool.{or_from, or_left, or_right, cases_eq, cases_lt, cond_both, le-leb, lt-leb, lt-ltb, le-ltb}
use Rattle.site.specs.Arena.{Arena, Lawful, graded}
use Rattle.site.specs.Counting.{some, count}
use Rattle.parts.specs.Lifting.{best}

pub best_top : (m : Arena) (top : ℕ) (x : ℕ → ℕ) (s a : ℕ) → best m top x s a ≤ top
best_top m top x s zero = omega arith
best_top m top x s (suc a) = omega (arith, best_top m top x s a)

-- nothing passes among one number more
pub some_none : (p : ℕ → Bool) (n : ℕ) → some p n ≡ false → p n ≡ false → some p (n + 1) ≡ false
some_none p n h here = rw add-one (or_from (p n) (some p n) here h)

-- one number that passes
pub some_at : (p : ℕ → Bool) (n k : ℕ) → p k ≡ true → k < n → some p n ≡ true
some_at p zero k h lt = absurd (omega arith)
some_at p (suc n) k h lt =
    elim (cases_eq k n) [
      | inl e ↦ or_left (p n) (some p n) (ap p (sym e) ∙ h)
      | inr ne ↦ or_right (p n) (some p n) (some_at p n k h (omega arith))
    ]

-- one number more, counted or not
pub count_in : (p : ℕ → Bool) (n k : ℕ) → k ≡ count p n → p n ≡ true → k + 1 ≡ count p (n + 1)
count_in p n k e h = rw (add-one n, h, e) refl

pub count_out : (p : ℕ → Bool) (n k : ℕ) → k ≡ count p n → p n ≡ false → k ≡ count p (n + 1)
count_out p n k e h = rw (add-one n, h, e) (omega arith)

pub count_le : (p : ℕ → Bool) (n : ℕ) → count p n ≤ n
count_le p zero = omega arith
count_le p (suc n) = cond_both (p n) 1 0 (λ x. count p n + x ≤ suc n) (λ _. omega (arith, count_le p n)) (λ _. omega (arith, count_le p n))

-- some number below passes: one number more
pub some_in : (p : ℕ → Bool) (n : ℕ) → p n ≡ true → true ≡ some p (n + 1)
some_in p n h = sym (rw add-one (or_left (p n) (some p n) h))

pub some_out : (p : ℕ → Bool) (n : ℕ) (any : Bool) → any ≡ some p n → p n ≡ false → any ≡ some p (n + 1)
some_out p n any e h = rw (add-one n, h) e

-- a site has at most 8,192 states of one grade
pub graded_le : (m : Arena) → Lawful m → (g : ℕ) → graded m g ≤ 8192
graded_le m lawful g = omega (arith, count_le (λ s. eqb (m.grade s) g) m.states, lawful.limited)

pub not_leb : (a b : ℕ) → not (leb a b) ≡ ltb b a
not_leb a b =
    elim (cases_lt b a) [
      | inl lt ↦ ap not (lt-leb a b lt) ∙ sym (lt-ltb b a lt)
      | inr ge ↦ ap not (le-leb a b ge) ∙ sym (le-ltb b a ge)
    ]
