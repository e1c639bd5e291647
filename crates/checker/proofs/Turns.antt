-- Tests taken in turn: one more passed, the first that is refused, all done.
use Rattle.std.proofs.Common.{◌≡◌, ℕ, zero, suc, ◌+◌, ◌<◌, ◌≤◌, Err, Result, refl, inl, inr, add-one, arith}
use Rattle.std.proofs.lemmas.Bool.{cases_eq}
use Rattle.site.specs.Refusals.{Refusal}
use Rattle.checker.specs.Checked.{passed, in_turn}

module _ (test : ℕ → Result (Unit {0}) Refusal) where
  -- one more test passed
  pub turn_passed : (k : ℕ) → in_turn test k ≡ passed → test k ≡ passed → in_turn test (k + 1) ≡ passed
  turn_passed k before here = rw (add-one k, before) here

  -- a refusal stays, however many tests follow
  pub turn_refused : (n k : ℕ) (e : Refusal) → k < n → in_turn test k ≡ passed → test k ≡ Err e → in_turn test n ≡ Err e
  turn_refused zero k e l before here = let no : ⊥ = omega arith in absurd no
  turn_refused (suc n) k e l before here =
      elim (cases_eq k n) [
        | inl same ↦ rw (← same, before) here
        | inr apart ↦ rw (turn_refused n k e (omega arith) before here) refl
      ]

  -- all tests passed
  pub turn_end : (k n : ℕ) → in_turn test k ≡ passed → k ≤ n → n ≤ k → in_turn test n ≡ passed
  turn_end k n before l r = let same : k ≡ n = omega arith in rw same at before
