-- Passes over a row that write some of its states.
use Rattle.std.proofs.Common.{◌≡◌, ℕ, ◌+◌, ◌<◌, Bool, true, false, cond, ◌&&◌, eqb, ltb, leb, List, length, set, replicate, sym, ap, ◌∙◌, inl, inr, arith}
use lib.ListN.{length-replicate}
use Rattle.std.proofs.lemmas.List.{get_or-set_same, get_or-set_other, get_or-replicate, get_or_past}
use Rattle.std.proofs.lemmas.Bool.{cases_eq, cases_lt, cond-true, cond-false, and_from, and_left, and_right, lt-ltb, le-ltb, cases_Bool, eqb-true, eq-eqb, and_parts}
use Rattle.parts.specs.Lifting.{at, none, unnumbered}
use Rattle.parts.specs.Written.{Written, due}
use Rattle.parts.specs.Moves.{blocks}
use Rattle.parts.proofs.Duals.{blocks_same}
use Rattle.site.specs.Arena.{Arena}

module _ (p : ℕ → Bool) (v : ℕ → ℕ) (before : List ℕ) where
  -- the state that is next is as it was
  pub written_here : (k : ℕ) (xs : List ℕ) → Written p v before k xs → at xs k ≡ at before k
  written_here k xs w = w k ∙ cond-false (ltb k k && p k) (v k) (at before k) (and_left (ltb k k) (p k) (le-ltb k k (omega arith)))

  -- what is said of other states than k is the same below k + 1
  passed : (k s : ℕ) → (s ≡ k → ⊥) → (ltb s (k + 1) && p s) ≡ (ltb s k && p s)
  passed k s ne =
      elim (cases_lt s k) [
        | inl lt ↦ ap (λ b. b && p s) (lt-ltb s (k + 1) (omega arith) ∙ sym (lt-ltb s k lt))
        | inr ge ↦ ap (λ b. b && p s) (le-ltb s (k + 1) (omega arith) ∙ sym (le-ltb s k ge))
      ]

  pub written_set : (k : ℕ) (xs : List ℕ) (n : ℕ) → Written p v before k xs → p k ≡ true → n ≡ v k → k < length xs → Written p v before (k + 1) (set xs k n)
  written_set k xs n w pass e in< s =
      elim (cases_eq s k) [
        | inl s≡k ↦ rw (s≡k, get_or-set_same xs k n 0 in<) (e ∙ sym (cond-true (ltb k (k + 1) && p k) (v k) (at before k) (and_from (ltb k (k + 1)) (p k) (lt-ltb k (k + 1) (omega arith)) pass)))
        | inr ne ↦ get_or-set_other xs k s n 0 ne ∙ (w s ∙ ap (λ b. cond b (v s) (at before s)) (sym (passed k s ne)))
      ]

  pub written_skip : (k : ℕ) (xs : List ℕ) → Written p v before k xs → p k ≡ false → Written p v before (k + 1) xs
  written_skip k xs w fail s =
      elim (cases_eq s k) [
        | inl s≡k ↦ rw s≡k (written_here k xs w ∙ sym (cond-false (ltb k (k + 1) && p k) (v k) (at before k) (and_right (ltb k (k + 1)) (p k) fail)))
        | inr ne ↦ w s ∙ ap (λ b. cond b (v s) (at before s)) (sym (passed k s ne))
      ]

-- a round's labels: those below j are the same before and after, so a state is due by either
module _ (m : Arena) (i j : ℕ) (firsts before xs : List ℕ) (k : ℕ) (small : j < 65535) (w : Written (due m i j firsts before) (λ _. j) before k xs) where
  label_same : (t : ℕ) → ltb (at xs t) j ≡ ltb (at before t) j
  label_same t =
      elim (cases_Bool (ltb t k && due m i j firsts before t)) [
        | inl pass ↦
            let d = (and_parts (ltb t k) (due m i j firsts before t) pass).1 in
            let e = (and_parts (leb (at firsts t) i) (eqb (at before t) none && blocks m (λ u. ltb (at before u) j) t) d).1 in
            let none_before = eqb-true (at before t) none (and_parts (eqb (at before t) none) (blocks m (λ u. ltb (at before u) j) t) e).0 in
            ap (λ x. ltb x j) (w t ∙ cond-true _ j (at before t) pass) ∙ (le-ltb j j (omega arith) ∙ sym (le-ltb (at before t) j (omega arith)))
        | inr fail ↦ ap (λ x. ltb x j) (w t ∙ cond-false _ j (at before t) fail)
      ]

  pub due_same : due m i j firsts xs k ≡ due m i j firsts before k
  due_same =
      let here = written_here (due m i j firsts before) (λ _. j) before k xs w in
      ap (λ x. leb (at firsts k) i && (eqb x none && blocks m (λ t. ltb (at xs t) j) k)) here
      ∙ ap (λ b. leb (at firsts k) i && (eqb (at before k) none && b)) (blocks_same m (λ t. ltb (at xs t) j) (λ t. ltb (at before t) j) label_same k)

-- a row filled with one number
pub filled_within : (n s x : ℕ) → s < n → at (replicate n x) s ≡ x
filled_within n s x lt = get_or-replicate n s x 0 lt

pub filled_zero : (n s : ℕ) → at (replicate n 0) s ≡ 0
filled_zero n s =
    elim (cases_lt s n) [
      | inl lt ↦ get_or-replicate n s 0 0 lt
      | inr ge ↦ get_or_past (replicate n 0) s 0 (rw length-replicate ge)
    ]

-- a state that has no number after some got one had none before
pub still_unnumbered : (i : ℕ) (p : ℕ → Bool) (before after : List ℕ) → i < none → ((s : ℕ) → at after s ≡ cond (p s) i (at before s)) → (t : ℕ) → unnumbered after t ≡ true → unnumbered before t ≡ true
still_unnumbered i p before after small h t e =
    let without : at after t ≡ none = eqb-true (at after t) none e in
    elim (cases_Bool (p t)) [
      | inl y ↦ absurd (omega (arith, without, h t, cond-true (p t) i (at before t) y))
      | inr f ↦ eq-eqb (at before t) none (sym (cond-false (p t) i (at before t) f) ∙ (sym (h t) ∙ without))
    ]
