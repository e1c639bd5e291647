-- Pigeonholes: numbers that are all taken by states of one kind are no more than there are such states.
use Rattle.std.proofs.Common.{◌≡◌, ℕ, zero, suc, ◌<◌, ◌≤◌, Bool, true, false, not, ◌&&◌, eqb, sym, refl, ap, ◌∙◌, inl, inr, arith}
use Rattle.std.proofs.lemmas.Bool.{cases_Bool, and_from, and_parts, and_right, eq-eqb, ne_eqb, both_ways}
use Rattle.site.specs.Counting.{some, count}
use Rattle.parts.specs.Regions.{Region, has, nothing, iterate, lowest}
use Rattle.parts.proofs.Lowest.{lowest_found, lowest_ways, some_not, not_some}
use Rattle.parts.proofs.Regions.{Growing, count_less, has_below, within_or, rising_mono, rising_stuck, rising_size, nothing_has}

-- if each of the numbers 1 to R is the number of some state that passes p, R states pass
pub ladder : (n : ℕ) (f : ℕ → ℕ) (R : ℕ) (p : ℕ → Bool) → ((v : ℕ) → 1 ≤ v → v ≤ R → (s : ℕ) × (s < n) × (p s ≡ true) × (f s ≡ v)) → R ≤ count p n
ladder n f zero p h = omega arith
ladder n f (suc R) p h =
    let w = h (suc R) (omega arith) (omega arith) in
    let q : ℕ → Bool = λ t. p t && not (eqb t w.0) in
    let fewer = count_less q p n w.0 (λ t lt e. (and_parts (p t) (not (eqb t w.0)) e).0) w.1 (and_right (p w.0) (not (eqb w.0 w.0)) (ap not (eq-eqb w.0 w.0 refl))) w.2 in
    omega (
      arith,
      fewer,
      ladder n f R q (λ v one le.
          let u = h v one (omega arith) in
          let apart : u.0 ≡ w.0 → ⊥ = λ e. omega (arith, sym u.3 ∙ (ap f e ∙ w.3), le) in
          (u.0, u.1, and_from (p u.0) (not (eqb u.0 w.0)) u.2 (ap not (ne_eqb u.0 w.0 apart)), u.3)),
    )

-- a state that a step adds
abbrev pub Added : Region → Region → ℕ → Type 0
Added U V s = (has V s ≡ true) × (has U s ≡ false)

-- Steps that rise from nothing, of which every one but the first that adds a state adds one that passes p:
-- the number of the step that adds a state is at most the number of states that pass.
module _ (n : ℕ) (f : Region → Region) (grow : Growing n f) (p : ℕ → Bool) (jump : (k t : ℕ) → Added (iterate (suc k) f (nothing n)) (iterate (suc (suc k)) f (nothing n)) t → (d : ℕ) × (p d ≡ true) × Added (iterate (suc k) f (nothing n)) (iterate (suc (suc k)) f (nothing n)) d) where
  -- every step up to one that adds a state adds one
  step_adds : (r s : ℕ) → Added (iterate r f (nothing n)) (iterate (suc r) f (nothing n)) s → (v : ℕ) → v ≤ r → (t : ℕ) × Added (iterate v f (nothing n)) (iterate (suc v) f (nothing n)) t
  step_adds r s added v le =
      elim (within_or n (iterate (suc v) f (nothing n)) (iterate v f (nothing n)) (rising_size n f grow (suc v))) [
        | inr out ↦ (out.0, (out.1, out.2))
        | inl w ↦
            let here = rising_stuck n f grow v r w le in
            let next = rising_stuck n f grow v (suc r) w (omega arith) in
            absurd (both_ways (has (iterate r f (nothing n)) s) added.1 (ap (λ U. has U s) (here ∙ sym next) ∙ added.0))
      ]

  -- the step that adds a state is the lowest that has it
  pub added_number : (r s b : ℕ) → Added (iterate r f (nothing n)) (iterate (suc r) f (nothing n)) s → r < b → lowest (λ k. has (iterate (suc k) f (nothing n)) s) b ≡ r
  added_number r s b added lt =
      lowest_found (λ k. has (iterate (suc k) f (nothing n)) s) b r
      (some_not (λ k. has (iterate (suc k) f (nothing n)) s) r (λ k less.
      elim (cases_Bool (has (iterate (suc k) f (nothing n)) s)) [
        | inr no_member ↦ no_member
        | inl t ↦ absurd (both_ways (has (iterate r f (nothing n)) s) added.1 (rising_mono n f grow (suc k) r less s t))
      ]))
      added.0 lt

  pub step_bound : (r s : ℕ) → Added (iterate r f (nothing n)) (iterate (suc r) f (nothing n)) s → r ≤ count p n
  step_bound r s added =
      ladder n (λ t. lowest (λ k. has (iterate (suc k) f (nothing n)) t) (suc r)) r p (λ v one le. go v one le)
    where
      go : (v : ℕ) → 1 ≤ v → v ≤ r → (t : ℕ) × (t < n) × (p t ≡ true) × (lowest (λ k. has (iterate (suc k) f (nothing n)) t) (suc r) ≡ v)
      go zero one le = absurd (omega arith)
      go (suc v) one le =
          let w = step_adds r s added (suc v) le in
          let d = jump v w.0 w.1 in
          (d.0, has_below n (iterate (suc (suc v)) f (nothing n)) (rising_size n f grow (suc (suc v))) d.0 d.2.0, d.1, added_number (suc v) d.0 (suc r) d.2 (omega arith))

-- a state that no earlier step has
earlier : (n : ℕ) (f : Region → Region) (s r : ℕ) → some (λ k. has (iterate (suc k) f (nothing n)) s) r ≡ false → has (iterate r f (nothing n)) s ≡ false
earlier n f s zero h = elim (cases_Bool (has (nothing n) s)) [ inl t ↦ absurd (nothing_has n s t) | inr e ↦ e ]
earlier n f s (suc r) h = not_some (λ k. has (iterate (suc k) f (nothing n)) s) (suc r) r h (omega arith)

-- the lowest step that has a state is one that adds it
pub lowest_added : (n : ℕ) (f : Region → Region) (s b : ℕ) → lowest (λ k. has (iterate (suc k) f (nothing n)) s) b < b → Added (iterate (lowest (λ k. has (iterate (suc k) f (nothing n)) s) b) f (nothing n)) (iterate (suc (lowest (λ k. has (iterate (suc k) f (nothing n)) s) b)) f (nothing n)) s
lowest_added n f s b lt =
    elim (lowest_ways (λ k. has (iterate (suc k) f (nothing n)) s) b) [
      | inl none ↦ absurd (omega (arith, none.0))
      | inr found ↦ (found.1, earlier n f s (lowest (λ k. has (iterate (suc k) f (nothing n)) s) b) found.2)
    ]
