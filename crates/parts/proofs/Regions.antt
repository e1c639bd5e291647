-- Regions as sets: membership, inclusion, and the fixed points of growing operators.
use Rattle.std.proofs.Common.{◌≡◌, ℕ, zero, suc, ◌+◌, ◌<◌, ◌≤◌, Bool, true, false, ◌⊎◌, length, sym, refl, ap, ◌∙◌, subst, inl, inr, zero-add, arith}
use Rattle.std.proofs.lemmas.List.FromFn.{length-map-range_with_len, get_or-map-range_with_len}
use Rattle.std.proofs.lemmas.List.{ext_get_or, get_or_past}
use Rattle.std.proofs.lemmas.Bool.{cases_Bool, cases_lt, cases_eq, cond_both, both_ways}
use Rattle.site.specs.Counting.{count}
use Rattle.parts.specs.Regions.{Region, has, region, all, nothing, iterate, greatest, least}
use Rattle.parts.proofs.Steps.{count_le}

-- membership in a region made by a test
pub region_length : (n : ℕ) (p : ℕ → Bool) → length (region n p) ≡ n
unfolding region
region_length n p = length-map-range_with_len p 0 n

pub region_has : (n : ℕ) (p : ℕ → Bool) (s : ℕ) → s < n → has (region n p) s ≡ p s
unfolding region
region_has n p s lt = get_or-map-range_with_len p 0 n s s false lt (zero-add s)

-- a region of n states
abbrev pub Sized : ℕ → Region → Type 0
Sized n U = length U ≡ n

-- what a member is below n
pub has_below : (n : ℕ) (U : Region) → Sized n U → (s : ℕ) → has U s ≡ true → s < n
has_below n U size s h =
    elim (cases_lt s n) [
      | inl lt ↦ lt
      | inr ge ↦ absurd (both_ways (has U s) (get_or_past U s false (omega arith)) h)
    ]

-- inclusion
abbrev pub Within : Region → Region → Type 0
Within U V = (s : ℕ) → has U s ≡ true → has V s ≡ true

-- regions of one size that lie within each other are the same
pub within_both : (n : ℕ) (U V : Region) → Sized n U → Sized n V → Within U V → Within V U → U ≡ V
within_both n U V su sv p q =
    ext_get_or false U V (su ∙ sym sv) (λ s lt.
    elim (cases_Bool (has U s)) [
      | inl t ↦ t ∙ sym (p s t)
      | inr f ↦ f ∙ sym (elim (cases_Bool (has V s)) [ inl t ↦ absurd (both_ways (has U s) f (q s t)) | inr g ↦ g ])
    ])

-- a test that says no more than another makes no larger a region
pub region_within : (n : ℕ) (p q : ℕ → Bool) → ((s : ℕ) → s < n → p s ≡ true → q s ≡ true) → Within (region n p) (region n q)
region_within n p q h s e =
    let lt = has_below n (region n p) (region_length n p) s e in
    region_has n q s lt ∙ h s lt (sym (region_has n p s lt) ∙ e)

-- tests that agree below n make the same region
pub region_same : (n : ℕ) (p q : ℕ → Bool) → ((s : ℕ) → s < n → p s ≡ q s) → region n p ≡ region n q
region_same n p q h =
    within_both n (region n p) (region n q) (region_length n p) (region_length n q)
    (region_within n p q (λ s lt e. sym (h s lt) ∙ e))
    (region_within n q p (λ s lt e. h s lt ∙ e))

pub all_has : (n s : ℕ) → s < n → has (all n) s ≡ true
all_has n s lt = region_has n (λ _. true) s lt

pub nothing_has : (n s : ℕ) → has (nothing n) s ≡ true → ⊥
nothing_has n s e =
    let lt = has_below n (nothing n) (region_length n (λ _. false)) s e in
    both_ways (has (nothing n) s) (region_has n (λ _. false) s lt) e

pub within_all : (n : ℕ) (U : Region) → Sized n U → Within U (all n)
within_all n U size s e = all_has n s (has_below n U size s e)

pub nothing_within : (n : ℕ) (U : Region) → Within (nothing n) U
nothing_within n U s e = absurd (nothing_has n s e)

-- is one region within another: a search says yes, or names a state that is not
pub within_or : (n : ℕ) (U V : Region) → Sized n U → Within U V ⊎ ((s : ℕ) × (has U s ≡ true) × (has V s ≡ false))
within_or n U V size = elim (go n) [ inl h ↦ inl (λ s e. h s (has_below n U size s e) e) | inr w ↦ inr w ] where
  go : (k : ℕ) → ((s : ℕ) → s < k → has U s ≡ true → has V s ≡ true) ⊎ ((s : ℕ) × (has U s ≡ true) × (has V s ≡ false))
  go zero = inl (λ s lt e. absurd (omega arith))
  go (suc k) =
      elim (go k) [
        | inr w ↦ inr w
        | inl h ↦ elim (cases_Bool (has U k)) [
          | inr f ↦ inl (λ s lt e. elim (cases_eq s k) [ inl k≡ ↦ absurd (both_ways (has U s) (ap (has U) k≡ ∙ f) e) | inr ne ↦ h s (omega arith) e ])
          | inl t ↦ elim (cases_Bool (has V k)) [
            | inl t' ↦ inl (λ s lt e. elim (cases_eq s k) [ inl k≡ ↦ ap (has V) k≡ ∙ t' | inr ne ↦ h s (omega arith) e ])
            | inr f' ↦ inr (k, t, f')
          ]
        ]
      ]

-- counting the members of regions
pub count_mono : (p q : ℕ → Bool) (n : ℕ) → ((s : ℕ) → s < n → p s ≡ true → q s ≡ true) → count p n ≤ count q n
count_mono p q zero h = omega arith
count_mono p q (suc n) h =
    let below = count_mono p q n (λ s lt. h s (omega arith)) in
    elim (cases_Bool (p n)) [
      | inl t ↦ rw (t, h n (omega arith) t) (omega (arith, below))
      | inr f ↦ rw f (cond_both (q n) 1 0 (λ x. count p n + 0 ≤ count q n + x) (λ _. omega (arith, below)) (λ _. omega (arith, below)))
    ]

pub count_less : (p q : ℕ → Bool) (n s : ℕ) → ((t : ℕ) → t < n → p t ≡ true → q t ≡ true) → s < n → p s ≡ false → q s ≡ true → count p n < count q n
count_less p q zero s h lt f t = absurd (omega arith)
count_less p q (suc n) s h lt f t =
    elim (cases_eq s n) [
      | inl e ↦
          let pf = ap p (sym e) ∙ f in
          let qt = ap q (sym e) ∙ t in
          rw (pf, qt) (omega (arith, count_mono p q n (λ u l. h u (omega arith))))
      | inr ne ↦
          let below = count_less p q n s (λ u l. h u (omega arith)) (omega arith) f t in
          elim (cases_Bool (p n)) [
            | inl here ↦ rw (here, h n (omega arith) here) (omega (arith, below))
            | inr away ↦ rw away (cond_both (q n) 1 0 (λ x. count p n + 0 < count q n + x) (λ _. omega (arith, below)) (λ _. omega (arith, below)))
          ]
    ]

-- an operator on regions of n states that keeps their size and grows with them
pub record Growing (n : ℕ) (f : Region → Region) : Type 0 where
  pub size : (U : Region) → Sized n (f U)
  pub mono : (U V : Region) → Within U V → Within (f U) (f V)

module _ (n : ℕ) (f : Region → Region) (grow : Growing n f) where
  -- from nothing the steps rise, from all they fall
  pub rising : (k : ℕ) → Within (iterate k f (nothing n)) (iterate (suc k) f (nothing n))
  rising zero = nothing_within n (f (nothing n))
  rising (suc k) = grow.mono (iterate k f (nothing n)) (iterate (suc k) f (nothing n)) (rising k)

  pub falling : (k : ℕ) → Within (iterate (suc k) f (all n)) (iterate k f (all n))
  falling zero = within_all n (f (all n)) (grow.size (all n))
  falling (suc k) = grow.mono (iterate (suc k) f (all n)) (iterate k f (all n)) (falling k)

  pub rising_size : (k : ℕ) → Sized n (iterate k f (nothing n))
  rising_size zero = region_length n (λ _. false)
  rising_size (suc k) = grow.size (iterate k f (nothing n))

  pub falling_size : (k : ℕ) → Sized n (iterate k f (all n))
  falling_size zero = region_length n (λ _. true)
  falling_size (suc k) = grow.size (iterate k f (all n))

  -- each step stands still or takes a state in
  rising_count : (k : ℕ) → (f (iterate k f (nothing n)) ≡ iterate k f (nothing n)) ⊎ (k ≤ count (has (iterate k f (nothing n))) n)
  rising_count zero = inr (omega arith)
  rising_count (suc k) =
      let C = iterate k f (nothing n) in
      elim (rising_count k) [
        | inl e ↦ inl (ap f e)
        | inr c ↦ elim (within_or n (f C) C (grow.size C)) [
          | inl w ↦ inl (ap f (within_both n (f C) C (grow.size C) (rising_size k) w (rising k)))
          | inr out ↦ inr (omega (arith, c, count_less (has C) (has (f C)) n out.0 (λ t lt e. rising k t e) (has_below n (f C) (grow.size C) out.0 out.1) out.2 out.1))
        ]
      ]

  falling_count : (k : ℕ) → (f (iterate k f (all n)) ≡ iterate k f (all n)) ⊎ (k + count (has (iterate k f (all n))) n ≤ n)
  falling_count zero = inr (omega (arith, count_le (has (all n)) n))
  falling_count (suc k) =
      let C = iterate k f (all n) in
      elim (falling_count k) [
        | inl e ↦ inl (ap f e)
        | inr c ↦ elim (within_or n C (f C) (falling_size k)) [
          | inl w ↦ inl (ap f (within_both n (f C) C (grow.size C) (falling_size k) (falling k) w))
          | inr out ↦ inr (omega (arith, c, count_less (has (f C)) (has C) n out.0 (λ t lt e. falling k t e) (has_below n C (falling_size k) out.0 out.1) out.2 out.1))
        ]
      ]

  -- after n steps nothing moves
  pub least_fixed : f (least n f) ≡ least n f
  unfolding least
  least_fixed =
      let C = iterate n f (nothing n) in
      elim (rising_count n) [
        | inl e ↦ e
        | inr c ↦ elim (within_or n (f C) C (grow.size C)) [
          | inl w ↦ within_both n (f C) C (grow.size C) (rising_size n) w (rising n)
          | inr out ↦ absurd (omega (arith, c, count_le (has (f C)) n, count_less (has C) (has (f C)) n out.0 (λ t lt e. rising n t e) (has_below n (f C) (grow.size C) out.0 out.1) out.2 out.1))
        ]
      ]

  pub greatest_fixed : f (greatest n f) ≡ greatest n f
  unfolding greatest
  greatest_fixed =
      let C = iterate n f (all n) in
      elim (falling_count n) [
        | inl e ↦ e
        | inr c ↦ elim (within_or n C (f C) (falling_size n)) [
          | inl w ↦ within_both n (f C) C (grow.size C) (falling_size n) (falling n) w
          | inr out ↦ absurd (omega (arith, c, count_less (has (f C)) (has C) n out.0 (λ t lt e. falling n t e) (has_below n C (falling_size n) out.0 out.1) out.2 out.1))
        ]
      ]

  pub least_size : Sized n (least n f)
  unfolding least
  least_size = rising_size n

  pub greatest_size : Sized n (greatest n f)
  unfolding greatest
  greatest_size = falling_size n

  -- coinduction: what f keeps in lies in the greatest fixed point
  pub greatest_in : (U : Region) → Sized n U → Within U (f U) → Within U (greatest n f)
  unfolding greatest
  greatest_in U size kept = go n where
    go : (k : ℕ) → Within U (iterate k f (all n))
    go zero = within_all n U size
    go (suc k) = λ s e. grow.mono U (iterate k f (all n)) (go k) s (kept s e)

  -- induction: the least fixed point lies in whatever f leads into itself
  pub least_out : (V : Region) → Within (f V) V → Within (least n f) V
  unfolding least
  least_out V shut = go n where
    go : (k : ℕ) → Within (iterate k f (nothing n)) V
    go zero = nothing_within n V
    go (suc k) = λ s e. shut s (grow.mono (iterate k f (nothing n)) V (go k) s e)

  -- the steps from nothing stay below the least fixed point, and rise all the way
  pub rising_least : (k : ℕ) → Within (iterate k f (nothing n)) (least n f)
  rising_least zero = nothing_within n (least n f)
  rising_least (suc k) = λ s e. subst (λ V. has V s ≡ true) least_fixed (grow.mono (iterate k f (nothing n)) (least n f) (rising_least k) s e)

  pub rising_mono : (j k : ℕ) → j ≤ k → Within (iterate j f (nothing n)) (iterate k f (nothing n))
  rising_mono j zero le = let e : j ≡ 0 = omega arith in rw e (λ s h. h)
  rising_mono j (suc k) le =
      elim (cases_eq j (suc k)) [
        | inl e ↦ rw e (λ s h. h)
        | inr ne ↦ λ s h. rising k s (rising_mono j k (omega arith) s h)
      ]

  -- where a step adds nothing, no later one does
  pub rising_stuck : (j k : ℕ) → Within (iterate (suc j) f (nothing n)) (iterate j f (nothing n)) → j ≤ k → iterate k f (nothing n) ≡ iterate j f (nothing n)
  rising_stuck j zero w le = let e : j ≡ 0 = omega arith in rw e refl
  rising_stuck j (suc k) w le =
      elim (cases_eq j (suc k)) [
        | inl e ↦ rw e refl
        | inr ne ↦ ap f (rising_stuck j k w (omega arith)) ∙ within_both n (iterate (suc j) f (nothing n)) (iterate j f (nothing n)) (grow.size (iterate j f (nothing n))) (rising_size j) w (rising j)
      ]

-- larger operators have larger fixed points
pub greatest_mono : (n : ℕ) (f g : Region → Region) → Growing n f → Growing n g → ((U : Region) → Within (f U) (g U)) → Within (greatest n f) (greatest n g)
greatest_mono n f g gf gg h =
    greatest_in n g gg (greatest n f) (greatest_size n f gf) (λ s e. h (greatest n f) s (subst (λ V. has V s ≡ true) (sym (greatest_fixed n f gf)) e))

pub least_mono : (n : ℕ) (f g : Region → Region) → Growing n f → Growing n g → ((U : Region) → Within (f U) (g U)) → Within (least n f) (least n g)
least_mono n f g gf gg h =
    least_out n f gf (least n g) (λ s e. subst (λ V. has V s ≡ true) (least_fixed n g gg) (h (least n g) s e))
