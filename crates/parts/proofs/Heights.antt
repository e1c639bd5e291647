-- Lifting ends at the numbers of the levels: the least calm row is the height.
use Rattle.std.proofs.Common.{◌≡◌, ℕ, zero, suc, ◌+◌, ◌<◌, ◌≤◌, min, true, cond, leb, sym, refl, ◌∙◌, subst, inl, inr, arith}
use Rattle.std.proofs.lemmas.Bool.{cases_lt, cases_Bool, cond-false, leb-true, le-leb}
use Rattle.site.specs.Arena.{Arena, Lawful, graded}
use Rattle.parts.specs.Moves.{holds, by_grade}
use Rattle.parts.specs.Lifting.{worst, best, Calm}
use Rattle.parts.specs.Regions.{Region, has, region, F, level, nothing, lowest}
use Rattle.parts.proofs.Forces.{holds_is, holds_from, F_grows}
use Rattle.parts.proofs.Lowest.{lowest_min, lowest_passes, lowest_le}
use Rattle.parts.proofs.Raises.{value_top}
use Rattle.parts.proofs.Regions.{Within, has_below, region_has, region_length, greatest_fixed, greatest_in, greatest_size, nothing_has}

-- one more than the number of doubted states
abbrev pub top_of : Arena → ℕ
top_of m = suc (graded m 1)

-- the number of the first level of U that has state s, at most `top`
unfoldable pub height : Arena → Region → ℕ → ℕ
height m U s = lowest (λ k. has (level m U (suc k)) s) (top_of m)

pub height_le : (m : Arena) (U : Region) (s : ℕ) → height m U s ≤ top_of m
unfolding height
height_le m U s = lowest_le (λ k. has (level m U (suc k)) s) (top_of m)

pub height_min : (m : Arena) (U : Region) (s k : ℕ) → k < top_of m → has (level m U (suc k)) s ≡ true → height m U s ≤ k
unfolding height
height_min m U s k lt h = lowest_min (λ k. has (level m U (suc k)) s) (top_of m) k lt h

pub height_in : (m : Arena) (U : Region) (s : ℕ) → height m U s < top_of m → has (level m U (suc (height m U s))) s ≡ true
unfolding height
height_in m U s lt = lowest_passes (λ k. has (level m U (suc k)) s) (top_of m) lt

-- the numbers asked for, as facts on commands and events
module _ (m : Arena) (top : ℕ) (x : ℕ → ℕ) (s : ℕ) where
  worst_le : (a e v : ℕ) → ((b : ℕ) → b < e → x (m.next s a b) ≤ v) → worst m x s a e ≤ v
  worst_le a zero v h = omega arith
  worst_le a (suc e) v h = omega (arith, worst_le a e v (λ b lt. h b (omega arith)), h e (omega arith))

  worst_is : (a e v : ℕ) → worst m x s a e ≤ v → (b : ℕ) → b < e → x (m.next s a b) ≤ v
  worst_is a zero v h b lt = absurd (omega arith)
  worst_is a (suc e) v h b lt =
      elim (cases_lt b e) [
        | inl less ↦ worst_is a e v (omega arith) b less
        | inr ge ↦ let here : b ≡ e = omega arith in rw here (omega arith)
      ]

  pub best_le : (a c v : ℕ) → a < c → ((b : ℕ) → b < m.events s → x (m.next s a b) ≤ v) → best m top x s c ≤ v
  best_le a zero v lt h = absurd (omega arith)
  best_le a (suc c) v lt h =
      elim (cases_lt a c) [
        | inl less ↦ omega (arith, best_le a c v less h)
        | inr ge ↦ let here : a ≡ c = omega arith in omega (arith, rw here at (worst_le a (m.events s) v h))
      ]

  pub best_is : (c v : ℕ) → best m top x s c ≤ v → v < top → (a : ℕ) × (a < c) × ((b : ℕ) → b < m.events s → x (m.next s a b) ≤ v)
  best_is zero v h lt = absurd (omega arith)
  best_is (suc c) v h lt =
      elim (cases_lt v (best m top x s c)) [
        | inl more ↦ (c, omega arith, worst_is c (m.events s) v (omega arith))
        | inr le ↦ let w = best_is c v le lt in (w.0, omega (arith, w.1), w.2)
      ]

module _ (m : Arena) (lawful : Lawful m) (U : Region) where
  -- a level is its own F
  pub level_F : (k : ℕ) → F m U (level m U k) (level m U (suc k)) ≡ level m U (suc k)
  level_F k = greatest_fixed m.states (F m U (level m U k)) (F_grows m U (level m U k))

  pub level_below : (k s : ℕ) → has (level m U (suc k)) s ≡ true → s < m.states
  level_below k s h = has_below m.states (level m U (suc k)) (greatest_size m.states _ (F_grows m U (level m U k))) s h

  pub level_is : (k s : ℕ) → has (level m U (suc k)) s ≡ true → by_grade (m.grade s) (holds m (has U) s) (holds m (has (level m U k)) s) (holds m (has (level m U (suc k))) s) ≡ true
  level_is k s h =
      sym (region_has m.states _ s (level_below k s h)) ∙ subst (λ V. has V s ≡ true) (sym (level_F k)) h

  -- nothing is held in no region
  pub holds_nothing : (n s : ℕ) → s < m.states → holds m (has (nothing n)) s ≡ true → ⊥
  holds_nothing n s lt h =
      let w = holds_is m (has (nothing n)) s h in
      nothing_has n (m.next s w.0 0) (w.2 0 (lawful.some_event s lt))

  calm_step : (k s g : ℕ) → s < m.states → k < top_of m → by_grade g (holds m (has U) s) (holds m (has (level m U k)) s) (holds m (has (level m U (suc k))) s) ≡ true → by_grade g (cond (holds m (has U) s) 0 (top_of m)) (min (top_of m) (best m (top_of m) (height m U) s (m.commands s) + 1)) (best m (top_of m) (height m U) s (m.commands s)) ≤ k
  calm_step k s zero s< lt h = rw h (omega arith)
  calm_step zero s (suc zero) s< lt h = absurd (holds_nothing m.states s s< h)
  calm_step (suc k) s (suc zero) s< lt h =
      let w = holds_is m (has (level m U (suc k))) s h in
      omega (arith, best_le m (top_of m) (height m U) s w.0 (m.commands s) k w.1 (λ b b<. height_min m U (m.next s w.0 b) k (omega arith) (w.2 b b<)))
  calm_step k s (suc (suc g)) s< lt h =
      let w = holds_is m (has (level m U (suc k))) s h in
      best_le m (top_of m) (height m U) s w.0 (m.commands s) k w.1 (λ b b<. height_min m U (m.next s w.0 b) k lt (w.2 b b<))

  -- the heights are calm
  pub height_calm : Calm m (top_of m) (has U) (height m U)
  height_calm s s< =
      elim (cases_lt (height m U s) (top_of m)) [
        | inl lt ↦ calm_step (height m U s) s (m.grade s) s< lt (level_is (height m U s) s (height_in m U s lt))
        | inr ge ↦ omega (arith, value_top m lawful (top_of m) (has U) (height m U) s)
      ]

  module _ (x : ℕ → ℕ) (calm : Calm m (top_of m) (has U) x) where
    -- the states that have at most k
    upto : ℕ → Region
    upto k = region m.states (λ s. leb (x s) k)

    upto_from : (k t : ℕ) → t < m.states → x t ≤ k → has (upto k) t ≡ true
    unfolding upto
    upto_from k t lt le = region_has m.states (λ s. leb (x s) k) t lt ∙ le-leb (x t) k le

    upto_size : (k t : ℕ) → has (upto k) t ≡ true → t < m.states
    unfolding upto
    upto_size k t h = has_below m.states (region m.states (λ s. leb (x s) k)) (region_length m.states (λ s. leb (x s) k)) t h

    upto_le : (k t : ℕ) → has (upto k) t ≡ true → x t ≤ k
    unfolding upto
    upto_le k t h = leb-true (x t) k (sym (region_has m.states (λ s. leb (x s) k) t (upto_size k t h)) ∙ h)

    least_step : (k : ℕ) (lower : (j : ℕ) → suc j ≡ k → Within (upto j) (level m U (suc j))) → k < top_of m → (s g : ℕ) → s < m.states → by_grade g (cond (holds m (has U) s) 0 (top_of m)) (min (top_of m) (best m (top_of m) x s (m.commands s) + 1)) (best m (top_of m) x s (m.commands s)) ≤ k → by_grade g (holds m (has U) s) (holds m (has (level m U k)) s) (holds m (has (upto k)) s) ≡ true
    least_step k lower lt s zero s< h =
        elim (cases_Bool (holds m (has U) s)) [
          | inl t ↦ t
          | inr f ↦ absurd (omega (arith, lt, rw (cond-false (holds m (has U) s) 0 (top_of m) f) at h))
        ]
    least_step zero lower lt s (suc zero) s< h = absurd (omega arith)
    least_step (suc k) lower lt s (suc zero) s< h =
        let w = best_is m (top_of m) x s (m.commands s) k (omega arith) (omega arith) in
        holds_from m (has (level m U (suc k))) s w.0 w.1 (λ b b<. lower k refl (m.next s w.0 b) (upto_from k (m.next s w.0 b) (lawful.closed s w.0 b s< w.1 b<) (w.2 b b<)))
    least_step k lower lt s (suc (suc g)) s< h =
        let w = best_is m (top_of m) x s (m.commands s) k h lt in
        holds_from m (has (upto k)) s w.0 w.1 (λ b b<. upto_from k (m.next s w.0 b) (lawful.closed s w.0 b s< w.1 b<) (w.2 b b<))

    upto_in : (k : ℕ) → ((j : ℕ) → suc j ≡ k → Within (upto j) (level m U (suc j))) → k < top_of m → Within (upto k) (level m U (suc k))
    unfolding upto
    upto_in k lower lt =
        greatest_in m.states (F m U (level m U k)) (F_grows m U (level m U k)) (upto k) (region_length m.states (λ s. leb (x s) k)) (λ s e.
        let s< = upto_size k s e in
        region_has m.states _ s s< ∙ least_step k lower lt s (m.grade s) s< (omega (arith, calm s s<, upto_le k s e)))

    upto_level : (k : ℕ) → k < top_of m → Within (upto k) (level m U (suc k))
    upto_level zero lt = upto_in zero (λ j e. absurd (omega (arith, e))) lt
    upto_level (suc k) lt =
        upto_in (suc k) (λ j e. let same : j ≡ k = omega (arith, e) in subst (λ i. Within (upto i) (level m U (suc i))) (sym same) (upto_level k (omega arith))) lt

    -- and every calm row is at least as high
    pub height_least : (s : ℕ) → s < m.states → height m U s ≤ x s
    height_least s s< =
        elim (cases_lt (x s) (top_of m)) [
          | inl lt ↦ height_min m U s (x s) lt (upto_level (x s) lt s (upto_from (x s) s s< (omega arith)))
          | inr ge ↦ omega (arith, ge, height_le m U s)
        ]
