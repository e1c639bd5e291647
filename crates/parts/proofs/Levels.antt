-- The levels of a region rise for at most one more step than there are doubted states.
use Rattle.std.proofs.Common.{◌≡◌, ℕ, zero, suc, ◌<◌, ◌≤◌, true, ◌&&◌, eqb, sym, refl, ap, ◌∙◌, subst, inl, inr, arith}
use Rattle.std.proofs.lemmas.Bool.{cases_lt, and_from, and_parts, both_ways, eq-eqb}
use Rattle.site.specs.Arena.{Arena, Lawful, graded}
use Rattle.parts.specs.Moves.{holds, by_grade}
use Rattle.parts.specs.Regions.{Region, has, region, F, greatest, least, level, lowest}
use Rattle.parts.proofs.Forces.{F_grows, F_mono, levels_grow}
use Rattle.parts.proofs.Heights.{top_of, height, height_le, height_min, height_in, level_is, level_below}
use Rattle.parts.proofs.Ladders.{Added, step_bound, added_number, lowest_added}
use Rattle.parts.proofs.Lowest.{lowest_min}
use Rattle.parts.proofs.Regions.{Within, has_below, region_has, region_length, within_or, greatest_in, greatest_size, greatest_mono, rising_least, least_size}

-- the states that can be kept in U for ever
abbrev pub limit : Arena → Region → Region
limit m U = least m.states (λ Y. greatest m.states (F m U Y))

pub level_limit : (m : Arena) (U : Region) → level m U m.states ≡ limit m U
unfolding least
level_limit m U = refl

module _ (m : Arena) (lawful : Lawful m) (U : Region) where
  -- the doubted states of a level
  doubted_in : Region → Region
  doubted_in V = region m.states (λ s. eqb (m.grade s) 1 && has V s)

  keep_step : (k s g : ℕ) → m.grade s ≡ g → Within (doubted_in (level m U (suc (suc k)))) (level m U (suc k)) → has (level m U (suc (suc k))) s ≡ true → by_grade g (holds m (has U) s) (holds m (has (level m U (suc k))) s) (holds m (has (level m U (suc (suc k)))) s) ≡ true → by_grade g (holds m (has U) s) (holds m (has (level m U k)) s) (holds m (has (level m U (suc (suc k)))) s) ≡ true
  unfolding doubted_in
  keep_step k s zero e w here h = h
  keep_step k s (suc zero) e w here h =
      let s< = level_below m lawful U (suc k) s here in
      let lower = w s (region_has m.states (λ t. eqb (m.grade t) 1 && has (level m U (suc (suc k))) t) s s< ∙ and_from (eqb (m.grade s) 1) (has (level m U (suc (suc k))) s) (eq-eqb (m.grade s) 1 e) here) in
      subst (λ g. by_grade g (holds m (has U) s) (holds m (has (level m U k)) s) (holds m (has (level m U (suc k))) s) ≡ true) e (level_is m lawful U k s lower)
  keep_step k s (suc (suc g)) e w here h = h

  -- a level that adds no doubted state adds none
  no_doubt : (k : ℕ) → Within (doubted_in (level m U (suc (suc k)))) (level m U (suc k)) → Within (level m U (suc (suc k))) (level m U (suc k))
  no_doubt k w =
      greatest_in m.states (F m U (level m U k)) (F_grows m U (level m U k)) (level m U (suc (suc k))) (greatest_size m.states _ (F_grows m U (level m U (suc k)))) (λ s here.
      region_has m.states _ s (level_below m lawful U (suc k) s here) ∙ keep_step k s (m.grade s) refl w here (level_is m lawful U (suc k) s here))

  level_jump : (k t : ℕ) → Added (level m U (suc k)) (level m U (suc (suc k))) t → (d : ℕ) × (eqb (m.grade d) 1 ≡ true) × Added (level m U (suc k)) (level m U (suc (suc k))) d
  unfolding doubted_in
  level_jump k t added =
      elim (within_or m.states (doubted_in (level m U (suc (suc k)))) (level m U (suc k)) (region_length m.states _)) [
        | inl w ↦ absurd (both_ways (has (level m U (suc k)) t) added.1 (no_doubt k w t added.0))
        | inr out ↦
            let d = out.0 in
            let d< = has_below m.states (doubted_in (level m U (suc (suc k)))) (region_length m.states _) d out.1 in
            let both = and_parts (eqb (m.grade d) 1) (has (level m U (suc (suc k))) d) (sym (region_has m.states (λ t. eqb (m.grade t) 1 && has (level m U (suc (suc k))) t) d d<) ∙ out.1) in
            (d, both.0, (both.1, out.2))
      ]

  -- the step at which a level takes a state in is at most the number of doubted states
  pub level_bound : (r s : ℕ) → Added (level m U r) (level m U (suc r)) s → r ≤ graded m 1
  level_bound r s added =
      step_bound m.states (λ Y. greatest m.states (F m U Y)) (levels_grow m U) (λ s. eqb (m.grade s) 1) level_jump r s added

  -- a state of the limit is taken in by some step
  pub limit_step : (s : ℕ) → has (limit m U) s ≡ true → lowest (λ k. has (level m U (suc k)) s) m.states < m.states
  limit_step s h =
      let s< = has_below m.states (limit m U) (least_size m.states _ (levels_grow m U)) s h in
      go m.states refl s<
    where
      go : (n : ℕ) → m.states ≡ n → s < n → lowest (λ k. has (level m U (suc k)) s) m.states < m.states
      go zero e lt = absurd (omega arith)
      go (suc n) e lt =
          let here : has (level m U (suc n)) s ≡ true = ap (λ k. has (level m U k) s) (sym e) ∙ (ap (λ V. has V s) (level_limit m U) ∙ h) in
          omega (arith, e, lowest_min (λ k. has (level m U (suc k)) s) m.states n (omega (arith, e)) here)

  -- its height is that step
  pub limit_height : (s : ℕ) → has (limit m U) s ≡ true → (height m U s ≡ lowest (λ k. has (level m U (suc k)) s) m.states) × (height m U s < top_of m)
  unfolding height
  limit_height s h =
      let r = lowest (λ k. has (level m U (suc k)) s) m.states in
      let added = lowest_added m.states (λ Y. greatest m.states (F m U Y)) s m.states (limit_step s h) in
      let few = level_bound r s added in
      let same = added_number m.states (λ Y. greatest m.states (F m U Y)) (levels_grow m U) (λ s. eqb (m.grade s) 1) level_jump r s (top_of m) added (omega arith) in
      (same, omega (arith, same, few))

  -- a state below the top lies in the limit
  pub height_limit : (s : ℕ) → height m U s < top_of m → has (limit m U) s ≡ true
  height_limit s lt =
      rising_least m.states (λ Y. greatest m.states (F m U Y)) (levels_grow m U) (suc (height m U s)) s (height_in m U s lt)

-- a smaller region has higher heights
pub level_mono : (m : Arena) (U V : Region) → Within U V → (k : ℕ) → Within (level m U k) (level m V k)
level_mono m U V w zero = λ s e. e
level_mono m U V w (suc k) =
    greatest_mono m.states (F m U (level m U k)) (F m V (level m V k)) (F_grows m U (level m U k)) (F_grows m V (level m V k)) (λ Z. F_mono m U (level m U k) Z V (level m V k) Z w (level_mono m U V w k) (λ s e. e))

pub height_mono : (m : Arena) (U V : Region) → Within U V → (s : ℕ) → height m V s ≤ height m U s
height_mono m U V w s =
    elim (cases_lt (height m U s) (top_of m)) [
      | inl lt ↦ height_min m V s (height m U s) lt (level_mono m U V w (suc (height m U s)) s (height_in m U s lt))
      | inr ge ↦ omega (arith, ge, height_le m V s)
    ]
