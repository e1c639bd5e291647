-- The iterations are the fixed points that the words ask for.
use Rattle.std.proofs.Common.{◌≡◌, ℕ, zero, suc, ◌<◌, true, false, not, sym, refl, ap, ◌∙◌, subst, inl, inr, arith}
use Rattle.std.proofs.lemmas.Bool.{cases_lt, both_ways, not-false, not-true}
use Rattle.site.specs.Arena.{Arena, Lawful}
use Rattle.parts.specs.Regions.{Region, has, F, G, greatest, least, level, covered, stage}
use Rattle.parts.specs.Words.{Greatest, Least, Words}
use Rattle.parts.proofs.Duals.{covered_remain, remain_not}
use Rattle.parts.proofs.Forces.{F_grows, G_grows, levels_grow, covers_grow, rounds_grow, stages_grow}
use Rattle.parts.proofs.Levels.{limit}
use Rattle.parts.proofs.Peeling.{covered_size, covered_fixed, stage_below}
use Rattle.parts.proofs.Regions.{Within, Growing, within_both, greatest_in, greatest_fixed, greatest_size, least_out, least_fixed, least_size, rising_mono, rising_stuck}
use Rattle.parts.proofs.Turns.{round_last}

-- the greatest fixed point of a growing operator, as the words have it
pub greatest_is : (n : ℕ) (f : Region → Region) → Growing n f → Greatest n (λ Z. Z ≡ f Z) (greatest n f)
greatest_is n f grow =
    record {
      size = greatest_size n f grow;
      holds = sym (greatest_fixed n f grow);
      most = λ V size e. greatest_in n f grow V size (λ s h. subst (λ U. has U s ≡ true) e h);
    }

pub least_is : (n : ℕ) (f : Region → Region) → Growing n f → Least n (λ Z. Z ≡ f Z) (least n f)
least_is n f grow =
    record {
      size = least_size n f grow;
      holds = sym (least_fixed n f grow);
      fewest = λ V size e. least_out n f grow V (λ s h. subst (λ U. has U s ≡ true) (sym e) h);
    }

-- there is only one
greatest_one : (n : ℕ) (P : Region → Type 0) (U V : Region) → Greatest n P U → Greatest n P V → U ≡ V
greatest_one n P U V u v =
    within_both n U V u.size v.size (v.most U u.size u.holds) (u.most V v.size v.holds)

least_one : (n : ℕ) (P : Region → Type 0) (U V : Region) → Least n P U → Least n P V → U ≡ V
least_one n P U V u v =
    within_both n U V u.size v.size (u.fewest V v.size v.holds) (v.fewest U u.size u.holds)

-- a region that is the greatest with a property that another has for itself is that other
subst_greatest : (n : ℕ) (P : Region → Type 0) (U V : Region) → U ≡ V → Greatest n P U → Greatest n P V
subst_greatest n P U V e h = subst (Greatest n P) e h

module _ (m : Arena) where
  -- where Y is the greatest Z with Z ≡ F X Y Z, it is the one that iteration finds
  inner_fixed : (X Y : Region) → Greatest m.states (λ Z. Z ≡ F m X Y Z) Y → greatest m.states (F m X Y) ≡ Y
  inner_fixed X Y h =
      greatest_one m.states (λ Z. Z ≡ F m X Y Z) (greatest m.states (F m X Y)) Y (greatest_is m.states (F m X Y) (F_grows m X Y)) h

  limit_is : (X : Region) → Least m.states (λ Y. Greatest m.states (λ Z. Z ≡ F m X Y Z) Y) (limit m X)
  limit_is X =
      record {
        size = least_size m.states _ (levels_grow m X);
        holds = subst_greatest m.states (λ Z. Z ≡ F m X (limit m X) Z) (greatest m.states (F m X (limit m X))) (limit m X) (least_fixed m.states _ (levels_grow m X)) (greatest_is m.states (F m X (limit m X)) (F_grows m X (limit m X)));
        fewest = λ Y size h. least_out m.states _ (levels_grow m X) Y (λ s e. subst (λ U. has U s ≡ true) (inner_fixed X Y h) e);
      }

  pub covered_words : Greatest m.states (λ X. Least m.states (λ Y. Greatest m.states (λ Z. Z ≡ F m X Y Z) Y) X) (covered m)
  unfolding covered
  covered_words =
      record {
        size = covered_size m;
        holds = subst (Least m.states (λ Y. Greatest m.states (λ Z. Z ≡ F m (covered m) Y Z) Y)) (covered_fixed m) (limit_is (covered m));
        most = λ X size h. greatest_in m.states (limit m) (covers_grow m) X size (λ s e. subst (λ U. has U s ≡ true) (least_one m.states (λ Y. Greatest m.states (λ Z. Z ≡ F m X Y Z) Y) X (limit m X) h (limit_is X)) e);
      }

  pub stage_words : (X : Region) → Greatest m.states (λ Y. Least m.states (λ Z. Z ≡ G m X Y Z) Y) (greatest m.states (λ Y. least m.states (G m X Y)))
  stage_words X =
      let f : Region → Region = λ Y. least m.states (G m X Y) in
      let top = greatest m.states f in
      record {
        size = greatest_size m.states f (rounds_grow m X);
        holds = subst (Least m.states (λ Z. Z ≡ G m X top Z)) (greatest_fixed m.states f (rounds_grow m X)) (least_is m.states (G m X top) (G_grows m X top));
        most = λ Y size h. greatest_in m.states f (rounds_grow m X) Y size (λ s e. subst (λ U. has U s ≡ true) (least_one m.states (λ Z. Z ≡ G m X Y Z) Y (least m.states (G m X Y)) h (least_is m.states (G m X Y) (G_grows m X Y))) e);
      }

module _ (m : Arena) (lawful : Lawful m) where
  -- covered states are those in no stage
  pub covered_not : (s : ℕ) → s < m.states → has (covered m) s ≡ not (has (stage m m.states) s)
  covered_not s lt = ap (λ U. has U s) (covered_remain m lawful) ∙ remain_not m lawful m.states s lt

  still : stage m (suc m.states) ≡ stage m m.states
  unfolding least
  still = least_fixed m.states _ (stages_grow m)

  stages_still : (i : ℕ) → Within (stage m i) (stage m m.states)
  stages_still i =
      elim (cases_lt i m.states) [
        | inl lt ↦ rising_mono m.states _ (stages_grow m) i m.states (omega arith)
        | inr ge ↦ λ s e. subst (λ U. has U s ≡ true) (rising_stuck m.states _ (stages_grow m) m.states i (λ t h. subst (λ U. has U t ≡ true) still h) ge) e
      ]

  some_stage_is : (s : ℕ) → s < m.states → has (covered m) s ≡ false → (i : ℕ) × (i < m.states) × (has (stage m (suc i)) s ≡ true)
  some_stage_is s lt f = go m.states refl where
    go : (n : ℕ) → m.states ≡ n → (i : ℕ) × (i < m.states) × (has (stage m (suc i)) s ≡ true)
    go zero e = absurd (omega arith)
    go (suc n) e = (n, omega (arith, e), ap (λ k. has (stage m k) s) (sym e) ∙ not-false (has (stage m m.states) s) (sym (covered_not s lt) ∙ f))

  pub words : Words m
  words =
      record {
        covered_part = covered_words m;
        no_level = refl;
        levels = λ k. greatest_is m.states (F m (covered m) (level m (covered m) k)) (F_grows m (covered m) (level m (covered m) k));
        no_stage = refl;
        stages = λ i. stage_words m (stage m i);
        no_round = λ i. refl;
        rounds = λ i j. refl;
        last_round = round_last m lawful;
        some_stage = some_stage_is;
        no_both = λ s i cov h.
            let lt = stage_below m lawful i s h in
            both_ways (has (stage m m.states) s) (not-true (has (stage m m.states) s) (sym (covered_not s lt) ∙ cov)) (stages_still i s h);
      }
