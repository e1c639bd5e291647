-- Phase by phase: what the rows hold, and that the last phase leaves the covered part.
use Rattle.std.proofs.Common.{◌≡◌, ℕ, zero, suc, ◌+◌, ◌<◌, ◌≤◌, min, Bool, true, false, cond, not, ◌&&◌, eqb, List, sym, refl, ap, ◌∙◌, subst, inl, inr, add-one, arith}
use Rattle.std.proofs.lemmas.Bool.{cases_lt, cases_eq, cases_Bool, both_ways, and_from, and_parts, eq-eqb, ne_eqb, eqb-true, cond-true, cond-false, not-true, not-false}
use Rattle.site.specs.Arena.{Arena, Lawful}
use Rattle.site.specs.Counting.{some}
use Rattle.parts.specs.Moves.{blocks, by_grade}
use Rattle.parts.specs.Lifting.{at, none, unnumbered, best, value, Calm, Raised}
use Rattle.parts.specs.Regions.{Region, has, region, G, least, covered, stage, rank, first}
use Rattle.parts.specs.Rows.{FirstRow, RankRow}
use Rattle.parts.specs.Written.{lost}
use Rattle.parts.proofs.Duals.{remain, holds_agree, stage_not, remain_not, covered_remain}
use Rattle.parts.proofs.Forces.{some_one, covers_grow, stages_grow, rounds_grow, G_grows, G_mono, blocks_mono}
use Rattle.parts.proofs.Heights.{top_of, height, height_le, height_calm, height_least}
use Rattle.parts.proofs.Ladders.{Added, added_number}
use Rattle.parts.proofs.Levels.{limit, limit_height, height_limit, height_mono}
use Rattle.parts.proofs.Lowest.{not_some}
use Rattle.parts.proofs.Regions.{Within, Sized, has_below, region_has, region_length, within_or, within_both, greatest_in, greatest_size, greatest_fixed, least_fixed, least_out, falling, rising, rising_stuck, rising_size, falling_size, nothing_has}

-- one phase more takes a confirmed state out, if any
module _ (m : Arena) (lawful : Lawful m) where
  stage_fixed : (i : ℕ) → least m.states (G m (stage m i) (stage m (suc i))) ≡ stage m (suc i)
  stage_fixed i = greatest_fixed m.states (λ Y. least m.states (G m (stage m i) Y)) (rounds_grow m (stage m i))

  pub stage_G : (i : ℕ) → G m (stage m i) (stage m (suc i)) (stage m (suc i)) ≡ stage m (suc i)
  stage_G i =
      ap (G m (stage m i) (stage m (suc i))) (sym (stage_fixed i))
      ∙ (least_fixed m.states (G m (stage m i) (stage m (suc i))) (G_grows m (stage m i) (stage m (suc i))) ∙ stage_fixed i)

  pub stage_below : (i s : ℕ) → has (stage m i) s ≡ true → s < m.states
  stage_below i s h = has_below m.states (stage m i) (rising_size m.states _ (stages_grow m) i) s h

  pub stage_rule : (i s : ℕ) → has (stage m (suc i)) s ≡ true → by_grade (m.grade s) (blocks m (has (stage m i)) s) (blocks m (has (stage m (suc i))) s) (blocks m (has (stage m (suc i))) s) ≡ true
  stage_rule i s h = sym (region_has m.states _ s (stage_below (suc i) s h)) ∙ ap (λ V. has V s) (stage_G i) ∙ h

  confirmed_in : Region → Region
  confirmed_in V = region m.states (λ s. eqb (m.grade s) 0 && has V s)

  module _ (k : ℕ) (w : Within (confirmed_in (stage m (suc (suc k)))) (stage m (suc k))) where
    A : Region
    A = stage m (suc (suc k))

    L : Region
    L = least m.states (G m (stage m k) A)

    V : Region
    V = region m.states (λ s. has L s && has A s)

    V_parts : (s : ℕ) → has V s ≡ true → (has L s ≡ true) × (has A s ≡ true)
    unfolding V
    V_parts s h =
        and_parts (has L s) (has A s) (sym (region_has m.states (λ s. has L s && has A s) s (has_below m.states (region m.states (λ s. has L s && has A s)) (region_length m.states _) s h)) ∙ h)

    V_from : (s : ℕ) → s < m.states → has L s ≡ true → has A s ≡ true → has V s ≡ true
    unfolding V
    V_from s lt l a = region_has m.states (λ s. has L s && has A s) s lt ∙ and_from (has L s) (has A s) l a

    in_A : (s : ℕ) → has (G m (stage m (suc k)) A V) s ≡ true → has A s ≡ true
    unfolding A
    in_A s h =
        ap (λ U. has U s) (sym (stage_G (suc k)))
        ∙ G_mono m (stage m (suc k)) (stage m (suc (suc k))) V (stage m (suc k)) (stage m (suc (suc k))) (stage m (suc (suc k))) (λ s e. e) (λ s e. e) (λ s e. (V_parts s e).1) s h

    L_step : (s g : ℕ) → m.grade s ≡ g → has A s ≡ true → by_grade g (blocks m (has (stage m (suc k))) s) (blocks m (has A) s) (blocks m (has V) s) ≡ true → by_grade g (blocks m (has (stage m k)) s) (blocks m (has A) s) (blocks m (has L) s) ≡ true
    unfolding A confirmed_in
    L_step s zero e a h =
        let s< = stage_below (suc (suc k)) s a in
        let b = w s (region_has m.states (λ s. eqb (m.grade s) 0 && has (stage m (suc (suc k))) s) s s< ∙ and_from (eqb (m.grade s) 0) (has (stage m (suc (suc k))) s) (eq-eqb (m.grade s) 0 e) a) in
        subst (λ g. by_grade g (blocks m (has (stage m k)) s) (blocks m (has (stage m (suc k))) s) (blocks m (has (stage m (suc k))) s) ≡ true) e (stage_rule k s b)
    L_step s (suc zero) e a h = h
    L_step s (suc (suc g)) e a h = blocks_mono m (has V) (has L) s (λ t x. (V_parts t x).0) h

    into_V : Within (G m (stage m (suc k)) A V) V
    unfolding L
    into_V s h =
        let s< = has_below m.states (G m (stage m (suc k)) A V) (region_length m.states _) s h in
        let a = in_A s h in
        let rule = L_step s (m.grade s) refl a (sym (region_has m.states _ s s<) ∙ h) in
        V_from s s< (ap (λ U. has U s) (sym (least_fixed m.states (G m (stage m k) A) (G_grows m (stage m k) A))) ∙ (region_has m.states _ s s< ∙ rule)) a

    no_confirmation : Within (stage m (suc (suc k))) (stage m (suc k))
    unfolding A L
    no_confirmation =
        greatest_in m.states (λ Y. least m.states (G m (stage m k) Y)) (rounds_grow m (stage m k)) (stage m (suc (suc k))) (rising_size m.states _ (stages_grow m) (suc (suc k))) (λ s h.
        (V_parts s (least_out m.states (G m (stage m (suc k)) (stage m (suc (suc k)))) (G_grows m (stage m (suc k)) (stage m (suc (suc k)))) V into_V s (ap (λ U. has U s) (stage_fixed (suc k)) ∙ h))).0)

  pub stage_jump : (k t : ℕ) → Added (stage m (suc k)) (stage m (suc (suc k))) t → (d : ℕ) × (eqb (m.grade d) 0 ≡ true) × Added (stage m (suc k)) (stage m (suc (suc k))) d
  unfolding confirmed_in
  stage_jump k t added =
      elim (within_or m.states (confirmed_in (stage m (suc (suc k)))) (stage m (suc k)) (region_length m.states _)) [
        | inl w ↦ absurd (both_ways (has (stage m (suc k)) t) added.1 (no_confirmation k w t added.0))
        | inr out ↦
            let d = out.0 in
            let d< = has_below m.states (confirmed_in (stage m (suc (suc k)))) (region_length m.states _) d out.1 in
            let both = and_parts (eqb (m.grade d) 0) (has (stage m (suc (suc k))) d) (sym (region_has m.states (λ t. eqb (m.grade t) 0 && has (stage m (suc (suc k))) t) d d<) ∙ out.1) in
            (d, both.0, (both.1, out.2))
      ]

-- the covered part is its own limit
pub covered_size : (m : Arena) → Sized m.states (covered m)
unfolding covered
covered_size m = greatest_size m.states _ (covers_grow m)

pub covered_fixed : (m : Arena) → limit m (covered m) ≡ covered m
unfolding covered
covered_fixed m = greatest_fixed m.states (limit m) (covers_grow m)

-- the first numbers after i phases
pub record Peeled (m : Arena) (i : ℕ) (firsts : List ℕ) : Type 0 where
  pub numbered : (s : ℕ) → has (stage m i) s ≡ true → at firsts s ≡ first m s
  pub small : (s : ℕ) → has (stage m i) s ≡ true → first m s < i
  pub fresh : (s : ℕ) → s < m.states → has (stage m i) s ≡ false → at firsts s ≡ none

-- the ranks before phase i lifts them
abbrev pub Under : Arena → ℕ → List ℕ → Type 0
Under m i ranks = (s : ℕ) → s < m.states → at ranks s ≤ height m (remain m i) s

-- and after
abbrev pub Settled : Arena → ℕ → List ℕ → Type 0
Settled m i ranks = (s : ℕ) → s < m.states → at ranks s ≡ height m (remain m i) s

module _ (m : Arena) (lawful : Lawful m) where
  -- before the first phase
  pub peeled_none : (firsts : List ℕ) → ((s : ℕ) → s < m.states → at firsts s ≡ none) → Peeled m 0 firsts
  peeled_none firsts h =
      record {
        numbered = λ s e. absurd (nothing_has m.states s e);
        small = λ s e. absurd (nothing_has m.states s e);
        fresh = λ s lt _. h s lt;
      }

  module _ (i : ℕ) (i≤ : i ≤ m.states) (firsts : List ℕ) (peeled : Peeled m i firsts) where
    -- the states without a number are those that remain
    pub unnumbered_is : (s : ℕ) → s < m.states → unnumbered firsts s ≡ has (remain m i) s
    unnumbered_is s lt =
        elim (cases_Bool (has (stage m i) s)) [
          | inl t ↦
              let few = lawful.limited in
              ne_eqb (at firsts s) none (λ e. omega (arith, e, peeled.numbered s t, peeled.small s t, few, i≤)) ∙ sym (remain_not m lawful i s lt ∙ ap not t)
          | inr f ↦ eq-eqb (at firsts s) none (peeled.fresh s lt f) ∙ sym (remain_not m lawful i s lt ∙ ap not f)
        ]

    value_is : (x : ℕ → ℕ) (s : ℕ) → s < m.states → value m (top_of m) (unnumbered firsts) x s ≡ value m (top_of m) (has (remain m i)) x s
    value_is x s lt =
        ap (λ b. by_grade (m.grade s) (cond b 0 (top_of m)) (min (top_of m) (best m (top_of m) x s (m.commands s) + 1)) (best m (top_of m) x s (m.commands s))) (holds_agree m lawful (unnumbered firsts) (has (remain m i)) unnumbered_is s lt)

    -- lifting to the end gives the heights
    pub settled : (before after : List ℕ) → Under m i before → Raised m (top_of m) (unnumbered firsts) before after → Calm m (top_of m) (unnumbered firsts) (at after) → Settled m i after
    settled before after under raised calm s lt =
        let high : Calm m (top_of m) (unnumbered firsts) (height m (remain m i)) = λ t t<. omega (arith, value_is (height m (remain m i)) t t<, height_calm m lawful (remain m i) t t<) in
        let low : Calm m (top_of m) (has (remain m i)) (at after) = λ t t<. omega (arith, value_is (at after) t t<, calm t t<) in
        omega (arith, raised.under (height m (remain m i)) high under s lt, height_least m lawful (remain m i) (at after) low s lt)

    module _ (ranks : List ℕ) (done : Settled m i ranks) where
      -- the states that are lost in phase i are those that stage i + 1 adds
      lost_added : (s : ℕ) → s < m.states → lost (top_of m) ranks firsts s ≡ true → Added (stage m i) (stage m (suc i)) s
      lost_added s lt h =
          let both = and_parts (unnumbered firsts s) (eqb (at ranks s) (top_of m)) h in
          let at_top = eqb-true (at ranks s) (top_of m) both.1 in
          let gone : has (remain m (suc i)) s ≡ false = elim (cases_Bool (has (limit m (remain m i)) s)) [
            | inl t ↦ absurd (omega (arith, done s lt, at_top, (limit_height m lawful (remain m i) s t).1))
            | inr f ↦ f
          ] in
          (stage_not m lawful (suc i) s lt ∙ ap not gone, stage_not m lawful i s lt ∙ ap not (sym (unnumbered_is s lt) ∙ both.0))

      added_lost : (s : ℕ) → Added (stage m i) (stage m (suc i)) s → lost (top_of m) ranks firsts s ≡ true
      added_lost s added =
          let lt = stage_below m lawful (suc i) s added.0 in
          let gone : has (limit m (remain m i)) s ≡ false = remain_not m lawful (suc i) s lt ∙ ap not added.0 in
          let high : height m (remain m i) s ≡ top_of m = elim (cases_lt (height m (remain m i) s) (top_of m)) [
            | inl less ↦ absurd (both_ways (has (limit m (remain m i)) s) gone (height_limit m lawful (remain m i) s less))
            | inr ge ↦ omega (arith, ge, height_le m (remain m i) s)
          ] in
          and_from (unnumbered firsts s) (eqb (at ranks s) (top_of m)) (unnumbered_is s lt ∙ (remain_not m lawful i s lt ∙ ap not added.1)) (eq-eqb (at ranks s) (top_of m) (done s lt ∙ high))

      -- a state that is added has i for its first number
      added_first : (s : ℕ) → Added (stage m i) (stage m (suc i)) s → (first m s ≡ i) × (i < m.states)
      unfolding first least
      added_first s added =
          let less : i < m.states = elim (cases_eq i m.states) [
            | inl e ↦
                let still : stage m (suc m.states) ≡ stage m m.states = least_fixed m.states _ (stages_grow m) in
                absurd (both_ways (has (stage m i) s) added.1 (ap (λ j. has (stage m j) s) e ∙ (ap (λ U. has U s) (sym still) ∙ (ap (λ j. has (stage m (suc j)) s) (sym e) ∙ added.0))))
            | inr ne ↦ omega (arith, ne, i≤)
          ] in
          (added_number m.states _ (stages_grow m) (λ s. eqb (m.grade s) 0) (stage_jump m lawful) i s m.states added less, less)

      module _ (after : List ℕ) (marked : (s : ℕ) → at after s ≡ cond (lost (top_of m) ranks firsts s) i (at firsts s)) where
        not_lost : (s : ℕ) → lost (top_of m) ranks firsts s ≡ false → at after s ≡ at firsts s
        not_lost s f = marked s ∙ cond-false (lost (top_of m) ranks firsts s) i (at firsts s) f

        -- a state of an earlier stage, or one that remains, is not lost now
        kept_stage : (s : ℕ) → has (stage m i) s ≡ true → lost (top_of m) ranks firsts s ≡ false
        kept_stage s t =
            elim (cases_Bool (lost (top_of m) ranks firsts s)) [
              | inl l ↦ absurd (both_ways (has (stage m i) s) (lost_added s (stage_below m lawful i s t) l).1 t)
              | inr f ↦ f
            ]

        kept_remain : (s : ℕ) → s < m.states → has (stage m (suc i)) s ≡ false → lost (top_of m) ranks firsts s ≡ false
        kept_remain s lt e =
            elim (cases_Bool (lost (top_of m) ranks firsts s)) [
              | inl l ↦ absurd (both_ways (has (stage m (suc i)) s) e (lost_added s lt l).0)
              | inr f ↦ f
            ]

        peeled_next : Peeled m (suc i) after
        peeled_next =
            record {
              numbered = λ s e. elim (cases_Bool (has (stage m i) s)) [
                | inl t ↦ not_lost s (kept_stage s t) ∙ peeled.numbered s t
                | inr f ↦ marked s ∙ (cond-true (lost (top_of m) ranks firsts s) i (at firsts s) (added_lost s (e, f)) ∙ sym (added_first s (e, f)).0)
              ];
              small = λ s e. elim (cases_Bool (has (stage m i) s)) [
                | inl t ↦ omega (arith, peeled.small s t)
                | inr f ↦ omega (arith, (added_first s (e, f)).0)
              ];
              fresh = λ s lt e.
                  let before : has (stage m i) s ≡ false = elim (cases_Bool (has (stage m i) s)) [
                    | inl t ↦ absurd (both_ways (has (stage m (suc i)) s) e (rising m.states _ (stages_grow m) i s t))
                    | inr f ↦ f
                  ] in
                  not_lost s (kept_remain s lt e) ∙ peeled.fresh s lt before;
            }

        -- a phase that found a state: on to the next
        pub peeled_more : some (lost (top_of m) ranks firsts) m.states ≡ true → Peeled m (i + 1) after × Under m (i + 1) ranks × (i + 1 ≤ m.states)
        peeled_more any =
            let w = some_one (lost (top_of m) ranks firsts) m.states any in
            rw add-one (peeled_next, (λ s lt. omega (arith, done s lt, height_mono m (remain m (suc i)) (remain m i) (falling m.states (limit m) (covers_grow m) i) s)), (added_first w.0 (lost_added w.0 w.1 w.2)).1)

        -- a phase that found none: the covered part is left
        module _ (none_lost : some (lost (top_of m) ranks firsts) m.states ≡ false) where
          all_kept : (s : ℕ) → s < m.states → lost (top_of m) ranks firsts s ≡ false
          all_kept s lt = not_some (lost (top_of m) ranks firsts) m.states s none_lost lt

          stage_end : stage m m.states ≡ stage m i
          stage_end =
              rising_stuck m.states _ (stages_grow m) i m.states (λ s e. elim (cases_Bool (has (stage m i) s)) [
                | inl t ↦ t
                | inr f ↦ absurd (both_ways (lost (top_of m) ranks firsts s) (all_kept s (stage_below m lawful (suc i) s e)) (added_lost s (e, f)))
              ]) i≤

          covered_stage : (s : ℕ) → s < m.states → has (covered m) s ≡ not (has (stage m i) s)
          covered_stage s lt =
              ap (λ U. has U s) (covered_remain m lawful) ∙ (remain_not m lawful m.states s lt ∙ ap (λ U. not (has U s)) stage_end)

          covered_is : covered m ≡ remain m i
          covered_is =
              let here : (s : ℕ) → s < m.states → has (covered m) s ≡ has (remain m i) s = λ s lt. covered_stage s lt ∙ sym (remain_not m lawful i s lt) in
              let size = covered_size m in
              within_both m.states (covered m) (remain m i) size (falling_size m.states (limit m) (covers_grow m) i)
              (λ s e. sym (here s (has_below m.states (covered m) size s e)) ∙ e)
              (λ s e. here s (has_below m.states (remain m i) (falling_size m.states (limit m) (covers_grow m) i) s e) ∙ e)

          end_rank : (s : ℕ) → s < m.states → at ranks s ≡ height m (covered m) s
          end_rank s lt = done s lt ∙ ap (λ U. height m U s) (sym covered_is)

          in_stage : (s : ℕ) → s < m.states → has (covered m) s ≡ false → has (stage m i) s ≡ true
          in_stage s lt f = not-false (has (stage m i) s) (sym (covered_stage s lt) ∙ f)

          pub peeled_all : FirstRow m i after × RankRow m ranks
          unfolding rank
          peeled_all = (
            record {
              few = i≤;
              no_first = λ s lt t. not_lost s (all_kept s lt) ∙ peeled.fresh s lt (not-true (has (stage m i) s) (sym (covered_stage s lt) ∙ t));
              numbered = λ s lt f. not_lost s (all_kept s lt) ∙ peeled.numbered s (in_stage s lt f);
              below = λ s lt f. peeled.small s (in_stage s lt f);
            },
            record {
              ranked = λ s lt t. end_rank s lt ∙ (limit_height m lawful (covered m) s (ap (λ U. has U s) (covered_fixed m) ∙ t)).0;
              unranked = λ s lt f. end_rank s lt ∙ elim (cases_lt (height m (covered m) s) (top_of m)) [
                | inl less ↦ absurd (both_ways (has (covered m) s) f (ap (λ U. has U s) (sym (covered_fixed m)) ∙ height_limit m lawful (covered m) s less))
                | inr ge ↦ omega (arith, ge, height_le m (covered m) s)
              ];
            },
          )

-- one whole phase: lifted, and marked
module _ (m : Arena) (lawful : Lawful m) (i top n : ℕ) (top_is : top ≡ top_of m) (n_is : n ≡ m.states) (i≤ : i ≤ m.states) (firsts before ranks after : List ℕ) (peeled : Peeled m i firsts) (under : Under m i before) (raised : Raised m top (unnumbered firsts) before ranks) (calm : Calm m top (unnumbered firsts) (at ranks)) (marked : (s : ℕ) → at after s ≡ cond (lost top ranks firsts s) i (at firsts s)) (any : Bool) (any_is : any ≡ some (lost top ranks firsts) n) where
  lifted : Settled m i ranks
  lifted =
      settled m lawful i i≤ firsts peeled before ranks under
      (subst (λ t. Raised m t (unnumbered firsts) before ranks) top_is raised)
      (subst (λ t. Calm m t (unnumbered firsts) (at ranks)) top_is calm)

  marks : (s : ℕ) → at after s ≡ cond (lost (top_of m) ranks firsts s) i (at firsts s)
  marks = subst (λ t. (s : ℕ) → at after s ≡ cond (lost t ranks firsts s) i (at firsts s)) top_is marked

  found : some (lost (top_of m) ranks firsts) m.states ≡ any
  found = sym (any_is ∙ (ap (λ t. some (lost t ranks firsts) n) top_is ∙ ap (some (lost (top_of m) ranks firsts)) n_is))

  pub phase_more : any ≡ true → Peeled m (i + 1) after × Under m (i + 1) ranks × (i + 1 ≤ m.states)
  phase_more h = peeled_more m lawful i i≤ firsts peeled ranks lifted after marks (found ∙ h)

  pub phase_last : any ≡ false → FirstRow m i after × RankRow m ranks
  phase_last h = peeled_all m lawful i i≤ firsts peeled ranks lifted after marks (found ∙ h)
