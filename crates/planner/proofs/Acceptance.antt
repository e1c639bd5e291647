-- The planned pair keeps the rules of the check.
use Rattle.parts.specs.Regions as regions
use Rattle.std.proofs.Common.{◌≡◌, ℕ, zero, suc, ◌*◌, ◌<◌, ◌≤◌, Bool, true, false, not, eqb, List, length, sym, refl, ap, ◌∙◌, subst, inl, inr, arith}
use Rattle.std.proofs.lemmas.Bool.{cases_Bool, and_from, and_parts, cond-true, cond-false, not-true}
use Rattle.site.specs.Arena.{Arena, Lawful, graded}
use Rattle.site.specs.Counting.{every}
use Rattle.site.specs.CountingLaws.{every_at}
use Rattle.checker.specs.Checked.{rank_kept, numbers_kept}
use Rattle.checker.specs.Leaves.{leaf_at, reply_at, is_covered}
use Rattle.checker.specs.Witness.{RankKept, NumbersKept, StaysCovered, StaysOpen, KeepsCovered, KeepsOpen, Keeps, Accepted}
use Rattle.checker.specs.declared.leaves.Leaf.{Leaf}
use Rattle.checker.specs.declared.leaves.Leaf.TheVariants.{Covered, Open}
use Rattle.checker.proofs.Laws.{rank_decides, numbers_decides}
use Rattle.parts.specs.Moves.{holds, blocks, by_grade}
use Rattle.parts.specs.Regions.{has, level, stage, round, covered, nothing, F, G, greatest, iterate, least, lowest}
use Rattle.parts.proofs.Forces.{every_from, holds_is, blocks_is, levels_grow, stages_grow}
use Rattle.parts.proofs.Heights.{level_is, holds_nothing}
use Rattle.parts.proofs.Ladders.{Added, step_bound, lowest_added}
use Rattle.parts.proofs.Levels.{limit_step, level_bound}
use Rattle.parts.proofs.Lowest.{lowest_min, lowest_passes}
use Rattle.parts.proofs.Peeling.{covered_fixed, covered_size, stage_jump, stage_below}
use Rattle.parts.proofs.Regions.{Within, has_below, nothing_has, rising_least}
use Rattle.parts.proofs.Turns.{turn, round_grows, round_jump, round_in, round_rule, round_last}
use Rattle.parts.proofs.Worded.{words}
use Rattle.planner.specs.Choices.{keeps_rule, answers_rule, chosen_command, chosen_reply, chosen_leaf, leaves_written, replies_written}
use Rattle.planner.specs.Planned.{numbers}
use Rattle.planner.proofs.Written.{leaves_length, replies_length, leaf_written, reply_written}

module _ (m : Arena) (lawful : Lawful m) where
  -- covered states: the rank is that of a level, and is the least such
  rank_small : (s : ℕ) → has (covered m) s ≡ true → regions.rank m s < m.states
  unfolding regions.rank
  rank_small s h = limit_step m lawful (covered m) s (ap (λ U. has U s) (covered_fixed m) ∙ h)

  rank_added : (s : ℕ) → has (covered m) s ≡ true → Added (level m (covered m) (regions.rank m s)) (level m (covered m) (suc (regions.rank m s))) s
  unfolding regions.rank
  rank_added s h = lowest_added m.states (λ Y. greatest m.states (F m (covered m) Y)) s m.states (rank_small s h)

  rank_min : (s k : ℕ) → k < m.states → has (level m (covered m) (suc k)) s ≡ true → regions.rank m s ≤ k
  unfolding regions.rank
  rank_min s k lt h = lowest_min (λ k. has (level m (covered m) (suc k)) s) m.states k lt h

  level_covered : (k : ℕ) → Within (level m (covered m) k) (covered m)
  level_covered k s h =
      ap (λ U. has U s) (sym (covered_fixed m)) ∙ rising_least m.states (λ Y. greatest m.states (F m (covered m) Y)) (levels_grow m (covered m)) k s h

  pub rank_bounded : (s : ℕ) → has (covered m) s ≡ true → regions.rank m s ≤ graded m 1
  rank_bounded s h = level_bound m lawful (covered m) (regions.rank m s) s (rank_added s h)

  -- a covered state has a command that keeps its rule
  book_step : (s g r : ℕ) → s < m.states → r < m.states → by_grade g (holds m (has (covered m)) s) (holds m (has (level m (covered m) r)) s) (holds m (has (level m (covered m) (suc r))) s) ≡ true → (a : ℕ) × (a < m.commands s) × ((b : ℕ) → b < m.events s → (has (covered m) (m.next s a b) ≡ true) × RankKept g r (regions.rank m (m.next s a b)))
  book_step s zero r s< r< h =
      let w = holds_is m (has (covered m)) s h in
      (w.0, w.1, λ b b<. (w.2 b b<, ((λ e. absurd (omega (arith, e))), (λ e. absurd (omega (arith, e))))))
  book_step s (suc zero) zero s< r< h = absurd (holds_nothing m lawful (covered m) m.states s s< h)
  book_step s (suc zero) (suc r) s< r< h =
      let w = holds_is m (has (level m (covered m) (suc r))) s h in
      (w.0, w.1, λ b b<. (level_covered (suc r) (m.next s w.0 b) (w.2 b b<), ((λ e. omega (arith, rank_min (m.next s w.0 b) r (omega arith) (w.2 b b<))), (λ e. absurd (omega (arith, e))))))
  book_step s (suc (suc g)) r s< r< h =
      let w = holds_is m (has (level m (covered m) (suc r))) s h in
      (w.0, w.1, λ b b<. (level_covered (suc r) (m.next s w.0 b) (w.2 b b<), ((λ e. absurd (omega (arith, e))), (λ e. rank_min (m.next s w.0 b) r r< (w.2 b b<)))))

  book_command : (s : ℕ) → has (covered m) s ≡ true → (a : ℕ) × (a < m.commands s) × ((b : ℕ) → b < m.events s → keeps_rule m (numbers m) s a b ≡ true)
  book_command s h =
      let s< = has_below m.states (covered m) (covered_size m) s h in
      let w = book_step s (m.grade s) (regions.rank m s) s< (rank_small s h) (level_is m lawful (covered m) (regions.rank m s) s (rank_added s h).0) in
      (w.0, w.1, λ b b<. and_from (has (covered m) (m.next s w.0 b)) _ (w.2 b b<).0 ((rank_decides (m.grade s) (regions.rank m s) (regions.rank m (m.next s w.0 b))).1 (w.2 b b<).1))

  -- so the chosen one does
  pub chosen_keeps : (s : ℕ) → has (covered m) s ≡ true → (chosen_command m (numbers m) s < m.commands s) × ((b : ℕ) → b < m.events s → keeps_rule m (numbers m) s (chosen_command m (numbers m) s) b ≡ true)
  chosen_keeps s h =
      let w = book_command s h in
      let p : ℕ → Bool = λ a. every (keeps_rule m (numbers m) s a) (m.events s) in
      let low = lowest_min p (m.commands s) w.0 w.1 (every_from (keeps_rule m (numbers m) s w.0) (m.events s) w.2) in
      let lt : chosen_command m (numbers m) s < m.commands s = omega (arith, low, w.1) in
      (lt, λ b b<. every_at (keeps_rule m (numbers m) s (chosen_command m (numbers m) s)) (m.events s) b (lowest_passes p (m.commands s) lt) b<)

  -- open states: the first number is that of a stage, the second that of a round, each the least such
  stage_open : (i s : ℕ) → has (stage m i) s ≡ true → has (covered m) s ≡ false
  stage_open i s h =
      elim (cases_Bool (has (covered m) s)) [
        | inl cov ↦ absurd ((words m lawful).no_both s i cov h)
        | inr f ↦ f
      ]

  first_small : (s : ℕ) → s < m.states → has (covered m) s ≡ false → regions.first m s < m.states
  unfolding regions.first
  first_small s lt f =
      let w = (words m lawful).some_stage s lt f in
      omega (arith, w.1, lowest_min (λ i. has (stage m (suc i)) s) m.states w.0 w.1 w.2)

  first_added : (s : ℕ) → s < m.states → has (covered m) s ≡ false → Added (stage m (regions.first m s)) (stage m (suc (regions.first m s))) s
  unfolding regions.first
  first_added s lt f = lowest_added m.states (λ X. greatest m.states (λ Y. least m.states (G m X Y))) s m.states (first_small s lt f)

  first_min : (s i : ℕ) → i < m.states → has (stage m (suc i)) s ≡ true → regions.first m s ≤ i
  unfolding regions.first
  first_min s i lt h = lowest_min (λ i. has (stage m (suc i)) s) m.states i lt h

  pub first_bounded : (s : ℕ) → s < m.states → has (covered m) s ≡ false → regions.first m s ≤ graded m 0
  first_bounded s lt f =
      step_bound m.states _ (stages_grow m) (λ s. eqb (m.grade s) 0) (stage_jump m lawful) (regions.first m s) s (first_added s lt f)

  turn_small : (i s : ℕ) → has (stage m (suc i)) s ≡ true → turn m i s < m.states
  unfolding turn
  turn_small i s h = go m.states refl where
    go : (n : ℕ) → m.states ≡ n → lowest (λ j. has (round m i (suc j)) s) m.states < m.states
    go zero e = absurd (omega (arith, e, stage_below m lawful (suc i) s h))
    go (suc n) e =
        let here : has (round m i (suc n)) s ≡ true = ap (λ k. has (round m i k) s) (sym e) ∙ (ap (λ U. has U s) (round_last m lawful i) ∙ h) in
        omega (arith, e, lowest_min (λ j. has (round m i (suc j)) s) m.states n (omega (arith, e)) here)

  turn_added : (i s : ℕ) → has (stage m (suc i)) s ≡ true → Added (round m i (turn m i s)) (round m i (suc (turn m i s))) s
  unfolding turn
  turn_added i s h = lowest_added m.states (G m (stage m i) (stage m (suc i))) s m.states (turn_small i s h)

  turn_min : (i s j : ℕ) → j < m.states → has (round m i (suc j)) s ≡ true → turn m i s ≤ j
  unfolding turn
  turn_min i s j lt h = lowest_min (λ j. has (round m i (suc j)) s) m.states j lt h

  second_is : (s : ℕ) → regions.second m s ≡ turn m (regions.first m s) s
  unfolding regions.second turn
  second_is s = refl

  pub second_bounded : (s : ℕ) → s < m.states → has (covered m) s ≡ false → regions.second m s ≤ graded m 2
  second_bounded s lt f =
      let i = regions.first m s in
      omega (arith, second_is s, step_bound m.states _ (round_grows m lawful i) (λ s. eqb (m.grade s) 2) (round_jump m lawful i) (turn m i s) s (turn_added i s (first_added s lt f).0))

  -- an open state has for each command an event that keeps its rule
  reply_step : (s g u w : ℕ) → s < m.states → u < m.states → w < m.states → by_grade g (blocks m (has (stage m u)) s) (blocks m (has (stage m (suc u))) s) (blocks m (has (round m u w)) s) ≡ true → (a : ℕ) → a < m.commands s → (b : ℕ) × (b < m.events s) × (has (covered m) (m.next s a b) ≡ false) × NumbersKept g u w (regions.first m (m.next s a b)) (regions.second m (m.next s a b))
  reply_step s zero zero w s< u< w< h a a< =
      let x = blocks_is m (has (stage m 0)) s h a a< in absurd (nothing_has m.states (m.next s a x.0) x.2)
  reply_step s zero (suc u) w s< u< w< h a a< =
      let x = blocks_is m (has (stage m (suc u))) s h a a< in
      let t = m.next s a x.0 in
      (x.0, x.1, stage_open (suc u) t x.2, ((λ e. omega (arith, first_min t u (omega arith) x.2)), (λ e. absurd (omega (arith, e))), (λ e. absurd (omega (arith, e)))))
  reply_step s (suc zero) u w s< u< w< h a a< =
      let x = blocks_is m (has (stage m (suc u))) s h a a< in
      let t = m.next s a x.0 in
      (x.0, x.1, stage_open (suc u) t x.2, ((λ e. absurd (omega (arith, e))), (λ e. first_min t u u< x.2), (λ e. absurd (omega (arith, e)))))
  reply_step s (suc (suc g)) u zero s< u< w< h a a< =
      let x = blocks_is m (has (round m u 0)) s h a a< in absurd (nothing_has m.states (m.next s a x.0) x.2)
  reply_step s (suc (suc g)) u (suc w) s< u< w< h a a< =
      let x = blocks_is m (has (round m u (suc w))) s h a a< in
      let t = m.next s a x.0 in
      let in_stage = round_in m lawful u (suc w) t x.2 in
      (x.0, x.1, stage_open (suc u) t in_stage, ((λ e. absurd (omega (arith, e))), (λ e. absurd (omega (arith, e))), (λ e. (first_min t u u< in_stage, (λ same. omega (arith, second_is t ∙ ap (λ i. turn m i t) same, turn_min u t w (omega arith) x.2))))))

  floor_reply : (s : ℕ) → s < m.states → has (covered m) s ≡ false → (a : ℕ) → a < m.commands s → (b : ℕ) × (b < m.events s) × (answers_rule m (numbers m) s a b ≡ true)
  floor_reply s lt f a a< =
      let u = regions.first m s in
      let added = first_added s lt f in
      let rule = round_rule m lawful u (turn m u s) s (turn_added u s added.0).0 in
      let x = reply_step s (m.grade s) u (turn m u s) lt (first_small s lt f) (turn_small u s added.0) rule a a< in
      let t = m.next s a x.0 in
      let kept : NumbersKept (m.grade s) u (regions.second m s) (regions.first m t) (regions.second m t) = subst (λ w. NumbersKept (m.grade s) u w (regions.first m t) (regions.second m t)) (sym (second_is s)) x.3 in
      (x.0, x.1, and_from (not (has (covered m) t)) _ (ap not x.2) ((numbers_decides (m.grade s) u (regions.second m s) (regions.first m t) (regions.second m t)).1 kept))

  pub chosen_answers : (s : ℕ) → s < m.states → has (covered m) s ≡ false → (a : ℕ) → a < m.commands s → (chosen_reply m (numbers m) s a < m.events s) × (answers_rule m (numbers m) s a (chosen_reply m (numbers m) s a) ≡ true)
  chosen_answers s lt f a a< =
      let x = floor_reply s lt f a a< in
      let low = lowest_min (answers_rule m (numbers m) s a) (m.events s) x.0 x.1 x.2 in
      let less : chosen_reply m (numbers m) s a < m.events s = omega (arith, low, x.1) in
      (less, lowest_passes (answers_rule m (numbers m) s a) (m.events s) less)

  -- the pair that planning writes is accepted
  module _ (leaves : List Leaf) (replies : List ℕ) (long : m.states ≤ length leaves) (wide : 16 * m.states ≤ length replies) where
    L : List Leaf
    L = leaves_written m (numbers m) m.states leaves

    R : List ℕ
    R = replies_written m (numbers m) m.states replies

    leaf_is : (t : ℕ) → t < m.states → leaf_at L t ≡ chosen_leaf m (numbers m) t
    unfolding L
    leaf_is t lt = leaf_written m (numbers m) m.states leaves t lt long

    keeps_covered : (s : ℕ) → s < m.states → has (covered m) s ≡ true → KeepsCovered m L s (chosen_command m (numbers m) s) (regions.rank m s)
    keeps_covered s lt cov =
        let k = chosen_keeps s cov in
        let a = chosen_command m (numbers m) s in
        record {
          own = k.0;
          bounded = rank_bounded s cov;
          stays = λ b b<.
              let t = m.next s a b in
              let t< = lawful.closed s a b lt k.0 b< in
              let both = and_parts (has (covered m) t) (rank_kept (m.grade s) (regions.rank m s) (regions.rank m t)) (k.1 b b<) in
              subst (StaysCovered (m.grade s) (regions.rank m s)) (sym (leaf_is t t< ∙ cond-true (has (covered m) t) _ _ both.0)) ((rank_decides (m.grade s) (regions.rank m s) (regions.rank m t)).0 both.1);
        }

    keeps_open : (s : ℕ) → s < m.states → has (covered m) s ≡ false → KeepsOpen m L R s (regions.first m s) (regions.second m s)
    unfolding R
    keeps_open s lt f =
        record {
          bounded_first = first_bounded s lt f;
          bounded_second = second_bounded s lt f;
          own = λ a a<. rw (reply_is a a<) (chosen_answers s lt f a a<).0;
          stays = λ a a<.
              let k = chosen_answers s lt f a a< in
              let t = m.next s a (chosen_reply m (numbers m) s a) in
              let t< = lawful.closed s a (chosen_reply m (numbers m) s a) lt a< k.0 in
              let both = and_parts (not (has (covered m) t)) (numbers_kept (m.grade s) (regions.first m s) (regions.second m s) (regions.first m t) (regions.second m t)) k.1 in
              rw (reply_is a a<) (subst (StaysOpen (m.grade s) (regions.first m s) (regions.second m s)) (sym (leaf_is t t< ∙ cond-false (has (covered m) t) _ _ (not-true (has (covered m) t) both.0))) ((numbers_decides (m.grade s) (regions.first m s) (regions.second m s) (regions.first m t) (regions.second m t)).0 both.1));
        }
      where
        reply_is : (a : ℕ) → a < m.commands s → reply_at (replies_written m (numbers m) m.states replies) s a ≡ chosen_reply m (numbers m) s a
        reply_is a a< = reply_written m (numbers m) lawful m.states replies s a lt wide f a<

    pub planned_accepted : Accepted m (leaves_written m (numbers m) m.states leaves) (replies_written m (numbers m) m.states replies)
    unfolding L R
    planned_accepted =
        record {
          enough_leaves = rw (leaves_length m (numbers m) m.states leaves) long;
          enough_replies = rw (replies_length m (numbers m) m.states replies) wide;
          keeps = λ s lt. subst (Keeps m L R s) (sym (leaf_is s lt)) (elim (cases_Bool (has (covered m) s)) [
            | inl cov ↦ subst (Keeps m L R s) (sym (cond-true (has (covered m) s) (Covered (chosen_command m (numbers m) s) (regions.rank m s)) (Open (regions.first m s) (regions.second m s)) cov)) (keeps_covered s lt cov)
            | inr f ↦ subst (Keeps m L R s) (sym (cond-false (has (covered m) s) (Covered (chosen_command m (numbers m) s) (regions.rank m s)) (Open (regions.first m s) (regions.second m s)) f)) (keeps_open s lt f)
          ]);
        }

    -- its covered states are the covered part
    pub planned_part : (s : ℕ) → s < m.states → is_covered (leaf_at (leaves_written m (numbers m) m.states leaves) s) ≡ has (covered m) s
    unfolding L
    planned_part s lt =
        ap is_covered (leaf_is s lt) ∙ (elim (cases_Bool (has (covered m) s)) [
          | inl cov ↦ ap is_covered (cond-true (has (covered m) s) (Covered (chosen_command m (numbers m) s) (regions.rank m s)) (Open (regions.first m s) (regions.second m s)) cov) ∙ sym cov
          | inr f ↦ ap is_covered (cond-false (has (covered m) s) (Covered (chosen_command m (numbers m) s) (regions.rank m s)) (Open (regions.first m s) (regions.second m s)) f) ∙ sym f
        ])
