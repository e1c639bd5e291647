-- The rounds of a stage: what the labels hold, and that they are the second numbers in the end.
use Rattle.std.proofs.Common.{◌≡◌, ℕ, zero, suc, ◌<◌, ◌≤◌, Bool, true, false, cond, not, ◌&&◌, eqb, ltb, leb, List, sym, refl, ap, ◌∙◌, inl, inr, arith}
use Rattle.std.proofs.lemmas.Bool.{cases_lt, cases_eq, cases_Bool, both_ways, and_from, and_parts, eq-eqb, eqb-true, lt-ltb, le-ltb, le-leb, lt-leb, cond-true, cond-false, not-true}
use Rattle.site.specs.Arena.{Arena, Lawful}
use Rattle.site.specs.Counting.{some}
use Rattle.parts.specs.Moves.{blocks, by_grade}
use Rattle.parts.specs.Lifting.{at, none, unnumbered}
use Rattle.parts.specs.Regions.{has, nothing, G, least, covered, stage, round, lowest, first, second}
use Rattle.parts.specs.Rows.{FirstRow}
use Rattle.parts.specs.Written.{ready, waiting, due}
use Rattle.parts.proofs.Duals.{blocks_agree, remain_not, covered_remain}
use Rattle.parts.proofs.Forces.{stages_grow, rounds_grow, G_grows, blocks_is}
use Rattle.parts.proofs.Ladders.{Added, added_number}
use Rattle.parts.proofs.Lowest.{lowest_found, not_some, lowest_passes, lowest_min}
use Rattle.parts.proofs.Peeling.{stage_rule, stage_below}
use Rattle.parts.proofs.Regions.{Within, region_has, greatest_fixed, least_fixed, rising, rising_mono, rising_least, nothing_has, Growing}

-- by which round of the stage after X(i) the floor has state s
unfoldable pub turn : Arena → ℕ → ℕ → ℕ
turn m i s = lowest (λ j. has (round m i (suc j)) s) m.states

-- what the labels of the stage after X(i) hold before round j
pub record Labelled (m : Arena) (i j : ℕ) (labels : List ℕ) : Type 0 where
  pub labelled : (s : ℕ) → has (round m i j) s ≡ true → at labels s ≡ turn m i s
  pub early : (s : ℕ) → has (round m i j) s ≡ true → turn m i s < j
  pub unlabelled : (s : ℕ) → s < m.states → has (round m i j) s ≡ false → at labels s ≡ none

module _ (m : Arena) (lawful : Lawful m) (i : ℕ) where
  pub round_grows : Growing m.states (G m (stage m i) (stage m (suc i)))
  round_grows = G_grows m (stage m i) (stage m (suc i))

  pub round_end : least m.states (G m (stage m i) (stage m (suc i))) ≡ stage m (suc i)
  round_end = greatest_fixed m.states (λ Y. least m.states (G m (stage m i) Y)) (rounds_grow m (stage m i))

  pub round_last : round m i m.states ≡ stage m (suc i)
  unfolding least
  round_last = round_end

  -- the rounds stay in the stage
  pub round_in : (j : ℕ) → Within (round m i j) (stage m (suc i))
  round_in j s e = ap (λ U. has U s) (sym round_end) ∙ rising_least m.states (G m (stage m i) (stage m (suc i))) round_grows j s e

  pub round_rule : (j s : ℕ) → has (round m i (suc j)) s ≡ true → by_grade (m.grade s) (blocks m (has (stage m i)) s) (blocks m (has (stage m (suc i))) s) (blocks m (has (round m i j)) s) ≡ true
  round_rule j s e =
      sym (region_has m.states _ s (stage_below m lawful (suc i) s (round_in (suc j) s e))) ∙ e

  round_from : (j s : ℕ) → s < m.states → by_grade (m.grade s) (blocks m (has (stage m i)) s) (blocks m (has (stage m (suc i))) s) (blocks m (has (round m i j)) s) ≡ true → has (round m i (suc j)) s ≡ true
  round_from j s lt e = region_has m.states _ s lt ∙ e

  -- a state that is not ordinary is in the first round or in none
  settled_step : (j s g : ℕ) → by_grade g false false true ≡ false → by_grade g (blocks m (has (stage m i)) s) (blocks m (has (stage m (suc i))) s) (blocks m (has (stage m (suc i))) s) ≡ true → by_grade g (blocks m (has (stage m i)) s) (blocks m (has (stage m (suc i))) s) (blocks m (has (round m i j)) s) ≡ true
  settled_step j s zero n h = h
  settled_step j s (suc zero) n h = h
  settled_step j s (suc (suc g)) n h = absurd (both_ways true n refl)

  first_round : (s : ℕ) → by_grade (m.grade s) false false true ≡ false → has (stage m (suc i)) s ≡ true → has (round m i 1) s ≡ true
  first_round s n h = round_from 0 s (stage_below m lawful (suc i) s h) (settled_step 0 s (m.grade s) n (stage_rule m lawful i s h))

  -- nobody is forced into nothing
  blocks_nothing : (s : ℕ) → s < m.states → blocks m (has (nothing m.states)) s ≡ true → ⊥
  blocks_nothing s lt h =
      let w = blocks_is m (has (nothing m.states)) s h 0 (lawful.some_command s lt) in
      nothing_has m.states (m.next s 0 w.0) w.2

  not_first : (s g : ℕ) → s < m.states → by_grade g (blocks m (has (stage m i)) s) (blocks m (has (stage m (suc i))) s) (blocks m (has (nothing m.states)) s) ≡ true → by_grade g false false true ≡ false
  not_first s zero lt h = refl
  not_first s (suc zero) lt h = refl
  not_first s (suc (suc g)) lt h = absurd (blocks_nothing s lt h)

  -- a round adds ordinary states only, but for the first
  pub round_jump : (k t : ℕ) → Added (round m i (suc k)) (round m i (suc (suc k))) t → (d : ℕ) × (eqb (m.grade d) 2 ≡ true) × Added (round m i (suc k)) (round m i (suc (suc k))) d
  round_jump k t added = (t, go (m.grade t) refl, added) where
    later : by_grade (m.grade t) false false true ≡ false → ⊥
    later n =
        both_ways (has (round m i (suc k)) t) added.1 (rising_mono m.states _ round_grows 1 (suc k) (omega arith) t (first_round t n (round_in (suc (suc k)) t added.0)))

    go : (g : ℕ) → m.grade t ≡ g → eqb (m.grade t) 2 ≡ true
    go zero e = absurd (later (ap (λ g. by_grade g false false true) e))
    go (suc zero) e = absurd (later (ap (λ g. by_grade g false false true) e))
    go (suc (suc g)) e = eq-eqb (m.grade t) 2 (omega (arith, e, lawful.few_grades t))

  -- a round that adds a state comes before the last
  pub added_turn : (j s : ℕ) → j ≤ m.states → Added (round m i j) (round m i (suc j)) s → (turn m i s ≡ j) × (j < m.states)
  unfolding turn least
  added_turn j s j≤ added =
      let less : j < m.states = elim (cases_eq j m.states) [
        | inl e ↦
            let still : round m i (suc m.states) ≡ round m i m.states = least_fixed m.states _ round_grows in
            absurd (both_ways (has (round m i j) s) added.1 (ap (λ k. has (round m i k) s) e ∙ (ap (λ U. has U s) (sym still) ∙ (ap (λ k. has (round m i (suc k)) s) (sym e) ∙ added.0))))
        | inr ne ↦ omega (arith, ne, j≤)
      ] in
      (added_number m.states _ round_grows (λ s. eqb (m.grade s) 2) round_jump j s m.states added less, less)

ready_from : (g : ℕ) (x : Bool) → by_grade g false false true ≡ false → x ≡ true → by_grade g x x false ≡ true
ready_from zero x n h = h
ready_from (suc zero) x n h = h
ready_from (suc (suc g)) x n h = absurd (both_ways true n refl)

ready_is : (g : ℕ) (x : Bool) → by_grade g x x false ≡ true → (by_grade g false false true ≡ false) × (x ≡ true)
ready_is zero x h = (refl, h)
ready_is (suc zero) x h = (refl, h)
ready_is (suc (suc g)) x h = absurd (both_ways false refl h)

-- an ordinary state's rule in a round
ordinary_rule : (g : ℕ) (x y z : Bool) → (by_grade g false false true ≡ false → ⊥) → by_grade g x y z ≡ true → z ≡ true
ordinary_rule zero x y z o h = absurd (o refl)
ordinary_rule (suc zero) x y z o h = absurd (o refl)
ordinary_rule (suc (suc g)) x y z o h = h

ordinary_from : (g : ℕ) (x y z : Bool) → (by_grade g false false true ≡ false → ⊥) → z ≡ true → by_grade g x y z ≡ true
ordinary_from zero x y z o h = absurd (o refl)
ordinary_from (suc zero) x y z o h = absurd (o refl)
ordinary_from (suc (suc g)) x y z o h = h

module _ (m : Arena) (lawful : Lawful m) (many : ℕ) (firsts : List ℕ) (row : FirstRow m many firsts) (i : ℕ) (i< : i < many) where
  -- covered states are in no stage, and open ones in those from their first number on
  covered_not : (s : ℕ) → s < m.states → has (covered m) s ≡ not (has (stage m m.states) s)
  covered_not s lt = ap (λ U. has U s) (covered_remain m lawful) ∙ remain_not m lawful m.states s lt

  pub upto_stage : (s : ℕ) → s < m.states → leb (at firsts s) i ≡ has (stage m (suc i)) s
  unfolding first
  upto_stage s lt =
      elim (cases_Bool (has (covered m) s)) [
        | inl t ↦
            let out : has (stage m m.states) s ≡ false = not-true (has (stage m m.states) s) (sym (covered_not s lt) ∙ t) in
            let away : has (stage m (suc i)) s ≡ false = elim (cases_Bool (has (stage m (suc i)) s)) [
              | inl h ↦ absurd (both_ways (has (stage m m.states) s) out (rising_mono m.states _ (stages_grow m) (suc i) m.states (omega (arith, i<, row.few)) s h))
              | inr f ↦ f
            ] in
            lt-leb (at firsts s) i (omega (arith, row.no_first s lt t, i<, row.few, lawful.limited)) ∙ sym away
        | inr f ↦
            let number = row.numbered s lt f in
            elim (cases_Bool (has (stage m (suc i)) s)) [
              | inl h ↦ le-leb (at firsts s) i (omega (arith, number, lowest_min (λ k. has (stage m (suc k)) s) m.states i (omega (arith, i<, row.few)) h)) ∙ sym h
              | inr g ↦ elim (cases_lt i (at firsts s)) [
                | inl more ↦ lt-leb (at firsts s) i more ∙ sym g
                | inr le ↦ absurd (both_ways (has (stage m (suc i)) s) g (rising_mono m.states _ (stages_grow m) (suc (first m s)) (suc i) (omega (arith, number, le)) s (lowest_passes (λ k. has (stage m (suc k)) s) m.states (omega (arith, row.below s lt f, row.few)))))
              ]
            ]
      ]

  -- the labels with which the stage begins
  pub begun : (labels : List ℕ) → ((s : ℕ) → s < m.states → at labels s ≡ cond (ready m i firsts s) 0 none) → Labelled m i 1 labels
  unfolding turn
  begun labels h =
      record {
        labelled = λ s e. h s (below s e) ∙ (cond-true (ready m i firsts s) 0 none (is_ready s e) ∙ sym (zeroth s e));
        early = λ s e. omega (arith, zeroth s e);
        unlabelled = λ s lt f. h s lt ∙ cond-false (ready m i firsts s) 0 none (elim (cases_Bool (ready m i firsts s)) [
          | inr n ↦ n
          | inl r ↦
              let both = ready_is (m.grade s) (leb (at firsts s) i) r in
              absurd (both_ways (has (round m i 1) s) f (first_round m lawful i s both.0 (sym (upto_stage s lt) ∙ both.1)))
        ]);
      }
    where
      below : (s : ℕ) → has (round m i 1) s ≡ true → s < m.states
      below s e = stage_below m lawful (suc i) s (round_in m lawful i 1 s e)

      is_ready : (s : ℕ) → has (round m i 1) s ≡ true → ready m i firsts s ≡ true
      is_ready s e = ready_from (m.grade s) (leb (at firsts s) i) (not_first m lawful i s (m.grade s) (below s e) (round_rule m lawful i 0 s e)) (upto_stage s (below s e) ∙ round_in m lawful i 1 s e)

      zeroth : (s : ℕ) → has (round m i 1) s ≡ true → lowest (λ j. has (round m i (suc j)) s) m.states ≡ 0
      zeroth s e = lowest_found (λ j. has (round m i (suc j)) s) m.states 0 refl e (omega (arith, below s e))

  module _ (j : ℕ) (one : 1 ≤ j) (j≤ : j ≤ m.states) (labels : List ℕ) (so_far : Labelled m i j labels) where
    label_below : (t : ℕ) → t < m.states → ltb (at labels t) j ≡ has (round m i j) t
    label_below t lt =
        elim (cases_Bool (has (round m i j) t)) [
          | inl h ↦ lt-ltb (at labels t) j (omega (arith, so_far.labelled t h, so_far.early t h)) ∙ sym h
          | inr f ↦ le-ltb (at labels t) j (omega (arith, so_far.unlabelled t lt f, j≤, lawful.limited)) ∙ sym f
        ]

    -- a state of the stage that no round has so far is ordinary
    ordinary : (s : ℕ) → has (stage m (suc i)) s ≡ true → has (round m i j) s ≡ false → by_grade (m.grade s) false false true ≡ false → ⊥
    ordinary s h f n = both_ways (has (round m i j) s) f (rising_mono m.states _ (round_grows m lawful i) 1 j one s (first_round m lawful i s n h))

    due_added : (s : ℕ) → s < m.states → due m i j firsts labels s ≡ true → Added (round m i j) (round m i (suc j)) s
    due_added s lt d =
        let p = and_parts (leb (at firsts s) i) (unnumbered labels s && blocks m (λ t. ltb (at labels t) j) s) d in
        let q = and_parts (unnumbered labels s) (blocks m (λ t. ltb (at labels t) j) s) p.1 in
        let bare = eqb-true (at labels s) none q.0 in
        let h = sym (upto_stage s lt) ∙ p.0 in
        let f : has (round m i j) s ≡ false = elim (cases_Bool (has (round m i j) s)) [
          | inl t ↦ absurd (omega (arith, bare, so_far.labelled s t, so_far.early s t, j≤, lawful.limited))
          | inr f ↦ f
        ] in
        (round_from m lawful i j s lt (ordinary_from (m.grade s) _ _ _ (ordinary s h f) (sym (blocks_agree m lawful (λ t. ltb (at labels t) j) (has (round m i j)) label_below s lt) ∙ q.1)), f)

    added_due : (s : ℕ) → Added (round m i j) (round m i (suc j)) s → due m i j firsts labels s ≡ true
    added_due s added =
        let h = round_in m lawful i (suc j) s added.0 in
        let lt = stage_below m lawful (suc i) s h in
        and_from (leb (at firsts s) i) (unnumbered labels s && blocks m (λ t. ltb (at labels t) j) s) (upto_stage s lt ∙ h)
        (and_from (unnumbered labels s) (blocks m (λ t. ltb (at labels t) j) s) (eq-eqb (at labels s) none (so_far.unlabelled s lt added.1))
        (blocks_agree m lawful (λ t. ltb (at labels t) j) (has (round m i j)) label_below s lt ∙ ordinary_rule (m.grade s) _ _ _ (ordinary s h added.1) (round_rule m lawful i j s added.0)))

    -- one round more
    pub rounded : (after : List ℕ) → ((s : ℕ) → s < m.states → at after s ≡ cond (due m i j firsts labels s) j (at labels s)) → Labelled m i (suc j) after
    rounded after h =
        record {
          labelled = λ s e. elim (cases_Bool (has (round m i j) s)) [
            | inl t ↦ kept s (within s e) (old s (within s e) t) ∙ so_far.labelled s t
            | inr f ↦ h s (within s e) ∙ (cond-true (due m i j firsts labels s) j (at labels s) (added_due s (e, f)) ∙ sym (added_turn m lawful i j s j≤ (e, f)).0)
          ];
          early = λ s e. elim (cases_Bool (has (round m i j) s)) [
            | inl t ↦ omega (arith, so_far.early s t)
            | inr f ↦ omega (arith, (added_turn m lawful i j s j≤ (e, f)).0)
          ];
          unlabelled = λ s lt e.
              kept s lt (elim (cases_Bool (due m i j firsts labels s)) [
                | inl d ↦ absurd (both_ways (has (round m i (suc j)) s) e (due_added s lt d).0)
                | inr f ↦ f
              ]) ∙ so_far.unlabelled s lt (elim (cases_Bool (has (round m i j) s)) [
                | inl t ↦ absurd (both_ways (has (round m i (suc j)) s) e (rising m.states _ (round_grows m lawful i) j s t))
                | inr f ↦ f
              ]);
        }
      where
        within : (s : ℕ) → has (round m i (suc j)) s ≡ true → s < m.states
        within s e = stage_below m lawful (suc i) s (round_in m lawful i (suc j) s e)

        kept : (s : ℕ) → s < m.states → due m i j firsts labels s ≡ false → at after s ≡ at labels s
        kept s lt f = h s lt ∙ cond-false (due m i j firsts labels s) j (at labels s) f

        old : (s : ℕ) → s < m.states → has (round m i j) s ≡ true → due m i j firsts labels s ≡ false
        old s lt t =
            elim (cases_Bool (due m i j firsts labels s)) [
              | inl d ↦ absurd (both_ways (has (round m i j) s) (due_added s lt d).1 t)
              | inr f ↦ f
            ]

  -- the labels of the stage's own states at its end
  module _ (j : ℕ) (labels : List ℕ) (so_far : Labelled m i j labels) (s : ℕ) (lt : s < m.states) (own : at firsts s ≡ i) where
    own_first : first m s ≡ i
    own_first =
        elim (cases_Bool (has (covered m) s)) [
          | inl t ↦ absurd (omega (arith, own, row.no_first s lt t, i<, row.few, lawful.limited))
          | inr f ↦ sym (row.numbered s lt f) ∙ own
        ]

    own_label : has (round m i j) s ≡ true → at labels s ≡ second m s
    unfolding turn second
    own_label h = so_far.labelled s h ∙ ap (λ k. turn m k s) (sym own_first)

    -- no state of the stage waits
    pub label_done : some (waiting i firsts labels) m.states ≡ false → at labels s ≡ second m s
    label_done calm =
        own_label (elim (cases_Bool (has (round m i j) s)) [
          | inl t ↦ t
          | inr f ↦ absurd (both_ways (waiting i firsts labels s) (not_some (waiting i firsts labels) m.states s calm lt) (and_from (eqb (at firsts s) i) (unnumbered labels s) (eq-eqb (at firsts s) i own) (eq-eqb (at labels s) none (so_far.unlabelled s lt f))))
        ])

    -- or all rounds are over
    pub label_last : m.states ≤ j → at labels s ≡ second m s
    label_last all_rounds =
        own_label (rising_mono m.states _ (round_grows m lawful i) m.states j all_rounds s (ap (λ U. has U s) (round_last m lawful i) ∙ (sym (upto_stage s lt) ∙ le-leb (at firsts s) i (omega (arith, own)))))
