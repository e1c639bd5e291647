-- What a watch above a site leaves as it is.
use Rattle.std.proofs.Common.{◌≡◌, ℕ, zero, suc, ◌+◌, ◌*◌, ◌/◌, ◌%◌, ◌<◌, ◌≤◌, Bool, true, false, cond, ◌&&◌, ltb, leb, List, [], ◌∷◌, map, sym, refl, ap, ◌∙◌, subst, inl, inr, div-one, arith}
use native.Mathlib.Nat.{mod-one}
use lib.Arith.{digits_div, digits_mod}
use Rattle.std.proofs.lemmas.Bool.{cond-true, cond-false, cond_both, lt-ltb, le-ltb, lt-leb, cases_lt, and_left, and_right}
use Rattle.site.specs.Arena.{Arena, Lawful}
use Rattle.watch.specs.Piles.{Alike, Clear, ClearChangesNothing, UnfitChangesNothing, SameEntries, OwnEntriesCount, ByPairs, Run, RunsAreBelow, RunsAreSeen}
use Rattle.watch.specs.Watched.{pile_states, state_below, position, worn, wearing, watched}
use Rattle.watch.specs.Watches.{Dial, turn, show, watch_range, clear}
use Rattle.watch.specs.WatchLaws.{Fair, watch_range_is, worn_fair, below_low, position_low, pile_low, own_turn, turn_low}

clear_clear : Clear clear
clear_clear = (refl, shown)
  where
    shown : (g : ℕ) → g ≤ 2 → show clear 0 g ≡ g
    shown zero le = refl
    shown (suc zero) le = refl
    shown (suc (suc zero)) le = refl
    shown (suc (suc (suc g))) le = absurd (omega arith)

module _ (m : Arena) (w : Dial) (law : Lawful m) (f : Fair w) (c : Clear w) where
  one_state : (s : ℕ) → state_below w s ≡ s
  one_state s = ap (λ n. s / n) c.0 ∙ div-one s

  one_position : (s : ℕ) → position w s ≡ 0
  one_position s = ap (λ n. s % n) c.0 ∙ mod-one s

  all_states : m.states ≡ pile_states m w
  all_states = omega (arith, ap (λ n. m.states * n) c.0)

  same_grade : (s : ℕ) → m.grade s ≡ (wearing m w).grade s
  same_grade s =
      elim (cases_lt s m.states) [
        | inl lt ↦ sym (cond-true (ltb s (pile_states m w)) _ 0 (lt-ltb _ _ (omega (arith, all_states))) ∙ rw (one_state s, one_position s) (c.1 (m.grade s) (law.few_grades s)))
        | inr past ↦ law.no_grade s past ∙ sym (cond-false (ltb s (pile_states m w)) _ 0 (le-ltb _ _ (omega (arith, all_states))))
      ]

  same_next : (s a b : ℕ) → m.next s a b ≡ (wearing m w).next s a b
  same_next s a b =
      let c' = m.commands (state_below w s) in
      let e' = m.events (state_below w s) in
      elim (cases_lt a (m.commands s)) [
        | inr none ↦
            let past : c' ≤ a = rw (one_state s) none in
            law.no_command s a b none ∙ sym (cond-false (ltb a c' && ltb b e') _ 0 (and_left _ _ (le-ltb a c' past)))
        | inl a< ↦ elim (cases_lt b (m.events s)) [
          | inr none ↦
              let past : e' ≤ b = rw (one_state s) none in
              law.no_event s a b none ∙ sym (cond-false (ltb a c' && ltb b e') _ 0 (and_right (ltb a c') _ (le-ltb b e' past)))
          | inl b< ↦
              let still : turn w 0 (m.grade s) < w.positions = f.turns_low 0 (m.grade s) f.some (law.few_grades s) in
              let same : m.next s a b * w.positions + turn w 0 (m.grade s) ≡ m.next s a b = omega (arith, c.0, ap (λ n. m.next s a b * n) c.0) in
              sym (own_turn m w law f s a b (rw (one_state s) a<) (rw (one_state s) b<) ∙ rw (one_state s, one_position s) same)
        ]
      ]

  clear_alike : Alike m (wearing m w)
  clear_alike =
      record {
        states = all_states;
        grade = same_grade;
        commands = λ s. sym (ap m.commands (one_state s));
        events = λ s. sym (ap m.events (one_state s));
        next = same_next;
      }

module _ (m : Arena) (w : Dial) (law : Lawful m) (f : Fair w) where
  by_pairs : ByPairs m w (wearing m w)
  by_pairs =
      record {
        states = refl;
        grade = λ v p v< p<. cond-true (ltb (v * w.positions + p) (pile_states m w)) _ 0 (lt-ltb _ _ (pile_low m w law f v p v< p<)) ∙ rw (digits_div v p<, digits_mod v p<) refl;
        commands = λ v p v< p<. ap m.commands (digits_div v p<);
        events = λ v p v< p<. ap m.events (digits_div v p<);
        next = λ v p a b v< p< a< b<. own_turn m w law f (v * w.positions + p) a b (rw (digits_div v p<) a<) (rw (digits_div v p<) b<) ∙ rw (digits_div v p<, digits_mod v p<) refl;
      }

  -- a move of the pile is a move of the site below
  move_below : (s a b : ℕ) → a < m.commands (state_below w s) → b < m.events (state_below w s) → state_below w ((wearing m w).next s a b) ≡ m.next (state_below w s) a b
  move_below s a b a< b< =
      ap (state_below w) (own_turn m w law f s a b a< b<) ∙ digits_div (m.next (state_below w s) a b) (turn_low m w law f s)

  run_below : (t : ℕ) (ss : List ℕ) → Run (wearing m w) t ss → Run m (state_below w t) (map (state_below w) ss)
  run_below t [] h = below_low m w law f t h
  run_below t (s ∷ ss) (move, h) =
      ((move.0, (move.1.0, (move.1.1.0, (move.1.1.1.0, ap (state_below w) move.1.1.1.1 ∙ move_below s move.0 move.1.0 move.1.1.0 move.1.1.1.0)))), run_below s ss h)

  run_seen : (t : ℕ) (ss : List ℕ) → Run m t ss → (u : ℕ) × ((us : List ℕ) × (Run (wearing m w) u us × ((state_below w u ≡ t) × (map (state_below w) us ≡ ss))))
  run_seen t [] h =
      (t * w.positions + 0, ([], (pile_low m w law f t 0 h f.some, (digits_div t f.some, refl))))
  run_seen t (s ∷ ss) (move, h) =
      let r = run_seen s ss h in
      let u = r.0 in
      let at_s = r.1.1.1.0 in
      let a = move.0 in
      let b = move.1.0 in
      let a< : a < m.commands (state_below w u) = rw at_s move.1.1.0 in
      let b< : b < m.events (state_below w u) = rw at_s move.1.1.1.0 in
      let here : state_below w ((wearing m w).next u a b) ≡ t = move_below u a b a< b< ∙ (ap (λ v. m.next v a b) at_s ∙ sym move.1.1.1.1) in
      ((wearing m w).next u a b, (u ∷ r.1.0, (((a, (b, (a<, (b<, refl)))), r.1.1.0), (here, ap (λ v. v ∷ map (state_below w) r.1.0) at_s ∙ ap (λ vs. s ∷ vs) r.1.1.1.1))))

module _ (m : Arena) (w x : Dial) (law : Lawful m) (f : Fair w) (same : SameEntries w x) where
  -- the entries that a state reads are among those of the positions
  entry_low : (s : ℕ) → position w s * 3 + m.grade (state_below w s) < 3 * w.positions
  entry_low s = omega (arith, position_low m w law f s, law.few_grades (state_below w s))

  same_wearing : Alike (wearing m w) (wearing m x)
  same_wearing =
      record {
        states = ap (λ n. m.states * n) same.0;
        grade = λ s. rw (← same.0) (ap (λ y. cond (ltb s (pile_states m w)) y 0) (same.1 _ (entry_low s)).1);
        commands = λ s. ap (λ n. m.commands (s / n)) same.0;
        events = λ s. ap (λ n. m.events (s / n)) same.0;
        next = λ s a b. rw (← same.0) (ap (λ y. cond (ltb a (m.commands (state_below w s)) && ltb b (m.events (state_below w s))) (m.next (state_below w s) a b * w.positions + y) 0) (same.1 _ (entry_low s)).0);
      }

same_either : (b : Bool) (w x : Dial) → SameEntries w x → SameEntries (cond b w clear) (cond b x clear)
same_either true w x same = same
same_either false w x same = (refl, λ i lt. (refl, refl))

module _ (m : Arena) (w : Dial) (law : Lawful m) (ok : watch_range w ≡ true) where
  fair : Fair (worn m w)
  fair = worn_fair m w (watch_range_is w ok)

  -- a clear watch changes nothing
  pub clear_changes_nothing : ClearChangesNothing m w
  clear_changes_nothing c =
      clear_alike m (worn m w) law fair (cond_both (leb (pile_states m w) 8192) w clear Clear (λ _. c) (λ _. clear_clear))

  -- a watch that does not fit changes nothing
  pub unfit_changes_nothing : UnfitChangesNothing m w
  unfit_changes_nothing past =
      let e : worn m w ≡ clear = cond-false (leb (pile_states m w) 8192) w clear (lt-leb (pile_states m w) 8192 past) in
      clear_alike m (worn m w) law fair (rw e clear_clear)

  -- state v below with the watch in position p is state v × m + p
  pub worn_by_pairs : ByPairs m (worn m w) (watched m w)
  worn_by_pairs = by_pairs m (worn m w) law fair

  -- a run of the pile is a run of the site below
  pub runs_are_below : RunsAreBelow m w
  runs_are_below = run_below m (worn m w) law fair

  -- entries beyond those of the positions have no effect
  pub own_entries_count : OwnEntriesCount m w
  own_entries_count x same =
      let worn_same : SameEntries (worn m w) (worn m x) = subst (λ (b : Bool). SameEntries (worn m w) (cond b x clear)) (ap (λ n. leb (m.states * n) 8192) same.0) (same_either (leb (pile_states m w) 8192) w x same) in
      same_wearing m (worn m w) (worn m x) law fair worn_same

  -- and a run of the site below is seen as a run of the pile
  pub runs_are_seen : RunsAreSeen m w
  runs_are_seen = run_seen m (worn m w) law fair
