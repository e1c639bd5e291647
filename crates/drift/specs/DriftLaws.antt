-- Laws of drift sites: every setting in range stands for a lawful site.
use Rattle.std.specs.Prelude.{◌≡◌, ℕ, zero, suc, ◌+◌, ◌*◌, ◌/◌, ◌%◌, ◌<◌, ◌≤◌, true, ◌&&◌, ℤ, pos, ◌+ℤ◌, ◌-ℤ◌, neg_ℤ, ◌==◌, int_le, nat_le, nat_lt, unsigned_abs}
use Rattle.std.proofs.Common.{mul-le-mul_right, mod-lt, div-lt_iff_lt-mul, arith, sym, inl, inr}
use Rattle.std.proofs.lemmas.Bool.{and_parts, leb-true, ltb-true, cond-true, cond-false, cond_both, lt-ltb, le-ltb, cases_lt, and_from, and_left, and_right}
use Rattle.std.proofs.lemmas.Int.{ints}
use Rattle.site.specs.Arena.{Lawful}
use Rattle.drift.specs.declared.places.Place.{Place}
use Rattle.drift.specs.declared.places.Place.TheVariants.{Offset, Apart, Confirmed}
use Rattle.drift.specs.Drifts.{farthest, offsets, drift_range, place_grade, place_number, numbered, agrees, arrived, drifted, lost, commanded, moved, drift_states, drift, Kept}
use Rattle.site.specs.TableLaws.{cond_past, cond_within}

-- what a setting in range is
pub drift_range_is : (d k : ℕ) → drift_range d k ≡ true → (1 ≤ d) × (d ≤ 8) × (k ≤ 7)
drift_range_is d k h =
    let p = and_parts (nat_le 1 d) (nat_le d 8 && nat_le k 7) h in
    let q = and_parts (nat_le d 8) (nat_le k 7) p.1 in
    (leb-true 1 d p.0, leb-true d 8 q.0, leb-true k 7 q.1)

-- an offset that agrees is among the offsets
pub offset_low : (o : ℤ) → agrees o ≡ true → unsigned_abs (o +ℤ pos farthest) < offsets
offset_low o h =
    let p = and_parts (int_le (neg_ℤ (pos farthest)) o) (int_le o (pos farthest)) h in
    let low : int_le (neg_ℤ (pos farthest)) o ≡ true = p.0 in
    let high : int_le o (pos farthest) ≡ true = p.1 in
    omega (arith, ints)

module _ (d k : ℕ) where
  pub kept_below : (p : Place) → Kept k p → place_number k p < drift_states k
  kept_below (Offset o l) h =
      let low : suc (unsigned_abs (o +ℤ pos farthest)) * (k + 1) ≤ offsets * (k + 1) = mul-le-mul_right (k + 1) (offset_low o h.0) in
      omega arith
  kept_below Apart h = omega arith
  kept_below Confirmed h = omega arith

  kept_arrived : (o : ℤ) (l : ℕ) → l ≤ k → Kept k (arrived o l)
  kept_arrived o l le = cond_both (agrees o) (Offset o l) Apart (Kept k) (λ e. (e, le)) (λ _. tt)

  kept_commanded : (a b : ℕ) (o : ℤ) (l : ℕ) → l ≤ k → Kept k (commanded d k a b o l)
  kept_commanded zero b o l le = kept_arrived (drifted d b o) l le
  kept_commanded (suc a) b o l le =
      cond_both (lost k b l) (arrived (drifted d b o) (l + 1)) Confirmed (Kept k) (λ e. kept_arrived (drifted d b o) (l + 1) (omega (arith, ltb-true l k (and_parts _ _ e).1))) (λ _. tt)

  -- a move from a place of the site leads to a place of the site
  pub kept_moved : (a b : ℕ) (p : Place) → Kept k p → Kept k (moved d k a b p)
  kept_moved a b (Offset o l) h = kept_commanded a b o l h.1
  kept_moved a b Apart h = tt
  kept_moved a b Confirmed h = kept_commanded a b (pos 0) 0 (omega arith)

  kept_offset : (h l : ℕ) → h < offsets → l ≤ k → Kept k (Offset (pos h -ℤ pos farthest) l)
  kept_offset h l lt le =
      let low : true ≡ int_le (neg_ℤ (pos farthest)) (pos h -ℤ pos farthest) = omega (arith, ints) in
      let high : true ≡ int_le (pos h -ℤ pos farthest) (pos farthest) = omega (arith, ints) in
      (and_from _ _ (sym low) (sym high), le)

  -- every number stands for a place of the site
  pub kept_numbered : (s : ℕ) → Kept k (numbered k s)
  kept_numbered s =
      cond_both (nat_lt s (offsets * (k + 1))) _ _ (Kept k) (λ e. kept_offset (s / (k + 1)) (s % (k + 1)) ((div-lt_iff_lt-mul (omega arith)).1 (ltb-true s (offsets * (k + 1)) e)) (omega (arith, mod-lt s {m = k + 1} (omega arith)))) (λ _. cond_both (s == offsets * (k + 1)) Apart Confirmed (Kept k) (λ _. tt) (λ _. tt))

  -- the grades of places are among the three
  place_grade_few : (p : Place) → place_grade p ≤ 2
  place_grade_few (Offset o l) = omega arith
  place_grade_few Apart = omega arith
  place_grade_few Confirmed = omega arith

  -- a move that every state has
  pub own_move : (s a b : ℕ) → s < drift_states k → a < 2 → b < 6 → (drift d k).next s a b ≡ place_number k (moved d k a b (numbered k s))
  own_move s a b s< a< b< =
      cond-true (nat_lt s (drift_states k) && (nat_lt a 2 && nat_lt b 6)) _ 0 (and_from _ _ (lt-ltb _ _ s<) (and_from _ _ (lt-ltb _ _ a<) (lt-ltb _ _ b<)))

  -- a setting in range stands for a lawful site
  pub drift_lawful : drift_range d k ≡ true → Lawful (drift d k)
  drift_lawful h =
      let few : k ≤ 7 = (drift_range_is d k h).2 in
      record {
        inhabited = omega arith;
        limited = omega arith;
        few_grades = λ s. cond_both (nat_lt s (drift_states k)) (place_grade (numbered k s)) 0 (λ x. x ≤ 2) (λ _. place_grade_few (numbered k s)) (λ _. omega arith);
        some_command = λ s lt. rw (cond_within s (drift_states k) 2 lt) (omega arith);
        few_commands = λ s. cond_both (nat_lt s (drift_states k)) 2 0 (λ x. x ≤ 16) (λ _. omega arith) (λ _. omega arith);
        some_event = λ s lt. rw (cond_within s (drift_states k) 6 lt) (omega arith);
        few_events = λ s. cond_both (nat_lt s (drift_states k)) 6 0 (λ x. x ≤ 16) (λ _. omega arith) (λ _. omega arith);
        closed = λ s a b s< a< b<.
            let a' : a < 2 = rw (cond_within s (drift_states k) 2 s<) at a< in
            let b' : b < 6 = rw (cond_within s (drift_states k) 6 s<) at b< in
            rw (own_move s a b s< a' b') (kept_below (moved d k a b (numbered k s)) (kept_moved a b (numbered k s) (kept_numbered s)));
        no_grade = λ s le. cond_past s (drift_states k) (place_grade (numbered k s)) le;
        no_commands = λ s le. cond_past s (drift_states k) 2 le;
        no_events = λ s le. cond_past s (drift_states k) 6 le;
        no_command = λ s a b le. elim (cases_lt s (drift_states k)) [
          | inl lt ↦ cond-false (nat_lt s (drift_states k) && (nat_lt a 2 && nat_lt b 6)) _ 0 (and_right _ _ (and_left _ _ (le-ltb _ _ (rw (cond_within s (drift_states k) 2 lt) at le))))
          | inr past ↦ cond-false (nat_lt s (drift_states k) && (nat_lt a 2 && nat_lt b 6)) _ 0 (and_left _ _ (le-ltb _ _ past))
        ];
        no_event = λ s a b le. elim (cases_lt s (drift_states k)) [
          | inl lt ↦ cond-false (nat_lt s (drift_states k) && (nat_lt a 2 && nat_lt b 6)) _ 0 (and_right _ _ (and_right (nat_lt a 2) _ (le-ltb _ _ (rw (cond_within s (drift_states k) 6 lt) at le))))
          | inr past ↦ cond-false (nat_lt s (drift_states k) && (nat_lt a 2 && nat_lt b 6)) _ 0 (and_left _ _ (le-ltb _ _ past))
        ];
      }
