-- Places and numbers: every number of a drift site is that of one place.
use Rattle.std.proofs.Common.{◌≡◌, ℕ, ◌+◌, ◌*◌, ◌/◌, ◌<◌, true, eqb, ltb, pos, ◌+ℤ◌, ◌-ℤ◌, neg_ℤ, nat_abs, sym, refl, ap, ◌∙◌, inl, inr, div-add-mod', arith}
use lib.Arith.{digits_lt, digits_div, digits_mod}
use lib.Signed.{le_z}
use Rattle.std.proofs.lemmas.Bool.{and_parts, cases_eq, cases_lt, cond-true, cond-false, lt-ltb, le-ltb, eq-eqb, ne_eqb}
use Rattle.std.proofs.lemmas.Int.{ints}
use Rattle.drift.specs.declared.places.Place.{Place}
use Rattle.drift.specs.declared.places.Place.TheVariants.{Offset, Apart, Confirmed}
use Rattle.drift.specs.Drifts.{farthest, offsets, place_grade, place_number, numbered, moved, drift_states, Kept, ByPlaces}
use Rattle.drift.specs.DriftLaws.{offset_low, kept_below, kept_numbered, own_move}

module _ (d k : ℕ) where
  -- every place of the site has a number of its own
  numbered_place : (p : Place) → Kept k p → numbered k (place_number k p) ≡ p
  numbered_place (Offset o l) h =
      let high = nat_abs (o +ℤ pos farthest) in
      let few : l < k + 1 = omega (arith, h.1) in
      let before : high * (k + 1) + l < offsets * (k + 1) = digits_lt (offset_low o h.0) few in
      let from : le_z (neg_ℤ (pos farthest)) o ≡ true = (and_parts (le_z (neg_ℤ (pos farthest)) o) (le_z o (pos farthest)) h.0).0 in
      let back : pos high -ℤ pos farthest ≡ o = omega (arith, ints) in
      cond-true (ltb (high * (k + 1) + l) (offsets * (k + 1))) _ _ (lt-ltb _ _ before) ∙ rw (digits_div high few, digits_mod high few, back) refl
  numbered_place Apart h =
      cond-false (ltb (offsets * (k + 1)) (offsets * (k + 1))) _ _ (le-ltb _ _ (omega arith)) ∙ cond-true (eqb (offsets * (k + 1)) (offsets * (k + 1))) _ _ (eq-eqb _ _ refl)
  numbered_place Confirmed h =
      cond-false (ltb (offsets * (k + 1) + 1) (offsets * (k + 1))) _ _ (le-ltb _ _ (omega arith)) ∙ cond-false (eqb (offsets * (k + 1) + 1) (offsets * (k + 1))) _ _ (ne_eqb _ _ (λ e. omega arith))

  -- and every number is that of its place
  place_numbered : (s : ℕ) → s < drift_states k → place_number k (numbered k s) ≡ s
  place_numbered s lt =
      elim (cases_lt s (offsets * (k + 1))) [
        | inl before ↦
            let q = s / (k + 1) in
            let back : nat_abs (pos q -ℤ pos farthest +ℤ pos farthest) ≡ q = omega (arith, ints) in
            ap (place_number k) (cond-true (ltb s (offsets * (k + 1))) _ _ (lt-ltb _ _ before)) ∙ rw back (div-add-mod' s (k + 1))
        | inr past ↦ ap (place_number k) (cond-false (ltb s (offsets * (k + 1))) _ _ (le-ltb _ _ past)) ∙ elim (cases_eq s (offsets * (k + 1))) [
          | inl e ↦ ap (place_number k) (cond-true (eqb s (offsets * (k + 1))) Apart Confirmed (eq-eqb _ _ e)) ∙ sym e
          | inr ne ↦ ap (place_number k) (cond-false (eqb s (offsets * (k + 1))) Apart Confirmed (ne_eqb _ _ ne)) ∙ omega arith
        ]
      ]

  pub by_places : ByPlaces d k
  by_places =
      record {
        state = λ s lt. (numbered k s, (kept_numbered d k s, place_numbered s lt));
        low = kept_below d k;
        grade = λ p h. cond-true (ltb (place_number k p) (drift_states k)) _ 0 (lt-ltb _ _ (kept_below d k p h)) ∙ ap place_grade (numbered_place p h);
        next = λ p a b h a< b<. own_move d k (place_number k p) a b (kept_below d k p h) a< b< ∙ ap (λ q. place_number k (moved d k a b q)) (numbered_place p h);
      }
