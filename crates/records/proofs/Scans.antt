-- The steps of the scan: one state more.
use Rattle.std.proofs.Common.{◌≡◌, ℕ, ◌+◌, ◌*◌, ◌<◌, ◌≤◌, true, false, not, ◌||◌, eqb, ltb, List, [], ◌∷◌, ◌++◌, length, set, Ok, Err, Result, sym, refl, ap, ◌∙◌, zero-add, arith}
use Rattle.std.proofs.lemmas.List.{length_push, length-append}
use Rattle.std.proofs.lemmas.Bool.{ltb-false, eqb-false, or_parts, and_from, eq-eqb, le-leb}
use Rattle.site.proofs.Laid.{laid_push, laid_none, laid_append}
use Rattle.site.specs.Refusals.{Refusal}
use Rattle.site.specs.Tables.{row_ok}
use Rattle.site.specs.declared.sheets.Row.{Row}
use Rattle.records.specs.TableBytes.{of_kind, arrow_in, arrows_in, bad_count, row_of, row_body, row_in, one_state, states_in}
use Rattle.records.specs.Readings.{SeveralDone}
use Rattle.records.specs.Scanning.{StatesDone}
use Rattle.records.specs.Taken.{Found}
use Rattle.records.specs.declared.unread.Unread.{Unread}
use Rattle.records.proofs.Answered.{never, unless_ok, and_then_ok, after_ok, after_err, repeated_more, repeated_stops}

-- a record that was read: its kind is right, and its body was read
pub of_kind_ok : {T : Type 0} (kind at k : ℕ) (body : List ℕ → Result T Refusal) (bs : List ℕ) (x : T) → of_kind kind at body (k ∷ bs) ≡ Ok x → body bs ≡ Ok x
of_kind_ok kind at k body bs x e = (unless_ok (not (eqb k kind)) 2 at (body bs) x e).1

count_fine : (c : ℕ) → bad_count c ≡ false → (1 ≤ c) × (c ≤ 16)
count_fine c h =
    let p = or_parts (eqb c 0) (ltb 16 c) h in
    let some = eqb-false c 0 p.0 in
    (omega arith, ltb-false 16 c p.1)

-- what the tests of a row's values leave
pub row_of_ok : (at first g c e : ℕ) (row : Row) → row_of at first g c e ≡ Ok row → (row_ok row first ≡ true) × (first + row.commands * row.events ≤ 16384)
row_of_ok at first g c e row h =
    let p = unless_ok (ltb 2 g) 4 at _ row h in
    let q = unless_ok (bad_count c || bad_count e) 5 at _ row p.1 in
    let r = unless_ok (ltb 16384 (first + c * e)) 6 at _ row q.1 in
    let fits = ltb-false 16384 (first + c * e) r.0 in
    let counts = or_parts (bad_count c) (bad_count e) q.0 in
    let cs = count_fine c counts.0 in
    let es = count_fine e counts.1 in
    let begins : first ≡ row.first = cc in
    let commands : c ≡ row.commands = cc in
    let events : e ≡ row.events = cc in
    rw (← begins, ← commands, ← events)
    (and_from _ _ (eq-eqb first first refl) (and_from _ _ (le-leb 1 c cs.0) (and_from _ _ (le-leb c 16 cs.1) (and_from _ _ (le-leb 1 e es.0) (le-leb e 16 es.1)))), fits)

-- what a row that was read is
pub record RowRead (first : ℕ) (row : Row) : Type 0 where
  pub ok : row_ok row first ≡ true
  pub fits : first + row.commands * row.events ≤ 16384

row_body_read : (at first : ℕ) (bs : List ℕ) (f : Found Row) → row_body at first bs ≡ Ok f → RowRead first f.what
row_body_read at first [] f e = never e
row_body_read at first (g ∷ []) f e = never e
row_body_read at first (g ∷ (c ∷ [])) f e = never e
row_body_read at first (g ∷ (c ∷ (v ∷ left))) f e =
    let p = and_then_ok (row_of at first g c v) _ f e in
    let row : p.0 ≡ f.what = cc in
    let q = row_of_ok at first g c v f.what (p.1 ∙ ap Ok row) in
    record { ok = q.0; fits = q.1 }

pub row_read_is : (at first : ℕ) (bs : List ℕ) (f : Found Row) → row_in at first bs ≡ Ok f → RowRead first f.what
row_read_is at first [] f e = never e
row_read_is at first (k ∷ bs) f e =
    row_body_read at first bs f (of_kind_ok 2 at k (row_body at first) bs f e)

-- no state yet
pub no_states_done : (n : ℕ) (from : Unread) (rows : List Row) (arrows : List ℕ) → from.at ≡ 3 → StatesDone n from.bytes.now rows arrows 0 0 from rows arrows
no_states_done n from rows arrows at =
    record {
      rows = [];
      arrows = [];
      many_rows = refl;
      many_arrows = refl;
      few_arrows = omega arith;
      read = rw at refl;
      row_sheet = sym (laid_none 0 rows);
      arrow_sheet = sym (laid_none 0 arrows);
    }

module _ {n : ℕ} {bs : List ℕ} {old_rows : List Row} {old_arrows : List ℕ} {k total : ℕ} {mid : Unread} {rows : List Row} {arrows : List ℕ} where
  -- the row of the next state
  row_here : {r : Result (Found Row) Refusal} (d : StatesDone n bs old_rows old_arrows k total mid rows arrows) → row_in mid.at total mid.bytes.now ≡ r → row_in mid.at (length d.arrows) mid.bytes.now ≡ r
  row_here d e = ap (λ t. row_in mid.at t mid.bytes.now) d.many_arrows ∙ e

  -- one state more
  pub state_done : {end : Unread} {more : List ℕ} (row : Row) (body : Unread) (count : ℕ) → count ≡ row.commands * row.events → StatesDone n bs old_rows old_arrows k total mid rows arrows → (row_in mid.at total mid.bytes.now ≡ Ok (record { what = row; left = body.bytes.now })) × (body.at ≡ mid.at + 4) → SeveralDone (arrow_in n) 3 body total arrows count end more → StatesDone n bs old_rows old_arrows (k + 1) (total + count) end (set rows k row) more
  state_done {end} {more} row body count count_is d (e, at) a =
      let here = row_read_is mid.at total mid.bytes.now (record { what = row; left = body.bytes.now }) e in
      let step = repeated_more (one_state n) k _ _ d.read in
      record {
        rows = d.rows ++ row ∷ [];
        arrows = d.arrows ++ a.items;
        many_rows = length_push d.rows row ∙ ap (λ j. j + 1) d.many_rows;
        many_arrows = length-append d.arrows a.items ∙ rw (d.many_arrows, a.many) refl;
        few_arrows = rw count_is here.fits;
        read = step ∙ (after_ok (row_in mid.at (length d.arrows) mid.bytes.now) _ _ (row_here d e) ∙ after_ok (arrows_in n (row.commands * row.events) (mid.at + 4) body.bytes.now) _ _ (rw (← at, ← count_is) a.read));
        row_sheet = rw (laid_push, ← d.row_sheet, d.many_rows, zero-add) refl;
        arrow_sheet = rw (laid_append, ← d.arrow_sheet, d.many_arrows, zero-add) a.sheet;
      }

  -- a state whose row is refused
  pub row_failed : (r : Refusal) → StatesDone n bs old_rows old_arrows k total mid rows arrows → row_in mid.at total mid.bytes.now ≡ Err r → k < n → states_in n n bs ≡ Err r
  row_failed r d e lt =
      repeated_stops (one_state n) k n _ _ r d.read (after_err (row_in mid.at (length d.arrows) mid.bytes.now) r _ (row_here d e)) lt

  -- a state of whose arrows one is refused
  pub row_arrows_failed : (r : Refusal) (row : Row) (body : Unread) (count : ℕ) → count ≡ row.commands * row.events → StatesDone n bs old_rows old_arrows k total mid rows arrows → (row_in mid.at total mid.bytes.now ≡ Ok (record { what = row; left = body.bytes.now })) × (body.at ≡ mid.at + 4) → arrows_in n count body.at body.bytes.now ≡ Err r → k < n → states_in n n bs ≡ Err r
  row_arrows_failed r row body count count_is d (e, at) a lt =
      repeated_stops (one_state n) k n _ _ r d.read (after_ok (row_in mid.at (length d.arrows) mid.bytes.now) _ _ (row_here d e) ∙ after_err (arrows_in n (row.commands * row.events) (mid.at + 4) body.bytes.now) r _ (rw (← at, ← count_is) a)) lt
