-- The floor that bytes hold: the sheets that were read stand for the table in the bytes.
use Rattle.std.proofs.Common.{◌≡◌, ℕ, ◌≤◌, true, ltb, List, ◌++◌, length, take, drop, get_or, vec_items, replicate, Ok, Err, Result, sym, ap, refl, ◌∙◌, zero-add, arith}
use lib.ListN.{length-replicate}
use Rattle.std.proofs.lemmas.List.{append-nil, drop_all}
use Rattle.std.proofs.lemmas.Bool.{ltb-false}
use Rattle.site.specs.Arena.{Arena}
use Rattle.site.specs.Laid.{laid}
use Rattle.site.specs.Refusals.{Refusal, and_then}
use Rattle.site.specs.TableLaws.{fair_is}
use Rattle.site.specs.Tables.{no_row, row_at, arrows_before, fair, made_from}
use Rattle.site.specs.declared.grades.Grade.{Grade}
use Rattle.site.specs.declared.grades.Grade.TheVariants.{Ordinary}
use Rattle.site.specs.declared.sheets.Row.{Row}
use Rattle.site.proofs.Beyond.{nothing_beyond}
use Rattle.site.proofs.Laid.{laid_whole, laid_within, length_laid}
use Rattle.records.specs.TableBytes.{Read, table_in}
use Rattle.records.specs.TableRead.{fitted, size_of, sized, rows_after, arrows_after}
use Rattle.records.proofs.Answered.{unless_ok, and_then_ok, ok_same}
use Rattle.records.proofs.Sound.{table_sound}
use Rattle.std.specs.Global.{Vec}
use Rattle.std.proofs.Math.Seq.{take-append_seam}
use Rattle.desk.specs.Made.{Makes, Gives}
use Rattle.desk.specs.ReadFloors.{blank, held, site_of, of_floor, sheets_in, floor_site, FloorOf}
use Rattle.desk.specs.declared.failures.Failure.{Failure}
use Rattle.desk.specs.declared.floors.Floor.{Floor}
use Rattle.desk.specs.declared.failures.Failure.TheVariants.{Refused, NoMemory}

-- entries laid over themselves
laid_self : {X : Type 0} (xs : List X) → laid 0 xs xs ≡ xs
laid_self xs = laid_whole xs xs (omega arith) ∙ (ap (λ ys. xs ++ ys) (drop_all (length xs) xs (omega arith)) ∙ append-nil xs)

-- what fits is what was read, and there is room for it
fitted_is : (rows arrows : ℕ) (a b : Read) → fitted rows arrows a ≡ Ok b → (a ≡ b) × (length a.rows ≤ rows) × (length a.arrows ≤ arrows)
fitted_is rows arrows a b e =
    let p = unless_ok (ltb rows (length a.rows)) 9 (length a.rows) _ b e in
    let q = unless_ok (ltb arrows (length a.arrows)) 9 (length a.arrows) _ b p.1 in
    (ok_same q.1, ltb-false rows (length a.rows) p.0, ltb-false arrows (length a.arrows) q.0)

-- entries on a front, taken off it again
taken_back : {X : Type 0} (n : ℕ) (xs ys : List X) → length xs ≡ n → n ≤ length ys → take n (laid 0 xs ys) ≡ xs
taken_back n xs ys size room =
    ap (λ zs. take n zs) (laid_whole xs ys (omega arith)) ∙ (ap (λ k. take k (xs ++ drop (length xs) ys)) (sym size) ∙ take-append_seam xs (drop (length xs) ys))

-- a row whose entries are those of a new sheet
pub blank_row : (r : Row) → (r.grade ≡ Ordinary) × (r.commands ≡ 0) × (r.events ≡ 0) × (r.first ≡ 0) → r ≡ blank
blank_row r h =
    let of : Grade → ℕ → ℕ → ℕ → Row = λ g a b f. record { grade = g; commands = a; events = b; first = f } in
    ap (λ g. of g r.commands r.events r.first) h.0
    ∙ (ap (λ n. of Ordinary n r.events r.first) h.1 ∙ (ap (λ n. of Ordinary 0 n r.first) h.2 ∙ ap (λ n. of Ordinary 0 0 n) h.3))

-- what was read is on the fronts of new sheets
pub fronts_held : (bs : List ℕ) (blank : Row) (n many : ℕ) (rows : List Row) (arrows : List ℕ) → Ok (record { states = n; arrows = many }) ≡ sized (held bs) → rows ≡ rows_after (held bs) (replicate 1024 blank) → arrows ≡ arrows_after (held bs) (replicate 16384 0) → (Ok (take n rows, take many arrows) ≡ sheets_in (held bs)) × (fair (length (take n rows)) (take n rows) (take many arrows) ≡ true)
fronts_held bs blank n many rows arrows size row_sheet arrow_sheet =
    let p = and_then_ok (held bs) (λ rd. Ok (size_of rd)) (record { states = n; arrows = many }) (sym size) in
    let rd = p.0 in
    let count : length rd.rows ≡ n = ap (λ t. t.states) (ok_same p.2) in
    let counts : length rd.arrows ≡ many = ap (λ t. t.arrows) (ok_same p.2) in
    let q = and_then_ok (table_in bs) (fitted 1024 16384) rd p.1 in
    let fits = fitted_is 1024 16384 q.0 rd q.2 in
    let read : table_in bs ≡ Ok rd = q.1 ∙ ap Ok fits.0 in
    let rows_are : take n rows ≡ rd.rows = ap (take n) (row_sheet ∙ ap (λ r. rows_after r (replicate 1024 blank)) p.1) ∙ taken_back n rd.rows (replicate 1024 blank) count (omega (arith, fits.1, count, ap (λ r. length r.rows) fits.0, length-replicate 1024 blank)) in
    let arrows_are : take many arrows ≡ rd.arrows = ap (take many) (arrow_sheet ∙ ap (λ r. arrows_after r (replicate 16384 0)) p.1) ∙ taken_back many rd.arrows (replicate 16384 0) counts (omega (arith, fits.2, counts, ap (λ r. length r.arrows) fits.0, length-replicate {A = ℕ} 16384 0)) in
    let own : fair (length rd.rows) rd.rows rd.arrows ≡ true = ap (λ rs. fair (length rd.rows) rs rd.arrows) (sym (laid_self rd.rows)) ∙ (ap (fair (length rd.rows) (laid 0 rd.rows rd.rows)) (sym (laid_self rd.arrows)) ∙ table_sound bs rd rd.rows rd.arrows read (omega arith) (omega arith)) in
    (rw (rows_are, arrows_are) (sym (ap sheets_in p.1)), rw (rows_are, arrows_are) own)

module _ (bs : List ℕ) (rd : Read) (e : held bs ≡ Ok rd) (rows : List Row) (arrows : List ℕ) (ok : fair (length rd.rows) (laid 0 rd.rows rows) (laid 0 rd.arrows arrows) ≡ true) (many : length arrows ≡ 16384) where
  -- the sheets over which a table was read stand for it
  pub sheets_stand : made_from (length rd.rows) (laid 0 rd.rows rows) (laid 0 rd.arrows arrows) ≡ site_of rd
  sheets_stand =
      let n = length rd.rows in
      let p = and_then_ok (table_in bs) (fitted 1024 16384) rd e in
      let fits = fitted_is 1024 16384 p.0 rd p.2 in
      let read : table_in bs ≡ Ok rd = p.1 ∙ ap Ok fits.0 in
      let room : length rd.arrows ≤ 16384 = omega (arith, ap (λ r. length r.arrows) fits.0, fits.2) in
      let rooms : length rd.rows ≤ length rows = omega (arith, length_laid 0 rd.rows rows, (fair_is n (laid 0 rd.rows rows) (laid 0 rd.arrows arrows) ok).long_rows) in
      let own : fair n rd.rows rd.arrows ≡ true = ap (λ rs. fair n rs rd.arrows) (sym (laid_self rd.rows)) ∙ (ap (fair n (laid 0 rd.rows rd.rows)) (sym (laid_self rd.arrows)) ∙ table_sound bs rd rd.rows rd.arrows read (omega arith) (omega arith)) in
      let few : arrows_before rd.rows n ≤ length rd.arrows = (fair_is n rd.rows rd.arrows own).long_arrows in
      sym (nothing_beyond n rd.rows rd.arrows (laid 0 rd.rows rows) (laid 0 rd.arrows arrows) (record {
        long_rows = omega arith;
        long_rows' = omega (arith, length_laid 0 rd.rows rows);
        row = λ s lt. sym (ap (λ j. row_at (laid 0 rd.rows rows) j) (sym (zero-add s)) ∙ laid_within 0 rd.rows rows s no_row lt (omega arith));
        long_arrows = few;
        long_arrows' = omega (arith, length_laid 0 rd.arrows arrows);
        arrow = λ i lt. sym (ap (λ j. get_or (laid 0 rd.arrows arrows) j 0) (sym (zero-add i)) ∙ laid_within 0 rd.arrows arrows i 0 (omega arith) (omega arith));
      }))

-- new sheets over which the bytes were read stand for the table that the bytes hold
pub sheets_held : (bs : List ℕ) (n many : ℕ) (rows : List Row) (arrows : List ℕ) (m : Arena) → Ok (record { states = n; arrows = many }) ≡ sized (held bs) → rows ≡ rows_after (held bs) (replicate 1024 blank) → arrows ≡ arrows_after (held bs) (replicate 16384 0) → fair n rows arrows ≡ true → m ≡ made_from n rows arrows → (rd : Read) × (held bs ≡ Ok rd) × (m ≡ site_of rd)
sheets_held bs n many rows arrows m size row_sheet arrow_sheet ok is =
    let p = and_then_ok (held bs) (λ rd. Ok (size_of rd)) (record { states = n; arrows = many }) (sym size) in
    let rd = p.0 in
    let count : length rd.rows ≡ n = ap (λ t. t.states) (ok_same p.2) in
    let new_rows = laid 0 rd.rows (replicate 1024 blank) in
    let new_arrows = laid 0 rd.arrows (replicate 16384 0) in
    let rows_are : rows ≡ new_rows = row_sheet ∙ ap (λ r. rows_after r (replicate 1024 blank)) p.1 in
    let arrows_are : arrows ≡ new_arrows = arrow_sheet ∙ ap (λ r. arrows_after r (replicate 16384 0)) p.1 in
    let fine : fair (length rd.rows) new_rows new_arrows ≡ true = ap (λ k. fair k new_rows new_arrows) count ∙ (ap (λ rs. fair n rs new_arrows) (sym rows_are) ∙ (ap (fair n rows) (sym arrows_are) ∙ ok)) in
    let stands : made_from n rows arrows ≡ site_of rd = ap (λ k. made_from k rows arrows) (sym count) ∙ (ap (λ rs. made_from (length rd.rows) rs arrows) rows_are ∙ (ap (made_from (length rd.rows) new_rows) arrows_are ∙ sheets_stand bs rd p.1 (replicate 1024 blank) (replicate 16384 0) fine (length-replicate {A = ℕ} 16384 0))) in
    (rd, p.1, is ∙ stands)

-- the sheets that were read stand for the table that the bytes hold
pub floor_held : (bs : List ℕ) (f : Floor) → FloorOf bs (Ok f) → (rd : Read) × (held bs ≡ Ok rd) × (floor_site f ≡ site_of rd)
floor_held bs f h =
    sheets_held bs f.states h.0.0 (vec_items f.rows) (vec_items f.arrows) (floor_site f) h.0.1 h.1 h.2 h.3 refl

-- what is made of the site that was read is made of the floor that the bytes hold
pub of_held : {T : Type 0} (make : Arena → T) (bs : List ℕ) (m : Arena) → (rd : Read) × (held bs ≡ Ok rd) × (m ≡ site_of rd) → of_floor bs make ≡ Ok (make m)
of_held make bs m h =
    ap (λ r. and_then r (λ rd. Ok (make (site_of rd)))) h.1 ∙ ap (λ a. Ok (make a)) (sym h.2)

-- bytes that were made of a floor are those that the floor gives
pub makes_gives : (bytes : Result (List ℕ) Refusal) (text : List ℕ) (r : Result (Vec ℕ) Failure) → bytes ≡ Ok text → Makes text r → Gives bytes r
makes_gives bytes text (Ok v) e h = ap Ok h ∙ sym e
makes_gives bytes text (Err (Refused f)) e h = absurd h
makes_gives bytes text (Err NoMemory) e h = tt
