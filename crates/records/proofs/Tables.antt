-- The whole scan, and the two scans of reading.
use Rattle.std.proofs.Common.{◌≡◌, ℕ, ◌<◌, ◌≤◌, true, ltb, List, length, IfOk, Ok, Err, Result, sym, refl, ap, ◌∙◌, arith}
use Rattle.std.proofs.lemmas.Bool.{le-ltb, cond-false}
use Rattle.site.specs.Refusals.{answered}
use Rattle.site.specs.declared.faults.Fault.{Fault}
use Rattle.site.specs.declared.sheets.Row.{Row}
use Rattle.records.specs.TableBytes.{Read, head_in, states_in, ended, table_in}
use Rattle.records.specs.TableRead.{table_read, fitted, sized, rows_after, arrows_after}
use Rattle.records.specs.Scanning.{StatesDone, TableDone, Scanned}
use Rattle.records.specs.declared.unread.Unread.{Unread}
use Rattle.records.specs.declared.table_size.TableSize.{TableSize}
use Rattle.records.proofs.Answered.{never, after_ok}
use Rattle.records.proofs.Sound.{table_sound}
use Rattle.site.specs.Tables.{fair, table}
use Rattle.std.specs.List.{AllByRecursion as All}
use Rattle.records.specs.TableWritten.{table_bytes}
use Rattle.records.proofs.TableSpelled.{table_spelled}

-- the head and all states were read, and nothing is left
pub scan_done : {bs body : List ℕ} {end : Unread} {old_rows rows : List Row} {old_arrows arrows : List ℕ} {n total : ℕ} → head_in bs ≡ Ok (record { what = n; left = body }) → StatesDone n body old_rows old_arrows n total end rows arrows → length end.bytes.now ≤ 0 → TableDone bs old_rows old_arrows (record { states = n; arrows = total }) rows arrows
scan_done {bs} {body} {end} {old_rows} {rows} {old_arrows} {arrows} {n} {total} h d none =
    let found : Read = record { rows = d.rows; arrows = d.arrows; at = end.at; left = end.bytes.now } in
    record {
      found = found;
      read = after_ok (head_in bs) _ _ h ∙ (after_ok (states_in n n body) found ended d.read ∙ cond-false (ltb 0 (length end.bytes.now)) _ _ (le-ltb 0 (length end.bytes.now) none));
      measures = rw (d.many_rows, d.many_arrows) refl;
      row_sheet = d.row_sheet;
      arrow_sheet = d.arrow_sheet;
    }

-- what reading leaves, when the first scan found the size and there is room for it
pub record TableLaid (bs : List ℕ) (old_rows : List Row) (old_arrows : List ℕ) (r : Result TableSize Fault) (rows : List Row) (arrows : List ℕ) : Type 0 where
  pub answer : answered r ≡ sized (table_read bs (length old_rows) (length old_arrows))
  pub row_sheet : rows ≡ rows_after (table_read bs (length old_rows) (length old_arrows)) old_rows
  pub arrow_sheet : arrows ≡ arrows_after (table_read bs (length old_rows) (length old_arrows)) old_arrows
  pub fair_sheets : IfOk r (λ size. fair size.states rows arrows ≡ true)
  pub trip : IfOk r (λ size. table_bytes (table size.states rows arrows) ≡ bs)

-- the table that was found fits the sheets
fits_so : (bs : List ℕ) (r a : ℕ) (rd : Read) → table_in bs ≡ Ok rd → length rd.rows ≤ r → length rd.arrows ≤ a → table_read bs r a ≡ Ok rd
fits_so bs r a rd e le le' =
    after_ok (table_in bs) rd (fitted r a) e ∙ (cond-false _ _ _ (le-ltb r (length rd.rows) le) ∙ cond-false _ _ _ (le-ltb a (length rd.arrows) le'))

pub second_scan : {bs : List ℕ} {old_rows none_rows none_rows' : List Row} {old_arrows none_arrows none_arrows' : List ℕ} {size : TableSize} (r : Result TableSize Fault) (rows : List Row) (arrows : List ℕ) → All (λ b. b < 256) bs → TableDone bs none_rows none_arrows size none_rows' none_arrows' → size.states ≤ length old_rows → size.arrows ≤ length old_arrows → Scanned bs old_rows old_arrows r rows arrows → TableLaid bs old_rows old_arrows r rows arrows
second_scan {bs} {old_rows} {none_rows} {none_rows'} {old_arrows} {none_arrows} {none_arrows'} {size} (Ok again) rows arrows h d le le' s =
    let same : d.found ≡ s.found = cc in
    let rows_fit : size.states ≡ length d.found.rows = ap (λ z. z.states) d.measures in
    let arrows_fit : size.arrows ≡ length d.found.arrows = ap (λ z. z.arrows) d.measures in
    let rows_room : length s.found.rows ≤ length old_rows = rw (← same) (omega (arith, rows_fit)) in
    let arrows_room : length s.found.arrows ≤ length old_arrows = rw (← same) (omega (arith, arrows_fit)) in
    let e = fits_so bs (length old_rows) (length old_arrows) s.found s.read rows_room arrows_room in
    record {
      answer = rw e (ap Ok s.measures);
      row_sheet = rw e s.row_sheet;
      arrow_sheet = rw e s.arrow_sheet;
      fair_sheets = rw (s.measures, s.row_sheet, s.arrow_sheet) (table_sound bs s.found old_rows old_arrows s.read rows_room arrows_room);
      trip = rw (s.measures, s.row_sheet, s.arrow_sheet) (table_spelled bs s.found old_rows old_arrows h s.read rows_room arrows_room);
    }
second_scan (Err f) rows arrows h d le le' s = never (sym s ∙ d.read)
