-- The loop over the rows of a table: one row more, and a row that is not in order.
use Rattle.std.proofs.Common.{◌≡◌, ℕ, ◌+◌, ◌*◌, ◌<◌, ◌≤◌, true, false, List, sym, refl, ap, ◌∙◌, add-one, arith}
use Rattle.site.specs.Counting.{every}
use Rattle.site.specs.CountingLaws.{every_more, every_fails}
use Rattle.site.specs.Tables.{row_at, row_ok, row_fair, arrows_before}
use Rattle.site.specs.TableLaws.{row_area}
use Rattle.site.specs.declared.sheets.Row.{Row}

pub row_more : (rows : List Row) (i total : ℕ) → (every (row_fair rows) i ≡ true) × (total ≡ arrows_before rows i) × (total ≤ 256 * i) → row_ok (row_at rows i) total ≡ true → (every (row_fair rows) (i + 1) ≡ true) × (total + (row_at rows i).commands * (row_at rows i).events ≡ arrows_before rows (i + 1)) × (total + (row_at rows i).commands * (row_at rows i).events ≤ 256 * (i + 1))
row_more rows i total inv ok =
    let area = row_area (row_at rows i) total ok in
    (every_more (row_fair rows) i inv.0 (ap (row_ok (row_at rows i)) (sym inv.1) ∙ ok), rw add-one (rw inv.1 refl), omega (arith, inv.2))

pub row_bad : (rows : List Row) (n i total : ℕ) → total ≡ arrows_before rows i → i < n → row_ok (row_at rows i) total ≡ false → every (row_fair rows) n ≡ false
row_bad rows n i total at lt bad = every_fails (row_fair rows) n i (ap (row_ok (row_at rows i)) (sym at) ∙ bad) lt
