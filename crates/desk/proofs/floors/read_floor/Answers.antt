use Rattle.std.proofs.Common.{◌≡◌, length, replicate, ap, ◌∙◌, arith}
use Rattle.std.proofs.lemmas.Result.{err_from_is_err_and}
use Rattle.records.specs.TableRead.{table_read, sized, rows_after, arrows_after}
use Rattle.desk.proofs.Fitting.{whole}
use Rattle.desk.specs.ReadFloors.{blank}
use Rattle.desk.proofs.Held.{blank_row, fronts_held}
use Rattle.desk.proofs.floors.read_floor.Goals as goal

pub returns-in_err-size : goal.returns-in_err-size
returns-in_err-size c =
    let p = err_from_is_err_and c.from_residual-in_err-size.result c.from_residual-in_err-size.ensures.1 in
    let rows : length c.as_mut_slice.result.now ≡ 1024 = omega (arith, c.as_mut_slice.ensures.len, c.in_ok-rows.ensures.len) in
    let arrows : length c.as_mut_slice-2.result.now ≡ 16384 = omega (arith, c.as_mut_slice-2.ensures.len, c.in_ok-arrows.ensures.len) in
    rw (p.1, p.2) (c.in_err-size.ensures.answer ∙ (ap (λ n. sized (table_read c.args.bytes.now n (length c.as_mut_slice-2.result.now))) rows ∙ ap (λ n. sized (table_read c.args.bytes.now 1024 n)) arrows))

pub returns : goal.returns
returns c =
    let bs = c.args.bytes.now in
    let e = c.in_ok-size.ensures in
    let size = c.in_ok-size.size in
    let rows : length c.as_mut_slice.result.now ≡ 1024 = omega (arith, c.as_mut_slice.ensures.len, c.in_ok-rows.ensures.len) in
    let arrows : length c.as_mut_slice-2.result.now ≡ 16384 = omega (arith, c.as_mut_slice-2.ensures.len, c.in_ok-arrows.ensures.len) in
    let read : table_read bs (length c.as_mut_slice.result.now) (length c.as_mut_slice-2.result.now) ≡ table_read bs 1024 16384 = ap (λ n. table_read bs n (length c.as_mut_slice-2.result.now)) rows ∙ ap (table_read bs 1024) arrows in
    let row_sheet = whole c.read_table.new.rows c.in_ok-rows.rows.items c.in_ok-rows.rows.len (omega (arith, c.as_mut_slice.ensures.len)) in
    let arrow_sheet = whole c.read_table.new.arrows c.in_ok-arrows.arrows.items c.in_ok-arrows.arrows.len (omega (arith, c.as_mut_slice-2.ensures.len)) in
    let d = c.default.ensures in
    let new_rows : c.as_mut_slice.result.now ≡ replicate 1024 blank = c.as_mut_slice.ensures.value ∙ (c.in_ok-rows.ensures.items_if_clones_equal (λ y e. e) ∙ ap (replicate 1024) (blank_row c.default.result (d.0, d.1.0, d.1.1.0, d.1.1.1))) in
    let read_rows : c.read_table.new.rows ≡ rows_after (table_read bs 1024 16384) (replicate 1024 blank) = e.row_sheet ∙ (ap (λ r. rows_after r c.as_mut_slice.result.now) read ∙ ap (rows_after (table_read bs 1024 16384)) new_rows) in
    let read_arrows = e.arrow_sheet ∙ (ap (λ r. arrows_after r c.as_mut_slice-2.result.now) read ∙ ap (arrows_after (table_read bs 1024 16384)) (c.as_mut_slice-2.ensures.value ∙ c.in_ok-arrows.ensures.items_if_clones_equal (λ y e. e))) in
    let held = fronts_held bs blank size.states size.arrows c.read_table.new.rows c.read_table.new.arrows (e.answer ∙ ap sized read) read_rows read_arrows in
    rw (row_sheet, arrow_sheet) ((size.arrows, e.answer ∙ ap sized read, held.0), read_rows, read_arrows, e.fair_sheets)
