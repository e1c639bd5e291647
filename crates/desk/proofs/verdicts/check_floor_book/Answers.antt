use Rattle.std.proofs.Common.{◌≡◌, ◌-◌, length, take, drop, ap, ◌∙◌, subst}
use Rattle.std.proofs.lemmas.Result.{err_from_is_err_and}
use Rattle.site.specs.Arena.{Arena}
use Rattle.site.specs.Tables.{table}
use Rattle.desk.specs.Made.{Answers}
use Rattle.desk.specs.Verdicts.{book_verdict, verdict}
use Rattle.desk.proofs.Held.{floor_held}
use Rattle.desk.proofs.Readings.{table_refused, behind_table, rest_is}
use Rattle.desk.proofs.verdicts.check_floor_book.Goals as goal

pub returns-in_err-floor : goal.returns-in_err-floor
returns-in_err-floor c =
    let p = err_from_is_err_and c.from_residual-in_err-floor.result c.from_residual-in_err-floor.ensures.1 in
    rw (p.1, p.2) (table_refused c.args.bytes.now c.in_ok-end.end c.in_err-floor.field-0.0 c.in_ok-end.ensures.answer c.in_err-floor.ensures)

pub returns : goal.returns
returns c =
    let bs = c.args.bytes.now in
    let end = c.in_ok-end.end in
    let t = c.table.result in
    let m : Arena = table (length t.rows.now) t.rows.now t.arrows.now in
    let h = floor_held (take end bs) c.in_ok-floor.floor c.in_ok-floor.ensures in
    let from : book_verdict m (take (length bs - end) (drop end bs)) ≡ verdict bs = ap (book_verdict m) (rest_is bs end) ∙ behind_table bs end m c.in_ok-end.ensures.answer (h.0, h.1, c.table.ensures ∙ h.2) in
    subst (λ a. Answers a c.check_book.result) from c.check_book.ensures
