use Rattle.std.proofs.Common.{◌≡◌, ◌+◌, ◌*◌, length, take, ap, ◌∙◌, arith}
use Rattle.std.proofs.lemmas.Result.{err_from_is_err_and}
use Rattle.records.specs.BookWritten.{book_bytes}
use Rattle.records.specs.Buffers.{counted}
use Rattle.desk.specs.PlannedSites.{own_leaves, own_replies}
use Rattle.desk.proofs.Fitting.{whole, own_leaves_long, own_replies_long}
use Rattle.desk.proofs.Lines.{text_is, same_number}
use Rattle.desk.proofs.Longest.{book_made, not_refused, book_short}
use Rattle.desk.proofs.books.book_site.Goals as goal

pub returns-in_err-written : goal.returns-in_err-written
returns-in_err-written g c =
    let m = g.S.Site.arena c.args.site.now in
    let plan = c.in_ok-plan.ensures in
    let leaves : c.as_slice.result.now ≡ own_leaves m = c.as_slice.ensures.value ∙ plan.0 in
    let replies : c.as_slice-2.result.now ≡ own_replies m = c.as_slice-2.ensures.value ∙ plan.1 in
    let room : length c.as_mut_slice.result.now ≡ 3 + 37 * m.states = omega (arith, c.as_mut_slice.ensures.len, c.in_ok-book.ensures.len, c.states.ensures) in
    let p = err_from_is_err_and c.from_residual-in_err-written.result c.from_residual-in_err-written.ensures.1 in
    let made = book_made m (g.S.Site.lawful c.args.site.now) c.as_slice.result.now c.as_slice-2.result.now (length c.as_mut_slice.result.now) (omega (arith, ap length leaves ∙ own_leaves_long m)) (omega (arith, ap length replies ∙ own_replies_long m)) (omega arith) in
    rw (p.1, p.2) (not_refused _ _ _ c.in_err-written.ensures.answer made)

pub returns : goal.returns
returns g c =
    let m = g.S.Site.arena c.args.site.now in
    let plan = c.in_ok-plan.ensures in
    let e = c.in_ok-written.ensures in
    let leaves : c.as_slice.result.now ≡ own_leaves m = c.as_slice.ensures.value ∙ plan.0 in
    let replies : c.as_slice-2.result.now ≡ own_replies m = c.as_slice-2.ensures.value ∙ plan.1 in
    let room : length c.as_mut_slice.result.now ≡ 3 + 37 * m.states = omega (arith, c.as_mut_slice.ensures.len, c.in_ok-book.ensures.len, c.states.ensures) in
    let lawful = g.S.Site.lawful c.args.site.now in
    let made = book_made m lawful c.as_slice.result.now c.as_slice-2.result.now (length c.as_mut_slice.result.now) (omega (arith, ap length leaves ∙ own_leaves_long m)) (omega (arith, ap length replies ∙ own_replies_long m)) (omega arith) in
    c.truncate.ensures.items
    ∙ (ap (take c.in_ok-written.written) (whole c.write_book.new.buffer c.in_ok-book.book.items c.in_ok-book.book.len (omega (arith, c.as_mut_slice.ensures.len)))
    ∙ (text_is _ _ c.as_mut_slice.result.now c.write_book.new.buffer c.in_ok-written.written made e.answer e.bytes (omega (arith, room, same_number (e.answer ∙ ap counted made), book_short m lawful c.as_slice.result.now c.as_slice-2.result.now (omega (arith, ap length replies ∙ own_replies_long m))))
    ∙ (ap (λ ls. book_bytes m ls c.as_slice-2.result.now) leaves ∙ ap (book_bytes m (own_leaves m)) replies)))
