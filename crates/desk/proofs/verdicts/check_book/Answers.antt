use Rattle.std.proofs.Common.{◌≡◌, ◌*◌, replicate, ◌∙◌, arith}
use Rattle.std.proofs.lemmas.Result.{err_from_is_err_and}
use Rattle.checker.specs.declared.leaves.Leaf.TheVariants.{Open}
use Rattle.desk.proofs.Fitting.{whole}
use Rattle.desk.proofs.Readings.{book_checked}
use Rattle.desk.proofs.verdicts.check_book.Goals as goal

pub returns-in_err-counts : goal.returns-in_err-counts
returns-in_err-counts g c =
    let m = g.S.Site.arena c.args.site.now in
    let e = c.in_ok-read_book.ensures in
    let leaves = c.as_slice.ensures.value ∙ whole c.read_book.new.leaves c.in_ok-leaves.leaves.items c.in_ok-leaves.leaves.len (omega (arith, c.as_mut_slice.ensures.len)) in
    let replies = c.as_slice-2.ensures.value ∙ whole c.read_book.new.replies c.in_ok-leaves.replies.items c.in_ok-leaves.replies.len (omega (arith, c.as_mut_slice-2.ensures.len)) in
    let blank : c.as_mut_slice.result.now ≡ replicate m.states (Open 0 0) = c.as_mut_slice.ensures.value ∙ c.in_ok-leaves.ensures.leaves in
    let zeros : c.as_mut_slice-2.result.now ≡ replicate (16 * m.states) 0 = c.as_mut_slice-2.ensures.value ∙ c.in_ok-leaves.ensures.replies in
    let p = err_from_is_err_and c.from_residual-in_err-counts.result c.from_residual-in_err-counts.ensures.1 in
    rw (p.1, p.2) (c.in_err-counts.ensures.outcome ∙ book_checked m c.args.book.now c.in_ok-read_book.field-0 c.as_slice.result.now c.as_mut_slice.result.now c.as_slice-2.result.now c.as_mut_slice-2.result.now blank zeros e.answer (leaves ∙ e.leaf_sheet) (replies ∙ e.reply_sheet))

pub returns : goal.returns
returns g c =
    let m = g.S.Site.arena c.args.site.now in
    let e = c.in_ok-read_book.ensures in
    let leaves = c.as_slice.ensures.value ∙ whole c.read_book.new.leaves c.in_ok-leaves.leaves.items c.in_ok-leaves.leaves.len (omega (arith, c.as_mut_slice.ensures.len)) in
    let replies = c.as_slice-2.ensures.value ∙ whole c.read_book.new.replies c.in_ok-leaves.replies.items c.in_ok-leaves.replies.len (omega (arith, c.as_mut_slice-2.ensures.len)) in
    let blank : c.as_mut_slice.result.now ≡ replicate m.states (Open 0 0) = c.as_mut_slice.ensures.value ∙ c.in_ok-leaves.ensures.leaves in
    let zeros : c.as_mut_slice-2.result.now ≡ replicate (16 * m.states) 0 = c.as_mut_slice-2.ensures.value ∙ c.in_ok-leaves.ensures.replies in
    c.in_ok-counts.ensures.outcome ∙ book_checked m c.args.book.now c.in_ok-read_book.field-0 c.as_slice.result.now c.as_mut_slice.result.now c.as_slice-2.result.now c.as_mut_slice-2.result.now blank zeros e.answer (leaves ∙ e.leaf_sheet) (replies ∙ e.reply_sheet)
