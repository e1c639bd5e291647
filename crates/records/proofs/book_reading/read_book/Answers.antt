use Rattle.std.proofs.Common.{◌<◌, arith, rules}
use Rattle.std.proofs.ByRecursion.{All-from_get_or}
use Rattle.records.proofs.Books.{second_book_scan}
use Rattle.records.proofs.book_reading.read_book.Goals as goal

pub returns : goal.returns
returns g c =
    let law = g.S.Site.lawful c.args.site.now in
    let h = All-from_get_or (λ b. b < 256) c.args.bytes.now 0 (λ i lt. search rules) in
    let l = second_book_scan c.in_ok-states.ensures c.scan_book-2.result c.scan_book-2.new.leaves c.scan_book-2.new.replies law h (omega (arith, c.in_ok-enough.ensures.enough)) (omega (arith, c.in_ok-enough-2.ensures.enough)) c.scan_book-2.ensures in
    record { answer = l.answer; leaf_sheet = l.leaf_sheet; reply_sheet = l.reply_sheet; trip = l.trip }
