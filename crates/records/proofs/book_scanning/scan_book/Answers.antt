use Rattle.std.proofs.Common.{rules}
use Rattle.records.proofs.Books.{book_scan_done}
use Rattle.records.proofs.book_scanning.scan_book.Goals as goal

pub returns : goal.returns
returns g c =
    book_scan_done c.states-states.ensures c.in_ok-from.ensures.0 c.in_ok-left.ensures (search rules)
