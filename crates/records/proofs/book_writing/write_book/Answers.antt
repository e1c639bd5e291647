use Rattle.std.proofs.Common.{◌*◌, ◌≤◌, length, Ok, ap, ◌∙◌, arith, rules}
use Rattle.records.specs.BookWritten.{book_long}
use Rattle.records.proofs.BookPuts.{book_put}
use Rattle.records.proofs.Listed.{rests}
use Rattle.records.proofs.BookTrips.{book_written_back}
use Rattle.records.proofs.book_writing.write_book.Goals as goal

pub returns : goal.returns
returns g c =
    let m = g.S.Site.arena c.args.site.now in
    let law = g.S.Site.lawful c.args.site.now in
    let leaves = c.args.leaves.now in
    let replies = c.args.replies.now in
    let leaf_room : m.states ≤ length leaves = omega (arith, c.states-states.ensures, c.in_ok-enough.ensures.enough) in
    let reply_room : 16 * m.states ≤ length replies = omega (arith, c.states-states.ensures, c.in_ok-enough-2.ensures.enough) in
    let fits : book_long m leaves ≤ length c.args.buffer.now = omega (arith, c.leaves_room-needed.ensures.long, c.in_ok-enough-3.ensures.enough) in
    let done = book_put m leaves replies c.args.buffer.now c.states-states.result c.states-states.ensures leaf_room reply_room fits c.new-pen.ensures.front c.new-pen.ensures.holds c.numbered.ensures c.put_leaves.ensures in
    let same = c.put_leaves.ensures.same ∙ (c.numbered.ensures.same ∙ c.new-pen.ensures.same) in
    record {
      answer = ap Ok c.written.ensures ∙ done.answer;
      bytes = rests (search rules) done.bytes;
      trip = book_written_back m leaves replies c.args.buffer.now law leaf_room reply_room fits done c.written.ensures (search rules);
    }
