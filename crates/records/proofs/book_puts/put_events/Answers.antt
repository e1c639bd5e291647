use Rattle.std.proofs.Common.{take, arith}
use Rattle.std.proofs.lemmas.List.{length-take-le}
use Rattle.records.specs.BookWritten.{reply_bytes}
use Rattle.records.proofs.BookPuts.{replies_long}
use Rattle.records.proofs.Putting.{put_none, piece_put}
use Rattle.records.proofs.book_puts.put_events.Goals as goal

pub loop-reply-init : goal.loop-reply-init
loop-reply-init c = put_none _

pub text-requires : goal.text-requires
text-requires c =
    let i = c.loop-reply.reply-index in
    let xs = c.args.replies.now in
    omega (arith, c.requires, c.loop-reply.invariant.ends, c.loop-reply.invariant.keeps, replies_long (take i xs), length-take-le i xs (omega arith))

pub loop-reply-preserved : goal.loop-reply-preserved
loop-reply-preserved c =
    piece_put reply_bytes c.args.replies.now c.loop-reply.reply-index c.loop-reply-test.true c.loop-reply.invariant c.text.ensures
