use Rattle.std.proofs.Common.{take}
use Rattle.std.specs.List.{flat_map}
use Rattle.records.specs.BookWritten.{reply_bytes}
use Rattle.records.specs.Pens.{Wrote}
use Rattle.records.proofs.book_puts.put_events.Given as goal

abbrev pub invariant-loop-reply : goal.invariant-loop-reply
invariant-loop-reply l = Wrote (flat_map reply_bytes (take l.reply-index l.replies)) l.initial.pen l.pen
