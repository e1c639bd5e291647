use Rattle.std.proofs.Common.{◌+◌, ◌*◌, ◌≤◌, take}
use Rattle.records.specs.Lines.{replies_text}
use Rattle.records.specs.Pens.{Wrote}
use Rattle.records.proofs.leaf_line.put_replies.Given as goal

abbrev pub invariant-loop-reply : goal.invariant-loop-reply
invariant-loop-reply l = record {
  put : Wrote (replies_text (take l.reply-index l.replies)) l.initial.pen l.pen;
  short : l.pen.at ≤ l.initial.pen.at + 4 * l.reply-index;
}
