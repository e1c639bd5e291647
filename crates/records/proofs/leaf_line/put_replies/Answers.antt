use Rattle.std.proofs.Common.{codes, arith, rules}
use Rattle.records.specs.Lines.{field}
use Rattle.records.proofs.Putting.{put_none, piece_put}
use Rattle.records.proofs.leaf_line.put_replies.Goals as goal

pub loop-reply-init : goal.loop-reply-init
loop-reply-init c = record { put = put_none _; short = omega arith }

pub loop-reply-preserved : goal.loop-reply-preserved
loop-reply-preserved c = record {
  put = piece_put (field (codes " ")) c.args.replies.now c.loop-reply.reply-index c.loop-reply-test.true c.loop-reply.invariant.put (rw c.from.ensures at c.field.ensures.put);
  short = search rules;
}
