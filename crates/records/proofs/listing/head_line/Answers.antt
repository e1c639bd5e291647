use Rattle.std.proofs.Common.{length, Ok, ap, ◌∙◌, arith, rules}
use Rattle.records.proofs.Listed.{head_fits, bytes_put, rests}
use Rattle.records.proofs.Putting.{put_then}
use Rattle.records.proofs.listing.head_line.Goals as goal

pub returns : goal.returns
returns c =
    let whole = put_then c.field.ensures.put (put_then c.field-2.ensures.put (put_then c.field-3.ensures.put c.text.ensures)) in
    let before = c.args.buffer.now in
    let done = bytes_put _ _ before (head_fits c.args.states c.args.covered c.args.open (length before) (omega (arith, c.in_ok-enough.ensures.enough))) c.new-pen.ensures.front c.new-pen.ensures.holds whole in
    let same = whole.same ∙ c.new-pen.ensures.same in
    record {
      answer = ap Ok c.written.ensures ∙ done.answer;
      room = omega (arith, c.written.ensures, c.new-pen.ensures.front, c.text.ensures.ends, c.field.ensures.short, c.field-2.ensures.short, c.field-3.ensures.short);
      line = rests (search rules) done.bytes;
    }
