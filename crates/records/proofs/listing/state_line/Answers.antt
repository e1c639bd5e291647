use Rattle.std.proofs.Common.{length, Ok, refl, ap, ◌∙◌, arith, rules}
use Rattle.records.proofs.Listed.{bytes_put, state_fits, state_put, rests}
use Rattle.records.proofs.Putting.{few_digits}
use Rattle.records.proofs.listing.state_line.Goals as goal

pub number-requires : goal.number-requires
number-requires g c =
    omega (arith, few_digits c.args.state c.ranges.state.fits, c.new-pen.ensures.front, ap length c.new-pen.ensures.holds, c.in_ok-enough-3.ensures.enough)

pub returns : goal.returns
returns g c =
    let m = g.S.Site.arena c.args.site.now in
    let leaves = c.args.leaves.now in
    let replies = c.args.replies.now in
    let before = c.args.buffer.now in
    let s = c.args.state in
    let fits = state_fits m leaves replies s (length before) (omega (arith, c.states-states.ensures, c.in_ok-enough.ensures.enough)) (omega (arith, c.states-states.ensures, c.in_ok-enough-2.ensures.enough)) (omega (arith, c.in_ok-enough-3.ensures.enough)) (omega (arith, c.states-states.ensures)) in
    let whole = state_put m leaves replies s _ _ refl c.own_replies.ensures.own c.number.ensures.put c.put_leaf.ensures.put c.text.ensures in
    let done = bytes_put _ _ before fits c.new-pen.ensures.front c.new-pen.ensures.holds whole in
    let same = whole.same ∙ c.new-pen.ensures.same in
    record {
      answer = ap Ok c.written.ensures ∙ done.answer;
      room = omega (arith, c.written.ensures, c.text.ensures.ends, c.own_replies.ensures.few, c.new-pen.ensures.front, c.put_leaf.ensures.short, c.number.ensures.short);
      line = rests (search rules) done.bytes;
    }
