use Rattle.std.proofs.Common.{◌≤◌, length, Ok, ap, ◌∙◌, arith, rules}
use Rattle.records.specs.TableWritten.{table_long, arrows_to}
use Rattle.records.proofs.Listed.{rests}
use Rattle.records.proofs.TablePuts.{few_arrows, table_put}
use Rattle.records.proofs.TableTrips.{written_back}
use Rattle.records.proofs.writing.write_table.Goals as goal

pub overflow_mul-needed-2 : goal.overflow_mul-needed-2
overflow_mul-needed-2 g c =
    let m = g.S.Site.arena c.args.site.now in
    let law = g.S.Site.lawful c.args.site.now in
    omega (arith, c.count_arrows-arrows.ensures, few_arrows m law m.states, law.limited)

pub overflow_add-needed-2 : goal.overflow_add-needed-2
overflow_add-needed-2 g c =
    let m = g.S.Site.arena c.args.site.now in
    let law = g.S.Site.lawful c.args.site.now in
    omega (arith, c.count_arrows-arrows.ensures, c.states-states.ensures, few_arrows m law m.states, law.limited)

pub returns : goal.returns
returns g c =
    let m = g.S.Site.arena c.args.site.now in
    let law = g.S.Site.lawful c.args.site.now in
    let fits : table_long m ≤ length c.args.buffer.now = omega (arith, c.count_arrows-arrows.ensures, c.states-states.ensures, c.in_ok-enough.ensures.enough) in
    let states : m.states ≤ 1024 = omega (arith, c.states-states.ensures) in
    let arrows : arrows_to m m.states ≤ 16384 = omega (arith, c.count_arrows-arrows.ensures) in
    let done = table_put m c.args.buffer.now c.states-states.result c.states-states.ensures fits states arrows c.new-pen.ensures.front c.new-pen.ensures.holds c.numbered.ensures c.put_states.ensures in
    let same = c.put_states.ensures.same ∙ (c.numbered.ensures.same ∙ c.new-pen.ensures.same) in
    record {
      answer = ap Ok c.written.ensures ∙ done.answer;
      bytes = rests (search rules) done.bytes;
      trip = written_back m c.args.buffer.now law fits states arrows done c.written.ensures (search rules);
    }
