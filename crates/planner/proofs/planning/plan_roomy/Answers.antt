use Rattle.std.proofs.Common.{Ok, ap, ◌∙◌, arith}
use Rattle.parts.specs.Rows.{first_row, rank_row, second_row}
use Rattle.planner.specs.Planned.{numbers}
use Rattle.planner.proofs.Agreed.{leaves_written_agree, replies_written_agree, counted_agree}
use Rattle.planner.proofs.Filled.{exact, rows_agree}
use Rattle.planner.proofs.planning.plan_roomy.Goals as goal

pub returns : goal.returns
returns g c =
    let m = g.S.Site.arena c.args.site.now in
    let lawful = g.S.Site.lawful c.args.site.now in
    let done = c.number_states.ensures in
    let agree = rows_agree m lawful c.number_states.new.firsts c.number_states.new.ranks c.number_states.new.seconds
    (done.firsts ∙ exact m _ _ _ _ (first_row m) _ (omega arith) (omega arith) (omega arith) (omega arith) (omega arith))
    (done.ranks ∙ exact m _ _ _ _ (rank_row m) _ (omega arith) (omega arith) (omega arith) (omega arith) (omega arith))
    (done.seconds ∙ exact m _ _ _ _ (second_row m) _ (omega arith) (omega arith) (omega arith) (omega arith) (omega arith)) in
    record {
      answer = ap Ok ((rw (c.new.ensures.site, c.new.ensures.rows) at c.write_states.ensures.counts) ∙ counted_agree m lawful _ (numbers m) agree);
      leaves = (rw (c.new.ensures.site, c.new.ensures.rows) at c.write_states.ensures.leaves) ∙ leaves_written_agree m lawful _ (numbers m) agree m.states c.args.leaves.now (omega arith);
      replies = (rw (c.new.ensures.site, c.new.ensures.rows) at c.write_states.ensures.replies) ∙ replies_written_agree m lawful _ (numbers m) agree m.states c.args.replies.now (omega arith);
    }
