use Rattle.std.proofs.Common.{suc, add-one, arith}
use Rattle.records.proofs.Putting.{put_none, put_then}
use Rattle.records.proofs.TablePuts.{states_long, arrows_to_grows}
use Rattle.records.proofs.table_puts.put_states.Goals as goal

pub loop-state-init : goal.loop-state-init
loop-state-init g c = put_none _

pub put_row-requires : goal.put_row-requires
put_row-requires g c =
    let m = g.S.Site.arena c.args.site.now in
    let k = c.loop-state.state in
    omega (arith, c.requires, c.loop-state.invariant.ends, c.loop-state.invariant.keeps, states_long m k, arrows_to_grows m (suc k) m.states (omega (arith, c.states-state-end.ensures)), c.states-state-end.ensures)

pub put_arrows-requires : goal.put_arrows-requires
put_arrows-requires g c =
    let m = g.S.Site.arena c.args.site.now in
    let k = c.loop-state.state in
    record {
      one = omega (arith, c.states-state-end.ensures);
      room = omega (arith, c.requires, c.loop-state.invariant.ends, c.loop-state.invariant.keeps, c.put_row.ensures.ends, c.put_row.ensures.keeps, states_long m k, arrows_to_grows m (suc k) m.states (omega (arith, c.states-state-end.ensures)), c.states-state-end.ensures);
    }

pub loop-state-preserved : goal.loop-state-preserved
loop-state-preserved g c = rw add-one (put_then c.loop-state.invariant (put_then c.put_row.ensures c.put_arrows.ensures))
