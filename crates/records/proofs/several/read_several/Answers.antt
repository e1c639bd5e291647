use Rattle.std.proofs.lemmas.Result.{err_from_is_err_and}
use Rattle.records.proofs.Taking.{none_done, one_done, one_failed}
use Rattle.records.proofs.several.read_several.Goals as goal

pub loop-i-init : goal.loop-i-init
loop-i-init g c = none_done c.args.from c.args.first c.args.sheet.now

pub returns-in_err-item : goal.returns-in_err-item
returns-in_err-item g c =
    let p = err_from_is_err_and c.from_residual.result c.from_residual.ensures.1 in
    rw (p.1, p.2) (one_failed c.args.count _ c.loop-i.invariant c.in_err-item.ensures c.loop-i-test.true)

pub loop-i-preserved : goal.loop-i-preserved
loop-i-preserved g c = rw c.lay.ensures (one_done c.in_ok-item.item c.loop-i.invariant c.in_ok-item.ensures)
