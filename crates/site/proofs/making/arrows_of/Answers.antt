use Rattle.std.proofs.Common.{sym, length}
use Rattle.std.proofs.lemmas.Bool.{cond-false}
use Rattle.site.proofs.Rows.{row_more, row_bad}
use Rattle.site.proofs.making.arrows_of.Goals as goal

pub returns-then-not-row_ok : goal.returns-then-not-row_ok
returns-then-not-row_ok c =
    let rows = c.args.rows.now in
    sym (cond-false _ _ _ (row_bad rows (length rows) c.loop-row.row-index c.loop-row.total c.loop-row.invariant.1 c.loop-row-test.true (sym c.if-not-row_ok.ensures)))

pub loop-row-preserved : goal.loop-row-preserved
loop-row-preserved c = row_more c.args.rows.now c.loop-row.row-index c.loop-row.total c.loop-row.invariant (sym c.if-not-row_ok.ensures)
