-- An arrow is refused.
use Rattle.std.proofs.Common.{sym, arith}
use Rattle.std.proofs.lemmas.Result.{err_from_is_err_and}
use Rattle.checker.proofs.Outcomes.{covered_refused}
use Rattle.checker.proofs.rules.Check.covered_leaf.Goals as goal

pub returns-in_err-covered_arrow : goal.returns-in_err-covered_arrow
returns-in_err-covered_arrow g c =
    let pair = c.args.self.now.pair in
    let m = g.S.Site.arena pair.site.now in
    let p = err_from_is_err_and c.from_residual.result c.from_residual.ensures.1 in
    rw (p.1, p.2)
    (covered_refused m pair.leaves.now c.args.s c.args.command c.args.rank (omega arith) (omega (arith, c.args.self.now.bounded.doubted)) c.loop-event.event _ (omega arith) c.loop-event.invariant
    (rw (← c.grade-grade.ensures, ← c.leaf_after.ensures) (sym c.in_err-covered_arrow.ensures)))
