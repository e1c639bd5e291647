-- A reply is no event of the state, or an arrow is refused.
use Rattle.std.proofs.Common.{sym, ◌∙◌, arith}
use Rattle.std.proofs.lemmas.Result.{err_from_is_err_and}
use Rattle.checker.proofs.Outcomes.{reply_refused, reply_own, open_refused}
use Rattle.checker.proofs.rules.Check.open_leaf.Goals as goal

pub returns-then-event-events : goal.returns-then-event-events
returns-then-event-events g c =
    let pair = c.args.self.now.pair in
    let bounded = c.args.self.now.bounded in
    open_refused (g.S.Site.arena pair.site.now) pair.leaves.now pair.replies.now c.args.s c.args.numbers.0 c.args.numbers.1
    (omega (arith, bounded.confirmed)) (omega (arith, bounded.ordinary)) c.loop-command.command _ (omega arith) c.loop-command.invariant
    (reply_refused (g.S.Site.arena pair.site.now) pair.leaves.now pair.replies.now c.args.s c.args.numbers.0 c.args.numbers.1 c.loop-command.command (omega arith))

pub returns-in_err-open_arrow : goal.returns-in_err-open_arrow
returns-in_err-open_arrow g c =
    let pair = c.args.self.now.pair in
    let bounded = c.args.self.now.bounded in
    let m = g.S.Site.arena pair.site.now in
    let p = err_from_is_err_and c.from_residual.result c.from_residual.ensures.1 in
    rw (p.1, p.2)
    (open_refused m pair.leaves.now pair.replies.now c.args.s c.args.numbers.0 c.args.numbers.1
    (omega (arith, bounded.confirmed)) (omega (arith, bounded.ordinary)) c.loop-command.command _ (omega arith) c.loop-command.invariant
    (reply_own m pair.leaves.now pair.replies.now c.args.s c.args.numbers.0 c.args.numbers.1 c.loop-command.command (omega arith)
    ∙ rw (← c.grade-grade.ensures, ← c.reply-event.ensures, ← c.leaf_after.ensures) (sym c.in_err-open_arrow.ensures)))
