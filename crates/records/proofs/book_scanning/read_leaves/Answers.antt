use Rattle.std.proofs.Common.{ap, ◌∙◌, arith}
use Rattle.std.proofs.lemmas.Result.{err_from_is_err_and}
use Rattle.records.specs.BookBytes.{replies_due}
use Rattle.records.proofs.BookScans.{no_leaves_done, leaf_done, leaf_failed, leaf_replies_failed}
use Rattle.records.proofs.book_scanning.read_leaves.Goals as goal

pub loop-state-init : goal.loop-state-init
loop-state-init g c = no_leaves_done _ c.args.from _ _ c.requires

pub returns-in_err-leaf : goal.returns-in_err-leaf
returns-in_err-leaf g c =
    let m = g.S.Site.arena c.args.site.now in
    let p = err_from_is_err_and c.from_residual.result c.from_residual.ensures.1 in
    rw (p.1, p.2) (leaf_failed m.states _ c.loop-state.invariant c.in_err-leaf.ensures (omega (arith, c.states-state-end.ensures)))

pub returns-in_err-unread : goal.returns-in_err-unread
returns-in_err-unread g c =
    let m = g.S.Site.arena c.args.site.now in
    let p = err_from_is_err_and c.from_residual-in_err-unread.result c.from_residual-in_err-unread.ensures.1 in
    let leaf = c.in_ok-leaf.leaf in
    let due = c.replies_due-count.ensures ∙ ap (replies_due leaf) c.commands.ensures in
    rw (p.1, p.2) (leaf_replies_failed m.states _ leaf c.in_ok-leaf.body _ due c.loop-state.invariant c.in_ok-leaf.ensures c.in_err-unread.ensures (omega (arith, c.states-state-end.ensures)))

pub loop-state-preserved : goal.loop-state-preserved
loop-state-preserved g c =
    let leaf = c.in_ok-leaf.leaf in
    let due = c.replies_due-count.ensures ∙ ap (replies_due leaf) c.commands.ensures in
    rw c.lay.ensures (leaf_done leaf c.in_ok-leaf.body _ due c.loop-state.invariant c.in_ok-leaf.ensures c.in_ok-unread.ensures)
