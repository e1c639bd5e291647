use Rattle.std.proofs.Common.{suc, ◌<◌, arith}
use Rattle.std.proofs.lemmas.List.{get_or-take, length-take-le}
use Rattle.checker.specs.declared.leaves.Leaf.TheVariants.{Covered}
use Rattle.records.proofs.BookPuts.{leaves_bytes_long, leaves_long_grows, leaf_put}
use Rattle.records.proofs.Putting.{put_none}
use Rattle.records.proofs.book_puts.put_leaves.Goals as goal

pub loop-state-init : goal.loop-state-init
loop-state-init g c = put_none _

pub put_leaf_record-requires : goal.put_leaf_record-requires
put_leaf_record-requires g c =
    let m = g.S.Site.arena c.args.site.now in
    let law = g.S.Site.lawful c.args.site.now in
    let k = c.loop-state.state in
    let leaves = c.args.leaves.now in
    let replies = c.args.replies.now in
    let long = length-take-le c.states.result leaves (omega (arith, c.states.ensures)) in
    let lt : k < m.states = omega (arith, c.states.ensures, long) in
    rw (get_or-take c.states.result leaves k (Covered 0 0) (omega (arith, long)), c.own_replies.ensures.many)
    (omega (arith, c.loop-state.invariant.ends, c.loop-state.invariant.keeps, c.requires.room, leaves_bytes_long m law leaves replies k (omega arith) c.requires.replies, leaves_long_grows m leaves (suc k) m.states lt))

pub loop-state-preserved : goal.loop-state-preserved
loop-state-preserved g c =
    let m = g.S.Site.arena c.args.site.now in
    let k = c.loop-state.state in
    let leaves = c.args.leaves.now in
    let long = length-take-le c.states.result leaves (omega (arith, c.states.ensures)) in
    leaf_put m leaves c.args.replies.now k _ _ (get_or-take c.states.result leaves k (Covered 0 0) (omega (arith, long))) c.own_replies.ensures.own c.loop-state.invariant c.put_leaf_record.ensures
