use Rattle.std.proofs.Common.{◌≡◌, ◌≤◌, length, map, sym, arith}
use Rattle.std.proofs.lemmas.List.{length-take-le}
use Rattle.std.proofs.lemmas.List.FromFn.{length-map-range_with_len}
use Rattle.std.specs.List.{range_with_len}
use Rattle.site.proofs.Laid.{laid_none}
use Rattle.planner.specs.Choices.{chosen_reply}
use Rattle.planner.specs.Rows.{numbers_in}
use Rattle.planner.proofs.Fills.{laid_counted_more, laid_front}
use Rattle.planner.proofs.numbered.Numbered.write_replies.Goals as goal

pub loop-a-init : goal.loop-a-init
loop-a-init g c = sym (laid_none 0 _)

pub loop-a-preserved : goal.loop-a-preserved
loop-a-preserved g c =
    let own = c.args.self.now in
    let m = g.S.Site.arena own.site.now in
    laid_counted_more (chosen_reply m (numbers_in own.rows) c.args.s) c.loop-a.a c.lowest_event.result c.loop-a.own _ c.loop-a.invariant c.lowest_event.ensures.value

pub returns : goal.returns
returns g c =
    let own = c.args.self.now in
    let m = g.S.Site.arena own.site.now in
    let f = chosen_reply m (numbers_in own.rows) c.args.s in
    let n = m.commands c.args.s in
    let room : n ≤ length c.args.replies.now = omega (arith, (g.S.Site.lawful own.site.now).few_commands c.args.s) in
    let all : c.loop-a.a ≡ n = omega (arith, length-take-le c.commands-commands.result c.args.replies.now (omega (arith, c.commands-commands.ensures)), c.commands-commands.ensures) in
    rw (c.commands-commands.ensures, c.loop-a.invariant, all, c.commands-commands.ensures) (laid_front n (map f (range_with_len 0 n)) c.args.replies.now (length-map-range_with_len f 0 n) room)
