use Rattle.std.proofs.Common.{◌≡◌, ◌+◌, ◌*◌, ◌∙◌, sym, zero-mul, add-one, add-suc, arith}
use Rattle.records.specs.TableWritten.{aim}
use Rattle.records.proofs.Putting.{put_none, put_then}
use Rattle.records.proofs.TablePuts.{arrows_long, aim_of, arrow_among}
use Rattle.records.proofs.table_puts.put_arrows.Goals as goal

pub loop-command-init : goal.loop-command-init
loop-command-init g c = rw zero-mul (put_none _)

pub numbered-requires-clause-room : goal.numbered-requires-clause-room
numbered-requires-clause-room g c =
    let m = g.S.Site.arena c.args.site.now in
    let s = c.args.state in
    let i = c.loop-command.command * m.events s + c.loop-event.event in
    omega (arith, c.requires.room, c.loop-event.invariant.ends, c.loop-event.invariant.keeps, arrows_long m s i, arrow_among m s c.loop-command.command c.loop-event.event (omega (arith, c.commands-command-end.ensures)) (omega (arith, c.events-event-end.ensures)))

pub loop-event-preserved : goal.loop-event-preserved
loop-event-preserved g c =
    let m = g.S.Site.arena c.args.site.now in
    let s = c.args.state in
    let leads : c.next.result ≡ aim m s (c.loop-command.command * m.events s + c.loop-event.event) = c.next.ensures ∙ sym (aim_of m s c.loop-command.command c.loop-event.event (omega (arith, c.events-event-end.ensures))) in
    rw (add-one, add-suc) (put_then c.loop-event.invariant (rw leads at c.numbered.ensures))
