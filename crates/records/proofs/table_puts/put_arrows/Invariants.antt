use Rattle.std.proofs.Common.{◌+◌, ◌*◌}
use Rattle.records.specs.Pens.{Wrote}
use Rattle.records.specs.TableWritten.{arrows_bytes}
use Rattle.records.proofs.table_puts.put_arrows.Given as goal

abbrev pub invariant-loop-command : goal.invariant-loop-command
invariant-loop-command g l =
    let m = g.S.Site.arena l.site in
    Wrote (arrows_bytes m l.state (l.command * m.events l.state)) l.fn.pen l.pen

abbrev pub invariant-loop-event : goal.invariant-loop-event
invariant-loop-event g l =
    let m = g.S.Site.arena l.site in
    Wrote (arrows_bytes m l.state (l.command * m.events l.state + l.event)) l.fn.pen l.pen
