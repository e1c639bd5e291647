use Rattle.std.proofs.Common.{◌∙◌, arith}
use Rattle.watch.proofs.Entries.{in_range_is}
use Rattle.watch.proofs.watching.in_range.Goals as goal

pub returns-then-turns_fair : goal.returns-then-turns_fair
returns-then-turns_fair c =
    let both = in_range_is c.args.positions c.args.turns.now c.args.shows.now (omega arith) (omega arith) (omega arith) (omega arith) in
    c.shows_fair.ensures ∙ rw (← c.if-turns_fair.ensures) at both

pub returns-else-turns_fair : goal.returns-else-turns_fair
returns-else-turns_fair c =
    let both = in_range_is c.args.positions c.args.turns.now c.args.shows.now (omega arith) (omega arith) (omega arith) (omega arith) in
    c.if-turns_fair.false ∙ rw (← c.if-turns_fair.ensures) at both
