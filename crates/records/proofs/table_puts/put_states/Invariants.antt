use Rattle.records.specs.Pens.{Wrote}
use Rattle.records.specs.TableWritten.{states_bytes}
use Rattle.records.proofs.table_puts.put_states.Given as goal

abbrev pub invariant-loop-state : goal.invariant-loop-state
invariant-loop-state g l = Wrote (states_bytes (g.S.Site.arena l.site) l.state) l.initial.pen l.pen
