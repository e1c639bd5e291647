use Rattle.records.specs.Scanning.{StatesDone}
use Rattle.records.proofs.scanning.read_states.Given as goal

abbrev pub invariant-loop-state : goal.invariant-loop-state
invariant-loop-state l = StatesDone l.states l.from.bytes.now l.initial.rows l.initial.arrows l.state l.total l.unread l.rows l.arrows
