use Rattle.records.specs.Readings.{SeveralDone}
use Rattle.records.proofs.several.read_several.Given as goal

abbrev pub invariant-loop-i : goal.invariant-loop-i
invariant-loop-i g l = SeveralDone (g.R.Record.taken l.kind) g.R.Record.width l.from l.first l.initial.sheet l.i l.unread l.sheet
