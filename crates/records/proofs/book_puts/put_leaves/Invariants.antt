use Rattle.records.specs.BookWritten.{leaves_bytes}
use Rattle.records.specs.Pens.{Wrote}
use Rattle.records.proofs.book_puts.put_leaves.Given as goal

abbrev pub invariant-loop-state : goal.invariant-loop-state
invariant-loop-state g l = Wrote (leaves_bytes (g.S.Site.arena l.site) l.leaves l.replies l.state) l.initial.pen l.pen
