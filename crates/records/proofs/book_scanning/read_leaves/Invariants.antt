use Rattle.records.specs.BookScanning.{LeavesDone}
use Rattle.records.proofs.book_scanning.read_leaves.Given as goal

abbrev pub invariant-loop-state : goal.invariant-loop-state
invariant-loop-state g l =
    LeavesDone (g.S.Site.arena l.site) l.from.bytes.now l.initial.leaves l.initial.replies l.state l.unread l.leaves l.replies
