use Rattle.planner.specs.Rows.{numbers_in}
use Rattle.planner.proofs.Progress.{Progress}
use Rattle.planner.proofs.numbered.Numbered.write_states.Given as goal

abbrev pub invariant-loop-s : goal.invariant-loop-s
invariant-loop-s g l =
    Progress (g.S.Site.arena l.self.site.now) (numbers_in l.self.rows) l.initial.leaves l.initial.replies l.s l.covered l.«open» l.leaves l.replies
