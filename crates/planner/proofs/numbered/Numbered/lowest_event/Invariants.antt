use Rattle.std.proofs.Common.{◌≡◌, false}
use Rattle.site.specs.Counting.{some}
use Rattle.planner.specs.Choices.{answers_rule}
use Rattle.planner.specs.Rows.{numbers_in}
use Rattle.planner.proofs.numbered.Numbered.lowest_event.Given as goal

abbrev pub invariant-loop-b : goal.invariant-loop-b
invariant-loop-b g l = some (answers_rule (g.S.Site.arena l.self.site.now) (numbers_in l.self.rows) l.s l.a) l.b ≡ false
