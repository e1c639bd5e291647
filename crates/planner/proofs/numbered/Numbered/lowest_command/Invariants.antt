use Rattle.std.proofs.Common.{◌≡◌, true, false}
use Rattle.site.specs.Counting.{every, some}
use Rattle.planner.specs.Choices.{keeps_rule}
use Rattle.planner.specs.Rows.{numbers_in}
use Rattle.planner.proofs.numbered.Numbered.lowest_command.Given as goal

abbrev pub invariant-commands : goal.invariant-commands
invariant-commands g l =
    let m = g.S.Site.arena l.self.site.now in
    some (λ a. every (keeps_rule m (numbers_in l.self.rows) l.s a) (m.events l.s)) l.a ≡ false

abbrev pub invariant-loop-b : goal.invariant-loop-b
invariant-loop-b g l =
    every (keeps_rule (g.S.Site.arena l.self.site.now) (numbers_in l.self.rows) l.s l.a) l.b ≡ true
