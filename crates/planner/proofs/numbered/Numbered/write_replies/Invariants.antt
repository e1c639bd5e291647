use Rattle.std.proofs.Common.{◌≡◌, map}
use Rattle.std.specs.List.{range_with_len}
use Rattle.site.specs.Laid.{laid}
use Rattle.planner.specs.Choices.{chosen_reply}
use Rattle.planner.specs.Rows.{numbers_in}
use Rattle.planner.proofs.numbered.Numbered.write_replies.Given as goal

abbrev pub invariant-loop-a : goal.invariant-loop-a
invariant-loop-a g l =
    l.own ≡ laid 0 (map (chosen_reply (g.S.Site.arena l.self.site.now) (numbers_in l.self.rows) l.s) (range_with_len 0 l.a)) l.initial.own
