-- The commands before this one have passed.
use Rattle.std.proofs.Common.{◌≡◌}
use Rattle.checker.specs.Checked.{in_turn, command_tested, passed}
use Rattle.checker.proofs.rules.Check.open_leaf.Given as goal

abbrev pub invariant-loop-command : goal.invariant-loop-command
invariant-loop-command g l =
    let pair = l.self.pair in
    in_turn (command_tested (g.S.Site.arena pair.site.now) pair.leaves.now pair.replies.now l.s l.numbers.0 l.numbers.1) l.command ≡ passed
