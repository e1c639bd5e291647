-- The arrows of the events before this one have passed.
use Rattle.std.proofs.Common.{◌≡◌}
use Rattle.checker.specs.Checked.{in_turn, event_tested, passed}
use Rattle.checker.proofs.rules.Check.covered_leaf.Given as goal

abbrev pub invariant-loop-event : goal.invariant-loop-event
invariant-loop-event g l =
    let pair = l.self.pair in
    in_turn (event_tested (g.S.Site.arena pair.site.now) pair.leaves.now l.s l.command l.rank) l.event ≡ passed
