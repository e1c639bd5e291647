use Rattle.std.proofs.Common.{◌<◌, ◌≤◌, arith}
use Rattle.parts.specs.Lifting.{unnumbered, Raised, slack}
use Rattle.parts.proofs.Cuts.{cut_raised, slack_mono}
use Rattle.parts.proofs.Raises.{raised_then}
use Rattle.parts.proofs.lifting.Lift.settle.Goals as goal

pub sweeps-preserved : goal.sweeps-preserved
sweeps-preserved g c =
    let m = g.S.Site.arena c.args.self.now.site.now in
    let lawful = g.S.Site.lawful c.args.self.now.site.now in
    let U = unnumbered c.args.self.now.firsts.now in
    let swept : Raised m c.args.self.now.top U c.args.ranks.now c.sweep.new.ranks = raised_then m lawful c.args.self.now.top U c.args.ranks.now c.sweeps.ranks c.sweep.new.ranks c.sweeps.invariant c.sweep.ensures.raised in
    raised_then m lawful c.args.self.now.top U c.args.ranks.now c.sweep.new.ranks c.close_gap.new.ranks swept
    (cut_raised m lawful c.args.self.now.top U c.sweep.new.ranks c.close_gap.new.ranks (omega arith) swept.capped (swept.backed c.requires.backed) c.close_gap.ensures)

pub returns : goal.returns
returns g c =
    record {
      raised = raised_then (g.S.Site.arena c.args.self.now.site.now) (g.S.Site.lawful c.args.self.now.site.now) c.args.self.now.top (unnumbered c.args.self.now.firsts.now) c.args.ranks.now c.sweeps.ranks c.sweep.new.ranks c.sweeps.invariant c.sweep.ensures.raised;
      calm = c.sweep.ensures.calm c.sweeps-test.false;
    }

pub sweeps-smaller : goal.sweeps-smaller
sweeps-smaller g c =
    let m = g.S.Site.arena c.args.self.now.site.now in
    let lawful = g.S.Site.lawful c.args.self.now.site.now in
    let U = unnumbered c.args.self.now.firsts.now in
    let back = c.sweep.ensures.raised.backed (c.sweeps.invariant.backed c.requires.backed) in
    let cut = cut_raised m lawful c.args.self.now.top U c.sweep.new.ranks c.close_gap.new.ranks (omega arith) c.sweep.ensures.raised.capped back c.close_gap.ensures in
    let less : slack c.args.self.now.top c.sweep.new.ranks < slack c.args.self.now.top c.sweeps.ranks = c.sweep.ensures.rose c.sweeps-test.true in
    let more : slack c.args.self.now.top c.close_gap.new.ranks ≤ slack c.args.self.now.top c.sweep.new.ranks = slack_mono c.args.self.now.top c.sweep.new.ranks c.close_gap.new.ranks (omega arith) cut.rises in
    omega (arith, less, more)
