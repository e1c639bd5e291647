use Rattle.std.proofs.Common.{◌≡◌, ℕ, ◌<◌, cond}
use Rattle.parts.specs.Lifting.{at}
use Rattle.parts.specs.Written.{ready}
use Rattle.parts.proofs.labels.Stage.begin.Given as goal

abbrev pub invariant-loop-s : goal.invariant-loop-s
invariant-loop-s g l =
    (k : ℕ) → k < l.s → at l.labels k ≡ cond (ready (g.S.Site.arena l.self.site.now) l.self.number l.self.firsts.now k) 0 65535
