use Rattle.parts.specs.Written.{Written, due}
use Rattle.parts.proofs.labels.Stage.round.Given as goal

abbrev pub invariant-loop-s : goal.invariant-loop-s
invariant-loop-s g l =
    Written (due (g.S.Site.arena l.self.site.now) l.self.number l.j l.self.firsts.now l.initial.labels) (λ _. l.j) l.initial.labels l.s l.labels
