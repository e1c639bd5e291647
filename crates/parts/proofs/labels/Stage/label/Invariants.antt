use Rattle.parts.proofs.Turns.{Labelled}
use Rattle.parts.proofs.labels.Stage.label.Given as goal

abbrev pub invariant-loop-j : goal.invariant-loop-j
invariant-loop-j g l = Labelled (g.S.Site.arena l.self.site.now) l.self.number l.j l.labels
