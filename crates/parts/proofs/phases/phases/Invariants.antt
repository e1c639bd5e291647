use Rattle.std.proofs.Common.{ℕ, ◌≤◌}
use Rattle.parts.specs.Lifting.{at, unnumbered, Backed}
use Rattle.parts.proofs.Peeling.{Peeled, Under}
use Rattle.parts.proofs.phases.phases.Given as goal

abbrev pub invariant-loop-i : goal.invariant-loop-i
invariant-loop-i g l =
    ((s : ℕ) → at l.ranks s ≤ l.top)
    × Peeled (g.S.Site.arena l.site) l.i l.firsts
    × Under (g.S.Site.arena l.site) l.i l.ranks
    × (l.i ≤ (g.S.Site.arena l.site).states)
    × Backed (g.S.Site.arena l.site) l.top (unnumbered l.firsts) (at l.ranks)
