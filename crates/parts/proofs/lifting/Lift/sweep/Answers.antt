use Rattle.std.proofs.Common.{◌≡◌, sym, ap, ◌∙◌, arith}
use Rattle.parts.specs.Directions.{visit}
use Rattle.parts.specs.Lifting.{unnumbered}
use Rattle.parts.proofs.Raises.{swept_raised, swept_kept, swept_calm}
use Rattle.parts.proofs.lifting.Lift.sweep.Goals as goal
use Rattle.parts.proofs.lifting.Lift.sweep.Goals.{then-raise, else-raise}

pub loop-k-preserved : goal.loop-k-preserved
loop-k-preserved g c =
    let m = g.S.Site.arena c.args.self.now.site.now in
    let lawful = g.S.Site.lawful c.args.self.now.site.now in
    let U = unnumbered c.args.self.now.firsts.now in
    let here : c.state.result ≡ visit c.args.direction m.states c.loop-k.k = c.state.ensures ∙ ap (λ n. visit c.args.direction n c.loop-k.k) c.states-n.ensures in
    elim c.if-raise.branch [
      | then-raise w ↦ rw (w.rose-is, c.raise.ensures.ranks, w.if-raise.true) (swept_raised m lawful c.args.direction c.args.self.now.top U c.args.ranks.now c.loop-k.ranks c.loop-k.rose c.loop-k.k c.state.result c.loop-k.invariant here (omega arith) (omega arith) (sym c.raise.ensures.rose ∙ w.if-raise.true))
      | else-raise w ↦ rw (w.rose-is, c.raise.ensures.ranks, w.if-raise.false) (swept_kept m lawful c.args.direction c.args.self.now.top U c.args.ranks.now c.loop-k.ranks c.loop-k.rose c.loop-k.k c.state.result c.loop-k.invariant here (omega arith) (omega arith) (sym c.raise.ensures.rose ∙ w.if-raise.false))
    ]

pub returns : goal.returns
returns g c =
    let m = g.S.Site.arena c.args.self.now.site.now in
    record {
      raised = c.loop-k.invariant.0;
      rose = c.loop-k.invariant.1;
      calm = swept_calm m c.args.direction c.args.self.now.top (unnumbered c.args.self.now.firsts.now) c.args.ranks.now c.loop-k.ranks c.loop-k.rose c.loop-k.k c.loop-k.invariant (omega arith);
    }
