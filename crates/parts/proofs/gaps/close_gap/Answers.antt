use Rattle.std.proofs.Common.{cond, ltb, ap, ◌∙◌, arith}
use Rattle.parts.specs.Lifting.{at}
use Rattle.parts.proofs.Cuts.{cut_at}
use Rattle.parts.proofs.gaps.close_gap.Goals as goal

pub returns : goal.returns
returns c =
    let before = c.args.ranks.now in
    cut_at c.args.top before c.raise_above.new.ranks c.mark_used.new.marks
    (λ v v<. c.mark_used.ensures v (omega (arith, c.mark_used.auto.marks)))
    (λ s. c.raise_above.ensures s ∙ ap (λ g. cond (ltb g (at before s)) c.args.top (at before s)) c.lowest_unused-gap.ensures)
