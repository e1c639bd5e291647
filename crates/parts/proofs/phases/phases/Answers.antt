use Rattle.std.proofs.Common.{◌≡◌, ℕ, suc, ◌+◌, true, length, ap, ◌∙◌, add-one, arith}
use Rattle.parts.specs.Lifting.{at, unnumbered}
use Rattle.parts.specs.Written.{lost}
use Rattle.parts.proofs.Heights.{top_of}
use Rattle.parts.proofs.Backing.{backed_less}
use Rattle.parts.proofs.Peeling.{peeled_none, phase_more, phase_last}
use Rattle.parts.proofs.Steps.{graded_le}
use Rattle.parts.proofs.Writes.{filled_zero, filled_within, still_unnumbered}
use Rattle.parts.proofs.phases.phases.Goals as goal

pub overflow_cast-top : goal.overflow_cast-top
overflow_cast-top g c = omega (arith, c.doubted.ensures, graded_le _ (g.S.Site.lawful c.args.site.now) 1)

pub overflow_add-top : goal.overflow_add-top
overflow_add-top g c = omega (arith, c.doubted.ensures, graded_le _ (g.S.Site.lawful c.args.site.now) 1)

pub loop-i-init : goal.loop-i-init
loop-i-init g c =
    let m = g.S.Site.arena c.args.site.now in
    let zeros : (s : ℕ) → at c.fill-2.new.self s ≡ 0 = λ s. rw (c.fill-2.ensures.after (λ y e. e)) (filled_zero (length c.args.ranks.now) s) in (
      (λ s. omega (arith, zeros s)),
      peeled_none m (g.S.Site.lawful c.args.site.now) c.fill.new.self (λ s lt. rw (c.fill.ensures.after (λ y e. e)) (filled_within (length c.args.firsts.now) s 65535 (omega arith))),
      (λ s lt. omega (arith, zeros s)),
      omega arith,
      (λ h calm v μ μ< given s s< more. absurd (omega (arith, more, zeros s))),
    )

pub invariant_of-lift-clause-limited : goal.invariant_of-lift-clause-limited
invariant_of-lift-clause-limited g c = omega (arith, c.doubted.ensures, graded_le _ (g.S.Site.lawful c.args.site.now) 1)

pub returns-then-not-mark : goal.returns-then-not-mark
returns-then-not-mark g c =
    let m = g.S.Site.arena c.args.site.now in
    let top_is : c.doubted.result + 1 ≡ top_of m = add-one c.doubted.result ∙ ap suc c.doubted.ensures in
    let last = phase_last m (g.S.Site.lawful c.args.site.now) c.loop-i.i (c.doubted.result + 1) (length c.loop-i.firsts) top_is (omega arith) c.loop-i.invariant.3 c.loop-i.firsts c.loop-i.ranks c.settle.new.ranks c.mark.new.firsts c.loop-i.invariant.1 c.loop-i.invariant.2 c.settle.ensures.raised c.settle.ensures.calm c.mark.ensures.marked c.mark.result c.mark.ensures.any c.if-not-mark.true in
    record { firsts = last.0; ranks = last.1 }

pub loop-i-preserved : goal.loop-i-preserved
loop-i-preserved g c =
    let m = g.S.Site.arena c.args.site.now in
    let top_is : c.doubted.result + 1 ≡ top_of m = add-one c.doubted.result ∙ ap suc c.doubted.ensures in
    let next = phase_more m (g.S.Site.lawful c.args.site.now) c.loop-i.i (c.doubted.result + 1) (length c.loop-i.firsts) top_is (omega arith) c.loop-i.invariant.3 c.loop-i.firsts c.loop-i.ranks c.settle.new.ranks c.mark.new.firsts c.loop-i.invariant.1 c.loop-i.invariant.2 c.settle.ensures.raised c.settle.ensures.calm c.mark.ensures.marked c.mark.result c.mark.ensures.any c.if-not-mark.false in
    let few = (g.S.Site.lawful c.args.site.now).limited in
    let fewer : (t : ℕ) → unnumbered c.mark.new.firsts t ≡ true → unnumbered c.loop-i.firsts t ≡ true = still_unnumbered c.loop-i.i (lost (c.doubted.result + 1) c.settle.new.ranks c.loop-i.firsts) c.loop-i.firsts c.mark.new.firsts (omega arith) c.mark.ensures.marked in
    (c.settle.ensures.raised.capped, next.0, next.1, next.2, backed_less m (g.S.Site.lawful c.args.site.now) (c.doubted.result + 1) (unnumbered c.loop-i.firsts) (unnumbered c.mark.new.firsts) fewer (at c.settle.new.ranks) (c.settle.ensures.raised.backed c.loop-i.invariant.4))
