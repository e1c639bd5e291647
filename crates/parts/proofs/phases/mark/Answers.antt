use Rattle.std.proofs.Common.{◌≡◌, ℕ, Bool, ◌&&◌, eqb, sym, refl, ap, ◌∙◌, arith}
use Rattle.std.proofs.lemmas.List.{set-get_or}
use Rattle.parts.specs.Lifting.{at, none}
use Rattle.parts.specs.Written.{lost}
use Rattle.parts.proofs.Steps.{some_in, some_out}
use Rattle.parts.proofs.Writes.{written_here, written_set, written_skip}
use Rattle.parts.proofs.phases.mark.Goals as goal
use Rattle.parts.proofs.phases.mark.Goals.{then-is_lost, else-is_lost}

pub loop-s-preserved : goal.loop-s-preserved
loop-s-preserved c =
    let before = c.args.firsts.now in
    let p : ℕ → Bool = lost c.args.top c.args.ranks.now before in
    let v : ℕ → ℕ = λ _. c.args.i in
    let s = c.loop-s.s in
    let same : p s ≡ lost c.args.top c.args.ranks.now c.loop-s.firsts s = ap (λ x. eqb x none && eqb (at c.args.ranks.now s) c.args.top) (sym (written_here p v before s c.loop-s.firsts c.loop-s.invariant.0)) in
    elim c.if-is_lost.branch [
      | then-is_lost w ↦
          let pass = same ∙ sym w.if-is_lost.ensures in
          rw (w.firsts-is, w.any-is) (written_set p v before s c.loop-s.firsts c.args.i c.loop-s.invariant.0 pass refl (omega arith), some_in p s pass)
      | else-is_lost w ↦
          let fail = same ∙ sym w.if-is_lost.ensures in
          rw (w.firsts-is, set-get_or, w.any-is) (written_skip p v before s c.loop-s.firsts c.loop-s.invariant.0 fail, some_out p s c.loop-s.any c.loop-s.invariant.1 fail)
    ]
