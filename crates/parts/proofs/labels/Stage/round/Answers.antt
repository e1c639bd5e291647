use Rattle.std.proofs.Common.{ℕ, Bool, sym, refl, ◌∙◌, arith}
use Rattle.parts.specs.Written.{due}
use Rattle.parts.proofs.Writes.{written_set, written_skip, due_same}
use Rattle.parts.proofs.labels.Stage.round.Goals as goal
use Rattle.parts.proofs.labels.Stage.round.Goals.{then-is_due, else-is_due}

pub loop-s-preserved : goal.loop-s-preserved
loop-s-preserved g c =
    let m = g.S.Site.arena c.args.self.now.site.now in
    let before = c.args.labels.now in
    let p : ℕ → Bool = due m c.args.self.now.number c.args.j c.args.self.now.firsts.now before in
    let v : ℕ → ℕ = λ _. c.args.j in
    let s = c.loop-s.s in
    let same = due_same m c.args.self.now.number c.args.j c.args.self.now.firsts.now before c.loop-s.labels s c.requires.number c.loop-s.invariant in
    elim c.if-is_due.branch [
      | then-is_due w ↦ rw w.labels-is (written_set p v before s c.loop-s.labels c.args.j c.loop-s.invariant (sym same ∙ sym w.if-is_due.ensures) refl (omega arith))
      | else-is_due w ↦ rw w.labels-is (written_skip p v before s c.loop-s.labels c.loop-s.invariant (sym same ∙ sym w.if-is_due.ensures))
    ]
