use Rattle.std.proofs.Common.{sym, arith}
use Rattle.planner.specs.Rows.{numbers_in}
use Rattle.planner.proofs.Progress.{progress_covered, progress_open, progress_few}
use Rattle.planner.proofs.numbered.Numbered.write_states.Goals as goal
use Rattle.planner.proofs.numbered.Numbered.write_states.Goals.{then-write_state, else-write_state}

pub overflow_add-covered : goal.overflow_add-covered
overflow_add-covered g c =
    let few = progress_few _ _ _ _ c.loop-s.s c.loop-s.covered c.loop-s.«open» c.loop-s.leaves c.loop-s.replies c.loop-s.invariant in
    omega (arith, few.0)

pub overflow_add-open : goal.overflow_add-open
overflow_add-open g c =
    let few = progress_few _ _ _ _ c.loop-s.s c.loop-s.covered c.loop-s.«open» c.loop-s.leaves c.loop-s.replies c.loop-s.invariant in
    omega (arith, few.1)

pub loop-s-preserved : goal.loop-s-preserved
loop-s-preserved g c =
    let m = g.S.Site.arena c.args.self.now.site.now in
    let p = numbers_in c.args.self.now.rows in
    elim c.if-write_state.branch [
      | then-write_state w ↦
          rw (w.covered-is, w.open-is) (progress_covered m p c.args.leaves.now c.args.replies.now c.loop-s.s c.loop-s.covered c.loop-s.«open» c.loop-s.leaves c.write_state.new.leaves c.loop-s.replies c.write_state.new.replies c.loop-s.invariant c.write_state.ensures.leaves c.write_state.ensures.replies (sym w.if-write_state.ensures.covered))
      | else-write_state w ↦
          rw (w.covered-is, w.open-is) (progress_open m p c.args.leaves.now c.args.replies.now c.loop-s.s c.loop-s.covered c.loop-s.«open» c.loop-s.leaves c.write_state.new.leaves c.loop-s.replies c.write_state.new.replies c.loop-s.invariant c.write_state.ensures.leaves c.write_state.ensures.replies (sym w.if-write_state.ensures.covered))
    ]
