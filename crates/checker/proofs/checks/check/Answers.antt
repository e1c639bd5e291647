-- State by state: each leaf read is the state's own, its test passes or is the refusal, and the outcome
-- decides acceptance.
use Rattle.std.proofs.Common.{◌≡◌, ◌<◌, ◌≤◌, length, Ok, sym, ap, arith}
use Rattle.std.proofs.lemmas.List.{get_or-take, length-take}
use Rattle.std.proofs.lemmas.Result.{err_from_is_err_and}
use Rattle.site.specs.Refusals.{answered}
use Rattle.checker.specs.declared.leaves.Leaf.TheVariants.{Covered}
use Rattle.checker.specs.Leaves.{is_covered}
use Rattle.checker.specs.Checked.{checked}
use Rattle.checker.proofs.Laws.{answer_decides}
use Rattle.checker.proofs.Promises.{run_law}
use Rattle.checker.proofs.SameCovers.{same_cover}
use Rattle.checker.proofs.Progress.{too_few, one_covered, one_open, state_refused, all_passed}
use Rattle.checker.proofs.checks.check.Goals as goal
use Rattle.checker.proofs.checks.check.Goals.{in-Covered, in-Open}

pub returns-in_err-check : goal.returns-in_err-check
returns-in_err-check g c =
    let m = g.S.Site.arena c.args.site.now in
    let p = err_from_is_err_and c.from_residual.result c.from_residual.ensures.1 in
    let e : answered c.from_residual.result ≡ checked m c.args.leaves.now c.args.replies.now =
    rw (p.1, p.2) (sym (too_few m c.args.leaves.now c.args.replies.now _ c.in_err-check.ensures)) in
    record {
      outcome = e;
      law = answer_decides m c.args.leaves.now c.args.replies.now c.from_residual.result e;
      runs = run_law m (g.S.Site.lawful c.args.site.now);
      cover = same_cover m (g.S.Site.lawful c.args.site.now);
    }

pub returns-in_err-keeps_rule : goal.returns-in_err-keeps_rule
returns-in_err-keeps_rule g c =
    let m = g.S.Site.arena c.args.site.now in
    let lent = c.in_ok-check.ensures in
    let check = c.in_ok-check.check in
    let below : c.loop-s.s < m.states = omega (arith, length-take c.states.result c.args.leaves.now) in
    let at = sym (get_or-take c.states.result c.args.leaves.now c.loop-s.s (Covered 0 0) (omega arith)) in
    let p = err_from_is_err_and c.from_residual-in_err-keeps_rule.result c.from_residual-in_err-keeps_rule.ensures.1 in
    let e : answered c.from_residual-in_err-keeps_rule.result ≡ checked m c.args.leaves.now c.args.replies.now =
    rw (p.1, p.2)
    (state_refused m c.args.leaves.now c.args.replies.now c.loop-s.s c.loop-s.counts c.loop-s.invariant
    (rw (lent.0, lent.1) at check.pair.enough_leaves) (rw (lent.0, lent.2) at check.pair.enough_replies) _ _ below at (rw (lent.0, lent.1, lent.2) at (sym c.in_err-keeps_rule.ensures))) in
    record {
      outcome = e;
      law = answer_decides m c.args.leaves.now c.args.replies.now c.from_residual-in_err-keeps_rule.result e;
      runs = run_law m (g.S.Site.lawful c.args.site.now);
      cover = same_cover m (g.S.Site.lawful c.args.site.now);
    }

pub loop-s-preserved : goal.loop-s-preserved
loop-s-preserved g c =
    let m = g.S.Site.arena c.args.site.now in
    let lent = c.in_ok-check.ensures in
    let at = sym (get_or-take c.states.result c.args.leaves.now c.loop-s.s (Covered 0 0) (omega (arith, length-take c.states.result c.args.leaves.now))) in
    let test = rw (lent.0, lent.1, lent.2) at (sym c.in_ok-keeps_rule.ensures) in
    elim c.match-leaf.branch [
      | in-Covered w ↦
          one_covered m c.args.leaves.now c.args.replies.now c.loop-s.s c.loop-s.counts c.loop-s.invariant
          _ _ at test (ap is_covered w.in-Covered.is) w.counts-is
      | in-Open w ↦
          one_open m c.args.leaves.now c.args.replies.now c.loop-s.s c.loop-s.counts c.loop-s.invariant
          _ _ at test (ap is_covered w.in-Open.is) w.counts-is
    ]

pub returns : goal.returns
returns g c =
    let m = g.S.Site.arena c.args.site.now in
    let lent = c.in_ok-check.ensures in
    let check = c.in_ok-check.check in
    let enough : m.states ≤ length c.args.leaves.now = rw (lent.0, lent.1) at check.pair.enough_leaves in
    let all : m.states ≤ c.loop-s.s = omega (arith, length-take c.states.result c.args.leaves.now) in
    let e = all_passed m c.args.leaves.now c.args.replies.now c.loop-s.s c.loop-s.counts c.loop-s.invariant
    enough (rw (lent.0, lent.2) at check.pair.enough_replies) (omega (arith, length-take c.states.result c.args.leaves.now)) all in
    record {
      outcome = e;
      law = answer_decides m c.args.leaves.now c.args.replies.now (Ok c.loop-s.counts) e;
      runs = run_law m (g.S.Site.lawful c.args.site.now);
      cover = same_cover m (g.S.Site.lawful c.args.site.now);
    }
