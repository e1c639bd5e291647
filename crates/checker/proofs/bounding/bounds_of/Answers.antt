-- The grade that was found is counted once, under its own number.
use Rattle.std.proofs.Common.{◌≤◌, arith}
use Rattle.site.specs.declared.grades.Grade.TheVariants.{Confirmed, Doubted, Ordinary}
use Rattle.checker.proofs.Tallies.{tallied_next, tally_end}
use Rattle.checker.proofs.bounding.bounds_of.Goals as goal
use Rattle.checker.proofs.bounding.bounds_of.Goals.{in-Confirmed, in-Doubted, in-Ordinary}

pub loop-s-init : goal.loop-s-init
loop-s-init g c =
    let none = c.default-bounds.ensures in
    record {
      confirmed = none.0;
      doubted = none.1.0;
      ordinary = none.1.1;
      few_confirmed = omega (arith, none.0);
      few_doubted = omega (arith, none.1.0);
      few_ordinary = omega (arith, none.1.1);
    }

pub loop-s-preserved : goal.loop-s-preserved
loop-s-preserved g c =
    elim c.match-grade.branch [
      | in-Confirmed w ↦ tallied_next _ _ _ c.loop-s.invariant Confirmed _ w.in-Confirmed.ensures w.bounds-is
      | in-Doubted w ↦ tallied_next _ _ _ c.loop-s.invariant Doubted _ w.in-Doubted.ensures w.bounds-is
      | in-Ordinary w ↦ tallied_next _ _ _ c.loop-s.invariant Ordinary _ w.in-Ordinary.ensures w.bounds-is
    ]

pub returns : goal.returns
returns g c =
    let done : c.loop-s.s ≤ (g.S.Site.arena c.args.site.now).states = omega arith in
    let all : (g.S.Site.arena c.args.site.now).states ≤ c.loop-s.s = omega arith in
    record {
      confirmed = tally_end _ _ _ _ c.loop-s.invariant.confirmed done all;
      doubted = tally_end _ _ _ _ c.loop-s.invariant.doubted done all;
      ordinary = tally_end _ _ _ _ c.loop-s.invariant.ordinary done all;
    }
