-- Every worked example is as the rules say.
use Rattle.std.proofs.Common.{refl}
use Rattle.std.specs.Fmt.{digits}
use Rattle.checker.specs.Runs.{ran_from, answers_from}
use Rattle.floors.specs.Shown.{Each}
use Rattle.floors.specs.Examples.{examples}
use Rattle.floors.proofs.Drifting.{splits_two, splits_three}
use Rattle.floors.proofs.Small.{plans_b, plans_a, plans_c, plans_late, plans_resting}

pub each : Each examples
unfolding ran_from answers_from digits
each = (
  refl,
  (
    refl,
    (
      plans_b,
      (
        plans_a,
        (
          plans_c,
          (
            plans_late,
            (
              plans_resting,
              (
                refl,
                (
                  splits_two,
                  (
                    splits_three,
                    (refl, (refl, (record { answers_are = refl; run_is = refl; record_is = refl }, tt))),
                  ),
                ),
              ),
            ),
          ),
        ),
      ),
    ),
  ),
)
