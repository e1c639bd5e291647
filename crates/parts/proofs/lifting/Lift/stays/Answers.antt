use Rattle.std.proofs.Common.{rules, eqb}
use Rattle.parts.specs.Lifting.{none}
use Rattle.parts.proofs.lifting.Lift.stays.Goals as goal

pub returns : goal.returns
returns g c = c.holds.ensures (λ first. eqb first none) (λ first r f called. search rules)
