use Rattle.std.proofs.Common.{refl}
use Rattle.floors.proofs.Examples.{each}
use Rattle.floors.proofs.worked.worked_examples.Goals as goal

pub returns : goal.returns
returns c = record { count = refl; shown = each }
