use Rattle.std.proofs.Common.{arith}
use Rattle.records.proofs.Putting.{put_then, few_digits}
use Rattle.records.proofs.pen.Pen.field.Goals as goal

pub number-requires : goal.number-requires
number-requires c =
    omega (arith, c.requires, few_digits c.args.number c.ranges.number.fits, c.text.ensures.ends, c.text.ensures.keeps)

pub returns-clause-put : goal.returns-clause-put
returns-clause-put c = put_then c.text.ensures c.number.ensures.put
