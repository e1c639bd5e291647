use Rattle.std.proofs.Common.{length, decimal, ap, arith, rules}
use Rattle.records.specs.Pens.{Wrote}
use Rattle.records.proofs.Putting.{field_short, one_digit, two_digits, three_digits, four_digits}
use Rattle.records.proofs.pen.Pen.number.Goals as goal

pub text-requires : goal.text-requires
text-requires c = omega (arith, c.requires, ap length (one_digit c.args.number c.if-number-lt10.true))

pub text-requires-then-number-lt100 : goal.text-requires-then-number-lt100
text-requires-then-number-lt100 c =
    omega (arith, c.requires, ap length (two_digits c.args.number c.if-number-lt10.false c.if-number-lt100.true c.ranges.number.fits))

pub text-requires-then-number-lt1000 : goal.text-requires-then-number-lt1000
text-requires-then-number-lt1000 c =
    omega (arith, c.requires, ap length (three_digits c.args.number c.if-number-lt100.false c.if-number-lt1000.true c.ranges.number.fits))

pub text-requires-then-number-lt10000 : goal.text-requires-then-number-lt10000
text-requires-then-number-lt10000 c =
    omega (arith, c.requires, ap length (four_digits c.args.number c.if-number-lt1000.false c.if-number-lt10000.true c.ranges.number.fits))

pub returns-then-number-lt10-clause-put : goal.returns-then-number-lt10-clause-put
returns-then-number-lt10-clause-put c =
    rw (one_digit c.args.number c.if-number-lt10.true, ← c.digit.ensures) c.text.ensures

pub returns-then-number-lt100-clause-put : goal.returns-then-number-lt100-clause-put
returns-then-number-lt100-clause-put c =
    rw (two_digits c.args.number c.if-number-lt10.false c.if-number-lt100.true c.ranges.number.fits, ← c.digit-then-number-lt100.ensures, ← c.digit-then-number-lt100-2.ensures) c.text-then-number-lt100.ensures

pub returns-then-number-lt1000-clause-put : goal.returns-then-number-lt1000-clause-put
returns-then-number-lt1000-clause-put c =
    rw (three_digits c.args.number c.if-number-lt100.false c.if-number-lt1000.true c.ranges.number.fits, ← c.digit-then-number-lt1000.ensures, ← c.digit-then-number-lt1000-2.ensures, ← c.digit-then-number-lt1000-3.ensures) c.text-then-number-lt1000.ensures

pub returns-then-number-lt10000-clause-put : goal.returns-then-number-lt10000-clause-put
returns-then-number-lt10000-clause-put c =
    rw (four_digits c.args.number c.if-number-lt1000.false c.if-number-lt10000.true c.ranges.number.fits, ← c.digit-then-number-lt10000.ensures, ← c.digit-then-number-lt10000-2.ensures, ← c.digit-then-number-lt10000-3.ensures, ← c.digit-then-number-lt10000-4.ensures) c.text-then-number-lt10000.ensures

pub returns-else-number-lt10000-clause-short : goal.returns-else-number-lt10000-clause-short
returns-else-number-lt10000-clause-short c =
    let put : Wrote (decimal c.args.number) c.args.self.now c.text-else-number-lt10000.new.self = search rules in
    field_short c.args.self.now c.text-else-number-lt10000.new.self 0 c.args.number c.ranges.number.fits (omega (arith, put.ends))
