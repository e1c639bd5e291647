use Rattle.std.proofs.Common.{arith, refl}
use Rattle.site.proofs.Trimmed.{unordered, too_few, astray, stands, fair_fronts}
use Rattle.site.proofs.tables.Table.of_fair.Goals as goal

pub returns-in_err-total : goal.returns-in_err-total
returns-in_err-total c =
    let rows = c.in_ok-rows.ensures.lookup.0 in
    rw c.from_residual-in_err-total.ensures (unordered c.args.states c.args.rows.now _ c.args.arrows.now rows.1 rows.2 c.in_err-total.ensures)

pub returns-in_err-arrows : goal.returns-in_err-arrows
returns-in_err-arrows c =
    let rows = c.in_ok-rows.ensures.lookup.0 in
    rw c.from_residual-in_err-arrows.ensures (too_few c.args.states c.args.rows.now _ c.args.arrows.now rows.1 rows.2 _ c.in_ok-total.ensures (omega (arith, c.in_err-arrows.ensures.lookup.0)))

pub returns-then-not-arrows_fair : goal.returns-then-not-arrows_fair
returns-then-not-arrows_fair c =
    let rows = c.in_ok-rows.ensures.lookup.0 in
    let arrows = c.in_ok-arrows.ensures.lookup.0 in
    astray c.args.states c.args.rows.now _ c.args.arrows.now rows.1 rows.2 _ c.in_ok-total.ensures _ arrows.1 arrows.2 c.if-not-arrows_fair.ensures

pub invariant_of-result : goal.invariant_of-result
invariant_of-result c =
    let rows = c.in_ok-rows.ensures.lookup.0 in
    let arrows = c.in_ok-arrows.ensures.lookup.0 in
    record { ok = fair_fronts c.args.states c.args.rows.now _ c.args.arrows.now rows.1 rows.2 _ c.in_ok-total.ensures _ arrows.1 arrows.2 (grind (arith, c.if-is_empty.ensures)) (omega arith) c.if-not-arrows_fair.ensures }

pub returns : goal.returns
returns c =
    let rows = c.in_ok-rows.ensures.lookup.0 in
    let arrows = c.in_ok-arrows.ensures.lookup.0 in
    stands c.args.states c.args.rows.now _ c.args.arrows.now rows.1 rows.2 _ c.in_ok-total.ensures _ arrows.1 arrows.2 _ refl refl
