use Rattle.std.proofs.Common.{◌≡◌, ◌*◌, ◌≤◌, true}
use Rattle.site.specs.Counting.{every}
use Rattle.site.specs.Tables.{row_fair, arrows_before}
use Rattle.site.proofs.making.arrows_of.Given as goal

abbrev pub invariant-loop-row : goal.invariant-loop-row
invariant-loop-row l =
    (every (row_fair l.rows) l.row-index ≡ true)
    × (l.total ≡ arrows_before l.rows l.row-index)
    × (l.total ≤ 256 * l.row-index)
