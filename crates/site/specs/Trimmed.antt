-- What a table keeps of the sheets that it is made from.
use Rattle.std.specs.Prelude.{◌≡◌, ◌≤◌, ℕ, List, length, take}
use Rattle.site.specs.Tables.{arrows_before}
use Rattle.site.specs.declared.sheets.Row.{Row}
use Rattle.site.specs.declared.tables.Table.{Table}

-- the table holds the rows of n states and their arrows, all of which the sheets have, and nothing else
pub record Stands (t : Table) (n : ℕ) (rows : List Row) (arrows : List ℕ) : Type 0 where
  pub long_rows : n ≤ length rows
  pub own_rows : t.rows.now ≡ take n rows
  pub long_arrows : arrows_before rows n ≤ length arrows
  pub own_arrows : t.arrows.now ≡ take (arrows_before rows n) arrows
