-- What the scan of a table's bytes has done so far: what was read, and that it lies on the sheets.
use Rattle.std.specs.Prelude.{◌≡◌, ℕ, ◌≤◌, List, length, Ok, Err, Result}
use Rattle.site.specs.Laid.{laid}
use Rattle.site.specs.Refusals.{told}
use Rattle.site.specs.declared.faults.Fault.{Fault}
use Rattle.site.specs.declared.sheets.Row.{Row}
use Rattle.records.specs.TableBytes.{Read, states_in, table_in}
use Rattle.records.specs.TableRead.{size_of}
use Rattle.records.specs.declared.unread.Unread.{Unread}
use Rattle.records.specs.declared.table_size.TableSize.{TableSize}

-- k of n states were read from the bytes bs after the head, with `total` arrows and `end` to come
-- after them, and are laid over both sheets from their fronts on
pub record StatesDone (n : ℕ) (bs : List ℕ) (old_rows : List Row) (old_arrows : List ℕ) (k total : ℕ) (end : Unread) (new_rows : List Row) (new_arrows : List ℕ) : Type 0 where
  pub rows : List Row
  pub arrows : List ℕ
  pub many_rows : length rows ≡ k
  pub many_arrows : length arrows ≡ total
  pub few_arrows : total ≤ 16384
  pub read : states_in n k bs ≡ Ok (record { rows = rows; arrows = arrows; at = end.at; left = end.bytes.now })
  pub row_sheet : new_rows ≡ laid 0 rows old_rows
  pub arrow_sheet : new_arrows ≡ laid 0 arrows old_arrows

-- the whole table was read from the bytes, has this size, and is laid over both sheets
pub record TableDone (bs : List ℕ) (old_rows : List Row) (old_arrows : List ℕ) (size : TableSize) (new_rows : List Row) (new_arrows : List ℕ) : Type 0 where
  pub found : Read
  pub read : table_in bs ≡ Ok found
  pub measures : size ≡ size_of found
  pub row_sheet : new_rows ≡ laid 0 found.rows old_rows
  pub arrow_sheet : new_arrows ≡ laid 0 found.arrows old_arrows

-- what a scan that answered r has done; where it was refused, the sheets may hold a part of the table
abbrev pub Scanned : List ℕ → List Row → List ℕ → Result TableSize Fault → List Row → List ℕ → Type 0
Scanned bs old_rows old_arrows (Ok size) new_rows new_arrows = TableDone bs old_rows old_arrows size new_rows new_arrows
Scanned bs old_rows old_arrows (Err f) new_rows new_arrows = table_in bs ≡ Err (told f)
