-- Reading a table's bytes back.
use Rattle.std.specs.Prelude.{◌≡◌, ℕ, ◌≤◌, List, length, Ok}
use Rattle.site.specs.Arena.{Arena}
use Rattle.site.specs.Laid.{laid}
use Rattle.site.specs.Tables.{table}
use Rattle.site.specs.declared.sheets.Row.{Row}
use Rattle.records.specs.TableBytes.{Read, table_in}

-- two sites answer every question alike, out of range too
pub record Alike (m k : Arena) : Type 0 where
  pub states : m.states ≡ k.states
  pub grade : (s : ℕ) → m.grade s ≡ k.grade s
  pub commands : (s : ℕ) → m.commands s ≡ k.commands s
  pub events : (s : ℕ) → m.events s ≡ k.events s
  pub next : (s a b : ℕ) → m.next s a b ≡ k.next s a b

-- the bytes are read as a table: laid over any sheets that are long enough, it stands for a site like m
pub record ReadBack (m : Arena) (bs : List ℕ) : Type 0 where
  pub found : Read
  pub read : table_in bs ≡ Ok found
  pub alike : (rows : List Row) (arrows : List ℕ) → length found.rows ≤ length rows → length found.arrows ≤ length arrows → Alike (table (length found.rows) (laid 0 found.rows rows) (laid 0 found.arrows arrows)) m
