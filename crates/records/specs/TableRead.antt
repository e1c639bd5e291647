-- What reading a table from bytes onto two sheets answers, and what it leaves on them.
use Rattle.std.specs.Prelude.{ℕ, List, length, Ok, Err, Result, nat_lt}
use Rattle.site.specs.Laid.{laid}
use Rattle.site.specs.Refusals.{Refusal, unless, and_then}
use Rattle.site.specs.declared.sheets.Row.{Row}
use Rattle.records.specs.TableBytes.{Read, table_in}
use Rattle.records.specs.declared.table_size.TableSize.{TableSize}

-- there is room for the rows and for the arrows (else 9 with the number needed, the rows' first)
abbrev pub fitted : ℕ → ℕ → Read → Result Read Refusal
fitted row_room arrow_room rd =
    unless (nat_lt row_room (length rd.rows)) 9 (length rd.rows)
    (unless (nat_lt arrow_room (length rd.arrows)) 9 (length rd.arrows) (Ok rd))

-- the table in the bytes, for sheets with so much room: the bytes are tested before the room
abbrev pub table_read : List ℕ → ℕ → ℕ → Result Read Refusal
table_read bs row_room arrow_room = and_then (table_in bs) (fitted row_room arrow_room)

-- how large a table is
abbrev pub size_of : Read → TableSize
size_of rd = record { states = length rd.rows; arrows = length rd.arrows }

-- the answer: the size, or the refusal
abbrev pub sized : Result Read Refusal → Result TableSize Refusal
sized r = and_then r (λ rd. Ok (size_of rd))

-- the row sheet afterwards: the rows lie on its front, or after a refusal it is as it was
abbrev pub rows_after : Result Read Refusal → List Row → List Row
rows_after (Ok rd) before = laid 0 rd.rows before
rows_after (Err r) before = before

-- the arrow sheet afterwards
abbrev pub arrows_after : Result Read Refusal → List ℕ → List ℕ
arrows_after (Ok rd) before = laid 0 rd.arrows before
arrows_after (Err r) before = before
