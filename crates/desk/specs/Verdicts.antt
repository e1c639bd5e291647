-- What checking a book as a reader does answers: a floor's table, and then its book.
use Rattle.std.specs.Prelude.{ℕ, ◌*◌, min, cond, List, length, take, drop, replicate, Ok, Err, Result, ◌==◌}
use Rattle.site.specs.Arena.{Arena}
use Rattle.site.specs.Laid.{laid}
use Rattle.site.specs.Refusals.{Refusal, and_then}
use Rattle.checker.specs.Checked.{checked}
use Rattle.checker.specs.declared.leaves.Counts.{Counts}
use Rattle.checker.specs.declared.leaves.Leaf.{Leaf}
use Rattle.checker.specs.declared.leaves.Leaf.TheVariants.{Open}
use Rattle.records.specs.BookBytes.{BookRead}
use Rattle.records.specs.BookRead.{book_read, spread}
use Rattle.records.specs.TableBytes.{Read}
use Rattle.desk.specs.ReadFloors.{held, site_of}

-- the leaves and replies of a book that was read, in memory of their own
abbrev pub read_leaves : Arena → BookRead → List Leaf
read_leaves m rd = laid 0 rd.leaves (replicate m.states (Open 0 0))

abbrev pub read_replies : Arena → BookRead → List ℕ
read_replies m rd = spread 0 rd.replies (replicate (16 * m.states) 0)

-- the check's answer to the book in the bytes, or the refusal of the bytes
abbrev pub book_verdict : Arena → List ℕ → Result Counts Refusal
book_verdict m book =
    and_then (book_read m book m.states (16 * m.states)) (λ rd. checked m (read_leaves m rd) (read_replies m rd))

-- where the table ends with which bytes begin: at their end, or where reading it finds bytes left over (refused by 8);
-- other refusals stay
abbrev pub ends_at : ℕ → Result Read Refusal → Result ℕ Refusal
ends_at n (Ok rd) = Ok n
ends_at n (Err e) = cond (e.number == 8) (Ok (min e.place n)) (Err e)

abbrev pub table_end : List ℕ → Result ℕ Refusal
table_end bytes = ends_at (length bytes) (held bytes)

-- a table and then a book: the table is read up to its end, and the book behind it is checked on its site
abbrev pub verdict : List ℕ → Result Counts Refusal
verdict bytes =
    and_then (table_end bytes) (λ end. and_then (held (take end bytes)) (λ rd. book_verdict (site_of rd) (drop end bytes)))
