-- How a call is written.
use Rattle.std.specs.Prelude.{ℕ, List, ◌++◌, codes, decimal}
use Rattle.checker.specs.declared.calls.Call.{Call}
use Rattle.checker.specs.declared.calls.Call.TheVariants.{Place, Book, Objection}

-- a word for the kind of call, and its number in decimal digits
abbrev pub call_text : Call → List ℕ
call_text (Place s) = codes "place " ++ decimal s
call_text (Book b) = codes "book " ++ decimal b
call_text (Objection a) = codes "objection " ++ decimal a
