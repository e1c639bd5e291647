-- What a line of a script says: a word and a number.
use Rattle.std.specs.Prelude.{◌≡◌, ℕ, ◌^◌, ◌<◌, List, ◌++◌, Some, None, codes, Option}
use Rattle.std.specs.Str.Parse.{IsNumeral, digits_value, without_leading_plus}
use Rattle.checker.specs.declared.calls.Call.{Call}
use Rattle.checker.specs.declared.calls.Call.TheVariants.{Place, Book, Objection}

-- the text is the number n in decimal digits, below 2 ^ 64; a plus may stand before them
abbrev pub Number : List ℕ → ℕ → Type 0
Number text n = IsNumeral 10 (without_leading_plus text) × (digits_value 10 (without_leading_plus text) < 2 ^ 64) × (n ≡ digits_value 10 (without_leading_plus text))

-- the line is the word and then the number n
abbrev pub Says : List ℕ → List ℕ → ℕ → Type 0
Says word line n = (rest : List ℕ) × ((line ≡ word ++ rest) × Number rest n)

-- the number after the word, if the line is the word and a number
abbrev pub NumberAfter : List ℕ → List ℕ → Option ℕ → Type 0
NumberAfter word line (Some n) = Says word line n
NumberAfter word line None = (n : ℕ) → Says word line n → ⊥

-- the call that the line says, if it says one
abbrev pub CallIn : List ℕ → Option Call → Type 0
CallIn line (Some (Place s)) = Says (codes "place ") line s
CallIn line (Some (Book b)) = Says (codes "book ") line b
CallIn line (Some (Objection a)) = Says (codes "objection ") line a
CallIn line None =
    NumberAfter (codes "place ") line None × NumberAfter (codes "book ") line None × NumberAfter (codes "objection ") line None
