-- What is taken off the front of bytes: a record, and several records of one kind, one after the other.
use Rattle.std.specs.Prelude.{ℕ, ◌+◌, List, [], ◌∷◌, ◌++◌, Ok, Result}
use Rattle.site.specs.Refusals.{Refusal, and_then}
use Rattle.records.specs.Repeated.{repeated}

-- what a record says, and the bytes that are left after it
pub record Found (T : Type 0) : Type 0 where
  pub what : T
  pub left : List ℕ

-- what several records say, the offset after them, and the bytes that are left
pub record Several (T : Type 0) : Type 0 where
  pub items : List T
  pub at : ℕ
  pub left : List ℕ

-- one record more, which takes `width` bytes
abbrev pub one_more : {T : Type 0} → (ℕ → List ℕ → Result (Found T) Refusal) → ℕ → Several T → Result (Several T) Refusal
one_more taken width rd =
    and_then (taken rd.at rd.left) (λ one.
    Ok (record { items = rd.items ++ one.what ∷ []; at = rd.at + width; left = one.left }))

-- k records, from the offset `at` on
abbrev pub several_in : {T : Type 0} → (ℕ → List ℕ → Result (Found T) Refusal) → ℕ → ℕ → ℕ → List ℕ → Result (Several T) Refusal
several_in taken width k at bs = repeated (one_more taken width) k (record { items = []; at = at; left = bs })
