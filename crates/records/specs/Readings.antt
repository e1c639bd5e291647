-- What the readers of records answer.
use Rattle.std.specs.Prelude.{◌≡◌, ℕ, ◌+◌, List, length, Ok, Err, Result}
use Rattle.site.specs.Laid.{laid}
use Rattle.site.specs.Refusals.{Refusal, told}
use Rattle.site.specs.declared.faults.Fault.{Fault}
use Rattle.records.specs.Taken.{Found, several_in}
use Rattle.records.specs.declared.unread.Unread.{Unread}

-- a reader of one record takes off the front of its bytes what the definition takes, and goes on as many bytes
-- further as the record is wide; or it refuses what the definition refuses
abbrev pub Reads : {T : Type 0} → (T → ℕ) → (ℕ → List ℕ → Result (Found T) Refusal) → Unread → Result (T × Unread) Fault → Type 0
Reads width taken from (Ok p) =
    (taken from.at from.bytes.now ≡ Ok (record { what = p.0; left = p.1.bytes.now }))
    × (p.1.at ≡ from.at + width p.0)
Reads width taken from (Err f) = taken from.at from.bytes.now ≡ Err (told f)

-- k records were read, with `end` to come after them, and are laid over the sheet from `first` on
pub record SeveralDone {T : Type 0} (taken : ℕ → List ℕ → Result (Found T) Refusal) (width : ℕ) (from : Unread) (first : ℕ) (before : List T) (k : ℕ) (end : Unread) (after : List T) : Type 0 where
  pub items : List T
  pub many : length items ≡ k
  pub read : several_in taken width k from.at from.bytes.now ≡ Ok (record { items = items; at = end.at; left = end.bytes.now })
  pub sheet : after ≡ laid first items before

-- a reader of k records does so, or refuses what the definition refuses
abbrev pub ReadsSeveral : {T : Type 0} → (ℕ → List ℕ → Result (Found T) Refusal) → ℕ → Unread → ℕ → List T → ℕ → Result Unread Fault → List T → Type 0
ReadsSeveral taken width from first before k (Ok end) after = SeveralDone taken width from first before k end after
ReadsSeveral taken width from first before k (Err f) after = several_in taken width k from.at from.bytes.now ≡ Err (told f)
