-- What a pen writes into its buffer.
use Rattle.std.specs.Prelude.{◌≡◌, ℕ, ◌+◌, ◌<◌, ◌≤◌, List, length}
use Rattle.site.specs.Laid.{laid}
use Rattle.records.specs.declared.pen.Pen.{Pen}

-- there is room for n bytes more
abbrev pub Fits : ℕ → Pen → Type 0
Fits n pen = pen.at + n ≤ length pen.buffer.now

-- the piece lies in the same buffer from where the pen was, the buffer is as long as before, and the pen is at
-- the place after the piece
pub record Wrote (piece : List ℕ) (before after : Pen) : Type 0 where
  pub same : after.buffer.ghost_name ≡ before.buffer.ghost_name
  pub ends : after.at ≡ before.at + length piece
  pub lies : after.buffer.now ≡ laid before.at piece before.buffer.now
  pub keeps : length after.buffer.now ≡ length before.buffer.now

-- how far words of length `long` and the number n after them can reach
abbrev pub Short : ℕ → ℕ → Pen → Pen → Type 0
Short long n before after =
    (after.at ≤ before.at + long + 20)
    × (n < 1000 → after.at ≤ before.at + long + 3)
    × (n < 100000 → after.at ≤ before.at + long + 5)
