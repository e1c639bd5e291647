-- What a call that writes bytes into a buffer answers, and what it leaves there.
use Rattle.std.specs.Prelude.{ℕ, List, length, Ok, Err, Result}
use Rattle.site.specs.Laid.{laid}
use Rattle.site.specs.Refusals.{Refusal}

-- the answer: how many bytes it wrote
abbrev pub counted : Result (List ℕ) Refusal → Result ℕ Refusal
counted (Ok bytes) = Ok (length bytes)
counted (Err r) = Err r

-- the buffer afterwards: the bytes lie on its front, or after a refusal it is as it was
abbrev pub buffer_after : Result (List ℕ) Refusal → List ℕ → List ℕ
buffer_after (Ok bytes) before = laid 0 bytes before
buffer_after (Err r) before = before
