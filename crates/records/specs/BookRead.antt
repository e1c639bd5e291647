-- What reading a book from bytes onto leaves and replies answers, and what it leaves on them.
use Rattle.std.specs.Prelude.{ℕ, suc, ◌*◌, List, [], ◌∷◌, length, Ok, Err, Result, nat_lt}
use Rattle.site.specs.Arena.{Arena}
use Rattle.site.specs.Laid.{laid}
use Rattle.site.specs.Refusals.{Refusal, unless, and_then}
use Rattle.checker.specs.declared.leaves.Leaf.{Leaf}
use Rattle.records.specs.BookBytes.{BookRead, book_in}

-- there is room for n leaves and for sixteen replies to each (else 9 with the number needed)
abbrev pub book_fitted : ℕ → ℕ → ℕ → BookRead → Result BookRead Refusal
book_fitted n leaf_room reply_room rd =
    unless (nat_lt leaf_room n) 9 n (unless (nat_lt reply_room (16 * n)) 9 (16 * n) (Ok rd))

-- the book in the bytes, for slices with so much room: the bytes are tested before the room
abbrev pub book_read : Arena → List ℕ → ℕ → ℕ → Result BookRead Refusal
book_read m bs leaf_room reply_room = and_then (book_in m bs) (book_fitted m.states leaf_room reply_room)

-- the answer: the number of states, or the refusal
abbrev pub states_read : Result BookRead Refusal → Result ℕ Refusal
states_read r = and_then r (λ rd. Ok (length rd.leaves))

-- the replies of states from s on, each laid over the front of the state's sixteen places
abbrev pub spread : ℕ → List (List ℕ) → List ℕ → List ℕ
spread s [] sheet = sheet
spread s (es ∷ more) sheet = spread (suc s) more (laid (16 * s) es sheet)

-- the leaves afterwards: those of the book lie on the front, or after a refusal they are as they were
abbrev pub leaves_after : Result BookRead Refusal → List Leaf → List Leaf
leaves_after (Ok rd) before = laid 0 rd.leaves before
leaves_after (Err r) before = before

-- the replies afterwards
abbrev pub replies_after : Result BookRead Refusal → List ℕ → List ℕ
replies_after (Ok rd) before = spread 0 rd.replies before
replies_after (Err r) before = before
