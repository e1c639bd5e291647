-- What placing and the two rounds answer, and what they leave in the record.
use Rattle.std.specs.Prelude.{ℕ, ◌+◌, ◌*◌, min, cond, List, length, Some, None, Ok, Err, Option, Result, ◌==◌, nat_le, nat_lt}
use Rattle.site.specs.Arena.{Arena}
use Rattle.site.specs.Refusals.{Refusal, refuse, unless, and_then}
use Rattle.checker.specs.declared.leaves.Leaf.{Leaf}
use Rattle.checker.specs.declared.leaves.Leaf.TheVariants.{Covered, Open}
use Rattle.checker.specs.declared.runs.Run.{Run}
use Rattle.checker.specs.declared.runs.Run.TheVariants.{Blank, Placed}
use Rattle.checker.specs.declared.calls.Call.{Call}
use Rattle.checker.specs.declared.calls.Call.TheVariants.{Place, Book, Objection}
use Rattle.checker.specs.Leaves.{leaf_at, reply_at}

-- the state in a record, if any
abbrev pub state_of : Run → Option ℕ
state_of Blank = None
state_of (Placed v c d o) = Some v

-- the state that a round starts from: there is one (else 14), and the site has it (else 15)
abbrev pub standing : Arena → Option ℕ → Result ℕ Refusal
standing m None = refuse 14 0
standing m (Some v) = unless (nat_le m.states v) 15 v (Ok v)

-- placing at s: the site has the state (else 15)
abbrev pub placing : Arena → ℕ → Result ℕ Refusal
placing m s = unless (nat_le m.states s) 15 s (Ok s)

-- event b in state v by its leaf: the leaf is covered (else 17), the event is the state's (else 16), the
-- leaf's command is the state's (else 10), and both lead on
abbrev pub by_book : Arena → ℕ → ℕ → Leaf → Result ℕ Refusal
by_book m v b (Covered a r) =
    unless (nat_le (m.events v) b) 16 b (unless (nat_le (m.commands v) a) 10 v (Ok (m.next v a b)))
by_book m v b (Open u w) = refuse 17 v

-- command a in state v by its leaf and its reply: the leaf is open (else 17), the command is the state's
-- (else 16), the reply is an event of the state (else 10), and both lead on
abbrev pub by_reply : Arena → ℕ → ℕ → ℕ → Leaf → Result ℕ Refusal
by_reply m v a b (Covered c r) = refuse 17 v
by_reply m v a b (Open u w) =
    unless (nat_le (m.commands v) a) 16 a (unless (nat_le (m.events v) b) 10 v (Ok (m.next v a b)))

-- a book round for event b from the state at hand, if any: too few leaves are refused first, by 9
abbrev pub book_round : Arena → List Leaf → Option ℕ → ℕ → Result ℕ Refusal
book_round m leaves at b =
    unless (nat_lt (length leaves) m.states) 9 m.states
    (and_then (standing m at) (λ v. by_book m v b (leaf_at leaves v)))

-- an objection round for command a: too few leaves and too few replies are refused first, by 9
abbrev pub objection_round : Arena → List Leaf → List ℕ → Option ℕ → ℕ → Result ℕ Refusal
objection_round m leaves replies at a =
    unless (nat_lt (length leaves) m.states) 9 m.states
    (unless (nat_lt (length replies) (16 * m.states)) 9 (16 * m.states)
    (and_then (standing m at) (λ v. by_reply m v a (reply_at replies v a) (leaf_at leaves v))))

-- The answer to any call, from the state at hand, if any: the new state, or the refusal.
abbrev pub answer : Arena → List Leaf → List ℕ → Option ℕ → Call → Result ℕ Refusal
answer m leaves replies at (Place s) = placing m s
answer m leaves replies at (Book b) = book_round m leaves at b
answer m leaves replies at (Objection a) = objection_round m leaves replies at a

-- a count, which stays at 65,535
abbrev pub capped : ℕ → ℕ
capped n = min n 65535

-- the counts with one more state of the grade g: a confirmed one clears the other two counts, a doubted
-- one clears the row
abbrev pub counted : ℕ → Run → Run
counted g Blank = Blank
counted g (Placed v c d o) =
    cond (g == 0) (Placed v (capped (c + 1)) 0 0)
    (cond (g == 1) (Placed v c (capped (d + 1)) 0) (Placed v c d (capped (o + 1))))

-- the record once its run has gone on to the state t
abbrev pub moved : Arena → ℕ → Run → Run
moved m t Blank = Blank
moved m t (Placed v c d o) = counted (m.grade t) (Placed t c d o)

-- the record after a round with this answer: a refusal leaves it as it was
abbrev pub after_round : Arena → Result ℕ Refusal → Run → Run
after_round m (Ok t) run = moved m t run
after_round m (Err e) run = run

-- the record after placing with this answer: the counts begin anew, and the state placed is counted
abbrev pub after_placing : Arena → Result ℕ Refusal → Run → Run
after_placing m (Ok s) run = counted (m.grade s) (Placed s 0 0 0)
after_placing m (Err e) run = run

-- the record after any call with this answer
abbrev pub after_call : Arena → Result ℕ Refusal → Run → Call → Run
after_call m result run (Place s) = after_placing m result run
after_call m result run (Book b) = after_round m result run
after_call m result run (Objection a) = after_round m result run
