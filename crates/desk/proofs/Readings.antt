-- A book that was read into new memory, and checked there.
use Rattle.std.proofs.Common.{◌≡◌, ℕ, ◌-◌, ◌*◌, List, length, take, drop, replicate, Ok, Err, Result, sym, ap, ◌∙◌, arith}
use lib.ListN.{length-replicate}
use Rattle.std.proofs.lemmas.List.{take_all, length-drop}
use Rattle.site.specs.Arena.{Arena}
use Rattle.site.specs.Refusals.{Refusal, told, and_then}
use Rattle.checker.specs.Checked.{checked}
use Rattle.checker.specs.declared.leaves.Leaf.{Leaf}
use Rattle.checker.specs.declared.leaves.Leaf.TheVariants.{Open}
use Rattle.records.specs.BookRead.{book_read, states_read, leaves_after, replies_after}
use Rattle.records.specs.TableBytes.{Read}
use Rattle.records.specs.TableRead.{sized}
use Rattle.records.proofs.Answered.{and_then_ok}
use Rattle.desk.specs.ReadFloors.{held, site_of, FloorOf}
use Rattle.desk.specs.Made.{Answers}
use Rattle.desk.specs.Verdicts.{book_verdict, read_leaves, read_replies, table_end, verdict}
use Rattle.desk.specs.declared.failures.Failure.{Failure}
use Rattle.desk.specs.declared.failures.Failure.TheVariants.{Refused, NoMemory}

module _ (m : Arena) (book : List ℕ) (n : ℕ) (leaves blank_leaves : List Leaf) (replies blank_replies : List ℕ) (blank : blank_leaves ≡ replicate m.states (Open 0 0)) (zeros : blank_replies ≡ replicate (16 * m.states) 0) (accepted : Ok n ≡ states_read (book_read m book (length blank_leaves) (length blank_replies))) (leaves_are : leaves ≡ leaves_after (book_read m book (length blank_leaves) (length blank_replies)) blank_leaves) (replies_are : replies ≡ replies_after (book_read m book (length blank_leaves) (length blank_replies)) blank_replies) where
  room : book_read m book (length blank_leaves) (length blank_replies) ≡ book_read m book m.states (16 * m.states)
  room =
      ap (λ k. book_read m book k (length blank_replies)) (ap length blank ∙ length-replicate m.states (Open 0 0))
      ∙ ap (book_read m book m.states) (ap length zeros ∙ length-replicate {A = ℕ} (16 * m.states) 0)

  -- the check of what was read is the verdict on the book
  pub book_checked : checked m leaves replies ≡ book_verdict m book
  book_checked =
      let p = and_then_ok (book_read m book (length blank_leaves) (length blank_replies)) (λ rd. Ok (length rd.leaves)) n (sym accepted) in
      let rd = p.0 in
      let ls : leaves ≡ read_leaves m rd = leaves_are ∙ (ap (λ r. leaves_after r blank_leaves) p.1 ∙ ap (leaves_after (Ok rd)) blank) in
      let rs : replies ≡ read_replies m rd = replies_are ∙ (ap (λ r. replies_after r blank_replies) p.1 ∙ ap (replies_after (Ok rd)) zeros) in
      ap (λ l. checked m l replies) ls
      ∙ (ap (checked m (read_leaves m rd)) rs
      ∙ ap (λ r. and_then r (λ rd. checked m (read_leaves m rd) (read_replies m rd))) (sym p.1 ∙ room))

-- a table that is refused is refused for what was read of it
sized_err : (e : Refusal) (r : Result Read Refusal) → Err e ≡ sized r → r ≡ Err e
sized_err e (Ok rd) h = let z : ◌≡◌ {A = ℕ} 0 1 = cc in absurd (omega arith)
sized_err e (Err x) h = let same : e ≡ x = cc in ap Err (sym same)

-- the verdict from the table's end on
from_end : (bs : List ℕ) (end : ℕ) → Ok end ≡ table_end bs → verdict bs ≡ and_then (held (take end bs)) (λ rd. book_verdict (site_of rd) (drop end bs))
from_end bs end e =
    ap (λ r. and_then r (λ end. and_then (held (take end bs)) (λ rd. book_verdict (site_of rd) (drop end bs)))) (sym e)

-- a refusal of the table
pub table_refused : (bs : List ℕ) (end : ℕ) (why : Failure) → Ok end ≡ table_end bs → FloorOf (take end bs) (Err why) → Answers (verdict bs) (Err why)
table_refused bs end NoMemory e h = tt
table_refused bs end (Refused f) e h =
    let no_table : held (take end bs) ≡ Err (told f) = sized_err (told f) (held (take end bs)) h in
    sym (from_end bs end e ∙ ap (λ r. and_then r (λ rd. book_verdict (site_of rd) (drop end bs))) no_table)

-- the verdict on the book behind the table
pub behind_table : (bs : List ℕ) (end : ℕ) (m : Arena) → Ok end ≡ table_end bs → (rd : Read) × (held (take end bs) ≡ Ok rd) × (m ≡ site_of rd) → book_verdict m (drop end bs) ≡ verdict bs
behind_table bs end m e h =
    ap (λ a. book_verdict a (drop end bs)) h.2
    ∙ sym (from_end bs end e ∙ ap (λ r. and_then r (λ rd. book_verdict (site_of rd) (drop end bs))) h.1)

-- the part of the bytes from the table's end on
pub rest_is : (bs : List ℕ) (end : ℕ) → take (length bs - end) (drop end bs) ≡ drop end bs
rest_is bs end = take_all (length bs - end) (drop end bs) (rw length-drop (omega arith))
