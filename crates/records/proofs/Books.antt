-- The whole scan of a book, and the two scans of reading.
use Rattle.std.proofs.Common.{◌≡◌, ℕ, ◌*◌, ◌<◌, ◌≤◌, ltb, List, length, IfOk, Ok, Err, Result, sym, ap, ◌∙◌, arith}
use Rattle.std.proofs.lemmas.Bool.{le-ltb, cond-false}
use Rattle.std.specs.List.{AllByRecursion as All}
use Rattle.site.specs.Arena.{Arena, Lawful}
use Rattle.site.specs.Refusals.{answered}
use Rattle.site.specs.declared.faults.Fault.{Fault}
use Rattle.checker.specs.declared.leaves.Leaf.{Leaf}
use Rattle.records.specs.BookBytes.{BookRead, book_head_in, leaves_in, book_ended, book_in}
use Rattle.records.specs.BookRead.{book_fitted, book_read, states_read, leaves_after, replies_after}
use Rattle.records.specs.BookScanning.{LeavesDone, BookDone, BookScanned}
use Rattle.records.specs.BookWritten.{book_bytes}
use Rattle.records.specs.declared.unread.Unread.{Unread}
use Rattle.records.proofs.Answered.{never, after_ok}
use Rattle.records.proofs.BookSpelled.{book_spelled}

-- the head and all leaves were read, and nothing is left
pub book_scan_done : {m : Arena} {bs body : List ℕ} {end : Unread} {old_leaves leaves : List Leaf} {old_replies replies : List ℕ} {n : ℕ} → n ≡ m.states → book_head_in n bs ≡ Ok body → LeavesDone m body old_leaves old_replies m.states end leaves replies → length end.bytes.now ≤ 0 → BookDone m bs old_leaves old_replies n leaves replies
book_scan_done {m} {bs} {body} {end} {old_leaves} {leaves} {old_replies} {replies} {n} n_is h d none =
    let found : BookRead = record { leaves = d.leaves; replies = d.replies; at = end.at; left = end.bytes.now } in
    record {
      found = found;
      read = after_ok (book_head_in m.states bs) body _ (rw n_is at h) ∙ (after_ok (leaves_in m m.states body) found book_ended d.read ∙ cond-false (ltb 0 (length end.bytes.now)) _ _ (le-ltb 0 (length end.bytes.now) none));
      measures = n_is;
      many = d.many_leaves;
      leaf_sheet = d.leaf_sheet;
      reply_sheet = d.reply_sheet;
    }

-- what reading a book leaves
pub record BookLaid (m : Arena) (bs : List ℕ) (old_leaves : List Leaf) (old_replies : List ℕ) (r : Result ℕ Fault) (leaves : List Leaf) (replies : List ℕ) : Type 0 where
  pub answer : answered r ≡ states_read (book_read m bs (length old_leaves) (length old_replies))
  pub leaf_sheet : leaves ≡ leaves_after (book_read m bs (length old_leaves) (length old_replies)) old_leaves
  pub reply_sheet : replies ≡ replies_after (book_read m bs (length old_leaves) (length old_replies)) old_replies
  pub trip : IfOk r (λ _. book_bytes m leaves replies ≡ bs)

first_found : (m : Arena) (bs : List ℕ) (lr rr : ℕ) (rd : BookRead) → book_in m bs ≡ Ok rd → book_read m bs lr rr ≡ book_fitted m.states lr rr rd
first_found m bs lr rr rd e = after_ok (book_in m bs) rd (book_fitted m.states lr rr) e

module _ {m : Arena} {bs : List ℕ} {old_leaves none_leaves none_leaves' : List Leaf} {old_replies none_replies none_replies' : List ℕ} {n : ℕ} (d : BookDone m bs none_leaves none_replies n none_leaves' none_replies') where
  -- when the first scan found the book, and there is room for it, the second lays it down
  pub second_book_scan : (r : Result ℕ Fault) (leaves : List Leaf) (replies : List ℕ) → Lawful m → All (λ b. b < 256) bs → n ≤ length old_leaves → 16 * n ≤ length old_replies → BookScanned m bs old_leaves old_replies r leaves replies → BookLaid m bs old_leaves old_replies r leaves replies
  second_book_scan (Ok again) leaves replies law h le le' s =
      let same : d.found ≡ s.found = cc in
      let e : book_read m bs (length old_leaves) (length old_replies) ≡ Ok s.found = first_found m bs (length old_leaves) (length old_replies) d.found d.read ∙ (rw (← d.measures) (cond-false _ _ _ (le-ltb (length old_leaves) n le) ∙ cond-false _ _ _ (le-ltb (length old_replies) (16 * n) le')) ∙ ap Ok same) in
      record {
        answer = rw e (ap Ok (s.measures ∙ sym s.many));
        leaf_sheet = rw e s.leaf_sheet;
        reply_sheet = rw e s.reply_sheet;
        trip = rw (s.leaf_sheet, s.reply_sheet) (book_spelled m law bs s.found old_leaves old_replies h s.read (omega (arith, d.measures)) (omega (arith, d.measures)));
      }
  second_book_scan (Err f) leaves replies law h le le' s = never (sym s ∙ d.read)
