-- What the scan of a book's bytes has done so far: what was read, and that it lies on the slices.
use Rattle.std.specs.Prelude.{◌≡◌, ℕ, List, length, Ok, Err, Result}
use Rattle.site.specs.Arena.{Arena}
use Rattle.site.specs.Laid.{laid}
use Rattle.site.specs.Refusals.{told}
use Rattle.site.specs.declared.faults.Fault.{Fault}
use Rattle.checker.specs.declared.leaves.Leaf.{Leaf}
use Rattle.records.specs.BookBytes.{BookRead, leaves_in, book_in}
use Rattle.records.specs.BookRead.{spread}
use Rattle.records.specs.declared.unread.Unread.{Unread}

-- the leaves of k states were read from the bytes bs after the head, with `end` to come after them, and lie
-- with their replies on both slices
pub record LeavesDone (m : Arena) (bs : List ℕ) (old_leaves : List Leaf) (old_replies : List ℕ) (k : ℕ) (end : Unread) (new_leaves : List Leaf) (new_replies : List ℕ) : Type 0 where
  pub leaves : List Leaf
  pub replies : List (List ℕ)
  pub many_leaves : length leaves ≡ k
  pub many_replies : length replies ≡ k
  pub read : leaves_in m k bs ≡ Ok (record { leaves = leaves; replies = replies; at = end.at; left = end.bytes.now })
  pub leaf_sheet : new_leaves ≡ laid 0 leaves old_leaves
  pub reply_sheet : new_replies ≡ spread 0 replies old_replies

-- the whole book was read from the bytes, and lies on both slices
pub record BookDone (m : Arena) (bs : List ℕ) (old_leaves : List Leaf) (old_replies : List ℕ) (n : ℕ) (new_leaves : List Leaf) (new_replies : List ℕ) : Type 0 where
  pub found : BookRead
  pub read : book_in m bs ≡ Ok found
  pub measures : n ≡ m.states
  pub many : length found.leaves ≡ m.states
  pub leaf_sheet : new_leaves ≡ laid 0 found.leaves old_leaves
  pub reply_sheet : new_replies ≡ spread 0 found.replies old_replies

-- what a scan that answered r has done; where it was refused, the slices may hold a part of the book
abbrev pub BookScanned : Arena → List ℕ → List Leaf → List ℕ → Result ℕ Fault → List Leaf → List ℕ → Type 0
BookScanned m bs old_leaves old_replies (Ok n) new_leaves new_replies = BookDone m bs old_leaves old_replies n new_leaves new_replies
BookScanned m bs old_leaves old_replies (Err f) new_leaves new_replies = book_in m bs ≡ Err (told f)
