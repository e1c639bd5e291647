-- Reading a book's bytes back.
use Rattle.std.specs.Prelude.{◌≡◌, ℕ, ◌*◌, ◌<◌, ◌≤◌, false, List, length, Ok}
use Rattle.site.specs.Arena.{Arena}
use Rattle.site.specs.Laid.{laid}
use Rattle.checker.specs.Leaves.{leaf_at, reply_at, is_covered}
use Rattle.checker.specs.declared.leaves.Leaf.{Leaf}
use Rattle.records.specs.BookBytes.{BookRead, book_in}
use Rattle.records.specs.BookRead.{spread}

-- the bytes are read as a book of the site that has these leaves and, at open states, these replies: laid
-- over any slices that are long enough, it is the same entry for entry
pub record BookBack (m : Arena) (leaves : List Leaf) (replies : List ℕ) (bs : List ℕ) : Type 0 where
  pub found : BookRead
  pub read : book_in m bs ≡ Ok found
  pub leaf : (sheet : List Leaf) (s : ℕ) → m.states ≤ length sheet → s < m.states → leaf_at (laid 0 found.leaves sheet) s ≡ leaf_at leaves s
  pub reply : (sheet : List ℕ) (s a : ℕ) → 16 * m.states ≤ length sheet → s < m.states → is_covered (leaf_at leaves s) ≡ false → a < m.commands s → reply_at (spread 0 found.replies sheet) s a ≡ reply_at replies s a
