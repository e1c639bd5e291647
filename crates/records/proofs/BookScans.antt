-- The steps of the scan of a book: one state more.
use Rattle.std.proofs.Common.{◌≡◌, ℕ, suc, ◌+◌, ◌*◌, ◌<◌, List, [], ◌∷◌, ◌++◌, length, set, Ok, Err, Result, sym, refl, ap, ◌∙◌, add-zero, add-suc, suc-add, zero-add}
use Rattle.std.proofs.lemmas.List.{length_push}
use Rattle.site.proofs.Laid.{laid_push, laid_none, length_laid}
use Rattle.site.specs.Arena.{Arena}
use Rattle.site.specs.Laid.{laid}
use Rattle.site.specs.Refusals.{Refusal}
use Rattle.checker.specs.declared.leaves.Leaf.{Leaf}
use Rattle.records.specs.BookBytes.{leaf_in, leaf_width, replies_due, reply_in, replies_in, one_leaf, leaves_in}
use Rattle.records.specs.BookRead.{spread}
use Rattle.records.specs.BookScanning.{LeavesDone}
use Rattle.records.specs.Readings.{SeveralDone}
use Rattle.records.specs.declared.unread.Unread.{Unread}
use Rattle.records.proofs.Answered.{after_ok, after_err, repeated_more, repeated_stops}

-- the replies of one state more
pub spread_push : (s : ℕ) (rs : List (List ℕ)) (es sheet : List ℕ) → spread s (rs ++ es ∷ []) sheet ≡ laid (16 * (s + length rs)) es (spread s rs sheet)
spread_push s [] es sheet = rw add-zero refl
spread_push s (r ∷ rs) es sheet = rw (add-suc, ← suc-add) (spread_push (suc s) rs es (laid (16 * s) r sheet))

-- no state yet
pub no_leaves_done : (m : Arena) (from : Unread) (leaves : List Leaf) (replies : List ℕ) → from.at ≡ 3 → LeavesDone m from.bytes.now leaves replies 0 from leaves replies
no_leaves_done m from leaves replies at =
    record {
      leaves = [];
      replies = [];
      many_leaves = refl;
      many_replies = refl;
      read = rw at refl;
      leaf_sheet = sym (laid_none 0 leaves);
      reply_sheet = refl;
    }

module _ {m : Arena} {bs : List ℕ} {old_leaves : List Leaf} {old_replies : List ℕ} {k : ℕ} {mid : Unread} {leaves : List Leaf} {replies : List ℕ} where
  -- the replies of the next state
  due_here : {r : Result _ Refusal} (leaf : Leaf) (body : Unread) (count : ℕ) (d : LeavesDone m bs old_leaves old_replies k mid leaves replies) → count ≡ replies_due leaf (m.commands k) → body.at ≡ mid.at + leaf_width leaf → replies_in count body.at body.bytes.now ≡ r → replies_in (replies_due leaf (m.commands (length d.leaves))) (mid.at + leaf_width leaf) body.bytes.now ≡ r
  due_here leaf body count d count_is at e = rw (d.many_leaves, ← count_is, ← at) e

  -- one state more
  pub leaf_done : {end : Unread} {more : List ℕ} (leaf : Leaf) (body : Unread) (count : ℕ) → count ≡ replies_due leaf (m.commands k) → LeavesDone m bs old_leaves old_replies k mid leaves replies → (leaf_in mid.at mid.bytes.now ≡ Ok (record { what = leaf; left = body.bytes.now })) × (body.at ≡ mid.at + leaf_width leaf) → SeveralDone reply_in 2 body (16 * k) replies count end more → LeavesDone m bs old_leaves old_replies (k + 1) end (set leaves k leaf) more
  leaf_done {end} {more} leaf body count count_is d (e, at) a =
      record {
        leaves = d.leaves ++ leaf ∷ [];
        replies = d.replies ++ a.items ∷ [];
        many_leaves = length_push d.leaves leaf ∙ ap (λ j. j + 1) d.many_leaves;
        many_replies = length_push d.replies a.items ∙ ap (λ j. j + 1) d.many_replies;
        read = repeated_more (one_leaf m) k _ _ d.read ∙ (after_ok (leaf_in mid.at mid.bytes.now) _ _ e ∙ after_ok (replies_in (replies_due leaf (m.commands (length d.leaves))) (mid.at + leaf_width leaf) body.bytes.now) _ _ (due_here leaf body count d count_is at a.read));
        leaf_sheet = rw (laid_push, ← d.leaf_sheet, d.many_leaves, zero-add) refl;
        reply_sheet = rw (spread_push, ← d.reply_sheet, d.many_replies, zero-add) a.sheet;
      }

  -- a leaf that is refused
  pub leaf_failed : (n : ℕ) (r : Refusal) → LeavesDone m bs old_leaves old_replies k mid leaves replies → leaf_in mid.at mid.bytes.now ≡ Err r → k < n → leaves_in m n bs ≡ Err r
  leaf_failed n r d e lt =
      repeated_stops (one_leaf m) k n _ _ r d.read (after_err (leaf_in mid.at mid.bytes.now) r _ e) lt

  -- a state of whose replies one is refused
  pub leaf_replies_failed : (n : ℕ) (r : Refusal) (leaf : Leaf) (body : Unread) (count : ℕ) → count ≡ replies_due leaf (m.commands k) → LeavesDone m bs old_leaves old_replies k mid leaves replies → (leaf_in mid.at mid.bytes.now ≡ Ok (record { what = leaf; left = body.bytes.now })) × (body.at ≡ mid.at + leaf_width leaf) → replies_in count body.at body.bytes.now ≡ Err r → k < n → leaves_in m n bs ≡ Err r
  leaf_replies_failed n r leaf body count count_is d (e, at) failed lt =
      repeated_stops (one_leaf m) k n _ _ r d.read (after_ok (leaf_in mid.at mid.bytes.now) _ _ e ∙ after_err (replies_in (replies_due leaf (m.commands (length d.leaves))) (mid.at + leaf_width leaf) body.bytes.now) r _ (due_here leaf body count d count_is at failed)) lt

pub length_spread : (s : ℕ) (rs : List (List ℕ)) (sheet : List ℕ) → length (spread s rs sheet) ≡ length sheet
length_spread s [] sheet = refl
length_spread s (r ∷ rs) sheet = length_spread (suc s) rs (laid (16 * s) r sheet) ∙ length_laid (16 * s) r sheet
