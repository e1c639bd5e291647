-- Writing state after state: what stands after the first k states.
use Rattle.std.proofs.Common.{◌≡◌, ℕ, ◌+◌, ◌*◌, ◌≤◌, true, false, cond, not, List, set, ap, ◌∙◌, add-one, arith}
use Rattle.site.specs.Arena.{Arena}
use Rattle.site.specs.Counting.{count}
use Rattle.site.specs.Laid.{laid}
use Rattle.checker.specs.declared.leaves.Leaf.{Leaf}
use Rattle.parts.proofs.Steps.{count_in, count_out, count_le}
use Rattle.planner.specs.Choices.{Numbers, chosen_leaf, chosen_replies, leaves_written, replies_written}

-- the counts, the leaves and the replies after k states
pub record Progress (m : Arena) (p : Numbers) (leaves : List Leaf) (replies : List ℕ) (k covered opened : ℕ) (ls : List Leaf) (rs : List ℕ) : Type 0 where
  pub covered_is : covered ≡ count p.covered k
  pub opened_is : opened ≡ count (λ s. not (p.covered s)) k
  pub leaves_are : ls ≡ leaves_written m p k leaves
  pub replies_are : rs ≡ replies_written m p k replies

module _ (m : Arena) (p : Numbers) (leaves : List Leaf) (replies : List ℕ) (k covered opened : ℕ) (ls ls' : List Leaf) (rs rs' : List ℕ) (so_far : Progress m p leaves replies k covered opened ls rs) (leaf : ls' ≡ set ls k (chosen_leaf m p k)) (reply : rs' ≡ cond (p.covered k) rs (laid (16 * k) (chosen_replies m p k) rs)) where
  leaves_more : ls' ≡ leaves_written m p (k + 1) leaves
  leaves_more = rw (add-one k) (leaf ∙ ap (λ l. set l k (chosen_leaf m p k)) so_far.leaves_are)

  replies_more : rs' ≡ replies_written m p (k + 1) replies
  replies_more =
      rw (add-one k) (reply ∙ ap (λ l. cond (p.covered k) l (laid (16 * k) (chosen_replies m p k) l)) so_far.replies_are)

  pub progress_covered : p.covered k ≡ true → Progress m p leaves replies (k + 1) (covered + 1) opened ls' rs'
  progress_covered h =
      record {
        covered_is = count_in p.covered k covered so_far.covered_is h;
        opened_is = count_out (λ s. not (p.covered s)) k opened so_far.opened_is (ap not h);
        leaves_are = leaves_more;
        replies_are = replies_more;
      }

  pub progress_open : p.covered k ≡ false → Progress m p leaves replies (k + 1) covered (opened + 1) ls' rs'
  progress_open h =
      record {
        covered_is = count_out p.covered k covered so_far.covered_is h;
        opened_is = count_in (λ s. not (p.covered s)) k opened so_far.opened_is (ap not h);
        leaves_are = leaves_more;
        replies_are = replies_more;
      }

-- neither count passes k
pub progress_few : (m : Arena) (p : Numbers) (leaves : List Leaf) (replies : List ℕ) (k covered opened : ℕ) (ls : List Leaf) (rs : List ℕ) → Progress m p leaves replies k covered opened ls rs → (covered ≤ k) × (opened ≤ k)
progress_few m p leaves replies k covered opened ls rs h =
    (omega (arith, h.covered_is, count_le p.covered k), omega (arith, h.opened_is, count_le (λ s. not (p.covered s)) k))
