-- The check says yes exactly where the leaves and replies are accepted.
use Rattle.std.proofs.Common.{◌≡◌, ℕ, ◌*◌, ◌<◌, not, List, length, is_ok, Decides, Result, ap, ◌∙◌, arith}
use Rattle.std.proofs.lemmas.Bool.Decides.{nat_tests, Decides-at, Decides-like}
use Rattle.site.specs.Arena.{Arena, graded}
use Rattle.site.specs.declared.faults.Fault.{Fault}
use Rattle.site.specs.Refusals.{answered}
use Rattle.checker.specs.declared.leaves.Leaf.{Leaf}
use Rattle.checker.specs.declared.leaves.Leaf.TheVariants.{Covered, Open}
use Rattle.checker.specs.declared.leaves.Counts.{Counts}
use Rattle.checker.specs.Leaves.{leaf_at, reply_at}
use Rattle.checker.specs.Witness.{RankKept, NumbersKept, StaysCovered, StaysOpen, KeepsCovered, KeepsOpen, Keeps, Accepted}
use Rattle.checker.specs.Checked.{passed, in_turn, rank_kept, numbers_kept, covered_arrow, open_arrow, event_tested, command_tested, covered_tested, open_tested, leaf_tested, state_tested, counts, checked}
use Rattle.checker.proofs.Deciding.{unless_decides, in_turn_decides, then_ok, decides_below, decides_within, decides_both_within, decides_not_not, passed_decides, never_decides, answered_ok}

-- the rule of ranks
pub rank_decides : (g r r' : ℕ) → Decides (rank_kept g r r') (RankKept g r r')
rank_decides g r r' = ((λ e. grind (arith, nat_tests)), (λ h. grind (arith, nat_tests)))

-- the rule of the two numbers
pub numbers_decides : (g u w u' w' : ℕ) → Decides (numbers_kept g u w u' w') (NumbersKept g u w u' w')
numbers_decides g u w u' w' = ((λ e. grind (arith, nat_tests)), (λ h. grind (arith, nat_tests)))

-- an arrow from a covered state
covered_arrow_decides : (s g r : ℕ) (leaf : Leaf) → Decides (is_ok (covered_arrow s g r leaf)) (StaysCovered g r leaf)
covered_arrow_decides s g r (Covered a r') =
    Decides-like _ (λ h. h.0) (λ h. (h, tt))
    (unless_decides (not (rank_kept g r r')) 13 s passed (decides_not_not _ (rank_decides g r r')) passed_decides)
covered_arrow_decides s g r (Open u w) = never_decides

-- an arrow from an open state
open_arrow_decides : (s g u w : ℕ) (leaf : Leaf) → Decides (is_ok (open_arrow s g u w leaf)) (StaysOpen g u w leaf)
open_arrow_decides s g u w (Covered a r) = never_decides
open_arrow_decides s g u w (Open u' w') =
    Decides-like _ (λ h. h.0) (λ h. (h, tt))
    (unless_decides (not (numbers_kept g u w u' w')) 13 s passed (decides_not_not _ (numbers_decides g u w u' w')) passed_decides)

module _ (m : Arena) (leaves : List Leaf) (replies : List ℕ) where
  -- the rule of a covered leaf
  covered_decides : (s a r : ℕ) → Decides (is_ok (covered_tested m leaves s a r)) (KeepsCovered m leaves s a r)
  covered_decides s a r =
      Decides-like _
      (λ h. record { own = h.0; bounded = h.1.0; stays = h.1.1 })
      (λ k. (k.own, (k.bounded, k.stays)))
      (unless_decides _ 10 s _ (decides_below a (m.commands s))
      (unless_decides _ 11 s _ (decides_within r (graded m 1))
      (in_turn_decides (event_tested m leaves s a r)
      (λ b. StaysCovered (m.grade s) r (leaf_at leaves (m.next s a b)))
      (λ b. covered_arrow_decides s (m.grade s) r (leaf_at leaves (m.next s a b)))
      (m.events s))))

  -- the rule of an open leaf
  open_decides : (s u w : ℕ) → Decides (is_ok (open_tested m leaves replies s u w)) (KeepsOpen m leaves replies s u w)
  open_decides s u w =
      Decides-like _
      (λ h. record {
        bounded_first = h.0.0;
        bounded_second = h.0.1;
        own = λ a l. (h.1 a l).0;
        stays = λ a l. (h.1 a l).1;
      })
      (λ k. ((k.bounded_first, k.bounded_second), (λ a l. (k.own a l, k.stays a l))))
      (unless_decides _ 11 s _ (decides_both_within u (graded m 0) w (graded m 2))
      (in_turn_decides (command_tested m leaves replies s u w)
      (λ a. (reply_at replies s a < m.events s) × StaysOpen (m.grade s) u w (leaf_at leaves (m.next s a (reply_at replies s a))))
      (λ a. unless_decides _ 10 s _ (decides_below (reply_at replies s a) (m.events s))
      (open_arrow_decides s (m.grade s) u w (leaf_at leaves (m.next s a (reply_at replies s a)))))
      (m.commands s)))

  -- the rule of any leaf
  leaf_decides : (s : ℕ) (leaf : Leaf) → Decides (is_ok (leaf_tested m leaves replies s leaf)) (Keeps m leaves replies s leaf)
  leaf_decides s (Covered a r) = covered_decides s a r
  leaf_decides s (Open u w) = open_decides s u w

  -- the whole check
  pub checked_decides : Decides (is_ok (checked m leaves replies)) (Accepted m leaves replies)
  checked_decides =
      Decides-like _
      (λ h. record { enough_leaves = h.0; enough_replies = h.1.0; keeps = h.1.1 })
      (λ k. (k.enough_leaves, (k.enough_replies, k.keeps)))
      (unless_decides _ 9 m.states _ (decides_within m.states (length leaves))
      (unless_decides _ 9 (16 * m.states) _ (decides_within (16 * m.states) (length replies))
      (Decides-at _ _ (then_ok (in_turn (state_tested m leaves replies) m.states) (counts m leaves))
      (in_turn_decides (state_tested m leaves replies) (λ s. Keeps m leaves replies s (leaf_at leaves s))
      (λ s. leaf_decides s (leaf_at leaves s)) m.states))))

  -- an answer that is the check's outcome is a yes exactly where the pair is accepted
  pub answer_decides : (r : Result Counts Fault) → answered r ≡ checked m leaves replies → Decides (is_ok r) (Accepted m leaves replies)
  answer_decides r e = Decides-at _ _ (answered_ok r ∙ ap is_ok e) checked_decides
