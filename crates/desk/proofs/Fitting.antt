-- Planning in memory that was made to measure.
use Rattle.std.proofs.Common.{◌≡◌, ℕ, ◌*◌, List, ◌++◌, length, take, drop, replicate, Ok, Result, sym, ap, ◌∙◌, arith}
use lib.ListN.{length-replicate}
use Rattle.std.proofs.lemmas.List.{take_at}
use Rattle.std.proofs.lemmas.Bool.{cond-true}
use Rattle.site.specs.Arena.{Arena}
use Rattle.checker.specs.declared.leaves.Counts.{Counts}
use Rattle.checker.specs.declared.leaves.Leaf.{Leaf}
use Rattle.checker.specs.declared.leaves.Leaf.TheVariants.{Open}
use Rattle.planner.specs.Choices.{leaves_written, replies_written}
use Rattle.planner.specs.Planned.{numbers, parts_counted, planned_answer, planned_leaves, planned_replies}
use Rattle.planner.proofs.Filled.{roomy_from, roomy_answer}
use Rattle.planner.proofs.Written.{leaves_length, replies_length}
use Rattle.desk.specs.PlannedSites.{own_leaves, own_replies}

-- what a vector holds after its whole slice was written
pub whole : {X : Type 0} (ws items : List X) (n : ℕ) → length ws ≡ n → take n (ws ++ drop (length ws) items) ≡ ws
whole ws items n e = take_at ws (drop (length ws) items) n e

-- equal answers hold equal values
pub same_ok : {E : Type 0} {x y : Counts} → ◌≡◌ {A = Result Counts E} (Ok x) (Ok y) → x ≡ y
same_ok e = cc

module _ (m : Arena) (leaves : List Leaf) (replies : List ℕ) (work : ℕ) (leaves_are : leaves ≡ replicate m.states (Open 0 0)) (replies_are : replies ≡ replicate (16 * m.states) 0) (work_is : work ≡ 4 * m.states) where
  many_leaves : length leaves ≡ m.states
  many_leaves = ap length leaves_are ∙ length-replicate m.states (Open 0 0)

  many_replies : length replies ≡ 16 * m.states
  many_replies = ap length replies_are ∙ length-replicate (16 * m.states) 0

  pub leaves_fit : planned_leaves m leaves (length replies) work ≡ own_leaves m
  leaves_fit =
      cond-true _ _ _ (roomy_from m (length leaves) (length replies) work (omega (arith, many_leaves)) (omega (arith, many_replies)) (omega arith))
      ∙ ap (leaves_written m (numbers m) m.states) leaves_are

  pub replies_fit : planned_replies m (length leaves) replies work ≡ own_replies m
  replies_fit =
      cond-true _ _ _ (roomy_from m (length leaves) (length replies) work (omega (arith, many_leaves)) (omega (arith, many_replies)) (omega arith))
      ∙ ap (replies_written m (numbers m) m.states) replies_are

  pub counts_fit : planned_answer m (length leaves) (length replies) work ≡ Ok (parts_counted (numbers m) m.states)
  counts_fit = sym (roomy_answer m (length leaves) (length replies) work (omega (arith, many_leaves)) (omega (arith, many_replies)) (omega arith))

-- the planned pair has a leaf and sixteen replies for each state
pub own_leaves_long : (m : Arena) → length (own_leaves m) ≡ m.states
own_leaves_long m = leaves_length m (numbers m) m.states _ ∙ length-replicate m.states (Open 0 0)

pub own_replies_long : (m : Arena) → length (own_replies m) ≡ 16 * m.states
own_replies_long m = replies_length m (numbers m) m.states _ ∙ length-replicate (16 * m.states) 0
