-- The leaves and replies that go with given numbers: the lowest moves that keep the rules of the check.
use Rattle.std.specs.Prelude.{ℕ, zero, suc, ◌*◌, Bool, cond, not, ◌&&◌, List, map, slice_set}
use Rattle.std.specs.List.{range_with_len}
use Rattle.site.specs.Arena.{Arena}
use Rattle.site.specs.Counting.{every}
use Rattle.site.specs.Laid.{laid}
use Rattle.parts.specs.Regions.{lowest}
use Rattle.checker.specs.Checked.{rank_kept, numbers_kept}
use Rattle.checker.specs.declared.leaves.Leaf.{Leaf}
use Rattle.checker.specs.declared.leaves.Leaf.TheVariants.{Covered, Open}

-- the part and the numbers of every state
pub record Numbers : Type 0 where
  -- whether the state is covered
  pub covered : ℕ → Bool
  -- the rank of a covered state
  pub rank : ℕ → ℕ
  -- the first and the second number of an open state
  pub first : ℕ → ℕ
  pub second : ℕ → ℕ

-- event b against command a keeps the rule of the covered state s
abbrev pub keeps_rule : Arena → Numbers → ℕ → ℕ → ℕ → Bool
keeps_rule m p s a b =
    p.covered (m.next s a b) && rank_kept (m.grade s) (p.rank s) (p.rank (m.next s a b))

-- event b against command a keeps the rule of the open state s
abbrev pub answers_rule : Arena → Numbers → ℕ → ℕ → ℕ → Bool
answers_rule m p s a b =
    not (p.covered (m.next s a b))
    && numbers_kept (m.grade s) (p.first s) (p.second s) (p.first (m.next s a b)) (p.second (m.next s a b))

-- the command of a covered state: the lowest that keeps the rule under every event
abbrev pub chosen_command : Arena → Numbers → ℕ → ℕ
chosen_command m p s = lowest (λ a. every (keeps_rule m p s a) (m.events s)) (m.commands s)

-- the reply of an open state to command a: the lowest event that keeps the rule
abbrev pub chosen_reply : Arena → Numbers → ℕ → ℕ → ℕ
chosen_reply m p s a = lowest (answers_rule m p s a) (m.events s)

-- the leaf of state s
abbrev pub chosen_leaf : Arena → Numbers → ℕ → Leaf
chosen_leaf m p s = cond (p.covered s) (Covered (chosen_command m p s) (p.rank s)) (Open (p.first s) (p.second s))

-- the replies of state s, one for each of its commands
abbrev pub chosen_replies : Arena → Numbers → ℕ → List ℕ
chosen_replies m p s = map (chosen_reply m p s) (range_with_len 0 (m.commands s))

-- a slice of leaves after the first k states were written
abbrev pub leaves_written : Arena → Numbers → ℕ → List Leaf → List Leaf
leaves_written m p zero leaves = leaves
leaves_written m p (suc s) leaves = slice_set (leaves_written m p s leaves) s (chosen_leaf m p s)

-- a slice of replies after the first k states were written: only the first places of open states, one for each command
abbrev pub replies_written : Arena → Numbers → ℕ → List ℕ → List ℕ
replies_written m p zero replies = replies
replies_written m p (suc s) replies =
    cond (p.covered s)
    (replies_written m p s replies)
    (laid (16 * s) (chosen_replies m p s) (replies_written m p s replies))
