-- What leaves and replies say of a state.
use Rattle.std.specs.Prelude.{ℕ, ◌+◌, ◌*◌, Bool, true, false, cond, List, length, Some, None, Option, Ok, Result, nat_lt, slice_index, slice_index_or}
use Rattle.site.specs.Refusals.{Refusal, unless}
use Rattle.checker.specs.declared.leaves.Leaf.{Leaf}
use Rattle.checker.specs.declared.leaves.Leaf.TheVariants.{Covered, Open}

-- the leaf of state s
abbrev pub leaf_at : List Leaf → ℕ → Leaf
leaf_at leaves s = slice_index_or leaves s (Covered 0 0)

-- the event with which the state s answers command a: sixteen places to a state
abbrev pub reply_at : List ℕ → ℕ → ℕ → ℕ
reply_at replies s a = slice_index replies (16 * s + a)

-- leaves and replies that are lent for a site of n states: too few leaves, and then too few replies, are refused by 9
-- with the entries needed
abbrev pub lending : ℕ → List Leaf → List ℕ → Result (Unit {0}) Refusal
lending n leaves replies =
    unless (nat_lt (length leaves) n) 9 n (unless (nat_lt (length replies) (16 * n)) 9 (16 * n) (Ok tt))

-- whether a leaf says that its state is covered; otherwise it is open
abbrev pub is_covered : Leaf → Bool
is_covered (Covered a r) = true
is_covered (Open u w) = false

-- the command that a leaf gives, if any
abbrev pub leaf_command : Leaf → Option ℕ
leaf_command (Covered a r) = Some a
leaf_command (Open u w) = None

-- the command for state s: none past the last leaf, and none where the leaf is open
abbrev pub consulted : List Leaf → ℕ → Option ℕ
consulted leaves s = cond (nat_lt s (length leaves)) (leaf_command (leaf_at leaves s)) None
