-- What the check answers: its tests in their order, of which the first to fail is the refusal.
use Rattle.std.specs.Prelude.{ℕ, zero, suc, ◌*◌, Bool, true, cond, not, ◌&&◌, ◌||◌, List, length, Ok, Result, ◌==◌, nat_le, nat_lt}
use Rattle.site.specs.Arena.{Arena, graded}
use Rattle.site.specs.Refusals.{Refusal, refuse, unless, and_then}
use Rattle.checker.specs.declared.leaves.Leaf.{Leaf}
use Rattle.checker.specs.declared.leaves.Leaf.TheVariants.{Covered, Open}
use Rattle.checker.specs.declared.leaves.Counts.{Counts}
use Rattle.checker.specs.Leaves.{leaf_at, reply_at}
use Rattle.checker.specs.Witness.{covered_count, open_count}

-- a test that was passed
abbrev pub passed : Result (Unit {0}) Refusal
passed = Ok tt

-- the first so many tests of a row, from 0 on: passed if all are, and else the first refusal
abbrev pub in_turn : (ℕ → Result (Unit {0}) Refusal) → ℕ → Result (Unit {0}) Refusal
in_turn test zero = passed
in_turn test (suc k) = and_then (in_turn test k) (λ _. test k)

-- the rule of ranks, as a test
abbrev pub rank_kept : ℕ → ℕ → ℕ → Bool
rank_kept g r r' = cond (g == 1) (nat_lt r' r) (cond (g == 2) (nat_le r' r) true)

-- the rule of the two numbers, as a test
abbrev pub numbers_kept : ℕ → ℕ → ℕ → ℕ → ℕ → Bool
numbers_kept g u w u' w' =
    cond (g == 0) (nat_lt u' u)
    (cond (g == 1) (nat_le u' u) (cond (g == 2) (nat_lt u' u || (u' == u && nat_lt w' w)) true))

-- an arrow from the covered state s of grade g and rank r: the next state is covered (else 12), and its
-- rank keeps the rule (else 13)
abbrev pub covered_arrow : ℕ → ℕ → ℕ → Leaf → Result (Unit {0}) Refusal
covered_arrow s g r (Covered a r') = unless (not (rank_kept g r r')) 13 s passed
covered_arrow s g r (Open u w) = refuse 12 s

-- an arrow from the open state s: the next state is open (else 12), and its numbers keep the rule (else 13)
abbrev pub open_arrow : ℕ → ℕ → ℕ → ℕ → Leaf → Result (Unit {0}) Refusal
open_arrow s g u w (Covered a r) = refuse 12 s
open_arrow s g u w (Open u' w') = unless (not (numbers_kept g u w u' w')) 13 s passed

-- event b against command a of the covered state s
abbrev pub event_tested : Arena → List Leaf → ℕ → ℕ → ℕ → ℕ → Result (Unit {0}) Refusal
event_tested m leaves s a r b = covered_arrow s (m.grade s) r (leaf_at leaves (m.next s a b))

-- command a of the open state s against event b
abbrev pub reply_tested : Arena → List Leaf → ℕ → ℕ → ℕ → ℕ → ℕ → Result (Unit {0}) Refusal
reply_tested m leaves s u w a b = open_arrow s (m.grade s) u w (leaf_at leaves (m.next s a b))

-- command a of the open state s: its reply is an event of the state (else 10), and is tested
abbrev pub command_tested : Arena → List Leaf → List ℕ → ℕ → ℕ → ℕ → ℕ → Result (Unit {0}) Refusal
command_tested m leaves replies s u w a =
    unless (nat_le (m.events s) (reply_at replies s a)) 10 s (reply_tested m leaves s u w a (reply_at replies s a))

-- a covered leaf of state s with command a and rank r: the command is the state's own (else 10), the
-- rank is within its bound (else 11), and then every event's arrow is tested
abbrev pub covered_tested : Arena → List Leaf → ℕ → ℕ → ℕ → Result (Unit {0}) Refusal
covered_tested m leaves s a r =
    unless (nat_le (m.commands s) a) 10 s
    (unless (nat_lt (graded m 1) r) 11 s (in_turn (event_tested m leaves s a r) (m.events s)))

-- an open leaf of state s with the numbers u and w: both are within their bounds (else 11), and then
-- every command is tested
abbrev pub open_tested : Arena → List Leaf → List ℕ → ℕ → ℕ → ℕ → Result (Unit {0}) Refusal
open_tested m leaves replies s u w =
    unless (nat_lt (graded m 0) u || nat_lt (graded m 2) w) 11 s
    (in_turn (command_tested m leaves replies s u w) (m.commands s))

-- the leaf given for state s, by its part
abbrev pub leaf_tested : Arena → List Leaf → List ℕ → ℕ → Leaf → Result (Unit {0}) Refusal
leaf_tested m leaves replies s (Covered a r) = covered_tested m leaves s a r
leaf_tested m leaves replies s (Open u w) = open_tested m leaves replies s u w

-- state s, by its leaf
abbrev pub state_tested : Arena → List Leaf → List ℕ → ℕ → Result (Unit {0}) Refusal
state_tested m leaves replies s = leaf_tested m leaves replies s (leaf_at leaves s)

-- how many states are covered and how many are open
abbrev pub counts : Arena → List Leaf → Counts
counts m leaves = record { covered = covered_count m leaves; «open» = open_count m leaves }

-- The check's answer: too few leaves and too few replies are refused by 9 with the number needed, then
-- the states are tested from 0 on; and if all pass, the two counts are the answer.
abbrev pub checked : Arena → List Leaf → List ℕ → Result Counts Refusal
checked m leaves replies =
    unless (nat_lt (length leaves) m.states) 9 m.states
    (unless (nat_lt (length replies) (16 * m.states)) 9 (16 * m.states)
    (and_then (in_turn (state_tested m leaves replies) m.states) (λ _. Ok (counts m leaves))))
