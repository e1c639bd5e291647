-- How far the check has come: the states done have passed and are counted.
use Rattle.std.proofs.Common.{◌≡◌, ℕ, ◌+◌, ◌*◌, ◌<◌, ◌≤◌, Bool, true, false, not, nat_lt, List, length, Ok, Err, Result, sym, refl, ap, ◌∙◌, arith}
use Rattle.std.proofs.lemmas.Bool.{le-ltb}
use Rattle.site.specs.Arena.{Arena}
use Rattle.site.specs.Counting.{count}
use Rattle.site.specs.Refusals.{Refusal, unless, and_then}
use Rattle.checker.specs.declared.leaves.Leaf.{Leaf}
use Rattle.checker.specs.declared.leaves.Counts.{Counts}
use Rattle.checker.specs.Leaves.{leaf_at, is_covered, lending}
use Rattle.checker.specs.Checked.{in_turn, leaf_tested, state_tested, passed, counts, checked}
use Rattle.checker.proofs.Tallies.{tally_hit, tally_miss, tally_end}
use Rattle.checker.proofs.Turns.{turn_passed, turn_refused, turn_end}

pub record Progress (m : Arena) (leaves : List Leaf) (replies : List ℕ) (s : ℕ) (c : Counts) : Type 0 where
  pub tested : in_turn (state_tested m leaves replies) s ≡ passed
  pub covered : c.covered ≡ count (λ k. is_covered (leaf_at leaves k)) s
  pub uncovered : c.«open» ≡ count (λ k. not (is_covered (leaf_at leaves k))) s
  pub few_covered : c.covered ≤ s
  pub few_uncovered : c.«open» ≤ s

-- leaves and replies that are too few
pub too_few : (m : Arena) (leaves : List Leaf) (replies : List ℕ) (e : Refusal) → lending m.states leaves replies ≡ Err e → checked m leaves replies ≡ Err e
too_few m leaves replies e h = first (nat_lt (length leaves) m.states) (nat_lt (length replies) (16 * m.states)) _ ∙ ap (λ r. and_then r (λ _. and_then (in_turn (state_tested m leaves replies) m.states) (λ _. Ok (counts m leaves)))) h
  where
    first : (b b' : Bool) (rest : Result Counts Refusal) → unless b 9 m.states (unless b' 9 (16 * m.states) rest) ≡ and_then (unless b 9 m.states (unless b' 9 (16 * m.states) passed)) (λ _. rest)
    first true b' rest = refl
    first false true rest = refl
    first false false rest = refl

module _ (m : Arena) (leaves : List Leaf) (replies : List ℕ) (s : ℕ) (c : Counts) (p : Progress m leaves replies s c) where
  -- one more covered state
  pub one_covered : (leaf : Leaf) (c' : Counts) → leaf_at leaves s ≡ leaf → leaf_tested m leaves replies s leaf ≡ passed → is_covered leaf ≡ true → c' ≡ record { covered = c.covered + 1; «open» = c.«open» } → Progress m leaves replies (s + 1) c'
  one_covered leaf c' at test part e =
      rw e
      (record {
        tested = turn_passed (state_tested m leaves replies) s p.tested (rw at test);
        covered = tally_hit _ s _ p.covered (rw at part);
        uncovered = tally_miss _ s _ p.uncovered (rw (at, part) refl);
        few_covered = omega arith;
        few_uncovered = omega arith;
      })

  -- one more open state
  pub one_open : (leaf : Leaf) (c' : Counts) → leaf_at leaves s ≡ leaf → leaf_tested m leaves replies s leaf ≡ passed → is_covered leaf ≡ false → c' ≡ record { covered = c.covered; «open» = c.«open» + 1 } → Progress m leaves replies (s + 1) c'
  one_open leaf c' at test part e =
      rw e
      (record {
        tested = turn_passed (state_tested m leaves replies) s p.tested (rw at test);
        covered = tally_miss _ s _ p.covered (rw at part);
        uncovered = tally_hit _ s _ p.uncovered (rw (at, part) refl);
        few_covered = omega arith;
        few_uncovered = omega arith;
      })

  module _ (enough_leaves : m.states ≤ length leaves) (enough_replies : 16 * m.states ≤ length replies) where
    rest : checked m leaves replies ≡ and_then (in_turn (state_tested m leaves replies) m.states) (λ _. Ok (counts m leaves))
    rest = rw (le-ltb _ _ enough_leaves, le-ltb _ _ enough_replies) refl

    -- state s is refused
    pub state_refused : (leaf : Leaf) (e : Refusal) → s < m.states → leaf_at leaves s ≡ leaf → leaf_tested m leaves replies s leaf ≡ Err e → Err e ≡ checked m leaves replies
    state_refused leaf e l at test =
        let here : state_tested m leaves replies s ≡ Err e = rw at test in
        sym (rest ∙ rw (turn_refused (state_tested m leaves replies) m.states s e l p.tested here) refl)

    -- every state has passed
    pub all_passed : s ≤ m.states → m.states ≤ s → Ok c ≡ checked m leaves replies
    all_passed l all =
        let done = turn_end (state_tested m leaves replies) s m.states p.tested l all in
        let ins = tally_end _ s m.states _ p.covered l all in
        let outs = tally_end _ s m.states _ p.uncovered l all in
        sym (rest ∙ rw (done, ← ins, ← outs) refl)
