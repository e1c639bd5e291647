-- A run by an accepted objection: its first number falls at confirmed states, and along ordinary states its
-- two numbers fall, so that none of them comes twice in a row.
use Rattle.std.proofs.Common.{◌≡◌, ℕ, ◌+◌, ◌<◌, ◌≤◌, true, cond, List, [], ◌∷◌, length, is_ok, ap, inl, inr, arith}
use Rattle.std.specs.List.{AllByRecursion as All}
use Rattle.std.proofs.lemmas.Bool.{eqb-true, cases_lt}
use Rattle.std.proofs.lemmas.Bool.Decides.{nat_tests}
use Rattle.site.specs.Arena.{Arena, Lawful, graded}
use Rattle.checker.specs.declared.leaves.Leaf.{Leaf}
use Rattle.checker.specs.Leaves.{leaf_at}
use Rattle.checker.specs.Witness.{Accepted}
use Rattle.checker.specs.Runs.{many, has_grade}
use Rattle.checker.specs.RunLaws.{OnTheObjection}
use Rattle.checker.proofs.Chains.{Chain, chain_all, chain_latest, chain_stretch, chain_with, descends, never_twice}
use Rattle.checker.proofs.Keeping.{Replied, ReplyStep}
use Rattle.checker.proofs.Parts.{first_of, second_of, open_at, open_step, objection_goes}
use Rattle.checker.proofs.Pigeons.{pigeons}

module _ (m : Arena) (lawful : Lawful m) (leaves : List Leaf) (replies : List ℕ) (accepted : Accepted m leaves replies) where
  -- an open state: the first number falls at a confirmed one and never rises
  first : ℕ → ℕ
  first t = first_of (leaf_at leaves t)

  second : ℕ → ℕ
  second t = second_of (leaf_at leaves t)

  first_falls : (v t : ℕ) → Replied m leaves v → ReplyStep m leaves v t → cond (has_grade m 0 v) 1 0 + first t ≤ first v
  unfolding first
  first_falls v t h step = let few = lawful.few_grades v in grind (arith, nat_tests)

  first_bounded : (t : ℕ) → Replied m leaves t → first t ≤ graded m 0
  unfolding first
  first_bounded t h = let c = open_at m leaves replies accepted t h.0 h.1 in rw c.is c.keeps.bounded_first

  first_lasts : (t : ℕ) → Replied m leaves t → cond (has_grade m 0 t) 1 0 ≤ first t
  unfolding first
  first_lasts t h =
      let c = open_at m leaves replies accepted t h.0 h.1 in
      let step = open_step m leaves replies accepted t 0 c (lawful.some_command t h.0) in
      let low = step.1 in
      grind (arith, nat_tests)

  -- along ordinary states the two numbers fall, the first one first
  Lower : ℕ → ℕ → Type 0
  Lower x y = (first x ≤ first y) × (first x ≡ first y → second x < second y)

  Ordinary : ℕ → Type 0
  Ordinary t = Replied m leaves t × (has_grade m 2 t ≡ true)

  ordinary_grade : (v : ℕ) → Ordinary v → has_grade m 2 v ≡ true
  unfolding Ordinary
  ordinary_grade v h = h.1

  ordinary_falls : (v t : ℕ) → Ordinary v → ReplyStep m leaves v t → Lower t v
  unfolding first second Lower
  ordinary_falls v t h step = step.2 (eqb-true _ _ (ordinary_grade v h))

  lower_through : (x y z : ℕ) → Lower x y → Lower y z → Lower x z
  unfolding Lower
  lower_through x y z p q = (omega arith, λ e. omega arith)

  lower_apart : (x y : ℕ) → Lower x y → x ≡ y → ⊥
  unfolding Lower
  lower_apart x y p e = let f = ap first e in let s = ap second e in omega arith

  -- where none is confirmed and none doubted, all are ordinary
  all_ordinary : (vs : List ℕ) → many (has_grade m 0) vs ≡ 0 → many (has_grade m 1) vs ≡ 0 → All (λ t. has_grade m 2 t ≡ true) vs
  all_ordinary [] a b = tt
  all_ordinary (v ∷ vs) a b =
      let few = lawful.few_grades v in (grind (arith, nat_tests), all_ordinary vs (omega arith) (omega arith))

  -- no ordinary state comes twice in a row of them, so the row is no longer than there are such states
  ordinary_few : (vs : List ℕ) → Chain (Replied m leaves) (ReplyStep m leaves) vs → All (λ t. has_grade m 2 t ≡ true) vs → length vs ≤ graded m 2
  unfolding Ordinary
  ordinary_few vs chain all =
      let rows = chain_with (Replied m leaves) (ReplyStep m leaves) (λ t. has_grade m 2 t ≡ true) vs all chain in
      pigeons m.states vs (has_grade m 2)
      (never_twice Ordinary (ReplyStep m leaves) Lower ordinary_falls lower_through lower_apart vs rows)
      (chain_all Ordinary (ReplyStep m leaves) (λ t. (t < m.states) × (has_grade m 2 t ≡ true)) (λ t h. (h.0.0, h.1)) vs rows)

  -- a run of the open part
  pub on_the_objection : (run : List ℕ) → Chain (Replied m leaves) (ReplyStep m leaves) run → OnTheObjection m leaves replies run
  on_the_objection run chain =
      record {
        goes_on = λ v a at own.
            let h = chain_latest (Replied m leaves) (ReplyStep m leaves) run v chain at in
            rw at (ap is_ok (objection_goes m leaves replies accepted v a (open_at m leaves replies accepted v h.0 h.1) h.0 own));
        few_confirmations =
            descends (Replied m leaves) (ReplyStep m leaves) (has_grade m 0) first (graded m 0) first_falls first_bounded first_lasts run chain;
        short_rows = λ vs s long.
            elim (cases_lt 0 (many (has_grade m 0) vs + many (has_grade m 1) vs)) [
              | inl some ↦ omega arith
              | inr none ↦
                  let few = ordinary_few vs (chain_stretch (Replied m leaves) (ReplyStep m leaves) run vs s chain) (all_ordinary vs (omega arith) (omega arith)) in
                  absurd (omega arith)
            ];
      }
