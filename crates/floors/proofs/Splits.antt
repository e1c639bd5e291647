-- How a site is split, told from any pair that the check accepts: all accepted pairs cover the covered part.
use Rattle.std.proofs.Common.{◌≡◌, ℕ, ◌-◌, ◌*◌, ◌<◌, false, not, ltb, List, is_ok, Ok, sym, refl, ap, ◌∙◌, arith}
use Rattle.std.proofs.lemmas.Bool.{cond-false, le-ltb}
use Rattle.site.specs.Arena.{Arena, Lawful}
use Rattle.site.specs.Counting.{count}
use Rattle.checker.specs.Checked.{checked, counts}
use Rattle.checker.specs.Leaves.{leaf_at, is_covered}
use Rattle.checker.specs.Witness.{Accepted}
use Rattle.checker.specs.declared.leaves.Leaf.{Leaf}
use Rattle.checker.proofs.Laws.{checked_decides}
use Rattle.parts.specs.Regions.{has, covered}
use Rattle.planner.specs.Planned.{numbers}
use Rattle.planner.proofs.Agreed.{count_agree}
use Rattle.planner.proofs.Certified.{certificate, accepted_counts}
use Rattle.floors.specs.Shown.{Pair, Shown, sheet, split_in, planning}
use Rattle.floors.specs.Shown.Example.{Split}

enough : (n : ℕ) → ltb n n ≡ false
enough n = le-ltb n n (omega arith)

module _ (m : Arena) (lawful : Lawful m) (leaves : List Leaf) (replies : List ℕ) (accepted : Accepted m leaves replies) where
  agree : (s : ℕ) → s < m.states → has (covered m) s ≡ is_covered (leaf_at leaves s)
  agree s lt = sym ((certificate m lawful).part leaves replies accepted s lt)

  -- planning counts what an accepted pair covers
  planning_counts : planning m ≡ Ok (counts m leaves)
  planning_counts =
      let cov : count (numbers m).covered m.states ≡ count (λ s. is_covered (leaf_at leaves s)) m.states = count_agree _ _ m.states agree in
      let opened : count (λ s. not ((numbers m).covered s)) m.states ≡ count (λ s. not (is_covered (leaf_at leaves s))) m.states = count_agree _ _ m.states (λ s lt. ap not (agree s lt)) in
      cond-false (ltb m.states m.states) _ _ (enough m.states)
      ∙ cond-false (ltb (16 * m.states) (16 * m.states)) _ _ (enough (16 * m.states))
      ∙ cond-false (ltb (4 * m.states) (4 * m.states)) _ _ (enough (4 * m.states))
      ∙ rw (cov, opened) refl

-- a pair to which the check says yes tells how planning splits the site
pub split_by : (m : Arena) → Lawful m → (p : Pair) (n c : ℕ) → m.states ≡ n → checked m p.leaves (sheet p.replies) ≡ Ok (split_in c (n - c)) → Shown (Split m n c)
split_by m lawful p n c size h =
    let accepted : Accepted m p.leaves (sheet p.replies) = (checked_decides m p.leaves (sheet p.replies)).0 (ap is_ok h) in (
      size,
      planning_counts m lawful p.leaves (sheet p.replies) accepted
          ∙ sym (accepted_counts m lawful p.leaves (sheet p.replies) accepted) ∙ h,
    )
