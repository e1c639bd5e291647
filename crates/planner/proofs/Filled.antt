-- Rows that hold the numbers of a site, and slices that fit exactly.
use Rattle.parts.specs.Regions as regions
use Rattle.std.proofs.Common.{◌≡◌, ℕ, suc, ◌*◌, ◌<◌, ◌≤◌, Bool, true, false, cond, ltb, leb, List, ◌++◌, length, Ok, sym, refl, ap, ◌∙◌, inl, inr, zero-add, arith}
use Rattle.checker.specs.declared.leaves.Counts.{Counts}
use Rattle.site.specs.Refusals.{unless}
use Rattle.std.proofs.lemmas.List.FromFn.{get_or-map-range_with_len}
use Rattle.std.proofs.lemmas.List.{drop_all, append-nil}
use Rattle.std.proofs.lemmas.Bool.{cases_Bool, cond-true, cond-false, and_from, le-leb, le-ltb, ltb-false, eq-eqb, ne_eqb}
use Rattle.site.specs.Arena.{Arena, Lawful, graded}
use Rattle.parts.specs.Lifting.{at, none, unnumbered}
use Rattle.parts.specs.Rows.{row, first_row, rank_row, second_row, rows_fit, row_after}
use Rattle.parts.proofs.Lowest.{lowest_le}
use Rattle.planner.specs.Planned.{numbers, roomy, parts_counted, planned_answer}
use Rattle.planner.proofs.Agreed.{Agree}

-- a slice with one place for each state holds the row and nothing else
pub exact : (m : Arena) (a b c d : ℕ) (xs before : List ℕ) → a ≡ m.states → b ≡ m.states → c ≡ m.states → d ≡ m.states → length before ≡ m.states → row_after m (rows_fit m a b c d) xs before ≡ xs
exact m a b c d xs before ea eb ec ed long =
    let fits : rows_fit m a b c d ≡ true = and_from (leb m.states a) _ (le-leb _ _ (omega arith)) (and_from (leb m.states b) _ (le-leb _ _ (omega arith)) (and_from (leb m.states c) (leb m.states d) (le-leb _ _ (omega arith)) (le-leb _ _ (omega arith)))) in
    cond-true (rows_fit m a b c d) _ _ fits ∙ (ap (λ ys. xs ++ ys) (drop_all m.states before (omega arith)) ∙ append-nil xs)

-- a row's number
row_at : (n : ℕ) (f : ℕ → ℕ) (s : ℕ) → s < n → at (row n f) s ≡ f s
row_at n f s lt = get_or-map-range_with_len f 0 n s s 0 lt (zero-add s)

module _ (m : Arena) (lawful : Lawful m) where
  first_few : (s : ℕ) → regions.first m s ≤ m.states
  unfolding regions.first
  first_few s = lowest_le (λ i. regions.has (regions.stage m (suc i)) s) m.states

  pub rows_agree : (firsts ranks seconds : List ℕ) → firsts ≡ first_row m → ranks ≡ rank_row m → seconds ≡ second_row m → Agree m (record { covered = unnumbered firsts; rank = at ranks; first = at firsts; second = at seconds }) (numbers m)
  rows_agree firsts ranks seconds ef er es =
      record {
        part = λ s lt. ap (λ xs. unnumbered xs s) ef ∙ part_at s lt;
        rank = λ s lt cov. ap (λ xs. at xs s) er ∙ (row_at m.states (λ s. cond (regions.has (regions.covered m) s) (regions.rank m s) (suc (graded m 1))) s lt ∙ cond-true (regions.has (regions.covered m) s) _ _ cov);
        first = λ s lt opened. ap (λ xs. at xs s) ef ∙ (first_at s lt ∙ cond-false (regions.has (regions.covered m) s) _ _ opened);
        second = λ s lt opened. ap (λ xs. at xs s) es ∙ (row_at m.states (λ s. cond (regions.has (regions.covered m) s) 0 (regions.second m s)) s lt ∙ cond-false (regions.has (regions.covered m) s) _ _ opened);
      }
    where
      first_at : (s : ℕ) → s < m.states → at (first_row m) s ≡ cond (regions.has (regions.covered m) s) none (regions.first m s)
      first_at s lt = row_at m.states (λ s. cond (regions.has (regions.covered m) s) none (regions.first m s)) s lt

      part_at : (s : ℕ) → s < m.states → unnumbered (first_row m) s ≡ regions.has (regions.covered m) s
      part_at s lt =
          elim (cases_Bool (regions.has (regions.covered m) s)) [
            | inl cov ↦ eq-eqb (at (first_row m) s) none (first_at s lt ∙ cond-true (regions.has (regions.covered m) s) _ _ cov) ∙ sym cov
            | inr opened ↦ ne_eqb (at (first_row m) s) none (λ e. omega (arith, sym e ∙ (first_at s lt ∙ cond-false (regions.has (regions.covered m) s) _ _ opened), first_few s, lawful.limited)) ∙ sym opened
          ]

-- slices that were tested are roomy
pub roomy_from : (m : Arena) (leaves replies work : ℕ) → m.states ≤ leaves → 16 * m.states ≤ replies → 4 * m.states ≤ work → roomy m leaves replies work ≡ true
roomy_from m leaves replies work a b c =
    and_from (leb m.states leaves) _ (le-leb _ _ a) (and_from (leb (16 * m.states) replies) (leb (4 * m.states) work) (le-leb _ _ b) (le-leb _ _ c))

-- and are answered by the counts
pub roomy_answer : (m : Arena) (leaves replies work : ℕ) → m.states ≤ leaves → 16 * m.states ≤ replies → 4 * m.states ≤ work → Ok (parts_counted (numbers m) m.states) ≡ planned_answer m leaves replies work
roomy_answer m leaves replies work a b c =
    rw (le-ltb leaves m.states a, le-ltb replies (16 * m.states) b, le-ltb work (4 * m.states) c) refl

-- an answer with counts means that the slices were long enough
three : {T : Type 0} (a b c : Bool) (x y z : ℕ) (v k : T) → Ok k ≡ unless a 9 x (unless b 9 y (unless c 9 z (Ok v))) → (a ≡ false) × (b ≡ false) × (c ≡ false)
three true b c x y z v k e = let no_way : ◌≡◌ {A = ℕ} 0 1 = cc in absurd (omega arith)
three false true c x y z v k e = let no_way : ◌≡◌ {A = ℕ} 0 1 = cc in absurd (omega arith)
three false false true x y z v k e = let no_way : ◌≡◌ {A = ℕ} 0 1 = cc in absurd (omega arith)
three false false false x y z v k e = (refl, refl, refl)

pub answered_roomy : (m : Arena) (leaves replies work : ℕ) (k : Counts) → Ok k ≡ planned_answer m leaves replies work → (m.states ≤ leaves) × (16 * m.states ≤ replies) × (4 * m.states ≤ work)
answered_roomy m leaves replies work k e =
    let f = three (ltb leaves m.states) (ltb replies (16 * m.states)) (ltb work (4 * m.states)) m.states (16 * m.states) (4 * m.states) (parts_counted (numbers m) m.states) k e in
    (ltb-false leaves m.states f.0, ltb-false replies (16 * m.states) f.1, ltb-false work (4 * m.states) f.2)
