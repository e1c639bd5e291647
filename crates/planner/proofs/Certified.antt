-- The whole promise, and that the check repeats what planning answered.
use Rattle.std.proofs.Common.{◌≡◌, ℕ, ◌*◌, ◌≤◌, Bool, true, false, not, ltb, List, length, replicate, is_ok, Ok, Err, Result, refl, ap, ◌∙◌, arith}
use lib.ListN.{length-replicate}
use Rattle.std.proofs.lemmas.Bool.{false≢true}
use Rattle.site.specs.Arena.{Arena, Lawful}
use Rattle.site.specs.Counting.{count}
use Rattle.site.specs.Refusals.{Refusal, unless, and_then}
use Rattle.checker.specs.Checked.{checked, counts, in_turn, state_tested}
use Rattle.checker.specs.Leaves.{leaf_at, is_covered}
use Rattle.checker.specs.Witness.{Accepted}
use Rattle.checker.specs.declared.leaves.Leaf.{Leaf}
use Rattle.checker.specs.declared.leaves.Leaf.TheVariants.{Covered}
use Rattle.checker.proofs.Laws.{checked_decides}
use Rattle.checker.proofs.Promises.{run_law}
use Rattle.checker.proofs.SameCovers.{same_cover}
use Rattle.parts.proofs.Worded.{words}
use Rattle.planner.specs.Certificate.{Certificate}
use Rattle.planner.specs.Choices.{leaves_written, replies_written}
use Rattle.planner.specs.Planned.{numbers, parts_counted}
use Rattle.planner.proofs.Acceptance.{planned_accepted, planned_part}
use Rattle.planner.proofs.Agreed.{count_agree}

-- a check that says yes gives the counts
gives_counts : (m : Arena) (leaves : List Leaf) (b c : Bool) (r : Result (Unit {0}) Refusal) → is_ok (unless b 9 m.states (unless c 9 (16 * m.states) (and_then r (λ _. Ok (counts m leaves))))) ≡ true → unless b 9 m.states (unless c 9 (16 * m.states) (and_then r (λ _. Ok (counts m leaves)))) ≡ Ok (counts m leaves)
gives_counts m leaves true c r h = absurd (false≢true h)
gives_counts m leaves false true r h = absurd (false≢true h)
gives_counts m leaves false false (Ok x) h = refl
gives_counts m leaves false false (Err e) h = absurd (false≢true h)

module _ (m : Arena) (lawful : Lawful m) where
  pub accepted_counts : (leaves : List Leaf) (replies : List ℕ) → Accepted m leaves replies → checked m leaves replies ≡ Ok (counts m leaves)
  accepted_counts leaves replies acc =
      gives_counts m leaves (ltb (length leaves) m.states) (ltb (length replies) (16 * m.states)) (in_turn (state_tested m leaves replies) m.states) ((checked_decides m leaves replies).1 acc)

  -- the check says yes to the planned pair, and counts as planning did
  pub planned_checked : (leaves : List Leaf) (replies : List ℕ) → m.states ≤ length leaves → 16 * m.states ≤ length replies → checked m (leaves_written m (numbers m) m.states leaves) (replies_written m (numbers m) m.states replies) ≡ Ok (parts_counted (numbers m) m.states)
  planned_checked leaves replies long wide =
      let part = planned_part m lawful leaves replies long wide in
      let L = leaves_written m (numbers m) m.states leaves in
      let cov : count (λ s. is_covered (leaf_at L s)) m.states ≡ count (numbers m).covered m.states = count_agree _ _ m.states part in
      let opened : count (λ s. not (is_covered (leaf_at L s))) m.states ≡ count (λ s. not ((numbers m).covered s)) m.states = count_agree _ _ m.states (λ s lt. ap not (part s lt)) in
      accepted_counts L (replies_written m (numbers m) m.states replies) (planned_accepted m lawful leaves replies long wide) ∙ rw (cov, opened) refl

  pub certificate : Certificate m
  certificate =
      record {
        runs = run_law m lawful;
        planned = planned_accepted m lawful;
        part = λ leaves replies acc s lt.
            let blank = replicate m.states (Covered 0 0) in
            let none : List ℕ = replicate (16 * m.states) 0 in
            let long : m.states ≤ length blank = rw length-replicate (omega arith) in
            let wide : 16 * m.states ≤ length none = rw length-replicate (omega arith) in
            same_cover m lawful leaves replies (leaves_written m (numbers m) m.states blank) (replies_written m (numbers m) m.states none) acc (planned_accepted m lawful blank none long wide) s lt ∙ planned_part m lawful blank none long wide s lt;
        cover = same_cover m lawful;
        words = words m lawful;
      }
