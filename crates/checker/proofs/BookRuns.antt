-- A run by an accepted book: its rank falls at doubted states and rises only past a confirmed one.
use Rattle.std.proofs.Common.{◌≡◌, ℕ, ◌+◌, ◌≤◌, false, cond, List, is_ok, ap, arith}
use Rattle.std.proofs.lemmas.Bool.Decides.{nat_tests}
use Rattle.site.specs.Arena.{Arena, Lawful, graded}
use Rattle.checker.specs.declared.leaves.Leaf.{Leaf}
use Rattle.checker.specs.Leaves.{leaf_at}
use Rattle.checker.specs.Witness.{Accepted}
use Rattle.checker.specs.Runs.{has_grade}
use Rattle.checker.specs.RunLaws.{OnTheBook}
use Rattle.checker.proofs.Chains.{Chain, chain_latest, chain_stretch, chain_with, descends, none_passes}
use Rattle.checker.proofs.Keeping.{Booked, BookStep}
use Rattle.checker.proofs.Parts.{rank_of, covered_at, covered_step, book_goes}

module _ (m : Arena) (lawful : Lawful m) (leaves : List Leaf) (replies : List ℕ) (accepted : Accepted m leaves replies) where
  -- a covered state without confirmation: the rank falls at a doubted one and never rises
  rank : ℕ → ℕ
  rank t = rank_of (leaf_at leaves t)

  Unconfirmed : ℕ → Type 0
  Unconfirmed t = Booked m leaves t × (has_grade m 0 t ≡ false)

  rank_falls : (v t : ℕ) → Unconfirmed v → BookStep m leaves v t → cond (has_grade m 1 v) 1 0 + rank t ≤ rank v
  unfolding rank Unconfirmed
  rank_falls v t h step = let few = lawful.few_grades v in grind (arith, nat_tests)

  rank_bounded : (t : ℕ) → Unconfirmed t → rank t ≤ graded m 1
  unfolding rank Unconfirmed
  rank_bounded t h =
      let c = covered_at m leaves replies accepted t h.0.0 h.0.1 in rw c.is c.keeps.bounded

  rank_lasts : (t : ℕ) → Unconfirmed t → cond (has_grade m 1 t) 1 0 ≤ rank t
  unfolding rank Unconfirmed
  rank_lasts t h =
      let c = covered_at m leaves replies accepted t h.0.0 h.0.1 in
      let step = covered_step m leaves replies accepted t 0 c (lawful.some_event t h.0.0) in
      let low = step.1 in
      grind (arith, nat_tests)

  -- a run of the covered part
  pub on_the_book : (run : List ℕ) → Chain (Booked m leaves) (BookStep m leaves) run → OnTheBook m leaves replies run
  unfolding Unconfirmed
  on_the_book run chain =
      record {
        goes_on = λ v b at own.
            let h = chain_latest (Booked m leaves) (BookStep m leaves) run v chain at in
            rw at (ap is_ok (book_goes m leaves replies accepted v b (covered_at m leaves replies accepted v h.0 h.1) h.0 own));
        few_doubts = λ vs s none.
            descends Unconfirmed (BookStep m leaves) (has_grade m 1) rank (graded m 1) rank_falls rank_bounded rank_lasts vs
            (chain_with (Booked m leaves) (BookStep m leaves) (λ t. has_grade m 0 t ≡ false) vs (none_passes (has_grade m 0) vs none)
            (chain_stretch (Booked m leaves) (BookStep m leaves) run vs s chain));
      }
