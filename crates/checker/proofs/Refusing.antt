-- Answers behind a test that may refuse.
use Rattle.std.proofs.Common.{◌≡◌, ℕ, ◌*◌, Bool, true, false, ltb, List, length, is_ok, None, Ok, Result, refl, ap, arith}
use Rattle.std.proofs.lemmas.Bool.{both_ways}
use Rattle.site.specs.Arena.{Arena}
use Rattle.site.specs.Refusals.{Refusal, refuse, unless}
use Rattle.checker.specs.declared.leaves.Leaf.{Leaf}
use Rattle.checker.specs.Rounds.{book_round, objection_round}

-- before a refusal there is no yes
unless_no : (bad : Bool) (n p : ℕ) (rest : Result ℕ Refusal) → is_ok rest ≡ false → is_ok (unless bad n p rest) ≡ false
unless_no true n p rest e = refl
unless_no false n p rest e = e

-- a yes behind a test
pub unless_yes : (bad : Bool) (n p t : ℕ) (rest : Result ℕ Refusal) → unless bad n p rest ≡ Ok t → (bad ≡ false) × (rest ≡ Ok t)
unless_yes true n p t rest e = let z : ◌≡◌ {A = ℕ} 0 1 = cc in absurd (omega arith)
unless_yes false n p t rest e = (refl, e)

-- no round is accepted before there is a state
pub no_first_book : (m : Arena) (leaves : List Leaf) (b t : ℕ) → book_round m leaves None b ≡ Ok t → ⊥
no_first_book m leaves b t e =
    both_ways _ (unless_no (ltb (length leaves) m.states) 9 m.states (refuse 14 0) refl) (ap is_ok e)

pub no_first_objection : (m : Arena) (leaves : List Leaf) (replies : List ℕ) (a t : ℕ) → objection_round m leaves replies None a ≡ Ok t → ⊥
no_first_objection m leaves replies a t e =
    both_ways _
    (unless_no (ltb (length leaves) m.states) 9 m.states _
    (unless_no (ltb (length replies) (16 * m.states)) 9 (16 * m.states) (refuse 14 0) refl))
    (ap is_ok e)
