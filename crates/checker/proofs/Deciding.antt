-- When an answer is a yes: tests that decide facts, one after another and in turn.
use Rattle.std.proofs.Common.{◌≡◌, ℕ, ◌<◌, ◌≤◌, Bool, true, false, not, ◌&&◌, ◌||◌, ltb, leb, is_ok, Ok, Err, Decides, Result, refl, arith}
use Rattle.std.proofs.lemmas.Bool.{false≢true, not-true, not_from_false, leb-false, lt-leb, ltb-false, le-ltb}
use Rattle.std.proofs.lemmas.Bool.Decides.{nat_tests, Decides-and, Decides-at, Decides-below_and}
use Rattle.site.specs.declared.faults.Fault.{Fault}
use Rattle.site.specs.Refusals.{Refusal, answered, unless, and_then}
use Rattle.checker.specs.Checked.{in_turn, passed}

-- a test that has to fail comes before the rest
unless_ok : {T : Type 0} (bad : Bool) (n p : ℕ) (rest : Result T Refusal) → is_ok (unless bad n p rest) ≡ (not bad && is_ok rest)
unless_ok true n p rest = refl
unless_ok false n p rest = refl

pub unless_decides : {T P Q : Type 0} (bad : Bool) (n p : ℕ) (rest : Result T Refusal) → Decides (not bad) P → Decides (is_ok rest) Q → Decides (is_ok (unless bad n p rest)) (P × Q)
unless_decides bad n p rest here there = Decides-at _ _ (unless_ok bad n p rest) (Decides-and (not bad) (is_ok rest) here there)

-- an answer made from a passed test is a yes where the test is passed
pub then_ok : {T U : Type 0} (r : Result T Refusal) (x : U) → is_ok (and_then r (λ _. Ok x)) ≡ is_ok r
then_ok (Ok y) x = refl
then_ok (Err e) x = refl

and_ok : (first after : Result (Unit {0}) Refusal) → is_ok (and_then first (λ _. after)) ≡ (is_ok after && is_ok first)
and_ok (Ok x) (Ok y) = refl
and_ok (Ok x) (Err e) = refl
and_ok (Err e) (Ok y) = refl
and_ok (Err e) (Err f) = refl

-- tests in turn are passed where each is
pub in_turn_decides : (test : ℕ → Result (Unit {0}) Refusal) (P : ℕ → Type 0) → ((k : ℕ) → Decides (is_ok (test k)) (P k)) → (n : ℕ) → Decides (is_ok (in_turn test n)) ((k : ℕ) → k < n → P k)
in_turn_decides test P each =
    Decides-below_and (λ k. is_ok (test k)) P (λ n. is_ok (in_turn test n)) each refl (λ n. and_ok (in_turn test n) (test n))

-- the tests for what is too large
pub decides_below : (a b : ℕ) → Decides (not (leb b a)) (a < b)
decides_below a b =
    ((λ e. leb-false b a (not-true (leb b a) e)), (λ h. not_from_false (leb b a) (lt-leb b a h)))

pub decides_within : (a b : ℕ) → Decides (not (ltb b a)) (a ≤ b)
decides_within a b =
    ((λ e. ltb-false b a (not-true (ltb b a) e)), (λ h. not_from_false (ltb b a) (le-ltb b a h)))

-- telling a fault by its number and place keeps a yes a yes
pub answered_ok : {T : Type 0} (r : Result T Fault) → is_ok r ≡ is_ok (answered r)
answered_ok (Ok x) = refl
answered_ok (Err f) = refl

-- a test that is passed in any case, and one that is never
pub passed_decides : Decides (is_ok passed) (Unit {0})
passed_decides = ((λ _. tt), (λ _. refl))

pub never_decides : Decides false ⊥
never_decides = (false≢true, (λ no. absurd no))

-- a test turned round twice
pub decides_not_not : {P : Type 0} (b : Bool) → Decides b P → Decides (not (not b)) P
decides_not_not true d = d
decides_not_not false d = d

-- two bounds in one test
pub decides_both_within : (a b c d : ℕ) → Decides (not (ltb b a || ltb d c)) ((a ≤ b) × (c ≤ d))
decides_both_within a b c d = ((λ e. grind (arith, nat_tests)), (λ h. grind (arith, nat_tests)))
