-- What can be forced in one round, as facts; and the operators F and G, which grow with each region.
use Rattle.std.proofs.Common.{◌≡◌, ℕ, zero, suc, ◌<◌, Bool, true, refl, inl, inr, arith}
use Rattle.std.proofs.lemmas.Bool.{and_from, or_cases, false≢true}
use Rattle.site.specs.Arena.{Arena}
use Rattle.site.specs.Counting.{every, some}
use Rattle.site.specs.CountingLaws.{every_at}
use Rattle.parts.specs.Moves.{holds, blocks, by_grade}
use Rattle.parts.specs.Regions.{Region, has, F, G, greatest, least}
use Rattle.parts.proofs.Steps.{some_at}
use Rattle.parts.proofs.Regions.{Sized, Within, Growing, region_length, region_within, greatest_mono, greatest_size, least_mono, least_size}

pub every_from : (p : ℕ → Bool) (n : ℕ) → ((k : ℕ) → k < n → p k ≡ true) → every p n ≡ true
every_from p zero h = refl
every_from p (suc n) h = and_from (p n) (every p n) (h n (omega arith)) (every_from p n (λ k lt. h k (omega arith)))

pub some_one : (p : ℕ → Bool) (n : ℕ) → some p n ≡ true → (k : ℕ) × (k < n) × (p k ≡ true)
some_one p zero h = absurd (false≢true h)
some_one p (suc n) h =
    elim (or_cases (p n) (some p n) h) [
      | inl t ↦ (n, omega arith, t)
      | inr t ↦ let w = some_one p n t in (w.0, omega (arith, w.1), w.2)
    ]

module _ (m : Arena) (U : ℕ → Bool) (s : ℕ) where
  -- the controller has a command that leads into U whatever the event
  pub holds_is : holds m U s ≡ true → (a : ℕ) × (a < m.commands s) × ((b : ℕ) → b < m.events s → U (m.next s a b) ≡ true)
  holds_is h =
      let w = some_one (λ a. every (λ b. U (m.next s a b)) (m.events s)) (m.commands s) h in
      (w.0, w.1, λ b lt. every_at (λ b. U (m.next s w.0 b)) (m.events s) b w.2 lt)

  pub holds_from : (a : ℕ) → a < m.commands s → ((b : ℕ) → b < m.events s → U (m.next s a b) ≡ true) → holds m U s ≡ true
  holds_from a lt h =
      some_at (λ a. every (λ b. U (m.next s a b)) (m.events s)) (m.commands s) a (every_from (λ b. U (m.next s a b)) (m.events s) h) lt

  -- the floor has for each command an event that leads into U
  pub blocks_is : blocks m U s ≡ true → (a : ℕ) → a < m.commands s → (b : ℕ) × (b < m.events s) × (U (m.next s a b) ≡ true)
  blocks_is h a lt =
      some_one (λ b. U (m.next s a b)) (m.events s) (every_at (λ a. some (λ b. U (m.next s a b)) (m.events s)) (m.commands s) a h lt)

  pub blocks_from : ((a : ℕ) → a < m.commands s → (b : ℕ) × (b < m.events s) × (U (m.next s a b) ≡ true)) → blocks m U s ≡ true
  blocks_from h =
      every_from (λ a. some (λ b. U (m.next s a b)) (m.events s)) (m.commands s) (λ a lt. let w = h a lt in some_at (λ b. U (m.next s a b)) (m.events s) w.0 w.2 w.1)

-- a larger region is held and blocked at more states
pub holds_mono : (m : Arena) (U V : ℕ → Bool) (s : ℕ) → ((t : ℕ) → U t ≡ true → V t ≡ true) → holds m U s ≡ true → holds m V s ≡ true
holds_mono m U V s h e = let w = holds_is m U s e in holds_from m V s w.0 w.1 (λ b lt. h (m.next s w.0 b) (w.2 b lt))

pub blocks_mono : (m : Arena) (U V : ℕ → Bool) (s : ℕ) → ((t : ℕ) → U t ≡ true → V t ≡ true) → blocks m U s ≡ true → blocks m V s ≡ true
blocks_mono m U V s h e = blocks_from m V s (λ a lt. let w = blocks_is m U s e a lt in (w.0, w.1, h (m.next s a w.0) w.2))

-- a choice by grade grows with each of its parts
by_grade_mono : (g : ℕ) (x y z x' y' z' : Bool) → (x ≡ true → x' ≡ true) → (y ≡ true → y' ≡ true) → (z ≡ true → z' ≡ true) → by_grade g x y z ≡ true → by_grade g x' y' z' ≡ true
by_grade_mono zero x y z x' y' z' p q r h = p h
by_grade_mono (suc zero) x y z x' y' z' p q r h = q h
by_grade_mono (suc (suc g)) x y z x' y' z' p q r h = r h

module _ (m : Arena) where
  pub F_size : (X Y Z : Region) → Sized m.states (F m X Y Z)
  F_size X Y Z = region_length m.states _

  pub G_size : (X Y Z : Region) → Sized m.states (G m X Y Z)
  G_size X Y Z = region_length m.states _

  pub F_mono : (X Y Z X' Y' Z' : Region) → Within X X' → Within Y Y' → Within Z Z' → Within (F m X Y Z) (F m X' Y' Z')
  F_mono X Y Z X' Y' Z' x y z =
      region_within m.states _ _ (λ s lt. by_grade_mono (m.grade s) _ _ _ _ _ _ (holds_mono m (has X) (has X') s x) (holds_mono m (has Y) (has Y') s y) (holds_mono m (has Z) (has Z') s z))

  pub G_mono : (X Y Z X' Y' Z' : Region) → Within X X' → Within Y Y' → Within Z Z' → Within (G m X Y Z) (G m X' Y' Z')
  G_mono X Y Z X' Y' Z' x y z =
      region_within m.states _ _ (λ s lt. by_grade_mono (m.grade s) _ _ _ _ _ _ (blocks_mono m (has X) (has X') s x) (blocks_mono m (has Y) (has Y') s y) (blocks_mono m (has Z) (has Z') s z))

  same : (U : Region) → Within U U
  same U s e = e

  -- the inner, the middle and the outer operators of both nestings
  pub F_grows : (X Y : Region) → Growing m.states (F m X Y)
  F_grows X Y = record { size = F_size X Y; mono = λ Z Z' z. F_mono X Y Z X Y Z' (same X) (same Y) z }

  pub G_grows : (X Y : Region) → Growing m.states (G m X Y)
  G_grows X Y = record { size = G_size X Y; mono = λ Z Z' z. G_mono X Y Z X Y Z' (same X) (same Y) z }

  pub levels_grow : (X : Region) → Growing m.states (λ Y. greatest m.states (F m X Y))
  levels_grow X =
      record {
        size = λ Y. greatest_size m.states (F m X Y) (F_grows X Y);
        mono = λ Y Y' y. greatest_mono m.states (F m X Y) (F m X Y') (F_grows X Y) (F_grows X Y') (λ Z. F_mono X Y Z X Y' Z (same X) y (same Z));
      }

  pub covers_grow : Growing m.states (λ X. least m.states (λ Y. greatest m.states (F m X Y)))
  covers_grow =
      record {
        size = λ X. least_size m.states _ (levels_grow X);
        mono = λ X X' x. least_mono m.states _ _ (levels_grow X) (levels_grow X') (λ Y. greatest_mono m.states (F m X Y) (F m X' Y) (F_grows X Y) (F_grows X' Y) (λ Z. F_mono X Y Z X' Y Z x (same Y) (same Z)));
      }

  pub rounds_grow : (X : Region) → Growing m.states (λ Y. least m.states (G m X Y))
  rounds_grow X =
      record {
        size = λ Y. least_size m.states (G m X Y) (G_grows X Y);
        mono = λ Y Y' y. least_mono m.states (G m X Y) (G m X Y') (G_grows X Y) (G_grows X Y') (λ Z. G_mono X Y Z X Y' Z (same X) y (same Z));
      }

  pub stages_grow : Growing m.states (λ X. greatest m.states (λ Y. least m.states (G m X Y)))
  stages_grow =
      record {
        size = λ X. greatest_size m.states _ (rounds_grow X);
        mono = λ X X' x. greatest_mono m.states _ _ (rounds_grow X) (rounds_grow X') (λ Y. least_mono m.states (G m X Y) (G m X' Y) (G_grows X Y) (G_grows X' Y) (λ Z. G_mono X Y Z X' Y Z x (same Y) (same Z)));
      }
