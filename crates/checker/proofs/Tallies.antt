-- Counts that grow with the number of states done.
use Rattle.std.proofs.Common.{◌≡◌, ℕ, ◌+◌, ◌≤◌, Bool, true, false, eqb, sym, refl, add-one, arith}
use Rattle.std.proofs.lemmas.Bool.{eq-eqb, ne_eqb}
use Rattle.site.specs.Counting.{count}
use Rattle.site.specs.Grades.{grade_number}
use Rattle.site.specs.declared.grades.Grade.{Grade}
use Rattle.site.specs.declared.grades.Grade.TheVariants.{Confirmed, Doubted, Ordinary}
use Rattle.checker.specs.declared.bounding.Bounds.{Bounds}

-- one more state, which passes the test
pub tally_hit : (p : ℕ → Bool) (i x : ℕ) → x ≡ count p i → p i ≡ true → x + 1 ≡ count p (i + 1)
tally_hit p i x e h = rw (add-one i, h, e) refl

-- one more state, which fails it
pub tally_miss : (p : ℕ → Bool) (i x : ℕ) → x ≡ count p i → p i ≡ false → x ≡ count p (i + 1)
tally_miss p i x e h = rw (add-one i, h) (omega arith)

-- the last state done
pub tally_end : (p : ℕ → Bool) (i n x : ℕ) → x ≡ count p i → i ≤ n → n ≤ i → x ≡ count p n
tally_end p i n x e l r = let same : i ≡ n = omega arith in rw same at e

-- the three counts of the first i states, each at most i
pub record Tallied (grade : ℕ → ℕ) (i : ℕ) (b : Bounds) : Type 0 where
  pub confirmed : b.confirmed ≡ count (λ s. eqb (grade s) 0) i
  pub doubted : b.doubted ≡ count (λ s. eqb (grade s) 1) i
  pub ordinary : b.ordinary ≡ count (λ s. eqb (grade s) 2) i
  pub few_confirmed : b.confirmed ≤ i
  pub few_doubted : b.doubted ≤ i
  pub few_ordinary : b.ordinary ≤ i

-- one more state of the grade g
abbrev pub with_grade : Grade → Bounds → Bounds
with_grade Confirmed b = record { confirmed = b.confirmed + 1; doubted = b.doubted; ordinary = b.ordinary }
with_grade Doubted b = record { confirmed = b.confirmed; doubted = b.doubted + 1; ordinary = b.ordinary }
with_grade Ordinary b = record { confirmed = b.confirmed; doubted = b.doubted; ordinary = b.ordinary + 1 }

module _ (grade : ℕ → ℕ) (i : ℕ) (b : Bounds) (t : Tallied grade i b) where
  hit : (g x : ℕ) → x ≡ count (λ s. eqb (grade s) g) i → g ≡ grade i → x + 1 ≡ count (λ s. eqb (grade s) g) (i + 1)
  hit g x e h = tally_hit (λ s. eqb (grade s) g) i x e (eq-eqb _ _ (sym h))

  miss : (g x : ℕ) → x ≡ count (λ s. eqb (grade s) g) i → (grade i ≡ g → ⊥) → x ≡ count (λ s. eqb (grade s) g) (i + 1)
  miss g x e h = tally_miss (λ s. eqb (grade s) g) i x e (ne_eqb _ _ h)

  tallied_by : (g : Grade) → grade_number g ≡ grade i → Tallied grade (i + 1) (with_grade g b)
  tallied_by Confirmed h =
      record {
        confirmed = hit 0 _ t.confirmed h;
        doubted = miss 1 _ t.doubted (λ e. omega arith);
        ordinary = miss 2 _ t.ordinary (λ e. omega arith);
        few_confirmed = omega arith;
        few_doubted = omega arith;
        few_ordinary = omega arith;
      }
  tallied_by Doubted h =
      record {
        confirmed = miss 0 _ t.confirmed (λ e. omega arith);
        doubted = hit 1 _ t.doubted h;
        ordinary = miss 2 _ t.ordinary (λ e. omega arith);
        few_confirmed = omega arith;
        few_doubted = omega arith;
        few_ordinary = omega arith;
      }
  tallied_by Ordinary h =
      record {
        confirmed = miss 0 _ t.confirmed (λ e. omega arith);
        doubted = miss 1 _ t.doubted (λ e. omega arith);
        ordinary = hit 2 _ t.ordinary h;
        few_confirmed = omega arith;
        few_doubted = omega arith;
        few_ordinary = omega arith;
      }

  -- the counts after the grade of state i was added
  pub tallied_next : (g : Grade) (b' : Bounds) → grade_number g ≡ grade i → b' ≡ with_grade g b → Tallied grade (i + 1) b'
  tallied_next g b' h e = rw e (tallied_by g h)
