-- Raising one state of a row, and what a sweep keeps.
use Rattle.std.proofs.Common.{◌≡◌, ℕ, zero, suc, ◌+◌, ◌<◌, ◌≤◌, Bool, true, false, ltb, List, [], ◌∷◌, length, set, refl, subst, inl, inr, arith, below_more}
use Rattle.std.proofs.lemmas.List.{get_or-set_same, get_or-set_other}
use Rattle.std.proofs.lemmas.Bool.{cases_eq, cond_both, true≢false, ltb-true, ltb-false}
use Rattle.site.specs.Arena.{Arena, Lawful}
use Rattle.parts.specs.Moves.{holds, by_grade}
use Rattle.parts.specs.Lifting.{at, worst, best, value, Calm, Raised, slack}
use Rattle.parts.specs.Directions.{visit}
use Rattle.parts.specs.declared.directions.Direction.{Direction}
use Rattle.parts.specs.declared.directions.Direction.TheVariants.{Up, Down}
use Rattle.parts.proofs.Backing.{backed_more}
use Rattle.parts.proofs.Steps.{best_top}

-- a fact of each of the three choices is a fact of the choice by grade
pub by_grade_all : (P : ℕ → Type 0) (g x y z : ℕ) → P x → P y → P z → P (by_grade g x y z)
by_grade_all P zero x y z p q r = p
by_grade_all P (suc zero) x y z p q r = q
by_grade_all P (suc (suc g)) x y z p q r = r

-- and so for a relation of two choices by one grade
pub by_grade_both : (R : ℕ → ℕ → Type 0) (g x y z x' y' z' : ℕ) → R x x' → R y y' → R z z' → R (by_grade g x y z) (by_grade g x' y' z')
by_grade_both R zero x y z x' y' z' p q r = p
by_grade_both R (suc zero) x y z x' y' z' p q r = q
by_grade_both R (suc (suc g)) x y z x' y' z' p q r = r

module _ (m : Arena) (lawful : Lawful m) (top : ℕ) (U : ℕ → Bool) where
  -- states that have more make the others ask for no less
  worst_mono : (x y : ℕ → ℕ) → ((t : ℕ) → t < m.states → x t ≤ y t) → (s a b : ℕ) → s < m.states → a < m.commands s → b ≤ m.events s → worst m x s a b ≤ worst m y s a b
  worst_mono x y le s a zero s< a< b≤ = omega arith
  worst_mono x y le s a (suc b) s< a< b≤ =
      let t< = lawful.closed s a b s< a< (omega arith) in
      omega (arith, worst_mono x y le s a b s< a< (omega arith), le (m.next s a b) t<)

  best_mono : (x y : ℕ → ℕ) → ((t : ℕ) → t < m.states → x t ≤ y t) → (s a : ℕ) → s < m.states → a ≤ m.commands s → best m top x s a ≤ best m top y s a
  best_mono x y le s zero s< a≤ = omega arith
  best_mono x y le s (suc a) s< a≤ =
      omega (arith, best_mono x y le s a s< (omega arith), worst_mono x y le s a (m.events s) s< (omega arith) (omega arith))

  pub value_mono : (x y : ℕ → ℕ) → ((t : ℕ) → t < m.states → x t ≤ y t) → (s : ℕ) → s < m.states → value m top U x s ≤ value m top U y s
  value_mono x y le s s< =
      let b = best_mono x y le s (m.commands s) s< (omega arith) in
      by_grade_both (λ v w. v ≤ w) (m.grade s) _ _ _ _ _ _ (omega arith) (omega arith) b

  pub value_top : (x : ℕ → ℕ) (s : ℕ) → value m top U x s ≤ top
  value_top x s =
      by_grade_all (λ v. v ≤ top) (m.grade s) _ _ _
      (cond_both (holds m U s) 0 top (λ v. v ≤ top) (λ _. omega arith) (λ _. omega arith))
      (omega arith)
      (best_top m top x s (m.commands s))

  -- one after another
  pub raised_then : (xs ys zs : List ℕ) → Raised m top U xs ys → Raised m top U ys zs → Raised m top U xs zs
  raised_then xs ys zs p q =
      record {
        rises = λ s. omega (arith, p.rises s, q.rises s);
        capped = q.capped;
        under = λ h calm le. q.under h calm (p.under h calm le);
        backed = λ b. q.backed (p.backed b);
      }

  -- one state raised to what it asks for
  pub raised_more : (before xs : List ℕ) (s v : ℕ) → Raised m top U before xs → s < m.states → s < length xs → v ≡ value m top U (at xs) s → at xs s < v → Raised m top U before (set xs s v)
  raised_more before xs s v r s< in< e lt =
      record {
        rises = λ k. elim (cases_eq k s) [
          | inl k≡s ↦ rw (k≡s, get_or-set_same xs s v 0 in<) (omega (arith, r.rises s))
          | inr ne ↦ rw (get_or-set_other xs s k v 0 ne) (r.rises k)
        ];
        capped = λ k. elim (cases_eq k s) [
          | inl k≡s ↦ rw (k≡s, get_or-set_same xs s v 0 in<, e) (value_top (at xs) s)
          | inr ne ↦ rw (get_or-set_other xs s k v 0 ne) (r.capped k)
        ];
        under = λ h calm le k k<. elim (cases_eq k s) [
          | inl k≡s ↦ rw (k≡s, get_or-set_same xs s v 0 in<, e) (omega (arith, value_mono (at xs) h (r.under h calm le) s s<, calm s s<))
          | inr ne ↦ rw (get_or-set_other xs s k v 0 ne) (r.under h calm le k k<)
        ];
        backed = λ b. backed_more m lawful top U xs s v in< e lt (r.backed b);
      }

-- raising a state leaves less room
pub slack_less : (top : ℕ) (xs : List ℕ) (s v : ℕ) → s < length xs → at xs s < v → v ≤ top → slack top (set xs s v) < slack top xs
slack_less top [] s v in< lt le = absurd (omega arith)
slack_less top (x ∷ xs) zero v in< lt le = omega arith
slack_less top (x ∷ xs) (suc s) v in< lt le = omega (arith, slack_less top xs s v (omega arith) lt le)

-- a sweep visits every state
pub visit_below : (way : Direction) (n k : ℕ) → k < n → visit way n k < n
visit_below Up n k lt = lt
visit_below Down n k lt = omega arith

pub visit_back : (way : Direction) (n k : ℕ) → k < n → visit way n (visit way n k) ≡ k
visit_back Up n k lt = refl
visit_back Down n k lt = omega arith

-- a sweep so far: the row is raised; if a state rose there is less room, and else the states visited ask for nothing
abbrev pub Swept : Arena → Direction → ℕ → (ℕ → Bool) → List ℕ → List ℕ → Bool → ℕ → Type 0
Swept m way top U before xs rose k =
    Raised m top U before xs
    × (rose ≡ true → slack top xs < slack top before)
    × (rose ≡ false → (j : ℕ) → j < k → value m top U (at xs) (visit way m.states j) ≤ at xs (visit way m.states j))
    × (slack top xs ≤ slack top before)

module _ (m : Arena) (lawful : Lawful m) (way : Direction) (top : ℕ) (U : ℕ → Bool) (before xs : List ℕ) (rose : Bool) (k s : ℕ) (inv : Swept m way top U before xs rose k) (here : s ≡ visit way m.states k) (k< : k < m.states) (long : length xs ≡ m.states) where
  s< : s < m.states
  s< = omega (arith, here, visit_below way m.states k k<)

  pub swept_raised : ltb (at xs s) (value m top U (at xs) s) ≡ true → Swept m way top U before (set xs s (value m top U (at xs) s)) true (k + 1)
  swept_raised t =
      let lt : at xs s < value m top U (at xs) s = ltb-true (at xs s) (value m top U (at xs) s) t in
      let in< : s < length xs = omega (arith, s<) in
      let less = slack_less top xs s (value m top U (at xs) s) in< lt (value_top m lawful top U (at xs) s) in
      (raised_more m lawful top U before xs s (value m top U (at xs) s) inv.0 s< in< refl lt, λ _. omega (arith, inv.3), λ f. absurd (true≢false f), omega (arith, inv.3))

  pub swept_kept : ltb (at xs s) (value m top U (at xs) s) ≡ false → Swept m way top U before xs rose (k + 1)
  swept_kept f =
      let le : value m top U (at xs) s ≤ at xs s = ltb-false (at xs s) (value m top U (at xs) s) f in
      (inv.0, inv.1, λ g. below_more _ k (inv.2 g) (subst (λ t. value m top U (at xs) t ≤ at xs t) here le), inv.3)

-- a sweep in which nothing rose leaves a calm row
pub swept_calm : (m : Arena) (way : Direction) (top : ℕ) (U : ℕ → Bool) (before xs : List ℕ) (rose : Bool) (k : ℕ) → Swept m way top U before xs rose k → m.states ≤ k → rose ≡ false → Calm m top U (at xs)
swept_calm m way top U before xs rose k inv end f s s< =
    subst (λ t. value m top U (at xs) t ≤ at xs t) (visit_back way m.states s s<) (inv.2 f (visit way m.states s) (omega (arith, visit_below way m.states s s<)))
