-- Laws of answers: what an answer that is no refusal tells of its steps.
use Rattle.std.proofs.Common.{◌≡◌, ℕ, zero, suc, ◌+◌, ◌<◌, ◌≤◌, Bool, true, false, Ok, Err, Result, sym, refl, ap, ◌∙◌, inl, inr, add-one, arith}
use Rattle.std.proofs.lemmas.Bool.{cases_eq}
use Rattle.site.specs.Refusals.{Refusal, unless, and_then}
use Rattle.records.specs.Repeated.{repeated}

module _ {T : Type 0} where
  -- a refusal is no answer
  pub never : {A : Type 0} {x : T} {r : Refusal} → ◌≡◌ {A = Result T Refusal} (Err r) (Ok x) → A
  never e = let z : ◌≡◌ {A = ℕ} 0 1 = cc in absurd (omega arith)

  pub ok_same : {E : Type 0} {x y : T} → ◌≡◌ {A = Result T E} (Ok x) (Ok y) → x ≡ y
  ok_same e = cc

  pub unless_ok : (b : Bool) (n p : ℕ) (rest : Result T Refusal) (x : T) → unless b n p rest ≡ Ok x → (b ≡ false) × (rest ≡ Ok x)
  unless_ok true n p rest x e = let z : ◌≡◌ {A = ℕ} 0 1 = cc in absurd (omega arith)
  unless_ok false n p rest x e = (refl, e)

  pub and_then_ok : {U : Type 0} (r : Result T Refusal) (f : T → Result U Refusal) (y : U) → and_then r f ≡ Ok y → (x : T) × (r ≡ Ok x) × (f x ≡ Ok y)
  and_then_ok (Ok x) f y e = (x, refl, e)
  and_then_ok (Err r) f y e = let z : ◌≡◌ {A = ℕ} 0 1 = cc in absurd (omega arith)

  -- one step after an accepted one
  pub after_ok : {U : Type 0} (r : Result T Refusal) (x : T) (f : T → Result U Refusal) → r ≡ Ok x → and_then r f ≡ f x
  after_ok r x f e = ap (λ q. and_then q f) e

  pub after_err : {U : Type 0} (r : Result T Refusal) (x : Refusal) (f : T → Result U Refusal) → r ≡ Err x → and_then r f ≡ Err x
  after_err r x f e = ap (λ q. and_then q f) e

  module _ (step : T → Result T Refusal) where
    -- one step more
    pub repeated_more : (k : ℕ) (x y : T) → repeated step k x ≡ Ok y → repeated step (k + 1) x ≡ step y
    repeated_more k x y e = rw add-one (after_ok (repeated step k x) y step e)

    -- a refusal stays the answer
    pub repeated_stays : (k m : ℕ) (x : T) (no_way : Refusal) → repeated step k x ≡ Err no_way → k ≤ m → repeated step m x ≡ Err no_way
    repeated_stays k zero x r e le = let z : k ≡ 0 = omega arith in ap (λ j. repeated step j x) (sym z) ∙ e
    repeated_stays k (suc m) x r e le =
        elim (cases_eq k (suc m)) [
          | inl z ↦ ap (λ j. repeated step j x) (sym z) ∙ e
          | inr ne ↦ after_err (repeated step m x) r step (repeated_stays k m x r e (omega arith))
        ]

    -- the first step that is refused
    pub repeated_stops : (k m : ℕ) (x y : T) (r : Refusal) → repeated step k x ≡ Ok y → step y ≡ Err r → k < m → repeated step m x ≡ Err r
    repeated_stops k m x y r e bad lt = repeated_stays (k + 1) m x r (repeated_more k x y e ∙ bad) (omega arith)

    -- what each step keeps
    pub repeated_keeps : (P : ℕ → T → Type 0) → ((k : ℕ) (x y : T) → P k x → step x ≡ Ok y → P (suc k) y) → (k : ℕ) (x y : T) → P 0 x → repeated step k x ≡ Ok y → P k y
    repeated_keeps P keeps zero x y h e = let same : x ≡ y = cc in rw (← same) h
    repeated_keeps P keeps (suc k) x y h e =
        let p = and_then_ok (repeated step k x) step y e in
        keeps k p.0 y (repeated_keeps P keeps k x p.0 h p.1) p.2
