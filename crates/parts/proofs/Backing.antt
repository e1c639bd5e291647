-- Rows that are backed stay so when a state is raised to what it asks for; and what a gap in one means.
use Rattle.std.proofs.Common.{◌≡◌, ℕ, zero, suc, ◌+◌, ◌<◌, ◌≤◌, min, Bool, true, cond, List, length, set, refl, subst, inl, inr, arith}
use Rattle.std.proofs.lemmas.List.{get_or-set_same, get_or-set_other}
use Rattle.std.proofs.lemmas.Bool.{cases_eq, cases_lt, cases_Bool, cond-true, cond-false, cond_both}
use Rattle.site.specs.Arena.{Arena, Lawful}
use Rattle.parts.specs.Moves.{holds, by_grade}
use Rattle.parts.specs.Lifting.{at, worst, best, value, Calm, Backed}
use Rattle.parts.proofs.Forces.{holds_mono}

module _ (m : Arena) (lawful : Lawful m) (top : ℕ) where
  -- where h has at least μ wherever x has at least v, so do the numbers that the controller can keep to
  module _ (x h : ℕ → ℕ) (v μ : ℕ) (low : (t : ℕ) → t < m.states → v ≤ x t → μ ≤ h t) (s : ℕ) (s< : s < m.states) where
    worst_back : (a e : ℕ) → a < m.commands s → suc e ≤ m.events s → v ≤ worst m x s a (suc e) → μ ≤ worst m h s a (suc e)
    worst_back a zero a< e≤ le = omega (arith, low (m.next s a 0) (lawful.closed s a 0 s< a< (omega arith)) (omega arith))
    worst_back a (suc e) a< e≤ le =
        elim (cases_lt (x (m.next s a (suc e))) v) [
          | inl lt ↦ omega (arith, worst_back a e a< (omega arith) (omega (arith, lt, le)))
          | inr ge ↦ omega (arith, low (m.next s a (suc e)) (lawful.closed s a (suc e) s< a< (omega arith)) ge)
        ]

    worst_all : (a e : ℕ) → a < m.commands s → e ≡ m.events s → v ≤ worst m x s a e → μ ≤ worst m h s a e
    worst_all a zero a< e≡ le = absurd (omega (arith, lawful.some_event s s<))
    worst_all a (suc e) a< e≡ le = worst_back a e a< (omega arith) le

    best_back : (c : ℕ) → c ≤ m.commands s → μ ≤ top → v ≤ best m top x s c → μ ≤ best m top h s c
    best_back zero c≤ μ≤ le = μ≤
    best_back (suc c) c≤ μ≤ le =
        omega (arith, best_back c (omega arith) μ≤ (omega arith), worst_all c (m.events s) (omega arith) refl (omega arith))

  module _ (U : ℕ → Bool) where
    -- a state that asks for more than v by x asks for more than μ by h
    value_step : (x h : ℕ → ℕ) (v μ : ℕ) → μ < top → ((t : ℕ) → t < m.states → v ≤ x t → μ ≤ h t) → ((t : ℕ) → t < m.states → v < x t → μ < h t) → (s g : ℕ) → s < m.states → v < by_grade g (cond (holds m U s) 0 top) (min top (best m top x s (m.commands s) + 1)) (best m top x s (m.commands s)) → μ < by_grade g (cond (holds m U s) 0 top) (min top (best m top h s (m.commands s) + 1)) (best m top h s (m.commands s))
    value_step x h v μ μ< low more s zero s< lt =
        elim (cases_Bool (holds m U s)) [
          | inl t ↦ absurd (omega (arith, rw (cond-true (holds m U s) 0 top t) at lt))
          | inr f ↦ rw (cond-false (holds m U s) 0 top f) μ<
        ]
    value_step x h v μ μ< low more s (suc zero) s< lt =
        omega (arith, best_back x h v μ low s s< (m.commands s) (omega arith) (omega arith) (omega arith))
    value_step x h v μ μ< low more s (suc (suc g)) s< lt =
        best_back x h (suc v) (suc μ) more s s< (m.commands s) (omega arith) μ< lt

    -- one state raised to what it asks for
    pub backed_more : (xs : List ℕ) (s v : ℕ) → s < length xs → v ≡ value m top U (at xs) s → at xs s < v → Backed m top U (at xs) → Backed m top U (at (set xs s v))
    backed_more xs s v in< e lt back h calm w μ μ< given k k< more =
        let rises : (t : ℕ) → at xs t ≤ at (set xs s v) t = λ t. elim (cases_eq t s) [
          | inl t≡s ↦ rw (t≡s, get_or-set_same xs s v 0 in<) (omega arith)
          | inr ne ↦ rw (get_or-set_other xs s t v 0 ne) (omega arith)
        ] in
        let low : (t : ℕ) → t < m.states → w ≤ at xs t → μ ≤ h t = λ t t< le. given t t< (omega (arith, rises t)) in
        let up : (t : ℕ) → t < m.states → w < at xs t → μ < h t = back h calm w μ μ< low in
        elim (cases_eq k s) [
          | inl k≡s ↦
              let s< : s < m.states = subst (λ j. j < m.states) k≡s k< in
              let asks : w < value m top U (at xs) s = rw (k≡s, get_or-set_same xs s v 0 in<, e) at more in
              rw k≡s (omega (arith, value_step (at xs) h w μ μ< low up s (m.grade s) s< asks, calm s s<))
          | inr ne ↦ up k k< (rw (get_or-set_other xs s k v 0 ne) at more)
        ]

    -- at a gap of a backed row every calm row is at the top
    pub climbs : (x : ℕ → ℕ) → Backed m top U x → (gap : ℕ) → ((s : ℕ) → s < m.states → x s ≡ gap → ⊥) → (h : ℕ → ℕ) → Calm m top U h → (μ : ℕ) → μ ≤ top → (s : ℕ) → s < m.states → gap ≤ x s → μ ≤ h s
    climbs x back gap unused h calm zero μ≤ s s< le = omega arith
    climbs x back gap unused h calm (suc μ) μ≤ s s< le =
        back h calm gap μ μ≤ (climbs x back gap unused h calm μ (omega arith)) s s< (elim (cases_eq (x s) gap) [
          | inl e ↦ absurd (unused s s< e)
          | inr ne ↦ omega (arith, ne, le)
        ])

  -- a row that is backed in a region is backed in a smaller one, where the states ask for more
  module _ (U V : ℕ → Bool) (within : (t : ℕ) → V t ≡ true → U t ≡ true) where
    ask_more : (h : ℕ → ℕ) (s g : ℕ) → by_grade g (cond (holds m U s) 0 top) (min top (best m top h s (m.commands s) + 1)) (best m top h s (m.commands s)) ≤ by_grade g (cond (holds m V s) 0 top) (min top (best m top h s (m.commands s) + 1)) (best m top h s (m.commands s))
    ask_more h s zero =
        elim (cases_Bool (holds m V s)) [
          | inl t ↦ rw (cond-true (holds m U s) 0 top (holds_mono m V U s within t)) (omega arith)
          | inr f ↦ rw (cond-false (holds m V s) 0 top f) (cond_both (holds m U s) 0 top (λ v. v ≤ top) (λ _. omega arith) (λ _. omega arith))
        ]
    ask_more h s (suc zero) = omega arith
    ask_more h s (suc (suc g)) = omega arith

    pub backed_less : (x : ℕ → ℕ) → Backed m top U x → Backed m top V x
    backed_less x back h calm = back h (λ s s<. omega (arith, ask_more h s (m.grade s), calm s s<))
