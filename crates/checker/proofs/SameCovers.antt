-- Two accepted pairs cover the same states: where one covers a state that the other leaves open, playing the
-- one's command against the other's reply would lower their numbers for ever.
use Rattle.std.proofs.Common.{◌≡◌, ℕ, zero, suc, ◌+◌, ◌<◌, ◌≤◌, true, false, ◌⊎◌, List, sym, refl, ◌∙◌, inl, inr, arith}
use Rattle.std.proofs.lemmas.Bool.{cases_Bool, cases_lt}
use Rattle.site.specs.Arena.{Arena, Lawful, graded}
use Rattle.checker.specs.declared.leaves.Leaf.{Leaf}
use Rattle.checker.specs.Leaves.{leaf_at, reply_at, is_covered}
use Rattle.checker.specs.Witness.{RankKept, NumbersKept, Accepted}
use Rattle.checker.specs.RunLaws.{SameCover}
use Rattle.checker.proofs.Parts.{rank_of, first_of, second_of, covered_at, open_at, covered_step, open_step}

module _
    (m : Arena)
    (lawful : Lawful m)
    (book : List Leaf)
    (replies : List ℕ)
    (accepted : Accepted m book replies)
    (leaves : List Leaf)
    (objection : List ℕ)
    (accepted' : Accepted m leaves objection)
  where
    abbrev rank : ℕ → ℕ
    rank s = rank_of (leaf_at book s)

    abbrev first : ℕ → ℕ
    first s = first_of (leaf_at leaves s)

    abbrev second : ℕ → ℕ
    second s = second_of (leaf_at leaves s)

    -- a state that the book covers and the objection leaves open
    abbrev Torn : ℕ → Type 0
    Torn s = (s < m.states) × (is_covered (leaf_at book s) ≡ true) × (is_covered (leaf_at leaves s) ≡ false)

    -- the three numbers of t lie below those of s: the first number, then the rank, then the second number
    abbrev Lower : ℕ → ℕ → Type 0
    Lower t s =
        (first t < first s) ⊎ (((first t ≤ first s) × (rank t < rank s)) ⊎ ((first t ≤ first s) × (rank t ≤ rank s) × (second t < second s)))

    bounds : (s : ℕ) → Torn s → (rank s ≤ graded m 1) × (second s ≤ graded m 2)
    bounds s h =
        let c = covered_at m book replies accepted s h.0 h.1 in
        let o = open_at m leaves objection accepted' s h.0 h.2 in
        (rw c.is c.keeps.bounded, rw o.is o.keeps.bounded_second)

    ways : (g r r' u w u' w' : ℕ) → g ≤ 2 → RankKept g r r' → NumbersKept g u w u' w' → (u' < u) ⊎ (((u' ≤ u) × (r' < r)) ⊎ ((u' ≤ u) × (r' ≤ r) × (w' < w)))
    ways zero r r' u w u' w' l p q = inl (q.0 refl)
    ways (suc zero) r r' u w u' w' l p q = inr (inl (q.1 refl, p.0 refl))
    ways (suc (suc zero)) r r' u w u' w' l p q =
        let h = q.2 refl in
        elim (cases_lt u' u) [ inl less ↦ inl less | inr not_less ↦ inr (inr (h.0, p.1 refl, h.1 (omega arith))) ]
    ways (suc (suc (suc g))) r r' u w u' w' l p q = absurd (omega arith)

    -- the joint play leads from such a state to a lower one
    onward : (s : ℕ) → Torn s → (t : ℕ) × Torn t × Lower t s
    onward s h =
        let c = covered_at m book replies accepted s h.0 h.1 in
        let o = open_at m leaves objection accepted' s h.0 h.2 in
        let a = c.command in
        let b = reply_at objection s a in
        let own = o.keeps.own a c.keeps.own in
        let there = covered_step m book replies accepted s b c own in
        let here = open_step m leaves objection accepted' s a o c.keeps.own in
        let to = lawful.closed s a b h.0 c.keeps.own own in
        (m.next s a b, (to, there.0, here.0), ways (m.grade s) _ _ _ _ _ _ (lawful.few_grades s) there.1 here.1)

    -- so there is none, whatever the three numbers are
    none_torn : (u r w s : ℕ) → Torn s → first s < u → rank s < r → second s < w → ⊥
    none_torn zero r w s h x y z = omega arith
    none_torn (suc u) zero w s h x y z = omega arith
    none_torn (suc u) (suc r) zero s h x y z = omega arith
    none_torn (suc u) (suc r) (suc w) s h x y z =
        let on = onward s h in
        let t = on.0 in
        let low = bounds t on.1 in
        elim on.2 [
          | inl l ↦ none_torn u (graded m 1 + 1) (graded m 2 + 1) t on.1 (omega arith) (omega arith) (omega arith)
          | inr (inl l) ↦ none_torn (suc u) r (graded m 2 + 1) t on.1 (omega arith) (omega arith) (omega arith)
          | inr (inr l) ↦ none_torn (suc u) (suc r) w t on.1 (omega arith) (omega arith) (omega arith)
        ]

    torn_no : (s : ℕ) → Torn s → ⊥
    torn_no s h = none_torn (first s + 1) (rank s + 1) (second s + 1) s h (omega arith) (omega arith) (omega arith)

pub same_cover : (m : Arena) → Lawful m → SameCover m
same_cover m lawful leaves replies leaves' replies' one other s l =
    elim (cases_Bool (is_covered (leaf_at leaves s))) [
      | inl yes_one ↦
          elim (cases_Bool (is_covered (leaf_at leaves' s))) [
            | inl yes_other ↦ yes_one ∙ sym yes_other
            | inr no_other ↦ absurd (torn_no m lawful leaves replies one leaves' replies' other s (l, yes_one, no_other))
          ]
      | inr no_one ↦
          elim (cases_Bool (is_covered (leaf_at leaves' s))) [
            | inl yes_other ↦ absurd (torn_no m lawful leaves' replies' other leaves replies one s (l, yes_other, no_one))
            | inr no_other ↦ no_one ∙ sym no_other
          ]
    ]
