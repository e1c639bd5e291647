-- Lifting: rows of numbers, one for each state, raised until no state asks for more.
use Rattle.std.specs.Prelude.{ℕ, zero, suc, ◌+◌, ◌-◌, ◌<◌, ◌≤◌, min, max, Bool, cond, List, [], ◌∷◌, ◌==◌, slice_index}
use Rattle.site.specs.Arena.{Arena}
use Rattle.parts.specs.Moves.{holds, by_grade}

-- the number of state s in a row
abbrev pub at : List ℕ → ℕ → ℕ
at xs s = slice_index xs s

-- the mark in a row of a state that has no number
abbrev pub none : ℕ
none = 65535

-- state s has no number in the row
abbrev pub unnumbered : List ℕ → ℕ → Bool
unnumbered xs s = at xs s == none

-- the greatest number to which command a leads from s under the events below a bound
abbrev pub worst : Arena → (ℕ → ℕ) → ℕ → ℕ → ℕ → ℕ
worst m x s a zero = 0
worst m x s a (suc b) = max (worst m x s a b) (x (m.next s a b))

-- the least such number over the commands below a bound, and at most `top`
abbrev pub best : Arena → ℕ → (ℕ → ℕ) → ℕ → ℕ → ℕ
best m top x s zero = top
best m top x s (suc a) = min (best m top x s a) (worst m x s a (m.events s))

-- the number that state s asks for, given those of the others: a confirmed state asks for nothing where it can
-- stay in U and for `top` elsewhere, a doubted one for one more than it can keep to, an ordinary one for just that
abbrev pub value : Arena → ℕ → (ℕ → Bool) → (ℕ → ℕ) → ℕ → ℕ
value m top U x s =
    by_grade (m.grade s)
    (cond (holds m U s) 0 top)
    (min top (best m top x s (m.commands s) + 1))
    (best m top x s (m.commands s))

-- no state asks for more than it has
abbrev pub Calm : Arena → ℕ → (ℕ → Bool) → (ℕ → ℕ) → Type 0
Calm m top U x = (s : ℕ) → s < m.states → value m top U x s ≤ x s

-- A row is backed: no state has its number without cause. Whatever row is calm, if it has at least μ wherever this one
-- has v or more, it has more than μ wherever this one has more than v.
abbrev pub Backed : Arena → ℕ → (ℕ → Bool) → (ℕ → ℕ) → Type 0
Backed m top U x =
    (h : ℕ → ℕ) → Calm m top U h → (v μ : ℕ) → μ < top → ((t : ℕ) → t < m.states → v ≤ x t → μ ≤ h t) → (s : ℕ) → s < m.states → v < x s → μ < h s

-- a row was raised, by no more than asked for: it stays below every calm row that it began below, and backed
pub record Raised (m : Arena) (top : ℕ) (U : ℕ → Bool) (before after : List ℕ) : Type 0 where
  pub rises : (s : ℕ) → at before s ≤ at after s
  pub capped : (s : ℕ) → at after s ≤ top
  pub under : (h : ℕ → ℕ) → Calm m top U h → ((s : ℕ) → s < m.states → at before s ≤ h s) → (s : ℕ) → s < m.states → at after s ≤ h s
  pub backed : Backed m top U (at before) → Backed m top U (at after)

-- how far a row can still rise
abbrev pub slack : ℕ → List ℕ → ℕ
slack top [] = 0
slack top (x ∷ xs) = (top - x) + slack top xs
