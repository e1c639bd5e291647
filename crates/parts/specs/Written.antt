-- What a row holds after a pass that writes some of its states.
use Rattle.std.specs.Prelude.{◌≡◌, ℕ, Bool, false, cond, ◌&&◌, List, ◌==◌, nat_le, nat_lt}
use Rattle.site.specs.Arena.{Arena}
use Rattle.parts.specs.Moves.{blocks, by_grade}
use Rattle.parts.specs.Lifting.{at, unnumbered}

-- below k every state that passes p has the number v gives it, and every other state has the number it had
abbrev pub Written : (ℕ → Bool) → (ℕ → ℕ) → List ℕ → ℕ → List ℕ → Type 0
Written p v before k after = (s : ℕ) → at after s ≡ cond (nat_lt s k && p s) (v s) (at before s)

-- a state without a first number whose rank is `top`
abbrev pub lost : ℕ → List ℕ → List ℕ → ℕ → Bool
lost top ranks firsts s = unnumbered firsts s && at ranks s == top

-- a confirmed or doubted state with a first number up to i
abbrev pub ready : Arena → ℕ → List ℕ → ℕ → Bool
ready m i firsts s = by_grade (m.grade s) (nat_le (at firsts s) i) (nat_le (at firsts s) i) false

-- a state with first number i that has no label
abbrev pub waiting : ℕ → List ℕ → List ℕ → ℕ → Bool
waiting i firsts labels s = at firsts s == i && unnumbered labels s

-- a state without a label, with a first number up to i, all of whose commands can be answered into labels below j
abbrev pub due : Arena → ℕ → ℕ → List ℕ → List ℕ → ℕ → Bool
due m i j firsts labels s =
    nat_le (at firsts s) i && (unnumbered labels s && blocks m (λ t. nat_lt (at labels t) j) s)
