-- Marks of the numbers in use, and cuts at gaps.
use Rattle.std.proofs.Common.{◌≡◌, ℕ, suc, ◌<◌, ◌≤◌, Bool, true, cond, eqb, ltb, List, [], ◌∷◌, length, ◌∙◌, inl, inr, arith}
use Rattle.std.proofs.lemmas.Bool.{cases_lt, and_parts, eq-eqb, eqb-true, lt-ltb, le-ltb, ltb-true, cond-true, cond-false}
use Rattle.site.specs.Arena.{Arena, Lawful}
use Rattle.site.specs.Counting.{some}
use Rattle.parts.specs.Gaps.{unmarked, Cut}
use Rattle.parts.specs.Lifting.{at, Calm, Backed, Raised, slack}
use Rattle.parts.specs.Regions.{lowest}
use Rattle.parts.proofs.Backing.{climbs}
use Rattle.parts.proofs.Lowest.{lowest_passes}
use Rattle.parts.proofs.Steps.{some_at}

-- the marks of the numbers that the first k states have
abbrev pub Marked : List ℕ → ℕ → List ℕ → Type 0
Marked xs k marks = (v : ℕ) → v < length marks → at marks v ≡ cond (some (λ s. eqb (at xs s) v) k) 1 0

-- a row that was raised above the lowest unmarked number is cut
pub cut_at : (top : ℕ) (before after marks : List ℕ) → Marked before (length before) marks → ((s : ℕ) → at after s ≡ cond (ltb (lowest (unmarked marks) top) (at before s)) top (at before s)) → Cut top before after
cut_at top before after marks marked raised =
    record {
      gap = lowest (unmarked marks) top;
      unused = λ lt s s< e.
          let gap = lowest (unmarked marks) top in
          let both = and_parts (ltb gap (length marks)) (eqb (at marks gap) 0) (lowest_passes (unmarked marks) top lt) in
          let used : some (λ s. eqb (at before s) gap) (length before) ≡ true = some_at (λ s. eqb (at before s) gap) (length before) s (eq-eqb (at before s) gap e) s< in
          let one : at marks gap ≡ 1 = marked gap (ltb-true gap (length marks) both.0) ∙ cond-true _ 1 0 used in
          omega (arith, one, eqb-true (at marks gap) 0 both.1);
      cut = raised;
    }

module _ (m : Arena) (lawful : Lawful m) (top : ℕ) (U : ℕ → Bool) (before after : List ℕ) (long : length before ≡ m.states) (capped : (s : ℕ) → at before s ≤ top) (back : Backed m top U (at before)) (c : Cut top before after) where
  -- the states above the gap are at the top in every calm row
  above_gap : (s : ℕ) → s < m.states → c.gap < at before s → (h : ℕ → ℕ) → Calm m top U h → top ≤ h s
  above_gap s s< lt h calm =
      let gap< : c.gap < top = omega (arith, lt, capped s) in
      climbs m lawful top U (at before) back c.gap (λ t t< e. c.unused gap< t (omega arith) e) h calm top (omega arith) s s< (omega arith)

  -- what the cut makes of a state
  above : (s : ℕ) → c.gap < at before s → at after s ≡ top
  above s lt = c.cut s ∙ cond-true (ltb c.gap (at before s)) top (at before s) (lt-ltb c.gap (at before s) lt)

  below : (s : ℕ) → at before s ≤ c.gap → at after s ≡ at before s
  below s le = c.cut s ∙ cond-false (ltb c.gap (at before s)) top (at before s) (le-ltb c.gap (at before s) le)

  cut_rises : (s : ℕ) → at before s ≤ at after s
  cut_rises s =
      elim (cases_lt c.gap (at before s)) [
        | inl lt ↦ omega (arith, above s lt, capped s)
        | inr le ↦ omega (arith, below s le)
      ]

  -- a backed row may be cut at a gap
  pub cut_raised : Raised m top U before after
  cut_raised =
      record {
        rises = cut_rises;
        capped = λ s. elim (cases_lt c.gap (at before s)) [
          | inl lt ↦ omega (arith, above s lt)
          | inr le ↦ omega (arith, below s le, capped s)
        ];
        under = λ h calm low s s<. elim (cases_lt c.gap (at before s)) [
          | inl lt ↦ omega (arith, above s lt, above_gap s s< lt h calm)
          | inr le ↦ omega (arith, below s le, low s s<)
        ];
        backed = λ _ h calm v μ μ< given s s< more. elim (cases_lt c.gap (at before s)) [
          | inl lt ↦ omega (arith, above_gap s s< lt h calm)
          | inr le ↦ back h calm v μ μ< (λ t t< v≤. given t t< (omega (arith, cut_rises t))) s s< (omega (arith, below s le))
        ];
      }

-- a row that rose leaves no more room
pub slack_mono : (top : ℕ) (xs ys : List ℕ) → length xs ≡ length ys → ((s : ℕ) → at xs s ≤ at ys s) → slack top ys ≤ slack top xs
slack_mono top [] [] e h = omega arith
slack_mono top [] (y ∷ ys) e h = absurd (omega arith)
slack_mono top (x ∷ xs) [] e h = absurd (omega arith)
slack_mono top (x ∷ xs) (y ∷ ys) e h = omega (arith, slack_mono top xs ys (omega arith) (λ s. h (suc s)), h 0)
