-- Bounds of what a lawful site answers.
use Rattle.std.proofs.Common.{ℕ, ◌≤◌, inl, inr, arith}
use Rattle.std.proofs.lemmas.Bool.{cases_lt}
use Rattle.site.specs.Arena.{Arena, Lawful}

-- every answer to `next` is small
pub next_low : (m : Arena) → Lawful m → (s a b : ℕ) → m.next s a b ≤ 8192
next_low m law s a b =
    elim (cases_lt a (m.commands s)) [
      | inr none ↦ omega (arith, law.no_command s a b none)
      | inl a< ↦ elim (cases_lt b (m.events s)) [
        | inr none ↦ omega (arith, law.no_event s a b none)
        | inl b< ↦ elim (cases_lt s m.states) [
          | inl s< ↦ omega (arith, law.limited, law.closed s a b s< a< b<)
          | inr past ↦ absurd (omega (arith, law.no_commands s past))
        ]
      ]
    ]
