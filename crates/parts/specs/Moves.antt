-- What one round can force: the controller commits to a command, the floor answers with an event.
use Rattle.std.specs.Prelude.{ℕ, zero, suc, Bool}
use Rattle.site.specs.Arena.{Arena}
use Rattle.site.specs.Counting.{every, some}

-- state s has a command whose every event leads into U
abbrev pub holds : Arena → (ℕ → Bool) → ℕ → Bool
holds m U s = some (λ a. every (λ b. U (m.next s a b)) (m.events s)) (m.commands s)

-- for every command of state s some event leads into U
abbrev pub blocks : Arena → (ℕ → Bool) → ℕ → Bool
blocks m U s = every (λ a. some (λ b. U (m.next s a b)) (m.events s)) (m.commands s)

-- by a state's grade: the first for a confirmed state, the second for a doubted one, the third for an ordinary one
abbrev pub by_grade : {A : Type 0} → ℕ → A → A → A → A
by_grade zero x y z = x
by_grade (suc zero) x y z = y
by_grade (suc (suc g)) x y z = z
