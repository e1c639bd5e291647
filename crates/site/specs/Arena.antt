-- What a site means: a finite game in which controller and floor move in the same moment.
use Rattle.std.specs.Prelude.{◌≡◌, ℕ, ◌<◌, ◌≤◌, nat_eq}
use Rattle.site.specs.Counting.{count}

-- A game of `states` states, counted from 0. In state s the controller picks one of `commands s` commands
-- and, in the same moment, the floor one of `events s` events; command a and event b lead to `next s a b`.
-- The grade of a state is 0 where it is confirmed, 1 where it is doubted and 2 where it is ordinary.
pub record Arena : Type 0 where
  pub states : ℕ
  pub grade : ℕ → ℕ
  pub commands : ℕ → ℕ
  pub events : ℕ → ℕ
  pub next : ℕ → ℕ → ℕ → ℕ

-- The ranges that every site keeps: 1 to 8,192 states, grades up to 2, 1 to 16 commands and events,
-- arrows to states of the site; and every question about a number out of range is answered by 0.
pub record Lawful (m : Arena) : Type 0 where
  pub inhabited : 1 ≤ m.states
  pub limited : m.states ≤ 8192
  pub few_grades : (s : ℕ) → m.grade s ≤ 2
  pub some_command : (s : ℕ) → s < m.states → 1 ≤ m.commands s
  pub few_commands : (s : ℕ) → m.commands s ≤ 16
  pub some_event : (s : ℕ) → s < m.states → 1 ≤ m.events s
  pub few_events : (s : ℕ) → m.events s ≤ 16
  pub closed : (s a b : ℕ) → s < m.states → a < m.commands s → b < m.events s → m.next s a b < m.states
  pub no_grade : (s : ℕ) → m.states ≤ s → m.grade s ≡ 0
  pub no_commands : (s : ℕ) → m.states ≤ s → m.commands s ≡ 0
  pub no_events : (s : ℕ) → m.states ≤ s → m.events s ≡ 0
  pub no_command : (s a b : ℕ) → m.commands s ≤ a → m.next s a b ≡ 0
  pub no_event : (s a b : ℕ) → m.events s ≤ b → m.next s a b ≡ 0

-- how many states have the grade g: the numbers N0, N1 and N2 that bound a plan's numbers
abbrev pub graded : Arena → ℕ → ℕ
graded m g = count (λ s. nat_eq (m.grade s) g) m.states
