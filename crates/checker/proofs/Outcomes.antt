-- The outcome of a leaf's test from those of its arrows.
use Rattle.std.proofs.Common.{◌≡◌, ℕ, ◌<◌, ◌≤◌, List, Err, sym, refl, ◌∙◌}
use Rattle.std.proofs.lemmas.Bool.{lt-leb, le-leb, le-ltb}
use Rattle.site.specs.Arena.{Arena, graded}
use Rattle.site.specs.Refusals.{Refusal, refuse}
use Rattle.checker.specs.declared.leaves.Leaf.{Leaf}
use Rattle.checker.specs.Leaves.{reply_at}
use Rattle.checker.specs.Checked.{passed, in_turn, event_tested, reply_tested, command_tested, covered_tested, open_tested}
use Rattle.checker.proofs.Turns.{turn_refused}

module _ (m : Arena) (leaves : List Leaf) (s a r : ℕ) where
  -- a command of the state and a rank within its bound leave the events to test
  covered_rest : a < m.commands s → r ≤ graded m 1 → covered_tested m leaves s a r ≡ in_turn (event_tested m leaves s a r) (m.events s)
  covered_rest own bound = rw (lt-leb _ _ own, le-ltb _ _ bound) refl

  -- refused at event b
  pub covered_refused : a < m.commands s → r ≤ graded m 1 → (b : ℕ) (e : Refusal) → b < m.events s → in_turn (event_tested m leaves s a r) b ≡ passed → event_tested m leaves s a r b ≡ Err e → Err e ≡ covered_tested m leaves s a r
  covered_refused own bound b e l before here =
      sym (covered_rest own bound ∙ turn_refused (event_tested m leaves s a r) (m.events s) b e l before here)

module _ (m : Arena) (leaves : List Leaf) (replies : List ℕ) (s u w : ℕ) where
  -- a reply that is no event of the state
  pub reply_refused : (a : ℕ) → m.events s ≤ reply_at replies s a → command_tested m leaves replies s u w a ≡ refuse 10 s
  reply_refused a l = rw (le-leb _ _ l) refl

  -- a reply that is one
  pub reply_own : (a : ℕ) → reply_at replies s a < m.events s → command_tested m leaves replies s u w a ≡ reply_tested m leaves s u w a (reply_at replies s a)
  reply_own a l = rw (lt-leb _ _ l) refl

  -- numbers within their bounds leave the commands to test
  open_rest : u ≤ graded m 0 → w ≤ graded m 2 → open_tested m leaves replies s u w ≡ in_turn (command_tested m leaves replies s u w) (m.commands s)
  open_rest first second = rw (le-ltb _ _ first, le-ltb _ _ second) refl

  -- refused at command a
  pub open_refused : u ≤ graded m 0 → w ≤ graded m 2 → (a : ℕ) (e : Refusal) → a < m.commands s → in_turn (command_tested m leaves replies s u w) a ≡ passed → command_tested m leaves replies s u w a ≡ Err e → Err e ≡ open_tested m leaves replies s u w
  open_refused first second a e l before here =
      sym (open_rest first second ∙ turn_refused (command_tested m leaves replies s u w) (m.commands s) a e l before here)
