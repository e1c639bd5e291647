use Rattle.std.proofs.Common.{◌≡◌, ℕ, Bool, true, false}
use Rattle.std.specs.Iterator.{ActsAs}
use Rattle.site.specs.Counting.{every, some}
use Rattle.parts.specs.Lifting.{at}
use Rattle.parts.proofs.row.Row.holds.Given as goal

abbrev pub invariant-commands : goal.invariant-commands
invariant-commands g l =
    (p : ℕ → Bool) → ActsAs g.F.Fn l.test p → some (λ a. every (λ b. p (at l.self.numbers.now ((g.S.Site.arena l.self.site.now).next l.s a b))) ((g.S.Site.arena l.self.site.now).events l.s)) l.a ≡ false

abbrev pub invariant-loop-b : goal.invariant-loop-b
invariant-loop-b g l =
    (p : ℕ → Bool) → ActsAs g.F.Fn l.test p → every (λ b. p (at l.self.numbers.now ((g.S.Site.arena l.self.site.now).next l.s l.a b))) l.b ≡ true
