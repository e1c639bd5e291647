use Rattle.std.proofs.Common.{◌≡◌, ℕ, Bool, true, false, of_calls, sym, ap, ◌∙◌, arith}
use Rattle.site.specs.CountingLaws.{every_fails, every_more}
use Rattle.site.specs.Counting.{every, some}
use Rattle.parts.specs.Lifting.{at}
use Rattle.parts.proofs.Steps.{some_none, some_at}
use Rattle.parts.proofs.row.Row.holds.Goals as goal

pub commands-preserved : goal.commands-preserved
commands-preserved g c p acts =
    let m = g.S.Site.arena c.args.self.now.site.now in
    let q : ℕ → ℕ → Bool = λ a b. p (at c.args.self.now.numbers.now (m.next c.args.s a b)) in
    let here : false ≡ q c.commands.a c.loop-b.b = search (of_calls, acts) in
    some_none (λ a. every (q a) (m.events c.args.s)) c.commands.a (c.commands.invariant p acts)
    (every_fails (q c.commands.a) (m.events c.args.s) c.loop-b.b (sym here) (omega arith))

pub loop-b-preserved : goal.loop-b-preserved
loop-b-preserved g c p acts =
    let m = g.S.Site.arena c.args.self.now.site.now in
    let q : ℕ → Bool = λ b. p (at c.args.self.now.numbers.now (m.next c.args.s c.commands.a b)) in
    let here : true ≡ q c.loop-b.b = search (of_calls, acts) in
    every_more q c.loop-b.b (c.loop-b.invariant p acts) (sym here)

pub returns-in-commands : goal.returns-in-commands
returns-in-commands g c p acts =
    let m = g.S.Site.arena c.args.self.now.site.now in
    let q : ℕ → ℕ → Bool = λ a b. p (at c.args.self.now.numbers.now (m.next c.args.s a b)) in
    let all : m.events c.args.s ≡ c.loop-b.b = omega arith in
    sym (some_at (λ a. every (q a) (m.events c.args.s)) (m.commands c.args.s) c.commands.a (ap (every (q c.commands.a)) all ∙ c.loop-b.invariant p acts) (omega arith))

pub returns : goal.returns
returns g c p acts =
    let m = g.S.Site.arena c.args.self.now.site.now in
    let q : ℕ → ℕ → Bool = λ a b. p (at c.args.self.now.numbers.now (m.next c.args.s a b)) in
    let all : m.commands c.args.s ≡ c.commands.a = omega arith in
    sym (ap (some (λ a. every (q a) (m.events c.args.s))) all ∙ c.commands.invariant p acts)
