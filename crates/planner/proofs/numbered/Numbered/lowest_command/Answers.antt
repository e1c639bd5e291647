use Rattle.std.proofs.Common.{◌≡◌, ℕ, Bool, sym, ap, ◌∙◌, arith}
use Rattle.site.specs.Counting.{every, some}
use Rattle.site.specs.CountingLaws.{every_fails}
use Rattle.parts.proofs.Steps.{some_none}
use Rattle.planner.specs.Choices.{keeps_rule}
use Rattle.planner.specs.Rows.{numbers_in}
use Rattle.parts.proofs.Lowest.{lowest_none, lowest_found}
use Rattle.planner.proofs.numbered.Numbered.lowest_command.Goals as goal

pub commands-preserved : goal.commands-preserved
commands-preserved g c =
    let own = c.args.self.now in
    let m = g.S.Site.arena own.site.now in
    let p : ℕ → ℕ → Bool = keeps_rule m (numbers_in own.rows) c.args.s in
    some_none (λ a. every (p a) (m.events c.args.s)) c.commands.a c.commands.invariant
    (every_fails (p c.commands.a) (m.events c.args.s) c.loop-b.b (sym c.if-not-keeps.ensures) (omega arith))

pub returns-after-loop-b-clause-value : goal.returns-after-loop-b-clause-value
returns-after-loop-b-clause-value g c =
    let own = c.args.self.now in
    let m = g.S.Site.arena own.site.now in
    let s = c.args.s in
    let p : ℕ → ℕ → Bool = keeps_rule m (numbers_in own.rows) s in
    let all : m.events s ≡ c.loop-b.b = omega arith in
    sym (lowest_found (λ a. every (p a) (m.events s)) (m.commands s) c.commands.a c.commands.invariant (ap (every (p c.commands.a)) all ∙ c.loop-b.invariant) (omega arith))

pub returns-after-commands-clause-value : goal.returns-after-commands-clause-value
returns-after-commands-clause-value g c =
    let own = c.args.self.now in
    let m = g.S.Site.arena own.site.now in
    let s = c.args.s in
    let p : ℕ → Bool = λ a. every (keeps_rule m (numbers_in own.rows) s a) (m.events s) in
    let all : c.commands.a ≡ m.commands s = omega arith in
    c.commands-commands.ensures ∙ sym (lowest_none p (m.commands s) (ap (some p) (sym all) ∙ c.commands.invariant))
