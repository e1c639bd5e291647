use Rattle.std.proofs.Common.{◌≡◌, ℕ, Bool, sym, ap, ◌∙◌, arith}
use Rattle.site.specs.Counting.{some}
use Rattle.planner.specs.Choices.{answers_rule}
use Rattle.planner.specs.Rows.{numbers_in}
use Rattle.parts.proofs.Lowest.{lowest_none, lowest_found}
use Rattle.planner.proofs.numbered.Numbered.lowest_event.Goals as goal

pub returns-then-answers-clause-value : goal.returns-then-answers-clause-value
returns-then-answers-clause-value g c =
    let own = c.args.self.now in
    let m = g.S.Site.arena own.site.now in
    sym (lowest_found (answers_rule m (numbers_in own.rows) c.args.s c.args.a) (m.events c.args.s) c.loop-b.b c.loop-b.invariant (sym c.if-answers.ensures) (omega arith))

pub returns-clause-value : goal.returns-clause-value
returns-clause-value g c =
    let own = c.args.self.now in
    let m = g.S.Site.arena own.site.now in
    let p : ℕ → Bool = answers_rule m (numbers_in own.rows) c.args.s c.args.a in
    let all : c.loop-b.b ≡ m.events c.args.s = omega arith in
    c.events-events.ensures ∙ sym (lowest_none p (m.events c.args.s) (ap (some p) (sym all) ∙ c.loop-b.invariant))
