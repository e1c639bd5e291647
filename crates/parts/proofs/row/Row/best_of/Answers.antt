use Rattle.std.proofs.Common.{rules, min, ◌∙◌, arith}
use Rattle.parts.specs.Lifting.{at, worst}
use Rattle.parts.proofs.Ranges.{fold_is, best_fold}
use Rattle.parts.proofs.Steps.{best_top}
use Rattle.parts.proofs.row.Row.best_of.Goals as goal

pub returns : goal.returns
returns g c =
    let m = g.S.Site.arena c.args.self.now.site.now in
    let x = at c.args.self.now.numbers.now in
    let value = fold_is (λ least a. min least (worst m x c.args.s a (m.events c.args.s))) (m.commands c.args.s) c.fold.ensures.runs c.commands.ensures (λ least a r f called. search rules)
    ∙ best_fold m x c.args.s c.args.top (m.commands c.args.s) in
    record {
      value = value;
      within = omega (arith, value, best_top m c.args.top x c.args.s (m.commands c.args.s));
    }
