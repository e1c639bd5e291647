use Rattle.std.proofs.Common.{rules, ◌≡◌, ◌&&◌, true, false, eqb, arith}
use Rattle.std.proofs.lemmas.Iterator.{YieldsList-from_slice, YieldsList-from_zip, cases_from_any}
use Rattle.parts.specs.Lifting.{none}
use Rattle.parts.proofs.Ranges.{some_zip}
use Rattle.parts.proofs.labels.Stage.waits.Goals as goal

pub returns : goal.returns
returns g c =
    let i = c.args.self.now.number in
    let firsts = c.args.self.now.firsts.now in
    let labels = c.args.labels.now in
    some_zip firsts labels (g.S.Site.arena c.args.self.now.site.now).states (λ first label. eqb first i && eqb label none) (omega arith) (omega arith) c.any.result
    (cases_from_any c.any.new.self _ _ (λ p. (eqb p.0 i && eqb p.1 none) ≡ true) (λ p. (eqb p.0 i && eqb p.1 none) ≡ false) c.any.ensures.ran (YieldsList-from_zip (YieldsList-from_slice firsts cc) (YieldsList-from_slice labels cc)) (λ x q k. search rules) (λ x q k. search rules))
