use Rattle.std.proofs.Common.{◌≡◌, true, false, rules, ◌∙◌}
use Rattle.std.proofs.lemmas.Iterator.{first_from_Range}
use Rattle.parts.specs.Gaps.{unmarked}
use Rattle.parts.proofs.Ranges.{found_is}
use Rattle.parts.proofs.gaps.lowest_unused.Goals as goal

pub returns : goal.returns
returns c =
    let p = unmarked c.args.marks.now in
    c.unwrap_or.ensures
    ∙ found_is p c.args.top c.find.result (first_from_Range _ c.find.new.self _ c.find.result (λ k. p k ≡ true) (λ k. p k ≡ false) c.find.ensures.ran (λ x q called. search rules) (λ x q called. search rules))
