use Rattle.std.proofs.Common.{◌∙◌, rules, tests, arith}
use Rattle.std.specs.List.{range_with_len}
use Rattle.std.proofs.lemmas.Iterator.{YieldsList-from_range, YieldsList-from_map}
use Rattle.std.proofs.lemmas.Iterator.Consumers.{sum_by_from_yields_List, fits_by_from_yields_list}
use Rattle.records.specs.TableWritten.{moves}
use Rattle.records.proofs.TablePuts.{moves_sum, few_arrows}
use Rattle.records.proofs.table_puts.count_arrows.Goals as goal

pub sum-requires-clause-fits : goal.sum-requires-clause-fits
sum-requires-clause-fits g c =
    let m = g.S.Site.arena c.args.site.now in
    let law = g.S.Site.lawful c.args.site.now in
    fits_by_from_yields_list (moves m) (range_with_len 0 m.states) c.map.result _
    (YieldsList-from_map _ (moves m) (YieldsList-from_range 0 m.states m.states (search rules) (omega arith)) c.map.ensures.closure (λ x r q k. search (rules, tests)))
    (rw moves_sum (omega (arith, few_arrows m law m.states, law.limited)))

pub returns : goal.returns
returns g c =
    let m = g.S.Site.arena c.args.site.now in
    sum_by_from_yields_List (moves m) (range_with_len 0 m.states) c.map.result _ c.sum.ensures.ran
    (YieldsList-from_map _ (moves m) (YieldsList-from_range 0 m.states m.states (search rules) (omega arith)) c.map.ensures.closure (λ x r q k. search (rules, tests)))
    ∙ moves_sum m m.states
