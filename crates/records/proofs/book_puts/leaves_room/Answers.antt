use Rattle.std.proofs.Common.{◌∙◌, take, ap, rules, tests, arith}
use Rattle.std.specs.List.{enumerate_from}
use Rattle.std.proofs.lemmas.Iterator.{YieldsList-from_slice, YieldsList-from_map}
use Rattle.std.proofs.lemmas.Iterator.Consumers.{YieldsList-at, YieldsList-from_enumerate, sum_by_from_yields_List, fits_by_from_yields_list}
use Rattle.records.specs.BookWritten.{leaves_long}
use Rattle.records.proofs.BookPuts.{pair_long, pairs_long, leaf_size, few_leaves_long}
use Rattle.records.proofs.book_puts.leaves_room.Goals as goal

pub sum-requires-clause-fits : goal.sum-requires-clause-fits
sum-requires-clause-fits g c =
    let m = g.S.Site.arena c.args.site.now in
    let law = g.S.Site.lawful c.args.site.now in
    let leaves = c.args.leaves.now in
    let n = c.states.result in
    fits_by_from_yields_list (pair_long m) (enumerate_from 0 (take n leaves)) c.map.result _
    (YieldsList-from_map _ (pair_long m) (YieldsList-at c.map.ensures.source (YieldsList-from_enumerate (YieldsList-at c.enumerate.ensures.source (YieldsList-from_slice (take n leaves) cc)) cc)) c.map.ensures.closure (λ x r q k. search (rules, tests, leaf_size)))
    (rw (pairs_long m leaves n (omega (arith, c.states.ensures, c.requires))) (omega (arith, few_leaves_long m law leaves n, law.limited, c.states.ensures)))

pub returns : goal.returns
returns g c =
    let m = g.S.Site.arena c.args.site.now in
    let law = g.S.Site.lawful c.args.site.now in
    let leaves = c.args.leaves.now in
    let n = c.states.result in
    let total = sum_by_from_yields_List (pair_long m) (enumerate_from 0 (take n leaves)) c.map.result _ c.sum.ensures.ran
    (YieldsList-from_map _ (pair_long m) (YieldsList-at c.map.ensures.source (YieldsList-from_enumerate (YieldsList-at c.enumerate.ensures.source (YieldsList-from_slice (take n leaves) cc)) cc)) c.map.ensures.closure (λ x r q k. search (rules, tests, leaf_size))) in
    let long = total ∙ (pairs_long m leaves n (omega (arith, c.states.ensures, c.requires)) ∙ ap (leaves_long m leaves) c.states.ensures) in
    record { few = omega (arith, long, few_leaves_long m law leaves m.states); long = long }
