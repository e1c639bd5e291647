use Rattle.std.proofs.Common.{◌≡◌, [], map, reverse, take, length, vec_items, sym, ap, ◌∙◌, length-append, arith}
use Rattle.std.proofs.lemmas.List.{take_all}
use Rattle.std.proofs.lemmas.Slice.Zip.{zip_turn, zip_end}
use Rattle.std.specs.Iterator.Adapters.{zip_first, zip_second}
use Rattle.std.specs.Slice.Iter.{iter_rest}
use Rattle.site.specs.Refusals.{answered}
use Rattle.checker.specs.declared.calls.Call.TheVariants.{Book}
use Rattle.desk.specs.Drills.{told_from, longer}
use Rattle.desk.proofs.Drilled.{reached_more, refused_more}
use Rattle.desk.proofs.drills.run_states.Goals as goal

pub loop-call-preserved : goal.loop-call-preserved
loop-call-preserved c =
    let calls = c.args.calls.now in
    let answers = c.args.answers.now in
    let done = c.loop-call.yielded in
    let pairs = c.into_iter-call-iterator.ensures.into_iter_gives in
    let turn = zip_turn calls answers done c.into_iter-call-iterator.result c.loop-call.call-iterator c.next.new.self c.next.result
    (ap (λ z. iter_rest (zip_first z)) pairs ∙ (ap iter_rest c.zip-call-items.ensures.first ∙ c.iter.ensures.rest))
    (ap (λ z. iter_rest (zip_second z)) pairs ∙ c.zip-call-items.ensures.second.0)
    c.loop-call.yielded_by _ c.in-Some.is c.next.ensures.steps in
    rw length-append (refused_more calls answers (length done) (Book 0) c.in-Some.answer.now c.requires turn.0 (vec_items c.loop-call.states) c.loop-call.invariant c.in_default.field-0 (sym (turn.3 c.in-Some.answer.now) ∙ c.in_default.is))

pub loop-call-preserved-in-Continue-1 : goal.loop-call-preserved-in-Continue-1
loop-call-preserved-in-Continue-1 c =
    let calls = c.args.calls.now in
    let answers = c.args.answers.now in
    let done = c.loop-call.yielded in
    let pairs = c.into_iter-call-iterator.ensures.into_iter_gives in
    let turn = zip_turn calls answers done c.into_iter-call-iterator.result c.loop-call.call-iterator c.next.new.self c.next.result
    (ap (λ z. iter_rest (zip_first z)) pairs ∙ (ap iter_rest c.zip-call-items.ensures.first ∙ c.iter.ensures.rest))
    (ap (λ z. iter_rest (zip_second z)) pairs ∙ c.zip-call-items.ensures.second.0)
    c.loop-call.yielded_by _ c.in-Some.is c.next.ensures.steps in
    rw length-append (reached_more calls answers (length done) (Book 0) c.in-Some.answer.now c.requires turn.0 (vec_items c.loop-call.states) c.loop-call.invariant c.in-Ok.state (vec_items c.reach.new.states) (sym (turn.3 c.in-Some.answer.now) ∙ c.in-Ok.is) (c.in_ok-reach.ensures ∙ ap (λ call. longer call c.in-Ok.state (vec_items c.loop-call.states)) (turn.2 (Book 0))))

pub returns : goal.returns
returns c =
    let calls = c.args.calls.now in
    let answers = c.args.answers.now in
    let done = c.loop-call.yielded in
    let pairs = c.into_iter-call-iterator.ensures.into_iter_gives in
    let many = zip_end calls answers done c.into_iter-call-iterator.result c.loop-call.call-iterator c.next.new.self c.next.result
    (ap (λ z. iter_rest (zip_first z)) pairs ∙ (ap iter_rest c.zip-call-items.ensures.first ∙ c.iter.ensures.rest))
    (ap (λ z. iter_rest (zip_second z)) pairs ∙ c.zip-call-items.ensures.second.0)
    c.loop-call.yielded_by c.in-None.is c.next.ensures.steps in
    let all : length done ≡ length calls = omega (arith, many, c.requires) in
    c.loop-call.invariant
    ∙ (ap (λ cs. reverse (told_from [] cs (map answered (take (length done) answers)))) (take_all (length done) calls (omega arith))
    ∙ ap (λ xs. reverse (told_from [] calls (map answered xs))) (take_all (length done) answers (omega (arith, c.requires))))
