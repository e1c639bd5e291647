use Rattle.std.proofs.Common.{◌≡◌, ltb, [], map, reverse, length, take, sym, ap, ◌∙◌, arith}
use Rattle.std.proofs.lemmas.List.{take_all}
use Rattle.std.proofs.lemmas.Bool.{cond-false, le-ltb}
use Rattle.site.specs.Refusals.{answered}
use Rattle.checker.specs.Runs.{answers_to, ran, recorded}
use Rattle.records.proofs.Answered.{ok_same}
use Rattle.desk.specs.Drills.{told_from}
use Rattle.desk.specs.PlannedSites.{own_leaves, own_replies}
use Rattle.desk.proofs.Drilled.{told_ran}
use Rattle.desk.proofs.Fitting.{whole}
use Rattle.desk.proofs.drills.drill_site.Goals as goal

pub returns : goal.returns
returns g c =
    let m = g.S.Site.arena c.args.site.now in
    let calls = c.args.calls.now in
    let last = c.play.new.answers in
    let plan = c.in_ok-plan.ensures in
    let e = c.in_ok-record.ensures in
    let leaves : c.as_slice.result.now ≡ own_leaves m = c.as_slice.ensures.value ∙ plan.0 in
    let replies : c.as_slice-2.result.now ≡ own_replies m = c.as_slice-2.ensures.value ∙ plan.1 in
    let many : length calls ≡ length c.as_mut_slice.result.now = omega (arith, c.as_mut_slice.ensures.len, c.in_ok-answers.ensures.len) in
    let items = whole last c.in_ok-answers.answers.items c.in_ok-answers.answers.len (omega (arith, c.as_mut_slice.ensures.len)) in
    let front : take (length calls) last ≡ last = take_all (length calls) last (omega arith) in
    let told : map answered last ≡ answers_to m (own_leaves m) (own_replies m) calls = ap (map answered) (sym front) ∙ (e.written (omega arith) ∙ (ap (λ ls. answers_to m ls c.as_slice-2.result.now calls) leaves ∙ ap (λ rs. answers_to m (own_leaves m) rs calls) replies)) in
    let slice : c.as_slice-3.result.now ≡ last = c.as_slice-3.ensures.value ∙ items in
    let kept = ok_same (e.outcome ∙ cond-false (ltb (length c.as_mut_slice.result.now) (length calls)) _ _ (le-ltb (length c.as_mut_slice.result.now) (length calls) (omega arith))) in (
      ap (map answered) items ∙ told,
      c.in_ok-states.ensures
          ∙ (ap (λ xs. reverse (told_from [] calls (map answered xs))) slice
          ∙ (ap (λ xs. reverse (told_from [] calls xs)) told ∙ ap reverse (told_ran m (own_leaves m) (own_replies m) [] calls))),
      kept ∙ (ap (λ ls. recorded m (ran m ls c.as_slice-2.result.now calls)) leaves ∙ ap (λ rs. recorded m (ran m (own_leaves m) rs calls)) replies),
    )
