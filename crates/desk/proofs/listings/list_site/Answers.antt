use Rattle.std.proofs.Common.{◌≡◌, ◌++◌, length, sym, ap, ◌∙◌, add-one, arith}
use Rattle.records.specs.Lines.{state_text}
use Rattle.desk.specs.Listings.{lines_to}
use Rattle.desk.specs.PlannedSites.{own_leaves, own_replies}
use Rattle.desk.proofs.Fitting.{own_leaves_long, own_replies_long}
use Rattle.desk.proofs.listings.list_site.Goals as goal

pub add_line-requires : goal.add_line-requires
add_line-requires g c =
    let m = g.S.Site.arena c.args.site.now in
    let plan = c.in_ok-plan.ensures in
    record {
      leaves = omega (arith, ap length (c.as_slice.ensures.value ∙ plan.0) ∙ own_leaves_long m);
      replies = omega (arith, ap length (c.as_slice-in-loop-s.ensures.value ∙ plan.1) ∙ own_replies_long m);
      state = omega (arith, c.states-states.ensures);
    }

pub loop-s-preserved : goal.loop-s-preserved
loop-s-preserved g c =
    let m = g.S.Site.arena c.args.site.now in
    let s = c.loop-s.s in
    let plan = c.in_ok-plan.ensures in
    let leaves : c.as_slice.result.now ≡ own_leaves m = c.as_slice.ensures.value ∙ plan.0 in
    let replies : c.as_slice-in-loop-s.result.now ≡ own_replies m = c.as_slice-in-loop-s.ensures.value ∙ plan.1 in
    c.in_ok-add_line.ensures
    ∙ (ap (λ before. before ++ state_text m c.as_slice.result.now c.as_slice-in-loop-s.result.now s) c.loop-s.invariant
    ∙ (ap (λ ls. lines_to m s ++ state_text m ls c.as_slice-in-loop-s.result.now s) leaves
    ∙ (ap (λ rs. lines_to m s ++ state_text m (own_leaves m) rs s) replies ∙ sym (ap (lines_to m) (add-one s)))))
