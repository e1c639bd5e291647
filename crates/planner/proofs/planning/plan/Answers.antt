use Rattle.std.proofs.Common.{◌*◌, ◌≤◌, length, sym, ◌∙◌, arith}
use Rattle.std.proofs.lemmas.List.{length-take}
use Rattle.std.proofs.lemmas.Slice.{drop-append-drop}
use Rattle.std.proofs.lemmas.Bool.{cond-true}
use Rattle.planner.proofs.Filled.{roomy_from, roomy_answer}
use Rattle.planner.proofs.planning.plan.Goals as goal

pub returns : goal.returns
returns g c =
    let m = g.S.Site.arena c.args.site.now in
    let leaves : m.states ≤ length c.args.leaves.now = omega (arith, c.in_ok-enough.ensures.enough) in
    let replies : 16 * m.states ≤ length c.args.replies.now = omega (arith, c.in_ok-enough-2.ensures.enough) in
    let work : 4 * m.states ≤ length c.args.work.now = omega (arith, c.in_ok-enough-3.ensures.enough) in
    let roomy = roomy_from m (length c.args.leaves.now) (length c.args.replies.now) (length c.args.work.now) leaves replies work in
    record {
      outcome = c.plan_roomy.ensures.answer ∙ roomy_answer m (length c.args.leaves.now) (length c.args.replies.now) (length c.args.work.now) leaves replies work;
      leaves = c.plan_roomy.ensures.leaves ∙ sym (cond-true _ _ _ roomy);
      replies = c.plan_roomy.ensures.replies ∙ sym (cond-true _ _ _ roomy);
      work = record {
        beyond = drop-append-drop (4 * c.states-n.result) c.args.work.now c.plan_roomy.new.work (4 * m.states) (omega arith) (omega (arith, work, length-take (4 * c.states-n.result) c.args.work.now));
        refused = λ shut. absurd (shut roomy);
      };
    }
