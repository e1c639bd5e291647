use Rattle.std.proofs.Common.{length, ap, ◌∙◌}
use Rattle.std.proofs.lemmas.Result.{err_from_is_err_and}
use Rattle.std.proofs.lemmas.Bool.{cond-true}
use Rattle.checker.specs.Checked.{checked}
use Rattle.planner.proofs.Certified.{certificate, planned_checked}
use Rattle.planner.proofs.Filled.{answered_roomy, roomy_from, roomy_answer}
use Rattle.planner.proofs.certifying.certify.Goals as goal

pub returns-in_err-plan : goal.returns-in_err-plan
returns-in_err-plan g c =
    let p = err_from_is_err_and c.from_residual.result c.from_residual.ensures.1 in
    let e = c.in_err-plan.ensures in
    rw (p.1, p.2) (record {
      outcome = e.outcome;
      leaves = e.leaves;
      replies = e.replies;
      work = e.work;
      promise = certificate (g.S.Site.arena c.args.site.now) (g.S.Site.lawful c.args.site.now);
    })

pub returns : goal.returns
returns g c =
    let m = g.S.Site.arena c.args.site.now in
    let lawful = g.S.Site.lawful c.args.site.now in
    let e = c.in_ok-plan.ensures in
    let fit = answered_roomy m (length c.args.leaves.now) (length c.args.replies.now) (length c.args.work.now) _ e.outcome in
    let roomy = roomy_from m (length c.args.leaves.now) (length c.args.replies.now) (length c.args.work.now) fit.0 fit.1 fit.2 in
    let leaves_are = e.leaves ∙ cond-true _ _ _ roomy in
    let replies_are = e.replies ∙ cond-true _ _ _ roomy in
    record {
      outcome = c.check.ensures.outcome
          ∙ (ap (λ ls. checked m ls c.plan.new.replies) leaves_are
          ∙ (ap (checked m _) replies_are
          ∙ (planned_checked m lawful c.args.leaves.now c.args.replies.now fit.0 fit.1
          ∙ roomy_answer m (length c.args.leaves.now) (length c.args.replies.now) (length c.args.work.now) fit.0 fit.1 fit.2)));
      leaves = e.leaves;
      replies = e.replies;
      work = e.work;
      promise = certificate m lawful;
    }
