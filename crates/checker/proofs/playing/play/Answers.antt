-- Call by call: the record and the answers stay those of the run.
use Rattle.std.proofs.Common.{refl, arith}
use Rattle.checker.proofs.CallByCall.{none_played, one_played, all_played}
use Rattle.checker.proofs.Promises.{run_law}
use Rattle.checker.proofs.playing.play.Goals as goal

pub returns-in_err-enough-clause-law : goal.returns-in_err-enough-clause-law
returns-in_err-enough-clause-law g c = λ accepted k. (run_law _ (g.S.Site.lawful c.args.site.now) _ _ _).1 accepted

pub loop-i-init : goal.loop-i-init
loop-i-init g c = none_played _ (g.S.Site.lawful c.args.site.now) _ _ _ _ _ refl

pub loop-i-preserved : goal.loop-i-preserved
loop-i-preserved g c = one_played _ (g.S.Site.lawful c.args.site.now) _ _ _ _ _ _ _ _ _ _ c.loop-i.invariant (omega arith) (omega (arith, c.in_ok-enough.ensures.enough))
    c.make.ensures.outcome c.make.ensures.after

pub returns : goal.returns
returns g c =
    let m = g.S.Site.arena c.args.site.now in
    let lawful = g.S.Site.lawful c.args.site.now in
    let done = all_played m lawful _ _ _ _ _ _ _ c.loop-i.invariant (omega arith) (omega arith) c.in_ok-enough.ensures.enough in
    record {
      outcome = done.0;
      written = λ l. done.1;
      beyond = done.2;
      refused = λ l. absurd (omega (arith, c.in_ok-enough.ensures.enough));
      law = λ accepted k. (run_law m lawful _ _ _).1 accepted;
    }
