use Rattle.std.proofs.Common.{◌*◌, sym, ◌∙◌, arith, rules}
use Rattle.std.proofs.lemmas.Bool.{cond-false}
use Rattle.planner.specs.Choices.{chosen_replies}
use Rattle.planner.specs.Rows.{numbers_in}
use Rattle.planner.proofs.Fills.{laid_lent, opened}
use Rattle.planner.proofs.numbered.Numbered.write_state.Goals as goal

pub returns : goal.returns
returns g c =
    let own = c.args.self.now in
    let m = g.S.Site.arena own.site.now in
    let s = c.args.s in
    let is_open = opened _ _ (rw c.first.ensures at c.if-is_none.ensures) in
    record {
      covered = sym is_open;
      leaves = search rules;
      replies = laid_lent (16 * s) (chosen_replies m (numbers_in own.rows) s) c.args.replies.now c.write_replies.new.replies (omega arith) c.write_replies.ensures ∙ sym (cond-false _ _ _ is_open);
    }
