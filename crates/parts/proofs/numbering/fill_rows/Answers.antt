use Rattle.std.proofs.Common.{suc, cond, arith}
use Rattle.std.proofs.lemmas.List.FromFn.{fill_by_all}
use Rattle.site.specs.Arena.{graded}
use Rattle.parts.specs.Lifting.{none}
use Rattle.parts.specs.Regions.{has, covered, rank, first, second}
use Rattle.parts.proofs.Tables.{by_part}
use Rattle.parts.proofs.numbering.fill_rows.Goals as goal

pub returns : goal.returns
returns g c =
    let m = g.S.Site.arena c.args.site.now in
    let firsts = c.phases-count.ensures.firsts in
    let ranks = c.phases-count.ensures.ranks in
    let seconds = c.stages.ensures.seconds in
    record {
      firsts = fill_by_all (λ s. cond (has (covered m) s) none (first m s)) c.phases-count.new.firsts m.states 0 (omega arith) (λ s lt. by_part (has (covered m) s) (firsts.no_first s lt) (firsts.numbered s lt));
      ranks = fill_by_all (λ s. cond (has (covered m) s) (rank m s) (suc (graded m 1))) c.phases-count.new.ranks m.states 0 (omega arith) (λ s lt. by_part (has (covered m) s) (ranks.ranked s lt) (ranks.unranked s lt));
      seconds = fill_by_all (λ s. cond (has (covered m) s) 0 (second m s)) c.stages.new.seconds m.states 0 (omega arith) (λ s lt. by_part (has (covered m) s) (seconds.no_second s lt) (seconds.numbered s lt));
      labels = c.stages.ensures.labels;
    }
