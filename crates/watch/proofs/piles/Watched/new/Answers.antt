use Rattle.std.proofs.Common.{refl}
use Rattle.watch.specs.Dials.{dial}
use Rattle.watch.proofs.Seeing.{worn_by_pairs, runs_are_below, runs_are_seen, clear_changes_nothing, unfit_changes_nothing, own_entries_count}
use Rattle.watch.proofs.piles.Watched.new.Goals as goal

pub returns : goal.returns
returns g c =
    let m = g.S.Site.arena c.args.site in
    let law = g.S.Site.lawful c.args.site in
    let w = dial c.args.watch in
    let ok = c.args.watch.ok in
    record {
      below = refl;
      watch = refl;
      pairs = worn_by_pairs m w law ok;
      runs = runs_are_below m w law ok;
      seen = runs_are_seen m w law ok;
      clear = clear_changes_nothing m w law ok;
      unfit = unfit_changes_nothing m w law ok;
      entries = own_entries_count m w law ok;
    }
