use Rattle.std.proofs.Common.{◌≡◌, vec_items}
use Rattle.desk.specs.Listings.{lines_to}
use Rattle.desk.proofs.listings.list_site.Given as goal

abbrev pub invariant-loop-s : goal.invariant-loop-s
invariant-loop-s g l = vec_items l.out ≡ lines_to (g.S.Site.arena l.site) l.s
