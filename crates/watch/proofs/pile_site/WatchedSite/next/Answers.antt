use Rattle.std.proofs.Common.{◌*◌, ◌/◌, ◌≤◌, mul-le-mul, rules}
use Rattle.watch.specs.Dials.{dial}
use Rattle.watch.specs.WatchLaws.{watch_range_is}
use Rattle.watch.proofs.Bounds.{next_low}
use Rattle.watch.proofs.pile_site.WatchedSite.next.Goals as goal

pub overflow_add-result : goal.overflow_add-result
overflow_add-result g c =
    let below = c.args.self.now.below in
    let m = g.S.Site.arena below in
    let w = c.worn-watch.result in
    let few = (watch_range_is (dial w) w.ok).few in
    let low : m.next (c.args.s / w.positions) c.args.a c.args.b ≤ 8192 = next_low m (g.S.Site.lawful below) (c.args.s / w.positions) c.args.a c.args.b in
    let here : c.next.result ≤ 8192 = rw c.next.ensures low in
    let most : c.next.result * w.positions ≤ 8192 * 8 = mul-le-mul here few in
    search rules
