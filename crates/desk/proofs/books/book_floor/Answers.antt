use Rattle.std.proofs.Common.{◌∙◌}
use Rattle.desk.specs.PlannedSites.{own_book}
use Rattle.desk.specs.ReadFloors.{of_floor}
use Rattle.desk.proofs.Held.{floor_held, of_held, makes_gives}
use Rattle.desk.proofs.books.book_floor.Goals as goal

pub returns : goal.returns
returns c =
    let bs = c.args.bytes.now in
    let floor = c.in_ok-floor.floor in
    let h = floor_held bs floor c.in_ok-floor.ensures in
    makes_gives (of_floor bs own_book) _ c.book_site.result
    (of_held own_book bs _ (h.0, h.1, c.table.ensures ∙ h.2))
    c.book_site.ensures
