use Rattle.std.proofs.Common.{◌≡◌, arith, length, sym, ◌∙◌}
use Rattle.std.proofs.lemmas.Bool.{ltb-true}
use Rattle.std.proofs.lemmas.List.{get_or_default}
use Rattle.site.specs.TableLaws.{fair_is, arrow_place}
use Rattle.site.specs.Tables.{no_row, row_at}
use Rattle.site.proofs.table_site.TableSite.next.Goals as goal

-- the place is among the arrows that the table's invariant speaks of
pub bounds-self-row : goal.bounds-self-row
bounds-self-row c =
    let t = c.args.self.now in
    let n = length t.rows.now in
    let f = fair_is n t.rows.now t.arrows.now t.ok in
    let found = c.in-Some.ensures.lookup in
    let s< = ltb-true c.args.s n (sym found.0) in
    let row : c.in-Some.row.now ≡ row_at t.rows.now c.args.s = found.1 ∙ get_or_default t.rows.now c.args.s c.in-Some.row.now no_row s< in
    rw row (omega (arith, f.long_arrows, arrow_place n t.rows.now t.arrows.now f c.args.s c.args.a c.args.b s< (rw row at c.if-a-row.false) (rw row at c.if-b-events.false)))
