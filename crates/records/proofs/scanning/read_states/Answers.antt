use Rattle.std.proofs.Common.{◌≡◌, ℕ, ◌*◌, refl}
use Rattle.site.specs.declared.sheets.Row.{Row}
use Rattle.std.proofs.lemmas.Result.{err_from_is_err_and}
use Rattle.records.proofs.Scans.{no_states_done, state_done, row_failed, row_arrows_failed}
use Rattle.records.proofs.scanning.read_states.Goals as goal

moves_of : {a b : ℕ} (row : Row) → a ≡ row.commands → b ≡ row.events → a * b ≡ row.commands * row.events
moves_of row p q = rw (p, q) refl

pub loop-state-init : goal.loop-state-init
loop-state-init c = no_states_done c.args.states c.args.from _ _ c.requires

pub returns-in_err-row : goal.returns-in_err-row
returns-in_err-row c =
    let p = err_from_is_err_and c.from_residual.result c.from_residual.ensures.1 in
    rw (p.1, p.2) (row_failed _ c.loop-state.invariant c.in_err-row.ensures c.loop-state-test.true)

pub returns-in_err-unread : goal.returns-in_err-unread
returns-in_err-unread c =
    let p = err_from_is_err_and c.from_residual-in_err-unread.result c.from_residual-in_err-unread.ensures.1 in
    let count = moves_of c.in_ok-row.row c.from.ensures c.from-in-loop-state.ensures in
    rw (p.1, p.2) (row_arrows_failed _ _ c.in_ok-row.body _ count c.loop-state.invariant c.in_ok-row.ensures c.in_err-unread.ensures c.loop-state-test.true)

pub loop-state-preserved : goal.loop-state-preserved
loop-state-preserved c =
    let count = moves_of c.in_ok-row.row c.from.ensures c.from-in-loop-state.ensures in
    rw c.lay.ensures (state_done _ c.in_ok-row.body _ count c.loop-state.invariant c.in_ok-row.ensures c.in_ok-unread.ensures)
