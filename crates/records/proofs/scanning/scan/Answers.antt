use Rattle.std.proofs.Common.{rules}
use Rattle.records.proofs.Tables.{scan_done}
use Rattle.records.proofs.scanning.scan.Goals as goal

pub returns : goal.returns
returns c = scan_done c.in_ok-states.ensures.0 c.in_ok-arrows.ensures (search rules)
