use Rattle.std.proofs.Common.{◌<◌, arith, rules}
use Rattle.std.proofs.ByRecursion.{All-from_get_or}
use Rattle.records.proofs.Tables.{second_scan}
use Rattle.records.proofs.reading.read_table.Goals as goal

pub returns : goal.returns
returns c =
    let h = All-from_get_or (λ b. b < 256) c.args.bytes.now 0 (λ i lt. search rules) in
    let l = second_scan c.scan-2.result c.scan-2.new.rows c.scan-2.new.arrows h c.in_ok-size.ensures (omega (arith, c.in_ok-enough.ensures.enough)) (omega (arith, c.in_ok-enough-2.ensures.enough)) c.scan-2.ensures in
    record {
      answer = l.answer;
      row_sheet = l.row_sheet;
      arrow_sheet = l.arrow_sheet;
      fair_sheets = l.fair_sheets;
      trip = l.trip;
    }
