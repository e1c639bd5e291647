use Rattle.std.proofs.Common.{◌/◌, ◌%◌, [], ◌∷◌, rules}
use Rattle.records.specs.Pens.{Wrote}
use Rattle.records.proofs.Putting.{put_then}
use Rattle.records.proofs.book_puts.put_leaf_record.Goals as goal

pub returns-in-Open : goal.returns-in-Open
returns-in-Open c =
    let u = c.in-Open.first in
    let w = c.in-Open.second in
    let numbers : Wrote (19 ∷ (u / 256 ∷ (u % 256 ∷ (w / 256 ∷ (w % 256 ∷ []))))) c.args.pen.now c.text-in-Open.new.self = search rules in
    rw c.in-Open.is (put_then numbers c.put_events.ensures)
