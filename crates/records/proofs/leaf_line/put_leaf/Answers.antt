use Rattle.records.proofs.Putting.{put_then}
use Rattle.records.proofs.leaf_line.put_leaf.Goals as goal

pub returns-in-Covered-clause-put : goal.returns-in-Covered-clause-put
returns-in-Covered-clause-put c =
    rw (c.in-Covered.is, ← c.from.ensures, ← c.from-in-Covered.ensures) (put_then c.field.ensures.put c.field-in-Covered.ensures.put)

pub returns-in-Open-clause-put : goal.returns-in-Open-clause-put
returns-in-Open-clause-put c =
    rw (c.in-Open.is, ← c.from-in-Open.ensures, ← c.from-in-Open-2.ensures)
    (put_then c.field-in-Open.ensures.put
    (put_then c.field-in-Open-2.ensures.put (put_then c.text.ensures c.put_replies.ensures.put)))
