use Rattle.std.proofs.Common.{refl}
use Rattle.site.proofs.Beyond.{nothing_beyond}
use Rattle.site.proofs.Trimmed.{made}
use Rattle.site.proofs.tables.Table.new.Goals as goal

pub returns-clause-meaning : goal.returns-clause-meaning
returns-clause-meaning c = made c.args.states c.args.rows.now c.args.arrows.now c.of_fair.result c.unwrap_or.result _ refl c.of_fair.ensures c.unwrap_or.ensures

pub returns-clause-beyond : goal.returns-clause-beyond
returns-clause-beyond c = nothing_beyond c.args.states c.args.rows.now c.args.arrows.now
