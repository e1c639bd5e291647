use Rattle.std.proofs.Common.{sym, add-one, arith}
use Rattle.parts.proofs.Turns.{begun, rounded, label_done, label_last}
use Rattle.parts.proofs.labels.Stage.label.Goals as goal

pub loop-j-init : goal.loop-j-init
loop-j-init g c =
    let m = g.S.Site.arena c.args.self.now.site.now in
    begun m (g.S.Site.lawful c.args.self.now.site.now) m.states c.args.self.now.firsts.now c.requires.row c.args.self.now.number c.requires.number c.begin.new.labels c.begin.ensures

pub returns-then-not-waits : goal.returns-then-not-waits
returns-then-not-waits g c s lt own =
    let m = g.S.Site.arena c.args.self.now.site.now in
    label_done m (g.S.Site.lawful c.args.self.now.site.now) m.states c.args.self.now.firsts.now c.requires.row c.args.self.now.number c.requires.number c.loop-j.j c.loop-j.labels c.loop-j.invariant s lt own (sym c.if-not-waits.ensures)

pub loop-j-preserved : goal.loop-j-preserved
loop-j-preserved g c =
    let m = g.S.Site.arena c.args.self.now.site.now in
    rw add-one (rounded m (g.S.Site.lawful c.args.self.now.site.now) m.states c.args.self.now.firsts.now c.requires.row c.args.self.now.number c.requires.number c.loop-j.j (omega arith) (omega arith) c.loop-j.labels c.loop-j.invariant c.round.new.labels c.round.ensures)

pub returns : goal.returns
returns g c s lt own =
    let m = g.S.Site.arena c.args.self.now.site.now in
    label_last m (g.S.Site.lawful c.args.self.now.site.now) m.states c.args.self.now.firsts.now c.requires.row c.args.self.now.number c.requires.number c.loop-j.j c.loop-j.labels c.loop-j.invariant s lt own (omega arith)
