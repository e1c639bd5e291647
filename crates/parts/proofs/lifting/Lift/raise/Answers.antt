use Rattle.std.proofs.Common.{sym, refl, arith}
use Rattle.std.proofs.lemmas.Bool.{le-ltb}
use Rattle.parts.specs.Lifting.{at, unnumbered, value}
use Rattle.parts.proofs.Raises.{value_top}
use Rattle.parts.proofs.lifting.Lift.raise.Goals as goal

pub returns-then-ranks-s : goal.returns-then-ranks-s
returns-then-ranks-s g c =
    let m = g.S.Site.arena c.args.self.now.site.now in
    let wanted = value m c.args.self.now.top (unnumbered c.args.self.now.firsts.now) (at c.args.ranks.now) c.args.s in
    record {
      rose = sym (le-ltb (at c.args.ranks.now c.args.s) wanted (omega (arith, value_top m (g.S.Site.lawful c.args.self.now.site.now) c.args.self.now.top (unnumbered c.args.self.now.firsts.now) (at c.args.ranks.now) c.args.s)));
      ranks = refl;
    }
