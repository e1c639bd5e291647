use Rattle.std.proofs.Common.{◌++◌, vec_items, ap, ◌∙◌, arith}
use Rattle.desk.proofs.Lines.{front_is, state_line_is}
use Rattle.desk.proofs.listings.add_line.Goals as goal

pub returns : goal.returns
returns g c =
    let m = g.S.Site.arena c.args.site.now in
    let e = c.in_ok-len.ensures in
    c.in_ok-extend_from_slice.ensures.items
    ∙ ap (λ line. vec_items c.args.out.now ++ line) (front_is _ _ _ c.state_line.new.buffer c.in_ok-len.len (state_line_is m c.args.leaves.now c.args.replies.now c.args.s 128 c.requires.leaves c.requires.replies c.requires.state (omega arith)) e.answer e.line e.room)
