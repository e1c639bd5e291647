use Rattle.std.proofs.Common.{◌++◌, vec_items, refl, ap, ◌∙◌}
use Rattle.desk.proofs.Lines.{front_is}
use Rattle.desk.proofs.listings.add_head.Goals as goal

pub returns : goal.returns
returns c =
    let e = c.in_ok-len.ensures in
    c.in_ok-extend_from_slice.ensures.items
    ∙ ap (λ line. vec_items c.args.out.now ++ line) (front_is _ _ _ c.head_line.new.buffer c.in_ok-len.len refl e.answer e.line e.room)
