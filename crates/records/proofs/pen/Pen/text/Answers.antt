use Rattle.std.proofs.Common.{◌≡◌, ◌+◌, ◌-◌, length, refl, ap, ◌∙◌}
use borrow.Rule.Slice.PartMut.{put_mid}
use Rattle.site.specs.Laid.{laid}
use Rattle.site.proofs.Laid.{length_laid}
use Rattle.records.proofs.Putting.{part_is_laid}
use Rattle.records.proofs.pen.Pen.text.Goals as goal

pub returns : goal.returns
returns c =
    let at = c.args.self.now.at in
    let before = c.args.self.now.buffer.now in
    let text = c.args.text.now in
    let lies : put_mid at (at + length text - at) before c.copy_from_slice.new.self ≡ laid at text before =
    rw c.copy_from_slice.ensures.after (part_is_laid at text before c.requires) in
    record { same = refl; ends = refl; lies = lies; keeps = ap length lies ∙ length_laid at text before }
