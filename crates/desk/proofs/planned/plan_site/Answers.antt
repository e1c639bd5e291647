use Rattle.std.proofs.Common.{◌≡◌, ◌*◌, length, replicate, ◌∙◌, arith}
use Rattle.checker.specs.declared.leaves.Leaf.TheVariants.{Open}
use Rattle.desk.proofs.Fitting.{whole, leaves_fit, replies_fit, counts_fit, same_ok}
use Rattle.desk.proofs.planned.plan_site.Goals as goal

pub returns : goal.returns
returns g c =
    let m = g.S.Site.arena c.args.site.now in
    let e = c.in_ok-counts.ensures in
    let leaves = c.as_mut_slice.result.now in
    let replies = c.as_mut_slice-2.result.now in
    let work = length c.as_mut_slice-3.result.now in
    let ls : leaves ≡ replicate m.states (Open 0 0) = c.as_mut_slice.ensures.value ∙ c.in_ok-leaves.ensures.leaves in
    let rs : replies ≡ replicate (16 * m.states) 0 = c.as_mut_slice-2.ensures.value ∙ c.in_ok-leaves.ensures.replies in
    let ws : work ≡ 4 * m.states = omega (arith, c.as_mut_slice-3.ensures.len, c.in_ok-work.ensures.len, c.states.ensures) in (
      whole c.certify.new.leaves c.in_ok-leaves.leaves.items c.in_ok-leaves.leaves.len (omega (arith, c.as_mut_slice.ensures.len)) ∙ (e.leaves ∙ leaves_fit m leaves replies work ls rs ws),
      whole c.certify.new.replies c.in_ok-leaves.replies.items c.in_ok-leaves.replies.len (omega (arith, c.as_mut_slice-2.ensures.len)) ∙ (e.replies ∙ replies_fit m leaves replies work ls rs ws),
      same_ok (e.outcome ∙ counts_fit m leaves replies work ls rs ws),
    )
