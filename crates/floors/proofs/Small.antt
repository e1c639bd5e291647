-- The small floors, by computing what the rules say of them.
use Rattle.std.proofs.Common.{refl}
use Rattle.site.specs.Laid.{laid}
use Rattle.site.specs.Tables.{resting}
use Rattle.parts.specs.Regions.{region, greatest, least, covered, rank, first, second}
use Rattle.floors.specs.Shown.{Shown, floor}
use Rattle.floors.specs.Shown.Example.{Planned}
use Rattle.floors.specs.Examples.{bytes_b, pair_b, bytes_a, pair_a, bytes_c, pair_c, bytes_late, pair_late, pair_resting}

pub plans_b : Shown (Planned (floor bytes_b) pair_b 3 1)
unfolding covered greatest least region rank first second laid
plans_b = (refl, record { leaves_are = refl; replies_are = refl }, refl)

pub plans_a : Shown (Planned (floor bytes_a) pair_a 0 3)
unfolding covered greatest least region rank first second laid
plans_a = (refl, record { leaves_are = refl; replies_are = refl }, refl)

pub plans_c : Shown (Planned (floor bytes_c) pair_c 1 1)
unfolding covered greatest least region rank first second laid
plans_c = (refl, record { leaves_are = refl; replies_are = refl }, refl)

pub plans_late : Shown (Planned (floor bytes_late) pair_late 0 4)
unfolding covered greatest least region rank first second laid
plans_late = (refl, record { leaves_are = refl; replies_are = refl }, refl)

pub plans_resting : Shown (Planned resting pair_resting 1 0)
unfolding covered greatest least region rank first second laid
plans_resting = (refl, record { leaves_are = refl; replies_are = refl }, refl)
