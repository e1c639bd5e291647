use Rattle.std.proofs.Common.{◌≡◌, [], map, reverse, take, length, vec_items}
use Rattle.site.specs.Refusals.{answered}
use Rattle.desk.specs.Drills.{told_from}
use Rattle.desk.proofs.drills.run_states.Given as goal

abbrev pub invariant-loop-call : goal.invariant-loop-call
invariant-loop-call l =
    let n = length l.yielded in
    vec_items l.states ≡ reverse (told_from [] (take n l.calls) (map answered (take n l.answers)))
