use Rattle.std.proofs.Common.{arith}
use Rattle.site.proofs.Numbered.{is_a_grade}
use Rattle.site.specs.Grades.{grade_number}
use Rattle.site.specs.TableLaws.{grade_few}
use Rattle.watch.specs.Dials.{dial}
use Rattle.watch.specs.WatchLaws.{watch_range_is}
use Rattle.watch.proofs.watches.Watch.show.Goals as goal

-- the entry is one of those that the watch's invariant speaks of
pub unwrap-requires : goal.unwrap-requires
unwrap-requires c =
    let w = c.args.self.now in
    let f = watch_range_is (dial w) w.ok in
    rw (c.try_from.ensures, c.place_of.ensures) (is_a_grade _ (f.shows_low c.args.position (grade_number c.args.grade) (omega arith) (grade_few c.args.grade)))
