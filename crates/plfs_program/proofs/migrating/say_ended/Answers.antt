use Rattle.std.proofs.Common.{sym}
use Rattle.plfs_program.proofs.Courses.MigrateCourses.{stuck_has_text}
use Rattle.plfs_program.proofs.migrating.say_ended.Goals as goal

pub say_line-requires : goal.say_line-requires
say_line-requires g c = rw (sym c.stuck_outcome.ensures) at (stuck_has_text c.in-Err.because)
