use Rattle.program_ends.proofs.Facts.{leaves_sound}
use Rattle.plfs_program.proofs.Courses.Calls.{play_runs}
use Rattle.plfs_program.proofs.laws.a_run_leaves_a_sound_tree.Goals as goal

pub returns-clause-play : goal.returns-clause-play
returns-clause-play c = play_runs

pub returns-clause-sound : goal.returns-clause-sound
returns-clause-sound c = leaves_sound
