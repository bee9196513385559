use Rattle.std.specs.Prelude.{[]}
use Rattle.plfs_program.proofs.SingleRuns.Each.{play_twice}
use Rattle.plfs_program.proofs.SingleRuns.Quiet.{play_quiet}
use Rattle.plfs_program.proofs.SingleRuns.Twice.{calm_of}
use Rattle.plfs_program.proofs.program_replay_laws.plays_print_the_same.Goals as goal

pub returns : goal.returns
returns c = λ script shows given after another later e f status other alike quiet quiet_too fed fed_too a b.
    play_twice given after another later e f alike (calm_of given after e quiet) (calm_of another later f quiet_too) [] tt script shows status other a b
    (play_quiet given after e quiet script shows status fed a) (play_quiet another later f quiet_too script shows other fed_too b)
