use Rattle.std.specs.Prelude.{[]}
use Rattle.plfs_program.proofs.SingleRuns.Quiet.{run_quiet}
use Rattle.plfs_program.proofs.SingleRuns.Twice.{calm_of}
use Rattle.plfs_program.proofs.program_replay_laws.single_runs_print_the_same.Goals as goal

pub returns : goal.returns
returns c = λ words input given after another later e f status other told told_too alike quiet quiet_too fed fed_too a b.
    c.faulted_runs_print_the_same.ensures words input given after another later e f status other [] told told_too alike (calm_of given after e quiet) (calm_of another later f quiet_too) a b
    (run_quiet given after e quiet c.others_change_nothing.ensures words status fed a) (run_quiet another later f quiet_too c.others_change_nothing.ensures words other fed_too b) tt
