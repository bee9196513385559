use Rattle.plfs_program.proofs.SingleRuns.Each.{play_twice}
use Rattle.plfs_program.proofs.program_replay_laws.faulted_plays_print_the_same.Goals as goal

pub returns : goal.returns
returns c = λ script shows given after another later e f status other failures alike calm calm_too a b fails too still.
    play_twice given after another later e f alike calm calm_too failures still script shows status other a b fails too
