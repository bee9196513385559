use Rattle.plfs_program.proofs.SingleRuns.Courses.{courses_twice}
use Rattle.plfs_program.proofs.program_replay_laws.faulted_runs_print_the_same.Goals as goal

pub returns : goal.returns
returns c = λ words input given after another later e f status other failures told told_too alike calm calm_too a b fails too still.
    courses_twice c.scripts_are_told_apart.ensures.one_script c.scripts_are_told_apart.ensures.one_fault c.scripts_are_told_apart.ensures.never_both
    c.inputs_are_told_apart.ensures.one_input c.inputs_are_told_apart.ensures.one_fault c.inputs_are_told_apart.ensures.never_both c.others_change_nothing.ensures
    given after another later e f alike calm calm_too failures still words input status other told told_too a b fails too
