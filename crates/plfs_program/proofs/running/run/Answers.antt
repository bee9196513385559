use Rattle.std.proofs.Common.{refl, rules, inr}
use Rattle.plfs_program.specs.Course.{read, unread}
use Rattle.plfs_program.specs.Ways.{on_threads}
use Rattle.plfs_program.proofs.Courses.CourseLemmas.{course_of_slice}
use Rattle.plfs_program.proofs.running.run.Goals as goal

pub returns-in-Ok : goal.returns-in-Ok
returns-in-Ok g c words are =
    read on_threads c.in-Ok.bytes.items (inr refl) are c.in-Ok.ensures.whole
    (course_of_slice on_threads c.in-Ok.bytes.items c.as_slice.result.now _ _ c.as_slice.ensures.value c.run_input.ensures)

pub returns-in-Err-Failed : goal.returns-in-Err-Failed
returns-in-Err-Failed g c words are = unread on_threads (inr refl) are (search rules) (search rules) refl (search rules)
