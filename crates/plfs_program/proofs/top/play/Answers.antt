use Rattle.std.proofs.Common.{refl, rules}
use Rattle.plfs_program.specs.Course.{read, unread}
use Rattle.plfs_program.specs.Ways.{by_turns}
use Rattle.plfs_program.proofs.Courses.CourseLemmas.{course_of_slice}
use Rattle.plfs_program.proofs.top.play.Goals as goal

pub returns-in-Ok : goal.returns-in-Ok
returns-in-Ok g c words are =
    read by_turns c.in-Ok.bytes.items tt are c.in-Ok.ensures.whole
    (course_of_slice by_turns c.in-Ok.bytes.items c.as_slice.result.now _ _ c.as_slice.ensures.value c.play_input.ensures)

pub returns-in-Err-Failed : goal.returns-in-Err-Failed
returns-in-Err-Failed g c words are = unread by_turns tt are (search rules) (search rules) refl (search rules)
