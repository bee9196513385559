use Rattle.std.proofs.Common.{refl, rules}
use Rattle.plfs_program.specs.Course.{packs, packs_unread}
use Rattle.plfs_program.proofs.Courses.PackCourses.{course_of_bytes}
use Rattle.plfs_program.proofs.pack_run.pack.Goals as goal

pub returns-in-Ok : goal.returns-in-Ok
returns-in-Ok g c words are =
    packs c.args.name c.args.region c.in-Ok.bytes.items are c.in-Ok.ensures.whole
    (course_of_bytes c.args.name c.args.region c.in-Ok.bytes.items c.as_slice.result.now _ _ c.as_slice.ensures.value c.pack_bytes.ensures)

pub returns-in-Err-Failed : goal.returns-in-Err-Failed
returns-in-Err-Failed g c words are = packs_unread c.args.name c.args.region are (search rules) (search rules) refl (search rules)
