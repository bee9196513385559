use Rattle.mount_model.specs.Failing.{no_names, no_next, no_mark}
use Rattle.mount_core.proofs.opening.draw_mark.Goals as goal

pub returns-in-Err-list_marks-clause-err : goal.returns-in-Err-list_marks-clause-err
returns-in-Err-list_marks-clause-err g c =
    no_names (g.S.Store.stored c.find_marks.new.store) c.in-Ok.room c.in-Ok.ensures.ok c.in-Err-list_marks.ensures.err

pub returns-in-Err-next_mark-clause-err : goal.returns-in-Err-next_mark-clause-err
returns-in-Err-next_mark-clause-err g c =
    no_next (g.S.Store.stored c.find_marks.new.store) c.in-Ok.room c.in-Ok-list_marks.names c.in-Ok.ensures.ok c.in-Ok-list_marks.ensures.ok
    (rw c.as_slice.ensures at c.in-Err-next_mark.ensures.err)

pub returns-clause-err : goal.returns-clause-err
returns-clause-err g c =
    no_mark (g.S.Store.stored c.find_marks.new.store) (g.S.Store.stored c.list_marks.new.store) c.in-Ok.room c.in-Ok-list_marks.names c.in-Ok-next_mark.mount c.in-Ok.ensures.ok c.in-Ok-list_marks.ensures.ok
    (rw c.as_slice.ensures at c.in-Ok-next_mark.ensures.ok) c.in-Err-put_mark.ensures.err
