use Rattle.std.proofs.Common.{rules}
use Rattle.shape_check.specs.Places.{IsMarksPlace, Each, IsFineTop}
use Rattle.shape_check.proofs.LoopLemmas.{later_fails, marks_on}
use Rattle.shape_check.proofs.MarkLemmas.{marks_checked}
use Rattle.shape_check.proofs.Seen.{looked_on}
use Rattle.shape_check.proofs.marks.check_marks.Goals as goal

pub returns-in_err-check_tops-clause-err : goal.returns-in_err-check_tops-clause-err
returns-in_err-check_tops-clause-err g c =
    later_fails (IsMarksPlace c.args.number) (g.S.Store.stored c.args.store.now) (g.S.Store.stored c.tops_of.new.store) (g.S.Store.stored c.check_tops.new.store)
    c.from_residual-in_err-check_tops.result c.tops_of.ensures.looked (search rules)

pub returns-clause-ok : goal.returns-clause-ok
returns-clause-ok g c =
    let stored = g.S.Store.stored in
    let old = stored c.args.store.now in
    let mid = stored c.check_tops.new.store in
    let later = stored c.files_of.new.store in
    let looked = looked_on old (stored c.tops_of.new.store) mid c.tops_of.ensures.looked c.check_tops.ensures.looked in
    marks_checked old mid later c.args.number c.as_slice.result.now c.as_slice-2.result.now c.check_files.result
    (search rules) looked (marks_on (Each IsFineTop c.as_slice.result.now) c.args.number old (stored c.tops_of.new.store) c.tops_of.ensures.looked (search rules))
    (rw c.as_slice-2.ensures c.in_ok-files.ensures.ok) (looked_on old mid later looked c.files_of.ensures.looked) c.check_files.ensures.ok
