use Rattle.std.proofs.Common.{rules}
use Rattle.shape_check.specs.Places.{IsFineFile}
use Rattle.shape_check.proofs.LoopLemmas.{marks_on, one_more, all_of_them, at_hand}
use Rattle.shape_check.proofs.Seen.{looked_on}
use Rattle.shape_check.proofs.marks.check_files.Goals as goal

pub loop-file-preserved : goal.loop-file-preserved
loop-file-preserved g c =
    let old = g.S.Store.stored c.args.store.now in
    let mid = g.S.Store.stored c.loop-file.store in
    let new = g.S.Store.stored c.check_mark.new.store in
    record {
      looked = looked_on old mid new c.loop-file.invariant.looked c.check_mark.ensures.looked;
      fine = one_more IsFineFile c.args.number old c.args.files.now c.loop-file.file-index c.file-item.result (at_hand c.args.files.now c.loop-file.file-index c.file-item.result c.loop-file-test.true c.file-item.is) c.loop-file.invariant.fine
          (marks_on (IsFineFile c.file-item.result) c.args.number old mid c.loop-file.invariant.looked (search rules));
    }

pub returns-clause-ok : goal.returns-clause-ok
returns-clause-ok g c = all_of_them IsFineFile c.args.number (g.S.Store.stored c.args.store.now) c.args.files.now c.loop-file.file-index (search rules) c.loop-file.invariant.fine
