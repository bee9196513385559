use Rattle.std.proofs.Common.{ℕ, subst, sym}
use Rattle.plfs_types.specs.Counts.{HasRisen}
use Rattle.store_api.specs.Step.{step_of}
use Rattle.folder_calls.specs.declared.reason.Doubt.{Doubt}
use Rattle.folder_calls.specs.Doubts.{doubt_of}
use Rattle.folder_calls.specs.Noted.{doubt_by}
use Rattle.store_folder.specs.Syncing.{synced_by, renamed_by, IsDoubtedFor}
use Rattle.store_folder.proofs.Doubting.{first_cause}
use Rattle.store_folder.proofs.store.attempt.Goals as goal

pub returns-clause-doubted : goal.returns-clause-doubted
returns-clause-doubted g c is more =
    let step = step_of c.args.step.now in
    let doubts = c.args.doubts.now in
    let For : Doubt → Type 0 = λ doubt. IsDoubtedFor c.note_syncs.new.doubts step doubt in
    let Rises : ℕ → Type 0 = λ before. HasRisen before (g.C.Calls.unsynced c.make-end.new.self.calls) in
    subst For (first_cause (doubt_of doubts (synced_by step)) (doubt_of doubts (renamed_by step)) (doubt_by (g.C.Calls.told c.make-end.new.self.calls)) is) (c.note_syncs.ensures.doubted (subst Rises (sym c.failed_syncs-before.ensures) more))
