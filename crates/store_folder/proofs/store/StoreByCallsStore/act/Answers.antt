use Rattle.std.proofs.Common.{◌≡◌, ◌⊎◌, ◌∙◌, ℕ, false, refl, sym, ap, subst}
use Rattle.plfs_types.specs.Counts.{HasRisen}
use Rattle.store_api.specs.Step.{step_of}
use Rattle.folder_calls.specs.Calls.{Log, failed_calls}
use Rattle.folder_calls.specs.declared.reason.Reason.TheVariants.{Unsynced}
use Rattle.folder_calls.specs.Noted.{noted, doubt_by}
use Rattle.folder_calls.specs.Syncs.{HasFailedSync}
use Rattle.store_folder.specs.Syncing.{refusal, is_refused, IsDoubtedFor}
use Rattle.std.specs.Prelude.{string_bytes}
use Rattle.store_api.specs.declared.step.Answer.{Answer}
use Rattle.store_folder.specs.Made.{MakesStep}
use Rattle.store_folder.proofs.Answered.{NoneFailed}
use Rattle.store_folder.proofs.Attempted.{with_calls, MadeAmong, made_among, none_failed, same_root, unless_refused}
use Rattle.store_folder.proofs.Doubting.{if_told, if_some, counts_more, not_refused}
use Rattle.store_folder.proofs.store.StoreByCallsStore.act.Goals as goal

pub returns-clause-told : goal.returns-clause-told
returns-clause-told g c = c.settle.ensures.told (step_of c.args.step.now)

pub returns-clause-still : goal.returns-clause-still
returns-clause-still g c =
    if_some (refusal c.args.self.now.doubts (step_of c.args.step.now)) _ _ (λ doubt still. (still.0, still.1 ∙ c.forget.ensures.uncalled, still.2 ∙ ap (λ was. noted was (Unsynced doubt)) c.forget.ensures.forgotten)) c.attempt-end.ensures.still

pub returns-clause-performs : goal.returns-clause-performs
returns-clause-performs g c =
    let step = step_of c.args.step.now in
    let start = with_calls c.args.self.now.disk c.forget.new.self in
    let later = c.attempt-end.new.disk in
    let end = c.attempt-end.result in
    let Made = MadeAmong g.C.Calls.log start later step end in
    if_told end c.settle.result Made (MakesStep g.C.Calls.log c.args.self.now.disk later step) c.settle.ensures.tells (λ answer made. record { start = start; numbered = made.0; same = ((refl, refl, refl), refl, refl); uncalled = c.forget.ensures.uncalled; numbers = made.1; performs = made.2 }) (unless_refused g.C.Calls.log start later step end (refusal c.args.self.now.doubts step) Made c.attempt-end.ensures.refused (λ is. made_among g.C.Calls.log start later step end (c.attempt-end.ensures.attempted is)))

pub returns-clause-well : goal.returns-clause-well
returns-clause-well g c =
    let step = step_of c.args.step.now in
    let start = with_calls c.args.self.now.disk c.forget.new.self in
    let later = c.attempt-end.new.disk in
    let end = c.attempt-end.result in
    let Well : Answer → Type 0 = λ answer. NoneFailed (g.C.Calls.log start.calls) (g.C.Calls.log later.calls) in
    if_told end c.settle.result Well (λ answer. NoneFailed (g.C.Calls.log c.args.self.now.disk.calls) (g.C.Calls.log later.calls)) c.settle.ensures.tells (λ answer same. same ∙ ap failed_calls c.forget.ensures.uncalled) (unless_refused g.C.Calls.log start later step end (refusal c.args.self.now.doubts step) Well c.attempt-end.ensures.refused (λ is. none_failed g.C.Calls.log start later step end (c.attempt-end.ensures.attempted is)))

pub returns-clause-root : goal.returns-clause-root
returns-clause-root g c =
    let step = step_of c.args.step.now in
    let start = with_calls c.args.self.now.disk c.forget.new.self in
    ap string_bytes (same_root g.C.Calls.log start c.attempt-end.new.disk step c.attempt-end.result (refusal c.args.self.now.doubts step) _ _ c.attempt-end.ensures.still c.attempt-end.ensures.attempted)

pub returns-clause-ends : goal.returns-clause-ends
returns-clause-ends g c =
    record {
      end = c.attempt-end.result;
      tells = c.settle.ensures.tells;
      attempted = λ is. (_, ((refl, refl, refl), refl, refl), c.forget.ensures.uncalled, c.attempt-end.ensures.attempted is);
    }

pub returns-clause-doubts : goal.returns-clause-doubts
returns-clause-doubts g c =
    let step = step_of c.args.step.now in
    let unsynced = g.C.Calls.unsynced in
    let start = c.forget.new.self in
    let later = c.attempt-end.new.disk.calls in
    let doubt = doubt_by (g.C.Calls.told later) in
    let Doubts : ℕ → Type 0 = λ before. is_refused c.args.self.now.doubts step ≡ false → HasRisen before (unsynced later) → IsDoubtedFor c.attempt-end.new.doubts step doubt in
    let Only : ℕ → Type 0 = λ before. HasRisen before (unsynced later) ⊎ (c.attempt-end.new.doubts ≡ c.args.self.now.doubts) in
    let Fails : Log g.row.F.Denot → Type 0 = λ log. HasFailedSync log (g.C.Calls.log later) in
    record {
      doubted = subst Doubts c.forget.ensures.syncs c.attempt-end.ensures.doubted;
      told = λ more.
          let failed = subst Fails (sym c.forget.ensures.uncalled) more in
          not_refused (refusal c.args.self.now.doubts step) (g.C.Calls.log start) (g.C.Calls.log later) _ _ (IsDoubtedFor c.attempt-end.new.doubts step doubt) c.attempt-end.ensures.still (λ is. c.attempt-end.ensures.doubted is (counts_more (g.C.Calls.log start) (g.C.Calls.log later) (unsynced start) (unsynced later) (g.C.Calls.counted start) (g.C.Calls.counted later) failed)) failed;
      only = subst Only c.forget.ensures.syncs c.attempt-end.ensures.only;
    }
