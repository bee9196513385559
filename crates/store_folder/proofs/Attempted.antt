-- What is so of a step that was tried, and of one that was refused.
use Rattle.std.proofs.Common.{◌≡◌, ◌∙◌, true, false, Option, Some, None, Result, Err, refl, sym, subst}
use Rattle.std.specs.Prelude.{IfOk, IfSome, is_some}
use Rattle.store_api.specs.declared.step.Answer.{Answer}
use Rattle.store_api.specs.Step.{Step}
use Rattle.folder_calls.specs.declared.failure.Failure.{Failure}
use Rattle.folder_calls.specs.declared.failure.Failure.TheVariants.{Failed}
use Rattle.folder_calls.specs.declared.reason.Doubt.{Doubt}
use Rattle.folder_calls.specs.Calls.{Log}
use Rattle.store_folder.specs.declared.disk.Disk.{Disk}
use Rattle.store_folder.specs.Leaving.{Attempts, unlisted, among}
use Rattle.store_folder.specs.Rooms.{IsStill}
use Rattle.store_folder.specs.Steps.{Numbers, Performs}
use Rattle.store_folder.proofs.Answered.{NoneFailed}
use Rattle.store_folder.proofs.AnsweredSteps.{performed, numbered}
use Rattle.store_folder.proofs.Entering.{if_ok_map}

-- the folder with its calls in another state
abbrev pub with_calls : {C F : Type 0} → Disk C F → C → Disk C F
with_calls disk calls = record { calls = calls; alloc = disk.alloc; root = disk.root; rooms = disk.rooms; is_numbered = disk.is_numbered; «open» = disk.open; own = disk.own }

module _ {C F : Type 0} (log : C → Log F) (old new : Disk C F) (step : Step) (end : Result Answer Failure) where
  -- the rooms have their numbers, and the step was made among them
  abbrev pub MadeAmong : Answer → Type 0
  MadeAmong answer = (rooms : Disk C F) × Numbers old rooms (log old.calls) (log rooms.calls) × Performs rooms new (log rooms.calls) (log new.calls) step answer

  pub made_among : Attempts log old new step end → IfOk end MadeAmong
  made_among (unlisted failure is was still fails) = subst (λ (ended : Result Answer Failure). IfOk ended MadeAmong) (sym is) tt
  made_among (among rooms numbers ends) = if_ok_map end (Performs rooms new (log rooms.calls) (log new.calls) step) MadeAmong (λ answer performs. (rooms, numbers, performs)) ends.performs

  -- no call of it failed where it was answered
  pub none_failed : Attempts log old new step end → IfOk end (λ _. NoneFailed (log old.calls) (log new.calls))
  none_failed attempts = if_ok_map end MadeAmong (λ _. NoneFailed (log old.calls) (log new.calls)) (λ answer made. performed log made.0 new step answer made.2 ∙ numbered log old made.0 made.1) (made_among attempts)

  root_stays : Attempts log old new step end → new.root ≡ old.root
  root_stays (unlisted failure is was still fails) = still.0.0
  root_stays (among rooms numbers ends) = ends.root ∙ numbers.root

  -- a step that is refused changes nothing
  pub same_root : (refusal : Option Doubt) (Same : Type 0) (Told : Doubt → Type 0) → IfSome refusal (λ doubt. IsStill old new × Same × Told doubt) → (is_some refusal ≡ false → Attempts log old new step end) → new.root ≡ old.root
  same_root None Same Told still tried = root_stays (tried refl)
  same_root (Some doubt) Same Told still tried = still.0.0.0

  -- and is never answered
  pub unless_refused : (refusal : Option Doubt) (P : Answer → Type 0) → (is_some refusal ≡ true → end ≡ Err Failed) → (is_some refusal ≡ false → IfOk end P) → IfOk end P
  unless_refused None P refused tried = tried refl
  unless_refused (Some doubt) P refused tried = subst (λ (ended : Result Answer Failure). IfOk ended P) (sym (refused refl)) tt
