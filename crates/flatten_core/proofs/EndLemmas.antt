-- The end of a flattening, and of the machine that does all of it.
use Rattle.std.proofs.Common.{◌≡◌, true, refl}
use Rattle.mount_model.specs.declared.stuck.Stuck.{Stuck}
use Rattle.mount_model.specs.Standing.{IsOver, ready, rest_of}
use Rattle.mount_model.specs.Composed.{is_awaiting}
use Rattle.std.specs.Prelude.{ℕ, Result}
use Rattle.mount_model.specs.FlowReplies.{on_ok}
use Rattle.index_reader.specs.OpenStages.{open_standing}
use Rattle.gather_flow.specs.Gathering.{gather_rest}
use Rattle.flatten_core.specs.declared.flattening.Flattened.{Flattened}
use Rattle.flatten_core.specs.declared.parts.Part.{Part}
use Rattle.flatten_core.specs.declared.parts.Part.TheVariants as part
use Rattle.flatten_core.specs.declared.stages.Stage.{Stage}
use Rattle.flatten_core.specs.declared.stages.Stage.TheVariants.{Scanning, SyncingLog, SyncingIndex, Putting, Put, SyncingFlat, Installing, Ended}
use Rattle.flatten_core.specs.Flattening.{gathers, installs_gathered, lists, tells}
use Rattle.flatten_core.specs.Installing.{syncs_listed}
use Rattle.flatten_core.specs.Parts.{parted, IsPartUnderway}
use Rattle.flatten_core.specs.Stages.{installing, IsUnderway}
use Rattle.flatten_core.specs.StartStages.{starting}
use Rattle.mount_model.proofs.Flows.Composing.{awaiting_then, calling_not_over, not_over}

-- a stage that hasn't ended has a call
pub not_ended : (room flat : ℕ) (stage : Stage) → IsUnderway stage → ((outcome : Result (Unit {0}) Stuck) → stage ≡ Ended outcome → ⊥) → is_awaiting (rest_of (installing room flat stage)) ≡ true
not_ended room flat (Scanning scan covers bytes) is differs = awaiting_then (on_ok (syncs_listed room flat covers bytes)) (open_standing scan) is
not_ended room flat (SyncingLog d rest bytes) is differs = refl
not_ended room flat (SyncingIndex d rest bytes) is differs = refl
not_ended room flat (Putting bytes) is differs = refl
not_ended room flat Put is differs = refl
not_ended room flat SyncingFlat is differs = refl
not_ended room flat Installing is differs = refl
not_ended room flat (Ended outcome) is differs = absurd (differs outcome refl)

-- a machine at its end has a result
pub is_ended : (p : Part) → IsPartUnderway p → IsOver (rest_of (parted p)) → ((outcome : Result Flattened Stuck) → p ≡ part.Ended outcome → ⊥) → ⊥
is_ended (part.Beginning stage) is over differs = not_over (on_ok lists) (ready (starting stage)) is over
is_ended (part.Listing scan started) is over differs = not_over (on_ok (gathers started)) (open_standing scan) is over
is_ended (part.Gathering call gathering started) is over differs = calling_not_over (on_ok (installs_gathered started)) call (gather_rest gathering) is.0 over
is_ended (part.Ending stage started told) is over differs = not_over (tells told) (installing started.room started.flat stage) is.1 over
is_ended (part.Ended outcome) is over differs = differs outcome refl
