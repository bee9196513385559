-- Where the stages of an installing stand in its program.
use Rattle.std.specs.Prelude.{◌≡◌, ℕ, ◌+◌, ◌*◌, Bool, true, length, Result}
use Rattle.mount_model.specs.declared.stuck.Stuck.{Stuck}
use Rattle.mount_model.specs.Program.{done, followed_by}
use Rattle.mount_model.specs.Standing.{Standing, asked, ready, rest_of}
use Rattle.mount_model.specs.Composed.{is_awaiting}
use Rattle.mount_model.specs.declared.call.Call.{Call}
use Rattle.mount_model.specs.declared.reply.Reply.{Reply}
use Rattle.mount_model.specs.FlowReplies.{on_ok}
use Rattle.index_reader.specs.OpenStages.{open_calls_left, open_rest, open_standing}
use Rattle.flatten_core.specs.declared.stages.Stage.{Stage}
use Rattle.flatten_core.specs.declared.stages.Stage.TheVariants.{Scanning, SyncingLog, SyncingIndex, Putting, Put, SyncingFlat, Installing, Ended}
use Rattle.flatten_core.specs.Installing.{if_done, installs, puts, syncs, syncs_both, syncs_flat, syncs_index, syncs_listed}

abbrev pub installing : ℕ → ℕ → Stage → Standing Call Reply (Result (Unit {0}) Stuck)
installing room flat (Scanning scan covers bytes) = ready (followed_by (open_rest scan) (on_ok (syncs_listed room flat covers bytes)))
installing room flat (SyncingLog d rest bytes) = ready (syncs_both room d (syncs room flat bytes rest))
installing room flat (SyncingIndex d rest bytes) = ready (syncs_index room d (syncs room flat bytes rest))
installing room flat (Putting bytes) = ready (puts flat bytes)
installing room flat Put = asked (if_done (syncs_flat flat))
installing room flat SyncingFlat = ready (syncs_flat flat)
installing room flat Installing = ready (installs flat)
installing room flat (Ended outcome) = ready (done outcome)

-- a listing has a further call
abbrev pub is_underway : Stage → Bool
is_underway (Scanning scan covers bytes) = is_awaiting (rest_of (open_standing scan))
is_underway stage = true

abbrev pub IsUnderway : Stage → Type 0
IsUnderway stage = is_underway stage ≡ true

abbrev pub installs_left : Stage → ℕ
installs_left (Scanning scan covers bytes) = open_calls_left scan + (2 * length covers + 4)
installs_left (SyncingLog d rest bytes) = 2 * length rest + 5
installs_left (SyncingIndex d rest bytes) = 2 * length rest + 4
installs_left (Putting bytes) = 3
installs_left Put = 3
installs_left SyncingFlat = 2
installs_left Installing = 1
installs_left (Ended outcome) = 0
