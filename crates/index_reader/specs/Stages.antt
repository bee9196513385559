-- Where the stages of a share stand in its program.
use Rattle.std.specs.Prelude.{ℕ, ◌+◌, ◌*◌, ◌^◌, List, length, All, Result, Ok, Err}
use Rattle.plfs_types.specs.declared.entries.Cover.{Cover}
use Rattle.plfs_types.specs.declared.names.Path.{Path}
use Rattle.mount_model.specs.declared.stuck.Stuck.{Stuck}
use Rattle.interval_merge.specs.Writer.{HasPiece}
use Rattle.mount_model.specs.Program.{done, followed_by}
use Rattle.mount_model.specs.Standing.{Standing, ready}
use Rattle.mount_model.specs.FlowReplies.{Tries, on_ok}
use Rattle.mount_model.specs.declared.call.Call.{Call}
use Rattle.mount_model.specs.declared.reply.Reply.{Reply}
use Rattle.index_reader.specs.declared.listing.Dropping.{Dropping}
use Rattle.index_reader.specs.declared.entries.Tail.{Tail}
use Rattle.index_reader.specs.declared.steps.TailRead.{TailRead}
use Rattle.index_reader.specs.declared.steps.Step.{Step}
use Rattle.index_reader.specs.declared.steps.Step.TheVariants.{Index, Log, Entries}
use Rattle.index_reader.specs.declared.steps.PackRead.{PackRead}
use Rattle.index_reader.specs.declared.steps.PackStep.{PackStep}
use Rattle.index_reader.specs.declared.steps.PackStep.TheVariants as packing
use Rattle.index_reader.specs.declared.steps.DroppingRead.{DroppingRead}
use Rattle.index_reader.specs.declared.steps.DroppingRead.TheVariants as from
use Rattle.index_reader.specs.declared.tail_flow.TailFlow.{TailFlow}
use Rattle.index_reader.specs.declared.tails.After.{After}
use Rattle.index_reader.specs.declared.tails.After.TheVariants.{GoesOn, Is}
use Rattle.index_reader.specs.declared.sharing.Share.{Share}
use Rattle.index_reader.specs.declared.sharing.Sofar.{Sofar}
use Rattle.index_reader.specs.declared.sharing.Stage.{Stage}
use Rattle.index_reader.specs.declared.sharing.Stage.TheVariants.{Underway, Ended}
use Rattle.index_reader.specs.declared.sharing.ShareRead.{ShareRead}
use Rattle.index_reader.specs.Tails.{tail_program, log_then, reads_on}
use Rattle.index_reader.specs.FileStages.{file_left}
use Rattle.index_reader.specs.PackRules.{pack_told}
use Rattle.index_reader.specs.Packs.{pack_program, head_then, pack_tail}
use Rattle.index_reader.specs.Sharing.{gathers, added}

abbrev pub step_program : ℕ → Dropping → Tail → Step → Tries Tail
step_program room d tail Index = tail_program room d tail
step_program room d tail (Log whole) = log_then room d tail whole
step_program room d tail (Entries log whole left ended) = reads_on room d log whole left ended tail

abbrev pub tail_left : ℕ → TailRead → Tries Tail
tail_left room t = step_program room t.dropping t.tail t.step

abbrev pub pack_step : ℕ → Path → Cover → PackStep → Tries Tail
pack_step room path cover packing.Length = pack_program room path cover
pack_step room path cover (packing.Head told) = head_then room path cover told
pack_step room path cover (packing.Rest f) = followed_by (file_left room f) (on_ok (λ bytes. done (pack_tail path cover bytes (pack_told bytes))))

abbrev pub pack_left : ℕ → PackRead → Tries Tail
pack_left room p = pack_step room p.path p.cover p.step

abbrev pub dropping_left : ℕ → DroppingRead → Tries Tail
dropping_left room (from.Entries t) = tail_left room t
dropping_left room (from.Packed p) = pack_left room p

abbrev pub after_left : ℕ → After → Tries Tail
after_left room (GoesOn d) = dropping_left room d
after_left room (Is result) = done result

-- the entries of a tail that is read are pieces of the file
abbrev pub IsOfPieces : After → Type 0
IsOfPieces (GoesOn d) = Unit {0}
IsOfPieces (Is (Ok tail)) = All HasPiece tail.entries
IsOfPieces (Is (Err why)) = Unit {0}

-- bounds on the calls that are left
abbrev pub step_calls : Step → ℕ
step_calls Index = 2 ^ 64 + 2
step_calls (Log whole) = whole + 1
step_calls (Entries log whole left ended) = left

abbrev pub pack_calls : PackStep → ℕ
pack_calls packing.Length = 2 ^ 64 + 1
pack_calls (packing.Head told) = told + 1
pack_calls (packing.Rest f) = f.left

abbrev pub dropping_calls : DroppingRead → ℕ
dropping_calls (from.Entries t) = step_calls t.step
dropping_calls (from.Packed p) = pack_calls p.step

abbrev pub after_calls : After → ℕ
after_calls (GoesOn d) = dropping_calls d
after_calls (Is result) = 0

abbrev pub tail_standing : TailFlow → Standing Call Reply (Result Tail Stuck)
tail_standing flow = ready (after_left flow.room flow.stage)

abbrev pub tail_calls : TailFlow → ℕ
tail_calls flow = after_calls flow.stage

abbrev pub stage_left : ℕ → List Cover → List Dropping → Sofar → Stage → Tries Share
stage_left room covers rest sofar (Underway d) = followed_by (dropping_left room d) (on_ok (λ tail. gathers room covers rest (added tail sofar)))
stage_left room covers rest sofar (Ended result) = done result

abbrev pub stage_calls : List Dropping → Stage → ℕ
stage_calls rest (Underway d) = dropping_calls d + length rest * (2 ^ 64 + 3)
stage_calls rest (Ended result) = 0

abbrev pub share_standing : ShareRead → Standing Call Reply (Result Share Stuck)
share_standing flow = ready (stage_left flow.room flow.covers flow.rest flow.sofar flow.stage)

abbrev pub share_left : ShareRead → ℕ
share_left flow = stage_calls flow.rest flow.stage
