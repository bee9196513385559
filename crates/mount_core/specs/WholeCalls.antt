-- The calls on a writer whose acts have no bytes.
use Rattle.std.specs.Prelude.{ℕ, Option, Some}
use Rattle.store_api.specs.Step.{Step, list_folder}
use Rattle.mount_model.specs.declared.call.Call.{Call}
use Rattle.mount_model.specs.declared.call.Call.TheVariants as call
use Rattle.mount_model.specs.declared.row.Row.{Row}
use Rattle.mount_model.specs.declared.row.Stage.TheVariants as stage
use Rattle.mount_model.specs.Paths.{truncs}
use Rattle.mount_model.specs.Acting.{unless}
use Rattle.mount_model.specs.Building.{hostdir_step, index_step, log_step}
use Rattle.mount_model.specs.Flushing.{sync_log_step, sync_index_step}
use Rattle.mount_model.specs.Leaving.{put_meta_check, put_meta_step, exit_check, exit_step}
use Rattle.mount_table.specs.declared.stages.Stages.{Stages}
use Rattle.mount_table.specs.declared.stages.Stages.TheVariants.{Only, Closable, Live}
use Rattle.mount_core.specs.declared.parting.WholeCall.{WholeCall}
use Rattle.mount_core.specs.declared.parting.WholeCall.TheVariants.{Floor, Hostdir, Index, Log, SyncLog, SyncIndex, Meta, Exit}

-- the call on this writer
abbrev pub call_of : WholeCall → ℕ → Call
call_of Floor writer = call.Floor writer
call_of Hostdir writer = call.MakeHostdir writer
call_of Index writer = call.MakeIndex writer
call_of Log writer = call.MakeLog writer
call_of SyncLog writer = call.SyncLog writer
call_of SyncIndex writer = call.SyncIndex writer
call_of Meta writer = call.PutMeta writer
call_of Exit writer = call.Exit writer

-- the stages in which it is made
abbrev pub stages_of : WholeCall → Stages
stages_of Floor = Only stage.Entered
stages_of Hostdir = Only stage.Floored
stages_of Index = Only stage.Housed
stages_of Log = Only stage.Indexed
stages_of SyncLog = Only stage.Open
stages_of SyncIndex = Only stage.Open
stages_of Meta = Closable
stages_of Exit = Live

-- its act on this row
abbrev pub row_act : WholeCall → Row → Option Step
row_act Floor row = Some (list_folder row.room truncs)
row_act Hostdir row = Some (hostdir_step row)
row_act Index row = Some (index_step row)
row_act Log row = Some (log_step row)
row_act SyncLog row = Some (sync_log_step row)
row_act SyncIndex row = Some (sync_index_step row)
row_act Meta row = unless (put_meta_check row) (put_meta_step row)
row_act Exit row = unless (exit_check row) (exit_step row)
