-- The stages in which a writer may make a call.
use Rattle.std.specs.Prelude.{Bool}
use Rattle.mount_model.specs.declared.row.Stage.{Stage}
use Rattle.mount_model.specs.Table.{only, may_close, is_live}
use Rattle.mount_table.specs.declared.stages.Stages.{Stages}
use Rattle.mount_table.specs.declared.stages.Stages.TheVariants.{Only, Closable, Live}

abbrev pub allowed : Stages → Stage → Bool
allowed (Only wanted) stage = only wanted stage
allowed Closable stage = may_close stage
allowed Live stage = is_live stage
