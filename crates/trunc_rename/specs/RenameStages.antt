-- Where the stages of a rename stand in its program.
use Rattle.std.specs.Prelude.{ℕ, Result}
use Rattle.mount_model.specs.declared.stuck.Stuck.{Stuck}
use Rattle.mount_model.specs.Program.{done}
use Rattle.mount_model.specs.Standing.{Standing, ready}
use Rattle.mount_model.specs.declared.call.Call.{Call}
use Rattle.mount_model.specs.declared.reply.Reply.{Reply}
use Rattle.mount_model.specs.Paths.{Name}
use Rattle.mount_model.specs.FlowReplies.{Tries}
use Rattle.trunc_rename.specs.declared.renaming.RenameFlow.{RenameFlow}
use Rattle.trunc_rename.specs.declared.renaming.Stage.{Stage}
use Rattle.trunc_rename.specs.declared.renaming.Stage.TheVariants.{Finding, Holding, Moving, Releasing, Ended}
use Rattle.trunc_rename.specs.Holding.{holds, lets_go}
use Rattle.trunc_rename.specs.Renaming.{rename_program, moves}

abbrev pub renaming : Name → Stage → Tries (Unit {0})
renaming to (Finding name) = rename_program name to
renaming to (Holding room) = holds room (moves to)
renaming to (Moving holder) = moves to holder
renaming to (Releasing holder outcome) = lets_go holder outcome
renaming to (Ended outcome) = done outcome

abbrev pub renames_left : Stage → ℕ
renames_left (Finding name) = 4
renames_left (Holding room) = 3
renames_left (Moving holder) = 2
renames_left (Releasing holder outcome) = 1
renames_left (Ended outcome) = 0

abbrev pub rename_standing : RenameFlow → Standing Call Reply (Result (Unit {0}) Stuck)
rename_standing flow = ready (renaming flow.to flow.stage)

abbrev pub rename_left : RenameFlow → ℕ
rename_left flow = renames_left flow.stage
