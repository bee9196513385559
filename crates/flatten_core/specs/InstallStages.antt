-- Where the machine that installs a flattened index stands in its program.
use Rattle.std.specs.Prelude.{ℕ, Result}
use Rattle.mount_model.specs.declared.stuck.Stuck.{Stuck}
use Rattle.mount_model.specs.Standing.{Standing}
use Rattle.mount_model.specs.declared.call.Call.{Call}
use Rattle.mount_model.specs.declared.reply.Reply.{Reply}
use Rattle.flatten_core.specs.declared.installing.InstallFlow.{InstallFlow}
use Rattle.flatten_core.specs.Stages.{installing, installs_left}

abbrev pub install_standing : InstallFlow → Standing Call Reply (Result (Unit {0}) Stuck)
install_standing flow = installing flow.room flow.flat flow.stage

abbrev pub install_left : InstallFlow → ℕ
install_left flow = installs_left flow.stage
