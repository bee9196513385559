-- What an actor does for one statement.
use Rattle.std.specs.Prelude.{Result}
use Rattle.mount_model.specs.Process.{Process, tells, ends}
use Rattle.mount_model.specs.declared.stuck.Stuck.{Stuck}
use Rattle.mount_model.specs.declared.call.Ask.{Ask}
use Rattle.mount_model.specs.declared.reply.Reply.{Reply}
use Rattle.index_reader.specs.declared.sharing.Share.{Share}
use Rattle.actor_core.specs.Endings.{Ending}

-- It makes calls, and tells how the statement ends. The shares of a reader may be read by workers.
abbrev pub Work : Type 0
Work = Process Ask Reply (Result Share Stuck) Ending

-- it is at its end
abbrev pub finishes : Ending → Work
finishes ending = tells ending ends
