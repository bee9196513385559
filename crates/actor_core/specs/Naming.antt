-- Where the call that names all files stands.
use Rattle.std.specs.Prelude.{ℕ, List, Result}
use Rattle.mount_model.specs.declared.stuck.Stuck.{Stuck}
use Rattle.mount_model.specs.Program.{done}
use Rattle.mount_model.specs.Standing.{Standing, ready}
use Rattle.mount_model.specs.declared.call.Call.{Call}
use Rattle.mount_model.specs.declared.reply.Reply.{Reply}
use Rattle.mount_model.specs.Paths.{Name}
use Rattle.mount_model.specs.FlowReplies.{Tries}
use Rattle.actor_core.specs.declared.names.NamesRead.{NamesRead}
use Rattle.actor_core.specs.declared.names.NamesRead.TheVariants.{Asking, Told}
use Rattle.actor_core.specs.Names.{names_program}

abbrev pub naming : NamesRead → Tries (List Name)
naming Asking = names_program
naming (Told result) = done result

abbrev pub names_standing : NamesRead → Standing Call Reply (Result (List Name) Stuck)
names_standing flow = ready (naming flow)

abbrev pub names_left : NamesRead → ℕ
names_left Asking = 1
names_left (Told result) = 0
