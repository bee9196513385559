-- The names of all files.
use Rattle.std.specs.Prelude.{List, filter, Result, Ok, Err}
use Rattle.plfs_types.specs.Names.{is_logical}
use Rattle.mount_model.specs.declared.stuck.Stuck.{Stuck}
use Rattle.mount_model.specs.Program.{done, ask}
use Rattle.mount_model.specs.declared.call.Call.TheVariants.{Rooms as AskRooms}
use Rattle.mount_model.specs.declared.reply.Reply.{Reply}
use Rattle.mount_model.specs.declared.reply.Reply.TheVariants.{Rooms}
use Rattle.mount_model.specs.Paths.{Name}
use Rattle.mount_model.specs.FlowReplies.{Tries, failure}

-- the logical names among these, in their order
abbrev pub logical_among : List Name → List Name
logical_among names = filter is_logical names

-- the names of files that a reply tells
abbrev pub names_told : Reply → Result (List Name) Stuck
names_told (Rooms names) = Ok (logical_among names)
names_told reply = Err (failure reply)

-- one call names all containers
abbrev pub names_program : Tries (List Name)
names_program = ask AskRooms (λ reply. done (names_told reply))
