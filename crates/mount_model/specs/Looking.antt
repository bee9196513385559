-- A look at a container: the reply is what the store answered, where that is an answer to such a step.
use Rattle.std.specs.Prelude.{ℕ, [], length, nat_le, Ok, if◌then◌else◌}
use Rattle.plfs_types.specs.declared.names.Path.{Path}
use Rattle.store_api.specs.declared.step.Answer.TheVariants.{Names, NoFolder, Absent, Number, Bytes}
use Rattle.store_api.specs.Step as store
use Rattle.mount_model.specs.declared.call.Look.{Look}
use Rattle.mount_model.specs.declared.call.Look.TheVariants.{Top, List as ListFolder, Length, Read}
use Rattle.mount_model.specs.declared.reply.Reply.{Reply}
use Rattle.mount_model.specs.declared.reply.Reply.TheVariants.{Looked, Damaged}
use Rattle.mount_model.specs.Paths.{Name}
use Rattle.mount_model.specs.State.{State}
use Rattle.mount_model.specs.Making.{Told, CallOutcome, says, otherwise, MakesAct, room_check, UnlessRefused}

abbrev pub look_step : ℕ → Look → store.Step
look_step room Top = store.list_folder room []
look_step room (ListFolder folder) = store.list_folder room folder
look_step room (Length path) = store.length_of room path.folder path.file
look_step room (Read path at len) = store.read_at room path.folder path.file at len

abbrev pub listing_reply : Name → Told → Reply
listing_reply folder (Ok (Names names)) = Looked (Names names)
listing_reply folder (Ok NoFolder) = Looked NoFolder
listing_reply folder told = otherwise folder [] told

abbrev pub length_reply : Path → Told → Reply
length_reply path (Ok (Number value)) = Looked (Number value)
length_reply path (Ok NoFolder) = Looked NoFolder
length_reply path (Ok Absent) = Looked Absent
length_reply path told = otherwise path.folder path.file told

-- no more bytes than were asked for
abbrev pub read_reply : Path → ℕ → Told → Reply
read_reply path len (Ok (Bytes bytes)) = if nat_le (length bytes) len then Looked (Bytes bytes) else Damaged path.folder path.file
read_reply path len (Ok NoFolder) = Looked NoFolder
read_reply path len (Ok Absent) = Looked Absent
read_reply path len told = otherwise path.folder path.file told

abbrev pub look_reply : Look → Told → Reply
look_reply Top told = listing_reply [] told
look_reply (ListFolder folder) told = listing_reply folder told
look_reply (Length path) told = length_reply path told
look_reply (Read path at len) told = read_reply path len told

abbrev pub look_outcome : Look → State → Told → CallOutcome
look_outcome look old told = says (look_reply look told) old.table

abbrev pub LooksAt : ℕ → Look → State → Reply → State → Type 0
LooksAt room look old reply new = UnlessRefused (room_check old room) old reply new
    (MakesAct (look_step room look) (look_outcome look old) old reply new)
