-- A program with two sides: it calls the mount of its source, and makes steps at its target, a second store.
use Rattle.std.specs.Prelude.{ℕ, [], Ok, Err}
use Rattle.store_api.specs.declared.step.Answer.TheVariants.{NoFolder, Beyond}
use Rattle.store_api.specs.declared.store.Trouble.TheVariants as trouble
use Rattle.store_api.specs.Step.{Step, rooms, list_folder, length_of, read_at}
use Rattle.mount_model.specs.declared.call.Call.{Call}
use Rattle.mount_model.specs.declared.call.Call.TheVariants as call
use Rattle.mount_model.specs.declared.call.Look.{Look}
use Rattle.mount_model.specs.declared.call.Look.TheVariants.{Top, List as ListFolder, Length, Read}
use Rattle.mount_model.specs.declared.reply.Reply.{Reply}
use Rattle.mount_model.specs.declared.reply.Reply.TheVariants.{Fault, Looked, NoMemory}
use Rattle.mount_model.specs.Program.{Program, done, ask}
use Rattle.mount_model.specs.Making.{Told}

-- It ends so; or it calls the source, and goes on with the reply; or it makes a step at the target, and goes on with what that told.
pub data Drains (X : Type 0) : Type 0 where
  ends : X → Drains X
  calls : Call → (Reply → Drains X) → Drains X
  acts : Step → (Told → Drains X) → Drains X

-- a program of calls, at the source, and what its result leads to
abbrev pub at_source : {X Y : Type 0} → Program Call Reply X → (X → Drains Y) → Drains Y
at_source (done x) next = next x
at_source (ask call k) next = calls call (λ reply. at_source (k reply) next)

-- ---- looks at the target

-- the step that this look at a room is
abbrev pub step_of_look : ℕ → Look → Step
step_of_look room Top = list_folder room []
step_of_look room (ListFolder folder) = list_folder room folder
step_of_look room (Length path) = length_of room path.folder path.file
step_of_look room (Read path at len) = read_at room path.folder path.file at len

-- The step that a call is which only looks. No other call is made at the target; it would name the rooms.
abbrev pub look_step : Call → Step
look_step (call.Look room look) = step_of_look room look
look_step other = rooms

-- What an act told, as a mount would reply to a look. A missing folder is an answer that no sound target gives there, as others
-- are: a mount would name the folder alone, a drain the file too.
abbrev pub look_reply : Told → Reply
look_reply (Ok NoFolder) = Looked Beyond
look_reply (Ok answer) = Looked answer
look_reply (Err trouble.Fault) = Fault
look_reply (Err trouble.NoMemory) = NoMemory

-- a program of looks, at the target, and what its result leads to
abbrev pub at_target : {X Y : Type 0} → Program Call Reply X → (X → Drains Y) → Drains Y
at_target (done x) next = next x
at_target (ask call k) next = acts (look_step call) (λ told. at_target (k (look_reply told)) next)
