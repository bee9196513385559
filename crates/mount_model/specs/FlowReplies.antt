-- What a reply gives, and what it is where it gives nothing.
use Rattle.std.specs.Prelude.{ℕ, Bool, true, false, List, [], Option, Some, None, Result, Ok, Err}
use Rattle.plfs_types.specs.declared.names.Path.{Path}
use Rattle.store_api.specs.declared.step.Answer.TheVariants.{Names, Number, Bytes, Absent, NoFolder}
use Rattle.mount_model.specs.declared.stuck.Stuck.{Stuck}
use Rattle.mount_model.specs.declared.stuck.Stuck.TheVariants as stuck
use Rattle.mount_model.specs.Program.{Program, done}
use Rattle.mount_model.specs.declared.call.Call.{Call}
use Rattle.mount_model.specs.declared.reply.Reply.{Reply}
use Rattle.mount_model.specs.declared.reply.Reply.TheVariants.{Room, Looked, Refused, Damaged}
use Rattle.mount_model.specs.Paths.{Name}

abbrev pub room_in : Reply → Option ℕ
room_in (Room room) = Some room
room_in reply = None

abbrev pub names_in : Reply → Option (List Name)
names_in (Looked (Names names)) = Some names
names_in reply = None

-- the length of a dropping, which has no bytes where it or its folder is missing
abbrev pub length_in : Reply → Option ℕ
length_in (Looked (Number value)) = Some value
length_in (Looked Absent) = Some 0
length_in (Looked NoFolder) = Some 0
length_in reply = None

abbrev pub bytes_in : Reply → Option (List ℕ)
bytes_in (Looked (Bytes bytes)) = Some bytes
bytes_in reply = None

-- the folder that was looked at is not there
abbrev pub is_no_folder : Reply → Bool
is_no_folder (Looked NoFolder) = true
is_no_folder reply = false

-- what no sound container has at this byte of a file
abbrev pub damage : Path → ℕ → Stuck
damage path place = stuck.Damaged path.folder path.file place

-- The trouble that a reply to a look at this file or folder is, where it doesn't give what was asked for.
abbrev pub trouble : Path → Reply → Stuck
trouble path (Refused why) = stuck.Refused why
trouble path (Damaged folder file) = stuck.Damaged folder file 0
trouble path (Looked NoFolder) = stuck.Damaged path.folder [] 0
trouble path (Looked answer) = stuck.Damaged path.folder path.file 0
trouble path reply = stuck.Fault

-- the same of a reply to a call that looks at nothing
abbrev pub failure : Reply → Stuck
failure (Refused why) = stuck.Refused why
failure (Damaged folder file) = stuck.Damaged folder file 0
failure reply = stuck.Fault

-- a program that may end in a trouble
abbrev pub Tries : Type 0 → Type 0
Tries R = Program Call Reply (Result R Stuck)

-- it goes on with what a reply gave, or ends with the trouble
abbrev pub given : {A R : Type 0} → Option A → Stuck → (A → Tries R) → Tries R
given None why next = done (Err why)
given (Some a) why next = next a

-- it goes on with the result, or ends with the trouble
abbrev pub on_ok : {A R : Type 0} → (A → Tries R) → Result A Stuck → Tries R
on_ok next (Ok a) = next a
on_ok next (Err why) = done (Err why)
