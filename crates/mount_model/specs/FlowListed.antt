-- What the names of a listing tell, of which a foreign one is damage.
use Rattle.std.specs.Prelude.{List, [], Option, Some, None, Result, Err}
use Rattle.plfs_types.specs.declared.names.Path.{Path}
use Rattle.mount_model.specs.declared.stuck.Stuck.{Stuck}
use Rattle.mount_model.specs.declared.reply.Reply.{Reply}
use Rattle.mount_model.specs.Paths.{Name}
use Rattle.mount_model.specs.FlowReplies.{names_in, damage, trouble}

abbrev pub file_in : Name → Name → Path
file_in folder name = record { folder = folder; file = name }

-- it goes on with what is there, or ends with the trouble
abbrev pub or_trouble : {A B : Type 0} → Option A → Stuck → (A → Result B Stuck) → Result B Stuck
or_trouble None why next = Err why
or_trouble (Some a) why next = next a

-- it goes on with the item of this name in a folder, or the name is foreign there
abbrev pub known : {A B : Type 0} → Name → Name → Option A → (A → Result B Stuck) → Result B Stuck
known folder name item next = or_trouble item (damage (file_in folder name) 0) next

-- what a reply to the listing of a folder tells, where this is what its names tell
abbrev pub told_by : {A : Type 0} → Name → (List Name → Result A Stuck) → Reply → Result A Stuck
told_by folder tells reply = or_trouble (names_in reply) (trouble (file_in folder []) reply) tells
