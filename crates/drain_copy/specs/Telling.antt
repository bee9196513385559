-- What replies and answers tell a drain, and the trouble that they are where they tell nothing.
use Rattle.std.specs.Prelude.{ℕ, [], Option, Some, None, Result, Ok, Err}
use Rattle.plfs_types.specs.declared.names.Path.{Path}
use Rattle.store_api.specs.declared.step.Answer.{Answer}
use Rattle.store_api.specs.declared.step.Answer.TheVariants.{Absent, Made, NoFolder, Number, Old}
use Rattle.mount_model.specs.declared.stuck.Stuck.{Stuck}
use Rattle.mount_model.specs.declared.stuck.Stuck.TheVariants as stuck
use Rattle.mount_model.specs.FlowReplies.{failure, room_in}
use Rattle.mount_model.specs.declared.reply.Reply.{Reply}
use Rattle.mount_model.specs.declared.reply.Reply.TheVariants.{Done}
use Rattle.mount_model.specs.Paths.{Name}
use Rattle.container_layout.specs.Paths.{openhosts}
use Rattle.drain_copy.specs.declared.outcome.Drained.{Drained}
use Rattle.drain_copy.specs.declared.outcome.DrainStuck.{DrainStuck}
use Rattle.drain_copy.specs.declared.outcome.DrainStuck.TheVariants.{Source, TargetDamaged, TargetFault}
use Rattle.drain_copy.specs.Asking.{Drains, ends}
use Rattle.mount_model.specs.Making.{Told}

-- what a drain comes to
abbrev pub Outcome : Type 0
Outcome = Result Drained DrainStuck

abbrev pub DrainsOn : Type 0
DrainsOn = Drains Outcome

-- it goes on with the result, or ends with the trouble
abbrev pub on_good : {X : Type 0} → (X → DrainsOn) → Result X DrainStuck → DrainsOn
on_good next (Ok x) = next x
on_good next (Err why) = ends (Err why)

-- ---- the source

abbrev pub of_source : {X : Type 0} → Result X Stuck → Result X DrainStuck
of_source (Ok x) = Ok x
of_source (Err why) = Err (Source why)

abbrev pub or_stuck : {X : Type 0} → Option X → Stuck → Result X DrainStuck
or_stuck None why = Err (Source why)
or_stuck (Some x) why = Ok x

-- the room that a Find found
abbrev pub found_room : Reply → Result ℕ DrainStuck
found_room reply = or_stuck (room_in reply) (failure reply)

abbrev pub done_in : Reply → Option (Unit {0})
done_in Done = Some tt
done_in reply = None

-- a dropping was synced
abbrev pub kept : Reply → Result (Unit {0}) DrainStuck
kept reply = or_stuck (done_in reply) (failure reply)

-- ---- the target

-- a trouble of looks at it, which are refused nothing
abbrev pub stuck_there : Stuck → DrainStuck
stuck_there stuck.Fault = TargetFault
stuck_there (stuck.Damaged folder file place) = TargetDamaged folder file place
stuck_there (stuck.Refused why) = TargetFault

abbrev pub of_target : {X : Type 0} → Result X Stuck → Result X DrainStuck
of_target (Ok x) = Ok x
of_target (Err why) = Err (stuck_there why)

-- an answer that no sound target gives there is damage at the act's own folder and file, at place 0
abbrev pub or_damaged : {X : Type 0} → Path → Option X → Result X DrainStuck
or_damaged path None = Err (TargetDamaged path.folder path.file 0)
or_damaged path (Some x) = Ok x

abbrev pub told_well : {X : Type 0} → Path → (Answer → Option X) → Told → Result X DrainStuck
told_well path good (Ok answer) = or_damaged path (good answer)
told_well path good (Err why) = Err TargetFault

-- an act that names no file, or none at all
abbrev pub folder_alone : Name → Path
folder_alone folder = record { folder = folder; file = [] }

-- the number of a room that is sought, or that there is none
abbrev pub sought : Answer → Option (Option ℕ)
sought (Number number) = Some (Some number)
sought Absent = Some None
sought answer = None

-- the number of a room that was made, or that was there
abbrev pub roomed : Answer → Option ℕ
roomed (Number number) = Some number
roomed (Old room) = Some room
roomed answer = None

-- what was to be made was made, or was there
abbrev pub made_or_old : Answer → Option (Unit {0})
made_or_old Made = Some tt
made_or_old (Old room) = Some tt
made_or_old answer = None

abbrev pub made_now : Answer → Option (Unit {0})
made_now Made = Some tt
made_now answer = None

-- An entry among those that have the container open. Where their folder is missing, it is that folder which is told.
abbrev pub entry_made : Path → Told → Result (Unit {0}) DrainStuck
entry_made path (Ok NoFolder) = Err (TargetDamaged openhosts [] 0)
entry_made path told = told_well path made_or_old told
