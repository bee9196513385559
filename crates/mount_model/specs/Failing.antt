-- Why a store is not mounted, and what the acts that were made left of it.
use Rattle.std.specs.Prelude.{◌≡◌, ◌⊎◌, ℕ, ◌-◌, ◌^◌, List, Bool, true, false, Option, Some, None, Ok, Err}
use Rattle.store_api.specs.declared.step.Answer.TheVariants.{Made, Names}
use Rattle.store_api.specs.declared.store.Trouble.TheVariants as told_trouble
use Rattle.store_api.specs.Step.{Step}
use Rattle.store_api.specs.Acts.{Stored, Acts}
use Rattle.mount_model.specs.declared.mount_trouble.MountTrouble.{MountTrouble}
use Rattle.mount_model.specs.declared.mount_trouble.MountTrouble.TheVariants.{Damaged, Spent, NoMarks, Fault, NoMemory}
use Rattle.mount_model.specs.Paths.{Name}
use Rattle.mount_model.specs.Listed.{IsGreatest, IsLeastOther, IsMarkOf}
use Rattle.mount_model.specs.Making.{Told}
use Rattle.mount_model.specs.Mounting.{marks_step, list_step, mark_step, room_told, TellsRoom, IsNextMark}

-- the names of the marks, where the second act told them
abbrev pub names_told : Told → Option (List Name)
names_told (Ok (Names names)) = Some names
names_told told = None

-- whether the third act made the mark
abbrev pub made_told : Told → Bool
made_told (Ok Made) = true
made_told told = false

-- the trouble where an act told this in place of what it was to tell
abbrev pub trouble_of : Told → MountTrouble
trouble_of (Ok answer) = NoMarks
trouble_of (Err told_trouble.Fault) = Fault
trouble_of (Err told_trouble.NoMemory) = NoMemory

-- the act told something else, and this is the trouble
pub record FailsAt (step : Step) (isnt : Told → Type 0) (old : Stored) (trouble : MountTrouble) (new : Stored) : Type 0 where
  pub told : Told
  pub made : Acts step old new told
  pub other : isnt told
  pub cause : trouble ≡ trouble_of told

-- the names leave no next mark: one of them is none, or the last one is among them
abbrev pub LeavesNone : List Name → MountTrouble → Type 0
LeavesNone names trouble =
    ((file : Name) × IsLeastOther IsMarkOf names file × (trouble ≡ Damaged file))
    ⊎ (IsGreatest IsMarkOf names (2 ^ 32 - 1) × (trouble ≡ Spent))

-- The first act told no room; or the second no names; or they leave no next mark; or the third did not make it.
pub data FailsToMount (opened : Stored) (trouble : MountTrouble) (left : Stored) : Type 0 where
  no_room : FailsAt marks_step (λ told. room_told told ≡ None) opened trouble left → FailsToMount opened trouble left
  no_names : (roomed : Stored) (room : ℕ) → TellsRoom opened roomed room
      → FailsAt (list_step room) (λ told. names_told told ≡ None) roomed trouble left → FailsToMount opened trouble left
  no_next : (roomed : Stored) (room : ℕ) (names : List Name) → TellsRoom opened roomed room
      → Acts (list_step room) roomed left (Ok (Names names)) → LeavesNone names trouble → FailsToMount opened trouble left
  no_mark : (roomed listed : Stored) (room : ℕ) (names : List Name) (mount : ℕ) → TellsRoom opened roomed room
      → Acts (list_step room) roomed listed (Ok (Names names)) → IsNextMark names mount
      → FailsAt (mark_step room mount) (λ told. made_told told ≡ false) listed trouble left → FailsToMount opened trouble left
