-- The marks of the mounts before, and what a mounting says of them.
use Rattle.std.specs.Prelude.{ℕ, ◌≡◌, ◌-◌, ◌<◌, ◌^◌, List, [], ◌∷◌, find, slice_get, Option, Some, None, option_and_then, if◌then◌else◌}
use Rattle.store_api.specs.declared.tree.Room.{Room}
use Rattle.store_api.specs.declared.tree.Tree.{Tree}
use Rattle.store_api.specs.Names.{same_name}
use Rattle.store_api.specs.Room.{has_folder, listing}
use Rattle.store_api.specs.Step.{Name}
use Rattle.script_lang.specs.declared.line.Line.{Line}
use Rattle.script_lang.specs.declared.line.Outcome.{Outcome}
use Rattle.script_lang.specs.declared.line.Outcome.TheVariants.{Refused, Fault, Damaged}
use Rattle.script_lang.specs.declared.line.Why.TheVariants.{MountsSpent}
use Rattle.mount_model.specs.Listed.{IsGreatest, IsLeastOther, IsMarkOf}
use Rattle.store_api.specs.Names.{marks_folder}
use Rattle.store_api.specs.Names.{marks_name}
use Rattle.mount_model.specs.declared.mount_trouble.MountTrouble.{MountTrouble}
use Rattle.mount_model.specs.declared.mount_trouble.MountTrouble.TheVariants as trouble

-- what is listed in the folder of the marks, where the room has one
abbrev pub listed_in : Room → Option (List Name)
listed_in room = if has_folder room marks_folder then Some (listing room marks_folder) else None

abbrev pub listed_or_none : Option Room → Option (List Name)
listed_or_none None = Some []
listed_or_none (Some room) = listed_in room

-- what is listed in the folder of the marks: no name where the tree has no room of the marks yet
abbrev pub listed_marks : Tree → Option (List Name)
listed_marks tree = listed_or_none (find (λ r. same_name r.name marks_name) tree.rooms)

-- the same in the room of this number
abbrev pub listed_in_room : Tree → ℕ → Option (List Name)
listed_in_room tree number = option_and_then listed_in (slice_get tree.rooms number)

-- a mounting finds all marks, the greatest of them the last number
abbrev pub AreSpent : Option (List Name) → Type 0
AreSpent None = ⊥
AreSpent (Some names) = IsGreatest IsMarkOf names (2 ^ 32 - 1)

-- it finds a name that is no mark, or finds no folder, which is told by the empty name
abbrev pub AreDamagedAt : Name → Option (List Name) → Type 0
AreDamagedAt name None = name ≡ []
AreDamagedAt name (Some names) = IsLeastOther IsMarkOf names name

-- it finds all marks, and a number is left
abbrev pub HaveNext : Option (List Name) → Type 0
HaveNext None = ⊥
HaveNext (Some names) = (greatest : ℕ) × IsGreatest IsMarkOf names greatest × (greatest < 2 ^ 32 - 1)

-- the listed marks are why the mounting broke off, unless the store failed or memory was wanting
abbrev pub AreWhy : Option (List Name) → MountTrouble → Type 0
AreWhy marks (trouble.Damaged file) = AreDamagedAt file marks
AreWhy marks trouble.NoMarks = AreDamagedAt [] marks
AreWhy marks trouble.Spent = AreSpent marks
AreWhy marks trouble.Fault = Unit {0}
AreWhy marks trouble.NoMemory = Unit {0}

-- what line 0 says of a mounting that broke off: nothing of want of memory
abbrev pub unmounted_of : MountTrouble → Option Outcome
unmounted_of (trouble.Damaged file) = Some (Damaged marks_folder file 0)
unmounted_of trouble.NoMarks = Some (Damaged marks_folder [] 0)
unmounted_of trouble.Spent = Some (Refused MountsSpent)
unmounted_of trouble.Fault = Some Fault
unmounted_of trouble.NoMemory = None

-- the one line of a mounting that broke off
abbrev pub IsUnmounted : MountTrouble → List Line → Type 0
IsUnmounted trouble lines = (outcome : Outcome) × (unmounted_of trouble ≡ Some outcome) × (lines ≡ (record { number = 0; outcome = outcome }) ∷ [])
