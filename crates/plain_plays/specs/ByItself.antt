-- What a plain machine has where a caller by itself opens a reader of a file, or migrates the file.
use Rattle.std.specs.Prelude.{◌≡◌, ◌≢◌, ◌≤◌, ◌<◌, ◌+◌, ℕ, true, List, [], ◌∷◌, length, None, Some, Result, Ok, Err, slice_get}
use Rattle.std.specs.List.{AllByRecursion, Any}
use Rattle.plfs_types.specs.declared.limits.TheConstants.{MAX_PACKED}
use Rattle.mount_model.specs.declared.reply.Refusal.TheVariants.{IdsSpent, NoRoom}
use Rattle.mount_model.specs.declared.stuck.Stuck.{Stuck}
use Rattle.mount_model.specs.declared.stuck.Stuck.TheVariants.{Refused}
use Rattle.mount_model.specs.History.{Event}
use Rattle.mount_model.specs.Paths.{Name}
use Rattle.mount_sound.specs.Ledger.{entries_in}
use Rattle.reader_laws.specs.Moments.{Moment}
use Rattle.index_reader.specs.declared.opened.OpenReader.{OpenReader}
use Rattle.migrate_laws.specs.Moments.{IsLooking}
use Rattle.migrate_core.specs.declared.migrated.Migrated.{Migrated}
use Rattle.migrate_core.specs.Longest.{run_count}
use Rattle.plain_machine.specs.Machine.{Plain, PlainRoom, PlainWriter}
use Rattle.plain_machine.specs.Becoming.{is_spent}
use Rattle.plain_machine.specs.Finding.{find}
use Rattle.plain_machine.specs.Landed.{file_of, landed_of}
use Rattle.plain_plays.specs.Mirrors.{Mirrors}
use Rattle.plain_plays.specs.Readers.{MirrorsReader}

-- whole calls, each of which greets, finds a file or looks at one
abbrev pub AreIdle : List Event → Type 0
AreIdle events = AllByRecursion (λ (e : Event). (e.ask.stop ≡ None) × IsLooking e.ask.call) events

-- The reader has the machine's file of this name. Or the machine has none of the name, and the opening is refused.
pub data OpensByItself (p : Plain) (name : Name) (last : Moment) (out : Result OpenReader Stuck) : Type 0 where
  opened : (reader : OpenReader) (number : ℕ) (room : PlainRoom) → find p name ≡ Some number → slice_get p.rooms number ≡ Some room → out ≡ Ok reader → MirrorsReader last reader (file_of number room) → OpensByItself p name last out
  missing : find p name ≡ None → out ≡ Err (Refused NoRoom) → OpensByItself p name last out

-- the machine, with so many serials drawn
abbrev pub having_drawn : ℕ → Plain → Plain
having_drawn count p = record p { serial = p.serial + count }

-- no two of them have one id
abbrev pub AreSingle : List PlainWriter → Type 0
AreSingle [] = Unit {0}
AreSingle (w ∷ writers) = AllByRecursion (λ (v : PlainWriter). v.id ≢ w.id) writers × AreSingle writers

-- these are writers of the room, each once
pub record AreWritersOf (room : PlainRoom) (writers : List PlainWriter) : Type 0 where
  pub there : AllByRecursion (λ (w : PlainWriter). Any (λ (x : PlainWriter). x ≡ w) room.writers) writers
  pub once : AreSingle writers

-- how many of their writes have landed, in all
abbrev pub landed_in_all : List PlainWriter → ℕ
landed_in_all [] = 0
landed_in_all (w ∷ writers) = w.landed + landed_in_all writers

-- how many runs the entries of each of them make, in all
abbrev pub runs_in_all : List PlainWriter → ℕ
runs_in_all [] = 0
runs_in_all (w ∷ writers) = run_count (entries_in (landed_of w)) + runs_in_all writers

-- What a migration counts, by the machine's room. These writers were packed, all of what has landed of them. These were left, since too much has.
pub record TellsPacked (room : PlainRoom) (told : Migrated) : Type 0 where
  pub packed : List PlainWriter
  pub are : AreWritersOf room packed
  pub short : AllByRecursion (λ (w : PlainWriter). (1 ≤ w.landed) × (w.landed ≤ MAX_PACKED)) packed
  pub writers : told.writers ≡ length packed
  pub entries : told.entries ≡ landed_in_all packed
  pub runs : told.runs ≡ runs_in_all packed
  pub left : List PlainWriter
  pub are_too : AreWritersOf room left
  pub long : AllByRecursion (λ (w : PlainWriter). MAX_PACKED < w.landed) left
  pub left_counted : told.left ≡ length left

-- The machine has its files as before, and has drawn a serial for each writer that was packed. Or it has none of the name. Or no serial was left for a further
-- writer.
pub data MigratesByItself (p : Plain) (name : Name) (last : Moment) (out : Result Migrated Stuck) : Type 0 where
  migrated : (number : ℕ) (room : PlainRoom) (told : Migrated) → find p name ≡ Some number → slice_get p.rooms number ≡ Some room → out ≡ Ok told → TellsPacked room told → Mirrors last (having_drawn told.writers p) → MigratesByItself p name last out
  spent : (number count : ℕ) → find p name ≡ Some number → out ≡ Err (Refused IdsSpent) → is_spent (having_drawn count p) ≡ true → Mirrors last (having_drawn count p) → MigratesByItself p name last out
  missing_file : find p name ≡ None → out ≡ Err (Refused NoRoom) → Mirrors last p → MigratesByItself p name last out
