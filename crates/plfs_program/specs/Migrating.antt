-- What becomes of a container whose closed writers are packed.
use Rattle.std.specs.Prelude.{ℕ, ◌≡◌, ◌⊎◌, Bool, true, false, List, [], ◌∷◌, ◌++◌, Option, Some, Result, Ok, Err, IfOk, codes}
use Rattle.std.specs.Fmt.{decimal}
use Rattle.plfs_types.specs.Counts.{HasRisen}
use Rattle.edge_io.specs.Sink.{Taking}
use Rattle.store_api.specs.Acts.{Stored}
use Rattle.mount_model.specs.declared.stuck.Stuck.{Stuck}
use Rattle.mount_model.specs.State.{State}
use Rattle.mount_model.specs.Mounting.{IsMounted}
use Rattle.mount_model.specs.Failing.{FailsToMount}
use Rattle.mount_model.specs.declared.mount_trouble.MountTrouble.{MountTrouble}
use Rattle.mount_sound.specs.Sound.{IsClean}
use Rattle.migrate_core.specs.declared.migrated.Migrated.{Migrated}
use Rattle.migrate_core.specs.Migrating.{migrate_program}
use Rattle.migrate_laws.specs.Migrated.{HasMigrated}
use Rattle.trouble_laws.specs.Undamaged.{IsUndamaged}
use Rattle.lone_flow.specs.Driving.{BeginsToMake, Makes}
use Rattle.lone_flow.specs.Faults.{IsFault}
use Rattle.lone_flow.specs.Migrating.{Migrates}
use Rattle.outcomes.specs.Outcomes.{stuck_outcome}
use Rattle.script_lang.specs.declared.line.Line.{Line}
use Rattle.script_lang.specs.declared.line.Outcome.{Outcome}
use Rattle.report_text.specs.Text.{text_of}
use Rattle.program_ends.specs.Ends.{Ends}
use Rattle.program_ends.specs.Mounting.{unmounted_of}
use Rattle.program_ends.specs.Outcomes.{is_damage, is_fault, status_of}
use Rattle.program_ends.specs.Output.{IsPrinted, IsCutOff}
use Rattle.program_ends.specs.Leaving.{IsStoreLeft}
use Rattle.program_ends.specs.Reported.{IsReported, line_zero}
use Rattle.program_ends.specs.SoundTrees.{TellsSoundTree}
use Rattle.program_ends.specs.Outcomes.{is_broken_by}

-- ---- what is said

-- how many writers were packed, how many entries and runs they have, and how many writers were left
abbrev pub migrated_line : Migrated → List ℕ
migrated_line out =
    codes "migrated " ++ (decimal out.writers ++ (codes " " ++ (decimal out.entries ++ (codes " " ++ (decimal out.runs ++ (codes " left " ++ (decimal out.left ++ codes "\n")))))))

-- how much was packed, or what broke it off
abbrev pub Said : Type 0
Said = Result Migrated Outcome

abbrev pub said_of : Result Migrated Stuck → Said
said_of (Ok out) = Ok out
said_of (Err why) = Err (stuck_outcome why)

abbrev pub said_text : Said → List ℕ
said_text (Ok out) = migrated_line out
said_text (Err outcome) = text_of (line_zero outcome ∷ [])

abbrev pub said_status : Said → ℕ
said_status (Ok out) = 0
said_status (Err outcome) = status_of (line_zero outcome ∷ [])

-- ---- what was done

-- A mount was made of the store as it was. On it caller 0 by itself greeted and made the calls of a migration of this file, which ended so and led to what is left
-- of the store. Where that told a sound tree, these calls packed the container of the name and left no writer out, and what is counted is right.
pub record IsMigratedOn (times : Option (List ℕ)) (before : Stored) (name : List ℕ) (ended : Result Migrated Stuck) (after : Stored) : Type 0 where
  pub start : State
  pub end : State
  pub mounted : IsMounted 0 times before start
  pub made : Makes (migrate_program name) start ended end
  pub left : end.store ≡ after
  pub packed : TellsSoundTree before → IfOk ended (λ out. HasMigrated 0 name start made.events out)

-- The mounting broke off, of which that is said; or it was migrated, and that is said of how it ended.
pub data IsSaidOf (times : Option (List ℕ)) (before after : Stored) (name : List ℕ) (said : Said) : Type 0 where
  unmounted : (trouble : MountTrouble) (outcome : Outcome) → FailsToMount before trouble after → unmounted_of trouble ≡ Some outcome → said ≡ Err outcome → IsSaidOf times before after name said
  mounted : (ended : Result Migrated Stuck) → IsMigratedOn times before name ended after → said ≡ said_of ended → IsSaidOf times before after name said

-- That is said of the migration. A fault is the store's own, and there is no damage where the store told a sound tree.
pub record IsMigratedAs (name : List ℕ) (said : Said) (e : Ends) : Type 0 where
  pub after : Stored
  pub left : e.stored_after ≡ Some after
  pub came : IsSaidOf e.times e.stored after name said
  pub cause : is_broken_by is_fault said ≡ true → HasRisen e.stored.faults after.faults
  pub undamaged : TellsSoundTree e.stored → is_broken_by is_damage said ≡ false

-- caller 0 by itself made the calls of a migration of this file to their end, or was broken off
abbrev pub HasBegunIt : List ℕ → State → State → Type 0
HasBegunIt name start end = ((ended : Result Migrated Stuck) × Makes (migrate_program name) start ended end) ⊎ BeginsToMake (migrate_program name) start end

-- What becomes of it: one line is printed, or a front of it where the sink broke. Where memory was refused there is none.
pub data MigrateCourse (name : List ℕ) (e : Ends) (status : ℕ) : Type 0 where
  printed : (said : Said) → IsMigratedAs name said e → IsPrinted (said_text said) e.taking e.taking_after → status ≡ said_status said → MigrateCourse name e status
  cut_off : (said : Said) → IsMigratedAs name said e → IsCutOff (said_text said) e.taking e.taking_after → status ≡ 6 → MigrateCourse name e status
  exhausted : IsStoreLeft (HasBegunIt name) e → e.taking_after ≡ e.taking → status ≡ 3 → MigrateCourse name e status

-- ---- on a mount

-- a migration from one state to the other ended so
pub record IsMigration (name : List ℕ) (start : State) (ended : Result Migrated Stuck) (end : State) : Type 0 where
  pub made : Migrates name start ended end
  pub cause : IsFault ended → HasRisen start.store.faults end.store.faults
  pub undamaged : IsClean start → IsUndamaged ended

-- a migration was made, and reported; or memory was refused in it
pub data MigratesOn (name : List ℕ) (start : State) (taking : Taking) (end : State) (taking_after : Taking) (status : ℕ) : Type 0 where
  ended_so : (ended : Result Migrated Stuck) → IsMigration name start ended end → IsReported (said_text (said_of ended)) (said_status (said_of ended)) taking taking_after status → MigratesOn name start taking end taking_after status
  starved : BeginsToMake (migrate_program name) start end → taking_after ≡ taking → status ≡ 3 → MigratesOn name start taking end taking_after status
