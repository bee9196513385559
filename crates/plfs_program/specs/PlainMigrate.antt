-- A migration beside a plain machine, whose files it leaves as they are.
use Rattle.std.specs.Prelude.{ℕ, ◌≡◌, true, [], ◌∷◌, Some, None, Ok, Err, slice_get}
use Rattle.store_api.specs.declared.tree.Tree.{Tree}
use Rattle.store_api.specs.Acts.{Stored}
use Rattle.mount_model.specs.Paths.{Name}
use Rattle.migrate_core.specs.declared.migrated.Migrated.{Migrated}
use Rattle.script_lang.specs.declared.line.Outcome.TheVariants.{Refused}
use Rattle.script_lang.specs.declared.line.Why.TheVariants.{IdsSpent, MountsSpent, NoFile}
use Rattle.script_lang.specs.declared.script.Script.{Script}
use Rattle.report_text.specs.Text.{text_of}
use Rattle.plain_machine.specs.Machine.{Plain, PlainRoom}
use Rattle.plain_machine.specs.Becoming.{is_spent}
use Rattle.plain_machine.specs.Finding.{find}
use Rattle.plain_plays.specs.ByItself.{TellsPacked, having_drawn}
use Rattle.plain_plays.specs.OverStores.{BeginsOver, MountsAs}
use Rattle.program_ends.specs.Ends.{Ends}
use Rattle.program_ends.specs.Mounting.{AreSpent, listed_marks}
use Rattle.program_ends.specs.Output.{IsPrinted}
use Rattle.program_ends.specs.Reported.{line_zero}
use Rattle.program_ends.specs.SoundTrees.{TellsSoundTree}
use Rattle.plfs_program.specs.Migrating.{Said, said_status, said_text}
use Rattle.plfs_program.specs.PlainLeft.{IsLeftWith}

-- The machine has its rooms as before, and what is left of the store has what it has. It has drawn a serial for each writer that was packed, and what is said of
-- these is so in its room. Or it has no file of the name, which is said. Or no serial was left for a further writer.
pub data MigratesPlainly (name : Name) (p : Plain) (after : Stored) (said : Said) : Type 0 where
  packs : (number : ℕ) (room : PlainRoom) (told : Migrated) → find p name ≡ Some number → slice_get p.rooms number ≡ Some room → said ≡ Ok told → TellsPacked room told → IsLeftWith (having_drawn told.writers p) after → MigratesPlainly name p after said
  runs_out : (number count : ℕ) → find p name ≡ Some number → said ≡ Err (Refused IdsSpent) → is_spent (having_drawn count p) ≡ true → IsLeftWith (having_drawn count p) after → MigratesPlainly name p after said
  lacks_file : find p name ≡ None → said ≡ Err (Refused NoFile) → IsLeftWith p after → MigratesPlainly name p after said

-- What is said of it was printed, and decides the status.
pub record IsMigratedBy (name : Name) (p : Plain) (after : Stored) (e : Ends) (status : ℕ) : Type 0 where
  pub said : Said
  pub is : MigratesPlainly name p after said
  pub printed : IsPrinted (said_text said) e.taking e.taking_after
  pub decides : status ≡ said_status said

-- Over a store with a sound tree: no mark is left, which line 0 says alone. Or a plain machine begins with each mount of the store, and its file is migrated.
pub data IsMigratedOverSound (name : Name) (script : Script) (after : Stored) (e : Ends) (status : ℕ) : Type 0 where
  spent : (tree : Tree) → e.stored.tree ≡ Some tree → AreSpent (listed_marks tree) → IsPrinted (text_of (line_zero (Refused MountsSpent) ∷ [])) e.taking e.taking_after → status ≡ 1 → IsMigratedOverSound name script after e status
  migrated_so : (p : Plain) → MountsAs script e.times e.stored p → IsMigratedBy name p after e status → IsMigratedOverSound name script after e status

-- So it is with each plain machine that begins over the store, with the actors of whatever script. Over a sound tree there is one, unless no mark is left.
pub record IsMigratedPlainly (name : Name) (e : Ends) (status : ℕ) : Type 0 where
  pub after : Stored
  pub left : e.stored_after ≡ Some after
  pub plain : (script : Script) (p : Plain) → BeginsOver script e.times e.stored p → IsMigratedBy name p after e status
  pub sound : (script : Script) → TellsSoundTree e.stored → IsMigratedOverSound name script after e status
