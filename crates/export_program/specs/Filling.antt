-- A file that was made, and what was written into it.
use Rattle.std.specs.Prelude.{◌≡◌, ℕ, List, Option, Ok, Err}
use Rattle.edge_io.specs.Sink.{Taking}
use Rattle.mount_model.specs.declared.stuck.Stuck.{Stuck as Trouble}
use Rattle.mount_model.specs.State.{State}
use Rattle.export_program.specs.Exporting.{BeginsToWrite, WritesFile}
use Rattle.export_program.specs.declared.piece.Unwritten.TheVariants as unwritten
use Rattle.export_program.specs.Shelf.{Adds, Deed, IsEmpty, kept, starved, unkept, unmade}
use Rattle.export_program.specs.declared.filling.Filled.{Filled}
use Rattle.export_program.specs.declared.filling.Filled.TheVariants as filled
use Rattle.export_program.specs.declared.shelf.Unmade.TheVariants as unmade_for

-- the file that has all bytes was kept, or could not be
pub data KeepsWhole (name : List ℕ) (size : ℕ) (taking : Taking) (deeds : Option (List Deed)) (told : Filled) (deeds_after : Option (List Deed)) : Type 0 where
  was_kept : Adds (kept name taking.taken) deeds deeds_after → told ≡ filled.Whole size → KeepsWhole name size taking deeds told deeds_after
  was_lost : Adds (unkept name) deeds deeds_after → told ≡ filled.Failed → KeepsWhole name size taking deeds told deeds_after

-- All bytes of the store's file were written into the one that was made, and it was kept. Or not all were, and nothing was kept.
pub data FillsMade (name : List ℕ) (taking : Taking) (start : State) (deeds : Option (List Deed)) (told : Filled) (end : State) (deeds_after : Option (List Deed)) : Type 0 where
  whole : (size : ℕ) (taking_after : Taking) → WritesFile name start taking (Ok size) end taking_after → KeepsWhole name size taking_after deeds told deeds_after → FillsMade name taking start deeds told end deeds_after
  stuck : (why : Trouble) (taking_after : Taking) → WritesFile name start taking (Err (unwritten.Stuck why)) end taking_after → deeds_after ≡ deeds → told ≡ filled.Stuck why → FillsMade name taking start deeds told end deeds_after
  broken : (taking_after : Taking) → WritesFile name start taking (Err unwritten.Broken) end taking_after → deeds_after ≡ deeds → told ≡ filled.Failed → FillsMade name taking start deeds told end deeds_after

-- Memory was refused behind a front of the calls. Or it was where the file that has all bytes was to be kept. Nothing was kept.
pub data BeginsToFillMade (name : List ℕ) (taking : Taking) (start : State) (deeds : Option (List Deed)) (end : State) (deeds_after : Option (List Deed)) : Type 0 where
  in_writing : (taking_after : Taking) → BeginsToWrite name start taking end taking_after → deeds_after ≡ deeds → BeginsToFillMade name taking start deeds end deeds_after
  in_keeping : (size : ℕ) (taking_after : Taking) → WritesFile name start taking (Ok size) end taking_after → Adds (starved name) deeds deeds_after → BeginsToFillMade name taking start deeds end deeds_after

-- A file without bytes was made, and filled so. Or none was made, and no call.
pub data Fills (name : List ℕ) (start : State) (deeds : Option (List Deed)) (told : Filled) (end : State) (deeds_after : Option (List Deed)) : Type 0 where
  fills : (taking : Taking) → IsEmpty taking → FillsMade name taking start deeds told end deeds_after → Fills name start deeds told end deeds_after
  exists : Adds (unmade name unmade_for.Exists) deeds deeds_after → end ≡ start → told ≡ filled.Exists → Fills name start deeds told end deeds_after
  failed : Adds (unmade name unmade_for.Failed) deeds deeds_after → end ≡ start → told ≡ filled.Failed → Fills name start deeds told end deeds_after

-- So it was behind the making of a file without bytes. Or none was made for want of memory, and no call.
pub data BeginsToFill (name : List ℕ) (start : State) (deeds : Option (List Deed)) (end : State) (deeds_after : Option (List Deed)) : Type 0 where
  in_filling : (taking : Taking) → IsEmpty taking → BeginsToFillMade name taking start deeds end deeds_after → BeginsToFill name start deeds end deeds_after
  in_making : Adds (unmade name unmade_for.NoMemory) deeds deeds_after → end ≡ start → BeginsToFill name start deeds end deeds_after
