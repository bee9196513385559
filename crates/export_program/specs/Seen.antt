-- The file that was seen by who wrote it out.
use Rattle.std.specs.Prelude.{◌≡◌, ℕ, List, ◌∷◌, ◌++◌, length, Option, Some, None, Ok, IfSome}
use Rattle.std.specs.List.{AllByRecursion}
use Rattle.edge_io.specs.Sink.{Taking}
use Rattle.mount_model.specs.Running.{Runs}
use Rattle.mount_model.specs.History.{Event}
use Rattle.mount_model.specs.State.{State}
use Rattle.mount_sound.specs.Owed.{IsLawful}
use Rattle.reader_laws.specs.Moments.{IsSoundAt, Moment, next_moment}
use Rattle.index_reader.specs.declared.opened.OpenReader.{OpenReader}
use Rattle.opening_flow.specs.Opening.{opening_program}
use Rattle.reader_laws.specs.Opened.{HasOpenedIn}
use Rattle.packing_laws.specs.Seen.{file_seen}
use Rattle.program_ends.specs.Output.{IsPrinted}
use Rattle.export_program.specs.Looking.{HasOnlyLooked}
use Rattle.export_program.specs.Shelf.{Deed, kept, starved, unkept, unmade}

-- Behind a greeting caller 0 by itself opened a reader of the file of this name.
pub record SeesFile (name : List ℕ) (start : Moment) : Type 0 where
  pub greeting : Event
  pub opening : List Event
  pub reader : OpenReader
  pub lawful : IsLawful start.state (greeting ∷ opening)
  pub alone : AllByRecursion (λ (e : Event). e.caller ≡ 0) (greeting ∷ opening)
  pub runs : Runs 0 (opening_program name 1) opening (Ok reader)
  pub opened : HasOpenedIn 0 (next_moment start greeting) opening reader

-- the bytes of the file that the reader shows: those of a cut of its writers and the truncates
abbrev pub seen_file : (name : List ℕ) (start : Moment) → SeesFile name start → List ℕ
seen_file name start s = file_seen (next_moment start s.greeting) s.opening s.reader s.opened

-- all bytes of the file that it shows were written, and they are so many
pub record IsSeenWhole (name : List ℕ) (start : Moment) (taking : Taking) (size : ℕ) (taking_after : Taking) : Type 0 where
  pub sees : SeesFile name start
  pub written : IsPrinted (seen_file name start sees) taking taking_after
  pub long : size ≡ length (seen_file name start sees)

-- behind calls from there that change nothing a reader of this name was opened, and shows these bytes
pub record IsCut (start : State) (name bytes : List ℕ) : Type 0 where
  pub moment : Moment
  pub reached : HasOnlyLooked start moment.state
  pub sound : IsSoundAt moment
  pub sees : SeesFile name moment
  pub is : bytes ≡ seen_file name moment sees

-- a file that was kept has such bytes, where it tells them
abbrev pub HoldsCut : State → Deed → Type 0
HoldsCut start (unmade name why) = Unit {0}
HoldsCut start (kept name bytes) = IfSome bytes (IsCut start name)
HoldsCut start (unkept name) = Unit {0}
HoldsCut start (starved name) = Unit {0}

-- so it is of each file that was kept
abbrev pub HoldCuts : State → Option (List Deed) → Option (List Deed) → Type 0
HoldCuts start None deeds_after = deeds_after ≡ None
HoldCuts start (Some deeds) deeds_after = (added : List Deed) × (deeds_after ≡ Some (added ++ deeds)) × AllByRecursion (HoldsCut start) added
