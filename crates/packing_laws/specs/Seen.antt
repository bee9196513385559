-- The file that a caller by itself saw.
use Rattle.std.specs.Prelude.{◌≡◌, ℕ, List, ◌∷◌, Result, Err}
use Rattle.index_entry.specs.Records.{IsBytes}
use Rattle.plain_file.specs.declared.pieces.Piece.{Piece}
use Rattle.mount_model.specs.History.{Event}
use Rattle.mount_model.specs.State.{State}
use Rattle.mount_sound.specs.Owed.{IsLawful}
use Rattle.mount_model.specs.declared.stuck.Stuck.{Stuck as Trouble}
use Rattle.index_reader.specs.declared.opened.OpenReader.{OpenReader}
use Rattle.reader_laws.specs.Moments.{Moment, moment_after, next_moment}
use Rattle.reader_laws.specs.View.{view}
use Rattle.reader_laws.specs.Failing.{FailsOrLacks}
use Rattle.reader_laws.specs.Opened.{HasOpenedIn}
use Rattle.pack_files.specs.declared.scan.ScanStuck.{ScanStuck}
use Rattle.pack_files.specs.declared.scan.ScanStuck.TheVariants.{Stuck}

-- the moment that a reader shows which was opened in these events
abbrev pub moment_seen : (start : Moment) (events : List Event) (reader : OpenReader) → HasOpenedIn 0 start events reader → Moment
moment_seen start events reader opened = moment_after (moment_after start opened.before) (opened.first ∷ opened.more)

-- the file that it shows
abbrev pub file_seen : (start : Moment) (events : List Event) (reader : OpenReader) → HasOpenedIn 0 start events reader → List ℕ
file_seen start events reader opened = view (moment_seen start events reader opened) opened.cut reader.truncs

-- Behind a greeting a reader was opened, and by its pieces and its file this holds of what was told. Or the opening ended in a
-- trouble: the store failed, or no container has the name.
pub data Sees {R : Type 0} (start : Moment) (told : Result R ScanStuck) (Holds : List Piece → List ℕ → State → Type 0) : Type 0 where
  sees : (greeting : Event) (opening : List Event) (reader : OpenReader) → IsLawful start.state (greeting ∷ opening) → (opened : HasOpenedIn 0 (next_moment start greeting) opening reader)
      → (IsBytes (file_seen (next_moment start greeting) opening reader opened) → Holds reader.pieces (file_seen (next_moment start greeting) opening reader opened) (moment_seen (next_moment start greeting) opening reader opened).state)
      → Sees start told Holds
  sees_none : (greeting : Event) (opening : List Event) (why : Trouble) → IsLawful start.state (greeting ∷ opening) → told ≡ Err (Stuck why) → FailsOrLacks 0 greeting.after opening why → Sees start told Holds
