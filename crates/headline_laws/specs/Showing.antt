-- What the lines of a reader's statements show of its one file.
use Rattle.std.specs.Prelude.{◌≡◌, ◌≢◌, ⊤, ℕ, List, length, Option, Some, None}
use Rattle.plfs_types.specs.declared.entries.Trunc.{Trunc}
use Rattle.plfs_types.specs.declared.entries.WriterCount.{WriterCount}
use Rattle.plain_file.specs.declared.pieces.Piece.{Piece}
use Rattle.plain_file.specs.File.{slice}
use Rattle.mount_model.specs.Paths.{Name}
use Rattle.script_lang.specs.declared.line.Outcome.{Outcome}
use Rattle.script_lang.specs.declared.line.Outcome.TheVariants.{Reader, Read as WasRead, Same, Differs, Map as Mapped, ReaderClosed, Stat as Told, Truncated, Renamed, Recovered, Flattened, Refused, Damaged, Stopped, Gone}
use Rattle.script_lang.specs.declared.line.Why.{Why}
use Rattle.script_lang.specs.declared.line.Why.TheVariants.{AlreadyOpen, Busy, Exists, Held, NoFile, NotOpen, StampsSpent}
use Rattle.script_lang.specs.declared.script.Data.{Data}
use Rattle.script_lang.specs.declared.script.Statement.{Statement}
use Rattle.script_lang.specs.declared.script.Statement.TheVariants.{Ropen, Read, Verify, Map, Refresh, Rclose, Stat, Trunc as Truncate, Rename, Recover, Flatten}
use Rattle.outcomes.specs.Data.{bytes_of, length_of}
use Rattle.outcomes.specs.Outcomes.{map_text}
use Rattle.reader_laws.specs.Moments.{Moment}
use Rattle.headline_laws.specs.OneFile.{OneFile, seen_bytes, ArePiecesSeen, printed_cut}
use Rattle.headline_laws.specs.Opening.{Stretch, OpensOneFile}
use Rattle.headline_laws.specs.Refreshing.{RefreshesOneFile}
use Rattle.headline_laws.specs.Comparing.{FirstDifference}
use Rattle.headline_laws.specs.Telling.{ShowsTold}
use Rattle.headline_laws.specs.Changing.{RenamesFile, TruncatesFile}
use Rattle.headline_laws.specs.Flattening.{FlattensFile}
use Rattle.headline_laws.specs.Recovering.{RecoversFile}
use Rattle.headline_laws.specs.Refusing.{FindsHeld, FindsNone, FindsOpen, FindsSpent, FindsTaken}
use Rattle.headline_laws.specs.Ending.{EndsEarly, DoesNothing, OpensNone}

-- ---- the line of an opening

-- the size, the counts and the truncates are those of the file
pub record TellsOneFile (size : ℕ) (cut : List WriterCount) (truncs : List Trunc) (file : OneFile) : Type 0 where
  pub size_is : size ≡ length (seen_bytes file)
  pub counts : cut ≡ printed_cut file.cut
  pub truncates : truncs ≡ file.truncs

-- it opens a file, which the actor has then, or it has none
abbrev pub ShowsOpening : Moment → ℕ → Stretch → Name → Outcome → Option OneFile → Type 0
ShowsOpening start caller stretch name (Reader size cut truncs) new = (file : OneFile) × (new ≡ Some file) × OpensOneFile start caller stretch name file × TellsOneFile size cut truncs file
ShowsOpening start caller stretch name other new = (new ≡ None) × OpensNone start stretch other

-- ---- the line of a refresh

-- The actor has the refreshed file then. One that was stopped has none, and else it has the former one still.
abbrev pub ShowsRefreshed : Moment → ℕ → Stretch → OneFile → Outcome → Option OneFile → Type 0
ShowsRefreshed start caller stretch former (Reader size cut truncs) new = (file : OneFile) × (new ≡ Some file) × RefreshesOneFile start caller stretch former file × TellsOneFile size cut truncs file
ShowsRefreshed start caller stretch former Stopped new = new ≡ None
ShowsRefreshed start caller stretch former other new = (new ≡ Some former) × EndsEarly start stretch other

-- ---- the lines of an open reader

-- the bytes from there on
abbrev pub ShowsRead : Moment → Stretch → OneFile → ℕ → ℕ → Outcome → Type 0
ShowsRead start stretch file at len (WasRead place content) = (place ≡ at) × (content ≡ slice (seen_bytes file) at len)
ShowsRead start stretch file at len other = EndsEarly start stretch other

-- whether the bytes from there on are the data
abbrev pub ShowsVerified : Moment → Stretch → OneFile → ℕ → Data → Outcome → Type 0
ShowsVerified start stretch file at content Same = slice (seen_bytes file) at (length_of content) ≡ bytes_of content
ShowsVerified start stretch file at content (Differs place) = FirstDifference at (bytes_of content) (slice (seen_bytes file) at (length_of content)) place
ShowsVerified start stretch file at content other = EndsEarly start stretch other

-- the pieces
abbrev pub ShowsMap : OneFile → Outcome → Type 0
ShowsMap file (Mapped text) = (pieces : List Piece) × ArePiecesSeen file pieces × (text ≡ map_text pieces)
ShowsMap file other = other ≡ Gone

-- ---- statements

-- it goes so where a file is open, and else nothing is done
abbrev pub IfOpen : Option OneFile → Outcome → (OneFile → Type 0) → Type 0
IfOpen None outcome shows = DoesNothing NotOpen outcome
IfOpen (Some file) outcome shows = shows file

abbrev pub UnlessOpen : Option OneFile → Outcome → Option OneFile → Type 0 → Type 0
UnlessOpen None outcome new shows = shows
UnlessOpen (Some file) outcome new shows = (new ≡ Some file) × DoesNothing AlreadyOpen outcome

-- it is refreshed where one is open, and else nothing is done
abbrev pub ShowsRefresh : Moment → ℕ → Stretch → Option OneFile → Outcome → Option OneFile → Type 0
ShowsRefresh start caller stretch None outcome new = (new ≡ None) × DoesNothing NotOpen outcome
ShowsRefresh start caller stretch (Some former) outcome new = ShowsRefreshed start caller stretch former outcome new

-- it is closed, unless its actor was stopped before
abbrev pub ShowsClosing : Option OneFile → Outcome → Option OneFile → Type 0
ShowsClosing old ReaderClosed new = (old ≢ None) × (new ≡ None)
ShowsClosing old other new = (new ≡ old) × IfOpen old other (λ file. other ≡ Gone)

-- no line of a reader's statement, nor one of damage
abbrev pub ShowsNone : Outcome → Type 0
ShowsNone (Reader size cut truncs) = ⊥
ShowsNone (WasRead place content) = ⊥
ShowsNone Same = ⊥
ShowsNone (Differs place) = ⊥
ShowsNone (Mapped text) = ⊥
ShowsNone ReaderClosed = ⊥
ShowsNone (Damaged folder file place) = ⊥
ShowsNone other = ⊤

-- what is told of a file is that of one plain file; no other line is one of a reader, nor of damage
abbrev pub ShowsLook : Moment → ℕ → Stretch → Name → Outcome → Type 0
ShowsLook start caller stretch name (Told size stored shares truncs) = ShowsTold start caller stretch name size stored shares truncs
ShowsLook start caller stretch name other = ShowsNone other

-- why a container was not held: there was none of this name, a writer had it open, or it was held
abbrev pub ShowsUnheld : Moment → ℕ → Stretch → Name → Why → Type 0
ShowsUnheld start caller stretch name NoFile = FindsNone start caller stretch name
ShowsUnheld start caller stretch name (Busy host writer) = FindsOpen start caller stretch name host writer
ShowsUnheld start caller stretch name Held = FindsHeld start caller stretch name
ShowsUnheld start caller stretch name because = ⊤

-- the same, or that no stamp was left
abbrev pub ShowsUnmarked : Moment → ℕ → Stretch → Name → ℕ → Why → Type 0
ShowsUnmarked start caller stretch name size StampsSpent = FindsSpent start caller stretch name size
ShowsUnmarked start caller stretch name size because = ShowsUnheld start caller stretch name because

-- the same, or that its new name was taken
abbrev pub ShowsUnnamed : Moment → ℕ → Stretch → Name → Name → Why → Type 0
ShowsUnnamed start caller stretch name to Exists = FindsTaken start caller stretch name to
ShowsUnnamed start caller stretch name to because = ShowsUnheld start caller stretch name because

-- a file was truncated so, renamed, recovered, or flattened, or why it was not; no other line is one of a reader, nor of damage
abbrev pub ShowsTruncate : Moment → ℕ → Stretch → Name → ℕ → Outcome → Type 0
ShowsTruncate start caller stretch name size (Truncated stamp) = TruncatesFile start caller stretch name size stamp
ShowsTruncate start caller stretch name size (Refused because) = ShowsUnmarked start caller stretch name size because
ShowsTruncate start caller stretch name size other = ShowsNone other

abbrev pub ShowsRename : Moment → ℕ → Stretch → Name → Name → Outcome → Type 0
ShowsRename start caller stretch name to Renamed = RenamesFile start caller stretch name to
ShowsRename start caller stretch name to (Refused because) = ShowsUnnamed start caller stretch name to because
ShowsRename start caller stretch name to other = ShowsNone other

abbrev pub ShowsRecovery : Moment → ℕ → Stretch → Name → Outcome → Type 0
ShowsRecovery start caller stretch name (Recovered buried alive hold) = RecoversFile start caller stretch name buried alive hold
ShowsRecovery start caller stretch name other = ShowsNone other

abbrev pub ShowsFlattening : Moment → ℕ → Stretch → Name → Outcome → Type 0
ShowsFlattening start caller stretch name (Flattened id pieces cut) = FlattensFile start caller stretch name id pieces cut
ShowsFlattening start caller stretch name other = ShowsNone other

-- In this stretch the caller makes a statement. It had this file open before it, or none, and has that one or none after it. Its line shows so much.
abbrev pub Shows : Moment → ℕ → Stretch → Option OneFile → Statement → Outcome → Option OneFile → Type 0
Shows start caller stretch old (Ropen name workers) outcome new = UnlessOpen old outcome new (ShowsOpening start caller stretch name outcome new)
Shows start caller stretch old (Read at len) outcome new = (new ≡ old) × IfOpen old outcome (λ file. ShowsRead start stretch file at len outcome)
Shows start caller stretch old (Verify at content) outcome new = (new ≡ old) × IfOpen old outcome (λ file. ShowsVerified start stretch file at content outcome)
Shows start caller stretch old Map outcome new = (new ≡ old) × IfOpen old outcome (λ file. ShowsMap file outcome)
Shows start caller stretch old Refresh outcome new = ShowsRefresh start caller stretch old outcome new
Shows start caller stretch old Rclose outcome new = ShowsClosing old outcome new
Shows start caller stretch old (Stat name) outcome new = (new ≡ old) × ShowsLook start caller stretch name outcome
Shows start caller stretch old (Truncate name size) outcome new = (new ≡ old) × ShowsTruncate start caller stretch name size outcome
Shows start caller stretch old (Rename name to) outcome new = (new ≡ old) × ShowsRename start caller stretch name to outcome
Shows start caller stretch old (Recover name) outcome new = (new ≡ old) × ShowsRecovery start caller stretch name outcome
Shows start caller stretch old (Flatten name) outcome new = (new ≡ old) × ShowsFlattening start caller stretch name outcome
Shows start caller stretch old other outcome new = (new ≡ old) × ShowsNone outcome
