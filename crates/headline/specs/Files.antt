-- What the lines that show a file say of it.
use Rattle.std.specs.Prelude.{◌≡◌, ◌⊎◌, ⊤, ℕ, ◌+◌, ◌-◌, ◌<◌, ◌^◌, min, List, [], ◌∷◌, length, map, take, Option, Some, None, slice_get}
use Rattle.plfs_types.specs.declared.entries.Entry.{Entry}
use Rattle.plfs_types.specs.declared.entries.ShareBytes.{ShareBytes}
use Rattle.plfs_types.specs.declared.entries.Trunc.{Trunc}
use Rattle.plfs_types.specs.declared.entries.WriterCount.{WriterCount}
use Rattle.plain_file.specs.declared.pieces.Piece.{Piece}
use Rattle.plain_file.specs.File.{plain, plain_size, slice, stored_bytes}
use Rattle.plain_file.specs.Runs.{ArePiecesOf}
use Rattle.container_layout.specs.declared.items.Item.TheVariants.{Flat}
use Rattle.script_lang.specs.declared.line.Outcome.{Outcome}
use Rattle.script_lang.specs.declared.line.Outcome.TheVariants.{Differs, Map as Mapped, Read as WasRead, Reader, ReaderClosed, Same}
use Rattle.script_lang.specs.declared.script.Statement.{Statement}
use Rattle.script_lang.specs.declared.script.Statement.TheVariants.{Read, Refresh, Verify}
use Rattle.outcomes.specs.Data.{bytes_of}
use Rattle.headline.specs.Run.{IsLine, Run, Told, before, own}
use Rattle.headline.specs.Trees.{Has}
use Rattle.headline.specs.Names.{Named, Story}
use Rattle.headline.specs.Views.{AreTruncs, IsCut, Seen, changes_of, counted, shared, writes_of}
use Rattle.outcomes.specs.Outcomes.{entry_of}

-- the reader's last line, once this line was told
abbrev pub reader_next : Option Told → Told → Outcome → Option Told
reader_next reader t (Reader size cut truncs) = Some t
reader_next reader t ReaderClosed = None
reader_next reader t other = reader

-- the line that opened the reader that an actor has after these lines of its own, or refreshed it last, where it has one
abbrev pub reader_after : Option Told → List Told → Option Told
reader_after reader [] = reader
reader_after reader (t ∷ lines) = reader_after (reader_next reader t t.outcome) lines

abbrev pub reader_at : Run → Told → Option Told
reader_at run t = reader_after None (own t.actor (before run t))

-- The bytes found begin as those that are wanted, which go on otherwise at this place, or the file ends there.
pub record DiffersAt (at : ℕ) (wanted found : List ℕ) (place : ℕ) : Type 0 where
  pub same : ℕ
  pub place_is : place ≡ min (at + same) (2 ^ 64 - 1)
  pub within : same < length wanted
  pub agree : take same found ≡ take same wanted
  pub differ : slice_get found same ≡ slice_get wanted same → ⊥

-- Of a file of these bytes a read gives those from a place on, and a verify compares them.
abbrev pub Answers : List ℕ → Statement → Outcome → Type 0
Answers file (Read at len) (WasRead place content) = (place ≡ at) × (content ≡ slice file at len)
Answers file (Verify at content) Same = slice file at (length (bytes_of content)) ≡ bytes_of content
Answers file (Verify at content) (Differs place) = DiffersAt at (bytes_of content) (slice file at (length (bytes_of content))) place
Answers file statement outcome = ⊤

-- A reader's line shows a cut and truncates that it may see, and the size of their one plain file. Of that file are all answers of the reader, up to its next line.
-- The reader is opened by a name, or its former line told of the same container.
pub record ShowsFile (run : Run) (story : Story) (t : Told) (size : ℕ) (cut : List WriterCount) (truncs : List Trunc) : Type 0 where
  pub seen : List Seen
  pub reader : Named run story t ⊎ ((former : Told) × (t.statement ≡ Refresh) × (reader_at run t ≡ Some former) × (story.of t ≡ story.of former))
  pub may_see : IsCut run story t seen
  pub cut_is : cut ≡ map counted seen
  pub truncs_are : AreTruncs run story t seen truncs
  pub size_is : size ≡ plain_size (changes_of seen truncs)
  pub answers : (s : Told) → IsLine run s → reader_at run s ≡ Some t → Answers (plain (changes_of seen truncs)) s.statement s.outcome
  pub maps : (s : Told) (text : List Entry) → IsLine run s → reader_at run s ≡ Some t → s.outcome ≡ Mapped text → (pieces : List Piece) × ArePiecesOf (changes_of seen truncs) pieces × (text ≡ map entry_of pieces)

-- What is told of a file is that of one plain file, which a reader might have opened.
pub record TellsOfFile (run : Run) (story : Story) (t : Told) (size stored : ℕ) (shares : List ShareBytes) (truncs : List Trunc) : Type 0 where
  pub finds : Named run story t
  pub seen : List Seen
  pub may_see : IsCut run story t seen
  pub truncs_are : AreTruncs run story t seen truncs
  pub size_is : size ≡ plain_size (changes_of seen truncs)
  pub stored_is : stored ≡ stored_bytes (writes_of seen)
  pub shares_are : shares ≡ map shared seen

-- A flattened index covers a cut that a reader might see, has its pieces before any truncate, and stands in the tree after.
pub record Flattens (run : Run) (story : Story) (t : Told) (id many : ℕ) (cut : List WriterCount) : Type 0 where
  pub seen : List Seen
  pub may_see : IsCut run story t seen
  pub cut_is : cut ≡ map counted seen
  pub pieces : List Piece
  pub are : ArePiecesOf (writes_of seen) pieces
  pub number : many ≡ length pieces
  pub stands : Has run.after (story.of t) (Flat id)
