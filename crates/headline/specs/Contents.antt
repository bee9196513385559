-- The plain file that a line of a reader shows.
use Rattle.std.specs.Prelude.{◌≡◌, ◌⊎◌, ℕ, ◌≤◌, ◌<◌, List, length, map, Some}
use Rattle.std.specs.List.{All}
use Rattle.plfs_types.specs.declared.entries.Entry.{Entry}
use Rattle.plfs_types.specs.declared.entries.Trunc.{Trunc}
use Rattle.plfs_types.specs.declared.entries.WriterCount.{WriterCount}
use Rattle.plain_file.specs.declared.pieces.Piece.{Piece}
use Rattle.plain_file.specs.File.{plain, plain_size}
use Rattle.plain_file.specs.Runs.{ArePiecesOf}
use Rattle.container_layout.specs.Items.{IsItem}
use Rattle.script_lang.specs.declared.line.Outcome.TheVariants.{Map as Mapped, Reader}
use Rattle.headline.specs.Run.{IsLine, Run, Says, Told}
use Rattle.plfs_types.specs.Places.{IsAmong}
use Rattle.headline.specs.Trees.{Has}
use Rattle.headline.specs.Names.{Story}
use Rattle.headline.specs.Views.{IsCut, Seen, changes_of, counted, item_of, stamp_of, writes_of}
use Rattle.headline.specs.Files.{Answers, reader_at}
use Rattle.outcomes.specs.Outcomes.{entry_of}

-- The cut is one that the line may see: each count is of a writer of the container, no less than what is sure to have landed of it before the line, and no more than
-- what may have by its end. It is of the first writes of the writer, as the lines tell them, or as the tree before has them. With the truncates of the
-- line they make one plain file, of the size that the line tells. Of that file are all answers of the reader, up to its next line, and its maps. Each further
-- truncate that stands in the tree after is newer than all that is in the file.
pub record ShowsContents (run : Run) (story : Story) (t : Told) (size : ℕ) (cut : List WriterCount) (truncs : List Trunc) : Type 0 where
  pub seen : List Seen
  pub may_see : IsCut run story t seen
  pub first : All (λ (s : Seen). s.count ≤ length s.writer.writes) seen
  pub cut_is : cut ≡ map counted seen
  pub size_is : size ≡ plain_size (changes_of seen truncs)
  pub answers : (s : Told) → IsLine run s → reader_at run s ≡ Some t → Answers (plain (changes_of seen truncs)) s.statement s.outcome
  pub maps : (s : Told) (text : List Entry) → IsLine run s → reader_at run s ≡ Some t → s.outcome ≡ Mapped text → (pieces : List Piece) × ArePiecesOf (changes_of seen truncs) pieces × (text ≡ map entry_of pieces)
  pub later : (u : Trunc) → IsItem (item_of u) → Has run.after (story.of t) (item_of u) → IsAmong u truncs ⊎ (All (λ w. stamp_of w < u.stamp) (writes_of seen) × All (λ (v : Trunc). v.stamp < u.stamp) truncs)

-- So it is of each line of a reader.
pub record HasContents (run : Run) (story : Story) : Type 0 where
  pub shows : (t : Told) (size : ℕ) (cut : List WriterCount) (truncs : List Trunc) → Says run t (Reader size cut truncs) → ShowsContents run story t size cut truncs
