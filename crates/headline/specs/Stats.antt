-- What the lines that tell of a file say.
use Rattle.std.specs.Prelude.{◌≡◌, ◌⊎◌, ℕ, ◌≤◌, ◌<◌, true, List, length, map}
use Rattle.std.specs.List.{All}
use Rattle.plfs_types.specs.declared.entries.ShareBytes.{ShareBytes}
use Rattle.plfs_types.specs.declared.entries.Trunc.{Trunc}
use Rattle.plain_file.specs.File.{plain_size, stored_bytes}
use Rattle.container_layout.specs.Items.{IsItem}
use Rattle.script_lang.specs.declared.line.Outcome.TheVariants.{Stat, Truncated}
use Rattle.script_lang.specs.declared.script.Statement.TheVariants.{Trunc as Truncate}
use Rattle.headline.specs.Run.{Run, Says, Told, surely_before}
use Rattle.plfs_types.specs.Places.{IsAmong}
use Rattle.headline.specs.Trees.{Has}
use Rattle.headline.specs.Names.{Story}
use Rattle.headline.specs.Views.{IdsRise, IsCut, Seen, changes_of, item_of, shared, stamp_of, writes_of}

-- The line `stat SIZE BYTES by .. trunc ..`, of the container that the story says, tells of one plain file, which a reader might have opened.
pub record ShowsStat (run : Run) (story : Story) (t : Told) (size stored : ℕ) (shares : List ShareBytes) (truncs : List Trunc) : Type 0 where
  -- it is of the first writes of each writer: no fewer than surely had landed before the line, and no more than may have by its end
  pub seen : List Seen
  pub may_see : IsCut run story t seen
  pub first : All (λ (s : Seen). s.count ≤ length s.writer.writes) seen
  -- the size, the bytes of all writers and those of each are of these writes
  pub size_is : size ≡ plain_size (changes_of seen truncs)
  pub stored_is : stored ≡ stored_bytes (writes_of seen)
  pub shares_are : shares ≡ map shared seen
  -- it has all truncates of the tree before, and all that were told before the line, by rising stamp; each further one is newer than all that it has
  pub stamps_rise : IdsRise (map (λ (u : Trunc). u.stamp) truncs)
  pub stood : (u : Trunc) → IsItem (item_of u) → Has run.before (story.of t) (item_of u) → IsAmong u truncs
  pub made : (s : Told) (name : List ℕ) (stamp many : ℕ) → Says run s (Truncated stamp) → s.statement ≡ Truncate name many → surely_before run s t ≡ true → story.of s ≡ story.of t → IsAmong (record { stamp = stamp; size = many }) truncs
  pub stay : All (λ (u : Trunc). Has run.after (story.of t) (item_of u)) truncs
  pub later : (u : Trunc) → IsItem (item_of u) → Has run.after (story.of t) (item_of u) → IsAmong u truncs ⊎ (All (λ w. stamp_of w < u.stamp) (writes_of seen) × All (λ (v : Trunc). v.stamp < u.stamp) truncs)

-- So it is of each such line.
pub record HasStats (run : Run) (story : Story) : Type 0 where
  pub shows : (t : Told) (size stored : ℕ) (shares : List ShareBytes) (truncs : List Trunc) → Says run t (Stat size stored shares truncs) → ShowsStat run story t size stored shares truncs
