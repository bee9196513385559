-- What the lines that list all names say.
use Rattle.std.specs.Prelude.{◌≡◌, true, List}
use Rattle.std.specs.List.{All}
use Rattle.std.specs.Ordering.{nat_cmp}
use Rattle.std.specs.Cmp.Lexicographic.{slice_cmp}
use Rattle.std.specs.List.Sorted.{IsStrictlySortedBy}
use Rattle.script_lang.specs.declared.line.Outcome.TheVariants.{Listed}
use Rattle.headline.specs.Run.{IsLine, Run, Says, Told, surely_before}
use Rattle.plfs_types.specs.Places.{IsAmong}
use Rattle.headline.specs.Names.{Name, names_in}
use Rattle.store_api.specs.Names.{marks_name}
use Rattle.headline.specs.Readers.{RenamesNone, SpeaksOf}

-- The line `ls NAMES`: each name once and in byte order, but for that of the marks. Where no statement renames, they are names of the tree after. None is missing
-- that the tree before had, nor one by which a line spoke of a container before.
pub record ListsAll (run : Run) (t : Told) (listed : List Name) : Type 0 where
  pub ordered : IsStrictlySortedBy (slice_cmp nat_cmp) listed
  pub unmarked : IsAmong marks_name listed → ⊥
  pub known : RenamesNone run → All (λ (name : Name). IsAmong name (names_in run.after)) listed
  pub stood : RenamesNone run → (name : Name) → IsAmong name (names_in run.before) → (name ≡ marks_name → ⊥) → IsAmong name listed
  pub spoken : RenamesNone run → (s : Told) (name : Name) → IsLine run s → SpeaksOf name s.statement s.outcome → surely_before run s t ≡ true → (name ≡ marks_name → ⊥) → IsAmong name listed

-- So it is of each such line.
pub record HasListed (run : Run) : Type 0 where
  pub shows : (t : Told) (listed : List Name) → Says run t (Listed listed) → ListsAll run t listed
