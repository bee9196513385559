-- The line that lists all names.
use Rattle.std.specs.Prelude.{◌≡◌, List}
use Rattle.std.specs.List.{All}
use Rattle.std.specs.Ordering.{nat_cmp}
use Rattle.std.specs.Cmp.Lexicographic.{slice_cmp}
use Rattle.std.specs.List.Sorted.{IsStrictlySortedBy}
use Rattle.headline.specs.Run.{Run, Told}
use Rattle.plfs_types.specs.Places.{IsAmong}
use Rattle.headline.specs.Names.{MayStand, Name, Story}
use Rattle.store_api.specs.Names.{marks_name}

-- the names that may have stood at one time, but for that of the marks, each once and in byte order
pub record ListsNames (run : Run) (story : Story) (t : Told) (listed : List Name) : Type 0 where
  pub names : List Name
  pub stand : MayStand run story t names
  pub ordered : IsStrictlySortedBy (slice_cmp nat_cmp) listed
  pub there : All (λ name. IsAmong name names) listed
  pub all : (name : Name) → IsAmong name names → (name ≡ marks_name → ⊥) → IsAmong name listed
  pub unmarked : IsAmong marks_name listed → ⊥
