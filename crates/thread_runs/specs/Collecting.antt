-- Lines of several actors, in the order in which their statements are written.
use Rattle.std.specs.Prelude.{◌≡◌, ◌≤◌, ℕ, List, [], ◌∷◌, ◌++◌, Some, Result, Ok, Err, length, map, set, slice_get}
use Rattle.script_lang.specs.declared.line.Line.{Line}
use Rattle.script_lang.specs.declared.script.Numbered.{Numbered}
use Rattle.mount_model.specs.Performers.{told_at}
use Rattle.run_core.specs.Course.{own}
use Rattle.run_core.specs.Written.{whose}
use Rattle.thread_runs.specs.declared.told.Told.{Told}

-- the lines of each
abbrev pub lines_in : List Told → List (List Line)
lines_in all = map (λ (told : Told). told.lines.items) all

-- the actor at this place has a line
abbrev pub HasLine : List (List Line) → ℕ → Type 0
HasLine all place = (line : Line) × (rest : List Line) × (slice_get all place ≡ Some (line ∷ rest))

-- each actor has a line for each of its own of these statements, or more
abbrev pub Suffice : List Numbered → List (List Line) → Type 0
Suffice statements all = (place : ℕ) (told : List Line) → slice_get all place ≡ Some told → length (own place statements) ≤ length told

-- each actor has a line for each of its own of these statements
abbrev pub HaveLines : List Numbered → List (List Line) → Type 0
HaveLines statements all = (place : ℕ) (told : List Line) → slice_get all place ≡ Some told → length told ≡ length (own place statements)

-- the first line of the actor at this place was put behind the others
pub record TakesOne (place : ℕ) (lines_old : List Line) (old : List (List Line)) (lines_new : List Line) (new : List (List Line)) : Type 0 where
  pub line : Line
  pub rest : List Line
  pub here : slice_get old place ≡ Some (line ∷ rest)
  pub new_is : new ≡ set old place rest
  pub lines : lines_new ≡ lines_old ++ line ∷ []

-- of these lines, told by the actors of these places, each actor has had its own in front
pub record AreTaken (places : List ℕ) (lines : List Line) (old new : List (List Line)) : Type 0 where
  pub long : length lines ≡ length places
  pub len : length new ≡ length old
  pub each : (place : ℕ) (told : List Line) → slice_get old place ≡ Some told → (left : List Line) × (slice_get new place ≡ Some left) × (told ≡ told_at place places lines ++ left)

-- the lines grew by the lines of these statements
pub record TakesAll (statements : List Numbered) (lines_old : List Line) (old : List (List Line)) (lines_new : List Line) (new : List (List Line)) : Type 0 where
  pub taken : List Line
  pub lines : lines_new ≡ lines_old ++ taken
  pub each : AreTaken (whose statements) taken old new

-- there is one line for each of these statements, and those of each actor are in the order in which it told them
pub record ArePut (statements : List Numbered) (all : List (List Line)) (lines : List Line) : Type 0 where
  pub long : length lines ≡ length statements
  pub each : (place : ℕ) (told : List Line) → slice_get all place ≡ Some told → told ≡ told_at place (whose statements) lines

-- there is an Ok, and this holds of it
abbrev pub IsOkWith : {A E : Type 0} → Result A E → (A → Type 0) → Type 0
IsOkWith (Ok a) Says = Says a
IsOkWith (Err e) Says = ⊥
