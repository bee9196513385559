-- What a statement says that found no file.
use Rattle.std.specs.Prelude.{◌≡◌, true, Some}
use Rattle.script_lang.specs.declared.line.Outcome.TheVariants.{Refused}
use Rattle.script_lang.specs.declared.line.Why.TheVariants.{NoFile}
use Rattle.headline.specs.Run.{IsLine, Run, Says, Told, surely_before}
use Rattle.plfs_types.specs.Places.{IsAmong}
use Rattle.headline.specs.Names.{Name, name_of, names_in}
use Rattle.headline.specs.Readers.{RenamesNone, SpeaksOf}

-- Where no statement renames, one is refused as `no-file` only where there was none: the tree before had no container of its name, and no line before spoke of one.
pub record HasMissing (run : Run) : Type 0 where
  pub stood : RenamesNone run → (t : Told) (name : Name) → Says run t (Refused NoFile) → name_of t.statement ≡ Some name → IsAmong name (names_in run.before) → ⊥
  pub spoken : RenamesNone run → (t s : Told) (name : Name) → Says run t (Refused NoFile) → name_of t.statement ≡ Some name → IsLine run s → SpeaksOf name s.statement s.outcome → surely_before run s t ≡ true → ⊥
