-- The words of an export.
use Rattle.std.specs.Prelude.{◌≡◌, ℕ, true, false, List, [], ◌∷◌, codes}
use Rattle.export_program.specs.declared.words.ExportCommand.{ExportCommand}

-- Behind the verb stands a folder, and behind that may stand that files may be written over.
pub data IsExportCommand (words : List (List ℕ)) (command : ExportCommand) : Type 0 where
  beside : (folder : List ℕ) → words ≡ codes "export" ∷ folder ∷ [] → command.over ≡ false → IsExportCommand words command
  over_it : (folder : List ℕ) → words ≡ codes "export" ∷ folder ∷ codes "--over" ∷ [] → command.over ≡ true → IsExportCommand words command
