-- The words of a command.
use Rattle.std.specs.Prelude.{◌≡◌, ◌<◌, ◌^◌, ℕ, Bool, true, false, List, [], ◌∷◌, codes}
use Rattle.std.specs.Fmt.{decimal}
use Rattle.plfs_types.specs.Names.{IsLogicalName}
use Rattle.copy_program.specs.declared.words.CopyCommand.{CopyCommand}
use Rattle.copy_program.specs.declared.words.CopyCommand.TheVariants.{Put, Get}
use Rattle.copy_program.specs.declared.words.ImportCommand.{ImportCommand}

-- Behind the name may stand the writer's host, which is 0 where none is said, and behind that whether a file may be written over.
pub data AreOptions (words : List (List ℕ)) (host : ℕ) (over : Bool) : Type 0 where
  none : words ≡ [] → host ≡ 0 → over ≡ false → AreOptions words host over
  over_it : words ≡ codes "--over" ∷ [] → host ≡ 0 → over ≡ true → AreOptions words host over
  by_host : words ≡ decimal host ∷ [] → host < 2 ^ 32 → over ≡ false → AreOptions words host over
  both : words ≡ decimal host ∷ codes "--over" ∷ [] → host < 2 ^ 32 → over ≡ true → AreOptions words host over

-- the words are this command
abbrev pub IsCopyCommand : List (List ℕ) → CopyCommand → Type 0
IsCopyCommand words (Put name host over) = (options : List (List ℕ)) × (words ≡ codes "put" ∷ name ∷ options) × IsLogicalName name × AreOptions options host over
IsCopyCommand words (Get name) = (words ≡ codes "get" ∷ name ∷ []) × IsLogicalName name

-- the words are this import: behind the verb stands a folder
abbrev pub IsImportCommand : List (List ℕ) → ImportCommand → Type 0
IsImportCommand words command = (folder : List ℕ) × (options : List (List ℕ)) × (words ≡ codes "import" ∷ folder ∷ options) × AreOptions options command.host command.over
