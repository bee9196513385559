-- The words behind ROOT that the programs take.
use Rattle.std.specs.Prelude.{◌≡◌, ◌≢◌, ◌≤◌, ◌⊎◌, ◌++◌, ⊤, true, ℕ, List, [], ◌∷◌, length}
use Rattle.copy_program.specs.declared.words.CopyCommand.{CopyCommand}
use Rattle.copy_program.specs.declared.words.ImportCommand.{ImportCommand}
use Rattle.copy_program.specs.Words.{IsCopyCommand, IsImportCommand}
use Rattle.drain_program.specs.Words.{IsDrainCommand}
use Rattle.export_program.specs.declared.words.ExportCommand.{ExportCommand}
use Rattle.export_program.specs.Words.{IsExportCommand}
use Rattle.system_edge.specs.Inputs.{BeginsWithFrom}
use Rattle.plfs.specs.Streams.{copies_the_input}

-- they drain a file to the folder that is the third of them
abbrev pub AreOfDrain : List (List ℕ) → Type 0
AreOfDrain words = (3 ≤ length words) × ((name : List ℕ) × IsDrainCommand words name)

-- they put the files of a folder, or write all files out
abbrev pub AreOfFolder : List (List ℕ) → Type 0
AreOfFolder words = ((command : ImportCommand) × IsImportCommand words command) ⊎ ((command : ExportCommand) × IsExportCommand words command)

-- where files are named in the place of standard input, there is one, and the command copies its input
abbrev pub FitsItsFiles : CopyCommand → List (List ℕ) → Type 0
FitsItsFiles command [] = ⊤
FitsItsFiles command (from ∷ files) = (copies_the_input command ≡ true) × (files ≢ [])

-- they copy one file, or all files of a folder
abbrev pub AreOfCopy : List (List ℕ) → List (List ℕ) → Type 0
AreOfCopy front behind = ((command : CopyCommand) × IsCopyCommand front command × FitsItsFiles command behind) ⊎ ((behind ≡ []) × AreOfFolder front)

-- `plfs_copy` takes them: a command, and behind it the files in the place of standard input
abbrev pub AreTaken : List (List ℕ) → Type 0
AreTaken words = (front : List (List ℕ)) × (behind : List (List ℕ)) × (front ++ behind ≡ words) × BeginsWithFrom behind × AreOfCopy front behind
