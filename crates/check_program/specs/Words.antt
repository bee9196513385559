-- The words of a command.
use Rattle.std.specs.Prelude.{◌≡◌, ℕ, List, [], ◌∷◌}
use Rattle.plfs_types.specs.Names.{IsLogicalName}
use Rattle.check_program.specs.declared.words.CheckCommand.{CheckCommand}
use Rattle.check_program.specs.declared.words.CheckCommand.TheVariants.{All, One}

-- the words are this command
abbrev pub IsCheckCommand : List (List ℕ) → CheckCommand → Type 0
IsCheckCommand words All = words ≡ []
IsCheckCommand words (One name) = (words ≡ name ∷ []) × IsLogicalName name
