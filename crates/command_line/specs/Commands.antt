-- The commands: the words of each.
use Rattle.std.specs.Prelude.{◌≡◌, ◌≤◌, ◌<◌, ◌^◌, ℕ, List, [], ◌∷◌, codes}
use Rattle.std.specs.Fmt.{decimal}
use Rattle.plfs_types.specs.Names.{IsLogicalName}
use Rattle.command_line.specs.declared.commands.Command.{Command}
use Rattle.command_line.specs.declared.commands.Command.TheVariants as command

-- the words are this verb and the name of a file
abbrev pub IsOfFile : List (List ℕ) → List ℕ → List ℕ → Type 0
IsOfFile words verb name = (words ≡ verb ∷ name ∷ []) × IsLogicalName name

-- the words are this command
abbrev pub IsCommand : List (List ℕ) → Command → Type 0
IsCommand words command.Run = words ≡ codes "run" ∷ []
IsCommand words command.Play = words ≡ codes "play" ∷ []
IsCommand words (command.Gen writers) = (words ≡ codes "gen" ∷ decimal writers ∷ []) × (1 ≤ writers) × (writers ≤ 256)
IsCommand words (command.Cat name) = IsOfFile words (codes "cat") name
IsCommand words (command.Stat name) = IsOfFile words (codes "stat") name
IsCommand words (command.Map name) = IsOfFile words (codes "map") name
IsCommand words (command.Flatten name) = IsOfFile words (codes "flatten") name
IsCommand words (command.Recover name) = IsOfFile words (codes "recover") name
IsCommand words (command.Migrate name) = IsOfFile words (codes "migrate") name
IsCommand words (command.Names name) = IsOfFile words (codes "names") name
IsCommand words (command.Pack name region) = (words ≡ codes "pack" ∷ name ∷ decimal region ∷ []) × IsLogicalName name × (region < 256)
IsCommand words (command.Unpack name file) = (words ≡ codes "unpack" ∷ name ∷ file ∷ []) × IsLogicalName name × IsLogicalName file
IsCommand words (command.Trunc name size) = (words ≡ codes "trunc" ∷ name ∷ decimal size ∷ []) × IsLogicalName name × (size < 2 ^ 64)
IsCommand words (command.Rename name to) = (words ≡ codes "rename" ∷ name ∷ to ∷ []) × IsLogicalName name × IsLogicalName to
IsCommand words command.Ls = words ≡ codes "ls" ∷ []
