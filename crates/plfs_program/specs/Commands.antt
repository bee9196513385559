-- The commands, and the scripts that they play.
use Rattle.std.specs.Prelude.{◌≡◌, ◌⊎◌, ℕ, ◌≤◌, ◌<◌, List, [], ◌∷◌, Option, Some, None, codes}
use Rattle.plfs_types.specs.Names.{IsLogicalName}
use Rattle.command_line.specs.declared.commands.Command.{Command}
use Rattle.command_line.specs.declared.commands.Command.TheVariants as command
use Rattle.script_lang.specs.Generated.{generated}
use Rattle.script_lang.specs.Ranges.{FitsScript}
use Rattle.script_lang.specs.declared.script.ActorDecl.{ActorDecl}
use Rattle.script_lang.specs.declared.script.Numbered.{Numbered}
use Rattle.script_lang.specs.declared.script.Script.{Script}
use Rattle.script_lang.specs.declared.script.Statement.{Statement}
use Rattle.script_lang.specs.declared.script.Statement.TheVariants as statement
use Rattle.plfs_program.specs.declared.commands.Built.{Built}
use Rattle.plfs_program.specs.declared.commands.Built.TheVariants as built
use Rattle.plfs_program.specs.declared.commands.Plan.{Plan}
use Rattle.plfs_program.specs.declared.showing.Shown.{Shown}
use Rattle.plfs_program.specs.declared.showing.Shown.TheVariants.{All, PastOpening, Summed}

-- the one actor of a command
abbrev pub actor : ActorDecl
actor = record { host = 0; cap = 64; name = codes "a" }

-- its statements have no line of a script
abbrev pub of_command : Statement → Numbered
of_command statement = record { line = 0; actor = 0; statement = statement }

-- one actor makes these statements in one phase
abbrev pub script_of : List Numbered → Script
script_of statements = record { actors = actor ∷ []; phases = record { turns = []; statements = statements } ∷ [] }

-- it makes this one
abbrev pub one_script : Statement → Script
one_script statement = script_of (of_command statement ∷ [])

-- it opens a reader and lists its pieces
abbrev pub map_script : List ℕ → Script
map_script name = script_of (of_command (statement.Ropen name 1) ∷ of_command statement.Map ∷ [])

-- a script, and what is shown of its lines
abbrev pub plan : Script → Shown → Plan
plan script shown = record { script = script; shown = shown }

-- what a command plays whose script its words alone tell
abbrev pub plan_of : Command → Option Plan
plan_of (command.Gen writers) = Some (plan (generated writers) Summed)
plan_of (command.Map name) = Some (plan (map_script name) PastOpening)
plan_of (command.Stat name) = Some (plan (one_script (statement.Stat name)) All)
plan_of (command.Flatten name) = Some (plan (one_script (statement.Flatten name)) All)
plan_of (command.Recover name) = Some (plan (one_script (statement.Recover name)) All)
plan_of (command.Trunc name size) = Some (plan (one_script (statement.Trunc name size)) All)
plan_of (command.Rename name to) = Some (plan (one_script (statement.Rename name to)) All)
plan_of command.Ls = Some (plan (one_script statement.Ls) All)
plan_of other = None

-- the command has this plan
abbrev pub IsPlanned : Command → Plan → Type 0
IsPlanned asked planned = plan_of asked ≡ Some planned

-- the commands that need no threads
abbrev pub IsBuiltCommand : Command → Type 0
IsBuiltCommand command.Play = Unit {0}
IsBuiltCommand (command.Cat name) = Unit {0}
IsBuiltCommand (command.Migrate name) = Unit {0}
IsBuiltCommand (command.Pack name region) = Unit {0}
IsBuiltCommand (command.Unpack name file) = Unit {0}
IsBuiltCommand (command.Names name) = Unit {0}
IsBuiltCommand asked = (planned : Plan) × IsPlanned asked planned

-- with threads `run` is served beside them
abbrev pub IsServed : Command → Type 0
IsServed asked = IsBuiltCommand asked ⊎ (asked ≡ command.Run)

-- the name of the container whose small files the command packs, unpacks or names
abbrev pub container_of : Command → Option (List ℕ)
container_of (command.Pack name region) = Some name
container_of (command.Unpack name file) = Some name
container_of (command.Names name) = Some name
container_of other = None

-- the files that it names have logical names, and its writers are 1 to 256
abbrev pub FitsCommand : Command → Type 0
FitsCommand (command.Gen writers) = (1 ≤ writers) × (writers ≤ 256)
FitsCommand (command.Cat name) = IsLogicalName name
FitsCommand (command.Stat name) = IsLogicalName name
FitsCommand (command.Map name) = IsLogicalName name
FitsCommand (command.Flatten name) = IsLogicalName name
FitsCommand (command.Recover name) = IsLogicalName name
FitsCommand (command.Migrate name) = IsLogicalName name
FitsCommand (command.Pack name region) = IsLogicalName name × (region < 256)
FitsCommand (command.Unpack name file) = IsLogicalName name × IsLogicalName file
FitsCommand (command.Names name) = IsLogicalName name
FitsCommand (command.Trunc name size) = IsLogicalName name
FitsCommand (command.Rename name to) = IsLogicalName name × IsLogicalName to
FitsCommand other = Unit {0}

-- the command is built in this way
abbrev pub IsBuiltAs : Command → Built → Type 0
IsBuiltAs asked built.Play = asked ≡ command.Play
IsBuiltAs asked (built.Cat name) = (asked ≡ command.Cat name) × IsLogicalName name
IsBuiltAs asked (built.Migrate name) = asked ≡ command.Migrate name
IsBuiltAs asked (built.Pack name region) = (asked ≡ command.Pack name region) × (region < 256)
IsBuiltAs asked (built.Unpack name file) = asked ≡ command.Unpack name file
IsBuiltAs asked (built.Names name) = asked ≡ command.Names name
IsBuiltAs asked (built.Planned planned) = IsPlanned asked planned × FitsScript planned.script
