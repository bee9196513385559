-- Stores whose small files stand in containers that have nothing else.
use Rattle.std.specs.Prelude.{◌≡◌, ℕ, List, Option, Some}
use Rattle.store_api.specs.declared.tree.Tree.{Tree}
use Rattle.store_api.specs.Acts.{Stored}
use Rattle.mount_sound.specs.Sound.{IsSoundTree}
use Rattle.command_line.specs.Commands.{IsCommand}
use Rattle.command_line.specs.declared.commands.Command.{Command}
use Rattle.packing_laws.specs.HasOnly.{TreeIsOfUnits}
use Rattle.packing_laws.specs.OnlyUnits.{Filing}
use Rattle.plfs_program.specs.Commands.{container_of}

-- The store tells a sound tree, in which the container of this name has only units, where there is one.
pub record TellsUnitsOf (stored : Stored) (name : List ℕ) : Type 0 where
  pub filing : Filing
  pub tree : Tree
  pub told : stored.tree ≡ Some tree
  pub sound : IsSoundTree tree
  pub units : TreeIsOfUnits filing tree sound name

-- where the words ask for the small files of a container, it has only units
abbrev pub AskForUnits : List (List ℕ) → Stored → Type 0
AskForUnits words stored = (command : Command) (name : List ℕ) → IsCommand words command → container_of command ≡ Some name → TellsUnitsOf stored name
