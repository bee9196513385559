-- What a plain machine says of a script that is played on a mount of a store.
use Rattle.std.specs.Prelude.{◌≡◌, ◌⊎◌, ℕ, List, map, Option, Some}
use Rattle.store_api.specs.declared.tree.Tree.{Tree}
use Rattle.store_api.specs.Acts.{Stored}
use Rattle.script_lang.specs.declared.line.Line.{Line}
use Rattle.script_lang.specs.declared.script.Script.{Script}
use Rattle.mount_model.specs.State.{State}
use Rattle.mount_model.specs.Failing.{FailsToMount}
use Rattle.mount_model.specs.Mounting.{IsMounted}
use Rattle.mount_model.specs.declared.mount_trouble.MountTrouble.{MountTrouble}
use Rattle.mount_model.specs.declared.mount_trouble.MountTrouble.TheVariants.{Fault, NoMemory}
use Rattle.plain_machine.specs.Machine.{Plain}
use Rattle.plain_machine.specs.Running.{IsPlainScript, nobody}
use Rattle.plain_plays.specs.Beginning.{bare_tree, first_machine}
use Rattle.plain_plays.specs.Droppings.{HaveDroppings}
use Rattle.plain_plays.specs.Saying.{BeginsPlainly, SaysPlainly}

-- No mounting of the store breaks off but for a fault or want of memory, and each mount of it begins with what the machine has.
pub record MountsAs (script : Script) (times : Option (List ℕ)) (opened : Stored) (p : Plain) : Type 0 where
  pub mounts : (trouble : MountTrouble) (left : Stored) → FailsToMount opened trouble left → (trouble ≡ Fault) ⊎ (trouble ≡ NoMemory)
  pub begins : (start : State) → IsMounted 0 times opened start → BeginsPlainly script start p

-- The machine that begins where this store is mounted. Where that has no rooms it has the room of the marks alone, and the mark is 1.
pub data BeginsOver (script : Script) (times : Option (List ℕ)) (opened : Stored) (p : Plain) : Type 0 where
  bare : opened.tree ≡ Some bare_tree → p ≡ first_machine (map nobody script.actors) times 1 → BeginsOver script times opened p
  as_mounted : MountsAs script times opened p → BeginsOver script times opened p

-- The lines are what the machine says of the script, and it has at the end what a mount has that leaves the store so. In the tree that this tells, each writer of
-- the machine has its droppings.
pub record IsSaidOver (script : Script) (p : Plain) (lines : List Line) (after : Stored) : Type 0 where
  pub end : State
  pub left : end.store ≡ after
  pub says : SaysPlainly script p lines end
  pub droppings : (tree : Tree) → after.tree ≡ Some tree → HaveDroppings tree says.last

-- where the script has no `turn` and no `stop` lines, each machine that begins over the store says these lines
abbrev pub TellsPlainly : Script → Option (List ℕ) → Stored → List Line → Stored → Type 0
TellsPlainly script times opened lines after = IsPlainScript script → (p : Plain) → BeginsOver script times opened p → IsSaidOver script p lines after

-- a machine begins with each mount of the store, and says these lines
pub record IsSaidByOne (script : Script) (times : Option (List ℕ)) (opened : Stored) (lines : List Line) (after : Stored) : Type 0 where
  pub machine : Plain
  pub begins : MountsAs script times opened machine
  pub says : IsSaidOver script machine lines after

-- where the script has no `turn` and no `stop` lines, there is such a machine
abbrev pub TellsOfOne : Script → Option (List ℕ) → Stored → List Line → Stored → Type 0
TellsOfOne script times opened lines after = IsPlainScript script → IsSaidByOne script times opened lines after
