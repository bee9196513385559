-- What a step does to a tree that is told, by what it tells.
use Rattle.std.specs.Prelude.{◌≡◌, Result, Ok, Err}
use Rattle.store_api.specs.declared.tree.Tree.{Tree}
use Rattle.store_api.specs.declared.step.Answer.{Answer}
use Rattle.store_api.specs.declared.step.Answer.TheVariants.{Made}
use Rattle.store_api.specs.declared.store.Trouble.{Trouble}
use Rattle.store_api.specs.declared.store.Trouble.TheVariants.{Fault, NoMemory}
use Rattle.store_api.specs.Step.{Step}
use Rattle.store_api.specs.Effect.{effect}
use Rattle.store_api.specs.Leaves.{MayLeave}

-- an answer comes with its tree, a fault leaves what may be left, want of memory leaves the tree
abbrev pub Tells : Step → Tree → Result Answer Trouble → Tree → Type 0
Tells step tree (Ok answer) after = effect tree step ≡ record { tree = after; answer = answer }
Tells step tree (Err Fault) after = MayLeave tree step after
Tells step tree (Err NoMemory) after = after ≡ tree

-- the step told that it was made
abbrev pub made : Result Answer Trouble
made = Ok Made
