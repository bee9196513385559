-- What a run leaves that a plain machine has.
use Rattle.std.specs.Prelude.{◌≡◌, Some}
use Rattle.store_api.specs.declared.tree.Tree.{Tree}
use Rattle.store_api.specs.Acts.{Stored}
use Rattle.mount_model.specs.State.{State}
use Rattle.plain_machine.specs.Machine.{Plain}
use Rattle.plain_plays.specs.Droppings.{HaveDroppings}
use Rattle.plain_plays.specs.Saying.{IsMirrored}

-- The machine has what a mount has that leaves the store so. In the tree that this tells, each writer of the machine has its droppings.
pub record IsLeftWith (p : Plain) (after : Stored) : Type 0 where
  pub end : State
  pub left : end.store ≡ after
  pub mirrored : IsMirrored end p
  pub droppings : (tree : Tree) → after.tree ≡ Some tree → HaveDroppings tree p
