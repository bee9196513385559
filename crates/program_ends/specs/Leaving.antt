-- What a run leaves of its store.
use Rattle.std.specs.Prelude.{◌≡◌, ℕ, List, Option, Some}
use Rattle.store_api.specs.Acts.{Stored}
use Rattle.mount_model.specs.State.{State}
use Rattle.mount_model.specs.Mounting.{IsMounted}
use Rattle.mount_model.specs.declared.mount_trouble.MountTrouble.{MountTrouble}
use Rattle.mount_model.specs.Failing.{FailsToMount}
use Rattle.program_ends.specs.Ends.{Ends}

-- A mount was made of the store as it was, with these times to come, and such calls of it led to what is left of the store.
pub record IsRun (Calls : State → State → Type 0) (times : Option (List ℕ)) (before after : Stored) : Type 0 where
  pub start : State
  pub end : State
  pub mounted : IsMounted 0 times before start
  pub called : Calls start end
  pub left : end.store ≡ after

-- That, or the mounting broke off and left the store so.
pub data Leaves (Calls : State → State → Type 0) (times : Option (List ℕ)) (before after : Stored) : Type 0 where
  broke_off : (trouble : MountTrouble) → FailsToMount before trouble after → Leaves Calls times before after
  ran : IsRun Calls times before after → Leaves Calls times before after

-- memory was refused from the mounting on, and the store is as the mounting or such calls of the mount left it
pub record IsStoreLeft (Calls : State → State → Type 0) (e : Ends) : Type 0 where
  pub after : Stored
  pub left : e.stored_after ≡ Some after
  pub lawful : Leaves Calls e.times e.stored after
