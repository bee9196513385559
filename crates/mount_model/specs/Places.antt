-- What no call changes of a mount.
use Rattle.std.specs.Prelude.{◌≡◌, ◌≤◌}
use Rattle.mount_model.specs.State.{State}

-- the store as it was at first, the marks' room and the mount's mark stay, and serials only rise
pub record KeepsPlace (old new : State) : Type 0 where
  pub opened : new.opened ≡ old.opened
  pub marks : new.marks ≡ old.marks
  pub mount : new.mount ≡ old.mount
  pub serial : old.serial ≤ new.serial
