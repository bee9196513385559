-- What a write that is not refused may rest on.
use Rattle.std.specs.Prelude.{ℕ, ◌+◌, ◌≤◌, ◌<◌, length}
use Rattle.plfs_types.specs.declared.limits.TheConstants.{MAX_LOG, MAX_SIZE, MAX_STAMP}
use Rattle.mount_model.specs.declared.row.Row.{Row}

-- the writer's numbers leave room for so many bytes from this place on
pub record MayTake (row : Row) (at len : ℕ) : Type 0 where
  pub some : 1 ≤ len
  pub near : at + len ≤ MAX_SIZE
  pub small : row.stored + len ≤ MAX_LOG
  pub last : row.last < MAX_STAMP
  pub floor : row.floor < MAX_STAMP
  pub room : length row.pending.entries < row.pending.capacity

-- the stamp is later than the writer's last one, and in its range
pub record IsStampFor (row : Row) (stamp : ℕ) : Type 0 where
  pub later : row.last < stamp
  pub fits : stamp ≤ MAX_STAMP
