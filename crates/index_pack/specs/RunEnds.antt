-- What one run comes to, by its first and last entry.
use Rattle.std.specs.Prelude.{◌≡◌, ℕ, ◌+◌, ◌-◌, ◌*◌, ◌≤◌, ◌<◌}
use Rattle.plfs_types.specs.declared.limits.TheConstants.{MAX_LOG, MAX_SIZE, MAX_STAMP}
use Rattle.index_pack.specs.declared.runs.Run.{Run}
use Rattle.index_pack.specs.Runs.{IsRun}

-- the stamp of its last entry
abbrev pub run_stamp : Run → ℕ
run_stamp r = r.stamp + (r.count - 1) * r.step

-- its first and its last entry are where they may be
pub record EndsWell (writer last offset : ℕ) (r : Run) : Type 0 where
  pub shape : IsRun r
  pub owner : r.writer ≡ writer
  pub place : r.physical ≡ offset
  pub later : last < r.stamp
  pub some : 1 ≤ r.len
  pub within : r.start + (r.count - 1) * r.stride + r.len ≤ MAX_SIZE
  pub in_range : run_stamp r ≤ MAX_STAMP
  pub near : offset + r.count * r.len ≤ MAX_LOG
