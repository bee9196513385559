use Rattle.std.proofs.Common.{◌-◌, ◌≡◌, ◌<◌, ℕ}
use Rattle.container_layout.specs.Paths.{hostdir_of}
use Rattle.shape_check.proofs.folders.is_hostdir.Given as goal

-- it is none of the folders so far
abbrev pub invariant-loop-host : goal.invariant-loop-host
invariant-loop-host l = (host : ℕ) → host < l.host → l.folder ≡ hostdir_of host → ⊥

abbrev pub decreases-loop-host : goal.decreases-loop-host
decreases-loop-host l = 32 - l.host
