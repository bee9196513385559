-- Up to where truncates leave what was written.
use Rattle.std.specs.Prelude.{ℕ, ◌≡◌, ◌≤◌, nat_lt, min, if◌then◌else◌, List, [], ◌∷◌}
use Rattle.std.specs.List.{AllByRecursion}
use Rattle.plfs_types.specs.declared.entries.Trunc.{Trunc}
use Rattle.plfs_types.specs.declared.limits.TheConstants.{MAX_SIZE}

-- the least size that a truncate with this stamp or a later one gave the file, or the greatest size
abbrev pub limit : List Trunc → ℕ → ℕ
limit [] stamp = MAX_SIZE
limit (t ∷ truncs) stamp = if nat_lt t.stamp stamp then limit truncs stamp else min t.size (limit truncs stamp)

-- the newest truncate stands first
abbrev pub StampsFall : List Trunc → Type 0
StampsFall [] = Unit {0}
StampsFall (t ∷ truncs) = AllByRecursion (λ (u : Trunc). u.stamp ≤ t.stamp) truncs × StampsFall truncs

-- no truncate has a greater size than one before it
abbrev pub SizesFall : List Trunc → Type 0
SizesFall [] = Unit {0}
SizesFall (t ∷ truncs) = AllByRecursion (λ (u : Trunc). u.size ≤ t.size) truncs × SizesFall truncs

abbrev pub AreWithin : List Trunc → Type 0
AreWithin truncs = AllByRecursion (λ (t : Trunc). t.size ≤ MAX_SIZE) truncs

-- Cuts stand newest first, no later one allows less, and the limits are those of the truncates. So the last cut with
-- a stamp or a later one is the limit of that stamp.
pub record AreCutsOf (truncs cuts : List Trunc) : Type 0 where
  pub fall : StampsFall cuts
  pub lower : SizesFall cuts
  pub within : AreWithin cuts
  pub limits : (stamp : ℕ) → limit cuts stamp ≡ limit truncs stamp
