-- The ranges of items.
use Rattle.std.specs.Prelude.{◌≡◌, ℕ, ◌≤◌, ◌<◌, ◌^◌, ◌⊎◌}
use Rattle.plfs_types.specs.declared.limits.TheConstants.{MAX_LOG, MAX_SIZE, MAX_STAMP}
use Rattle.container_layout.specs.declared.items.Item.{Item}
use Rattle.container_layout.specs.declared.items.Item.TheVariants.{Access, OpenHost, Meta, Trunc, Flat, TmpFlat, Index, Log, Packed, TmpPacked}

-- what a writer left: all three numbers are 0 or none is
pub record IsMetaRange (last bytes stamp : ℕ) : Type 0 where
  pub last_fits : last ≤ MAX_SIZE
  pub bytes_fit : bytes ≤ MAX_LOG
  pub stamp_fits : stamp ≤ MAX_STAMP
  pub all_or_none : ((last ≡ 0) × (bytes ≡ 0) × (stamp ≡ 0)) ⊎ ((0 < last) × (0 < bytes) × (0 < stamp))

pub record IsTruncRange (stamp size : ℕ) : Type 0 where
  pub stamped : 1 ≤ stamp
  pub stamp_fits : stamp ≤ MAX_STAMP
  pub size_fits : size ≤ MAX_SIZE

-- the ranges that the types of the numbers do not give
abbrev pub IsInRange : Item → Type 0
IsInRange Access = Unit {0}
IsInRange (OpenHost host writer) = Unit {0}
IsInRange (Meta last bytes stamp host writer) = IsMetaRange last bytes stamp
IsInRange (Trunc stamp size) = IsTruncRange stamp size
IsInRange (Flat id) = Unit {0}
IsInRange (TmpFlat id) = Unit {0}
IsInRange (Index host writer) = Unit {0}
IsInRange (Log host writer) = Unit {0}
IsInRange (Packed host writer) = Unit {0}
IsInRange (TmpPacked host id) = Unit {0}

-- hosts have 32 bits, all other numbers 64
abbrev pub HasWidths : Item → Type 0
HasWidths Access = Unit {0}
HasWidths (OpenHost host writer) = (host < 2 ^ 32) × (writer < 2 ^ 64)
HasWidths (Meta last bytes stamp host writer) = (host < 2 ^ 32) × (writer < 2 ^ 64)
HasWidths (Trunc stamp size) = Unit {0}
HasWidths (Flat id) = id < 2 ^ 64
HasWidths (TmpFlat id) = id < 2 ^ 64
HasWidths (Index host writer) = (host < 2 ^ 32) × (writer < 2 ^ 64)
HasWidths (Log host writer) = (host < 2 ^ 32) × (writer < 2 ^ 64)
HasWidths (Packed host writer) = (host < 2 ^ 32) × (writer < 2 ^ 64)
HasWidths (TmpPacked host id) = (host < 2 ^ 32) × (id < 2 ^ 64)

-- an item whose numbers are in their ranges
pub record IsItem (item : Item) : Type 0 where
  pub in_range : IsInRange item
  pub widths : HasWidths item
