-- Listings whose names have a number each: the greatest number, or the least name that has none.
use Rattle.std.specs.Prelude.{◌≡◌, ◌≢◌, ◌⊎◌, ℕ, ◌≤◌, ◌<◌, ◌^◌, List, []}
use Rattle.std.specs.List.{All, Any}
use Rattle.std.specs.Ordering.{nat_cmp}
use Rattle.std.specs.Cmp.Lexicographic.{slice_cmp}
use Rattle.std.specs.declared.cmp.Ordering.TheVariants.{Greater}
use Rattle.container_layout.specs.declared.items.Item.TheVariants.{Trunc}
use Rattle.container_layout.specs.Paths.{IsIn}
use Rattle.mount_model.specs.Paths.{Name, truncs, mark_name}

-- the name has none
abbrev pub HasNone : (Name → ℕ → Type 0) → Name → Type 0
HasNone numbered name = (number : ℕ) → numbered name number → ⊥

-- each name has a number, and this is the greatest one, or 0 where there are no names
pub record IsGreatest (numbered : Name → ℕ → Type 0) (names : List Name) (greatest : ℕ) : Type 0 where
  pub numbers : All (λ name. (number : ℕ) × numbered name number × (number ≤ greatest)) names
  pub reached : ((names ≡ []) × (greatest ≡ 0)) ⊎ Any (λ name. numbered name greatest) names

-- of these names the least one in byte order that has none
pub record IsLeastOther (numbered : Name → ℕ → Type 0) (names : List Name) (name : Name) : Type 0 where
  pub there : Any (λ other. other ≡ name) names
  pub foreign : HasNone numbered name
  pub least : All (λ other. HasNone numbered other → slice_cmp nat_cmp name other ≢ Greater) names

-- the name is a truncate's of this stamp
abbrev pub HasStamp : Name → ℕ → Type 0
HasStamp name stamp = (size : ℕ) × IsIn truncs name (Trunc stamp size)

-- a mount may have this number
abbrev pub IsMountNumber : ℕ → Type 0
IsMountNumber mount = (1 ≤ mount) × (mount < 2 ^ 32)

-- the name is the mark of the mount of this number
abbrev pub IsMarkOf : Name → ℕ → Type 0
IsMarkOf name mount = IsMountNumber mount × (name ≡ mark_name mount)
