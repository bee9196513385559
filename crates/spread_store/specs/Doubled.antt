-- Names that rooms of two stores have.
use Rattle.std.specs.Prelude.{◌≡◌, ◌⊎◌}
use Rattle.std.specs.Ordering.{nat_cmp}
use Rattle.std.specs.declared.cmp.Ordering.TheVariants.{Less}
use Rattle.std.specs.Cmp.Lexicographic.{slice_cmp}
use Rattle.store_api.specs.Step.{Name}
use Rattle.spread_store.specs.declared.places.Place.{Place}
use Rattle.spread_store.specs.Joined.{Held}
use Rattle.spread_store.specs.Finding.{IsNamed}

-- two stores have a room of this name
pub record IsDoubled (held : Held) (name : Name) : Type 0 where
  pub one : Place
  pub other : Place
  pub first : IsNamed held name one
  pub second : IsNamed held name other
  pub two : one.store ≡ other.store → ⊥

-- the first name comes before the second in byte order
abbrev pub IsBelow : Name → Name → Type 0
IsBelow a b = slice_cmp nat_cmp a b ≡ Less

abbrev pub IsAtMost : Name → Name → Type 0
IsAtMost a b = (a ≡ b) ⊎ IsBelow a b

-- two stores have a room of this name, and of no lesser one
pub record IsLeastDoubled (held : Held) (name : Name) : Type 0 where
  pub doubled : IsDoubled held name
  pub least : (other : Name) → IsDoubled held other → IsAtMost name other
