-- What is found in a listing: the greatest number of its names, or the least name that has none.
use Rattle.std.specs.Prelude.{◌≡◌, ◌≢◌, ◌⊎◌, ℕ, ◌≤◌, List, Option, MatchOption}
use Rattle.std.specs.Ordering.{nat_cmp}
use Rattle.std.specs.Cmp.Lexicographic.{slice_cmp}
use Rattle.std.specs.declared.cmp.Ordering.TheVariants.{Greater}
use Rattle.plfs_types.specs.declared.limits.TheConstants.{MAX_STAMP}
use Rattle.mount_model.specs.Paths.{Name}
use Rattle.mount_model.specs.Listed.{IsGreatest, IsLeastOther, HasStamp, IsMarkOf}
use Rattle.mount_table.specs.declared.scanning.Listing.{Listing}
use Rattle.mount_table.specs.declared.scanning.Listing.TheVariants.{Truncates, Marks}

-- a truncate's stamp, or the number of a mount
abbrev pub numbered : Listing → Name → ℕ → Type 0
numbered Truncates = HasStamp
numbered Marks = IsMarkOf

-- what is known of names that were read: their greatest number, or the least other one
abbrev pub IsScanned : Listing → List Name → ℕ → Option Name → Type 0
IsScanned listing names greatest other =
    MatchOption other (IsGreatest (numbered listing) names greatest × (greatest ≤ MAX_STAMP)) (IsLeastOther (numbered listing) names)

-- of an old name, if there is one, and a new one the lesser in byte order
abbrev pub IsLesser : Option Name → Name → Name → Type 0
IsLesser other name lesser = MatchOption other (lesser ≡ name) (λ old.
    ((lesser ≡ old) × (slice_cmp nat_cmp old name ≢ Greater)) ⊎ ((lesser ≡ name) × (slice_cmp nat_cmp old name ≡ Greater)))
