-- ROOT as several folders.
use Rattle.std.specs.Prelude.{ℕ, Bool, false, List, length, Option, Some, None, is_some, slice_get, position, nat_lt, if◌then◌else◌}
use Rattle.store_folder.specs.declared.store.StoreByCalls.{StoreByCalls}

abbrev pub has_name : List ℕ → Bool
has_name folder = nat_lt 0 (length folder)

-- a step of this store failed
abbrev pub has_failed : {C F : Type 0} → Option (StoreByCalls C F) → Bool
has_failed None = false
has_failed (Some store) = is_some store.cause

abbrev pub or_first : Option ℕ → ℕ
or_first None = 0
or_first (Some place) = place

-- the store of the last step where it failed, else the first that did
abbrev pub failed_place : {C F : Type 0} → List (StoreByCalls C F) → ℕ → ℕ
failed_place stores last = if has_failed (slice_get stores last) then last else or_first (position (λ store. is_some store.cause) stores)
