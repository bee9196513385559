-- What acts left that faulted.
use Rattle.std.specs.Prelude.{nat_eq, List, [], ◌∷◌, ◌++◌, if◌then◌else◌}
use Rattle.store_api.specs.Acts.{Stored}
use Rattle.mount_model.specs.History.{Event}

-- What the store had after a call in which it failed: its count of faults, which never falls, is another then. Of any other call nothing.
abbrev pub left_where_faulted : Stored → Stored → List Stored
left_where_faulted old new = if nat_eq new.faults old.faults then [] else new ∷ []

-- What the store had after the first act that faulted, after the second, and so on, in the order of these calls. Its count of acts says which act that was.
abbrev pub left_by_faulted : Stored → List Event → List Stored
left_by_faulted before [] = []
left_by_faulted before (call ∷ calls) = left_where_faulted before call.after.store ++ left_by_faulted call.after.store calls
