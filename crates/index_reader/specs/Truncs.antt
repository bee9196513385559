-- The call that lists a container's truncates, and what its names tell.
use Rattle.std.specs.Prelude.{ℕ, ◌+◌, ◌==◌, nat_lt, Bool, if◌then◌else◌, List, [], ◌∷◌, ◌++◌, take, drop, Option, Some, None, Result, Ok, Err}
use Rattle.plfs_types.specs.declared.entries.Trunc.{Trunc}
use Rattle.plfs_types.specs.declared.names.Path.{Path}
use Rattle.mount_model.specs.declared.stuck.Stuck.{Stuck}
use Rattle.mount_model.specs.Names.{trunc_in}
use Rattle.mount_model.specs.FlowReplies.{Tries, given, names_in, damage, trouble}
use Rattle.mount_model.specs.Program.{done, ask}
use Rattle.mount_model.specs.declared.call.Call.TheVariants.{Look}
use Rattle.mount_model.specs.declared.call.Look.TheVariants.{List as ListFolder}
use Rattle.mount_model.specs.Paths.{Name, truncs}

-- it has the earlier stamp, or at one stamp the smaller size
abbrev pub is_before : Trunc → Trunc → Bool
is_before t u = if t.stamp == u.stamp then nat_lt t.size u.size else nat_lt t.stamp u.stamp

-- the place of a truncate among those in order
abbrev pub place_of : Trunc → List Trunc → ℕ
place_of t [] = 0
place_of t (u ∷ us) = if is_before t u then 0 else 1 + place_of t us

abbrev pub inserted : Trunc → List Trunc → List Trunc
inserted t us = take (place_of t us) us ++ t ∷ drop (place_of t us) us

abbrev pub truncs_path : Name → Path
truncs_path name = record { folder = truncs; file = name }

-- it goes on with a truncate, or the name is foreign
abbrev pub if_trunc : Name → Option Trunc → (Trunc → Result (List Trunc) Stuck) → Result (List Trunc) Stuck
if_trunc name None next = Err (damage (truncs_path name) 0)
if_trunc name (Some t) next = next t

-- the truncates that the names tell, as they are listed, behind those so far
abbrev pub truncs_listed : List Name → List Trunc → Result (List Trunc) Stuck
truncs_listed [] sofar = Ok sofar
truncs_listed (name ∷ names) sofar = if_trunc name (trunc_in name) (λ t. truncs_listed names (sofar ++ t ∷ []))

-- the truncates that the names tell, in order, with those so far
abbrev pub truncs_of : List Name → List Trunc → Result (List Trunc) Stuck
truncs_of [] sofar = Ok sofar
truncs_of (name ∷ names) sofar = if_trunc name (trunc_in name) (λ t. truncs_of names (inserted t sofar))

abbrev pub trunc_program : ℕ → Tries (List Trunc)
trunc_program room = ask
    (Look room (ListFolder truncs))
    (λ reply. given (names_in reply) (trouble (truncs_path []) reply) (λ names. done (truncs_of names [])))
