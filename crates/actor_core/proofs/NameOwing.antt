-- The calls that tell of a file, rename it, or list all files owe nothing of the state, and their numbers are in range.
use Rattle.std.proofs.Common.{ℕ, Bool, true, false, List, [], Option, Some, None, Result, Ok, Err}
use Rattle.mount_model.specs.declared.stuck.Stuck.{Stuck}
use Rattle.mount_model.specs.Paths.{metadata}
use Rattle.mount_model.specs.declared.names.Metadata.{Metadata}
use Rattle.mount_model.specs.FlowListed.{told_by}
use Rattle.mount_model.specs.FlowReplies.{Tries, given, on_ok, room_in, failure}
use Rattle.attr_flow.specs.Asking.{lists_truncs, lists_metadata, if_open, lists_open, attr_program}
use Rattle.attr_flow.specs.Listings.{is_open, metadata_named}
use Rattle.trunc_rename.specs.Holding.{holder_in, holds}
use Rattle.trunc_rename.specs.Renaming.{moves, rename_program}
use Rattle.actor_core.specs.Names.{names_program}
use Rattle.actor_core.proofs.WriterOwing.{IsUnowed}

given_unowed : {A R : Type 0} (o : Option A) (why : Stuck) (next : A → Tries R) → ((a : A) → IsUnowed (next a)) → IsUnowed (given o why next)
given_unowed None why next goes = tt
given_unowed (Some a) why next goes = goes a

on_ok_unowed : {A R : Type 0} (next : A → Tries R) → ((a : A) → IsUnowed (next a)) → (result : Result A Stuck) → IsUnowed (on_ok next result)
on_ok_unowed next goes (Ok a) = goes a
on_ok_unowed next goes (Err because) = tt

-- ---- telling

lists_truncs_unowed : (room : ℕ) (metas : List Metadata) → IsUnowed (lists_truncs room metas)
lists_truncs_unowed room metas = ((tt, tt), λ reply. tt)

lists_metadata_unowed : (room : ℕ) → IsUnowed (lists_metadata room)
lists_metadata_unowed room = ((tt, tt), λ reply. on_ok_unowed (lists_truncs room) (lists_truncs_unowed room) (told_by metadata (λ names. metadata_named names []) reply))

if_open_unowed : (room : ℕ) (is : Bool) → IsUnowed (if_open room is)
if_open_unowed room true = tt
if_open_unowed room false = lists_metadata_unowed room

lists_open_unowed : (room : ℕ) → IsUnowed (lists_open room)
lists_open_unowed room = ((tt, tt), λ reply. on_ok_unowed (if_open room) (if_open_unowed room) (is_open reply))

pub attr_unowed : (name : List ℕ) → IsUnowed (attr_program name)
attr_unowed name = ((tt, tt), λ reply. given_unowed (room_in reply) (failure reply) lists_open lists_open_unowed)

-- ---- renaming

moves_unowed : (to : List ℕ) (holder : ℕ) → IsUnowed (moves to holder)
moves_unowed to holder = ((tt, tt), λ reply. ((tt, tt), λ last. tt))

holds_unowed : (to : List ℕ) (room : ℕ) → IsUnowed (holds room (moves to))
holds_unowed to room = ((tt, tt), λ reply. given_unowed (holder_in reply) (failure reply) (moves to) (moves_unowed to))

pub rename_unowed : (name to : List ℕ) → IsUnowed (rename_program name to)
rename_unowed name to = ((tt, tt), λ reply. given_unowed (room_in reply) (failure reply) (λ room. holds room (moves to)) (holds_unowed to))

-- ---- listing

pub names_unowed : IsUnowed names_program
names_unowed = ((tt, tt), λ reply. tt)
