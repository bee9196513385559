-- The calls of a reader's programs owe nothing of the state, and their numbers are in range: they only look.
use Rattle.std.proofs.Common.{ℕ, true, false, List, [], ◌∷◌, ◌++◌, length, take, replicate, nat_lt, Option, Some, None, Result, Ok, Err}
use Rattle.std.specs.Prelude.{if◌then◌else◌}
use Rattle.plfs_types.specs.declared.entries.Cover.{Cover}
use Rattle.plain_file.specs.declared.parts.WriterHost.{WriterHost}
use Rattle.mount_model.specs.declared.stuck.Stuck.{Stuck}
use Rattle.mount_model.specs.FlowReplies.{Tries, given, on_ok, bytes_in, damage, trouble}
use Rattle.mount_model.specs.Program.{Program, done, ask}
use Rattle.mount_model.specs.Paths.{log_path}
use Rattle.mount_model.specs.declared.call.Call.{Call}
use Rattle.mount_model.specs.declared.call.Call.TheVariants.{Find, Look}
use Rattle.mount_model.specs.declared.reply.Reply.{Reply}
use Rattle.mount_model.specs.declared.reply.Reply.TheVariants.{Room}
use Rattle.read_plan.specs.declared.part.Part.{Part}
use Rattle.index_reader.specs.declared.listing.Dropping.{Dropping}
use Rattle.index_reader.specs.declared.placing.Placed.{Placed}
use Rattle.index_reader.specs.declared.placing.Placed.TheVariants.{Zeros, Logged}
use Rattle.index_reader.specs.Opening.{open_at_program, open_read_program}
use Rattle.index_reader.specs.Reading.{placed_all, ends_at, spells, read_program}
use Rattle.index_reader.specs.Sharing.{share_program}
use Rattle.index_reader.specs.Truncs.{trunc_program}
use Rattle.index_reader.proofs.Facts.{IsLook, OnlyLooks, listing_looks, share_looks, truncs_looks}
use Rattle.plain_file.specs.declared.parts.ReaderParts.{ReaderParts}
use Rattle.refresh_index.specs.Refreshing.{refresh_program}
use Rattle.refresh_index.proofs.LookLemmas.{refresh_looks}
use Rattle.actor_core.specs.Owed.{IsHarmlessCall}
use Rattle.actor_core.proofs.WriterOwing.{IsUnowed}

look_unowed : (call : Call) → IsLook call → IsHarmlessCall call
look_unowed (Find name) is = (tt, tt)
look_unowed (Look room look) is = (tt, tt)
look_unowed other is = absurd is

looks_unowed : {R : Type 0} (p : Program Call Reply R) → OnlyLooks p → IsUnowed p
looks_unowed (done result) looks = tt
looks_unowed (ask call k) looks = (look_unowed call looks.0, λ reply. looks_unowed (k reply) (looks.1 reply))

pub listing_unowed : (name : List ℕ) → IsUnowed (open_read_program name)
listing_unowed name = looks_unowed (open_read_program name) (listing_looks name)

pub listing_at_unowed : (room : ℕ) → IsUnowed (open_at_program room)
listing_at_unowed room = looks_unowed (open_at_program room) ((listing_looks []).1 (Room room))

pub share_unowed : (room : ℕ) (share : List Dropping) (covers : List Cover) → IsUnowed (share_program room share covers)
share_unowed room share covers = looks_unowed (share_program room share covers) (share_looks room share covers)

pub truncs_unowed : (room : ℕ) → IsUnowed (trunc_program room)
truncs_unowed room = looks_unowed (trunc_program room) (truncs_looks room)

pub refresh_unowed : (held : ReaderParts) → IsUnowed (refresh_program held)
refresh_unowed held = looks_unowed (refresh_program held) (refresh_looks held)

pub on_ok_unowed : {A R : Type 0} (next : A → Tries R) → ((a : A) → IsUnowed (next a)) → (result : Result A Stuck) → IsUnowed (on_ok next result)
on_ok_unowed next goes (Ok a) = goes a
on_ok_unowed next goes (Err because) = tt

given_unowed : {A R : Type 0} (o : Option A) (why : Stuck) (next : A → Tries R) → ((a : A) → IsUnowed (next a)) → IsUnowed (given o why next)
given_unowed None why next goes = tt
given_unowed (Some a) why next goes = goes a

spells_unowed : (room : ℕ) (parts : List Placed) (sofar : List ℕ) → IsUnowed (spells room parts sofar)
spells_unowed room [] sofar = tt
spells_unowed room (Zeros len ∷ parts) sofar = spells_unowed room parts (sofar ++ replicate len 0)
spells_unowed room (Logged p ∷ parts) sofar = (
  (tt, tt),
  λ reply. given_unowed (bytes_in reply) (trouble (log_path p.host p.writer) reply)
      (λ bytes. if nat_lt (length bytes) p.len
      then done (Err (damage (log_path p.host p.writer) (ends_at p (length bytes))))
      else spells room parts (sofar ++ take p.len bytes))
      (λ bytes. elim (nat_lt (length bytes) p.len) as (λ b. IsUnowed (if b then done (Err (damage (log_path p.host p.writer) (ends_at p (length bytes)))) else spells room parts (sofar ++ take p.len bytes))) [
        | true ↦ tt
        | false ↦ spells_unowed room parts (sofar ++ take p.len bytes)
      ]),
)

pub read_unowed : (room : ℕ) (hosts : List WriterHost) (parts : List Part) → IsUnowed (read_program room hosts parts)
read_unowed room hosts parts = spells_unowed room (placed_all hosts parts) []
