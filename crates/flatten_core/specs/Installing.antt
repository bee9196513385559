-- The calls that install a flattened index: Look Top, List of each folder of droppings there, SyncDropping of the log and
-- of the index dropping of each covered writer by ascending id, PutFlat, SyncFlat, InstallFlat.
use Rattle.std.specs.Prelude.{ℕ, true, false, List, [], ◌∷◌, Result, Ok, Err}
use Rattle.plfs_types.specs.declared.entries.Cover.{Cover}
use Rattle.flat_format.specs.declared.flat.TheConstants.{HEAD_SIZE}
use Rattle.mount_model.specs.declared.stuck.Stuck.{Stuck}
use Rattle.mount_model.specs.Program.{done, ask, followed_by}
use Rattle.mount_model.specs.declared.call.Call.TheVariants.{SyncDropping, PutFlat, SyncFlat, InstallFlat}
use Rattle.mount_model.specs.declared.reply.Reply.{Reply}
use Rattle.mount_model.specs.declared.reply.Reply.TheVariants.{Done}
use Rattle.mount_model.specs.Paths.{flat_path}
use Rattle.mount_model.specs.FlowReplies.{Tries, on_ok, damage, failure}
use Rattle.index_reader.specs.declared.listing.Dropping.{Dropping}
use Rattle.index_reader.specs.declared.listing.Listing.{Listing}
use Rattle.index_reader.specs.Opening.{scan_program}
use Rattle.flatten_core.specs.Covered.{covered}

abbrev pub done_or : Reply → Result (Unit {0}) Stuck
done_or Done = Ok tt
done_or reply = Err (failure reply)

-- it goes on after Done
abbrev pub if_done : Tries (Unit {0}) → Reply → Tries (Unit {0})
if_done next Done = next
if_done next reply = done (Err (failure reply))

abbrev pub installs : ℕ → Tries (Unit {0})
installs flat = ask (InstallFlat flat) (λ reply. done (done_or reply))

abbrev pub syncs_flat : ℕ → Tries (Unit {0})
syncs_flat flat = ask (SyncFlat flat) (if_done (installs flat))

abbrev pub puts : ℕ → List ℕ → Tries (Unit {0})
puts flat bytes = ask (PutFlat flat bytes) (if_done (syncs_flat flat))

-- the index dropping of a writer is synced, and what follows
abbrev pub syncs_index : ℕ → Dropping → Tries (Unit {0}) → Tries (Unit {0})
syncs_index room d next = ask (SyncDropping room d.host d.writer false) (if_done next)

-- its log, and then its index dropping
abbrev pub syncs_both : ℕ → Dropping → Tries (Unit {0}) → Tries (Unit {0})
syncs_both room d next = ask (SyncDropping room d.host d.writer true) (if_done (syncs_index room d next))

-- these droppings are synced, and then the flattened index is put
abbrev pub syncs : ℕ → ℕ → List ℕ → List Dropping → Tries (Unit {0})
syncs room flat bytes [] = puts flat bytes
syncs room flat bytes (d ∷ ds) = syncs_both room d (syncs room flat bytes ds)

-- a covered writer without an index dropping is damage at its cover
abbrev pub syncs_covered : ℕ → ℕ → List ℕ → Result (List Dropping) ℕ → Tries (Unit {0})
syncs_covered room flat bytes (Err place) = done (Err (damage (flat_path flat) place))
syncs_covered room flat bytes (Ok droppings) = syncs room flat bytes droppings

abbrev pub syncs_listed : ℕ → ℕ → List Cover → List ℕ → Listing → Tries (Unit {0})
syncs_listed room flat covers bytes listing = syncs_covered room flat bytes (covered listing.droppings HEAD_SIZE covers [])

abbrev pub install_program : ℕ → ℕ → List Cover → List ℕ → Tries (Unit {0})
install_program room flat covers bytes = followed_by (scan_program room) (on_ok (syncs_listed room flat covers bytes))
