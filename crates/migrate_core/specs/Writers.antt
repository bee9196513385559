-- The calls that pack one writer: Length of its index dropping, Reads of its whole entries, StartPack, PutFlat, SyncFlat,
-- InstallFlat. A writer with too many entries is passed over after its Length.
use Rattle.std.specs.Prelude.{ℕ, zero, suc, ◌-◌, ◌*◌, ◌/◌, ◌==◌, nat_lt, if◌then◌else◌, List, length, Option, Some, None, Result, Ok, Err}
use Rattle.plfs_types.specs.declared.names.Path.{Path}
use Rattle.plfs_types.specs.declared.entries.Entry.{Entry}
use Rattle.plfs_types.specs.declared.limits.TheConstants.{MAX_PACKED}
use Rattle.mount_model.specs.Program.{done, ask}
use Rattle.mount_model.specs.declared.call.Call.TheVariants.{Look, StartPack, PutFlat, SyncFlat, InstallFlat}
use Rattle.mount_model.specs.declared.call.Look.TheVariants.{Length, Read}
use Rattle.mount_model.specs.declared.reply.Reply.{Reply}
use Rattle.mount_model.specs.declared.reply.Reply.TheVariants.{Done, Started}
use Rattle.mount_model.specs.Paths.{index_path}
use Rattle.mount_model.specs.declared.names.Metadata.{Metadata}
use Rattle.mount_model.specs.FlowReplies.{Tries, given, bytes_in, damage, trouble, failure}
use Rattle.migrate_core.specs.declared.entries.Tail.{Tail}
use Rattle.migrate_core.specs.declared.migrated.Packed.{Packed}
use Rattle.migrate_core.specs.declared.migrated.Fate.{Fate}
use Rattle.migrate_core.specs.declared.migrated.Fate.TheVariants as fate
use Rattle.migrate_core.specs.Entries.{no_entries, checked}
use Rattle.migrate_core.specs.Longest.{packing, run_count}
use Rattle.index_reader.specs.Replies.{number_in}
use Rattle.mount_model.specs.Entries.{reads_of, next_read}

-- the number of a flattening that was begun
abbrev pub flat_in : Reply → Option ℕ
flat_in (Started flat) = Some flat
flat_in reply = None

-- it goes on after Done
abbrev pub if_done : Tries Fate → Reply → Tries Fate
if_done next Done = next
if_done next reply = done (Err (failure reply))

-- ---- the packed index is made

abbrev pub installs : ℕ → Packed → Tries Fate
installs flat packed = ask (InstallFlat flat) (if_done (done (Ok (fate.Packs packed))))

abbrev pub syncs : ℕ → Packed → Tries Fate
syncs flat packed = ask (SyncFlat flat) (if_done (installs flat packed))

abbrev pub puts : List ℕ → Packed → ℕ → Tries Fate
puts bytes packed flat = ask (PutFlat flat bytes) (if_done (syncs flat packed))

abbrev pub starts : ℕ → Metadata → List ℕ → Packed → Tries Fate
starts room m bytes packed = ask (StartPack room m.host m.writer) (λ reply. given (flat_in reply) (failure reply) (puts bytes packed))

-- how many entries and runs it has
abbrev pub counts_of : List Entry → Packed
counts_of entries = record { entries = length entries; runs = run_count entries }

-- the packed index of these entries
abbrev pub packs : ℕ → Metadata → List Entry → Tries Fate
packs room m entries = starts room m (packing entries) (counts_of entries)

-- ---- the entries are read

-- it goes on with what was read, or this is the place of what breaks a rule
abbrev pub or_damage : Path → (Tail → Tries Fate) → Result Tail ℕ → Tries Fate
or_damage path next (Ok tail) = next tail
or_damage path next (Err place) = done (Err (damage path place))

-- one Read of the entries of which so many are left, and what follows
abbrev pub reads_then : ℕ → Metadata → ℕ → Tail → (Tail → Tries Fate) → Tries Fate
reads_then room m left tail more = ask
    (Look room (Read (index_path m.host m.writer) (40 * tail.cover.count) (40 * next_read left)))
    (λ reply. given (bytes_in reply) (trouble (index_path m.host m.writer) reply)
    (λ bytes. or_damage (index_path m.host m.writer) more (checked (next_read left) bytes tail)))

-- Reads of so many entries that are left, by so many calls
abbrev pub reads : ℕ → ℕ → Metadata → ℕ → Tail → Tries Fate
reads zero room m left tail = packs room m tail.entries
reads (suc n) room m left tail = reads_then room m left tail (λ more. reads n room m (left - next_read left) more)

-- the same, by as many calls as they take
abbrev pub reads_left : ℕ → Metadata → ℕ → Tail → Tries Fate
reads_left room m left tail = reads (reads_of left) room m left tail

-- the next Read where some are left, and all that follows
abbrev pub reads_on : ℕ → Metadata → ℕ → Tail → Tries Fate
reads_on room m left tail = reads_then room m left tail (λ more. reads_left room m (left - next_read left) more)

-- ---- all of its calls

-- so many whole entries, where the index dropping is so long
abbrev pub sized : ℕ → Metadata → ℕ → ℕ → Tries Fate
sized room m told count =
    if nat_lt MAX_PACKED count then done (Ok fate.Left)
    else (if count == 0 then done (Err (damage (index_path m.host m.writer) told)) else reads_left room m count (no_entries m.writer))

abbrev pub writer_program : ℕ → Metadata → Tries Fate
writer_program room m = ask
    (Look room (Length (index_path m.host m.writer)))
    (λ reply. given (number_in reply) (trouble (index_path m.host m.writer) reply) (λ told. sized room m told (told / 40)))
