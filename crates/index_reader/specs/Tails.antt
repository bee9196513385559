-- The calls that read what a flattened index doesn't cover of one writer's index dropping: its length, its log's, and
-- Reads of the whole entries.
use Rattle.std.specs.Prelude.{ℕ, zero, suc, ◌-◌, ◌*◌, ◌/◌, nat_le, nat_lt, min, Bool, true, false, if◌then◌else◌, List, length, Ok, Err}
use Rattle.plfs_types.specs.declared.limits.TheConstants.{ENTRY_SIZE}
use Rattle.mount_model.specs.FlowReplies.{Tries, given, bytes_in, damage, trouble}
use Rattle.mount_model.specs.Program.{done, ask}
use Rattle.mount_model.specs.declared.call.Call.TheVariants.{Look}
use Rattle.mount_model.specs.declared.call.Look.TheVariants.{Length, Read}
use Rattle.mount_model.specs.Paths.{index_path, log_path}
use Rattle.index_reader.specs.declared.listing.Dropping.{Dropping}
use Rattle.index_reader.specs.declared.entries.Tail.{Tail}
use Rattle.index_reader.specs.declared.entries.Went.{Went}
use Rattle.index_reader.specs.declared.entries.Went.TheVariants.{On, Ends, Breaks}
use Rattle.index_reader.specs.Replies.{number_in, log_length_in}
use Rattle.index_reader.specs.Entries.{checked}
use Rattle.mount_model.specs.Entries.{reads_of, next_read}

-- the entries of the bytes that a Read of so many entries gave
abbrev pub check : ℕ → ℕ → List ℕ → Tail → Went × Tail
check log asked bytes tail = checked log (min (length bytes / ENTRY_SIZE) asked) bytes tail

-- the same, unless the entries before ended past the log: then none is looked at
abbrev pub looked : Bool → ℕ → ℕ → List ℕ → Tail → Went × Tail
looked true log asked bytes tail = (Ends, tail)
looked false log asked bytes tail = check log asked bytes tail

-- After a Read: an entry that breaks a rule is damage at its first byte. Else it goes on, unless the Read was short.
abbrev pub if_checked : Dropping → (Bool → Tail → Tries Tail) → Bool → Went × Tail → Tries Tail
if_checked d more full (Breaks, tail) = done (Err (damage (index_path d.host d.writer) (ENTRY_SIZE * tail.cover.count)))
if_checked d more full (Ends, tail) = if full then more true tail else done (Ok tail)
if_checked d more full (On, tail) = if full then more false tail else done (Ok tail)

-- Reads of so many entries that are left of the whole ones, by so many calls
abbrev pub reads : ℕ → ℕ → Dropping → ℕ → ℕ → ℕ → Bool → Tail → Tries Tail
reads zero room d log whole left ended tail = done (Ok tail)
reads (suc n) room d log whole left ended tail = ask
    (Look room (Read (index_path d.host d.writer) (ENTRY_SIZE * (whole - left)) (ENTRY_SIZE * next_read left)))
    (λ reply. given (bytes_in reply) (trouble (index_path d.host d.writer) reply)
    (λ bytes. if_checked d (λ past longer. reads n room d log whole (left - next_read left) past longer) (nat_le (ENTRY_SIZE * next_read left) (length bytes)) (looked ended log (next_read left) bytes tail)))

-- the same, by as many calls as they take
abbrev pub reads_left : ℕ → Dropping → ℕ → ℕ → ℕ → Bool → Tail → Tries Tail
reads_left room d log whole left ended tail = reads (reads_of left) room d log whole left ended tail

-- the next Read where some are left, and all that follows
abbrev pub reads_on : ℕ → Dropping → ℕ → ℕ → ℕ → Bool → Tail → Tries Tail
reads_on room d log whole left ended tail = ask
    (Look room (Read (index_path d.host d.writer) (ENTRY_SIZE * (whole - left)) (ENTRY_SIZE * next_read left)))
    (λ reply. given (bytes_in reply) (trouble (index_path d.host d.writer) reply)
    (λ bytes. if_checked d (λ past longer. reads_left room d log whole (left - next_read left) past longer) (nat_le (ENTRY_SIZE * next_read left) (length bytes)) (looked ended log (next_read left) bytes tail)))

-- the log has no fewer bytes than the flattened index covers
abbrev pub if_logged : ℕ → Dropping → Tail → ℕ → ℕ → Tries Tail
if_logged room d tail whole log =
    if nat_lt log tail.cover.bytes
    then done (Err (damage (log_path d.host d.writer) log))
    else reads_left room d log whole (whole - tail.cover.count) false tail

abbrev pub log_then : ℕ → Dropping → Tail → ℕ → Tries Tail
log_then room d tail whole = ask
    (Look room (Length (log_path d.host d.writer)))
    (λ reply. given (log_length_in reply) (trouble (log_path d.host d.writer) reply)
    (if_logged room d tail whole))

-- the dropping has no fewer entries than the flattened index covers
abbrev pub if_told : ℕ → Dropping → Tail → ℕ → Tries Tail
if_told room d tail told =
    if nat_lt (told / ENTRY_SIZE) tail.cover.count
    then done (Err (damage (index_path d.host d.writer) told))
    else log_then room d tail (told / ENTRY_SIZE)

abbrev pub tail_program : ℕ → Dropping → Tail → Tries Tail
tail_program room d tail = ask
    (Look room (Length (index_path d.host d.writer)))
    (λ reply. given (number_in reply) (trouble (index_path d.host d.writer) reply) (if_told room d tail))
