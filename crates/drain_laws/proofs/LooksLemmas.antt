-- All calls of a drain behind the search are looks into rooms, and syncs of droppings.
use Rattle.std.proofs.Common.{ℕ, zero, suc, ◌-◌, ◌*◌, ◌/◌, nat_le, nat_lt, Bool, true, false, min, List, [], ◌∷◌, ◌++◌, length, Option, Some, None}
use Rattle.std.specs.Prelude.{Result, Ok, Err, if◌then◌else◌}
use Rattle.plfs_types.specs.declared.entries.Trunc.{Trunc}
use Rattle.plfs_types.specs.declared.limits.TheConstants.{ENTRIES_A_READ}
use Rattle.container_layout.specs.Paths.{hostdir_of}
use Rattle.store_api.specs.Step.{write_at}
use Rattle.mount_model.specs.declared.call.Call.{Call}
use Rattle.mount_model.specs.declared.call.Call.TheVariants.{Look, SyncDropping}
use Rattle.mount_model.specs.declared.call.Look.{Look as Sight}
use Rattle.mount_model.specs.declared.reply.Reply.{Reply}
use Rattle.mount_model.specs.Paths.{Name, index_path, log_path, mark_path}
use Rattle.mount_model.specs.declared.stuck.Stuck.{Stuck}
use Rattle.mount_model.specs.FlowReplies.{Tries, bytes_in, given, names_in, on_ok, trouble}
use Rattle.mount_model.specs.Program.{AsksOnly, done, ask, followed_by}
use Rattle.flat_format.specs.declared.flat.Flat.{Flat}
use Rattle.index_reader.specs.declared.entries.Tail.{Tail}
use Rattle.index_reader.specs.declared.listing.Dropping.{Dropping as Listed}
use Rattle.index_reader.specs.declared.scanning.Scan.{Scan}
use Rattle.index_reader.specs.Covered.{cover_of}
use Rattle.index_reader.specs.Opening.{no_flat, scan_program, scans}
use Rattle.index_reader.specs.Packs.{no_tail}
use Rattle.index_reader.specs.Replies.{log_length_in, number_in}
use Rattle.index_reader.specs.Scanning.{nothing_found, scanned}
use Rattle.index_reader.specs.Tails.{if_logged, if_told, log_then, looked, reads, reads_left, tail_program}
use Rattle.mount_model.specs.Entries.{next_read, reads_of}
use Rattle.index_reader.specs.Tops.{top_shows}
use Rattle.index_reader.specs.Truncs.{trunc_program, truncs_of, truncs_path}
use Rattle.index_reader.proofs.Facts.{if_checked_asks}
use Rattle.drain_read.specs.declared.held.Held.{Held}
use Rattle.drain_read.specs.declared.read.Contained.{Contained}
use Rattle.drain_read.specs.declared.read.Known.{Known}
use Rattle.drain_read.specs.declared.read.WriterRead.{WriterRead}
use Rattle.drain_read.specs.Reading.{contained_program, contains, read_as, reads_all, reads_listed}
use Rattle.drain_copy.specs.declared.outcome.Drained.{Drained}
use Rattle.drain_copy.specs.declared.outcome.DrainStuck.{DrainStuck}
use Rattle.drain_copy.specs.declared.parts.TheConstants.{LOG_PART}
use Rattle.drain_copy.specs.declared.plan.Copying.{Copying}
use Rattle.drain_copy.specs.declared.plan.Due.{Due}
use Rattle.drain_copy.specs.declared.plan.Job.{Job}
use Rattle.drain_copy.specs.declared.plan.Owner.{Owner}
use Rattle.drain_copy.specs.Asking.{acts, at_source as on_source, calls, ends}
use Rattle.mount_model.specs.Making.{Told}
use Rattle.drain_copy.specs.Copying.{copies, copies_bytes, copies_log, copies_writer, entry_of, index_of, log_of, makes_hostdir, makes_index, makes_log, part_told, parts_of, puts_truncs, trunc_file, writes_entries, writes_index}
use Rattle.drain_copy.specs.Draining.{copies_to, gathers, if_gathered, job_of, known_at, makes_all_marks, makes_marks, makes_marks_room, syncs, syncs_second, unless_taken}
use Rattle.drain_copy.specs.Planning.{mounts_of, owners_of, taken}
use Rattle.drain_copy.specs.Telling.{DrainsOn, entry_made, folder_alone, kept, made_now, made_or_old, on_good, roomed, told_well}

-- each call of the program is one of these
abbrev pub CallsOnly : (Call → Type 0) → DrainsOn → Type 0
CallsOnly these (ends outcome) = Unit {0}
CallsOnly these (calls call k) = these call × ((reply : Reply) → CallsOnly these (k reply))
CallsOnly these (acts step k) = (told : Told) → CallsOnly these (k told)

module _ (these : Call → Type 0) (looks : (room : ℕ) (sight : Sight) → these (Look room sight)) where
  abbrev Only : {X : Type 0} → Tries X → Type 0
  Only p = AsksOnly these p

  -- ---- the calls that read a container

  only_then : {A X : Type 0} (p : Tries A) (next : A → Tries X) → Only p → ((a : A) → Only (next a)) → Only (followed_by p (on_ok next))
  only_then (done (Ok a)) next only goes = goes a
  only_then (done (Err why)) next only goes = tt
  only_then (ask q k) next only goes = (only.0, λ reply. only_then (k reply) next (only.1 reply) goes)

  only_given : {A X : Type 0} (o : Option A) (why : Stuck) (next : A → Tries X) → ((a : A) → Only (next a)) → Only (given o why next)
  only_given None why next goes = tt
  only_given (Some a) why next goes = goes a

  only_ok : {A X : Type 0} (next : A → Tries X) (value : Result A Stuck) → ((a : A) → Only (next a)) → Only (on_ok next value)
  only_ok next (Ok a) goes = goes a
  only_ok next (Err why) goes = tt

  only_if : {X : Type 0} (test : Bool) (p q : Tries X) → Only p → Only q → Only (if test then p else q)
  only_if true p q one other = one
  only_if false p q one other = other

  scans_only : (room id : ℕ) (flat : Flat) (ks : List ℕ) (scan : Scan) → Only (scans room id flat ks scan)
  scans_only room id flat [] scan = tt
  scans_only room id flat (k ∷ ks) scan = (
    looks room _,
    λ reply. only_given (names_in reply) _ _ (λ names. only_ok (λ more. scans room id flat ks more) (scanned (hostdir_of k) names scan) (λ more. scans_only room id flat ks more)),
  )

  scan_only : (room : ℕ) → Only (scan_program room)
  scan_only room = (
    looks room _,
    λ reply. only_given (names_in reply) _ _ (λ names. only_ok (λ ks. scans room 0 no_flat ks nothing_found) (top_shows names) (λ ks. scans_only room 0 no_flat ks nothing_found)),
  )

  reads_only : (n room : ℕ) (d : Listed) (log whole left : ℕ) (ended : Bool) (tail : Tail) → Only (reads n room d log whole left ended tail)
  reads_only zero room d log whole left ended tail = tt
  reads_only (suc n) room d log whole left ended tail = (
    looks room _,
    λ reply. only_given (bytes_in reply) (trouble (index_path d.host d.writer) reply) _
        (λ bytes. if_checked_asks these d (λ past longer. reads n room d log whole (left - next_read left) past longer) (nat_le (40 * next_read left) (length bytes)) (looked ended log (next_read left) bytes tail)
        (λ past longer. reads_only n room d log whole (left - next_read left) past longer)),
  )

  log_only : (room : ℕ) (d : Listed) (tail : Tail) (whole : ℕ) → Only (log_then room d tail whole)
  log_only room d tail whole = (
    looks room _,
    λ reply. only_given (log_length_in reply) (trouble (log_path d.host d.writer) reply) (if_logged room d tail whole)
        (λ log. only_if (nat_lt log tail.cover.bytes) _ (reads_left room d log whole (whole - tail.cover.count) false tail) tt (reads_only (reads_of (whole - tail.cover.count)) room d log whole (whole - tail.cover.count) false tail)),
  )

  tail_only : (room : ℕ) (d : Listed) (tail : Tail) → Only (tail_program room d tail)
  tail_only room d tail = (
    looks room _,
    λ reply. only_given (number_in reply) (trouble (index_path d.host d.writer) reply) (if_told room d tail)
        (λ told. only_if (nat_lt (told / 40) tail.cover.count) _ (log_then room d tail (told / 40)) tt (log_only room d tail (told / 40))),
  )

  truncs_only : (room : ℕ) → Only (trunc_program room)
  truncs_only room = (looks room _, λ reply. only_given (names_in reply) (trouble (truncs_path []) reply) (λ names. done (truncs_of names [])) (λ names. tt))

  all_only : (known : Known) (ds : List Listed) (sofar : List WriterRead) → Only (reads_all known ds sofar)
  all_only known [] sofar = only_then (trunc_program known.room) (contains known sofar) (truncs_only known.room) (λ ts. tt)
  all_only known (d ∷ ds) sofar =
      only_then (tail_program known.room d (no_tail (cover_of d.writer known.covers))) (λ tail. reads_all known ds (sofar ++ read_as known.keeps d tail ∷ [])) (tail_only known.room d (no_tail (cover_of d.writer known.covers)))
      (λ tail. all_only known ds (sofar ++ read_as known.keeps d tail ∷ []))

  pub contained_only : (known : Known) → Only (contained_program known)
  contained_only known = only_then (scan_program known.room) (reads_listed known) (scan_only known.room) (λ listing. all_only known listing.droppings [])

  -- ---- what is asked behind the syncs

  only_on : {X : Type 0} (next : X → DrainsOn) (r : Result X DrainStuck) → ((x : X) → CallsOnly these (next x)) → CallsOnly these (on_good next r)
  only_on next (Ok x) goes = goes x
  only_on next (Err why) goes = tt

  puts_only : (to : ℕ) (ts : List Trunc) (drained : Drained) → CallsOnly these (puts_truncs to ts drained)
  puts_only to [] drained = tt
  puts_only to (t ∷ ts) drained = λ told. only_on (λ made. puts_truncs to ts drained) (told_well (trunc_file t) made_or_old told) (λ made. puts_only to ts drained)

  module _ (next : DrainsOn) (goes : CallsOnly these next) (c : Copying) where
    index_only : (n left : ℕ) → CallsOnly these (writes_index next n c left)
    index_only zero left = λ told. only_on (λ made. next) (told_well (index_of c.due) made_now told) (λ made. goes)
    index_only (suc n) left = λ told. only_on (λ made. writes_index next n c (left - min left ENTRIES_A_READ)) (told_well (index_of c.due) made_now told) (λ made. index_only n (left - min left ENTRIES_A_READ))

    entries_only : CallsOnly these (writes_entries next c)
    entries_only = index_only (parts_of ENTRIES_A_READ (length c.due.entries)) (length c.due.entries)

    abbrev writes_part : ℕ → ℕ → List ℕ → DrainsOn
    writes_part n left bytes = acts (write_at c.to (log_of c.due).folder (log_of c.due).file (c.due.bytes - left) bytes) (λ told. on_good (λ made. copies_log next n c (left - min left LOG_PART)) (told_well (log_of c.due) made_now told))

    written : (n left : ℕ) (bytes : List ℕ) → CallsOnly these (copies_log next n c (left - min left LOG_PART)) → CallsOnly these (writes_part n left bytes)
    written n left bytes more = λ told. only_on (λ made. copies_log next n c (left - min left LOG_PART)) (told_well (log_of c.due) made_now told) (λ made. more)

    copied_only : (n left : ℕ) → CallsOnly these (copies_log next n c left)
    copied_only zero left = λ told. only_on (λ made. writes_entries next c) (told_well (log_of c.due) made_now told) (λ made. entries_only)
    copied_only (suc n) left = (
      looks c.from _,
      λ reply. only_on (writes_part n left) (part_told (log_of c.due) (c.due.bytes - left) (min left LOG_PART) reply) (λ bytes. written n left bytes (copied_only n (left - min left LOG_PART))),
    )

    bytes_only : CallsOnly these (copies_bytes next c)
    bytes_only = copied_only (parts_of LOG_PART (c.due.bytes - c.due.log)) (c.due.bytes - c.due.log)

    log_made : CallsOnly these (makes_log next c)
    log_made = λ told. only_on (λ made. copies_bytes next c) (told_well (log_of c.due) made_or_old told) (λ made. bytes_only)

    index_made : CallsOnly these (makes_index next c)
    index_made = λ told. only_on (λ made. makes_log next c) (told_well (index_of c.due) made_or_old told) (λ made. log_made)

    host_made : CallsOnly these (makes_hostdir next c)
    host_made = λ told. only_on (λ made. makes_index next c) (told_well (folder_alone (hostdir_of c.due.host)) made_or_old told) (λ made. index_made)

    writer_only : CallsOnly these (copies_writer next c)
    writer_only = λ told. only_on (λ made. makes_hostdir next c) (entry_made (entry_of c.due) told) (λ made. host_made)

  copies_only : (from to : ℕ) (ts : List Trunc) (drained : Drained) (dues : List Due) → CallsOnly these (copies from to ts drained dues)
  copies_only from to ts drained [] = puts_only to ts drained
  copies_only from to ts drained (due ∷ dues) = writer_only (copies from to ts drained dues) (copies_only from to ts drained dues) (record { from = from; to = to; due = due })

  marks_only : (job : Job) (marks : ℕ) (ms : List ℕ) → CallsOnly these (makes_marks job marks ms)
  marks_only job marks [] = λ told. only_on (copies_to job) (told_well (folder_alone []) roomed told) (λ to. copies_only job.from to job.truncs job.drained job.dues)
  marks_only job marks (m ∷ ms) = λ told. only_on (λ made. makes_marks job marks ms) (told_well (mark_path m) made_or_old told) (λ made. marks_only job marks ms)

  pub makes_only : (job : Job) (mounts : List ℕ) → CallsOnly these (makes_marks_room job mounts)
  makes_only job mounts = λ told. only_on (makes_all_marks job mounts) (told_well (folder_alone []) roomed told) (λ marks. marks_only job marks mounts)

  -- ---- the source is read, synced and copied

  source_only : {X : Type 0} (p : Tries X) (next : Result X Stuck → DrainsOn) → Only p → ((out : Result X Stuck) → CallsOnly these (next out)) → CallsOnly these (on_source p next)
  source_only (done x) next only goes = goes x
  source_only (ask q k) next only goes = (only.0, λ reply. source_only (k reply) next (only.1 reply) goes)

  module _ (synced : (room host writer : ℕ) (is_log : Bool) → these (SyncDropping room host writer is_log)) where
    second_only : (room : ℕ) (o : Owner) (next : DrainsOn) → CallsOnly these next → CallsOnly these (syncs_second room o next)
    second_only room o next goes = (synced room o.host o.writer false, λ reply. only_on (λ made. next) (kept reply) (λ made. goes))

    syncs_only : (room : ℕ) (os : List Owner) (next : DrainsOn) → CallsOnly these next → CallsOnly these (syncs room os next)
    syncs_only room [] next goes = goes
    syncs_only room (o ∷ os) next goes = (synced room o.host o.writer true, λ reply. only_on (λ made. syncs_second room o (syncs room os next)) (kept reply) (λ made. second_only room o (syncs room os next) (syncs_only room os next goes)))

    pub gathers_only : (name : Name) (held : Held) (room : ℕ) → CallsOnly these (gathers name held room)
    gathers_only name held room = source_only (contained_program (known_at held room)) (if_gathered name held) (contained_only (known_at held room)) by_out
      where
        by_taken : (contained : Contained) (o : Option DrainStuck) → CallsOnly these (unless_taken o (syncs contained.room (owners_of contained.writers) (makes_marks_room (job_of name held contained) (mounts_of contained.writers))))
        by_taken contained None = syncs_only contained.room (owners_of contained.writers) (makes_marks_room (job_of name held contained) (mounts_of contained.writers)) (makes_only (job_of name held contained) (mounts_of contained.writers))
        by_taken contained (Some why) = tt

        by_out : (out : Result Contained Stuck) → CallsOnly these (if_gathered name held out)
        by_out (Err why) = tt
        by_out (Ok contained) = by_taken contained (taken held contained.writers)
