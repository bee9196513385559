-- The calls of a statement owe nothing of the state, and their numbers are in range.
use Rattle.std.proofs.Common.{◌≡◌, ◌≤◌, ℕ, ◌-◌, true, false, List, [], ◌∷◌, ◌++◌, map, Option, Some, None, Result, Ok, Err, length, nat_eq}
use Rattle.std.specs.Prelude.{if◌then◌else◌}
use Rattle.std.proofs.lemmas.Bool.{false≢true}
use Rattle.std.specs.List.{range_with_len}
use Rattle.mount_model.specs.Program.{Program, AsksOnly, done, ask}
use Rattle.mount_model.specs.Process.{asks}
use Rattle.mount_model.specs.declared.stuck.Stuck.{Stuck}
use Rattle.mount_model.specs.Running.{asking, unbroken}
use Rattle.mount_model.specs.FlowReplies.{Tries, on_ok}
use Rattle.mount_model.specs.declared.call.Call.TheVariants.{Greet}
use Rattle.script_lang.specs.declared.line.Why.TheVariants.{NotOpen}
use Rattle.writer_flow.specs.Opening.{open_program}
use Rattle.writer_flow.specs.Writing.{write_program}
use Rattle.writer_flow.specs.Closing.{close_program}
use Rattle.index_reader.specs.Opening.{open_at_program, open_read_program}
use Rattle.attr_flow.specs.declared.attr_flow.AttrOut.{AttrOut}
use Rattle.attr_flow.specs.declared.attr_flow.AttrOut.TheVariants.{Cached, MustMerge}
use Rattle.attr_flow.specs.Asking.{attr_program}
use Rattle.trunc_rename.specs.Renaming.{rename_program}
use Rattle.index_reader.specs.Reading.{read_program}
use Rattle.writer_flow.specs.Syncing.{sync_program}
use Rattle.read_plan.specs.Plan.{plan_of}
use Rattle.index_reader.specs.Truncs.{trunc_program}
use Rattle.mount_model.specs.declared.call.Call.{Call}
use Rattle.mount_model.specs.declared.reply.Reply.{Reply}
use Rattle.writer_flow.specs.declared.handle.WriterHandle.{WriterHandle}
use Rattle.index_reader.specs.declared.listing.Listing.{Listing}
use Rattle.index_reader.specs.declared.opened.OpenReader.{OpenReader}
use Rattle.index_reader.specs.declared.sharing.Share.{Share}
use Rattle.script_lang.specs.declared.script.Data.{Data}
use Rattle.script_lang.specs.declared.script.Statement.{Statement}
use Rattle.script_lang.specs.declared.script.Statement.TheVariants.{Open, Write, Sync, Close, Ropen, Read, Verify, Map, Refresh, Rclose, Stat, Flatten, Recover, Trunc, Rename, Ls, Stop as Arms}
use Rattle.actor_core.specs.declared.kept.Stop.{Stop}
use Rattle.actor_core.specs.declared.kept.Kept.{Kept}
use Rattle.actor_core.specs.Stopping.{carried, is_due, one_nearer}
use Rattle.gather_flow.specs.Dealing.{dealt_to}
use Rattle.actor_core.specs.Endings.{refused, stopped, gone, wrote_nothing, opened, wrote, synced, closed, read_from, verified, told_of, renamed, names_listed}
use Rattle.outcomes.specs.Data.{bytes_of, length_of}
use Rattle.actor_core.specs.Work.{Work, finishes}
use Rattle.gather_flow.specs.Shares.{by_itself, programs_from, worker_program}
use Rattle.gather_flow.specs.Workers.{all_of}
use Rattle.actor_core.specs.Opened.{opens as opens_after, if_truncs, reader_opened, reader_refreshed, without_reader}
use Rattle.index_reader.specs.Opened.{parts_of}
use Rattle.refresh_index.specs.Refreshing.{refresh_program}
use Rattle.actor_core.specs.Writers.{opens, writes, writes_bytes, syncs, closes}
use Rattle.actor_core.specs.Readers.{opens_reader, if_listed, reads, verifies, maps, closes_reader, refreshes}
use Rattle.actor_core.specs.Names.{names_program}
use Rattle.gather_flow.specs.OneIndex.{attr_of}
use Rattle.actor_core.specs.Telling.{tells_by, if_relisted, if_asked, tells_of_file}
use Rattle.actor_core.specs.ByName.{renames_file, lists_names}
use Rattle.actor_core.specs.Statements.{is_harmless_statement, does, disarmed, greeted, greeted_work, work_of}
use Rattle.actor_core.specs.Owed.{IsHarmless, WorkAsksOnly, EachAsksOnly}
use Rattle.actor_core.proofs.WriterOwing.{IsUnowed, open_unowed, write_unowed, sync_unowed, close_unowed, then_unowed}
use Rattle.actor_core.proofs.ReaderOwing.{on_ok_unowed, listing_unowed, listing_at_unowed, share_unowed, truncs_unowed, read_unowed, refresh_unowed}
use Rattle.actor_core.proofs.NameOwing.{attr_unowed, rename_unowed, names_unowed}

abbrev Unowed : Work → Type 0
Unowed work = WorkAsksOnly IsHarmless work

-- a program's calls, the stop among them
carries : {R : Type 0} (program : Program Call Reply R) (stop : Option Stop) (next : Option Stop → R → Work) (halted : Work)
    → IsUnowed program → ((left : Option Stop) (result : R) → Unowed (next left result)) → Unowed halted → Unowed (carried program stop next halted)
carries (done result) stop next halted unowed goes stops = goes stop result
carries (ask call k) stop next halted unowed goes stops = (
  unowed.0,
  λ reply. elim (is_due stop) as (λ b. Unowed (if b then halted else carried (k reply) (one_nearer stop) next halted)) [
    | true ↦ stops
    | false ↦ carries (k reply) (one_nearer stop) next halted (unowed.1 reply) goes stops
  ],
)

-- with calls of which none is broken off
asking_unowed : {R : Type 0} (program : Program Call Reply R) → IsUnowed program → AsksOnly IsHarmless (asking program)
asking_unowed (done result) unowed = tt
asking_unowed (ask call k) unowed = (unowed.0, λ reply. asking_unowed (k reply) (unowed.1 reply))

-- ---- writers

opens_unowed : (kept : Kept) (stop : Option Stop) (name : List ℕ) (writer : Option WriterHandle) → 1 ≤ kept.cap → kept.cap ≤ 4096 → Unowed (opens kept stop name writer)
opens_unowed kept stop name (Some handle) some few = tt
opens_unowed kept stop name None some few = carries (open_program name kept.host kept.cap) stop (λ left result. finishes (opened kept result)) (finishes (stopped kept)) (open_unowed name kept.host kept.cap some few) (λ left result. tt) tt

bytes_unowed : (kept : Kept) (stop : Option Stop) (at : ℕ) (bytes : List ℕ) (handle : WriterHandle) → Unowed (writes_bytes kept stop at bytes handle)
bytes_unowed kept stop at bytes handle = elim (nat_eq (length bytes) 0) as (λ b. Unowed (if b then finishes (wrote_nothing kept at) else carried (write_program handle at bytes) stop (λ left out. finishes (wrote kept at (length bytes) out)) (finishes (stopped kept)))) [
  | true ↦ tt
  | false ↦ carries (write_program handle at bytes) stop (λ left out. finishes (wrote kept at (length bytes) out)) (finishes (stopped kept)) (write_unowed handle at bytes) (λ left out. tt) tt
]

writes_unowed : (kept : Kept) (stop : Option Stop) (at : ℕ) (bytes : List ℕ) (writer : Option WriterHandle) → Unowed (writes kept stop at bytes writer)
writes_unowed kept stop at bytes None = tt
writes_unowed kept stop at bytes (Some handle) = elim handle.closing as (λ b. Unowed (if b then finishes (refused kept NotOpen) else writes_bytes kept stop at bytes handle)) [
  | true ↦ tt
  | false ↦ bytes_unowed kept stop at bytes handle
]

syncs_unowed : (kept : Kept) (stop : Option Stop) (writer : Option WriterHandle) → Unowed (syncs kept stop writer)
syncs_unowed kept stop None = tt
syncs_unowed kept stop (Some handle) = elim handle.closing as (λ b. Unowed (if b then finishes (refused kept NotOpen) else carried (sync_program handle) stop (λ left out. finishes (synced kept out)) (finishes (stopped kept)))) [
  | true ↦ tt
  | false ↦ carries (sync_program handle) stop (λ left out. finishes (synced kept out)) (finishes (stopped kept)) (sync_unowed handle) (λ left out. tt) tt
]

closes_unowed : (kept : Kept) (stop : Option Stop) (writer : Option WriterHandle) → Unowed (closes kept stop writer)
closes_unowed kept stop None = tt
closes_unowed kept stop (Some handle) = carries (close_program handle) stop (λ left out. finishes (closed kept out)) (finishes (stopped kept)) (close_unowed handle) (λ left out. tt) tt

-- ---- readers

each_unowed : (workers : ℕ) (listing : Listing) (numbers : List ℕ) → EachAsksOnly IsHarmless (map asking (map (worker_program workers listing) numbers))
each_unowed workers listing [] = tt
each_unowed workers listing (worker ∷ numbers) = (asking_unowed (worker_program workers listing worker) (share_unowed listing.room (dealt_to workers worker 0 listing.droppings) listing.flat.covers), each_unowed workers listing numbers)

itself_unowed : {R : Type 0} (workers : ℕ) (listing : Listing) (numbers : List ℕ) (sofar : List Share) (next : List Share → Tries R)
    → ((shares : List Share) → IsUnowed (next shares)) → IsUnowed (by_itself (map (worker_program workers listing) numbers) sofar next)
itself_unowed workers listing [] sofar next goes = goes sofar
itself_unowed workers listing (worker ∷ numbers) sofar next goes =
    then_unowed (worker_program workers listing worker) (on_ok (λ share. by_itself (map (worker_program workers listing) numbers) (sofar ++ share ∷ []) next))
    (λ result. on_ok_unowed (λ share. by_itself (map (worker_program workers listing) numbers) (sofar ++ share ∷ []) next) (λ share. itself_unowed workers listing numbers (sofar ++ share ∷ []) next goes) result)
    (share_unowed listing.room (dealt_to workers worker 0 listing.droppings) listing.flat.covers)

after_unowed : (listing : Listing) (shares : List Share) → IsUnowed (opens_after listing shares)
after_unowed listing shares = then_unowed (trunc_program listing.room) (on_ok (if_truncs listing shares)) (λ result. on_ok_unowed (if_truncs listing shares) (λ truncs. tt) result) (truncs_unowed listing.room)

shared_unowed : (kept : Kept) (stop : Option Stop) (workers : ℕ) (listing : Listing) → Unowed (if_listed kept workers stop (Ok listing))
shared_unowed kept None workers listing = (
  each_unowed workers listing (range_with_len 0 (workers - 0)),
  λ results. carries (on_ok (opens_after listing) (all_of results)) None (λ left result. finishes (reader_opened kept result)) (finishes (stopped kept)) (on_ok_unowed (opens_after listing) (after_unowed listing) (all_of results)) (λ left result. tt) tt,
  carries (by_itself (programs_from workers listing 0) [] (opens_after listing)) None (λ left result. finishes (reader_opened kept result)) (finishes (stopped kept)) (itself_unowed workers listing (range_with_len 0 (workers - 0)) [] (opens_after listing) (after_unowed listing)) (λ left result. tt) tt,
)
shared_unowed kept (Some stop) workers listing =
    carries (by_itself (programs_from workers listing 0) [] (opens_after listing)) (Some stop) (λ left result. finishes (reader_opened kept result)) (finishes (stopped kept)) (itself_unowed workers listing (range_with_len 0 (workers - 0)) [] (opens_after listing) (after_unowed listing)) (λ left result. tt) tt

listed_unowed : (kept : Kept) (workers : ℕ) (stop : Option Stop) (result : Result Listing Stuck) → Unowed (if_listed kept workers stop result)
listed_unowed kept workers stop (Ok listing) = shared_unowed kept stop workers listing
listed_unowed kept workers stop (Err because) = tt

opens_reader_unowed : (kept : Kept) (stop : Option Stop) (name : List ℕ) (workers : ℕ) (reader : Option OpenReader) → Unowed (opens_reader kept stop name workers reader)
opens_reader_unowed kept stop name workers (Some reader) = tt
opens_reader_unowed kept stop name workers None = carries (open_read_program name) stop (if_listed kept workers) (finishes (stopped kept)) (listing_unowed name) (λ left result. listed_unowed kept workers left result) tt

reads_unowed : (kept : Kept) (stop : Option Stop) (at len : ℕ) (reader : Option OpenReader) → Unowed (reads kept stop at len reader)
reads_unowed kept stop at len None = tt
reads_unowed kept stop at len (Some reader) = carries (read_program reader.room reader.hosts (plan_of reader.pieces reader.size at len)) stop (λ left result. finishes (read_from kept at result)) (finishes (stopped kept)) (read_unowed reader.room reader.hosts (plan_of reader.pieces reader.size at len)) (λ left result. tt) tt

verifies_unowed : (kept : Kept) (stop : Option Stop) (at : ℕ) (content : Data) (reader : Option OpenReader) → Unowed (verifies kept stop at content reader)
verifies_unowed kept stop at content None = tt
verifies_unowed kept stop at content (Some reader) = carries (read_program reader.room reader.hosts (plan_of reader.pieces reader.size at (length_of content))) stop (λ left result. finishes (verified kept at content result)) (finishes (stopped kept)) (read_unowed reader.room reader.hosts (plan_of reader.pieces reader.size at (length_of content))) (λ left result. tt) tt

maps_unowed : (kept : Kept) (reader : Option OpenReader) → Unowed (maps kept reader)
maps_unowed kept None = tt
maps_unowed kept (Some reader) = tt

refreshes_unowed : (kept : Kept) (stop : Option Stop) (reader : Option OpenReader) → Unowed (refreshes kept stop reader)
refreshes_unowed kept stop None = tt
refreshes_unowed kept stop (Some reader) = carries (refresh_program (parts_of reader)) stop (λ left out. finishes (reader_refreshed (without_reader kept) out)) (finishes (stopped (without_reader kept))) (refresh_unowed (parts_of reader)) (λ left out. tt) tt

closes_reader_unowed : (kept : Kept) (reader : Option OpenReader) → Unowed (closes_reader kept reader)
closes_reader_unowed kept None = tt
closes_reader_unowed kept (Some reader) = tt

-- ---- files by their names

telling_unowed : (listing : Listing) (shares : List Share) → IsUnowed (tells_by listing shares)
telling_unowed listing shares =
    then_unowed (trunc_program listing.room) (on_ok (λ truncs. done (Ok (attr_of listing shares truncs)))) (λ result. on_ok_unowed (λ truncs. done (Ok (attr_of listing shares truncs))) (λ truncs. tt) result) (truncs_unowed listing.room)

relisted_unowed : (kept : Kept) (stop : Option Stop) (result : Result Listing Stuck) → Unowed (if_relisted kept stop result)
relisted_unowed kept stop (Err because) = tt
relisted_unowed kept stop (Ok listing) =
    carries (by_itself (programs_from 1 listing 0) [] (tells_by listing)) stop (λ left result. finishes (told_of kept result)) (finishes (stopped kept))
    (itself_unowed 1 listing (range_with_len 0 1) [] (tells_by listing) (telling_unowed listing)) (λ left result. tt) tt

asked_unowed : (kept : Kept) (stop : Option Stop) (result : Result AttrOut Stuck) → Unowed (if_asked kept stop result)
asked_unowed kept stop (Err because) = tt
asked_unowed kept stop (Ok (Cached attr)) = tt
asked_unowed kept stop (Ok (MustMerge room)) =
    carries (open_at_program room) stop (if_relisted kept) (finishes (stopped kept)) (listing_at_unowed room) (λ left result. relisted_unowed kept left result) tt

tells_unowed : (kept : Kept) (stop : Option Stop) (name : List ℕ) → Unowed (tells_of_file kept stop name)
tells_unowed kept stop name = carries (attr_program name) stop (if_asked kept) (finishes (stopped kept)) (attr_unowed name) (λ left result. asked_unowed kept left result) tt

renames_unowed : (kept : Kept) (stop : Option Stop) (name to : List ℕ) → Unowed (renames_file kept stop name to)
renames_unowed kept stop name to = carries (rename_program name to) stop (λ left result. finishes (renamed kept result)) (finishes (stopped kept)) (rename_unowed name to) (λ left result. tt) tt

lists_unowed : (kept : Kept) (stop : Option Stop) → Unowed (lists_names kept stop)
lists_unowed kept stop = carries names_program stop (λ left result. finishes (names_listed kept result)) (finishes (stopped kept)) names_unowed (λ left result. tt) tt

-- ---- statements

does_unowed : (kept : Kept) (stop : Option Stop) (statement : Statement) → 1 ≤ kept.cap → kept.cap ≤ 4096 → is_harmless_statement statement ≡ true → Unowed (does kept stop statement)
does_unowed kept stop (Open name) some few harmless = opens_unowed kept stop name kept.writer some few
does_unowed kept stop (Write at content) some few harmless = writes_unowed kept stop at (bytes_of content) kept.writer
does_unowed kept stop Sync some few harmless = syncs_unowed kept stop kept.writer
does_unowed kept stop Close some few harmless = closes_unowed kept stop kept.writer
does_unowed kept stop (Ropen name workers) some few harmless = opens_reader_unowed kept stop name workers kept.reader
does_unowed kept stop (Read at len) some few harmless = reads_unowed kept stop at len kept.reader
does_unowed kept stop (Verify at content) some few harmless = verifies_unowed kept stop at content kept.reader
does_unowed kept stop Map some few harmless = maps_unowed kept kept.reader
does_unowed kept stop Refresh some few harmless = refreshes_unowed kept stop kept.reader
does_unowed kept stop Rclose some few harmless = closes_reader_unowed kept kept.reader
does_unowed kept stop (Arms call bytes) some few harmless = tt
does_unowed kept stop (Stat name) some few harmless = tells_unowed kept stop name
does_unowed kept stop (Rename name to) some few harmless = renames_unowed kept stop name to
does_unowed kept stop Ls some few harmless = lists_unowed kept stop
does_unowed kept stop (Flatten name) some few harmless = absurd (false≢true harmless)
does_unowed kept stop (Recover name) some few harmless = absurd (false≢true harmless)
does_unowed kept stop (Trunc name size) some few harmless = absurd (false≢true harmless)

greeted_unowed : (kept : Kept) (statement : Statement) → 1 ≤ kept.cap → kept.cap ≤ 4096 → is_harmless_statement statement ≡ true → Unowed (greeted_work kept statement)
greeted_unowed kept statement some few harmless = elim kept.gone as (λ b. Unowed (if b then finishes (gone kept) else does (disarmed kept) kept.armed statement)) [
  | true ↦ tt
  | false ↦ does_unowed (disarmed kept) kept.armed statement some few harmless
]

pub work_unowed : (kept : Kept) (statement : Statement) → 1 ≤ kept.cap → kept.cap ≤ 4096 → is_harmless_statement statement ≡ true → WorkAsksOnly IsHarmless (work_of kept statement)
work_unowed kept statement some few harmless = elim kept.greeted as (λ b. Unowed (if b then greeted_work kept statement else asks (unbroken Greet) (λ reply. greeted_work (greeted kept) statement))) [
  | true ↦ greeted_unowed kept statement some few harmless
  | false ↦ ((tt, tt), λ reply. greeted_unowed (greeted kept) statement some few harmless)
]
