-- Each statement comes to its line, whatever is replied.
use Rattle.std.proofs.Common.{ℕ, List, [], length, Bool, true, false, Option, Some, None, Result, Ok, Err}
use Rattle.std.specs.Prelude.{⊤, if◌then◌else◌, ◌==◌}
use Rattle.mount_model.specs.Program.{Program, done, ask}
use Rattle.mount_model.specs.declared.call.Call.{Call}
use Rattle.mount_model.specs.declared.reply.Reply.{Reply}
use Rattle.mount_model.specs.declared.stuck.Stuck.{Stuck}
use Rattle.mount_model.specs.FlowReplies.{on_ok}
use Rattle.read_plan.specs.Plan.{plan_of}
use Rattle.writer_flow.specs.declared.handle.WriterHandle.{WriterHandle}
use Rattle.writer_flow.specs.Opening.{open_program}
use Rattle.writer_flow.specs.Writing.{write_program}
use Rattle.writer_flow.specs.Syncing.{sync_program}
use Rattle.writer_flow.specs.Closing.{close_program}
use Rattle.attr_flow.specs.declared.attr_flow.AttrOut.{AttrOut}
use Rattle.attr_flow.specs.declared.attr_flow.AttrOut.TheVariants.{Cached, MustMerge}
use Rattle.attr_flow.specs.Asking.{attr_program}
use Rattle.torn_tail.specs.Recovering.{recover_program}
use Rattle.trunc_rename.specs.Renaming.{rename_program}
use Rattle.trunc_rename.specs.Truncating.{truncate_program}
use Rattle.index_reader.specs.Opening.{open_at_program, open_read_program}
use Rattle.index_reader.specs.Reading.{read_program}
use Rattle.index_reader.specs.declared.listing.Listing.{Listing}
use Rattle.index_reader.specs.declared.opened.OpenReader.{OpenReader}
use Rattle.index_reader.specs.declared.sharing.Share.{Share}
use Rattle.flatten_core.specs.Flattening.{flatten_program}
use Rattle.script_lang.specs.declared.script.Data.{Data}
use Rattle.script_lang.specs.declared.script.Statement.{Statement}
use Rattle.script_lang.specs.declared.script.Statement.TheVariants.{Open, Write, Sync, Close, Ropen, Read, Verify, Map, Refresh, Rclose, Stat, Flatten, Recover, Trunc, Rename, Ls, Stop as Arms}
use Rattle.actor_core.specs.declared.kept.Kept.{Kept}
use Rattle.actor_core.specs.declared.kept.Stop.{Stop}
use Rattle.outcomes.specs.Data.{bytes_of, length_of}
use Rattle.script_lang.specs.declared.line.Why.TheVariants.{NotOpen}
use Rattle.actor_core.specs.Endings.{gone, refused, stopped, opened, wrote_nothing, wrote, synced, closed, read_from, verified, names_listed, recovered, renamed, told_of, truncated, flattened}
use Rattle.actor_core.specs.Names.{names_program}
use Rattle.actor_core.specs.Telling.{if_asked, if_relisted, tells_by, tells_of_file}
use Rattle.actor_core.specs.Opened.{opens as opens_after, reader_opened, reader_refreshed, without_reader}
use Rattle.index_reader.specs.Opened.{parts_of}
use Rattle.refresh_index.specs.Refreshing.{refresh_program}
use Rattle.actor_core.specs.Readers.{opens_reader, if_listed, reads, verifies, maps, closes_reader, refreshes}
use Rattle.gather_flow.specs.Shares.{programs_from, by_itself}
use Rattle.gather_flow.specs.Workers.{all_of}
use Rattle.actor_core.specs.Statements.{does, greeted, greeted_work, disarmed, work_of}
use Rattle.actor_core.specs.Stopping.{carried, is_due, one_nearer}
use Rattle.actor_core.specs.Work.{Work, finishes}
use Rattle.actor_core.specs.Writers.{opens, writes, writes_bytes, syncs, closes}
use Rattle.run_core.specs.Coming.{ComesToLine}

either_comes : (b : Bool) (p q : Work) → ComesToLine p → ComesToLine q → ComesToLine (if b then p else q)
either_comes true p q x y = x
either_comes false p q x y = y

carried_comes : {R : Type 0} (p : Program Call Reply R) (stop : Option Stop) (next : Option Stop → R → Work) (halted : Work) → ((left : Option Stop) (r : R) → ComesToLine (next left r)) → ComesToLine halted → ComesToLine (carried p stop next halted)
carried_comes (done r) stop next halted goes stops = goes stop r
carried_comes (ask call k) stop next halted goes stops =
    λ reply. either_comes (is_due stop) halted (carried (k reply) (one_nearer stop) next halted) stops (carried_comes (k reply) (one_nearer stop) next halted goes stops)

-- ---- a writer

opens_comes : (kept : Kept) (stop : Option Stop) (name : List ℕ) (writer : Option WriterHandle) → ComesToLine (opens kept stop name writer)
opens_comes kept stop name (Some handle) = tt
opens_comes kept stop name None = carried_comes (open_program name kept.host kept.cap) stop (λ left result. finishes (opened kept result)) (finishes (stopped kept)) (λ left result. tt) tt

writes_comes : (kept : Kept) (stop : Option Stop) (at : ℕ) (bytes : List ℕ) (writer : Option WriterHandle) → ComesToLine (writes kept stop at bytes writer)
writes_comes kept stop at bytes None = tt
writes_comes kept stop at bytes (Some handle) =
    either_comes handle.closing (finishes (refused kept NotOpen)) (writes_bytes kept stop at bytes handle) tt
    (either_comes (length bytes == 0) (finishes (wrote_nothing kept at)) (carried (write_program handle at bytes) stop (λ left out. finishes (wrote kept at (length bytes) out)) (finishes (stopped kept))) tt
    (carried_comes (write_program handle at bytes) stop (λ left out. finishes (wrote kept at (length bytes) out)) (finishes (stopped kept)) (λ left out. tt) tt))

syncs_comes : (kept : Kept) (stop : Option Stop) (writer : Option WriterHandle) → ComesToLine (syncs kept stop writer)
syncs_comes kept stop None = tt
syncs_comes kept stop (Some handle) =
    either_comes handle.closing (finishes (refused kept NotOpen)) (carried (sync_program handle) stop (λ left out. finishes (synced kept out)) (finishes (stopped kept))) tt
    (carried_comes (sync_program handle) stop (λ left out. finishes (synced kept out)) (finishes (stopped kept)) (λ left out. tt) tt)

closes_comes : (kept : Kept) (stop : Option Stop) (writer : Option WriterHandle) → ComesToLine (closes kept stop writer)
closes_comes kept stop None = tt
closes_comes kept stop (Some handle) = carried_comes (close_program handle) stop (λ left out. finishes (closed kept out)) (finishes (stopped kept)) (λ left out. tt) tt

-- ---- a reader

itself_comes : (kept : Kept) (workers : ℕ) (stop : Option Stop) (listing : Listing) → ComesToLine (carried (by_itself (programs_from workers listing 0) [] (opens_after listing)) stop (λ left result. finishes (reader_opened kept result)) (finishes (stopped kept)))
itself_comes kept workers stop listing =
    let program = by_itself (programs_from workers listing 0) [] (opens_after listing) in
    carried_comes program stop (λ left result. finishes (reader_opened kept result)) (finishes (stopped kept)) (λ left result. tt) tt

-- what workers read leads to the line as well
shared_comes : (kept : Kept) (listing : Listing) (results : List (Result Share Stuck)) → ComesToLine (carried (on_ok (opens_after listing) (all_of results)) None (λ left result. finishes (reader_opened kept result)) (finishes (stopped kept)))
shared_comes kept listing results =
    carried_comes (on_ok (opens_after listing) (all_of results)) None (λ left result. finishes (reader_opened kept result)) (finishes (stopped kept)) (λ left result. tt) tt

listed_comes : (kept : Kept) (workers : ℕ) (stop : Option Stop) (result : Result Listing Stuck) → ComesToLine (if_listed kept workers stop result)
listed_comes kept workers stop (Err because) = tt
listed_comes kept workers None (Ok listing) = (shared_comes kept listing, itself_comes kept workers None listing)
listed_comes kept workers (Some stop) (Ok listing) = itself_comes kept workers (Some stop) listing

opens_reader_comes : (kept : Kept) (stop : Option Stop) (name : List ℕ) (workers : ℕ) (reader : Option OpenReader) → ComesToLine (opens_reader kept stop name workers reader)
opens_reader_comes kept stop name workers (Some reader) = tt
opens_reader_comes kept stop name workers None =
    carried_comes (open_read_program name) stop (if_listed kept workers) (finishes (stopped kept)) (λ left result. listed_comes kept workers left result) tt

reads_comes : (kept : Kept) (stop : Option Stop) (at len : ℕ) (reader : Option OpenReader) → ComesToLine (reads kept stop at len reader)
reads_comes kept stop at len None = tt
reads_comes kept stop at len (Some reader) =
    let plan = plan_of reader.pieces reader.size at len in
    carried_comes (read_program reader.room reader.hosts plan) stop (λ left result. finishes (read_from kept at result)) (finishes (stopped kept)) (λ left result. tt) tt

verifies_comes : (kept : Kept) (stop : Option Stop) (at : ℕ) (content : Data) (reader : Option OpenReader) → ComesToLine (verifies kept stop at content reader)
verifies_comes kept stop at content None = tt
verifies_comes kept stop at content (Some reader) =
    let plan = plan_of reader.pieces reader.size at (length_of content) in
    carried_comes (read_program reader.room reader.hosts plan) stop (λ left result. finishes (verified kept at content result)) (finishes (stopped kept)) (λ left result. tt) tt

maps_comes : (kept : Kept) (reader : Option OpenReader) → ComesToLine (maps kept reader)
maps_comes kept None = tt
maps_comes kept (Some reader) = tt

refreshes_comes : (kept : Kept) (stop : Option Stop) (reader : Option OpenReader) → ComesToLine (refreshes kept stop reader)
refreshes_comes kept stop None = tt
refreshes_comes kept stop (Some reader) =
    carried_comes (refresh_program (parts_of reader)) stop (λ left out. finishes (reader_refreshed (without_reader kept) out)) (finishes (stopped (without_reader kept))) (λ left out. tt) tt

closes_reader_comes : (kept : Kept) (reader : Option OpenReader) → ComesToLine (closes_reader kept reader)
closes_reader_comes kept None = tt
closes_reader_comes kept (Some reader) = tt

-- ---- what tells of a file

relisted_comes : (kept : Kept) (stop : Option Stop) (result : Result Listing Stuck) → ComesToLine (if_relisted kept stop result)
relisted_comes kept stop (Err because) = tt
relisted_comes kept stop (Ok listing) = carried_comes (by_itself (programs_from 1 listing 0) [] (tells_by listing)) stop (λ left result. finishes (told_of kept result)) (finishes (stopped kept)) (λ left result. tt) tt

asked_comes : (kept : Kept) (stop : Option Stop) (result : Result AttrOut Stuck) → ComesToLine (if_asked kept stop result)
asked_comes kept stop (Err because) = tt
asked_comes kept stop (Ok (Cached attr)) = tt
asked_comes kept stop (Ok (MustMerge room)) = carried_comes (open_at_program room) stop (if_relisted kept) (finishes (stopped kept)) (relisted_comes kept) tt

tells_comes : (kept : Kept) (stop : Option Stop) (name : List ℕ) → ComesToLine (tells_of_file kept stop name)
tells_comes kept stop name = carried_comes (attr_program name) stop (if_asked kept) (finishes (stopped kept)) (asked_comes kept) tt

-- ---- a statement

does_comes : (kept : Kept) (stop : Option Stop) (statement : Statement) → ComesToLine (does kept stop statement)
does_comes kept stop (Open name) = opens_comes kept stop name kept.writer
does_comes kept stop (Write at content) = writes_comes kept stop at (bytes_of content) kept.writer
does_comes kept stop Sync = syncs_comes kept stop kept.writer
does_comes kept stop Close = closes_comes kept stop kept.writer
does_comes kept stop (Ropen name workers) = opens_reader_comes kept stop name workers kept.reader
does_comes kept stop (Read at len) = reads_comes kept stop at len kept.reader
does_comes kept stop (Verify at content) = verifies_comes kept stop at content kept.reader
does_comes kept stop Map = maps_comes kept kept.reader
does_comes kept stop Refresh = refreshes_comes kept stop kept.reader
does_comes kept stop Rclose = closes_reader_comes kept kept.reader
does_comes kept stop (Arms call bytes) = tt
does_comes kept stop (Stat name) = tells_comes kept stop name
does_comes kept stop (Flatten name) = carried_comes (flatten_program name) stop (λ left result. finishes (flattened kept result)) (finishes (stopped kept)) (λ left result. tt) tt
does_comes kept stop (Recover name) = carried_comes (recover_program name) stop (λ left result. finishes (recovered kept result)) (finishes (stopped kept)) (λ left result. tt) tt
does_comes kept stop (Trunc name size) = carried_comes (truncate_program name size) stop (λ left result. finishes (truncated kept result)) (finishes (stopped kept)) (λ left result. tt) tt
does_comes kept stop (Rename name new) = carried_comes (rename_program name new) stop (λ left result. finishes (renamed kept result)) (finishes (stopped kept)) (λ left result. tt) tt
does_comes kept stop Ls = carried_comes names_program stop (λ left result. finishes (names_listed kept result)) (finishes (stopped kept)) (λ left result. tt) tt

greeted_comes : (kept : Kept) (statement : Statement) → ComesToLine (greeted_work kept statement)
greeted_comes kept statement = either_comes kept.gone (finishes (gone kept)) (does (disarmed kept) kept.armed statement) tt (does_comes (disarmed kept) kept.armed statement)

pub comes_to_line : (kept : Kept) (statement : Statement) → ComesToLine (work_of kept statement)
comes_to_line kept statement = either_comes kept.greeted (greeted_work kept statement) _ (greeted_comes kept statement) (λ reply. greeted_comes (greeted kept) statement)
