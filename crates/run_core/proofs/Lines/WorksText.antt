-- The line of each statement has a text: what it lists are logical names.
use Rattle.std.proofs.Common.{ℕ, List, [], length, Bool, true, false, Option, Some, None, Result, Ok, Err, ◌∷◌}
use Rattle.std.specs.Prelude.{⊤, if◌then◌else◌, ◌==◌}
use Rattle.std.proofs.lemmas.List.Elements.{All-nil, All-cons}
use Rattle.mount_model.specs.Program.{Program, done, ask}
use Rattle.mount_model.specs.declared.call.Ask.{Ask}
use Rattle.mount_model.specs.declared.call.Call.{Call}
use Rattle.mount_model.specs.declared.reply.Reply.{Reply}
use Rattle.mount_model.specs.declared.reply.Reply.TheVariants.{Greeted, Room, Rooms, Looked, Entered, Floored, Done, Wrote, Flushed, Synced, Holding, Marked, Started, Mended, Stopped as WasStopped, Refused, Damaged, Fault, NoMemory}
use Rattle.mount_model.specs.State.{State}
use Rattle.mount_model.specs.History.{Event}
use Rattle.mount_model.specs.declared.stuck.Stuck.{Stuck}
use Rattle.mount_model.specs.declared.stuck.Stuck.TheVariants as stuck
use Rattle.mount_model.specs.FlowReplies.{on_ok}
use Rattle.writer_flow.specs.declared.handle.WriterHandle.{WriterHandle}
use Rattle.read_plan.specs.Plan.{plan_of}
use Rattle.writer_flow.specs.Opening.{open_program}
use Rattle.writer_flow.specs.Writing.{write_program}
use Rattle.writer_flow.specs.Syncing.{sync_program}
use Rattle.writer_flow.specs.Closing.{close_program}
use Rattle.attr_flow.specs.declared.attr.Attr.{Attr}
use Rattle.attr_flow.specs.declared.attr_flow.AttrOut.{AttrOut}
use Rattle.attr_flow.specs.declared.attr_flow.AttrOut.TheVariants.{Cached, MustMerge}
use Rattle.attr_flow.specs.Asking.{attr_program}
use Rattle.flatten_core.specs.declared.flattening.Flattened.{Flattened as WasFlattened}
use Rattle.flatten_core.specs.Flattening.{flatten_program}
use Rattle.torn_tail.specs.declared.recovering.Recovered.{Recovered as WasRecovered}
use Rattle.torn_tail.specs.Recovering.{recover_program}
use Rattle.trunc_rename.specs.Renaming.{rename_program}
use Rattle.trunc_rename.specs.Truncating.{truncate_program}
use Rattle.index_reader.specs.Opening.{open_at_program, open_read_program}
use Rattle.index_reader.specs.Reading.{read_program}
use Rattle.index_reader.specs.declared.listing.Listing.{Listing}
use Rattle.index_reader.specs.declared.opened.OpenReader.{OpenReader}
use Rattle.index_reader.specs.declared.sharing.Share.{Share}
use Rattle.script_lang.specs.declared.line.Line.{Line}
use Rattle.script_lang.specs.declared.line.Outcome.{Outcome}
use Rattle.script_lang.specs.declared.line.Outcome.TheVariants as of
use Rattle.script_lang.specs.declared.line.Why.TheVariants.{NotOpen}
use Rattle.script_lang.specs.declared.script.Data.{Data}
use Rattle.script_lang.specs.declared.script.Script.{Script}
use Rattle.script_lang.specs.declared.script.Statement.{Statement}
use Rattle.script_lang.specs.declared.script.Statement.TheVariants.{Open, Write, Sync, Close, Ropen, Read, Verify, Map, Refresh, Rclose, Stat, Flatten, Recover, Trunc as Truncs, Rename, Ls, Stop as Arms}
use Rattle.actor_core.specs.declared.kept.Kept.{Kept}
use Rattle.actor_core.specs.declared.kept.Stop.{Stop}
use Rattle.outcomes.specs.Data.{bytes_of, length_of, first_difference}
use Rattle.actor_core.specs.Endings.{gone, refused, stopped, opened, wrote_nothing, wrote, synced, closed, read_from, verified, names_listed, recovered, renamed, told_of, truncated, flattened}
use Rattle.outcomes.specs.Counts.{counts_of}
use Rattle.outcomes.specs.Outcomes.{stuck_outcome, or_stuck, difference}
use Rattle.actor_core.specs.Names.{names_program, names_told}
use Rattle.actor_core.specs.Telling.{if_asked, if_relisted, tells_by, tells_of_file}
use Rattle.actor_core.specs.Opened.{opens as opens_after, reader_opened, reader_refreshed, without_reader}
use Rattle.index_reader.specs.Opened.{parts_of}
use Rattle.plain_file.specs.declared.parts.ReaderParts.{ReaderParts}
use Rattle.refresh_index.specs.Refreshing.{refresh_program}
use Rattle.actor_core.specs.Readers.{opens_reader, if_listed, reads, verifies, maps, closes_reader, refreshes}
use Rattle.gather_flow.specs.Shares.{programs_from, by_itself}
use Rattle.gather_flow.specs.Workers.{all_of}
use Rattle.actor_core.specs.Statements.{does, greeted, greeted_work, disarmed, work_of}
use Rattle.actor_core.specs.ByName.{flattens_file, lists_names, recovers_file, renames_file, truncates_file}
use Rattle.actor_core.proofs.Facts.{logical_names}
use Rattle.actor_core.specs.Stopping.{carried, is_due, one_nearer}
use Rattle.actor_core.specs.Work.{Work, finishes}
use Rattle.actor_core.specs.Writers.{opens, writes, writes_bytes, syncs, closes}
use Rattle.report_text.specs.Text.{HaveText, ListsLogicalNames}
use Rattle.run_core.specs.Play.{IsPlay}
use Rattle.run_core.specs.Conditions.{IsPlayable}
use Rattle.run_core.proofs.Lines.GoodLines.{EndsGood, AreWell, AreGood, lines_good}

-- whatever is replied
abbrev pub AnyReply : Ask → Reply → Type 0
AnyReply question reply = ⊤

abbrev pub HasText : Work → Type 0
HasText work = EndsGood AnyReply ListsLogicalNames work

either_text : (b : Bool) (p q : Work) → HasText p → HasText q → HasText (if b then p else q)
either_text true p q x y = x
either_text false p q x y = y

carried_text : {R : Type 0} (p : Program Call Reply R) (stop : Option Stop) (next : Option Stop → R → Work) (halted : Work) → ((left : Option Stop) (r : R) → HasText (next left r)) → HasText halted → HasText (carried p stop next halted)
carried_text (done r) stop next halted goes stops = goes stop r
carried_text (ask call k) stop next halted goes stops = λ reply any. either_text (is_due stop) halted (carried (k reply) (one_nearer stop) next halted) stops (carried_text (k reply) (one_nearer stop) next halted goes stops)

stuck_text : (why : Stuck) → ListsLogicalNames (stuck_outcome why)
stuck_text stuck.Fault = tt
stuck_text (stuck.Damaged folder file place) = tt
stuck_text (stuck.Refused why) = tt

or_stuck_text : {A : Type 0} (says : A → Outcome) (result : Result A Stuck) → ((a : A) → ListsLogicalNames (says a)) → ListsLogicalNames (or_stuck says result)
or_stuck_text says (Ok a) good = good a
or_stuck_text says (Err why) good = stuck_text why

difference_text : (at : ℕ) (place : Option ℕ) → ListsLogicalNames (difference at place)
difference_text at None = tt
difference_text at (Some j) = tt

opens_text : (kept : Kept) (stop : Option Stop) (name : List ℕ) (writer : Option WriterHandle) → HasText (opens kept stop name writer)
opens_text kept stop name (Some handle) = tt
opens_text kept stop name None = carried_text (open_program name kept.host kept.cap) stop (λ left result. finishes (opened kept result)) (finishes (stopped kept)) (λ left result. or_stuck_text (λ (handle : WriterHandle). of.Opened handle.writer) result (λ handle. tt)) tt

writes_text : (kept : Kept) (stop : Option Stop) (at : ℕ) (bytes : List ℕ) (writer : Option WriterHandle) → HasText (writes kept stop at bytes writer)
writes_text kept stop at bytes None = tt
writes_text kept stop at bytes (Some handle) =
    either_text handle.closing (finishes (refused kept NotOpen)) (writes_bytes kept stop at bytes handle) tt
    (either_text (length bytes == 0) (finishes (wrote_nothing kept at)) (carried (write_program handle at bytes) stop (λ left out. finishes (wrote kept at (length bytes) out)) (finishes (stopped kept))) tt (carried_text (write_program handle at bytes) stop (λ left out. finishes (wrote kept at (length bytes) out)) (finishes (stopped kept)) (λ left out. or_stuck_text (λ stamp. of.Wrote at (length bytes) (Some stamp)) out.result (λ stamp. tt)) tt))

syncs_text : (kept : Kept) (stop : Option Stop) (writer : Option WriterHandle) → HasText (syncs kept stop writer)
syncs_text kept stop None = tt
syncs_text kept stop (Some handle) =
    either_text handle.closing (finishes (refused kept NotOpen)) (carried (sync_program handle) stop (λ left out. finishes (synced kept out)) (finishes (stopped kept))) tt (carried_text (sync_program handle) stop (λ left out. finishes (synced kept out)) (finishes (stopped kept)) (λ left out. or_stuck_text (λ landed. of.Synced landed) out.result (λ landed. tt)) tt)

closes_text : (kept : Kept) (stop : Option Stop) (writer : Option WriterHandle) → HasText (closes kept stop writer)
closes_text kept stop None = tt
closes_text kept stop (Some handle) = carried_text (close_program handle) stop (λ left out. finishes (closed kept out)) (finishes (stopped kept)) (λ left out. or_stuck_text (λ landed. of.Closed landed) out.result (λ landed. tt)) tt

reader_text : (kept : Kept) (result : Result OpenReader Stuck) → HasText (finishes (reader_opened kept result))
reader_text kept (Ok reader) = tt
reader_text kept (Err why) = stuck_text why

itself_text : (kept : Kept) (workers : ℕ) (stop : Option Stop) (listing : Listing) → HasText (carried (by_itself (programs_from workers listing 0) [] (opens_after listing)) stop (λ left result. finishes (reader_opened kept result)) (finishes (stopped kept)))
itself_text kept workers stop listing =
    carried_text (by_itself (programs_from workers listing 0) [] (opens_after listing)) stop (λ left result. finishes (reader_opened kept result)) (finishes (stopped kept)) (λ left result. reader_text kept result) tt

-- the same of what workers read
shared_text : (kept : Kept) (listing : Listing) (results : List (Result Share Stuck)) → HasText (carried (on_ok (opens_after listing) (all_of results)) None (λ left result. finishes (reader_opened kept result)) (finishes (stopped kept)))
shared_text kept listing results =
    carried_text (on_ok (opens_after listing) (all_of results)) None (λ left result. finishes (reader_opened kept result)) (finishes (stopped kept)) (λ left result. reader_text kept result) tt

listed_text : (kept : Kept) (workers : ℕ) (stop : Option Stop) (result : Result Listing Stuck) → HasText (if_listed kept workers stop result)
listed_text kept workers stop (Err why) = stuck_text why
listed_text kept workers None (Ok listing) = ((λ calls results made well. shared_text kept listing results), itself_text kept workers None listing)
listed_text kept workers (Some stop) (Ok listing) = itself_text kept workers (Some stop) listing

opens_reader_text : (kept : Kept) (stop : Option Stop) (name : List ℕ) (workers : ℕ) (reader : Option OpenReader) → HasText (opens_reader kept stop name workers reader)
opens_reader_text kept stop name workers (Some reader) = tt
opens_reader_text kept stop name workers None = carried_text (open_read_program name) stop (if_listed kept workers) (finishes (stopped kept)) (λ left result. listed_text kept workers left result) tt

reads_text : (kept : Kept) (stop : Option Stop) (at len : ℕ) (reader : Option OpenReader) → HasText (reads kept stop at len reader)
reads_text kept stop at len None = tt
reads_text kept stop at len (Some reader) = carried_text (read_program reader.room reader.hosts (plan_of reader.pieces reader.size at len)) stop (λ left result. finishes (read_from kept at result)) (finishes (stopped kept)) (λ left result. or_stuck_text (λ content. of.Read at content) result (λ content. tt)) tt

verifies_text : (kept : Kept) (stop : Option Stop) (at : ℕ) (content : Data) (reader : Option OpenReader) → HasText (verifies kept stop at content reader)
verifies_text kept stop at content None = tt
verifies_text kept stop at content (Some reader) =
    carried_text (read_program reader.room reader.hosts (plan_of reader.pieces reader.size at (length_of content))) stop (λ left result. finishes (verified kept at content result)) (finishes (stopped kept)) (λ left result. or_stuck_text (λ found. difference at (first_difference 0 (bytes_of content) found)) result (λ found. difference_text at (first_difference 0 (bytes_of content) found))) tt

maps_text : (kept : Kept) (reader : Option OpenReader) → HasText (maps kept reader)
maps_text kept None = tt
maps_text kept (Some reader) = tt

refreshed_text : (kept : Kept) (parts : ReaderParts) (result : Result (Unit {0}) Stuck) → HasText (finishes (reader_refreshed kept (record { parts = parts; result = result })))
refreshed_text kept parts (Ok _) = tt
refreshed_text kept parts (Err why) = stuck_text why

refreshes_text : (kept : Kept) (stop : Option Stop) (reader : Option OpenReader) → HasText (refreshes kept stop reader)
refreshes_text kept stop None = tt
refreshes_text kept stop (Some reader) = carried_text (refresh_program (parts_of reader)) stop (λ left out. finishes (reader_refreshed (without_reader kept) out)) (finishes (stopped (without_reader kept))) (λ left out. refreshed_text (without_reader kept) out.parts out.result) tt

closes_reader_text : (kept : Kept) (reader : Option OpenReader) → HasText (closes_reader kept reader)
closes_reader_text kept None = tt
closes_reader_text kept (Some reader) = tt

-- ---- whole files

told_text : (kept : Kept) (result : Result Attr Stuck) → HasText (finishes (told_of kept result))
told_text kept result = or_stuck_text (λ (attr : Attr). of.Stat attr.size attr.stored attr.shares attr.truncs) result (λ attr. tt)

relisted_text : (kept : Kept) (stop : Option Stop) (result : Result Listing Stuck) → HasText (if_relisted kept stop result)
relisted_text kept stop (Err because) = told_text kept (Err because)
relisted_text kept stop (Ok listing) = carried_text (by_itself (programs_from 1 listing 0) [] (tells_by listing)) stop (λ left result. finishes (told_of kept result)) (finishes (stopped kept)) (λ left result. told_text kept result) tt

asked_text : (kept : Kept) (stop : Option Stop) (result : Result AttrOut Stuck) → HasText (if_asked kept stop result)
asked_text kept stop (Err because) = told_text kept (Err because)
asked_text kept stop (Ok (Cached attr)) = tt
asked_text kept stop (Ok (MustMerge room)) = carried_text (open_at_program room) stop (if_relisted kept) (finishes (stopped kept)) (relisted_text kept) tt

tells_text : (kept : Kept) (stop : Option Stop) (name : List ℕ) → HasText (tells_of_file kept stop name)
tells_text kept stop name = carried_text (attr_program name) stop (if_asked kept) (finishes (stopped kept)) (asked_text kept) tt

truncates_text : (kept : Kept) (stop : Option Stop) (name : List ℕ) (size : ℕ) → HasText (truncates_file kept stop name size)
truncates_text kept stop name size = carried_text (truncate_program name size) stop (λ left result. finishes (truncated kept result)) (finishes (stopped kept)) (λ left result. or_stuck_text (λ stamp. of.Truncated stamp) result (λ stamp. tt)) tt

renames_text : (kept : Kept) (stop : Option Stop) (name to : List ℕ) → HasText (renames_file kept stop name to)
renames_text kept stop name to = carried_text (rename_program name to) stop (λ left result. finishes (renamed kept result)) (finishes (stopped kept)) (λ left result. or_stuck_text (λ (made : ⊤). of.Renamed) result (λ made. tt)) tt

flattens_text : (kept : Kept) (stop : Option Stop) (name : List ℕ) → HasText (flattens_file kept stop name)
flattens_text kept stop name = carried_text (flatten_program name) stop (λ left result. finishes (flattened kept result)) (finishes (stopped kept)) (λ left result. or_stuck_text (λ (f : WasFlattened). of.Flattened f.flat f.pieces (counts_of f.covers)) result (λ f. tt)) tt

recovers_text : (kept : Kept) (stop : Option Stop) (name : List ℕ) → HasText (recovers_file kept stop name)
recovers_text kept stop name = carried_text (recover_program name) stop (λ left result. finishes (recovered kept result)) (finishes (stopped kept)) (λ left result. or_stuck_text (λ (r : WasRecovered). of.Recovered r.buried r.alive r.hold) result (λ r. tt)) tt

-- whatever is replied, the names that are listed are logical names
named_text : (kept : Kept) (reply : Reply) → HasText (finishes (names_listed kept (names_told reply)))
named_text kept (Rooms names) = logical_names names
named_text kept Greeted = tt
named_text kept (Room room) = tt
named_text kept (Looked answer) = tt
named_text kept (Entered writer) = tt
named_text kept (Floored floor) = tt
named_text kept Done = tt
named_text kept (Wrote stamp) = tt
named_text kept (Flushed landed) = tt
named_text kept (Synced landed) = tt
named_text kept (Holding holder) = tt
named_text kept (Marked stamp) = tt
named_text kept (Started flat) = tt
named_text kept (Mended made) = tt
named_text kept WasStopped = tt
named_text kept (Refused why) = tt
named_text kept (Damaged folder file) = tt
named_text kept Fault = tt
named_text kept NoMemory = tt

lists_text : (kept : Kept) (stop : Option Stop) → HasText (lists_names kept stop)
lists_text kept stop = λ reply any. either_text (is_due stop) (finishes (stopped kept)) (finishes (names_listed kept (names_told reply))) tt (named_text kept reply)

does_text : (kept : Kept) (stop : Option Stop) (statement : Statement) → HasText (does kept stop statement)
does_text kept stop (Open name) = opens_text kept stop name kept.writer
does_text kept stop (Write at content) = writes_text kept stop at (bytes_of content) kept.writer
does_text kept stop Sync = syncs_text kept stop kept.writer
does_text kept stop Close = closes_text kept stop kept.writer
does_text kept stop (Ropen name workers) = opens_reader_text kept stop name workers kept.reader
does_text kept stop (Read at len) = reads_text kept stop at len kept.reader
does_text kept stop (Verify at content) = verifies_text kept stop at content kept.reader
does_text kept stop Map = maps_text kept kept.reader
does_text kept stop Refresh = refreshes_text kept stop kept.reader
does_text kept stop Rclose = closes_reader_text kept kept.reader
does_text kept stop (Arms call bytes) = tt
does_text kept stop (Stat name) = tells_text kept stop name
does_text kept stop (Flatten name) = flattens_text kept stop name
does_text kept stop (Recover name) = recovers_text kept stop name
does_text kept stop (Truncs name size) = truncates_text kept stop name size
does_text kept stop (Rename name new) = renames_text kept stop name new
does_text kept stop Ls = lists_text kept stop

greeted_text : (kept : Kept) (statement : Statement) → HasText (greeted_work kept statement)
greeted_text kept statement = either_text kept.gone (finishes (gone kept)) (does (disarmed kept) kept.armed statement) tt (does_text (disarmed kept) kept.armed statement)

pub work_text : (kept : Kept) (statement : Statement) → HasText (work_of kept statement)
work_text kept statement = either_text kept.greeted (greeted_work kept statement) _ (greeted_text kept statement) (λ reply any. greeted_text (greeted kept) statement)

pub any_well : (events : List Event) → AreWell AnyReply ListsLogicalNames events
any_well [] = tt
any_well (e ∷ es) = (tt, any_well es)

pub all_of_good : (lines : List Line) → AreGood AnyReply ListsLogicalNames lines → HaveText lines
all_of_good [] good = All-nil (λ (line : Line). ListsLogicalNames line.outcome)
all_of_good (line ∷ lines) good = All-cons (λ (z : Line). ListsLogicalNames z.outcome) line lines good.0 (all_of_good lines good.1)

-- The lines of a play have a text.
pub play_has_text : (script : Script) (start : State) (lines : List Line) (end : State) → IsPlayable script → IsPlay script start lines end → HaveText lines
play_has_text script start lines end playable p = all_of_good lines (lines_good AnyReply ListsLogicalNames work_text script p.history lines (any_well p.history) p.in_turns)
