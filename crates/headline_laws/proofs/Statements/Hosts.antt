-- An actor keeps its host, and the capacity of its buffers.
use Rattle.std.proofs.Common.{◌≡◌, inl, inr, ℕ, List, [], Option, Some, None, refl, subst, length}
use Rattle.std.specs.Prelude.{⊤, Result, Ok, Err, ◌==◌}
use Rattle.mount_model.specs.History.{Event}
use Rattle.mount_model.specs.declared.stuck.Stuck.{Stuck}
use Rattle.mount_model.specs.FlowReplies.{on_ok}
use Rattle.read_plan.specs.Plan.{plan_of}
use Rattle.mount_model.specs.Process.{asks, ends, pauses, shares, tells}
use Rattle.script_lang.specs.declared.script.Data.{Data}
use Rattle.script_lang.specs.declared.script.Statement.{Statement}
use Rattle.script_lang.specs.declared.script.Statement.TheVariants.{Close, Flatten, Ls, Map, Open, Read, Recover, Refresh, Rename, Rclose, Ropen, Stat, Stop as Arms, Sync, Trunc, Verify, Write}
use Rattle.writer_flow.specs.declared.handle.WriterHandle.{WriterHandle}
use Rattle.writer_flow.specs.Opening.{open_program}
use Rattle.writer_flow.specs.Writing.{write_program}
use Rattle.writer_flow.specs.Syncing.{sync_program}
use Rattle.writer_flow.specs.Closing.{close_program}
use Rattle.attr_flow.specs.declared.attr_flow.AttrOut.{AttrOut}
use Rattle.attr_flow.specs.declared.attr_flow.AttrOut.TheVariants.{Cached, MustMerge}
use Rattle.attr_flow.specs.Asking.{attr_program}
use Rattle.flatten_core.specs.Flattening.{flatten_program}
use Rattle.torn_tail.specs.Recovering.{recover_program}
use Rattle.trunc_rename.specs.Renaming.{rename_program}
use Rattle.trunc_rename.specs.Truncating.{truncate_program}
use Rattle.index_reader.specs.Opened.{parts_of}
use Rattle.index_reader.specs.Opening.{open_at_program, open_read_program}
use Rattle.index_reader.specs.Reading.{read_program}
use Rattle.index_reader.specs.declared.listing.Listing.{Listing}
use Rattle.index_reader.specs.declared.opened.OpenReader.{OpenReader}
use Rattle.gather_flow.specs.Shares.{by_itself, programs_from}
use Rattle.gather_flow.specs.Workers.{all_of}
use Rattle.refresh_index.specs.Refreshing.{refresh_program}
use Rattle.outcomes.specs.Data.{bytes_of, length_of}
use Rattle.actor_core.specs.declared.kept.Kept.{Kept}
use Rattle.actor_core.specs.declared.kept.Stop.{Stop}
use Rattle.actor_core.specs.Endings.{Ending, closed, flattened, gone, names_listed, opened, read_from, recovered, refused, renamed, stopped, synced, told_of, truncated, verified, wrote, wrote_nothing}
use Rattle.actor_core.specs.Names.{names_program}
use Rattle.actor_core.specs.Opened.{opens as opens_after, reader_opened, reader_refreshed, without_reader}
use Rattle.actor_core.specs.Readers.{closes_reader, if_listed, maps, opens_reader, reads, refreshes, verifies}
use Rattle.actor_core.specs.Statements.{disarmed, does, greeted, greeted_work, work_of}
use Rattle.actor_core.specs.Stopping.{carried}
use Rattle.actor_core.specs.Telling.{if_asked, if_relisted, tells_by}
use Rattle.actor_core.specs.Work.{Work, finishes}
use Rattle.actor_core.specs.Writers.{closes, opens, syncs, writes, writes_bytes}
use Rattle.headline_laws.proofs.Statements.Ends.{EndsAs, any_result, carried_ends, either}
use Rattle.headline_laws.proofs.Story.Parts.{Comes}

abbrev pub declared_of : Kept → ℕ × ℕ
declared_of kept = (kept.host, kept.cap)

abbrev pub SameHost : Kept → Ending → Type 0
SameHost kept e = declared_of e.kept ≡ declared_of kept

-- of a program with one end behind it
module _ (kept : Kept) (stop : Option Stop) where
  opened_host : (result : Result OpenReader Stuck) → SameHost kept (reader_opened kept result)
  opened_host (Ok reader) = refl
  opened_host (Err because) = refl

  opens_host : (name : List ℕ) (writer : Option WriterHandle) → EndsAs (SameHost kept) (opens kept stop name writer)
  opens_host name (Some handle) = refl
  opens_host name None = carried_ends (SameHost kept) (λ r. ⊤) (open_program name kept.host kept.cap) stop (λ left result. finishes (opened kept result)) (finishes (stopped kept)) (any_result (open_program name kept.host kept.cap)) (λ left result any was. refl) (λ some. refl)

  writes_host : (at : ℕ) (bytes : List ℕ) (writer : Option WriterHandle) → EndsAs (SameHost kept) (writes kept stop at bytes writer)
  writes_host at bytes None = refl
  writes_host at bytes (Some handle) =
      either (SameHost kept) handle.closing (finishes (refused kept _)) (writes_bytes kept stop at bytes handle) (λ closing. refl)
      (λ not_closing. either (SameHost kept) (length bytes == 0) (finishes (wrote_nothing kept at)) (carried (write_program handle at bytes) stop (λ left out. finishes (wrote kept at (length bytes) out)) (finishes (stopped kept))) (λ empty. refl)
      (λ some. carried_ends (SameHost kept) (λ r. ⊤) (write_program handle at bytes) stop (λ left out. finishes (wrote kept at (length bytes) out)) (finishes (stopped kept)) (any_result (write_program handle at bytes)) (λ left out any was. refl) (λ armed. refl)))

  syncs_host : (writer : Option WriterHandle) → EndsAs (SameHost kept) (syncs kept stop writer)
  syncs_host None = refl
  syncs_host (Some handle) =
      either (SameHost kept) handle.closing (finishes (refused kept _)) (carried (sync_program handle) stop (λ left out. finishes (synced kept out)) (finishes (stopped kept))) (λ closing. refl)
      (λ not_closing. carried_ends (SameHost kept) (λ r. ⊤) (sync_program handle) stop (λ left out. finishes (synced kept out)) (finishes (stopped kept)) (any_result (sync_program handle)) (λ left out any was. refl) (λ armed. refl))

  closes_host : (writer : Option WriterHandle) → EndsAs (SameHost kept) (closes kept stop writer)
  closes_host None = refl
  closes_host (Some handle) = carried_ends (SameHost kept) (λ r. ⊤) (close_program handle) stop (λ left out. finishes (closed kept out)) (finishes (stopped kept)) (any_result (close_program handle)) (λ left out any was. refl) (λ armed. refl)

  listed_host : (workers : ℕ) (left : Option Stop) (result : Result Listing Stuck) → EndsAs (SameHost kept) (if_listed kept workers left result)
  listed_host workers left (Err because) = refl
  listed_host workers None (Ok listing) = (
    (λ results. carried_ends (SameHost kept) (λ r. ⊤) (on_ok (opens_after listing) (all_of results)) None (λ later result. finishes (reader_opened kept result)) (finishes (stopped kept)) (any_result (on_ok (opens_after listing) (all_of results))) (λ later result any was. opened_host result) (λ armed. refl)),
    carried_ends (SameHost kept) (λ r. ⊤) (by_itself (programs_from workers listing 0) [] (opens_after listing)) None (λ later result. finishes (reader_opened kept result)) (finishes (stopped kept)) (any_result (by_itself (programs_from workers listing 0) [] (opens_after listing))) (λ later result any was. opened_host result) (λ armed. refl),
  )
  listed_host workers (Some l) (Ok listing) = carried_ends (SameHost kept) (λ r. ⊤) (by_itself (programs_from workers listing 0) [] (opens_after listing)) (Some l) (λ later result. finishes (reader_opened kept result)) (finishes (stopped kept)) (any_result (by_itself (programs_from workers listing 0) [] (opens_after listing))) (λ later result any was. opened_host result) (λ armed. refl)

  opens_reader_host : (name : List ℕ) (workers : ℕ) (reader : Option OpenReader) → EndsAs (SameHost kept) (opens_reader kept stop name workers reader)
  opens_reader_host name workers (Some reader) = refl
  opens_reader_host name workers None = carried_ends (SameHost kept) (λ r. ⊤) (open_read_program name) stop (if_listed kept workers) (finishes (stopped kept)) (any_result (open_read_program name)) (λ left result any was. listed_host workers left result) (λ armed. refl)

  reads_host : (at len : ℕ) (reader : Option OpenReader) → EndsAs (SameHost kept) (reads kept stop at len reader)
  reads_host at len None = refl
  reads_host at len (Some reader) =
      let program = read_program reader.room reader.hosts (plan_of reader.pieces reader.size at len) in
      carried_ends (SameHost kept) (λ r. ⊤) program stop (λ left result. finishes (read_from kept at result)) (finishes (stopped kept)) (any_result program) (λ left result any was. refl) (λ armed. refl)

  verifies_host : (at : ℕ) (content : Data) (reader : Option OpenReader) → EndsAs (SameHost kept) (verifies kept stop at content reader)
  verifies_host at content None = refl
  verifies_host at content (Some reader) =
      let program = read_program reader.room reader.hosts (plan_of reader.pieces reader.size at (length_of content)) in
      carried_ends (SameHost kept) (λ r. ⊤) program stop (λ left result. finishes (verified kept at content result)) (finishes (stopped kept)) (any_result program) (λ left result any was. refl) (λ armed. refl)

  maps_host : (reader : Option OpenReader) → EndsAs (SameHost kept) (maps kept reader)
  maps_host None = refl
  maps_host (Some reader) = refl

  closes_reader_host : (reader : Option OpenReader) → EndsAs (SameHost kept) (closes_reader kept reader)
  closes_reader_host None = refl
  closes_reader_host (Some reader) = refl

  refreshes_host : (reader : Option OpenReader) → EndsAs (SameHost kept) (refreshes kept stop reader)
  refreshes_host None = refl
  refreshes_host (Some reader) = carried_ends (SameHost kept) (λ r. ⊤) (refresh_program (parts_of reader)) stop (λ left out. finishes (reader_refreshed (without_reader kept) out)) (finishes (stopped (without_reader kept))) (any_result (refresh_program (parts_of reader))) (λ left out any was. refl) (λ armed. refl)

  relisted_host : (left : Option Stop) (result : Result Listing Stuck) → EndsAs (SameHost kept) (if_relisted kept left result)
  relisted_host left (Err because) = refl
  relisted_host left (Ok listing) = carried_ends (SameHost kept) (λ r. ⊤) (by_itself (programs_from 1 listing 0) [] (tells_by listing)) left (λ later result. finishes (told_of kept result)) (finishes (stopped kept)) (any_result (by_itself (programs_from 1 listing 0) [] (tells_by listing))) (λ later result any was. refl) (λ armed. refl)

  asked_host : (left : Option Stop) (result : Result AttrOut Stuck) → EndsAs (SameHost kept) (if_asked kept left result)
  asked_host left (Err because) = refl
  asked_host left (Ok (Cached attr)) = refl
  asked_host left (Ok (MustMerge room)) = carried_ends (SameHost kept) (λ r. ⊤) (open_at_program room) left (if_relisted kept) (finishes (stopped kept)) (any_result (open_at_program room)) (λ later result any was. relisted_host later result) (λ armed. refl)

  does_host : (s : Statement) → EndsAs (SameHost kept) (does kept stop s)
  does_host (Open name) = opens_host name kept.writer
  does_host (Write at content) = writes_host at (bytes_of content) kept.writer
  does_host Sync = syncs_host kept.writer
  does_host Close = closes_host kept.writer
  does_host (Ropen name workers) = opens_reader_host name workers kept.reader
  does_host (Read at len) = reads_host at len kept.reader
  does_host (Verify at content) = verifies_host at content kept.reader
  does_host Map = maps_host kept.reader
  does_host Refresh = refreshes_host kept.reader
  does_host Rclose = closes_reader_host kept.reader
  does_host (Stat name) = carried_ends (SameHost kept) (λ r. ⊤) (attr_program name) stop (if_asked kept) (finishes (stopped kept)) (any_result (attr_program name)) (λ left result any was. asked_host left result) (λ armed. refl)
  does_host (Trunc name size) = carried_ends (SameHost kept) (λ r. ⊤) (truncate_program name size) stop (λ left result. finishes (truncated kept result)) (finishes (stopped kept)) (any_result (truncate_program name size)) (λ left result any was. refl) (λ armed. refl)
  does_host (Rename name to) = carried_ends (SameHost kept) (λ r. ⊤) (rename_program name to) stop (λ left result. finishes (renamed kept result)) (finishes (stopped kept)) (any_result (rename_program name to)) (λ left result any was. refl) (λ armed. refl)
  does_host (Recover name) = carried_ends (SameHost kept) (λ r. ⊤) (recover_program name) stop (λ left result. finishes (recovered kept result)) (finishes (stopped kept)) (any_result (recover_program name)) (λ left result any was. refl) (λ armed. refl)
  does_host Ls = carried_ends (SameHost kept) (λ r. ⊤) names_program stop (λ left result. finishes (names_listed kept result)) (finishes (stopped kept)) (any_result names_program) (λ left result any was. refl) (λ armed. refl)
  does_host (Arms call bytes) = refl
  does_host (Flatten name) = carried_ends (SameHost kept) (λ r. ⊤) (flatten_program name) stop (λ left result. finishes (flattened kept result)) (finishes (stopped kept)) (any_result (flatten_program name)) (λ left result any was. refl) (λ armed. refl)

greeted_host : (kept : Kept) (s : Statement) → EndsAs (SameHost kept) (greeted_work kept s)
greeted_host kept s = either (SameHost kept) kept.gone (finishes (gone kept)) (does (disarmed kept) kept.armed s) (λ is. refl) (λ lives. does_host (disarmed kept) kept.armed s)

-- each statement leaves its actor both
pub statement_host : (kept : Kept) (s : Statement) → EndsAs (SameHost kept) (work_of kept s)
statement_host kept s = either (SameHost kept) kept.greeted (greeted_work kept s) _ (λ is. greeted_host kept s) (λ first reply. greeted_host (greeted kept) s)

-- what holds of each end holds of the one that it came to
pub comes_so : (n : ℕ) (P : Ending → Type 0) (work : Work) (mine : List Event) (spent : List (List Event)) (e : Ending) → EndsAs P work → Comes n work mine spent e → P e
comes_so n P ends mine spent e is comes = absurd is
comes_so n P (pauses work) mine spent e is comes = absurd is
comes_so n P (tells end work) mine spent e is comes = subst P comes.2 is
comes_so n P (asks q k) mine spent e is c = comes_so n P (k c.call.reply) c.after spent e (is c.call.reply) c.goes_on
comes_so n P (shares programs k alone) mine spent e is (inl w) = comes_so n P (k w.results) w.after w.later e (is.0 w.results) w.goes_on
comes_so n P (shares programs k alone) mine spent e is (inr c) = comes_so n P alone mine spent e is.1 c
