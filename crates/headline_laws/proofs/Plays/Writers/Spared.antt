-- What a statement on no writer leaves: its actor keeps its writer, and the line is none of a writer's.
use Rattle.std.proofs.Common.{◌≡◌, ◌⊎◌, inl, inr, false, ℕ, ◌-◌, [], Option, Some, None, Result, Ok, Err, refl}
use Rattle.std.specs.List.{range_with_len}
use Rattle.mount_model.specs.Program.{Program}
use Rattle.mount_model.specs.declared.stuck.Stuck.{Stuck}
use Rattle.mount_model.specs.declared.stuck.Stuck.TheVariants as stuck
use Rattle.mount_model.specs.FlowReplies.{on_ok}
use Rattle.plain_file.specs.declared.parts.ReaderParts.{ReaderParts}
use Rattle.mount_model.specs.Paths.{Name}
use Rattle.mount_model.specs.declared.call.Call.{Call}
use Rattle.mount_model.specs.declared.call.Call.TheVariants.{Enter, Exit, Floor, Flush, MakeContainer, MakeHostdir, MakeIndex, MakeLog, PutMeta, SyncIndex, SyncLog, Write}
use Rattle.mount_model.specs.declared.reply.Reply.{Reply}
use Rattle.mount_model.proofs.Facts.{IsOnNoWriter}
use Rattle.read_plan.specs.Plan.{plan_of}
use Rattle.index_reader.specs.declared.listing.Listing.{Listing}
use Rattle.index_reader.specs.declared.opened.OpenReader.{OpenReader}
use Rattle.index_reader.specs.Opened.{parts_of}
use Rattle.index_reader.specs.Opening.{open_at_program, open_read_program}
use Rattle.index_reader.specs.Reading.{read_program}
use Rattle.attr_flow.specs.Asking.{attr_program}
use Rattle.attr_flow.specs.declared.attr_flow.AttrOut.{AttrOut}
use Rattle.attr_flow.specs.declared.attr_flow.AttrOut.TheVariants.{Cached, MustMerge}
use Rattle.trunc_rename.specs.Renaming.{rename_program}
use Rattle.trunc_rename.specs.Truncating.{truncate_program}
use Rattle.torn_tail.specs.Recovering.{recover_program}
use Rattle.gather_flow.specs.Shares.{by_itself, programs_from}
use Rattle.gather_flow.specs.Workers.{all_of}
use Rattle.refresh_index.specs.Refreshing.{refresh_program}
use Rattle.flatten_core.specs.Flattening.{flatten_program}
use Rattle.script_lang.specs.declared.line.Outcome.{Outcome}
use Rattle.script_lang.specs.declared.line.Outcome.TheVariants.{Stopped}
use Rattle.script_lang.specs.declared.script.Data.{Data}
use Rattle.outcomes.specs.Data.{bytes_of, first_difference, length_of}
use Rattle.outcomes.specs.Outcomes.{difference, or_stuck, stuck_outcome}
use Rattle.actor_core.specs.declared.kept.Kept.{Kept}
use Rattle.actor_core.specs.declared.kept.Stop.{Stop}
use Rattle.actor_core.specs.ByName.{flattens_file, lists_names, recovers_file, renames_file, truncates_file}
use Rattle.actor_core.specs.Endings.{Ending, ending, flattened, names_listed, read_from, recovered, renamed, stopped, told_of, truncated, verified}
use Rattle.actor_core.specs.Names.{names_program}
use Rattle.actor_core.specs.Opened.{opens, reader_opened, reader_refreshed, refresh_told, without_reader}
use Rattle.actor_core.specs.Readers.{closes_reader, if_listed, maps, opens_reader, reads, refreshes, verifies}
use Rattle.actor_core.specs.Stopping.{carried}
use Rattle.actor_core.specs.Telling.{if_asked, if_relisted, tells_by, tells_of_file}
use Rattle.actor_core.specs.Work.{Work, finishes}
use Rattle.writer_flow.specs.declared.handle.WriterHandle.{WriterHandle}
use Rattle.headline_laws.specs.Writing.{TellsOfNoWriter}
use Rattle.headline_laws.proofs.Plays.Callers.Coming.{GoesSo, IsQuiet, carried_goes, goes_weaker}
use Rattle.headline_laws.proofs.Plays.Writers.Sparing.{AsksQuiet, after_shares, attr_none, flatten_none, itself_none, listing_at_none, listing_none, ok_none, read_none, recover_none, refresh_none, rename_none, tells_none, truncate_none, workers_quiet}

-- the actor keeps this writer, the line is none of a writer's, and the actor goes on unless it was stopped
abbrev pub LeavesWriter : Option WriterHandle → Ending → Type 0
LeavesWriter writer ending = (ending.kept.writer ≡ writer) × TellsOfNoWriter ending.outcome × ((ending.kept.gone ≡ false) ⊎ (ending.outcome ≡ Stopped))

abbrev pub SparesWriter : Kept → Work → Type 0
SparesWriter kept work = GoesSo IsOnNoWriter (LeavesWriter kept.writer) work

-- the same of a statement that makes no container, and truncates or renames none
abbrev pub GoesQuietly : Kept → Work → Type 0
GoesQuietly kept work = GoesSo IsQuiet (LeavesWriter kept.writer) work

on_none : (call : Call) → IsQuiet call → IsOnNoWriter call
on_none (MakeContainer name) quiet = tt
on_none (Enter room host cap) quiet = absurd quiet
on_none (Floor writer) quiet = absurd quiet
on_none (MakeHostdir writer) quiet = absurd quiet
on_none (MakeIndex writer) quiet = absurd quiet
on_none (MakeLog writer) quiet = absurd quiet
on_none (Write writer at block) quiet = absurd quiet
on_none (Flush writer) quiet = absurd quiet
on_none (SyncLog writer) quiet = absurd quiet
on_none (SyncIndex writer) quiet = absurd quiet
on_none (PutMeta writer) quiet = absurd quiet
on_none (Exit writer) quiet = absurd quiet
on_none call quiet = tt

pub quietly : (kept : Kept) (work : Work) → GoesQuietly kept work → SparesWriter kept work
quietly kept work goes = goes_weaker IsQuiet IsOnNoWriter (LeavesWriter kept.writer) (LeavesWriter kept.writer) on_none (λ e leaves. leaves) work goes

stuck_tells : (why : Stuck) → TellsOfNoWriter (stuck_outcome why)
stuck_tells stuck.Fault = tt
stuck_tells (stuck.Damaged folder file place) = tt
stuck_tells (stuck.Refused because) = tt

or_tells : {A : Type 0} (says : A → Outcome) (result : Result A Stuck) → ((a : A) → TellsOfNoWriter (says a)) → TellsOfNoWriter (or_stuck says result)
or_tells says (Ok a) all = all a
or_tells says (Err why) all = stuck_tells why

difference_tells : (at : ℕ) (o : Option ℕ) → TellsOfNoWriter (difference at o)
difference_tells at None = tt
difference_tells at (Some j) = tt

refreshed_tells : (parts : ReaderParts) (result : Result (Unit {0}) Stuck) → TellsOfNoWriter (refresh_told parts result)
refreshed_tells parts (Ok done) = tt
refreshed_tells parts (Err because) = stuck_tells because

module _ (kept : Kept) (alive : kept.gone ≡ false) where
  carries : {R : Type 0} (p : Program Call Reply R) (stop : Option Stop) (next : Option Stop → R → Work) → AsksQuiet p → ((left : Option Stop) (r : R) → GoesQuietly kept (next left r)) → GoesQuietly kept (carried p stop next (finishes (stopped kept)))
  carries p stop next none goes = carried_goes IsQuiet (LeavesWriter kept.writer) kept p stop next none (refl, tt, inr refl) goes

  pub reads_spare : (stop : Option Stop) (at len : ℕ) (r : Option OpenReader) → GoesQuietly kept (reads kept stop at len r)
  reads_spare stop at len None = (refl, tt, inl alive)
  reads_spare stop at len (Some reader) = carries (read_program reader.room reader.hosts (plan_of reader.pieces reader.size at len)) stop (λ left result. finishes (read_from kept at result)) (read_none reader.room reader.hosts (plan_of reader.pieces reader.size at len)) (λ left result. (refl, or_tells _ result (λ content. tt), inl alive))

  pub verifies_spare : (stop : Option Stop) (at : ℕ) (content : Data) (r : Option OpenReader) → GoesQuietly kept (verifies kept stop at content r)
  verifies_spare stop at content None = (refl, tt, inl alive)
  verifies_spare stop at content (Some reader) = carries (read_program reader.room reader.hosts (plan_of reader.pieces reader.size at (length_of content))) stop (λ left result. finishes (verified kept at content result)) (read_none reader.room reader.hosts (plan_of reader.pieces reader.size at (length_of content)))
      (λ left result. (refl, or_tells (λ found. difference at (first_difference 0 (bytes_of content) found)) result (λ found. difference_tells at (first_difference 0 (bytes_of content) found)), inl alive))

  pub maps_spare : (r : Option OpenReader) → GoesQuietly kept (maps kept r)
  maps_spare None = (refl, tt, inl alive)
  maps_spare (Some reader) = (refl, tt, inl alive)

  pub refreshes_spare : (stop : Option Stop) (r : Option OpenReader) → GoesQuietly kept (refreshes kept stop r)
  refreshes_spare stop None = (refl, tt, inl alive)
  refreshes_spare stop (Some reader) =
      carried_goes IsQuiet (LeavesWriter kept.writer) (without_reader kept) (refresh_program (parts_of reader)) stop (λ left out. finishes (reader_refreshed (without_reader kept) out)) (refresh_none (parts_of reader)) (refl, tt, inr refl) (λ left out. (refl, refreshed_tells out.parts out.result, inl alive))

  pub closes_spare : (r : Option OpenReader) → GoesQuietly kept (closes_reader kept r)
  closes_spare None = (refl, tt, inl alive)
  closes_spare (Some reader) = (refl, tt, inl alive)

  -- ---- a reader is opened

  opened_tells : (result : Result OpenReader Stuck) → LeavesWriter kept.writer (reader_opened kept result)
  opened_tells (Ok reader) = (refl, tt, inl alive)
  opened_tells (Err because) = (refl, stuck_tells because, inl alive)

  shared_spare : (stop : Option Stop) (workers : ℕ) (listing : Listing) → GoesQuietly kept (if_listed kept workers stop (Ok listing))
  shared_spare None workers listing = (
    λ results. carries (on_ok (opens listing) (all_of results)) None (λ left result. finishes (reader_opened kept result)) (ok_none (opens listing) (after_shares listing) (all_of results)) (λ left result. opened_tells result),
    carries (by_itself (programs_from workers listing 0) [] (opens listing)) None (λ left result. finishes (reader_opened kept result)) (itself_none workers listing (range_with_len 0 (workers - 0)) [] (opens listing) (after_shares listing)) (λ left result. opened_tells result),
    workers_quiet workers listing (range_with_len 0 (workers - 0)),
  )
  shared_spare (Some stop) workers listing =
      carries (by_itself (programs_from workers listing 0) [] (opens listing)) (Some stop) (λ left result. finishes (reader_opened kept result)) (itself_none workers listing (range_with_len 0 (workers - 0)) [] (opens listing) (after_shares listing)) (λ left result. opened_tells result)

  listed_spare : (workers : ℕ) (stop : Option Stop) (result : Result Listing Stuck) → GoesQuietly kept (if_listed kept workers stop result)
  listed_spare workers stop (Ok listing) = shared_spare stop workers listing
  listed_spare workers stop (Err because) = (refl, stuck_tells because, inl alive)

  pub opens_spare : (stop : Option Stop) (name : Name) (workers : ℕ) (r : Option OpenReader) → GoesQuietly kept (opens_reader kept stop name workers r)
  opens_spare stop name workers (Some reader) = (refl, tt, inl alive)
  opens_spare stop name workers None = carries (open_read_program name) stop (if_listed kept workers) (listing_none name) (λ left result. listed_spare workers left result)

  -- ---- what is told of a file

  told_spare : (result : Result _ Stuck) → LeavesWriter kept.writer (told_of kept result)
  told_spare result = (refl, or_tells _ result (λ attr. tt), inl alive)

  relisted_spare : (stop : Option Stop) (result : Result Listing Stuck) → GoesQuietly kept (if_relisted kept stop result)
  relisted_spare stop (Err because) = told_spare (Err because)
  relisted_spare stop (Ok listing) = carries (by_itself (programs_from 1 listing 0) [] (tells_by listing)) stop (λ left result. finishes (told_of kept result)) (itself_none 1 listing (range_with_len 0 (1 - 0)) [] (tells_by listing) (tells_none listing)) (λ left result. told_spare result)

  asked_spare : (stop : Option Stop) (result : Result AttrOut Stuck) → GoesQuietly kept (if_asked kept stop result)
  asked_spare stop (Err because) = told_spare (Err because)
  asked_spare stop (Ok (Cached attr)) = told_spare (Ok attr)
  asked_spare stop (Ok (MustMerge room)) = carries (open_at_program room) stop (if_relisted kept) (listing_at_none room) (λ left result. relisted_spare left result)

  pub looks_spare : (stop : Option Stop) (name : Name) → GoesQuietly kept (tells_of_file kept stop name)
  looks_spare stop name = carries (attr_program name) stop (if_asked kept) (attr_none name) (λ left result. asked_spare left result)

  -- ---- by name

  pub truncates_spare : (stop : Option Stop) (name : Name) (size : ℕ) → SparesWriter kept (truncates_file kept stop name size)
  truncates_spare stop name size = carried_goes IsOnNoWriter (LeavesWriter kept.writer) kept (truncate_program name size) stop (λ left result. finishes (truncated kept result)) (truncate_none name size) (refl, tt, inr refl) (λ left result. (refl, or_tells _ result (λ stamp. tt), inl alive))

  pub renames_spare : (stop : Option Stop) (name to : Name) → SparesWriter kept (renames_file kept stop name to)
  renames_spare stop name to = carried_goes IsOnNoWriter (LeavesWriter kept.writer) kept (rename_program name to) stop (λ left result. finishes (renamed kept result)) (rename_none name to) (refl, tt, inr refl) (λ left result. (refl, or_tells _ result (λ moved. tt), inl alive))

  pub recovers_spare : (stop : Option Stop) (name : Name) → GoesQuietly kept (recovers_file kept stop name)
  recovers_spare stop name = carries (recover_program name) stop (λ left result. finishes (recovered kept result)) (recover_none name) (λ left result. (refl, or_tells _ result (λ told. tt), inl alive))

  pub flattens_spare : (stop : Option Stop) (name : Name) → GoesQuietly kept (flattens_file kept stop name)
  flattens_spare stop name = carries (flatten_program name) stop (λ left result. finishes (flattened kept result)) (flatten_none name) (λ left result. (refl, or_tells _ result (λ told. tt), inl alive))

  pub lists_spare : (stop : Option Stop) → GoesQuietly kept (lists_names kept stop)
  lists_spare stop = carries names_program stop (λ left result. finishes (names_listed kept result)) (tt, λ reply. tt) (λ left result. (refl, or_tells _ result (λ names. tt), inl alive))
