-- The line of a statement tells of a fault only where a fault was answered.
use Rattle.std.proofs.Common.{◌≡◌, ◌≢◌, ◌⊎◌, inl, inr, ℕ, ◌-◌, List, [], ◌∷◌, map, length, Bool, true, false, Option, Some, None, Result, Ok, Err, refl, ap, subst}
use Rattle.std.specs.Prelude.{⊤, if◌then◌else◌, ◌==◌, MatchOption}
use Rattle.std.specs.List.{range_with_len}
use Rattle.mount_model.specs.Program.{Program, done, ask}
use Rattle.mount_model.specs.Calls.{AreCallsOf, AreCallsOfEach}
use Rattle.mount_model.specs.Running.{asking, unbroken}
use Rattle.mount_model.specs.History.{Event}
use Rattle.mount_model.specs.declared.call.Ask.{Ask}
use Rattle.mount_model.specs.declared.call.Call.{Call}
use Rattle.mount_model.specs.declared.reply.Reply.{Reply}
use Rattle.mount_model.specs.declared.reply.Reply.TheVariants.{Fault as Faulted, NoMemory, Stopped as WasStopped}
use Rattle.mount_model.specs.Replies.{FitsCall, FitsAsk}
use Rattle.mount_model.specs.declared.stuck.Stuck.{Stuck}
use Rattle.mount_model.specs.declared.stuck.Stuck.TheVariants as stuck
use Rattle.mount_model.specs.FlowReplies.{on_ok}
use Rattle.read_plan.specs.Plan.{plan_of}
use Rattle.writer_flow.specs.declared.handle.WriterHandle.{WriterHandle}
use Rattle.writer_flow.specs.Opening.{open_program}
use Rattle.writer_flow.specs.Writing.{write_program}
use Rattle.writer_flow.specs.Syncing.{sync_program}
use Rattle.writer_flow.specs.Closing.{close_program}
use Rattle.attr_flow.specs.declared.attr.Attr.{Attr}
use Rattle.attr_flow.specs.declared.attr_flow.AttrOut.{AttrOut}
use Rattle.attr_flow.specs.declared.attr_flow.AttrOut.TheVariants.{Cached, MustMerge}
use Rattle.attr_flow.specs.Asking.{attr_program}
use Rattle.flatten_core.specs.declared.flattening.Flattened.{Flattened as WasFlattened}
use Rattle.flatten_core.specs.Flattening.{flatten_program}
use Rattle.torn_tail.specs.declared.recovering.Recovered.{Recovered as WasRecovered}
use Rattle.torn_tail.specs.Recovering.{recover_program}
use Rattle.trunc_rename.specs.Renaming.{rename_program}
use Rattle.trunc_rename.specs.Truncating.{truncate_program}
use Rattle.index_reader.specs.Opening.{open_at_program, open_read_program}
use Rattle.index_reader.specs.Reading.{read_program}
use Rattle.index_reader.specs.declared.listing.Listing.{Listing}
use Rattle.index_reader.specs.declared.opened.OpenReader.{OpenReader}
use Rattle.index_reader.specs.declared.sharing.Share.{Share}
use Rattle.gather_flow.specs.Dealing.{dealt_to}
use Rattle.script_lang.specs.declared.line.Outcome.{Outcome}
use Rattle.script_lang.specs.declared.line.Outcome.TheVariants as of
use Rattle.script_lang.specs.declared.line.Why.TheVariants.{NotOpen}
use Rattle.script_lang.specs.declared.script.Data.{Data}
use Rattle.script_lang.specs.declared.script.Statement.{Statement}
use Rattle.script_lang.specs.declared.script.Statement.TheVariants.{Open, Write, Sync, Close, Ropen, Read, Verify, Map, Refresh, Rclose, Stat, Flatten, Recover, Trunc as Truncs, Rename, Ls, Stop as Arms}
use Rattle.actor_core.specs.declared.kept.Kept.{Kept}
use Rattle.actor_core.specs.declared.kept.Stop.{Stop}
use Rattle.outcomes.specs.Data.{bytes_of, length_of, first_difference}
use Rattle.actor_core.specs.Endings.{gone, refused, stopped, opened, wrote_nothing, wrote, synced, closed, read_from, verified, names_listed, recovered, renamed, told_of, truncated, flattened}
use Rattle.outcomes.specs.Counts.{counts_of}
use Rattle.outcomes.specs.Outcomes.{stuck_outcome, or_stuck, difference}
use Rattle.actor_core.specs.Names.{names_program}
use Rattle.actor_core.specs.Telling.{if_asked, if_relisted, tells_by, tells_of_file}
use Rattle.actor_core.specs.Opened.{opens as opens_after, reader_opened, reader_refreshed, without_reader}
use Rattle.plain_file.specs.declared.parts.ReaderParts.{ReaderParts}
use Rattle.index_reader.specs.Opened.{parts_of}
use Rattle.refresh_index.specs.declared.refreshing.RefreshOut.{RefreshOut}
use Rattle.refresh_index.specs.Refreshing.{refresh_program}
use Rattle.run_core.proofs.Faults.RefreshLooks.{OutLooks, refresh_look}
use Rattle.actor_core.specs.Readers.{opens_reader, if_listed, reads, verifies, maps, closes_reader, refreshes}
use Rattle.gather_flow.specs.Workers.{all_of, and_share}
use Rattle.gather_flow.specs.Shares.{programs_from, worker_program, by_itself}
use Rattle.actor_core.specs.Statements.{does, greeted, greeted_work, disarmed, work_of}
use Rattle.actor_core.specs.ByName.{flattens_file, lists_names, recovers_file, renames_file, truncates_file}
use Rattle.actor_core.specs.Stopping.{carried, is_due, due_bytes, stoppable, one_nearer}
use Rattle.actor_core.specs.Work.{Work, finishes}
use Rattle.actor_core.specs.Writers.{opens, writes, writes_bytes, syncs, closes}
use Rattle.run_core.proofs.Lines.GoodLines.{AreWell, AreWellEach, EndsGood}
use Rattle.run_core.proofs.Faults.EndsWell.{EndsIn, is_no_fault, ends_well, open_well, write_well, sync_well, close_well}
use Rattle.run_core.proofs.Faults.Looking.{IsAnswered, Looks, on_ok_looks, same_fine}
use Rattle.run_core.proofs.Faults.FilesWell.{attr_well, names_well, recover_well, rename_well, truncate_well}
use Rattle.run_core.proofs.Faults.ReaderLooks.{listing_looks, open_at_looks, read_looks, share_looks}
use Rattle.run_core.proofs.Faults.FlattenLooks.{flatten_looks}
use Rattle.run_core.proofs.Faults.OpeningLooks.{after_looks, opening_looks, telling_looks}

-- the reply fits, is no fault, and was not for want of memory
abbrev pub IsWell : Ask → Reply → Type 0
IsWell question reply = (reply ≢ Faulted) × (reply ≢ NoMemory) × FitsAsk question reply

abbrev pub NoFault : Outcome → Type 0
NoFault outcome = outcome ≢ of.Fault

-- while its calls are answered so, it doesn't end in a fault
abbrev pub IsCaused : Work → Type 0
IsCaused work = EndsGood IsWell NoFault work

either_caused : (b : Bool) (p q : Work) → (b ≡ true → IsCaused p) → (b ≡ false → IsCaused q) → IsCaused (if b then p else q)
either_caused true p q x y = x refl
either_caused false p q x y = y refl

-- ---- a program

not_broken : (stop : Option Stop) → is_due stop ≡ false → due_bytes stop ≡ None
not_broken None later = refl
not_broken (Some stop) later = ap (λ b. if b then Some stop.bytes else None) later

fits_unbroken : (call : Call) (stop : Option Stop) (reply : Reply) → is_due stop ≡ false → FitsAsk (stoppable stop call) reply → FitsCall call reply
fits_unbroken call stop reply later fits = subst (λ (bytes : Option ℕ). MatchOption bytes (FitsCall call reply) (λ k. (reply ≡ WasStopped) ⊎ (reply ≡ NoMemory))) (not_broken stop later) fits

carried_caused : {R : Type 0} (fine : R → Bool) (p : Program Call Reply R) (stop : Option Stop) (next : Option Stop → R → Work) (halted : Work) → EndsIn fine p → ((left : Option Stop) (r : R) → fine r ≡ true → IsCaused (next left r)) → IsCaused halted → IsCaused (carried p stop next halted)
carried_caused fine (done r) stop next halted well goes stops = goes stop r well
carried_caused fine (ask call k) stop next halted well goes stops = λ reply is.
    either_caused (is_due stop) halted (carried (k reply) (one_nearer stop) next halted) (λ _. stops) (λ later.
    elim (well reply (fits_unbroken call stop reply later is.2)) as (λ _. IsCaused (carried (k reply) (one_nearer stop) next halted)) [
      | inl none ↦ absurd (is.1 none)
      | inr rest ↦ elim rest as (λ _. IsCaused (carried (k reply) (one_nearer stop) next halted)) [
        | inl bad ↦ absurd (is.0 bad)
        | inr more ↦ carried_caused fine (k reply) (one_nearer stop) next halted more goes stops
      ]
    ])

-- the same of a program that looks
looked_caused : {R : Type 0} (well : Type 0) (p : Program Call Reply (Result R Stuck)) (stop : Option Stop) (next : Option Stop → Result R Stuck → Work) (halted : Work) → well → Looks well p → ((left : Option Stop) (r : Result R Stuck) → is_no_fault r ≡ true → IsCaused (next left r)) → IsCaused halted → IsCaused (carried p stop next halted)
looked_caused well (done r) stop next halted sofar looks goes stops = goes stop r (looks sofar)
looked_caused well (ask call k) stop next halted sofar looks goes stops = λ reply is.
    either_caused (is_due stop) halted (carried (k reply) (one_nearer stop) next halted) (λ _. stops) (λ later.
    let answered : IsAnswered call reply = record { fits = fits_unbroken call stop reply later is.2; has_memory = is.1; is_good = is.0 } in
    looked_caused (well × IsAnswered call reply) (k reply) (one_nearer stop) next halted (sofar, answered) (looks reply) goes stops)

-- the same of a refresh
looked_out_caused : (well : Type 0) (p : Program Call Reply RefreshOut) (stop : Option Stop) (next : Option Stop → RefreshOut → Work) (halted : Work) → well → OutLooks well p → ((left : Option Stop) (out : RefreshOut) → is_no_fault out.result ≡ true → IsCaused (next left out)) → IsCaused halted → IsCaused (carried p stop next halted)
looked_out_caused well (done out) stop next halted sofar looks goes stops = goes stop out (looks sofar)
looked_out_caused well (ask call k) stop next halted sofar looks goes stops = λ reply is.
    either_caused (is_due stop) halted (carried (k reply) (one_nearer stop) next halted) (λ _. stops) (λ later.
    let answered : IsAnswered call reply = record { fits = fits_unbroken call stop reply later is.2; has_memory = is.1; is_good = is.0 } in
    looked_out_caused (well × IsAnswered call reply) (k reply) (one_nearer stop) next halted (sofar, answered) (looks reply) goes stops)

-- ---- what lines say

stuck_is_none : (A : Type 0) (why : Stuck) → is_no_fault {A = A} (Err why) ≡ true → stuck_outcome why ≢ of.Fault
stuck_is_none A stuck.Fault fine is = absurd (cc)
stuck_is_none A (stuck.Damaged folder file place) fine is = absurd (cc)
stuck_is_none A (stuck.Refused why) fine is = absurd (cc)

or_stuck_none : {A : Type 0} (says : A → Outcome) (result : Result A Stuck) → ((a : A) → says a ≢ of.Fault) → is_no_fault result ≡ true → or_stuck says result ≢ of.Fault
or_stuck_none says (Ok a) good fine = good a
or_stuck_none {A} says (Err why) good fine = stuck_is_none A why fine

difference_none : (at : ℕ) (place : Option ℕ) → difference at place ≢ of.Fault
difference_none at None is = absurd (cc)
difference_none at (Some j) is = absurd (cc)

-- ---- a writer

stops_none : (kept : Kept) → IsCaused (finishes (stopped kept))
stops_none kept = λ is. absurd (cc)

refused_none : (kept : Kept) → IsCaused (finishes (refused kept NotOpen))
refused_none kept = λ is. absurd (cc)

opens_caused : (kept : Kept) (stop : Option Stop) (name : List ℕ) (writer : Option WriterHandle) → IsCaused (opens kept stop name writer)
opens_caused kept stop name (Some handle) = λ is. absurd (cc)
opens_caused kept stop name None =
    carried_caused is_no_fault (open_program name kept.host kept.cap) stop (λ left result. finishes (opened kept result)) (finishes (stopped kept)) (open_well name kept.host kept.cap)
    (λ left result fine. or_stuck_none (λ handle. of.Opened handle.writer) result (λ handle is. absurd (cc)) fine) (stops_none kept)

wrote_caused : (kept : Kept) (stop : Option Stop) (at : ℕ) (bytes : List ℕ) (handle : WriterHandle) → IsCaused (writes_bytes kept stop at bytes handle)
wrote_caused kept stop at bytes handle =
    either_caused (length bytes == 0) (finishes (wrote_nothing kept at)) (carried (write_program handle at bytes) stop (λ left out. finishes (wrote kept at (length bytes) out)) (finishes (stopped kept))) (λ none is. absurd (cc))
    (λ some. carried_caused ends_well (write_program handle at bytes) stop (λ left out. finishes (wrote kept at (length bytes) out)) (finishes (stopped kept)) (write_well handle at bytes)
    (λ left out fine. or_stuck_none (λ stamp. of.Wrote at (length bytes) (Some stamp)) out.result (λ stamp is. absurd (cc)) fine) (stops_none kept))

writes_caused : (kept : Kept) (stop : Option Stop) (at : ℕ) (bytes : List ℕ) (writer : Option WriterHandle) → IsCaused (writes kept stop at bytes writer)
writes_caused kept stop at bytes None = refused_none kept
writes_caused kept stop at bytes (Some handle) =
    either_caused handle.closing (finishes (refused kept NotOpen)) (writes_bytes kept stop at bytes handle) (λ _. refused_none kept) (λ _. wrote_caused kept stop at bytes handle)

syncs_caused : (kept : Kept) (stop : Option Stop) (writer : Option WriterHandle) → IsCaused (syncs kept stop writer)
syncs_caused kept stop None = refused_none kept
syncs_caused kept stop (Some handle) =
    either_caused handle.closing (finishes (refused kept NotOpen)) (carried (sync_program handle) stop (λ left out. finishes (synced kept out)) (finishes (stopped kept))) (λ _. refused_none kept)
    (λ _. carried_caused ends_well (sync_program handle) stop (λ left out. finishes (synced kept out)) (finishes (stopped kept)) (sync_well handle)
    (λ left out fine. or_stuck_none (λ landed. of.Synced landed) out.result (λ landed is. absurd (cc)) fine) (stops_none kept))

closes_caused : (kept : Kept) (stop : Option Stop) (writer : Option WriterHandle) → IsCaused (closes kept stop writer)
closes_caused kept stop None = refused_none kept
closes_caused kept stop (Some handle) =
    carried_caused ends_well (close_program handle) stop (λ left out. finishes (closed kept out)) (finishes (stopped kept)) (close_well handle)
    (λ left out fine. or_stuck_none (λ landed. of.Closed landed) out.result (λ landed is. absurd (cc)) fine) (stops_none kept)

-- ---- a reader

reader_none : (kept : Kept) (result : Result OpenReader Stuck) → is_no_fault result ≡ true → IsCaused (finishes (reader_opened kept result))
reader_none kept (Ok reader) fine = λ is. absurd (cc)
reader_none kept (Err why) fine = stuck_is_none OpenReader why fine

itself_caused : (kept : Kept) (workers : ℕ) (stop : Option Stop) (listing : Listing) → IsCaused (carried (by_itself (programs_from workers listing 0) [] (opens_after listing)) stop (λ left result. finishes (reader_opened kept result)) (finishes (stopped kept)))
itself_caused kept workers stop listing =
    looked_caused ⊤ (by_itself (programs_from workers listing 0) [] (opens_after listing)) stop (λ left result. finishes (reader_opened kept result)) (finishes (stopped kept)) tt (opening_looks workers listing ⊤)
    (λ left result fine. reader_none kept result fine) (stops_none kept)

-- ---- what workers read

worker_fine : {R : Type 0} (well : Type 0) (p : Program Call Reply (Result R Stuck)) (calls : List Event) (result : Result R Stuck) → well → Looks well p → AreCallsOf (asking p) calls result → AreWell IsWell NoFault calls → is_no_fault result ≡ true
worker_fine {R} well (done r) calls result sofar looks made all = let P : Result R Stuck → Type 0 = λ z. is_no_fault z ≡ true in subst P made.1 (looks sofar)
worker_fine well (ask call k) [] result sofar looks made all = absurd made
worker_fine well (ask call k) (e ∷ calls) result sofar looks made all =
    let here : IsWell (unbroken call) e.reply = subst (λ z. IsWell z e.reply) made.0 all.0 in
    let answered : IsAnswered call e.reply = record { fits = here.2; has_memory = here.1; is_good = here.0 } in
    worker_fine (well × IsAnswered call e.reply) (k e.reply) calls result (sofar, answered) (looks e.reply) made.1 all.1

and_fine : (share : Share) (others : Result (List Share) Stuck) → is_no_fault others ≡ true → is_no_fault (and_share share others) ≡ true
and_fine share (Ok others) fine = refl
and_fine share (Err why) fine = fine

all_fine : (result : Result Share Stuck) (results : List (Result Share Stuck)) → is_no_fault result ≡ true → is_no_fault (all_of results) ≡ true → is_no_fault (all_of (result ∷ results)) ≡ true
all_fine (Ok share) results fine rest = and_fine share (all_of results) rest
all_fine (Err why) results fine rest = same_fine Share (List Share) why fine

shares_fine : (workers : ℕ) (listing : Listing) (numbers : List ℕ) (calls : List (List Event)) (results : List (Result Share Stuck)) → AreCallsOfEach (map asking (map (worker_program workers listing) numbers)) calls results
    → AreWellEach IsWell NoFault calls → is_no_fault (all_of results) ≡ true
shares_fine workers listing [] [] [] made all = refl
shares_fine workers listing [] [] (r ∷ results) made all = absurd made
shares_fine workers listing [] (c ∷ calls) results made all = absurd made
shares_fine workers listing (n ∷ numbers) [] results made all = absurd made
shares_fine workers listing (n ∷ numbers) (c ∷ calls) [] made all = absurd made
shares_fine workers listing (n ∷ numbers) (c ∷ calls) (r ∷ results) made all =
    let here : is_no_fault r ≡ true = worker_fine ⊤ (worker_program workers listing n) c r tt (share_looks listing.room (dealt_to workers n 0 listing.droppings) listing.flat.covers ⊤) made.0 all.0 in
    all_fine r results here (shares_fine workers listing numbers calls results made.1 all.1)

shared_caused : (kept : Kept) (workers : ℕ) (listing : Listing) (calls : List (List Event)) (results : List (Result Share Stuck)) → AreCallsOfEach (map asking (programs_from workers listing 0)) calls results → AreWellEach IsWell NoFault calls
    → IsCaused (carried (on_ok (opens_after listing) (all_of results)) None (λ left result. finishes (reader_opened kept result)) (finishes (stopped kept)))
shared_caused kept workers listing calls results made all =
    looked_caused ⊤ (on_ok (opens_after listing) (all_of results)) None (λ left result. finishes (reader_opened kept result)) (finishes (stopped kept)) tt
    (on_ok_looks ⊤ (opens_after listing) (all_of results) (shares_fine workers listing (range_with_len 0 (workers - 0)) calls results made all) (λ shares. after_looks listing shares ⊤))
    (λ left result fine. reader_none kept result fine) (stops_none kept)

listed_caused : (kept : Kept) (workers : ℕ) (stop : Option Stop) (result : Result Listing Stuck) → is_no_fault result ≡ true → IsCaused (if_listed kept workers stop result)
listed_caused kept workers stop (Err why) fine = stuck_is_none Listing why fine
listed_caused kept workers None (Ok listing) fine = (shared_caused kept workers listing, itself_caused kept workers None listing)
listed_caused kept workers (Some stop) (Ok listing) fine = itself_caused kept workers (Some stop) listing

opens_reader_caused : (kept : Kept) (stop : Option Stop) (name : List ℕ) (workers : ℕ) (reader : Option OpenReader) → IsCaused (opens_reader kept stop name workers reader)
opens_reader_caused kept stop name workers (Some reader) = λ is. absurd (cc)
opens_reader_caused kept stop name workers None =
    looked_caused ⊤ (open_read_program name) stop (if_listed kept workers) (finishes (stopped kept)) tt (listing_looks name ⊤) (λ left result fine. listed_caused kept workers left result fine) (stops_none kept)

reads_caused : (kept : Kept) (stop : Option Stop) (at len : ℕ) (reader : Option OpenReader) → IsCaused (reads kept stop at len reader)
reads_caused kept stop at len None = refused_none kept
reads_caused kept stop at len (Some reader) =
    let plan = plan_of reader.pieces reader.size at len in
    looked_caused ⊤ (read_program reader.room reader.hosts plan) stop (λ left result. finishes (read_from kept at result)) (finishes (stopped kept)) tt (read_looks reader.room reader.hosts plan ⊤)
    (λ left result fine. or_stuck_none (λ content. of.Read at content) result (λ content is. absurd (cc)) fine) (stops_none kept)

verifies_caused : (kept : Kept) (stop : Option Stop) (at : ℕ) (content : Data) (reader : Option OpenReader) → IsCaused (verifies kept stop at content reader)
verifies_caused kept stop at content None = refused_none kept
verifies_caused kept stop at content (Some reader) =
    let plan = plan_of reader.pieces reader.size at (length_of content) in
    looked_caused ⊤ (read_program reader.room reader.hosts plan) stop (λ left result. finishes (verified kept at content result)) (finishes (stopped kept)) tt (read_looks reader.room reader.hosts plan ⊤)
    (λ left result fine. or_stuck_none (λ found. difference at (first_difference 0 (bytes_of content) found)) result (λ found. difference_none at (first_difference 0 (bytes_of content) found)) fine) (stops_none kept)

maps_caused : (kept : Kept) (reader : Option OpenReader) → IsCaused (maps kept reader)
maps_caused kept None = refused_none kept
maps_caused kept (Some reader) = λ is. absurd (cc)

refreshed_caused : (kept : Kept) (parts : ReaderParts) (result : Result (Unit {0}) Stuck) → is_no_fault result ≡ true → IsCaused (finishes (reader_refreshed kept (record { parts = parts; result = result })))
refreshed_caused kept parts (Ok _) fine = λ is. absurd (cc)
refreshed_caused kept parts (Err why) fine = stuck_is_none (Unit {0}) why fine

refreshes_caused : (kept : Kept) (stop : Option Stop) (reader : Option OpenReader) → IsCaused (refreshes kept stop reader)
refreshes_caused kept stop None = refused_none kept
refreshes_caused kept stop (Some reader) =
    looked_out_caused ⊤ (refresh_program (parts_of reader)) stop (λ left out. finishes (reader_refreshed (without_reader kept) out)) (finishes (stopped (without_reader kept))) tt (refresh_look (parts_of reader) ⊤)
    (λ left out fine. refreshed_caused (without_reader kept) out.parts out.result fine) (stops_none (without_reader kept))

closes_reader_caused : (kept : Kept) (reader : Option OpenReader) → IsCaused (closes_reader kept reader)
closes_reader_caused kept None = refused_none kept
closes_reader_caused kept (Some reader) = λ is. absurd (cc)

-- ---- a statement

gone_none : (kept : Kept) → IsCaused (finishes (gone kept))
gone_none kept = λ is. absurd (cc)

-- ---- whole files

told_none : (kept : Kept) (result : Result Attr Stuck) → is_no_fault result ≡ true → IsCaused (finishes (told_of kept result))
told_none kept result fine = or_stuck_none (λ (attr : Attr). of.Stat attr.size attr.stored attr.shares attr.truncs) result (λ attr is. absurd (cc)) fine

relisted_caused : (kept : Kept) (stop : Option Stop) (result : Result Listing Stuck) → is_no_fault result ≡ true → IsCaused (if_relisted kept stop result)
relisted_caused kept stop (Err why) fine = stuck_is_none Listing why fine
relisted_caused kept stop (Ok listing) fine =
    looked_caused ⊤ (by_itself (programs_from 1 listing 0) [] (tells_by listing)) stop (λ left result. finishes (told_of kept result)) (finishes (stopped kept)) tt (telling_looks listing ⊤)
    (λ left result good. told_none kept result good) (stops_none kept)

asked_caused : (kept : Kept) (stop : Option Stop) (result : Result AttrOut Stuck) → is_no_fault result ≡ true → IsCaused (if_asked kept stop result)
asked_caused kept stop (Err why) fine = stuck_is_none AttrOut why fine
asked_caused kept stop (Ok (Cached attr)) fine = λ is. absurd (cc)
asked_caused kept stop (Ok (MustMerge room)) fine =
    looked_caused ⊤ (open_at_program room) stop (if_relisted kept) (finishes (stopped kept)) tt (open_at_looks room ⊤) (λ left result good. relisted_caused kept left result good) (stops_none kept)

tells_caused : (kept : Kept) (stop : Option Stop) (name : List ℕ) → IsCaused (tells_of_file kept stop name)
tells_caused kept stop name = carried_caused is_no_fault (attr_program name) stop (if_asked kept) (finishes (stopped kept)) (attr_well name) (asked_caused kept) (stops_none kept)

truncates_caused : (kept : Kept) (stop : Option Stop) (name : List ℕ) (size : ℕ) → IsCaused (truncates_file kept stop name size)
truncates_caused kept stop name size =
    carried_caused is_no_fault (truncate_program name size) stop (λ left result. finishes (truncated kept result)) (finishes (stopped kept)) (truncate_well name size)
    (λ left result fine. or_stuck_none (λ stamp. of.Truncated stamp) result (λ stamp is. absurd (cc)) fine) (stops_none kept)

renames_caused : (kept : Kept) (stop : Option Stop) (name to : List ℕ) → IsCaused (renames_file kept stop name to)
renames_caused kept stop name to =
    carried_caused is_no_fault (rename_program name to) stop (λ left result. finishes (renamed kept result)) (finishes (stopped kept)) (rename_well name to)
    (λ left result fine. or_stuck_none (λ (made : ⊤). of.Renamed) result (λ made is. absurd (cc)) fine) (stops_none kept)

flattens_caused : (kept : Kept) (stop : Option Stop) (name : List ℕ) → IsCaused (flattens_file kept stop name)
flattens_caused kept stop name =
    looked_caused ⊤ (flatten_program name) stop (λ left result. finishes (flattened kept result)) (finishes (stopped kept)) tt (flatten_looks name ⊤)
    (λ left result fine. or_stuck_none (λ (f : WasFlattened). of.Flattened f.flat f.pieces (counts_of f.covers)) result (λ f is. absurd (cc)) fine) (stops_none kept)

recovers_caused : (kept : Kept) (stop : Option Stop) (name : List ℕ) → IsCaused (recovers_file kept stop name)
recovers_caused kept stop name =
    carried_caused is_no_fault (recover_program name) stop (λ left result. finishes (recovered kept result)) (finishes (stopped kept)) (recover_well name)
    (λ left result fine. or_stuck_none (λ (r : WasRecovered). of.Recovered r.buried r.alive r.hold) result (λ r is. absurd (cc)) fine) (stops_none kept)

lists_caused : (kept : Kept) (stop : Option Stop) → IsCaused (lists_names kept stop)
lists_caused kept stop =
    carried_caused is_no_fault names_program stop (λ left result. finishes (names_listed kept result)) (finishes (stopped kept)) names_well
    (λ left result fine. or_stuck_none (λ (names : List (List ℕ)). of.Listed names) result (λ names is. absurd (cc)) fine) (stops_none kept)

does_caused : (kept : Kept) (stop : Option Stop) (statement : Statement) → IsCaused (does kept stop statement)
does_caused kept stop (Open name) = opens_caused kept stop name kept.writer
does_caused kept stop (Write at content) = writes_caused kept stop at (bytes_of content) kept.writer
does_caused kept stop Sync = syncs_caused kept stop kept.writer
does_caused kept stop Close = closes_caused kept stop kept.writer
does_caused kept stop (Ropen name workers) = opens_reader_caused kept stop name workers kept.reader
does_caused kept stop (Read at len) = reads_caused kept stop at len kept.reader
does_caused kept stop (Verify at content) = verifies_caused kept stop at content kept.reader
does_caused kept stop Map = maps_caused kept kept.reader
does_caused kept stop Refresh = refreshes_caused kept stop kept.reader
does_caused kept stop Rclose = closes_reader_caused kept kept.reader
does_caused kept stop (Arms call bytes) = λ is. absurd (cc)
does_caused kept stop (Stat name) = tells_caused kept stop name
does_caused kept stop (Flatten name) = flattens_caused kept stop name
does_caused kept stop (Recover name) = recovers_caused kept stop name
does_caused kept stop (Truncs name size) = truncates_caused kept stop name size
does_caused kept stop (Rename name new) = renames_caused kept stop name new
does_caused kept stop Ls = lists_caused kept stop

greeted_caused : (kept : Kept) (statement : Statement) → IsCaused (greeted_work kept statement)
greeted_caused kept statement = either_caused kept.gone (finishes (gone kept)) (does (disarmed kept) kept.armed statement) (λ _. gone_none kept) (λ _. does_caused (disarmed kept) kept.armed statement)

-- whatever the actor keeps
pub work_caused : (kept : Kept) (statement : Statement) → IsCaused (work_of kept statement)
work_caused kept statement = either_caused kept.greeted (greeted_work kept statement) _ (λ _. greeted_caused kept statement) (λ _ reply is. greeted_caused (greeted kept) statement)
