-- What each statement on a writer or a reader does, whatever is replied: its line, and what its actor keeps of a writer, a reader and a stop.
use Rattle.std.proofs.Common.{◌≡◌, ◌≢◌, ℕ, List, [], Bool, true, false, Option, Some, None, refl, sym, ◌∙◌, subst, length, arith}
use Rattle.std.specs.Prelude.{⊤, Result, Ok, Err, ◌==◌}
use Rattle.std.proofs.lemmas.Bool.Decides.{nat_tests}
use Rattle.mount_model.specs.Paths.{Name}
use Rattle.mount_model.specs.declared.stuck.Stuck.{Stuck}
use Rattle.mount_model.specs.declared.stuck.Stuck.TheVariants as stuck
use Rattle.mount_model.specs.FlowReplies.{on_ok}
use Rattle.read_plan.specs.Plan.{plan_of}
use Rattle.script_lang.specs.declared.line.Outcome.{Outcome}
use Rattle.script_lang.specs.declared.line.Outcome.TheVariants as line
use Rattle.script_lang.specs.declared.line.Why.{Why}
use Rattle.script_lang.specs.declared.line.Why.TheVariants.{AlreadyOpen, NotOpen}
use Rattle.script_lang.specs.declared.script.Data.{Data}
use Rattle.script_lang.specs.declared.script.Statement.{Statement}
use Rattle.script_lang.specs.declared.script.Statement.TheVariants.{Close, Map, Open, Read, Refresh, Rclose, Ropen, Sync, Verify, Write}
use Rattle.writer_flow.specs.declared.handle.WriterHandle.{WriterHandle}
use Rattle.writer_flow.specs.declared.handle.WriterOut.{WriterOut}
use Rattle.writer_flow.specs.Opening.{open_program}
use Rattle.writer_flow.specs.Writing.{write_program}
use Rattle.writer_flow.specs.Syncing.{sync_program}
use Rattle.writer_flow.specs.Closing.{close_program}
use Rattle.index_reader.specs.Opening.{open_read_program}
use Rattle.index_reader.specs.Reading.{read_program}
use Rattle.index_reader.specs.declared.listing.Listing.{Listing}
use Rattle.index_reader.specs.declared.opened.OpenReader.{OpenReader}
use Rattle.index_reader.specs.declared.sharing.Share.{Share}
use Rattle.gather_flow.specs.Shares.{by_itself, programs_from}
use Rattle.gather_flow.specs.Workers.{all_of}
use Rattle.outcomes.specs.Counts.{cut_of}
use Rattle.outcomes.specs.Data.{bytes_of, first_difference, length_of}
use Rattle.outcomes.specs.Outcomes.{difference, or_stuck, stuck_outcome, why_of}
use Rattle.actor_core.specs.declared.kept.Kept.{Kept}
use Rattle.actor_core.specs.declared.kept.Stop.{Stop}
use Rattle.actor_core.specs.Endings.{Ending, closed, ending, opened, read_from, refused, stopped, synced, verified, with_writer, wrote, wrote_nothing}
use Rattle.actor_core.specs.Opened.{opens as opens_after, reader_opened}
use Rattle.actor_core.specs.Readers.{closes_reader, if_listed, maps, opens_reader, reads, verifies}
use Rattle.actor_core.specs.Stopping.{carried}
use Rattle.actor_core.specs.Work.{Work, finishes}
use Rattle.actor_core.specs.Writers.{closes, opens, syncs, writes, writes_bytes}
use Rattle.headline.specs.Kinds.{IsOfKind}
use Rattle.headline.specs.Changes.{Writes}
use Rattle.headline.specs.Causes.{WasMade}
use Rattle.headline_laws.proofs.Statements.Ends.{EndsAs, IsLeftOf, any_result, carried_ends, either, some_stop}
use Rattle.headline_laws.proofs.Statements.Handles.{HasLeft, KeepsHandle, LeavesSo, MayWrite, close_so, open_may, sync_keeps, write_keeps}

-- ---- what is said of an end

-- it is of the statement's kind, or it tells of damage; what was written is what the script has
abbrev pub IsOfKindOr : Statement → Outcome → Type 0
IsOfKindOr s (line.Damaged folder file place) = ⊤
IsOfKindOr (Write at content) (line.Wrote place len stamp) = Writes (Write at content) place len stamp
IsOfKindOr s outcome = IsOfKind s outcome

abbrev pub IsThere : {X : Type 0} → Option X → Type 0
IsThere None = ⊥
IsThere (Some x) = ⊤

-- a writer that may write
abbrev pub IsOpen : Option WriterHandle → Type 0
IsOpen None = ⊥
IsOpen (Some handle) = handle.closing ≡ false

-- what the statement needs of the actor's writer and reader
abbrev pub Had : Option WriterHandle → Option OpenReader → Statement → Type 0
Had writer reader (Open name) = writer ≡ None
Had writer reader (Ropen name workers) = reader ≡ None
Had writer reader (Read at len) = IsThere reader
Had writer reader (Verify at content) = IsThere reader
Had writer reader Map = IsThere reader
Had writer reader Refresh = IsThere reader
Had writer reader Rclose = IsThere reader
Had writer reader (Write at content) = IsThere writer
Had writer reader Sync = IsThere writer
Had writer reader Close = IsThere writer
Had writer reader other = ⊤

-- a stop was armed, and its actor makes no more calls; no other line tells of one
abbrev pub StopsSo : Option Stop → Bool → Outcome → Bool → Type 0
StopsSo stop was line.Stopped is = (stop ≢ None) × (is ≡ true)
StopsSo stop was line.Gone is = ⊥
StopsSo stop was other is = is ≡ was

-- none is armed but by a line that says so
abbrev pub ArmsSo : Option Stop → Outcome → Option Stop → Type 0
ArmsSo was line.Armed is = ⊤
ArmsSo was other is = is ≡ was

abbrev pub StaysWriter : Option WriterHandle → Option WriterHandle → Type 0
StaysWriter was is = (IsOpen was → IsOpen is) × (IsThere is → IsThere was)

abbrev pub OpensSo : Option WriterHandle → Outcome → Option WriterHandle → Type 0
OpensSo was (line.Opened id) is = IsOpen is
OpensSo was (line.Refused AlreadyOpen) is = StaysWriter was is
OpensSo was other is = is ≡ None

abbrev pub ClosesSo : Option WriterHandle → Outcome → Option WriterHandle → Type 0
ClosesSo was (line.Closed count) is = is ≡ None
ClosesSo was other is = IsThere is → IsThere was

abbrev pub WritesSo : Option WriterHandle → Statement → Outcome → Option WriterHandle → Type 0
WritesSo was (Open name) outcome is = OpensSo was outcome is
WritesSo was Close outcome is = ClosesSo was outcome is
WritesSo was other outcome is = StaysWriter was is

abbrev pub ReadsSo : Option OpenReader → Outcome → Option OpenReader → Type 0
ReadsSo was (line.Reader size cut truncs) is = IsThere is
ReadsSo was line.ReaderClosed is = is ≡ None
ReadsSo was line.Stopped is = ⊤
ReadsSo was other is = (IsThere is → IsThere was) × (IsThere was → IsThere is)

-- The actor had this armed, and kept this, as the statement began. It ends so.
pub record Did (stop : Option Stop) (was_gone : Bool) (was_armed : Option Stop) (writer : Option WriterHandle) (reader : Option OpenReader) (s : Statement) (e : Ending) : Type 0 where
  pub kind : IsOfKindOr s e.outcome
  pub stops : StopsSo stop was_gone e.outcome e.kept.gone
  pub arms : ArmsSo was_armed e.outcome e.kept.armed
  pub writes : WritesSo writer s e.outcome e.kept.writer
  pub reads : ReadsSo reader e.outcome e.kept.reader
  pub uses : WasMade e.outcome → Had writer reader s

abbrev pub DidBy : Option Stop → Kept → Statement → Ending → Type 0
DidBy stop kept s e = Did stop kept.gone kept.armed kept.writer kept.reader s e

abbrev pub Does : Option Stop → Kept → Statement → Work → Type 0
Does stop kept s work = EndsAs (DidBy stop kept s) work

-- ---- ends with which all is as it was

abbrev pub IsQuiet : Outcome → Type 0
IsQuiet line.Stopped = ⊥
IsQuiet line.Gone = ⊥
IsQuiet line.Armed = ⊥
IsQuiet (line.Reader size cut truncs) = ⊥
IsQuiet line.ReaderClosed = ⊥
IsQuiet other = ⊤

pub quiet_stops : (stop : Option Stop) (was : Bool) (outcome : Outcome) → IsQuiet outcome → StopsSo stop was outcome was
quiet_stops stop was line.Stopped quiet = absurd quiet
quiet_stops stop was line.Gone quiet = absurd quiet
quiet_stops stop was other quiet = refl

pub quiet_arms : (was : Option Stop) (outcome : Outcome) → IsQuiet outcome → ArmsSo was outcome was
quiet_arms was line.Armed quiet = absurd quiet
quiet_arms was other quiet = refl

quiet_reads : (was : Option OpenReader) (outcome : Outcome) → IsQuiet outcome → ReadsSo was outcome was
quiet_reads was line.Stopped quiet = tt
quiet_reads was line.ReaderClosed quiet = absurd quiet
quiet_reads was (line.Reader size cut truncs) quiet = absurd quiet
quiet_reads was other quiet = (λ is. is, λ is. is)

-- the writer alone may be another
pub quietly : (stop : Option Stop) (kept : Kept) (writer : Option WriterHandle) (s : Statement) (outcome : Outcome) → IsQuiet outcome → IsOfKindOr s outcome → WritesSo kept.writer s outcome writer → (WasMade outcome → Had kept.writer kept.reader s) → DidBy stop kept s (ending outcome (with_writer kept writer))
quietly stop kept writer s outcome quiet kind writes uses = record {
  kind = kind;
  stops = quiet_stops stop kept.gone outcome quiet;
  arms = quiet_arms kept.armed outcome quiet;
  writes = writes;
  reads = quiet_reads kept.reader outcome quiet;
  uses = uses;
}

pub same_writer : (writer : Option WriterHandle) → StaysWriter writer writer
same_writer writer = (λ is. is, λ is. is)

-- what holds of a fault, of damage and of each refusal holds of each trouble
pub stuck_so : (P : Outcome → Type 0) → P line.Fault → ((folder file : Name) (place : ℕ) → P (line.Damaged folder file place)) → ((why : Why) → P (line.Refused why)) → (because : Stuck) → P (stuck_outcome because)
stuck_so P fault damaged refuses stuck.Fault = fault
stuck_so P fault damaged refuses (stuck.Damaged folder file place) = damaged folder file place
stuck_so P fault damaged refuses (stuck.Refused why) = refuses (why_of why)

pub or_stuck_so : {A : Type 0} (P : Outcome → Type 0) (says : A → Outcome) (result : Result A Stuck) → ((a : A) → P (says a)) → P line.Fault → ((folder file : Name) (place : ℕ) → P (line.Damaged folder file place)) → ((why : Why) → P (line.Refused why)) → P (or_stuck says result)
or_stuck_so P says (Ok a) good fault damaged refuses = good a
or_stuck_so P says (Err because) good fault damaged refuses = stuck_so P fault damaged refuses because

pub still : (stop : Option Stop) (kept : Kept) (s : Statement) (outcome : Outcome) → IsQuiet outcome → IsOfKindOr s outcome → WritesSo kept.writer s outcome kept.writer → (WasMade outcome → Had kept.writer kept.reader s) → DidBy stop kept s (ending outcome kept)
still stop kept s outcome quiet kind writes uses = record {
  kind = kind;
  stops = quiet_stops stop kept.gone outcome quiet;
  arms = quiet_arms kept.armed outcome quiet;
  writes = writes;
  reads = quiet_reads kept.reader outcome quiet;
  uses = uses;
}

pub halts : (stop : Option Stop) (kept : Kept) (s : Statement) → IsOfKindOr s line.Stopped → WritesSo kept.writer s line.Stopped kept.writer → stop ≢ None → DidBy stop kept s (stopped kept)
halts stop kept s kind writes some = record {
  kind = kind;
  stops = (some, refl);
  arms = refl;
  writes = writes;
  reads = tt;
  uses = λ made. absurd made;
}

pub there : {X : Type 0} (o : Option X) (x : X) → o ≡ Some x → IsThere o
there o x is = subst IsThere (sym is) tt

-- ---- the statements on a writer

pub opens_did : (stop : Option Stop) (kept : Kept) (name : List ℕ) (writer : Option WriterHandle) → kept.writer ≡ writer → Does stop kept (Open name) (opens kept stop name writer)
opens_did stop kept name (Some handle) is = still stop kept (Open name) (line.Refused AlreadyOpen) tt tt (same_writer kept.writer) (λ made. absurd made)
opens_did stop kept name None is =
    let s = Open name in
    carried_ends (DidBy stop kept s) MayWrite (open_program name kept.host kept.cap) stop (λ left result. finishes (opened kept result)) (finishes (stopped kept)) (open_may name kept.host kept.cap)
    (λ left result may armed_before. result_did result may)
    (halts stop kept s tt is)
  where
    no_writer : (was : Option WriterHandle) (why : Why) → was ≡ None → OpensSo was (line.Refused why) None
    no_writer was AlreadyOpen none = (λ is_open. subst IsOpen none is_open, λ is_there. absurd is_there)
    no_writer was why none = refl

    result_did : (result : Result WriterHandle Stuck) → MayWrite result → DidBy stop kept (Open name) (opened kept result)
    result_did (Ok handle) may = quietly stop kept (Some handle) (Open name) (line.Opened handle.writer) tt tt may (λ made. is)
    result_did (Err because) may =
        stuck_so (λ o. DidBy stop kept (Open name) (ending o (with_writer kept None)))
        (quietly stop kept None (Open name) line.Fault tt tt refl (λ made. is))
        (λ folder file place. quietly stop kept None (Open name) (line.Damaged folder file place) tt tt refl (λ made. is))
        (λ why. quietly stop kept None (Open name) (line.Refused why) tt tt (no_writer kept.writer why is) (λ made. absurd made))
        because

-- what a write or a sync leaves of its writer
stays_so : (writer : Option WriterHandle) (handle : WriterHandle) (out : WriterOut) → writer ≡ Some handle → KeepsHandle handle out → StaysWriter writer out.handle
stays_so writer handle out is keeps = (
  (λ is_open. let was : handle.closing ≡ false = subst IsOpen is is_open in subst IsOpen (sym keeps.is) (keeps.closing ∙ was)),
  (λ is_there. there writer handle is),
)

is_empty : (n : ℕ) → (n == 0) ≡ true → n ≡ 0
is_empty n is = grind (arith, nat_tests)

not_empty : (n : ℕ) → (n == 0) ≡ false → n ≡ 0 → ⊥
not_empty n some is = let clash : (n == 0) ≡ true = grind (arith, nat_tests) in (let both : false ≡ true = sym some ∙ clash in absurd (cc))

pub writes_did : (stop : Option Stop) (kept : Kept) (at : ℕ) (content : Data) (writer : Option WriterHandle) → kept.writer ≡ writer → Does stop kept (Write at content) (writes kept stop at (bytes_of content) writer)
writes_did stop kept at content None is = still stop kept (Write at content) (line.Refused NotOpen) tt tt (same_writer kept.writer) (λ made. absurd made)
writes_did stop kept at content (Some handle) is =
    let s = Write at content in
    let bytes = bytes_of content in
    let had : IsThere kept.writer = there kept.writer handle is in
    either (DidBy stop kept s) handle.closing (finishes (refused kept NotOpen)) (writes_bytes kept stop at bytes handle)
    (λ closing. still stop kept s (line.Refused NotOpen) tt tt (same_writer kept.writer) (λ made. absurd made))
    (λ not_closing. either (DidBy stop kept s) (length bytes == 0) (finishes (wrote_nothing kept at)) (carried (write_program handle at bytes) stop (λ left out. finishes (wrote kept at (length bytes) out)) (finishes (stopped kept)))
    (λ empty. still stop kept s (line.Wrote at 0 None) tt (record { content = content; asked = refl; len_is = sym (is_empty (length bytes) empty); stamped = (λ none. refl, λ none. refl) }) (same_writer kept.writer) (λ made. had))
    (λ some. carried_ends (DidBy stop kept s) (KeepsHandle handle) (write_program handle at bytes) stop (λ left out. finishes (wrote kept at (length bytes) out)) (finishes (stopped kept)) (write_keeps handle at bytes)
    (λ left out keeps armed_before. or_stuck_so (λ o. DidBy stop kept s (ending o (with_writer kept out.handle))) (λ stamp. line.Wrote at (length bytes) (Some stamp)) out.result
    (λ stamp. quietly stop kept out.handle s (line.Wrote at (length bytes) (Some stamp)) tt (record { content = content; asked = refl; len_is = refl; stamped = (λ none. absurd (not_empty (length bytes) some none), λ none. absurd (cc)) }) (stays_so kept.writer handle out is keeps) (λ made. had))
    (quietly stop kept out.handle s line.Fault tt tt (stays_so kept.writer handle out is keeps) (λ made. had))
    (λ folder file place. quietly stop kept out.handle s (line.Damaged folder file place) tt tt (stays_so kept.writer handle out is keeps) (λ made. had))
    (λ why. quietly stop kept out.handle s (line.Refused why) tt tt (stays_so kept.writer handle out is keeps) (λ made. absurd made)))
    (halts stop kept s tt (same_writer kept.writer))))

pub syncs_did : (stop : Option Stop) (kept : Kept) (writer : Option WriterHandle) → kept.writer ≡ writer → Does stop kept Sync (syncs kept stop writer)
syncs_did stop kept None is = still stop kept Sync (line.Refused NotOpen) tt tt (same_writer kept.writer) (λ made. absurd made)
syncs_did stop kept (Some handle) is =
    let had : IsThere kept.writer = there kept.writer handle is in
    either (DidBy stop kept Sync) handle.closing (finishes (refused kept NotOpen)) (carried (sync_program handle) stop (λ left out. finishes (synced kept out)) (finishes (stopped kept)))
    (λ closing. still stop kept Sync (line.Refused NotOpen) tt tt (same_writer kept.writer) (λ made. absurd made))
    (λ not_closing. carried_ends (DidBy stop kept Sync) (KeepsHandle handle) (sync_program handle) stop (λ left out. finishes (synced kept out)) (finishes (stopped kept)) (sync_keeps handle)
    (λ left out keeps armed_before. or_stuck_so (λ o. DidBy stop kept Sync (ending o (with_writer kept out.handle))) (λ landed. line.Synced landed) out.result
    (λ landed. quietly stop kept out.handle Sync (line.Synced landed) tt tt (stays_so kept.writer handle out is keeps) (λ made. had))
    (quietly stop kept out.handle Sync line.Fault tt tt (stays_so kept.writer handle out is keeps) (λ made. had))
    (λ folder file place. quietly stop kept out.handle Sync (line.Damaged folder file place) tt tt (stays_so kept.writer handle out is keeps) (λ made. had))
    (λ why. quietly stop kept out.handle Sync (line.Refused why) tt tt (stays_so kept.writer handle out is keeps) (λ made. absurd made)))
    (halts stop kept Sync tt (same_writer kept.writer)))

pub closes_did : (stop : Option Stop) (kept : Kept) (writer : Option WriterHandle) → kept.writer ≡ writer → Does stop kept Close (closes kept stop writer)
closes_did stop kept None is = still stop kept Close (line.Refused NotOpen) tt tt (λ is_there. is_there) (λ made. absurd made)
closes_did stop kept (Some handle) is =
    carried_ends (DidBy stop kept Close) HasLeft (close_program handle) stop (λ left out. finishes (closed kept out)) (finishes (stopped kept)) (close_so handle)
    (λ left out leaves armed_before. result_did out.handle out.result leaves)
    (halts stop kept Close tt (λ is_there. is_there))
  where
    result_did : (new : Option WriterHandle) (result : Result ℕ Stuck) → LeavesSo result new → DidBy stop kept Close (ending (or_stuck (λ landed. line.Closed landed) result) (with_writer kept new))
    result_did new (Ok landed) leaves = quietly stop kept new Close (line.Closed landed) tt tt leaves (λ made. there kept.writer handle is)
    result_did new (Err because) leaves =
        stuck_so (λ o. DidBy stop kept Close (ending o (with_writer kept new)))
        (quietly stop kept new Close line.Fault tt tt (λ is_there. there kept.writer handle is) (λ made. there kept.writer handle is))
        (λ folder file place. quietly stop kept new Close (line.Damaged folder file place) tt tt (λ is_there. there kept.writer handle is) (λ made. there kept.writer handle is))
        (λ why. quietly stop kept new Close (line.Refused why) tt tt (λ is_there. there kept.writer handle is) (λ made. absurd made))
        because

-- ---- the statements on a reader

-- a reader's line, where the actor has none or one before
pub reader_did : (stop : Option Stop) (kept : Kept) (s : Statement) (size : ℕ) (cut : _) (truncs : _) (reader : OpenReader) → IsOfKind s (line.Reader size cut truncs) → WritesSo kept.writer s (line.Reader size cut truncs) kept.writer → Had kept.writer kept.reader s → DidBy stop kept s (ending (line.Reader size cut truncs) (record kept { reader = Some reader }))
reader_did stop kept s size cut truncs reader kind writes had = record { kind = kind; stops = refl; arms = refl; writes = writes; reads = tt; uses = λ made. had }

opened_did : (stop : Option Stop) (kept : Kept) (name : List ℕ) (workers : ℕ) → kept.reader ≡ None → (result : Result OpenReader Stuck) → DidBy stop kept (Ropen name workers) (reader_opened kept result)
opened_did stop kept name workers is (Ok reader) = reader_did stop kept (Ropen name workers) reader.size (cut_of reader.covers) reader.truncs reader tt (same_writer kept.writer) is
opened_did stop kept name workers is (Err because) =
    stuck_so (λ o. DidBy stop kept (Ropen name workers) (ending o kept))
    (still stop kept (Ropen name workers) line.Fault tt tt (same_writer kept.writer) (λ made. is))
    (λ folder file place. still stop kept (Ropen name workers) (line.Damaged folder file place) tt tt (same_writer kept.writer) (λ made. is))
    (λ why. still stop kept (Ropen name workers) (line.Refused why) tt tt (same_writer kept.writer) (λ made. absurd made))
    because

module _ (stop : Option Stop) (kept : Kept) (name : List ℕ) (workers : ℕ) (is : kept.reader ≡ None) where
  itself_did : (left : Option Stop) (listing : Listing) → (left ≢ None → stop ≢ None) → Does stop kept (Ropen name workers) (carried (by_itself (programs_from workers listing 0) [] (opens_after listing)) left (λ later result. finishes (reader_opened kept result)) (finishes (stopped kept)))
  itself_did left listing armed_before =
      carried_ends (DidBy stop kept (Ropen name workers)) (λ r. ⊤) (by_itself (programs_from workers listing 0) [] (opens_after listing)) left (λ later result. finishes (reader_opened kept result)) (finishes (stopped kept))
      (any_result (by_itself (programs_from workers listing 0) [] (opens_after listing))) (λ later result any was. opened_did stop kept name workers is result) (λ some. halts stop kept (Ropen name workers) tt (same_writer kept.writer) (armed_before some))

  shared_did : (listing : Listing) (results : List (Result Share Stuck)) → Does stop kept (Ropen name workers) (carried (on_ok (opens_after listing) (all_of results)) None (λ later result. finishes (reader_opened kept result)) (finishes (stopped kept)))
  shared_did listing results =
      carried_ends (DidBy stop kept (Ropen name workers)) (λ r. ⊤) (on_ok (opens_after listing) (all_of results)) None (λ later result. finishes (reader_opened kept result)) (finishes (stopped kept))
      (any_result (on_ok (opens_after listing) (all_of results))) (λ later result any was. opened_did stop kept name workers is result) (λ some. absurd (some refl))

  listed_did : (left : Option Stop) (result : Result Listing Stuck) → IsLeftOf stop left → Does stop kept (Ropen name workers) (if_listed kept workers left result)
  listed_did left (Err because) was = opened_did stop kept name workers is (Err because)
  listed_did None (Ok listing) was = ((λ results. shared_did listing results), itself_did None listing (λ some. absurd (some refl)))
  listed_did (Some l) (Ok listing) was = itself_did (Some l) listing (λ some none. some_stop l (was none))

pub opens_reader_did : (stop : Option Stop) (kept : Kept) (name : List ℕ) (workers : ℕ) (reader : Option OpenReader) → kept.reader ≡ reader → Does stop kept (Ropen name workers) (opens_reader kept stop name workers reader)
opens_reader_did stop kept name workers (Some reader) is = still stop kept (Ropen name workers) (line.Refused AlreadyOpen) tt tt (same_writer kept.writer) (λ made. absurd made)
opens_reader_did stop kept name workers None is =
    carried_ends (DidBy stop kept (Ropen name workers)) (λ r. ⊤) (open_read_program name) stop (if_listed kept workers) (finishes (stopped kept)) (any_result (open_read_program name))
    (λ left result any was. listed_did stop kept name workers is left result was) (halts stop kept (Ropen name workers) tt (same_writer kept.writer))

pub reads_did : (stop : Option Stop) (kept : Kept) (at len : ℕ) (reader : Option OpenReader) → kept.reader ≡ reader → Does stop kept (Read at len) (reads kept stop at len reader)
reads_did stop kept at len None is = still stop kept (Read at len) (line.Refused NotOpen) tt tt (same_writer kept.writer) (λ made. absurd made)
reads_did stop kept at len (Some reader) is =
    let s = Read at len in
    let had : IsThere kept.reader = there kept.reader reader is in
    let program = read_program reader.room reader.hosts (plan_of reader.pieces reader.size at len) in
    carried_ends (DidBy stop kept s) (λ r. ⊤) program stop (λ left result. finishes (read_from kept at result)) (finishes (stopped kept)) (any_result program)
    (λ left result any was. or_stuck_so (λ o. DidBy stop kept s (ending o kept)) (λ content. line.Read at content) result
    (λ content. still stop kept s (line.Read at content) tt tt (same_writer kept.writer) (λ made. had))
    (still stop kept s line.Fault tt tt (same_writer kept.writer) (λ made. had))
    (λ folder file place. still stop kept s (line.Damaged folder file place) tt tt (same_writer kept.writer) (λ made. had))
    (λ why. still stop kept s (line.Refused why) tt tt (same_writer kept.writer) (λ made. absurd made)))
    (halts stop kept s tt (same_writer kept.writer))

pub verifies_did : (stop : Option Stop) (kept : Kept) (at : ℕ) (content : Data) (reader : Option OpenReader) → kept.reader ≡ reader → Does stop kept (Verify at content) (verifies kept stop at content reader)
verifies_did stop kept at content None is = still stop kept (Verify at content) (line.Refused NotOpen) tt tt (same_writer kept.writer) (λ made. absurd made)
verifies_did stop kept at content (Some reader) is =
    let s = Verify at content in
    let had : IsThere kept.reader = there kept.reader reader is in
    let program = read_program reader.room reader.hosts (plan_of reader.pieces reader.size at (length_of content)) in
    carried_ends (DidBy stop kept s) (λ r. ⊤) program stop (λ left result. finishes (verified kept at content result)) (finishes (stopped kept)) (any_result program)
    (λ left result any was. or_stuck_so (λ o. DidBy stop kept s (ending o kept)) (λ found. difference at (first_difference 0 (bytes_of content) found)) result
    (λ found. differs_did had (first_difference 0 (bytes_of content) found))
    (still stop kept s line.Fault tt tt (same_writer kept.writer) (λ made. had))
    (λ folder file place. still stop kept s (line.Damaged folder file place) tt tt (same_writer kept.writer) (λ made. had))
    (λ why. still stop kept s (line.Refused why) tt tt (same_writer kept.writer) (λ made. absurd made)))
    (halts stop kept s tt (same_writer kept.writer))
  where
    differs_did : IsThere kept.reader → (place : Option ℕ) → DidBy stop kept (Verify at content) (ending (difference at place) kept)
    differs_did had None = still stop kept (Verify at content) line.Same tt tt (same_writer kept.writer) (λ made. had)
    differs_did had (Some j) = still stop kept (Verify at content) _ tt tt (same_writer kept.writer) (λ made. had)

pub maps_did : (stop : Option Stop) (kept : Kept) (reader : Option OpenReader) → kept.reader ≡ reader → Does stop kept Map (maps kept reader)
maps_did stop kept None is = still stop kept Map (line.Refused NotOpen) tt tt (same_writer kept.writer) (λ made. absurd made)
maps_did stop kept (Some reader) is = still stop kept Map _ tt tt (same_writer kept.writer) (λ made. there kept.reader reader is)

pub closes_reader_did : (stop : Option Stop) (kept : Kept) (reader : Option OpenReader) → kept.reader ≡ reader → Does stop kept Rclose (closes_reader kept reader)
closes_reader_did stop kept None is = still stop kept Rclose (line.Refused NotOpen) tt tt (same_writer kept.writer) (λ made. absurd made)
closes_reader_did stop kept (Some reader) is = record { kind = tt; stops = refl; arms = refl; writes = same_writer kept.writer; reads = refl; uses = λ made. there kept.reader reader is }
