-- Where a stop is armed for a statement, the call of its number is broken off, and no other.
use Rattle.std.proofs.Common.{◌≡◌, ◌≤◌, ◌<◌, ◌+◌, ◌-◌, ℕ, Bool, true, false, nat_eq, List, [], ◌∷◌, length, Option, Some, None, Ok, Err, Result, refl, sym, ap, ◌∙◌, subst, if◌then◌else◌, arith}
use Rattle.std.specs.Prelude.{◌==◌}
use Rattle.std.proofs.lemmas.Bool.Decides.{nat_tests}
use Rattle.read_plan.specs.Plan.{plan_of}
use Rattle.script_lang.specs.declared.line.Line.{Line}
use Rattle.script_lang.specs.declared.line.Outcome.{Outcome}
use Rattle.script_lang.specs.declared.line.Why.TheVariants.{AlreadyOpen, NotOpen}
use Rattle.script_lang.specs.declared.script.Data.{Data}
use Rattle.script_lang.specs.declared.script.Statement.{Statement}
use Rattle.script_lang.specs.declared.script.Statement.TheVariants.{Close, Flatten, Ls, Map, Open, Rclose, Read, Recover, Refresh, Rename, Ropen, Stat, Stop as Arms, Sync, Trunc, Verify, Write}
use Rattle.mount_model.specs.History.{Event}
use Rattle.mount_model.specs.Program.{Program, ask, done}
use Rattle.mount_model.specs.Turns.{Finishes}
use Rattle.mount_model.specs.declared.call.Call.{Call}
use Rattle.mount_model.specs.declared.call.Ask.{Ask}
use Rattle.mount_model.specs.declared.reply.Reply.{Reply}
use Rattle.mount_model.specs.declared.stuck.Stuck.{Stuck}
use Rattle.attr_flow.specs.declared.attr_flow.AttrOut.{AttrOut}
use Rattle.attr_flow.specs.declared.attr_flow.AttrOut.TheVariants.{Cached, MustMerge}
use Rattle.attr_flow.specs.Asking.{attr_program}
use Rattle.index_reader.specs.declared.listing.Listing.{Listing}
use Rattle.index_reader.specs.declared.opened.OpenReader.{OpenReader}
use Rattle.index_reader.specs.Opened.{parts_of}
use Rattle.index_reader.specs.Opening.{open_at_program, open_read_program}
use Rattle.index_reader.specs.Reading.{read_program}
use Rattle.gather_flow.specs.Shares.{by_itself, programs_from}
use Rattle.refresh_index.specs.Refreshing.{refresh_program}
use Rattle.flatten_core.specs.Flattening.{flatten_program}
use Rattle.torn_tail.specs.Recovering.{recover_program}
use Rattle.trunc_rename.specs.Renaming.{rename_program}
use Rattle.trunc_rename.specs.Truncating.{truncate_program}
use Rattle.writer_flow.specs.Closing.{close_program}
use Rattle.writer_flow.specs.declared.handle.WriterHandle.{WriterHandle}
use Rattle.writer_flow.specs.Opening.{open_program}
use Rattle.writer_flow.specs.Syncing.{sync_program}
use Rattle.writer_flow.specs.Writing.{write_program}
use Rattle.outcomes.specs.Data.{bytes_of, length_of}
use Rattle.actor_core.specs.declared.kept.Kept.{Kept}
use Rattle.actor_core.specs.declared.kept.Stop.{Stop}
use Rattle.actor_core.specs.Endings.{Ending, armed, closed, flattened, gone, mapped, names_listed, opened, read_from, reader_closed, recovered, refused, renamed, stopped, synced, told_of, truncated, verified, wrote, wrote_nothing}
use Rattle.actor_core.specs.Names.{names_program}
use Rattle.actor_core.specs.Opened.{opens as opens_listed, reader_opened, reader_refreshed, without_reader}
use Rattle.actor_core.specs.Readers.{closes_reader, if_listed, maps, opens_reader, reads, refreshes, verifies}
use Rattle.actor_core.specs.Statements.{disarmed, does, greeted_work}
use Rattle.actor_core.specs.Stopping.{carried}
use Rattle.actor_core.specs.Telling.{if_asked, if_relisted, tells_by}
use Rattle.actor_core.specs.Work.{Work, finishes}
use Rattle.actor_core.specs.Writers.{closes, opens, syncs, writes, writes_bytes}
use Rattle.run_core.specs.Course.{Course, then_line}
use Rattle.plain_plays.specs.Stops.{StopsInTime, broken, early}

equal : (x y : ℕ) → nat_eq x y ≡ true → x ≡ y
equal x y e = grind (arith, nat_tests)

unequal : (x : ℕ) → nat_eq x 1 ≡ false → 1 ≤ x → 2 ≤ x
unequal x e some = grind (arith, nat_tests)

-- the stop is one call nearer
abbrev nearer : Stop → Stop
nearer stop = record { call = stop.call - 1; bytes = stop.bytes }

no_calls : (stop : Stop) (calls : List Event) (outcome : Outcome) → 1 ≤ stop.call → calls ≡ [] → StopsInTime stop calls outcome
no_calls stop calls outcome some none = subst (λ (cs : List Event). StopsInTime stop cs outcome) (sym none) (early (omega (arith, some)) tt)

-- with one call more before
one_before : (stop : Stop) (e : Event) (calls : List Event) (outcome : Outcome) → 2 ≤ stop.call → e.ask.stop ≡ None → StopsInTime (nearer stop) calls outcome → StopsInTime stop (e ∷ calls) outcome
one_before stop e calls outcome far whole (early fewer unbroken) = early (let less : length calls < stop.call - 1 = fewer in omega (arith, less, far)) (whole, unbroken)
one_before stop e calls outcome far whole (broken before last are number unbroken off told) =
    broken (e ∷ before) last (ap (λ (cs : List Event). e ∷ cs) are) (let counted : length before + 1 ≡ stop.call - 1 = number in omega (arith, counted, far)) (whole, unbroken) off told

module _ (n number : ℕ) (next : Kept → Course) where
  -- however the statement is carried to its end
  abbrev InTime : Stop → Work → Type 0
  InTime stop work = (calls : List Event) (line : Line) (left : Course) → Finishes n (then_line number next work) calls line left → StopsInTime stop calls line.outcome

  soon : (stop : Stop) (ending : Ending) → 1 ≤ stop.call → InTime stop (finishes ending)
  soon stop ending some calls line left f = no_calls stop calls line.outcome some f.0

  one_of : (stop : Stop) (b : Bool) (x y : Work) → InTime stop x → InTime stop y → InTime stop (if b then x else y)
  one_of stop true x y a b = a
  one_of stop false x y a b = b

  along : {R : Type 0} (p : Program Call Reply R) (leads : Option Stop → R → Work) (kept : Kept) (stop : Stop) → 1 ≤ stop.call → ((s : Stop) (r : R) → 1 ≤ s.call → InTime s (leads (Some s) r)) → InTime stop (carried p (Some stop) leads (finishes (stopped kept)))
  along (done r) leads kept stop some goes calls line left f = goes stop r some calls line left f
  along (ask call k) leads kept stop some goes [] line left f = absurd f
  along (ask call k) leads kept stop some goes (e ∷ calls) line left f =
      let asked : e.ask.stop ≡ (if stop.call == 1 then Some stop.bytes else None) = ap (λ (a : Ask). a.stop) f.1 in
      elim (nat_eq stop.call 1) as (λ b. nat_eq stop.call 1 ≡ b → Finishes n (then_line number next (if b then finishes (stopped kept) else carried (k e.reply) (Some (nearer stop)) leads (finishes (stopped kept)))) calls line left → StopsInTime stop (e ∷ calls) line.outcome) [
        | true ↦ λ due g.
            broken [] e (ap (λ (cs : List Event). e ∷ cs) g.0) (sym (equal stop.call 1 due)) tt (asked ∙ ap (λ b. if b then Some stop.bytes else None) due) (ap (λ (l : Line). l.outcome) g.1)
        | false ↦ λ apart g.
            let far : 2 ≤ stop.call = unequal stop.call apart some in
            one_before stop e calls line.outcome far (asked ∙ ap (λ b. if b then Some stop.bytes else None) apart) (along (k e.reply) leads kept (nearer stop) (omega (arith, far)) goes calls line left g)
      ] refl f.2

  -- what a program ends with is told
  ends_with : {R : Type 0} (p : Program Call Reply R) (ends : R → Ending) (kept : Kept) (stop : Stop) → 1 ≤ stop.call → InTime stop (carried p (Some stop) (λ left r. finishes (ends r)) (finishes (stopped kept)))
  ends_with p ends kept stop some = along p (λ left r. finishes (ends r)) kept stop some (λ s r more. soon s (ends r) more)

  module _ (kept : Kept) (stop : Stop) (some : 1 ≤ stop.call) where
    opens_in : (name : List ℕ) (o : Option WriterHandle) → InTime stop (opens kept (Some stop) name o)
    opens_in name (Some handle) = soon stop (refused kept AlreadyOpen) some
    opens_in name None = ends_with (open_program name kept.host kept.cap) (opened kept) kept stop some

    writes_in : (at : ℕ) (bytes : List ℕ) (o : Option WriterHandle) → InTime stop (writes kept (Some stop) at bytes o)
    writes_in at bytes None = soon stop (refused kept NotOpen) some
    writes_in at bytes (Some handle) = one_of stop handle.closing (finishes (refused kept NotOpen)) (writes_bytes kept (Some stop) at bytes handle) (soon stop (refused kept NotOpen) some)
        (one_of stop (length bytes == 0) (finishes (wrote_nothing kept at)) (carried (write_program handle at bytes) (Some stop) (λ left out. finishes (wrote kept at (length bytes) out)) (finishes (stopped kept))) (soon stop (wrote_nothing kept at) some)
        (ends_with (write_program handle at bytes) (wrote kept at (length bytes)) kept stop some))

    syncs_in : (o : Option WriterHandle) → InTime stop (syncs kept (Some stop) o)
    syncs_in None = soon stop (refused kept NotOpen) some
    syncs_in (Some handle) = one_of stop handle.closing (finishes (refused kept NotOpen)) (carried (sync_program handle) (Some stop) (λ left out. finishes (synced kept out)) (finishes (stopped kept))) (soon stop (refused kept NotOpen) some)
        (ends_with (sync_program handle) (synced kept) kept stop some)

    closes_in : (o : Option WriterHandle) → InTime stop (closes kept (Some stop) o)
    closes_in None = soon stop (refused kept NotOpen) some
    closes_in (Some handle) = ends_with (close_program handle) (closed kept) kept stop some

    listed_in : (workers : ℕ) (s : Stop) (r : Result Listing Stuck) → 1 ≤ s.call → InTime s (if_listed kept workers (Some s) r)
    listed_in workers s (Err because) more = soon s (reader_opened kept (Err because)) more
    listed_in workers s (Ok listing) more = ends_with (by_itself (programs_from workers listing 0) [] (opens_listed listing)) (reader_opened kept) kept s more

    opens_reader_in : (name : List ℕ) (workers : ℕ) (o : Option OpenReader) → InTime stop (opens_reader kept (Some stop) name workers o)
    opens_reader_in name workers (Some reader) = soon stop (refused kept AlreadyOpen) some
    opens_reader_in name workers None = along (open_read_program name) (if_listed kept workers) kept stop some (listed_in workers)

    reads_in : (at len : ℕ) (o : Option OpenReader) → InTime stop (reads kept (Some stop) at len o)
    reads_in at len None = soon stop (refused kept NotOpen) some
    reads_in at len (Some reader) = ends_with (read_program reader.room reader.hosts (plan_of reader.pieces reader.size at len)) (read_from kept at) kept stop some

    verifies_in : (at : ℕ) (content : Data) (o : Option OpenReader) → InTime stop (verifies kept (Some stop) at content o)
    verifies_in at content None = soon stop (refused kept NotOpen) some
    verifies_in at content (Some reader) = ends_with (read_program reader.room reader.hosts (plan_of reader.pieces reader.size at (length_of content))) (verified kept at content) kept stop some

    maps_in : (o : Option OpenReader) → InTime stop (maps kept o)
    maps_in None = soon stop (refused kept NotOpen) some
    maps_in (Some reader) = soon stop (mapped kept reader.pieces) some

    refreshes_in : (o : Option OpenReader) → InTime stop (refreshes kept (Some stop) o)
    refreshes_in None = soon stop (refused kept NotOpen) some
    refreshes_in (Some reader) = ends_with (refresh_program (parts_of reader)) (reader_refreshed (without_reader kept)) (without_reader kept) stop some

    closes_reader_in : (o : Option OpenReader) → InTime stop (closes_reader kept o)
    closes_reader_in None = soon stop (refused kept NotOpen) some
    closes_reader_in (Some reader) = soon stop (reader_closed kept) some

    relisted_in : (s : Stop) (r : Result Listing Stuck) → 1 ≤ s.call → InTime s (if_relisted kept (Some s) r)
    relisted_in s (Err because) more = soon s (told_of kept (Err because)) more
    relisted_in s (Ok listing) more = ends_with (by_itself (programs_from 1 listing 0) [] (tells_by listing)) (told_of kept) kept s more

    asked_in : (s : Stop) (r : Result AttrOut Stuck) → 1 ≤ s.call → InTime s (if_asked kept (Some s) r)
    asked_in s (Err because) more = soon s (told_of kept (Err because)) more
    asked_in s (Ok (Cached attr)) more = soon s (told_of kept (Ok attr)) more
    asked_in s (Ok (MustMerge room)) more = along (open_at_program room) (if_relisted kept) kept s more relisted_in

    -- each statement
    does_in : (statement : Statement) → InTime stop (does kept (Some stop) statement)
    does_in (Open name) = opens_in name kept.writer
    does_in (Write at content) = writes_in at (bytes_of content) kept.writer
    does_in Sync = syncs_in kept.writer
    does_in Close = closes_in kept.writer
    does_in (Ropen name workers) = opens_reader_in name workers kept.reader
    does_in (Read at len) = reads_in at len kept.reader
    does_in (Verify at content) = verifies_in at content kept.reader
    does_in Map = maps_in kept.reader
    does_in Refresh = refreshes_in kept.reader
    does_in Rclose = closes_reader_in kept.reader
    does_in (Stat name) = along (attr_program name) (if_asked kept) kept stop some asked_in
    does_in (Trunc name size) = ends_with (truncate_program name size) (truncated kept) kept stop some
    does_in (Rename name to) = ends_with (rename_program name to) (renamed kept) kept stop some
    does_in (Recover name) = ends_with (recover_program name) (recovered kept) kept stop some
    does_in (Flatten name) = ends_with (flatten_program name) (flattened kept) kept stop some
    does_in Ls = ends_with names_program (names_listed kept) kept stop some
    does_in (Arms call bytes) = soon stop (armed kept (record { call = call; bytes = bytes })) some

-- A stop that is armed comes in its call.
pub stops_so : (n number : ℕ) (next : Kept → Course) (kept : Kept) (stop : Stop) (statement : Statement) (calls : List Event) (line : Line) (left : Course) → kept.gone ≡ false → kept.armed ≡ Some stop → 1 ≤ stop.call → Finishes n (then_line number next (greeted_work kept statement)) calls line left → StopsInTime stop calls line.outcome
stops_so n number next kept stop statement calls line left stays is some f =
    let on : Finishes n (then_line number next (does (disarmed kept) kept.armed statement)) calls line left =
    subst (λ (b : Bool). Finishes n (then_line number next (if b then finishes (gone kept) else does (disarmed kept) kept.armed statement)) calls line left) stays f in
    does_in n number next (disarmed kept) stop some statement calls line left
    (subst (λ (a : Option Stop). Finishes n (then_line number next (does (disarmed kept) a statement)) calls line left) is on)
