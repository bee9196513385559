-- What the statements on a writer show.
use Rattle.std.proofs.Common.{◌≡◌, ℕ, ◌+◌, Bool, true, false, inl, inr, List, [], ◌∷◌, ◌++◌, length, nat_eq, Option, Some, None, Result, Ok, Err, refl, sym, ap, ◌∙◌, subst, arith, append_assoc}
use Rattle.std.specs.Prelude.{if◌then◌else◌}
use Rattle.std.proofs.lemmas.List.{append-nil}
use Rattle.turn_object.specs.Callers.{made_by}
use Rattle.mount_model.specs.Program.{Program}
use Rattle.mount_model.specs.Process.{ends}
use Rattle.mount_model.specs.Plays.{Plays}
use Rattle.mount_model.specs.declared.call.Call.{Call}
use Rattle.mount_model.specs.declared.call.Call.TheVariants.{Write as AskWrite}
use Rattle.mount_model.specs.declared.reply.Reply.{Reply}
use Rattle.mount_model.specs.declared.reply.Reply.TheVariants.{Wrote as RepliedWrote}
use Rattle.mount_model.specs.declared.row.Row.{Row}
use Rattle.mount_model.specs.History.{Event, state_after}
use Rattle.mount_model.specs.Paths.{Name}
use Rattle.mount_model.specs.State.{State}
use Rattle.mount_model.specs.Table.{row_of}
use Rattle.mount_sound.specs.Owed.{IsLawful}
use Rattle.mount_model.specs.declared.stuck.Stuck.{Stuck}
use Rattle.mount_model.specs.Running.{Runs, unbroken}
use Rattle.writer_flow.specs.declared.handle.WriterHandle.{WriterHandle}
use Rattle.writer_flow.specs.declared.handle.WriterOut.{WriterOut}
use Rattle.writer_flow.specs.Closing.{close_program}
use Rattle.writer_flow.specs.Opening.{open_program}
use Rattle.writer_flow.specs.Syncing.{sync_program}
use Rattle.writer_flow.specs.Writing.{write_program}
use Rattle.writer_laws.specs.Counting.{entry_count, writes_told}
use Rattle.writer_laws.specs.Knowing.{HasRow}
use Rattle.writer_laws.proofs.Facts.{EnteredBy, HasSynced, close_ends, closed_by, entered_by, goes, opened_ends, some_eq, sync_ends, sync_list, synced_by, write_ends, write_list, writes_both, wrote_by_it}
use Rattle.script_lang.specs.declared.line.Why.TheVariants.{AlreadyOpen, NotOpen}
use Rattle.script_lang.specs.declared.script.Data.{Data}
use Rattle.script_lang.specs.declared.script.Statement.{Statement}
use Rattle.script_lang.specs.declared.script.Statement.TheVariants.{Close, Open, Sync, Write}
use Rattle.outcomes.specs.Data.{bytes_of}
use Rattle.outcomes.specs.Outcomes.{close_outcome, stuck_outcome, sync_outcome, write_outcome}
use Rattle.reader_laws.specs.Bounds.{IsSyncedIn}
use Rattle.reader_laws.specs.Moments.{Dropping, Moment, moment_after}
use Rattle.reader_laws.proofs.Gathered.Facts.{follows}
use Rattle.trouble_laws.specs.Undamaged.{IsUndamaged}
use Rattle.trouble_laws.proofs.Facts.{Ends}
use Rattle.trouble_laws.proofs.Facts as undamaged
use Rattle.actor_core.specs.declared.kept.Kept.{Kept}
use Rattle.actor_core.specs.declared.kept.Stop.{Stop}
use Rattle.actor_core.specs.Endings.{Ending, closed, ending, opened, refused, stopped, synced, with_writer, wrote, wrote_nothing}
use Rattle.actor_core.specs.Stopping.{carried}
use Rattle.actor_core.specs.Work.{finishes}
use Rattle.actor_core.specs.Writers.{closes, opens, syncs, writes, writes_bytes}
use Rattle.headline_laws.specs.OneFile.{OneFile}
use Rattle.headline_laws.specs.Opening.{Stretch}
use Rattle.headline_laws.specs.Showing.{Shows}
use Rattle.headline_laws.specs.OneWriter.{OneWriter, WritesNone, one_more}
use Rattle.headline_laws.specs.Writing.{ShowsClosed, ShowsWriting}
use Rattle.headline_laws.proofs.Plays.Callers.Carrying.{CourseOf, EndsSo, carried_on, ended, ended_behind, then_told}
use Rattle.headline_laws.proofs.Plays.Callers.Finding.{name_made}
use Rattle.headline_laws.proofs.Plays.Readers.Opened.{Good, Keeps, keeps_later}
use Rattle.headline_laws.proofs.Plays.Writers.OneWriters.{KeepsWriter, OfWriter, Writes, any_back, any_front, any_here, synced_there}
use Rattle.headline_laws.proofs.Plays.Writers.Others.{LeavesReader, or_shows_none}
use Rattle.headline_laws.proofs.Plays.Callers.Standing.{Both, Next, up_to}
use Rattle.headline_laws.proofs.Plays.Writers.StuckLines.{gone_not, stuck_written, stuck_synced, stuck_closed, stuck_opened, no_bytes, tested}

-- ---- what is owed of a statement

-- The line shows so much of the writer, and what the actor then keeps is what it has fresh. These events come behind a greeting, or behind none.
abbrev pub GoodWriting : Moment → ℕ → List Event → List Event → Option OneWriter → Statement → List Event → Ending → Type 0
GoodWriting start n before greeting writer statement mine ending = (new : Option OneWriter) × ShowsWriting start n (record { before = before; events = greeting ++ mine }) writer statement ending.outcome new
    × KeepsWriter n (before ++ (greeting ++ mine)) (moment_after (moment_after start (before ++ greeting)) mine).state ending.kept new

abbrev pub GoodBoth : Moment → ℕ → List Event → List Event → Option OneFile → Option OneWriter → Statement → List Event → Ending → Type 0
GoodBoth start n before greeting file writer statement mine ending = Good start n before greeting file statement mine ending × GoodWriting start n before greeting writer statement mine ending

abbrev IsPlainOut : WriterOut → Type 0
IsPlainOut out = IsUndamaged out.result

module _ (start : Moment) (n : ℕ) (before greeting : List Event) {L : Type 0} (as_line : Ending → L) (next : Kept → CourseOf L) (kept : Kept) (stop : Option Stop) (file : Option OneFile) (keeps : Keeps (moment_after start (before ++ greeting)) kept.reader file) where
  abbrev Now : Moment
  Now = moment_after start (before ++ greeting)

  abbrev Here : List Event → Stretch
  Here mine = record { before = before; events = greeting ++ mine }

  -- what is shown of the writer
  abbrev Good_so : Option OneWriter → Statement → List Event → Ending → Type 0
  Good_so writer statement mine ending = GoodWriting start n before greeting writer statement mine ending

  abbrev Comes : Option OneWriter → Statement → List Event → List (List Event) → List L → CourseOf L → Type 0
  Comes writer statement part ws lines left = EndsSo n as_line next part ws lines left (GoodBoth start n before greeting file writer statement)

  -- the line is no reader's, so that it shows no more of a file
  abbrev IsOther : Statement → Type 0
  IsOther statement = (mine : List Event) (ending : Ending) → LeavesReader kept.reader ending → Shows start n (Here mine) file statement ending.outcome file

  both_good : (writer : Option OneWriter) (statement : Statement) (mine : List Event) (ending : Ending) → IsOther statement → IsLawful Now.state mine → LeavesReader kept.reader ending → Good_so writer statement mine ending → GoodBoth start n before greeting file writer statement mine ending
  both_good writer statement mine ending other lawful leaves shows = ((file, other mine ending leaves, subst (λ r. Keeps (moment_after Now mine) r file) (sym leaves.same) (keeps_later Now kept.reader file mine lawful keeps)), shows)

  -- it is at its end
  at_once : (writer : Option OneWriter) (statement : Statement) (e : Ending) (part : List Event) (ws : List (List Event)) (lines : List L) (left : CourseOf L) → IsOther statement → LeavesReader kept.reader e → Good_so writer statement [] e → Plays n (then_told as_line next (finishes e)) part ws lines left → Comes writer statement part ws lines left
  at_once writer statement e part ws lines left other leaves shows plays = ended n as_line next e ends part ws lines left (GoodBoth start n before greeting file writer statement) plays (both_good writer statement [] e other tt leaves shows)

  -- the calls of a machine that ends so
  machine_ends : {R : Type 0} (writer : Option OneWriter) (statement : Statement) (good : R → Type 0) (p : Program Call Reply R) (of : R → Ending) (part : List Event) (ws : List (List Event)) (lines : List L) (left : CourseOf L) → IsOther statement → ((state : State) → Ends n good p state) → ((r : R) → good r → LeavesReader kept.reader (of r))
      → ((mine : List Event) (r : R) → Both start before greeting mine → Runs n p mine r → Good_so writer statement mine (of r)) → ((mine : List Event) → Good_so writer statement mine (stopped kept))
      → Next start before (greeting ++ part) → Plays n (then_told as_line next (carried p stop (λ later r. finishes (of r)) (finishes (stopped kept)))) part ws lines left → Comes writer statement part ws lines left
  machine_ends writer statement good p of part ws lines left other always leaves shows stops whole plays =
      elim (carried_on n as_line next p stop (λ later r. finishes (of r)) (finishes (stopped kept)) part ws lines left plays) as (λ _. Comes writer statement part ws lines left) [
        | inl r ↦
            let b : Both start before greeting r.mine = up_to start before greeting part r.mine r.rest whole r.all in
            ended_behind n as_line next (of r.result) ends part r.mine r.rest ws lines left (GoodBoth start n before greeting file writer statement) r.all r.goes_on
            (both_good writer statement r.mine (of r.result) other b.next.lawful (leaves r.result (always Now.state Now.issued r.mine r.result b.next.lawful b.next.sound r.runs)) (shows r.mine r.result b r.runs))
        | inr h ↦
            let b : Both start before greeting h.mine = up_to start before greeting part h.mine h.rest whole h.all in
            ended_behind n as_line next (stopped kept) ends part h.mine h.rest ws lines left (GoodBoth start n before greeting file writer statement) h.all h.goes_on
            (both_good writer statement h.mine (stopped kept) other b.next.lawful (record { same = refl; none = tt }) (stops h.mine))
      ]

  -- what is known of the state behind some events
  at_end : (mine : List Event) (sofar : List Event) (handle : Option WriterHandle) (writer : Option OneWriter) → Writes n sofar (state_after Now.state mine) handle writer → Writes n sofar (moment_after Now mine).state handle writer
  at_end mine sofar handle writer known = subst (λ st. Writes n sofar st handle writer) (sym (follows Now mine).0) known

  -- behind no call of the statement
  nothing_yet : (writer : Option OneWriter) → WritesNone writer greeting → WritesNone writer (greeting ++ [])
  nothing_yet writer quiet = subst (WritesNone writer) (sym (append-nil greeting)) quiet

  still : (handle : Option WriterHandle) (writer : Option OneWriter) → kept.writer ≡ handle → Writes n (before ++ greeting) Now.state handle writer → KeepsWriter n (before ++ (greeting ++ [])) Now.state kept writer
  still handle writer is known = λ alive. subst (λ es. Writes n (before ++ es) Now.state kept.writer writer) (sym (append-nil greeting)) (subst (λ h. Writes n (before ++ greeting) Now.state h writer) (sym is) known)

  -- ---- it is opened

  opening_shows : (name : Name) (mine : List Event) (result : Result WriterHandle Stuck) → Both start before greeting mine → Runs n (open_program name kept.host kept.cap) mine result → Good_so None (Open name) mine (opened kept result)
  opening_shows name mine (Ok handle) b runs =
      let regular = b.next.sound.regular in
      let o = opened_ends n name kept.host kept.cap Now.state mine (Ok handle) handle regular b.next.lawful runs refl in
      let e : EnteredBy n name kept.host kept.cap handle.writer Now.state mine = entered_by n name kept.host kept.cap Now.state mine (Ok handle) handle regular b.next.lawful runs refl in
      let p = e.placed o.row o.knows.has in
      let writer : OneWriter = record { dropping = record { room = e.room; host = kept.host; writer = handle.writer }; count = 0 } in
      let earlier : List Event = greeting ++ e.first in (
        Some writer,
        (
          writer,
          refl,
          refl,
          record {
            most = kept.cap;
            earlier = earlier;
            making = e.making;
            between = e.between;
            entering = e.entering;
            later = e.rest;
            split = ap (λ z. greeting ++ z) e.all ∙ sym (append_assoc greeting e.first (e.making ∷ e.between ++ e.entering ∷ e.rest));
            makes = e.makes;
            made = e.made;
            named = name_made start before greeting mine e.first (e.between ++ e.entering ∷ e.rest) e.making name e.room b.next e.all (e.makes.1) e.made;
            enters = e.enters;
            entered = e.entered;
            none = refl;
          },
        ),
        λ alive. at_end mine (before ++ (greeting ++ mine)) (Some handle) (Some writer) (record {
          row = o.row;
          knows = o.knows;
          is_writer = refl;
          room = p.0;
          host = p.1;
          total = o.none;
          told = λ closing. absurd (fresh_not handle.closing closing o.fresh);
        }),
      )
    where
      fresh_not : (b : Bool) → b ≡ true → b ≡ false → ⊥
      fresh_not b e f = cc
  opening_shows name mine (Err why) b runs = (None, stuck_opened start n (Here mine) name why, λ alive. tt)

  pub open_line : (name : Name) (handle : Option WriterHandle) (writer : Option OneWriter) (part : List Event) (ws : List (List Event)) (lines : List L) (left : CourseOf L) → kept.writer ≡ handle → WritesNone writer greeting → Writes n (before ++ greeting) Now.state handle writer → Next start before (greeting ++ part)
      → Plays n (then_told as_line next (opens kept stop name handle)) part ws lines left → Comes writer (Open name) part ws lines left
  open_line name None None part ws lines left is quiet known whole plays =
      machine_ends None (Open name) IsUndamaged (open_program name kept.host kept.cap) (λ result. opened kept result) part ws lines left (λ m e l. (refl, l.none)) (undamaged.open_ends n name kept.host kept.cap)
      (λ result plain. record { same = refl; none = or_shows_none _ result plain (λ h. tt) }) (λ mine result b runs. opening_shows name mine result b runs) (λ mine. (None, (tt, refl), λ alive. absurd (gone_not kept alive))) whole plays
  open_line name None (Some writer) part ws lines left is quiet known whole plays = absurd known
  open_line name (Some handle) None part ws lines left is quiet known whole plays = absurd known
  open_line name (Some handle) (Some writer) part ws lines left is quiet known whole plays =
      at_once (Some writer) (Open name) (refused kept AlreadyOpen) part ws lines left (λ m e l. (refl, l.none)) (record { same = refl; none = tt })
      (Some writer, (refl, (refl, nothing_yet (Some writer) quiet)), still (Some handle) (Some writer) is known) plays

  -- ---- it is used: each statement is refused where no writer is open

  refused_all : (statement : Statement) (part : List Event) (ws : List (List Event)) (lines : List L) (left : CourseOf L) → IsOther statement → kept.writer ≡ None → ShowsWriting start n (Here []) None statement (refused kept NotOpen).outcome None → Plays n (then_told as_line next (finishes (refused kept NotOpen))) part ws lines left → Comes None statement part ws lines left
  refused_all statement part ws lines left other is shows plays = at_once None statement (refused kept NotOpen) part ws lines left other (record { same = refl; none = tt }) (None, shows, still None None is tt) plays

  -- the writer that is open
  module _ (handle : WriterHandle) (writer : OneWriter) (is : kept.writer ≡ Some handle) (quiet : WritesNone (Some writer) greeting) (known : OfWriter n (before ++ greeting) Now.state handle writer) where
    -- it may only leave
    refused_now : (statement : Statement) (part : List Event) (ws : List (List Event)) (lines : List L) (left : CourseOf L) → IsOther statement → ShowsWriting start n (Here []) (Some writer) statement (refused kept NotOpen).outcome (Some writer) → Plays n (then_told as_line next (finishes (refused kept NotOpen))) part ws lines left → Comes (Some writer) statement part ws lines left
    refused_now statement part ws lines left other shows plays = at_once (Some writer) statement (refused kept NotOpen) part ws lines left other (record { same = refl; none = tt }) (Some writer, shows, still (Some handle) (Some writer) is known) plays

    abbrev Id : ℕ
    Id = writer.dropping.writer

    -- so many writes were answered in the statement's own events, and so in all of its stretch
    in_all : (mine : List Event) (count : ℕ) → writes_told handle.writer mine ≡ count → writes_told Id (greeting ++ mine) ≡ count
    in_all mine count told = (let both = writes_both Id greeting mine in let own : writes_told Id mine ≡ count = subst (λ id. writes_told id mine ≡ count) known.is_writer told in omega (arith, both, quiet, own))

    synced_more : (d : Dropping) (count : ℕ) (mine : List Event) → IsSyncedIn (before ++ greeting) d count → IsSyncedIn (before ++ (greeting ++ mine)) d count
    synced_more d count mine told = subst (λ es. IsSyncedIn es d count) (append_assoc before greeting mine) (any_front _ (before ++ greeting) mine told)

    synced_now : (d : Dropping) (count : ℕ) (mine : List Event) → IsSyncedIn mine d count → IsSyncedIn (greeting ++ mine) d count
    synced_now d count mine told = any_back _ greeting mine told

    -- the writer as it is later, of this row
    of_row : (count : ℕ) (sofar : List Event) (state : State) (left : WriterHandle) (row after : Row) → left.writer ≡ handle.writer → row_of left.writer state.table.writers ≡ Some row → row.owner ≡ n → left.pending ≡ length row.pending.entries → HasRow n handle.writer after state → (after.room ≡ known.row.room) × (after.host ≡ known.row.host)
        → entry_count row ≡ count → (left.closing ≡ true → (left.landed ≡ count) × IsSyncedIn sofar writer.dropping count) → OfWriter n sofar state left (record { dropping = writer.dropping; count = count })
    of_row count sofar state left row after same there owned pending has placed total told =
        let one : row ≡ after = some_eq row after (row_of handle.writer state.table.writers) (subst (λ id. row_of id state.table.writers ≡ Some row) same there) has.there in
        record {
          row = row;
          knows = record { has = record { there = there; owned = owned }; pending = pending };
          is_writer = same ∙ known.is_writer;
          room = ap (λ (r : Row). r.room) one ∙ placed.0 ∙ known.room;
          host = ap (λ (r : Row). r.host) one ∙ placed.1 ∙ known.host;
          total = total;
          told = told;
        }

    not_closing : (b c : Bool) → b ≡ c → c ≡ false → b ≡ true → ⊥
    not_closing b c e f g = cc

    -- ---- a write

    write_shows : (at : ℕ) (content : Data) (mine : List Event) (out : WriterOut) → handle.closing ≡ false → Both start before greeting mine → Runs n (write_program handle at (bytes_of content)) mine out → Good_so (Some writer) (Write at content) mine (wrote kept at (length (bytes_of content)) out)
    write_shows at content mine out fresh b runs =
        let bytes : List ℕ = bytes_of content in
        let k = write_ends n handle known.row at bytes Now.state mine out known.knows b.next.lawful runs in
        let t = write_list handle at bytes (made_by n mine) out runs in
        let g = goes n handle.writer known.row Now.state mine known.knows.has b.next.lawful t.stays in
        let later : (count : ℕ) → entry_count k.row ≡ count → Writes n (before ++ (greeting ++ mine)) (moment_after Now mine).state out.handle (Some (record { dropping = writer.dropping; count = count })) = λ count total.
        at_end mine (before ++ (greeting ++ mine)) out.handle (Some (record { dropping = writer.dropping; count = count }))
        (subst (λ h. Writes n (before ++ (greeting ++ mine)) (state_after Now.state mine) h (Some (record { dropping = writer.dropping; count = count }))) (sym k.kept)
        (of_row count (before ++ (greeting ++ mine)) (state_after Now.state mine) k.handle k.row g.after k.same k.knows.has.there k.knows.has.owned k.knows.pending g.has g.placed total (λ closing. absurd (not_closing k.handle.closing handle.closing k.closing_is fresh closing)))) in
        let same : k.row ≡ g.after = some_eq k.row g.after (row_of handle.writer (state_after Now.state mine).table.writers) (subst (λ id. row_of id (state_after Now.state mine).table.writers ≡ Some k.row) k.same k.knows.has.there) g.has.there in
        let total : entry_count k.row ≡ entry_count known.row + writes_told handle.writer mine = ap (λ (r : Row). entry_count r) same ∙ g.total in
        elim out.result as (λ r. out.result ≡ r → Good_so (Some writer) (Write at content) mine (ending (write_outcome at (length bytes) r) (with_writer kept out.handle))) [
          | Ok stamp ↦ λ e.
              let w = wrote_by_it n handle at bytes stamp mine out e runs in
              let one : writes_told handle.writer mine ≡ 1 = g.own ∙ t.one stamp e in (
                Some (one_more writer),
                (
                  refl,
                  refl,
                  refl,
                  record {
                    asks = any_back _ greeting mine (any_here (λ (x : Event). (x.caller ≡ n) × (x.ask ≡ unbroken (AskWrite Id at bytes)) × (x.reply ≡ RepliedWrote stamp)) mine w.first w.rest w.event w.all (w.own, w.asks ∙ ap (λ id. unbroken (AskWrite id at bytes)) known.is_writer, w.told));
                    alone = in_all mine 1 one;
                  },
                ),
                λ alive. later (writer.count + 1) (omega (arith, total, one, known.total)),
              )
          | Err why ↦ λ e.
              let none : writes_told handle.writer mine ≡ 0 = g.own ∙ t.none why e in
              (Some writer, stuck_written n (Here mine) writer at bytes why (in_all mine 0 none), λ alive. later writer.count (omega (arith, total, none, known.total)))
        ] refl

    -- ---- a sync

    sync_shows : (mine : List Event) (out : WriterOut) → handle.closing ≡ false → Both start before greeting mine → Runs n (sync_program handle) mine out → Good_so (Some writer) Sync mine (synced kept out)
    sync_shows mine out fresh b runs =
        let y = sync_ends n handle known.row Now.state mine out known.knows b.next.lawful runs in
        let s = sync_list handle (made_by n mine) out runs in
        let g = goes n handle.writer known.row Now.state mine known.knows.has b.next.lawful s.stays in
        let none : writes_told handle.writer mine ≡ 0 = g.own ∙ s.none in
        let later : Writes n (before ++ (greeting ++ mine)) (moment_after Now mine).state out.handle (Some writer) = at_end mine (before ++ (greeting ++ mine)) out.handle (Some writer)
        (subst (λ h. Writes n (before ++ (greeting ++ mine)) (state_after Now.state mine) h (Some writer)) (sym y.kept)
        (of_row writer.count (before ++ (greeting ++ mine)) (state_after Now.state mine) y.handle y.row g.after y.same y.knows.has.there y.knows.has.owned y.knows.pending g.has g.placed (y.total ∙ known.total) (λ closing. absurd (not_closing y.handle.closing handle.closing y.closing_is fresh closing)))) in
        elim out.result as (λ r. out.result ≡ r → Good_so (Some writer) Sync mine (ending (sync_outcome r) (with_writer kept out.handle))) [
          | Ok landed ↦ λ e. (
            Some writer,
            (
              (y.number landed e).0 ∙ known.total,
              synced_now writer.dropping landed mine (synced_there n landed handle known.row writer.dropping Now.state mine known.knows.has b.next.lawful known.is_writer known.room known.host (synced_by n handle landed mine out e runs)),
              (refl, in_all mine 0 none),
            ),
            λ alive. later,
          )
          | Err why ↦ λ e. (Some writer, stuck_synced (Here mine) writer why (in_all mine 0 none), λ alive. later)
        ] refl

    -- ---- a close

    ok_not_err : (landed : ℕ) (why : Stuck) (result : Result ℕ Stuck) → result ≡ Ok landed → result ≡ Err why → ⊥
    ok_not_err landed why result e f = cc

    -- so many were synced by its end, now or before
    closed_synced : (mine : List Event) (out : WriterOut) → IsLawful Now.state mine → (handle.closing ≡ false → HasSynced n handle.writer (entry_count known.row) mine out) → ((why : Stuck) → out.result ≡ Err why → ((left : WriterHandle) → out.handle ≡ Some left → left.closing ≡ true → ⊥) → ⊥) → IsSyncedIn (before ++ (greeting ++ mine)) writer.dropping writer.count
    closed_synced mine out lawful told goes_on = elim handle.closing as (λ b. handle.closing ≡ b → IsSyncedIn (before ++ (greeting ++ mine)) writer.dropping writer.count) [
      | true ↦ λ closing. synced_more writer.dropping writer.count mine (known.told closing).1
      | false ↦ λ fresh. elim (told fresh) as (λ _. IsSyncedIn (before ++ (greeting ++ mine)) writer.dropping writer.count) [
        | inl y ↦ any_back _ before (greeting ++ mine) (synced_now writer.dropping writer.count mine (subst (IsSyncedIn mine writer.dropping) known.total (synced_there n (entry_count known.row) handle known.row writer.dropping Now.state mine known.knows.has lawful known.is_writer known.room known.host y)))
        | inr (why, is_err, left) ↦ absurd (goes_on why is_err left)
      ]
    ] refl

    close_shows : (mine : List Event) (out : WriterOut) → Both start before greeting mine → Runs n (close_program handle) mine out → Good_so (Some writer) Close mine (closed kept out)
    close_shows mine out b runs =
        let c = closed_by n handle known.row Now.state mine out known.knows b.next.lawful runs in
        let x = close_ends n handle known.row Now.state mine out known.knows (λ closing. (known.told closing).0 ∙ sym known.total) b.next.lawful runs in
        elim out.result as (λ r. out.result ≡ r → Good_so (Some writer) Close mine (ending (close_outcome r) (with_writer kept out.handle))) [
          | Ok landed ↦ λ e.
              let number : landed ≡ writer.count = x.number landed e ∙ known.total in (
                None,
                (number, subst (IsSyncedIn (before ++ (greeting ++ mine)) writer.dropping) (sym number) (closed_synced mine out b.next.lawful c.synced (λ why is_err left. ok_not_err landed why out.result e is_err)), refl),
                λ alive. subst (λ h. Writes n (before ++ (greeting ++ mine)) (moment_after Now mine).state h None) (sym (c.told.gone landed e)) tt,
              )
          | Err why ↦ λ e.
              let g = goes n handle.writer known.row Now.state mine known.knows.has b.next.lawful (c.told.stays why e) in
              let none : WritesNone (Some writer) (greeting ++ mine) = in_all mine 0 (g.own ∙ c.told.none) in
              elim (c.told.leaves why e) as (λ _. Good_so (Some writer) Close mine (ending (stuck_outcome why) (with_writer kept out.handle))) [
                | inl (left, there) ↦
                    let v = x.stays left there in
                    let told : left.closing ≡ true → (left.landed ≡ writer.count) × IsSyncedIn (before ++ (greeting ++ mine)) writer.dropping writer.count = λ closing. (v.told closing ∙ known.total, closed_synced mine out b.next.lawful c.synced (λ other is_err not_asked. not_asked left there closing)) in (
                      Some writer,
                      stuck_closed (Here mine) writer why none,
                      λ alive. at_end mine (before ++ (greeting ++ mine)) out.handle (Some writer)
                          (subst (λ h. Writes n (before ++ (greeting ++ mine)) (state_after Now.state mine) h (Some writer)) (sym there)
                          (of_row writer.count (before ++ (greeting ++ mine)) (state_after Now.state mine) left v.row g.after v.same v.knows.has.there v.knows.has.owned v.knows.pending g.has g.placed (v.total ∙ known.total) told)),
                    )
                | inr (fault, gone) ↦ (
                  None,
                  subst (λ w. ShowsClosed (Here mine) writer (stuck_outcome w) None) (sym fault) (none, inr refl),
                  λ alive. subst (λ h. Writes n (before ++ (greeting ++ mine)) (moment_after Now mine).state h None) (sym gone) tt,
                )
              ]
        ] refl

  -- ---- the statements

  pub write_line : (at : ℕ) (content : Data) (handle : Option WriterHandle) (writer : Option OneWriter) (part : List Event) (ws : List (List Event)) (lines : List L) (left : CourseOf L) → kept.writer ≡ handle → WritesNone writer greeting → Writes n (before ++ greeting) Now.state handle writer → Next start before (greeting ++ part)
      → Plays n (then_told as_line next (writes kept stop at (bytes_of content) handle)) part ws lines left → Comes writer (Write at content) part ws lines left
  write_line at content None None part ws lines left is quiet known whole plays = refused_all (Write at content) part ws lines left (λ m e l. (refl, l.none)) is (refl, refl) plays
  write_line at content None (Some writer) part ws lines left is quiet known whole plays = absurd known
  write_line at content (Some handle) None part ws lines left is quiet known whole plays = absurd known
  write_line at content (Some handle) (Some writer) part ws lines left is quiet known whole plays =
      let bytes : List ℕ = bytes_of content in
      elim handle.closing as (λ b. handle.closing ≡ b → Plays n (then_told as_line next (if b then finishes (refused kept NotOpen) else writes_bytes kept stop at bytes handle)) part ws lines left → Comes (Some writer) (Write at content) part ws lines left) [
        | true ↦ λ closing at_once_so. refused_now handle writer is quiet known (Write at content) part ws lines left (λ m e l. (refl, l.none)) (tt, (refl, nothing_yet (Some writer) quiet)) at_once_so
        | false ↦ λ fresh on. elim (nat_eq (length bytes) 0) as (λ b. nat_eq (length bytes) 0 ≡ b → Plays n (then_told as_line next (if b then finishes (wrote_nothing kept at) else carried (write_program handle at bytes) stop (λ later out. finishes (wrote kept at (length bytes) out)) (finishes (stopped kept)))) part ws lines left → Comes (Some writer) (Write at content) part ws lines left) [
          | true ↦ λ e none. at_once (Some writer) (Write at content) (wrote_nothing kept at) part ws lines left (λ m x l. (refl, l.none)) (record { same = refl; none = tt })
              (Some writer, (refl, refl, no_bytes bytes (tested (length bytes) e), (refl, nothing_yet (Some writer) quiet)), still (Some handle) (Some writer) is known) none
          | false ↦ λ e some. machine_ends (Some writer) (Write at content) IsPlainOut (write_program handle at bytes) (λ out. wrote kept at (length bytes) out) part ws lines left (λ m x l. (refl, l.none)) (undamaged.write_ends n handle at bytes)
              (λ out plain. record { same = refl; none = or_shows_none _ out.result plain (λ stamp. tt) }) (λ mine out b runs. write_shows handle writer is quiet known at content mine out fresh b runs) (λ mine. (Some writer, (tt, refl), λ alive. absurd (gone_not kept alive))) whole some
        ] refl on
      ] refl plays

  pub sync_line : (handle : Option WriterHandle) (writer : Option OneWriter) (part : List Event) (ws : List (List Event)) (lines : List L) (left : CourseOf L) → kept.writer ≡ handle → WritesNone writer greeting → Writes n (before ++ greeting) Now.state handle writer → Next start before (greeting ++ part)
      → Plays n (then_told as_line next (syncs kept stop handle)) part ws lines left → Comes writer Sync part ws lines left
  sync_line None None part ws lines left is quiet known whole plays = refused_all Sync part ws lines left (λ m e l. (refl, l.none)) is (refl, refl) plays
  sync_line None (Some writer) part ws lines left is quiet known whole plays = absurd known
  sync_line (Some handle) None part ws lines left is quiet known whole plays = absurd known
  sync_line (Some handle) (Some writer) part ws lines left is quiet known whole plays =
      elim handle.closing as (λ b. handle.closing ≡ b → Plays n (then_told as_line next (if b then finishes (refused kept NotOpen) else carried (sync_program handle) stop (λ later out. finishes (synced kept out)) (finishes (stopped kept)))) part ws lines left → Comes (Some writer) Sync part ws lines left) [
        | true ↦ λ closing at_once_so. refused_now handle writer is quiet known Sync part ws lines left (λ m e l. (refl, l.none)) (tt, (refl, nothing_yet (Some writer) quiet)) at_once_so
        | false ↦ λ fresh on. machine_ends (Some writer) Sync IsPlainOut (sync_program handle) (λ out. synced kept out) part ws lines left (λ m x l. (refl, l.none)) (undamaged.sync_ends n handle)
            (λ out plain. record { same = refl; none = or_shows_none _ out.result plain (λ landed. tt) }) (λ mine out b runs. sync_shows handle writer is quiet known mine out fresh b runs) (λ mine. (Some writer, (tt, refl), λ alive. absurd (gone_not kept alive))) whole on
      ] refl plays

  pub close_line : (handle : Option WriterHandle) (writer : Option OneWriter) (part : List Event) (ws : List (List Event)) (lines : List L) (left : CourseOf L) → kept.writer ≡ handle → WritesNone writer greeting → Writes n (before ++ greeting) Now.state handle writer → Next start before (greeting ++ part)
      → Plays n (then_told as_line next (closes kept stop handle)) part ws lines left → Comes writer Close part ws lines left
  close_line None None part ws lines left is quiet known whole plays = refused_all Close part ws lines left (λ m e l. (refl, l.none)) is (refl, refl) plays
  close_line None (Some writer) part ws lines left is quiet known whole plays = absurd known
  close_line (Some handle) None part ws lines left is quiet known whole plays = absurd known
  close_line (Some handle) (Some writer) part ws lines left is quiet known whole plays =
      machine_ends (Some writer) Close IsPlainOut (close_program handle) (λ out. closed kept out) part ws lines left (λ m x l. (refl, l.none)) (undamaged.close_ends n handle)
      (λ out plain. record { same = refl; none = or_shows_none _ out.result plain (λ landed. tt) }) (λ mine out b runs. close_shows handle writer is quiet known mine out b runs) (λ mine. (Some writer, (tt, refl), λ alive. absurd (gone_not kept alive))) whole plays
