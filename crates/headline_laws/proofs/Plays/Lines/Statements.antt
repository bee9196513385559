-- What each statement of an actor shows of the file that it has open.
use Rattle.std.proofs.Common.{◌≡◌, ◌≤◌, ℕ, Bool, inl, inr, true, false, List, [], ◌∷◌, ◌++◌, Option, Some, None, refl, sym, ap, ◌∙◌, subst, append_assoc}
use Rattle.std.specs.Prelude.{if◌then◌else◌}
use Rattle.std.specs.List.{All}
use Rattle.std.proofs.lemmas.List.Elements.{All-cons, All-nil}
use Rattle.mount_model.specs.Process.{asks, ends}
use Rattle.mount_model.specs.Plays.{Plays}
use Rattle.mount_model.specs.declared.call.Ask.{Ask}
use Rattle.mount_model.specs.declared.call.Call.TheVariants.{Greet}
use Rattle.mount_model.specs.History.{Event, state_after}
use Rattle.mount_model.proofs.Facts.{IsOnNoWriter}
use Rattle.mount_sound.specs.Owed.{IsLawful}
use Rattle.writer_laws.specs.Waiting.{LeavesAlone, LetsBe}
use Rattle.mount_model.specs.Running.{unbroken}
use Rattle.script_lang.specs.declared.line.Outcome.{Outcome}
use Rattle.script_lang.specs.declared.line.Outcome.TheVariants.{Gone, Stopped}
use Rattle.script_lang.specs.declared.line.Why.TheVariants.{AlreadyOpen}
use Rattle.script_lang.specs.declared.script.Statement.{Statement}
use Rattle.script_lang.specs.declared.script.Statement.TheVariants.{Open, Write, Sync, Close, Ropen, Read, Verify, Map, Refresh, Rclose, Stat, Flatten, Recover, Trunc, Rename, Ls, Stop as Arms}
use Rattle.script_lang.specs.Ranges.{FitsStatement}
use Rattle.index_reader.specs.declared.opened.OpenReader.{OpenReader}
use Rattle.reader_laws.specs.Moments.{Moment, IsSoundAt, moment_after}
use Rattle.reader_laws.specs.Seen.{Asked, asked_in, calls_of}
use Rattle.reader_laws.proofs.Gathered.Facts.{follows, its_call, legal_first, moment-append}
use Rattle.reader_laws.proofs.Facts.{calls_append}
use Rattle.actor_core.specs.Names.{names_program}
use Rattle.actor_core.specs.declared.kept.Kept.{Kept}
use Rattle.actor_core.specs.declared.kept.Stop.{Stop}
use Rattle.actor_core.specs.Endings.{Ending, armed, gone, refused}
use Rattle.actor_core.specs.Readers.{opens_reader}
use Rattle.actor_core.specs.Statements.{does, disarmed, greeted, greeted_work, work_of}
use Rattle.actor_core.specs.Work.{finishes}
use Rattle.headline_laws.specs.OneFile.{OneFile}
use Rattle.headline_laws.specs.Opening.{Stretch}
use Rattle.headline_laws.specs.Showing.{Shows, ShowsFlattening, ShowsLook, ShowsRecovery, ShowsRename, ShowsTruncate}
use Rattle.headline_laws.specs.OneWriter.{OneWriter, WritesNone}
use Rattle.headline_laws.specs.Writing.{ShowsNoWriting, ShowsWriting, StaysOpen}
use Rattle.headline_laws.proofs.Plays.Callers.Carrying.{CourseOf, EndsSo, ended, ends_later, then_told}
use Rattle.headline_laws.proofs.Plays.Callers.Coming.{all_of_first, by_itself, came_good, came_lets, came_to, end_alone, lets_both, lets_first, lets_none, lets_one, nothing_more, with_others}
use Rattle.headline_laws.proofs.Plays.Writers.OneWriters.{KeepsWriter, Writes, none_both, writes_later}
use Rattle.headline_laws.proofs.Plays.Writers.Spared.{LeavesWriter, SparesWriter, closes_spare, flattens_spare, lists_spare, looks_spare, maps_spare, opens_spare, quietly, reads_spare, recovers_spare, refreshes_spare, renames_spare, truncates_spare, verifies_spare}
use Rattle.headline_laws.proofs.Plays.Writers.WriterLines.{GoodBoth, close_line, open_line, sync_line, write_line}
use Rattle.headline_laws.proofs.Plays.Readers.Opened.{Good, Keeps, keeps_later, no_calls}
use Rattle.headline_laws.proofs.Plays.Readers.Openings.{opening_ends}
use Rattle.headline_laws.proofs.Plays.Writers.Others.{Leaves, LeavesReader, at_once, named_leaves, names_end}
use Rattle.headline_laws.proofs.Plays.Readers.ReadLines.{read_ends, verify_ends, map_ends, close_ends}
use Rattle.headline_laws.proofs.Plays.Readers.Refreshed.{refresh_ends}
use Rattle.headline_laws.proofs.Plays.Readers.Told.{look_ends}
use Rattle.headline_laws.proofs.Plays.Lines.Changed.{flattening_ends, recovery_ends, renaming_ends, trunc_ends}
use Rattle.headline_laws.proofs.Plays.Callers.Standing.{AllOf, Both, Next, all_of_later, next_is, up_to}

module _ (start : Moment) (sound : IsSoundAt start) (n : ℕ) (before greeting : List Event) (greets : All (λ (a : Asked). a.ask.call ≡ Greet) (calls_of n greeting)) {L : Type 0} (as_line : Ending → L) (next : Kept → CourseOf L) where
  abbrev Now : Moment
  Now = moment_after start (before ++ greeting)

  abbrev Ends : Option OneFile → Statement → List Event → List (List Event) → List L → CourseOf L → Type 0
  Ends old statement part ws lines left = EndsSo n as_line next part ws lines left (Good start n before greeting old statement)

  -- the line says nothing of a file, and none is opened or closed
  abbrev IsOther : Statement → Type 0
  IsOther statement = (mine : List Event) (old : Option OneFile) (ending : Ending) → LeavesReader ending.kept.reader ending → Shows start n (record { before = before; events = greeting ++ mine }) old statement ending.outcome old

  others_end : (kept : Kept) (stop : Option Stop) (statement : Statement) (old : Option OneFile) (part : List Event) (ws : List (List Event)) (lines : List L) (left : CourseOf L) → IsOther statement → Leaves start n before greeting as_line next kept stop (does kept stop statement) → Keeps Now kept.reader old → Next start before (greeting ++ part)
      → Plays n (then_told as_line next (does kept stop statement)) part ws lines left → Ends old statement part ws lines left
  others_end kept stop statement old part ws lines left other leaves keeps whole plays =
      let e = leaves part ws lines left whole plays in
      let b : Both start before greeting e.mine = up_to start before greeting part e.mine e.rest whole e.all in
      record {
        mine = e.mine;
        rest = e.rest;
        spent = e.spent;
        others = e.others;
        ending = e.ending;
        more = e.more;
        all = e.all;
        are = e.are;
        told = e.told;
        goes_on = e.goes_on;
        good = (old, other e.mine old e.ending (record { same = refl; none = e.good.none }), subst (λ r. Keeps (moment_after Now e.mine) r old) (sym e.good.same) (keeps_later Now kept.reader old e.mine b.next.lawful keeps));
      }

  -- a reader is opened, or the actor has one
  ropen_ends : (kept : Kept) (stop : Option Stop) (name : List ℕ) (workers : ℕ) (r : Option OpenReader) (old : Option OneFile) (part : List Event) (ws : List (List Event)) (lines : List L) (left : CourseOf L) → 1 ≤ workers → kept.reader ≡ r → Keeps Now r old → Next start before (greeting ++ part) → AllOf (before ++ greeting) part ws
      → Plays n (then_told as_line next (opens_reader kept stop name workers r)) part ws lines left → Ends old (Ropen name workers) part ws lines left
  ropen_ends kept stop name workers None None part ws lines left some is keeps whole all plays = opening_ends start sound n before greeting greets name workers some as_line next kept is stop part ws lines left whole all plays
  ropen_ends kept stop name workers None (Some file) part ws lines left some is keeps whole all plays = absurd keeps
  ropen_ends kept stop name workers (Some reader) None part ws lines left some is keeps whole all plays = absurd keeps
  ropen_ends kept stop name workers (Some reader) (Some file) part ws lines left some is keeps whole all plays =
      ended n as_line next (refused kept AlreadyOpen) ends part ws lines left (Good start n before greeting (Some file) (Ropen name workers)) plays (Some file, (refl, refl), subst (λ x. Keeps Now x (Some file)) (sym is) keeps)

  -- the line shows so much of what was called, and no file is opened or closed
  told_end : (kept : Kept) (statement : Statement) (old : Option OneFile) (shows : List Event → Outcome → Type 0) (part : List Event) (ws : List (List Event)) (lines : List L) (left : CourseOf L)
      → ((mine : List Event) (outcome : Outcome) → shows mine outcome → Shows start n (record { before = before; events = greeting ++ mine }) old statement outcome old) → Keeps Now kept.reader old → Next start before (greeting ++ part)
      → EndsSo n as_line next part ws lines left (λ mine e. (e.kept.reader ≡ kept.reader) × shows mine e.outcome) → Ends old statement part ws lines left
  told_end kept statement old shows part ws lines left is keeps whole e =
      let b : Both start before greeting e.mine = up_to start before greeting part e.mine e.rest whole e.all in
      record {
        mine = e.mine;
        rest = e.rest;
        spent = e.spent;
        others = e.others;
        ending = e.ending;
        more = e.more;
        all = e.all;
        are = e.are;
        told = e.told;
        goes_on = e.goes_on;
        good = (old, is e.mine e.ending.outcome e.good.1, subst (λ r. Keeps (moment_after Now e.mine) r old) (sym e.good.0) (keeps_later Now kept.reader old e.mine b.next.lawful keeps));
      }

-- ---- an actor that was stopped before

gone_shows : (start : Moment) (n : ℕ) (statement : Statement) (old : Option OneFile) (stretch : Stretch) → Shows start n stretch old statement Gone old
gone_shows start n (Ropen name workers) None stretch = (refl, tt)
gone_shows start n (Ropen name workers) (Some file) stretch = (refl, tt)
gone_shows start n (Read at len) None stretch = (refl, tt)
gone_shows start n (Read at len) (Some file) stretch = (refl, tt)
gone_shows start n (Verify at content) None stretch = (refl, tt)
gone_shows start n (Verify at content) (Some file) stretch = (refl, tt)
gone_shows start n Map None stretch = (refl, tt)
gone_shows start n Map (Some file) stretch = (refl, refl)
gone_shows start n Refresh None stretch = (refl, tt)
gone_shows start n Refresh (Some file) stretch = (refl, tt)
gone_shows start n Rclose None stretch = (refl, tt)
gone_shows start n Rclose (Some file) stretch = (refl, refl)
gone_shows start n (Open name) old stretch = (refl, tt)
gone_shows start n (Write at content) old stretch = (refl, tt)
gone_shows start n Sync old stretch = (refl, tt)
gone_shows start n Close old stretch = (refl, tt)
gone_shows start n (Stat name) old stretch = (refl, tt)
gone_shows start n (Flatten name) old stretch = (refl, tt)
gone_shows start n (Recover name) old stretch = (refl, tt)
gone_shows start n (Trunc name size) old stretch = (refl, tt)
gone_shows start n (Rename name to) old stretch = (refl, tt)
gone_shows start n Ls old stretch = (refl, tt)
gone_shows start n (Arms call bytes) old stretch = (refl, tt)

gone_writing : (start : Moment) (n : ℕ) (statement : Statement) (writer : Option OneWriter) (stretch : Stretch) → ShowsWriting start n stretch writer statement Gone writer
gone_writing start n (Open name) None stretch = (tt, refl)
gone_writing start n (Open name) (Some writer) stretch = (tt, refl)
gone_writing start n (Write at content) None stretch = (refl, tt)
gone_writing start n (Write at content) (Some writer) stretch = (tt, refl)
gone_writing start n Sync None stretch = (refl, tt)
gone_writing start n Sync (Some writer) stretch = (tt, refl)
gone_writing start n Close None stretch = (refl, tt)
gone_writing start n Close (Some writer) stretch = (tt, refl)
gone_writing start n (Ropen name workers) writer stretch = (tt, refl)
gone_writing start n (Read at len) writer stretch = (tt, refl)
gone_writing start n (Verify at content) writer stretch = (tt, refl)
gone_writing start n Map writer stretch = (tt, refl)
gone_writing start n Refresh writer stretch = (tt, refl)
gone_writing start n Rclose writer stretch = (tt, refl)
gone_writing start n (Stat name) writer stretch = (tt, refl)
gone_writing start n (Flatten name) writer stretch = (tt, refl)
gone_writing start n (Recover name) writer stretch = (tt, refl)
gone_writing start n (Trunc name size) writer stretch = (tt, refl)
gone_writing start n (Rename name to) writer stretch = (tt, refl)
gone_writing start n Ls writer stretch = (tt, refl)
gone_writing start n (Arms call bytes) writer stretch = (tt, refl)

-- ---- what each statement shows

stays_open : (events : List Event) (writer : Option OneWriter) (outcome : Outcome) → WritesNone writer events → StaysOpen events writer outcome writer
stays_open events writer Stopped none = refl
stays_open events writer Gone none = refl
stays_open events writer outcome none = (refl, none)

true_not_false : (b : Bool) → b ≡ true → b ≡ false → ⊥
true_not_false b e f = cc

module _ (start : Moment) (sound : IsSoundAt start) (n : ℕ) (before greeting : List Event) (greets : All (λ (a : Asked). a.ask.call ≡ Greet) (calls_of n greeting)) {L : Type 0} (as_line : Ending → L) (next : Kept → CourseOf L) where
  abbrev There : Moment
  There = moment_after start (before ++ greeting)

  abbrev Comes : Option OneFile → Option OneWriter → Statement → List Event → List (List Event) → List L → CourseOf L → Type 0
  Comes old writer statement part ws lines left = EndsSo n as_line next part ws lines left (GoodBoth start n before greeting old writer statement)

  -- how a statement by itself shows a file
  abbrev ShowsFile : Kept → Option Stop → Option OneFile → Statement → Type 0
  ShowsFile kept stop old statement = (mine : List Event) (spent : List (List Event)) (told : List Ending) (left : CourseOf Ending) → Next start before (greeting ++ mine) → AllOf (before ++ greeting) mine spent
      → Plays n (then_told end_alone nothing_more (does kept stop statement)) mine spent told left → EndsSo n end_alone nothing_more mine spent told left (Good start n before greeting old statement)

  -- it is on no writer
  spared_end : (kept : Kept) (stop : Option Stop) (statement : Statement) (old : Option OneFile) (writer : Option OneWriter) (part : List Event) (ws : List (List Event)) (lines : List L) (left : CourseOf L) → SparesWriter kept (does kept stop statement)
      → ((mine : List Event) (outcome : Outcome) → ShowsNoWriting (greeting ++ mine) writer outcome writer → ShowsWriting start n (record { before = before; events = greeting ++ mine }) writer statement outcome writer) → ShowsFile kept stop old statement
      → WritesNone writer greeting → Writes n (before ++ greeting) There.state kept.writer writer → Next start before (greeting ++ part) → AllOf (before ++ greeting) part ws → Plays n (then_told as_line next (does kept stop statement)) part ws lines left → Comes old writer statement part ws lines left
  spared_end kept stop statement old writer part ws lines left spares other shows quiet known whole all plays =
      let work = does kept stop statement in
      let c = came_to n as_line next IsOnNoWriter (LeavesWriter kept.writer) work part ws lines left spares plays in
      let b : Both start before greeting c.mine = up_to start before greeting part c.mine c.rest whole c.all in
      let good : LeavesWriter kept.writer c.ending = came_good n IsOnNoWriter (LeavesWriter kept.writer) work c.mine c.spent c.ending spares c.comes in
      let later : (mine rest : List Event) → c.mine ≡ mine ++ rest → c.ending.kept.gone ≡ false → Writes n ((before ++ greeting) ++ mine) (state_after There.state mine) kept.writer writer × WritesNone writer mine = λ mine rest split alive.
      writes_later n (before ++ greeting) There.state kept.writer writer mine (legal_first There mine rest (subst (IsLawful There.state) split b.next.lawful)) (λ id. lets_first n id c.mine mine rest split (came_lets n id (LeavesWriter kept.writer) work c.mine c.spent c.ending spares c.comes alive)) known in
      with_others n as_line next work part ws lines left (Good start n before greeting old statement) (GoodBoth start n before greeting old writer statement) c
      (λ mine rest ending split same shown. (
        subst (Good start n before greeting old statement mine) same shown,
        (
          writer,
          other mine c.ending.outcome (
            good.1,
            elim good.2 as (λ _. StaysOpen (greeting ++ mine) writer c.ending.outcome writer) [
              | inl alive ↦ stays_open (greeting ++ mine) writer c.ending.outcome (none_both writer greeting mine quiet (later mine rest split alive).1)
              | inr stopped_so ↦ subst (λ o. StaysOpen (greeting ++ mine) writer o writer) (sym stopped_so) refl
            ],
          ),
          λ alive. subst (λ es. Writes n es (moment_after There mine).state c.ending.kept.writer writer) (append_assoc before greeting mine)
              (subst (λ st. Writes n ((before ++ greeting) ++ mine) st c.ending.kept.writer writer) (sym (follows There mine).0)
              (subst (λ h. Writes n ((before ++ greeting) ++ mine) (state_after There.state mine) h writer) (sym good.0) (later mine rest split alive).0)),
        ),
      ))
      (shows c.mine c.spent (c.ending ∷ []) ends b.whole (all_of_first (before ++ greeting) part c.mine c.rest ws c.spent c.others c.all c.are all) (by_itself n work c.mine c.spent c.ending c.comes))

  does_end : (kept : Kept) (stop : Option Stop) (statement : Statement) (old : Option OneFile) (writer : Option OneWriter) (part : List Event) (ws : List (List Event)) (lines : List L) (left : CourseOf L) → kept.gone ≡ false → FitsStatement statement → Keeps There kept.reader old → WritesNone writer greeting → Writes n (before ++ greeting) There.state kept.writer writer
      → Next start before (greeting ++ part) → AllOf (before ++ greeting) part ws → Plays n (then_told as_line next (does kept stop statement)) part ws lines left → Comes old writer statement part ws lines left
  does_end kept stop (Open name) old writer part ws lines left alive fits keeps quiet known whole all plays = open_line start n before greeting as_line next kept stop old keeps name kept.writer writer part ws lines left refl quiet known whole plays
  does_end kept stop (Write at content) old writer part ws lines left alive fits keeps quiet known whole all plays = write_line start n before greeting as_line next kept stop old keeps at content kept.writer writer part ws lines left refl quiet known whole plays
  does_end kept stop Sync old writer part ws lines left alive fits keeps quiet known whole all plays = sync_line start n before greeting as_line next kept stop old keeps kept.writer writer part ws lines left refl quiet known whole plays
  does_end kept stop Close old writer part ws lines left alive fits keeps quiet known whole all plays = close_line start n before greeting as_line next kept stop old keeps kept.writer writer part ws lines left refl quiet known whole plays
  does_end kept stop (Ropen name workers) old writer part ws lines left alive fits keeps quiet known whole all plays = spared_end kept stop (Ropen name workers) old writer part ws lines left (quietly kept (does kept stop (Ropen name workers)) (opens_spare kept alive stop name workers kept.reader)) (λ mine outcome shown. shown) (λ mine spent told end at_it these on. ropen_ends start sound n before greeting greets end_alone nothing_more kept stop name workers kept.reader old mine spent told end fits.0 refl keeps at_it these on) quiet known whole all plays
  does_end kept stop (Read at len) old writer part ws lines left alive fits keeps quiet known whole all plays = spared_end kept stop (Read at len) old writer part ws lines left (quietly kept (does kept stop (Read at len)) (reads_spare kept alive stop at len kept.reader)) (λ mine outcome shown. shown) (λ mine spent told end at_it these on. read_ends start n before greeting end_alone nothing_more kept stop at len kept.reader old mine spent told end refl keeps at_it on) quiet known whole all plays
  does_end kept stop (Verify at content) old writer part ws lines left alive fits keeps quiet known whole all plays = spared_end kept stop (Verify at content) old writer part ws lines left (quietly kept (does kept stop (Verify at content)) (verifies_spare kept alive stop at content kept.reader)) (λ mine outcome shown. shown) (λ mine spent told end at_it these on. verify_ends start n before greeting end_alone nothing_more kept stop at content kept.reader old mine spent told end refl keeps at_it on) quiet known whole all plays
  does_end kept stop Map old writer part ws lines left alive fits keeps quiet known whole all plays = spared_end kept stop Map old writer part ws lines left (quietly kept (does kept stop Map) (maps_spare kept alive kept.reader)) (λ mine outcome shown. shown) (λ mine spent told end at_it these on. map_ends start n before greeting end_alone nothing_more kept stop kept.reader old mine spent told end refl keeps on) quiet known whole all plays
  does_end kept stop Refresh old writer part ws lines left alive fits keeps quiet known whole all plays = spared_end kept stop Refresh old writer part ws lines left (quietly kept (does kept stop Refresh) (refreshes_spare kept alive stop kept.reader)) (λ mine outcome shown. shown) (λ mine spent told end at_it these on. refresh_ends start sound n before greeting greets end_alone nothing_more kept stop kept.reader old mine spent told end refl keeps at_it on) quiet known whole all plays
  does_end kept stop Rclose old writer part ws lines left alive fits keeps quiet known whole all plays = spared_end kept stop Rclose old writer part ws lines left (quietly kept (does kept stop Rclose) (closes_spare kept alive kept.reader)) (λ mine outcome shown. shown) (λ mine spent told end at_it these on. close_ends start n before greeting end_alone nothing_more kept stop kept.reader old mine spent told end refl keeps on) quiet known whole all plays
  does_end kept stop (Stat name) old writer part ws lines left alive fits keeps quiet known whole all plays = spared_end kept stop (Stat name) old writer part ws lines left (quietly kept (does kept stop (Stat name)) (looks_spare kept alive stop name)) (λ mine outcome shown. shown) (λ mine spent told end at_it these on. told_end start sound n before greeting greets end_alone nothing_more kept (Stat name) old (λ events outcome. ShowsLook start n (record { before = before; events = greeting ++ events }) name outcome) mine spent told end (λ m o shown. (refl, shown)) keeps at_it (look_ends start sound n before greeting greets name end_alone nothing_more kept stop mine spent told end at_it on)) quiet known whole all plays
  does_end kept stop (Flatten name) old writer part ws lines left alive fits keeps quiet known whole all plays = spared_end kept stop (Flatten name) old writer part ws lines left (quietly kept (does kept stop (Flatten name)) (flattens_spare kept alive stop name)) (λ mine outcome shown. shown) (λ mine spent told end at_it these on. told_end start sound n before greeting greets end_alone nothing_more kept (Flatten name) old (λ events outcome. ShowsFlattening start n (record { before = before; events = greeting ++ events }) name outcome) mine spent told end (λ m o shown. (refl, shown)) keeps at_it (flattening_ends start n before greeting end_alone nothing_more kept stop sound greets name mine spent told end at_it on)) quiet known whole all plays
  does_end kept stop (Recover name) old writer part ws lines left alive fits keeps quiet known whole all plays = spared_end kept stop (Recover name) old writer part ws lines left (quietly kept (does kept stop (Recover name)) (recovers_spare kept alive stop name)) (λ mine outcome shown. shown) (λ mine spent told end at_it these on. told_end start sound n before greeting greets end_alone nothing_more kept (Recover name) old (λ events outcome. ShowsRecovery start n (record { before = before; events = greeting ++ events }) name outcome) mine spent told end (λ m o shown. (refl, shown)) keeps at_it (recovery_ends start n before greeting end_alone nothing_more kept stop name mine spent told end at_it on)) quiet known whole all plays
  does_end kept stop (Trunc name size) old writer part ws lines left alive fits keeps quiet known whole all plays = spared_end kept stop (Trunc name size) old writer part ws lines left (truncates_spare kept alive stop name size) (λ mine outcome shown. shown) (λ mine spent told end at_it these on. told_end start sound n before greeting greets end_alone nothing_more kept (Trunc name size) old (λ events outcome. ShowsTruncate start n (record { before = before; events = greeting ++ events }) name size outcome) mine spent told end (λ m o shown. (refl, shown)) keeps at_it (trunc_ends start n before greeting end_alone nothing_more kept stop name size mine spent told end at_it on)) quiet known whole all plays
  does_end kept stop (Rename name to) old writer part ws lines left alive fits keeps quiet known whole all plays = spared_end kept stop (Rename name to) old writer part ws lines left (renames_spare kept alive stop name to) (λ mine outcome shown. shown) (λ mine spent told end at_it these on. told_end start sound n before greeting greets end_alone nothing_more kept (Rename name to) old (λ events outcome. ShowsRename start n (record { before = before; events = greeting ++ events }) name to outcome) mine spent told end (λ m o shown. (refl, shown)) keeps at_it (renaming_ends start n before greeting end_alone nothing_more kept stop name to mine spent told end at_it on)) quiet known whole all plays
  does_end kept stop Ls old writer part ws lines left alive fits keeps quiet known whole all plays = spared_end kept stop Ls old writer part ws lines left (quietly kept (does kept stop Ls) (lists_spare kept alive stop)) (λ mine outcome shown. shown) (λ mine spent told end at_it these on. others_end start sound n before greeting greets end_alone nothing_more kept stop Ls old mine spent told end (λ m o e l. (refl, l.none)) (named_leaves start n before greeting end_alone nothing_more kept stop names_program _ (names_end n) (λ r. tt)) keeps at_it on) quiet known whole all plays
  does_end kept stop (Arms call bytes) old writer part ws lines left alive fits keeps quiet known whole all plays = spared_end kept stop (Arms call bytes) old writer part ws lines left ((refl, tt, inl alive)) (λ mine outcome shown. shown) (λ mine spent told end at_it these on. others_end start sound n before greeting greets end_alone nothing_more kept stop (Arms call bytes) old mine spent told end (λ m o e l. (refl, l.none)) (at_once start n before greeting end_alone nothing_more kept stop (armed kept (record { call = call; bytes = bytes })) (record { same = refl; none = tt })) keeps at_it on) quiet known whole all plays

  pub greeted_end : (kept : Kept) (statement : Statement) (old : Option OneFile) (writer : Option OneWriter) (part : List Event) (ws : List (List Event)) (lines : List L) (left : CourseOf L) → FitsStatement statement → Keeps There kept.reader old → (kept.gone ≡ false → WritesNone writer greeting) → KeepsWriter n (before ++ greeting) There.state kept writer
      → Next start before (greeting ++ part) → AllOf (before ++ greeting) part ws → Plays n (then_told as_line next (greeted_work kept statement)) part ws lines left → Comes old writer statement part ws lines left
  greeted_end kept statement old writer part ws lines left fits keeps quiet known whole all plays =
      elim kept.gone as (λ b. kept.gone ≡ b → Plays n (then_told as_line next (if b then finishes (gone kept) else does (disarmed kept) kept.armed statement)) part ws lines left → Comes old writer statement part ws lines left) [
        | true ↦ λ is at_end. ended n as_line next (gone kept) ends part ws lines left (GoodBoth start n before greeting old writer statement) at_end
            ((old, gone_shows start n statement old (record { before = before; events = greeting ++ [] }), keeps), (writer, gone_writing start n statement writer (record { before = before; events = greeting ++ [] }), λ alive. absurd (true_not_false kept.gone is alive)))
        | false ↦ λ alive on. does_end (disarmed kept) kept.armed statement old writer part ws lines left alive fits keeps (quiet alive) (known alive) whole all on
      ] refl plays

-- ---- a statement, with the greeting before the first

-- what is owed of it where it stands
pub record Showed (start : Moment) (n : ℕ) (before : List Event) (old : Option OneFile) (writer : Option OneWriter) (statement : Statement) (mine : List Event) (ending : Ending) : Type 0 where
  pub new : Option OneFile
  pub shows : Shows start n (record { before = before; events = mine }) old statement ending.outcome new
  pub keeps : Keeps (moment_after start (before ++ mine)) ending.kept.reader new
  pub new_writer : Option OneWriter
  pub writes : ShowsWriting start n (record { before = before; events = mine }) writer statement ending.outcome new_writer
  pub keeps_writer : KeepsWriter n (before ++ mine) (moment_after start (before ++ mine)).state ending.kept new_writer

module _ (start : Moment) (sound : IsSoundAt start) (n : ℕ) {L : Type 0} (as_line : Ending → L) (next : Kept → CourseOf L) (before : List Event) where
  -- behind a greeting, or none
  behind_greeting : (greeting part following : List Event) (kept : Kept) (statement : Statement) (old : Option OneFile) (writer : Option OneWriter) (ws : List (List Event)) (lines : List L) (left : CourseOf L) → All (λ (a : Asked). a.ask.call ≡ Greet) (calls_of n greeting) → ((id : ℕ) → LetsBe n id greeting) → part ≡ greeting ++ following → FitsStatement statement
      → Keeps (moment_after start before) kept.reader old → KeepsWriter n before (moment_after start before).state kept writer → Next start before part → AllOf before part ws → Plays n (then_told as_line next (greeted_work kept statement)) following ws lines left → EndsSo n as_line next part ws lines left (Showed start n before old writer statement)
  behind_greeting greeting part following kept statement old writer ws lines left greets lets split fits keeps known whole all plays =
      let there : Moment = moment_after start (before ++ greeting) in
      let first : Moment = moment_after start before in
      let w : Next start before (greeting ++ following) = next_is start before part (greeting ++ following) split whole in
      let at : there ≡ moment_after first greeting = moment-append start before greeting in
      let lawful : IsLawful first.state greeting = legal_first first greeting following w.lawful in
      let here : Keeps there kept.reader old = subst (λ m. Keeps m kept.reader old) (sym at) (keeps_later first kept.reader old greeting lawful keeps) in
      let later : kept.gone ≡ false → Writes n (before ++ greeting) (state_after first.state greeting) kept.writer writer × WritesNone writer greeting = λ alive. writes_later n before first.state kept.writer writer greeting lawful lets (known alive) in
      let states : state_after first.state greeting ≡ there.state = sym (follows first greeting).0 ∙ ap (λ (m : Moment). m.state) (sym at) in
      ends_later n as_line next part greeting following ws lines left (GoodBoth start n before greeting old writer statement) (Showed start n before old writer statement) split
      (λ mine rest ending is good. (let whole_at = sym (moment-append start (before ++ greeting) mine) ∙ ap (moment_after start) (append_assoc before greeting mine) in record {
        new = good.0.0;
        shows = good.0.1;
        keeps = subst (λ m. Keeps m ending.kept.reader good.0.0) whole_at good.0.2;
        new_writer = good.1.0;
        writes = good.1.1;
        keeps_writer = λ alive. subst (λ (m : Moment). Writes n (before ++ (greeting ++ mine)) m.state ending.kept.writer good.1.0) whole_at (good.1.2 alive);
      }))
      (greeted_end start sound n before greeting greets as_line next kept statement old writer following ws lines left fits here (λ alive. (later alive).1) (λ alive. subst (λ st. Writes n (before ++ greeting) st kept.writer writer) states (later alive).0) w (all_of_later before part greeting following ws [] ws split refl all) plays)

  pub statement_ends : (kept : Kept) (statement : Statement) (old : Option OneFile) (writer : Option OneWriter) (part : List Event) (ws : List (List Event)) (lines : List L) (left : CourseOf L) → FitsStatement statement → Keeps (moment_after start before) kept.reader old → KeepsWriter n before (moment_after start before).state kept writer → Next start before part → AllOf before part ws
      → Plays n (then_told as_line next (work_of kept statement)) part ws lines left → EndsSo n as_line next part ws lines left (Showed start n before old writer statement)
  statement_ends kept statement old writer part ws lines left fits keeps known whole all plays =
      elim kept.greeted as (λ b. Plays n (then_told as_line next (if b then greeted_work kept statement else asks (unbroken Greet) (λ reply. greeted_work (greeted kept) statement))) part ws lines left → EndsSo n as_line next part ws lines left (Showed start n before old writer statement)) [
        | true ↦ λ on. behind_greeting [] part part kept statement old writer ws lines left (All-nil (λ (a : Asked). a.ask.call ≡ Greet)) (λ id. lets_none n id [] refl) refl fits keeps known whole all on
        | false ↦ λ m.
            let greeting : List Event = m.before ++ m.call ∷ [] in
            let one : calls_of n greeting ≡ asked_in m.call ∷ [] = calls_append n m.before (m.call ∷ []) ∙ ap (λ z. z ++ calls_of n (m.call ∷ [])) (no_calls n m.before m.none_before) ∙ its_call n m.call [] m.own in
            behind_greeting greeting part m.after (greeted kept) statement old writer ws lines left
            (subst (λ calls. All (λ (a : Asked). a.ask.call ≡ Greet) calls) (sym one) (All-cons (λ (a : Asked). a.ask.call ≡ Greet) (asked_in m.call) [] (ap (λ (q : Ask). q.call) m.asked) (All-nil (λ (a : Asked). a.ask.call ≡ Greet))))
            (λ id. lets_both n id m.before (m.call ∷ []) (lets_none n id m.before m.none_before) (lets_one n id m.call (subst (LeavesAlone id) (sym m.asked) (refl, λ on. on))))
            (m.all ∙ sym (append_assoc m.before (m.call ∷ []) m.after)) fits keeps known whole all m.goes_on
      ] plays
