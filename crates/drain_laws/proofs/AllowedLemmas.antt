-- A caller may make each call of a drain, whatever lawful calls others make before it and whatever the target tells.
use Rattle.std.proofs.Common.{◌≡◌, ℕ, zero, suc, ◌+◌, ◌≤◌, ◌<◌, nat_le, Bool, true, false, List, [], ◌∷◌, ◌++◌, drop, length, Option, Some, None, refl, ap, sym, ◌∙◌, inl, inr, subst, arith}
use Rattle.std.specs.Prelude.{Result, Ok, Err, slice_get}
use Rattle.std.specs.List.{AllByRecursion}
use Rattle.std.proofs.lemmas.Bool.{cases_Bool, cond-true, cond-false}
use Rattle.std.proofs.lemmas.Bool.Decides.{nat_tests}
use Rattle.std.proofs.lemmas.List.Elements.{recursion_from_All}
use Rattle.plain_file.proofs.Facts.{Among, All-Among}
use Rattle.plfs_types.specs.declared.entries.Cover.{Cover}
use Rattle.plfs_types.specs.declared.entries.Entry.{Entry}
use Rattle.plfs_types.specs.declared.entries.Trunc.{Trunc}
use Rattle.container_layout.specs.declared.items.Item.{Item}
use Rattle.container_layout.specs.declared.items.Item.TheVariants.{Index, Log}
use Rattle.container_layout.specs.Paths.{path_of}
use Rattle.index_entry.specs.Spelling.{entry_in}
use Rattle.index_entry.specs.Within.{within_log}
use Rattle.interval_merge.specs.Writer.{HasPiece}
use Rattle.store_api.specs.declared.tree.Room.{Room}
use Rattle.store_api.specs.declared.tree.Tree.{Tree}
use Rattle.turn_object.specs.Callers.{made_by}
use Rattle.mount_model.specs.declared.call.Call.{Call}
use Rattle.mount_model.specs.declared.call.Call.TheVariants.{Find, Look, SyncDropping}
use Rattle.mount_model.specs.declared.reply.Reply.{Reply}
use Rattle.mount_model.specs.History.{Event, state_after}
use Rattle.mount_model.specs.Paths.{Name, log_path}
use Rattle.mount_model.specs.State.{State}
use Rattle.mount_model.specs.Step.{IsStep}
use Rattle.mount_sound.specs.Items.{HasItem}
use Rattle.mount_sound.specs.Landed.{whole}
use Rattle.mount_sound.specs.Ledger.{Ledger}
use Rattle.mount_sound.specs.Owed.{IsLawful, May, StandsInRoom}
use Rattle.mount_sound.specs.Sound.{IsClean, IsFine}
use Rattle.mount_sound.proofs.Facts.{is_log, one_tree, step_fine, was_clean}
use Rattle.mount_model.specs.declared.stuck.Stuck.{Stuck}
use Rattle.mount_model.specs.FlowReplies.{Tries, on_ok}
use Rattle.mount_model.specs.Running.{Runs, asking, unbroken}
use Rattle.mount_model.proofs.Flows.Facts.{runs_in_two}
use Rattle.mount_model.specs.Program.{done, ask}
use Rattle.mount_model.proofs.Stories.Facts.{after_own}
use Rattle.index_reader.specs.declared.entries.Tail.{Tail}
use Rattle.index_reader.specs.declared.listing.Dropping.{Dropping as Listed}
use Rattle.index_reader.specs.declared.listing.Listing.{Listing}
use Rattle.index_reader.specs.Covered.{cover_of}
use Rattle.index_reader.specs.Opening.{no_flat, scan_program}
use Rattle.index_reader.specs.Packs.{no_tail}
use Rattle.index_reader.specs.Tails.{tail_program}
use Rattle.index_reader.specs.Truncs.{trunc_program}
use Rattle.index_reader.proofs.Facts.{IsLook, OnlyLooks}
use Rattle.reader_laws.specs.Gathering.{IsLogLength}
use Rattle.reader_laws.specs.Moments.{Dropping, Grows, HadItem, IsNamed, IsSoundAt, Moment, Stood, file_in_room, moment_after}
use Rattle.reader_laws.specs.Seen.{Asked, IsSeen}
use Rattle.reader_laws.proofs.Gathered.Facts.{answers_as, follows, grows_after, grows_trans, in_tree, legal_first, legal_rest, length_told, moment-append, seen, seen_grows, sound_after}
use Rattle.reader_laws.specs.Listing.{AreListed}
use Rattle.reader_laws.specs.Sharing.{in_room}
use Rattle.reader_laws.proofs.Calls.Calling.{FitsRead, calls_are}
use Rattle.reader_laws.proofs.Calls.Histories.{fit}
use Rattle.reader_laws.proofs.Containers.Listings.{top_run}
use Rattle.reader_laws.proofs.Droppings.Tails.{tail_run}
use Rattle.drain_read.specs.declared.held.Held.{Held}
use Rattle.drain_read.specs.declared.read.Contained.{Contained}
use Rattle.drain_read.specs.declared.read.Known.{Known}
use Rattle.drain_read.specs.declared.read.WriterRead.{WriterRead}
use Rattle.drain_read.specs.Holding.{held_program}
use Rattle.drain_read.specs.Reading.{contained_program, contains, read_as, reads_all, reads_listed}
use Rattle.drain_copy.specs.declared.outcome.DrainStuck.{DrainStuck}
use Rattle.drain_copy.specs.declared.plan.Owner.{Owner}
use Rattle.drain_copy.specs.Asking.{acts, at_source as on_source, at_target as on_target, calls, ends, look_reply}
use Rattle.drain_copy.specs.Draining.{drain_program, finds_source, gathers, if_gathered, if_held, job_of, known_at, makes_marks_room, reads_target, syncs, syncs_second, unless_taken, works_on}
use Rattle.drain_copy.specs.Planning.{is_new, mounts_of, nothing_held, owners_of, taken}
use Rattle.drain_copy.specs.Telling.{DrainsOn, folder_alone, found_room, kept, on_good, sought, told_well}
use Rattle.drain_sound.specs.Fronts.{dropping_in}
use Rattle.drain_laws.specs.Allowed.{MayDrain}
use Rattle.drain_laws.proofs.LooksLemmas.{CallsOnly, contained_only, makes_only}
use Rattle.drain_laws.proofs.Driving.Passing.{runs_after}
use Rattle.drain_laws.proofs.Reading.Read.{contained_stood}

ended_so : {X : Type 0} (a b : X) → ◌≡◌ {A = Result X Stuck} (Ok a) (Ok b) → a ≡ b
ended_so a b e = cc

not_stuck : {X : Type 0} (why : Stuck) (b : X) → ◌≡◌ {A = Result X Stuck} (Err why) (Ok b) → ⊥
not_stuck why b e = cc

-- ---- states of a history

fine_after : (state : State) (events : List Event) → IsLawful state events → IsFine state → IsFine (state_after state events)
fine_after state [] lawful fine = fine
fine_after state (e ∷ es) lawful fine = fine_after e.after es lawful.2 (step_fine state e.after e.caller e.ask e.reply lawful.0 lawful.1 fine)

clean_before : (state : State) (events : List Event) → IsLawful state events → IsClean (state_after state events) → IsClean state
clean_before state [] lawful clean = clean
clean_before state (e ∷ es) lawful clean = was_clean state e.after e.caller e.ask e.reply lawful.1 (clean_before e.after es lawful.2 clean)

lawful_then : (state : State) (first rest : List Event) → IsLawful state first → IsLawful (state_after state first) rest → IsLawful state (first ++ rest)
lawful_then state [] rest a b = b
lawful_then state (e ∷ first) rest a b = (a.0, a.1, lawful_then e.after first rest a.2 b)

after_both : (state : State) (first rest : List Event) → state_after state (first ++ rest) ≡ state_after (state_after state first) rest
after_both state [] rest = refl
after_both state (e ∷ first) rest = after_both e.after first rest

-- ---- droppings that stand

-- what stood at a moment stands in its room
had_stands : (m : Moment) (s : IsSoundAt m) (number : ℕ) (item : Item) → HadItem m number item → StandsInRoom m.state number (λ room. (content : List ℕ) × HasItem room item content)
had_stands m s number item had tree told = by_room (slice_get s.shape.tree.rooms number) refl (in_tree m s number (path_of item) had.bytes had.there)
  where
    same : (n : ℕ) → slice_get tree.rooms n ≡ slice_get s.shape.tree.rooms n
    same n = ap (λ (t : Tree). slice_get t.rooms n) (one_tree tree s.shape.tree m.state.store.tree told s.shape.told)

    by_room : (o : Option Room) → slice_get s.shape.tree.rooms number ≡ o → file_in_room o (path_of item) ≡ Some had.bytes → (room : Room) × (slice_get tree.rooms number ≡ Some room) × ((content : List ℕ) × HasItem room item content)
    by_room None is there = absurd (cc)
    by_room (Some room) is there = (room, same number ∙ is, (had.bytes, record { is_item = had.is_item; there = there }))

-- the droppings of a writer
abbrev pub DroppingsStand : ℕ → Owner → Moment → Type 0
DroppingsStand number o m = HadItem m number (Index o.host o.writer) × HadItem m number (Log o.host o.writer)

-- of each of these
abbrev AllStand : ℕ → List Owner → Moment → Type 0
AllStand number [] m = Unit {0}
AllStand number (o ∷ os) m = DroppingsStand number o m × AllStand number os m

all_later : (number : ℕ) (os : List Owner) (a b : Moment) → Grows a b → AllStand number os a → AllStand number os b
all_later number [] a b grows stand = tt
all_later number (o ∷ os) a b grows stand = ((grows.stands number (Index o.host o.writer) tt stand.0.0, grows.stands number (Log o.host o.writer) tt stand.0.1), all_later number os a b grows stand.1)

-- where the state is clean, they stand in it, by whatever account
abbrev Stand : ℕ → List Owner → State → Type 0
Stand number os state = IsClean state → (l : Ledger) × IsSoundAt (record { state = state; issued = l }) × AllStand number os (record { state = state; issued = l })

stand_later : (number : ℕ) (os : List Owner) (state : State) (events : List Event) → IsLawful state events → Stand number os state → Stand number os (state_after state events)
stand_later number os state events lawful h clean =
    let s = h (clean_before state events lawful clean) in
    let m : Moment = record { state = state; issued = s.0 } in
    let n : Moment = moment_after m events in
    let P : State → Type 0 = λ x. IsSoundAt (record { state = x; issued = n.issued }) × AllStand number os (record { state = x; issued = n.issued }) in
    let p = subst P (follows m events).0 (sound_after m events lawful s.1, all_later number os m n (grows_after m events lawful s.1) s.2) in
    (n.issued, p.0, p.1)

-- ---- the logs of those who have entries

-- of the next one that was read
abbrev LogStands : ℕ → WriterRead → Moment → Type 0
LogStands number w m = 1 ≤ length w.entries → HadItem m number (Log w.host w.writer)

abbrev LogsStand : ℕ → List WriterRead → Moment → Type 0
LogsStand number [] m = Unit {0}
LogsStand number (w ∷ ws) m = LogStands number w m × LogsStand number ws m

logs_later : (number : ℕ) (ws : List WriterRead) (a b : Moment) → Grows a b → LogsStand number ws a → LogsStand number ws b
logs_later number [] a b grows stand = tt
logs_later number (w ∷ ws) a b grows stand = ((λ some. grows.stands number (Log w.host w.writer) tt (stand.0 some)), logs_later number ws a b grows stand.1)

logs_both : (number : ℕ) (ws vs : List WriterRead) (m : Moment) → LogsStand number ws m → LogsStand number vs m → LogsStand number (ws ++ vs) m
logs_both number [] vs m a b = b
logs_both number (w ∷ ws) vs m a b = (a.0, logs_both number ws vs m a.1 b)

-- the first of some entries ends within the log, so that has a byte
some_byte : (log count : ℕ) (bytes : List ℕ) (es : List Entry) → es ≡ within_log log count bytes → AllByRecursion HasPiece es → 1 ≤ length es → 1 ≤ log
some_byte log zero bytes es is pieces some = absurd (omega (arith, some, ap length is))
some_byte log (suc count) bytes [] is pieces some = absurd (omega (arith, some))
some_byte log (suc count) bytes (e ∷ es) is pieces some = elim (cases_Bool (nat_le ((entry_in bytes).physical + (entry_in bytes).len) log)) as (λ _. 1 ≤ log) [
  | inl in_log ↦
      let same : e ≡ entry_in bytes = first_same (is ∙ cond-true (nat_le ((entry_in bytes).physical + (entry_in bytes).len) log) (entry_in bytes ∷ within_log log count (drop 40 bytes)) [] in_log) in
      let fits : (entry_in bytes).physical + (entry_in bytes).len ≤ log = grind (arith, nat_tests, in_log) in
      let long : 0 < e.len = pieces.0.not_empty in
      omega (arith, fits, long, ap (λ (x : Entry). x.len) same)
  | inr past ↦ absurd (omega (arith, some, ap length (is ∙ cond-false (nat_le ((entry_in bytes).physical + (entry_in bytes).len) log) (entry_in bytes ∷ within_log log count (drop 40 bytes)) [] past)))
]
  where
    first_same : {rest : List Entry} → e ∷ es ≡ entry_in bytes ∷ rest → e ≡ entry_in bytes
    first_same same = cc

-- its length was told at some moment
log_was : (caller number : ℕ) (d : Dropping) (log : ℕ) (start end : Moment) (first second : Asked) (reads : List Asked) → d.room ≡ number → IsNamed d → IsLogLength d log second → 1 ≤ log → IsSeen caller start (first ∷ second ∷ reads) end → HadItem end number (Log d.host d.writer)
log_was caller number d log start end first second reads room named is some (then_, one, (next, two, rest)) = elim is.reply as (λ _. HadItem end number (Log d.host d.writer)) [
  | inl told ↦
      let t = length_told two.before two.sound caller d.room (log_path d.host d.writer) log next.state (answers_as two.before.state caller second.ask _ second.reply _ next.state is.call told refl two.answers) in
      let had : HadItem two.before d.room (Log d.host d.writer) = record { is_item = is_log d.host d.writer named.widths.0 named.widths.1; bytes = t.0; there = t.1 } in
      let grows : Grows two.before end = grows_trans two.before next end two.goes (seen_grows caller next end reads rest) in
      subst (λ n. HadItem end n (Log d.host d.writer)) room (grows.stands d.room (Log d.host d.writer) tt had)
  | inr (absent, none) ↦ absurd (omega (arith, some, none))
]

module _ (caller : ℕ) (known : Known) where
  one_logged : (d : Listed) (m : Moment) (first : List Event) (tail : Tail) → IsNamed (in_room known.room d) → IsSoundAt m → IsLawful m.state first → Runs caller (tail_program known.room d (no_tail (cover_of d.writer known.covers))) first (Ok tail)
      → 1 ≤ length tail.entries → HadItem (moment_after m first) known.room (Log d.host d.writer)
  one_logged d m first tail named s lawful runs some =
      let cover : Cover = cover_of d.writer known.covers in
      let fits = subst (AllByRecursion FitsRead) (calls_are caller first) (fit caller m first lawful s) in
      let t = tail_run known.room d cover tail (made_by caller first) fits runs in
      let r = t.reads in
      let seen_so : IsSeen caller m (r.first ∷ r.second ∷ r.reads) (moment_after m first) = subst (λ calls. IsSeen caller m calls (moment_after m first)) (calls_are caller first ∙ r.calls) (seen caller m first lawful s) in
      log_was caller known.room (in_room known.room d) r.log m (moment_after m first) r.first r.second r.reads refl named r.log_length (some_byte r.log (whole r.content) r.content tail.entries r.tail t.longer.pieces some) seen_so

  kept_some : (keeps : Bool) (d : Listed) (tail : Tail) → 1 ≤ length (read_as keeps d tail).entries → 1 ≤ length tail.entries
  kept_some true d tail some = some
  kept_some false d tail some = absurd (omega (arith, some))

  logs_run : (ds : List Listed) (sofar : List WriterRead) (m : Moment) (events : List Event) (contained : Contained) → AllByRecursion (λ (d : Listed). IsNamed (in_room known.room d)) ds → IsSoundAt m → IsLawful m.state events → LogsStand known.room sofar m
      → Runs caller (reads_all known ds sofar) events (Ok contained) → LogsStand known.room contained.writers (moment_after m events)
  logs_run [] sofar m events contained named s lawful stand runs =
      let r = runs_in_two caller (trunc_program known.room) (on_ok (contains known sofar)) events (Ok contained) runs in
      by_value r.rest r.value r.then_runs
    where
      by_value : (rest : List Event) (value : Result (List Trunc) Stuck) → Runs caller (on_ok (contains known sofar) value) rest (Ok contained) → LogsStand known.room contained.writers (moment_after m events)
      by_value rest (Err why) over = absurd (not_stuck why contained over.1)
      by_value rest (Ok ts) over =
          let is : record { room = known.room; writers = sofar; truncs = ts } ≡ contained = ended_so (record { room = known.room; writers = sofar; truncs = ts }) contained over.1 in
          subst (λ ws. LogsStand known.room ws (moment_after m events)) (ap (λ (c : Contained). c.writers) is) (logs_later known.room sofar m (moment_after m events) (grows_after m events lawful s) stand)
  logs_run (d ∷ ds) sofar m events contained named s lawful stand runs =
      let r = runs_in_two caller (tail_program known.room d (no_tail (cover_of d.writer known.covers))) (on_ok (λ tail. reads_all known ds (sofar ++ read_as known.keeps d tail ∷ []))) events (Ok contained) runs in
      by_value (λ w n rest sound behind before on. logs_run ds (sofar ++ w ∷ []) n rest contained named.1 sound behind before on) r.first r.rest r.value r.all r.runs r.then_runs
    where
      by_value : ((w : WriterRead) (n : Moment) (rest : List Event) → IsSoundAt n → IsLawful n.state rest → LogsStand known.room (sofar ++ w ∷ []) n → Runs caller (reads_all known ds (sofar ++ w ∷ [])) rest (Ok contained) → LogsStand known.room contained.writers (moment_after n rest))
          → (first rest : List Event) (value : Result Tail Stuck) → events ≡ first ++ rest → Runs caller (tail_program known.room d (no_tail (cover_of d.writer known.covers))) first value → Runs caller (on_ok (λ tail. reads_all known ds (sofar ++ read_as known.keeps d tail ∷ [])) value) rest (Ok contained) → LogsStand known.room contained.writers (moment_after m events)
      by_value more first rest (Err why) split reads on = absurd (not_stuck why contained on.1)
      by_value more first rest (Ok tail) split reads on =
          let all : IsLawful m.state (first ++ rest) = subst (IsLawful m.state) split lawful in
          let here = legal_first m first rest all in
          let n : Moment = moment_after m first in
          let same : moment_after m events ≡ moment_after n rest = ap (moment_after m) split ∙ moment-append m first rest in
          let w : WriterRead = read_as known.keeps d tail in
          let before : LogsStand known.room (sofar ++ w ∷ []) n = logs_both known.room sofar (w ∷ []) n (logs_later known.room sofar m n (grows_after m first here s) stand) ((λ some. one_logged d m first tail named.0 s here reads (kept_some known.keeps d tail some)), tt) in
          subst (LogsStand known.room contained.writers) (sym same) (more w n rest (sound_after m first here s) (legal_rest m first rest all) before on)

  logs_read : (m : Moment) (events : List Event) (contained : Contained) → IsSoundAt m → IsLawful m.state events → Runs caller (contained_program known) events (Ok contained) → LogsStand known.room contained.writers (moment_after m events)
  logs_read m events contained s lawful runs =
      let r = runs_in_two caller (scan_program known.room) (on_ok (reads_listed known)) events (Ok contained) runs in
      by_value r.first r.rest r.value r.all r.runs r.then_runs
    where
      by_value : (first rest : List Event) (value : Result Listing Stuck) → events ≡ first ++ rest → Runs caller (scan_program known.room) first value → Runs caller (on_ok (reads_listed known) value) rest (Ok contained) → LogsStand known.room contained.writers (moment_after m events)
      by_value first rest (Err why) split scans on = absurd (not_stuck why contained on.1)
      by_value first rest (Ok listing) split scans on =
          let all : IsLawful m.state (first ++ rest) = subst (IsLawful m.state) split lawful in
          let here = legal_first m first rest all in
          let n : Moment = moment_after m first in
          let same : moment_after m events ≡ moment_after n rest = ap (moment_after m) split ∙ moment-append m first rest in
          let t = top_run caller known.room 0 no_flat m first listing here s scans in
          let l : AreListed known.room t.found listing.droppings = t.droppings in
          let named = recursion_from_All (λ (d : Listed). IsNamed (in_room known.room d)) listing.droppings l.named in
          subst (LogsStand known.room contained.writers) (sym same) (logs_run listing.droppings [] n rest contained named (sound_after m first here s) (legal_rest m first rest all) tt on)

  -- those whose droppings are synced have both
  owners_stand : (ws : List WriterRead) (m : Moment) → ((w : WriterRead) → Among w ws → Stood m (dropping_in known.room w.host w.writer)) → LogsStand known.room ws m → AllStand known.room (owners_of ws) m
  owners_stand [] m stood logs = tt
  owners_stand (w ∷ ws) m stood logs = elim (cases_Bool (is_new w)) as (λ _. AllStand known.room (owners_of (w ∷ ws)) m) [
    | inl is ↦
        let some : 1 ≤ length w.entries = grind (arith, nat_tests, is) in
        let st : Stood m (dropping_in known.room w.host w.writer) = stood w (inl refl) in
        subst (λ os. AllStand known.room os m) (sym (cond-true (is_new w) (record { host = w.host; writer = w.writer } ∷ owners_of ws) (owners_of ws) is))
        ((st, logs.0 some), owners_stand ws m (λ x a. stood x (inr a)) logs.1)
    | inr none ↦ subst (λ os. AllStand known.room os m) (sym (cond-false (is_new w) (record { host = w.host; writer = w.writer } ∷ owners_of ws) (owners_of ws) none)) (owners_stand ws m (λ x a. stood x (inr a)) logs.1)
  ]

  contained_stand : (state : State) (events : List Event) (contained : Contained) → IsFine state → IsLawful state events → Runs caller (contained_program known) events (Ok contained) → Stand contained.room (owners_of contained.writers) (state_after state events)
  contained_stand state events contained fine lawful runs clean =
      let s = fine.sound (clean_before state events lawful clean) in
      let m : Moment = record { state = state; issued = s.0 } in
      let n : Moment = moment_after m events in
      let c = contained_stood caller known m events contained s.1 lawful runs in
      let stood = owners_stand contained.writers n (λ w a. All-Among (λ (x : WriterRead). Stood n (dropping_in known.room x.host x.writer)) contained.writers w (recursion_from_All (λ (x : WriterRead). Stood n (dropping_in known.room x.host x.writer)) contained.writers c.1) a) (logs_read m events contained s.1 lawful runs) in
      let P : State → Type 0 = λ x. IsSoundAt (record { state = x; issued = n.issued }) × AllStand contained.room (owners_of contained.writers) (record { state = x; issued = n.issued }) in
      let p = subst P (follows m events).0 (sound_after m events lawful s.1, subst (λ k. AllStand k (owners_of contained.writers) n) (sym c.0) stood) in
      (n.issued, p.0, p.1)

-- ---- programs

module _ (caller : ℕ) where
  allowed_on : {X : Type 0} (next : X → DrainsOn) (r : Result X DrainStuck) (state : State) → ((x : X) → MayDrain caller (next x) state) → MayDrain caller (on_good next r) state
  allowed_on next (Ok x) state goes = goes x
  allowed_on next (Err why) state goes = tt

  may_look : (state : State) (call : Call) → IsLook call → May state caller (unbroken call)
  may_look state (Find name) look = record { numbers = tt; owes = λ clean. tt }
  may_look state (Look room sight) look = record { numbers = tt; owes = λ clean. tt }
  may_look state call look = absurd look

  -- calls that look, and steps
  allowed_look : (p : DrainsOn) → CallsOnly IsLook p → (state : State) → MayDrain caller p state
  allowed_look (ends outcome) looks state = tt
  allowed_look (calls call k) looks state = λ others none lawful. (may_look (state_after state others) call looks.0, λ reply after step. allowed_look (k reply) (looks.1 reply) after)
  allowed_look (acts step k) looks state = λ told. allowed_look (k told) (looks told) state

  -- a program of looks at the source, and what follows each history in which it was made
  allowed_source : {X : Type 0} (p : Tries X) (next : Result X Stuck → DrainsOn) (state : State) → OnlyLooks p
      → ((events : List Event) (out : Result X Stuck) → IsLawful state events → Runs caller p events out → MayDrain caller (next out) (state_after state events)) → MayDrain caller (on_source p next) state
  allowed_source (done x) next state looks goes = goes [] x tt (refl, refl)
  allowed_source {X} (ask q k) next state looks goes = λ others none lawful.
      let now : State = state_after state others in
      let may : May now caller (unbroken q) = may_look now q looks.0 in (
        may,
        λ reply after step.
            let e : Event = record { caller = caller; ask = unbroken q; reply = reply; after = after } in
            allowed_source (k reply) next after (looks.1 reply)
            (λ events out more runs.
            let same : state_after state (others ++ e ∷ events) ≡ state_after after events = after_both state others (e ∷ events) in
            let mine : Runs caller (ask q k) (e ∷ events) out = after_own caller (unbroken q) (λ r. asking (k r)) e events out refl refl runs in
            subst (λ s. MayDrain caller (next out) s) same (goes (others ++ e ∷ events) out (lawful_then state others (e ∷ events) lawful (may, step, more)) (runs_after caller (ask q k) others (e ∷ events) out none mine))),
      )

  -- a program of looks at the target
  allowed_target : {X : Type 0} (p : Tries X) (next : Result X Stuck → DrainsOn) (state : State) → ((out : Result X Stuck) → MayDrain caller (next out) state) → MayDrain caller (on_target p next) state
  allowed_target (done x) next state goes = goes x
  allowed_target (ask q k) next state goes = λ told. allowed_target (k (look_reply told)) next state goes

  -- ---- the syncs

  may_sync : (state : State) (number : ℕ) (o : Owner) (os : List Owner) (log : Bool) → Stand number (o ∷ os) state → May state caller (unbroken (SyncDropping number o.host o.writer log))
  may_sync state number o os true h = record { numbers = tt; owes = λ clean. (let s = h clean in had_stands (record { state = state; issued = s.0 }) s.1 number (Log o.host o.writer) s.2.0.1) }
  may_sync state number o os false h = record { numbers = tt; owes = λ clean. (let s = h clean in had_stands (record { state = state; issued = s.0 }) s.1 number (Index o.host o.writer) s.2.0.0) }

  step_events : (state : State) (call : Call) (reply : Reply) (after : State) → May state caller (unbroken call) → IsStep state caller (unbroken call) reply after → IsLawful state (record { caller = caller; ask = unbroken call; reply = reply; after = after } ∷ [])
  step_events state call reply after may step = (may, step, tt)

  -- a sync of the next writer's, and what follows
  allowed_sync : (state : State) (number : ℕ) (o : Owner) (os : List Owner) (log : Bool) (k : Reply → DrainsOn) → Stand number (o ∷ os) state → ((reply : Reply) (after : State) → Stand number (o ∷ os) after → MayDrain caller (k reply) after) → MayDrain caller (calls (SyncDropping number o.host o.writer log) k) state
  allowed_sync state number o os log k h goes = λ others none lawful.
      let now : State = state_after state others in
      let here : Stand number (o ∷ os) now = stand_later number (o ∷ os) state others lawful h in
      let may = may_sync now number o os log here in (
        may,
        λ reply after step. goes reply after
            (stand_later number (o ∷ os) now (record { caller = caller; ask = unbroken (SyncDropping number o.host o.writer log); reply = reply; after = after } ∷ []) (may, step, tt) here),
      )

  allowed_syncs : (number : ℕ) (os : List Owner) (next : DrainsOn) (state : State) → ((now : State) → MayDrain caller next now) → Stand number os state → MayDrain caller (syncs number os next) state
  allowed_syncs number [] next state goes h = goes state
  allowed_syncs number (o ∷ os) next state goes h =
      allowed_sync state number o os true (λ reply. on_good (λ made. syncs_second number o (syncs number os next)) (kept reply)) h
      (λ reply after here. allowed_on (λ made. syncs_second number o (syncs number os next)) (kept reply) after
      (λ made. allowed_sync after number o os false (λ again. on_good (λ last. syncs number os next) (kept again)) here
      (λ again then_ there. allowed_on (λ last. syncs number os next) (kept again) then_
      (λ last. allowed_syncs number os next then_ goes (λ clean. (let s = there clean in (s.0, s.1, s.2.1)))))))

  -- ---- a drain

  allowed_works : (name : Name) (held : Held) (contained : Contained) (state : State) → Stand contained.room (owners_of contained.writers) state → MayDrain caller (works_on name held contained) state
  allowed_works name held contained state h = by_taken (taken held contained.writers)
    where
      by_taken : (o : Option DrainStuck) → MayDrain caller (unless_taken o (syncs contained.room (owners_of contained.writers) (makes_marks_room (job_of name held contained) (mounts_of contained.writers)))) state
      by_taken None =
          allowed_syncs contained.room (owners_of contained.writers) (makes_marks_room (job_of name held contained) (mounts_of contained.writers)) state
          (λ now. allowed_look (makes_marks_room (job_of name held contained) (mounts_of contained.writers)) (makes_only IsLook (λ room sight. tt) (job_of name held contained) (mounts_of contained.writers)) now) h
      by_taken (Some why) = tt

  allowed_gathers : (name : Name) (held : Held) (room : ℕ) (state : State) → IsFine state → MayDrain caller (gathers name held room) state
  allowed_gathers name held room state fine =
      allowed_source (contained_program (known_at held room)) (if_gathered name held) state (contained_only IsLook (λ room sight. tt) (known_at held room)) by_out
    where
      by_out : (events : List Event) (out : Result Contained Stuck) → IsLawful state events → Runs caller (contained_program (known_at held room)) events out → MayDrain caller (if_gathered name held out) (state_after state events)
      by_out events (Err why) lawful runs = tt
      by_out events (Ok contained) lawful runs = allowed_works name held contained (state_after state events) (contained_stand caller (known_at held room) state events contained fine lawful runs)

  allowed_finds : (name : Name) (held : Held) (state : State) → IsFine state → MayDrain caller (finds_source name held) state
  allowed_finds name held state fine = λ others none lawful. (
    may_look (state_after state others) (Find name) tt,
    λ reply after step. allowed_on (gathers name held) (found_room reply) after
        (λ room. allowed_gathers name held room after (step_fine (state_after state others) after caller (unbroken (Find name)) reply (may_look (state_after state others) (Find name) tt) step (fine_after state others lawful fine))),
  )

  pub allowed_drain : (name : Name) (state : State) → IsFine state → MayDrain caller (drain_program name) state
  allowed_drain name state fine = λ told. allowed_on (reads_target name) (told_well (folder_alone []) sought told) state by_found
    where
      by_found : (found : Option ℕ) → MayDrain caller (reads_target name found) state
      by_found None = allowed_finds name nothing_held state fine
      by_found (Some room) = allowed_target (held_program room) (if_held name) state by_held
        where
          by_held : (out : Result Held Stuck) → MayDrain caller (if_held name out) state
          by_held (Err why) = tt
          by_held (Ok held) = allowed_finds name held state fine
