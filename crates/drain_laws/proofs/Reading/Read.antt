-- Who runs the program that reads a container for a drain has, of each writer, what lies behind what was known.
use Rattle.std.proofs.Common.{◌≡◌, ℕ, ◌≤◌, ◌<◌, false, List, [], ◌∷◌, ◌++◌, drop, map, refl, ap, sym, ◌∙◌, subst, append_assoc, arith}
use Rattle.std.specs.Prelude.{Result, Ok, Err}
use Rattle.std.specs.List.{All, Any, AllByRecursion}
use Rattle.std.proofs.lemmas.List.{append-nil}
use Rattle.std.proofs.lemmas.List.Elements.{recursion_from_All}
use Rattle.plain_file.proofs.Facts.{Among}
use Rattle.plfs_types.specs.declared.entries.Cover.{Cover}
use Rattle.plfs_types.specs.declared.entries.Entry.{Entry}
use Rattle.plfs_types.specs.declared.entries.Trunc.{Trunc}
use Rattle.turn_object.specs.Callers.{made_by}
use Rattle.mount_model.specs.declared.call.Call.TheVariants.{Look}
use Rattle.mount_model.specs.declared.call.Look.TheVariants.{List as ListFolder}
use Rattle.mount_model.specs.History.{Event}
use Rattle.mount_model.specs.Paths.{truncs as truncs_folder}
use Rattle.mount_sound.specs.Owed.{IsLawful}
use Rattle.mount_model.specs.declared.stuck.Stuck.{Stuck}
use Rattle.mount_model.specs.FlowReplies.{on_ok}
use Rattle.mount_model.specs.Running.{Runs}
use Rattle.mount_model.proofs.Flows.Facts.{runs_in_two}
use Rattle.index_reader.specs.declared.entries.Tail.{Tail}
use Rattle.index_reader.specs.declared.listing.Dropping.{Dropping as Listed}
use Rattle.index_reader.specs.declared.listing.Listing.{Listing}
use Rattle.index_reader.specs.Covered.{cover_of}
use Rattle.index_reader.specs.Listing.{AreByWriter}
use Rattle.index_reader.specs.Opening.{no_flat, scan_program}
use Rattle.index_reader.specs.Packs.{no_tail}
use Rattle.index_reader.specs.Tails.{tail_program}
use Rattle.index_reader.specs.Truncs.{trunc_program}
use Rattle.reader_laws.specs.Gathering.{Gathered, Gathers, GathersIndex, IsPrefixOf}
use Rattle.reader_laws.specs.GatheringListing.{AreTruncsAt}
use Rattle.plfs_types.specs.Places.{IsAmong}
use Rattle.reader_laws.specs.Moments.{Dropping, Grows, IsNamed, IsSoundAt, Moment, Stood, landed, moment_after}
use Rattle.reader_laws.specs.Seen.{asked_in, calls_of}
use Rattle.reader_laws.proofs.Gathered.Facts.{all_at, among, any_found, entries_stay, found_any, grows_after, grows_trans, issued_grows, legal_first, legal_rest, moment-append, scan_finds, scan_found, seen, sound_after, stood_grows}
use Rattle.reader_laws.proofs.Gathered.Logs.Gathers.{gathers}
use Rattle.reader_laws.proofs.Gathered.Moments.Seeing.{seen_more, seen_waits}
use Rattle.reader_laws.proofs.Gathered.Containers.Truncates.{truncs_listed as truncs_stood}
use Rattle.reader_laws.specs.Covering.{cover_with}
use Rattle.reader_laws.specs.Listing.{AreListed}
use Rattle.reader_laws.specs.Sharing.{gathered_of, in_room}
use Rattle.reader_laws.proofs.Calls.Calling.{FitsRead, calls_are}
use Rattle.reader_laws.proofs.Calls.Histories.{fit, truncs_listed}
use Rattle.reader_laws.proofs.Containers.Listings.{from_first, top_run}
use Rattle.reader_laws.proofs.Containers.NamedPacks.{all_members}
use Rattle.reader_laws.proofs.Droppings.Tails.{tail_run}
use Rattle.reader_laws.proofs.OpenReaders.Cuts.{among_map, map_among}
use Rattle.drain_read.specs.declared.read.Contained.{Contained}
use Rattle.drain_read.specs.declared.read.Known.{Known}
use Rattle.drain_read.specs.declared.read.WriterRead.{WriterRead}
use Rattle.drain_read.specs.Reading.{contained_program, contains, entries_if, lists_truncs, read_as, reads_all, reads_listed}
use Rattle.drain_sound.specs.Fronts.{dropping_in}

-- no two are of one writer
abbrev pub Differ : List WriterRead → Type 0
Differ [] = Unit {0}
Differ (w ∷ ws) = AllByRecursion (λ (x : WriterRead). x.writer ≡ w.writer → ⊥) ws × Differ ws

ended_so : {X : Type 0} (a b : X) → ◌≡◌ {A = Result X Stuck} (Ok a) (Ok b) → a ≡ b
ended_so a b e = cc

not_stuck : {X : Type 0} (why : Stuck) (b : X) → ◌≡◌ {A = Result X Stuck} (Err why) (Ok b) → ⊥
not_stuck why b e = cc

module _ (caller : ℕ) (known : Known) (start end : Moment) where
  abbrev cover_before : ℕ → Cover
  cover_before writer = cover_of writer known.covers

  -- what was read of it, as it was gathered
  abbrev pub gathered_so : WriterRead → List Entry → Gathered
  gathered_so w entries = record { dropping = dropping_in known.room w.host w.writer; packed = false; covered = (cover_of w.writer known.covers).count; count = w.cover.count; tail = entries }

  -- These entries were read of it. Where what was known had landed at the start, they are those that its writer issued behind that.
  pub record IsReadSo (w : WriterRead) : Type 0 where
    pub named : IsNamed (dropping_in known.room w.host w.writer)
    pub entries : List Entry
    pub kept : w.entries ≡ entries_if known.keeps entries
    pub cover : w.cover ≡ cover_with (cover_of w.writer known.covers) entries
    pub gathered : (cover_of w.writer known.covers).count ≤ landed start (dropping_in known.room w.host w.writer) → IsPrefixOf start end (gathered_so w entries)

  one_read : (d : Listed) (m : Moment) (first : List Event) (tail : Tail) → IsNamed (in_room known.room d) → Grows start m → IsSoundAt m → IsLawful m.state first → Grows (moment_after m first) end
      → Runs caller (tail_program known.room d (no_tail (cover_of d.writer known.covers))) first (Ok tail) → IsReadSo (read_as known.keeps d tail)
  one_read d m first tail named waited s lawful goes runs =
      let cover : Cover = cover_of d.writer known.covers in
      let unpacked : Listed = record { host = d.host; writer = d.writer; packed = false } in
      let fits = subst (AllByRecursion FitsRead) (calls_are caller first) (fit caller m first lawful s) in
      let t = tail_run known.room d cover tail (made_by caller first) fits runs in
      let g : Gathered = gathered_of known.room unpacked cover tail in
      let r = t.reads in
      let reads : GathersIndex g (calls_of caller first) = record {
        first = r.first;
        second = r.second;
        reads = r.reads;
        calls = calls_are caller first ∙ r.calls;
        told = r.told;
        log = r.log;
        content = r.content;
        index_length = r.index_length;
        log_length = r.log_length;
        bytes = r.bytes;
        tail = r.tail;
        count = r.count;
      } in
      let all : Gathers g (calls_of caller first) = record { named = named; reads = reads } in
      let saw = seen_waits caller start m end (calls_of caller first) waited (seen_more caller m (moment_after m first) end (calls_of caller first) (seen caller m first lawful s) goes) in
      record {
        named = named;
        entries = tail.entries;
        kept = refl;
        cover = t.longer.cover;
        gathered = λ had. gathers caller start end g (calls_of caller first) saw all had;
      }

module _ (caller : ℕ) (known : Known) (start : Moment) where
  -- All that was read of these droppings, behind what was read before. The truncates were listed last.
  pub record HasReadAll (ds : List Listed) (sofar : List WriterRead) (contained : Contained) (m : Moment) (events : List Event) : Type 0 where
    pub before : List Event
    pub listing : Event
    pub later : List Event
    pub split : events ≡ before ++ listing ∷ later
    pub listed_by : listing.caller ≡ caller
    pub lists : listing.ask.call ≡ Look known.room (ListFolder truncs_folder)
    pub room : contained.room ≡ known.room
    pub writers : List WriterRead
    pub all : contained.writers ≡ sofar ++ writers
    pub droppings : map (λ (w : WriterRead). dropping_in known.room w.host w.writer) writers ≡ map (in_room known.room) ds
    pub reads : AllByRecursion (IsReadSo caller known start (moment_after m before)) writers
    pub truncs : AreTruncsAt (moment_after m before) known.room contained.truncs

  none_left : (sofar : List WriterRead) (m : Moment) (events : List Event) (contained : Contained) → IsSoundAt m → IsLawful m.state events → Runs caller (lists_truncs known sofar) events (Ok contained) → HasReadAll [] sofar contained m events
  none_left sofar m events contained s lawful runs =
      let r = runs_in_two caller (trunc_program known.room) (on_ok (contains known sofar)) events (Ok contained) runs in
      by_value r.first r.rest r.value r.all r.runs r.then_runs
    where
      by_value : (first rest : List Event) (value : Result (List Trunc) Stuck) → events ≡ first ++ rest → Runs caller (trunc_program known.room) first value → Runs caller (on_ok (contains known sofar) value) rest (Ok contained) → HasReadAll [] sofar contained m events
      by_value first rest (Err why) split lists ends = absurd (not_stuck why contained ends.1)
      by_value first rest (Ok ts) split lists ends =
          let is : record { room = known.room; writers = sofar; truncs = ts } ≡ contained = ended_so (record { room = known.room; writers = sofar; truncs = ts }) contained ends.1 in
          let here = legal_first m first rest (subst (IsLawful m.state) split lawful) in
          let l = truncs_listed caller known.room m first ts here s lists in
          let p = from_first m first l.before l.listing l.later l.split here s in
          let stood = truncs_stood (moment_after m l.before) p.here l.listing.caller known.room ts (asked_in l.listing) l.listing.after p.rest.1 l.truncates in
          record {
            before = l.before;
            listing = l.listing;
            later = l.later ++ rest;
            split = split ∙ ap (λ es. es ++ rest) l.split ∙ append_assoc l.before (l.listing ∷ l.later) rest;
            listed_by = l.lists;
            lists = l.truncates.lists.call;
            room = sym (ap (λ (c : Contained). c.room) is);
            writers = [];
            all = sym (ap (λ (c : Contained). c.writers) is) ∙ sym (append-nil sofar);
            droppings = refl;
            reads = tt;
            truncs = subst (AreTruncsAt (moment_after m l.before) known.room) (ap (λ (c : Contained). c.truncs) is) stood;
          }

  reads_run : (ds : List Listed) (sofar : List WriterRead) (m : Moment) (events : List Event) (contained : Contained) → AllByRecursion (λ (d : Listed). IsNamed (in_room known.room d)) ds → Grows start m → IsSoundAt m → IsLawful m.state events
      → Runs caller (reads_all known ds sofar) events (Ok contained) → HasReadAll ds sofar contained m events
  reads_run [] sofar m events contained named waited s lawful runs = none_left sofar m events contained s lawful runs
  reads_run (d ∷ ds) sofar m events contained named waited s lawful runs =
      let r = runs_in_two caller (tail_program known.room d (no_tail (cover_of d.writer known.covers))) (on_ok (λ tail. reads_all known ds (sofar ++ read_as known.keeps d tail ∷ []))) events (Ok contained) runs in
      by_value (λ w n rest waited_on sound behind on. reads_run ds (sofar ++ w ∷ []) n rest contained named.1 waited_on sound behind on) r.first r.rest r.value r.all r.runs r.then_runs
    where
      by_value : ((w : WriterRead) (n : Moment) (rest : List Event) → Grows start n → IsSoundAt n → IsLawful n.state rest → Runs caller (reads_all known ds (sofar ++ w ∷ [])) rest (Ok contained) → HasReadAll ds (sofar ++ w ∷ []) contained n rest)
          → (first rest : List Event) (value : Result Tail Stuck) → events ≡ first ++ rest → Runs caller (tail_program known.room d (no_tail (cover_of d.writer known.covers))) first value → Runs caller (on_ok (λ tail. reads_all known ds (sofar ++ read_as known.keeps d tail ∷ [])) value) rest (Ok contained) → HasReadAll (d ∷ ds) sofar contained m events
      by_value more first rest (Err why) split reads on = absurd (not_stuck why contained on.1)
      by_value more first rest (Ok tail) split reads on =
          let all : IsLawful m.state (first ++ rest) = subst (IsLawful m.state) split lawful in
          let here = legal_first m first rest all in
          let behind = legal_rest m first rest all in
          let n : Moment = moment_after m first in
          let sound : IsSoundAt n = sound_after m first here s in
          let w : WriterRead = read_as known.keeps d tail in
          let h = more w n rest (grows_trans start m n waited (grows_after m first here s)) sound behind on in
          let end : Moment = moment_after n h.before in
          let same : moment_after m (first ++ h.before) ≡ end = moment-append m first h.before in
          let goes : Grows n end = grows_after n h.before (legal_first n h.before (h.listing ∷ h.later) (subst (IsLawful n.state) h.split behind)) sound in
          let reads_now : AllByRecursion (IsReadSo caller known start end) (w ∷ h.writers) = (one_read caller known start end d m first tail named.0 waited s here goes reads, h.reads) in
          record {
            before = first ++ h.before;
            listing = h.listing;
            later = h.later;
            split = split ∙ ap (λ es. first ++ es) h.split ∙ sym (append_assoc first h.before (h.listing ∷ h.later));
            listed_by = h.listed_by;
            lists = h.lists;
            room = h.room;
            writers = w ∷ h.writers;
            all = h.all ∙ append_assoc sofar (w ∷ []) h.writers;
            droppings = ap (λ l. in_room known.room d ∷ l) h.droppings;
            reads = subst (λ x. AllByRecursion (IsReadSo caller known start x) (w ∷ h.writers)) (sym same) reads_now;
            truncs = subst (λ x. AreTruncsAt x known.room contained.truncs) (sym same) h.truncs;
          }

-- What was read of the container, between these moments, and that none of its writers was missed.
pub record HasContained (caller : ℕ) (known : Known) (start end : Moment) (contained : Contained) : Type 0 where
  pub room : contained.room ≡ known.room
  pub reads : AllByRecursion (IsReadSo caller known start end) contained.writers
  pub complete : (d : Dropping) → d.room ≡ known.room → Stood start d → Any (λ (w : WriterRead). dropping_in known.room w.host w.writer ≡ d) contained.writers
  pub stood : All (λ (w : WriterRead). Stood end (dropping_in known.room w.host w.writer)) contained.writers
  pub differ : Differ contained.writers
  pub truncs : AreTruncsAt end known.room contained.truncs

-- So it was between the first of these events and the listing of the truncates.
pub record HasReadContainer (caller : ℕ) (known : Known) (m : Moment) (events : List Event) (contained : Contained) : Type 0 where
  pub before : List Event
  pub listing : Event
  pub later : List Event
  pub split : events ≡ before ++ listing ∷ later
  pub listed_by : listing.caller ≡ caller
  pub lists : listing.ask.call ≡ Look known.room (ListFolder truncs_folder)
  pub has : HasContained caller known m (moment_after m before) contained

-- what was read so far is so later
pub reads_later : (caller : ℕ) (known : Known) (start end later : Moment) (ws : List WriterRead) → Grows end later → AllByRecursion (IsReadSo caller known start end) ws → AllByRecursion (IsReadSo caller known start later) ws
reads_later caller known start end later [] grows all = tt
reads_later caller known start end later (w ∷ ws) grows all = (
  record {
    named = all.0.named;
    entries = all.0.entries;
    kept = all.0.kept;
    cover = all.0.cover;
    gathered = λ had. prefix_later start end later (dropping_in known.room w.host w.writer) (gathered_so caller known start end w all.0.entries) refl all.0.named grows (all.0.gathered had);
  },
  reads_later caller known start end later ws grows all.1,
)
  where
    prefix_later : (start end later : Moment) (d : Dropping) (g : Gathered) → g.dropping ≡ d → IsNamed d → Grows end later → IsPrefixOf start end g → IsPrefixOf start later g
    prefix_later start end later d g is named grows p =
        let its : IsNamed g.dropping = subst IsNamed (sym is) named in
        record {
          least = p.least;
          most = omega (arith, p.most, grows.landed g.dropping its);
          were_issued = omega (arith, p.were_issued, issued_grows end later g.dropping grows);
          stands = stood_grows end later g.dropping grows p.stands;
          entries = p.entries ∙ ap (drop g.covered) (sym (entries_stay end later g.dropping g.count grows p.were_issued));
        }

-- no two of one writer
differ_from : (room : ℕ) (ws : List WriterRead) (ds : List Listed) → map (λ (w : WriterRead). dropping_in room w.host w.writer) ws ≡ map (in_room room) ds → AreByWriter ds → Differ ws
differ_from room [] ds e ascend = tt
differ_from room (w ∷ ws) [] e ascend = absurd (let clash : map (λ (x : WriterRead). dropping_in room x.host x.writer) (w ∷ ws) ≡ [] = e in cc)
differ_from room (w ∷ ws) (d ∷ ds) e ascend =
    let rest : map (λ (x : WriterRead). dropping_in room x.host x.writer) ws ≡ map (in_room room) ds = cc in
    let is : dropping_in room w.host w.writer ≡ in_room room d = cc in
    (others ws ds rest (ap (λ (x : Dropping). x.writer) is) (recursion_from_All (λ later. d.writer < later) (map (λ (x : Listed). x.writer) ds) ascend.0), differ_from room ws ds rest ascend.1)
  where
    others : (ws : List WriterRead) (ds : List Listed) → map (λ (x : WriterRead). dropping_in room x.host x.writer) ws ≡ map (in_room room) ds → w.writer ≡ d.writer → AllByRecursion (λ later. d.writer < later) (map (λ (x : Listed). x.writer) ds) → AllByRecursion (λ (x : WriterRead). x.writer ≡ w.writer → ⊥) ws
    others [] ds e is above = tt
    others (x ∷ ws) [] e is above = absurd (let clash : map (λ (x : WriterRead). dropping_in room x.host x.writer) (x ∷ ws) ≡ [] = e in cc)
    others (x ∷ ws) (y ∷ ds) e is above =
        let rest : map (λ (z : WriterRead). dropping_in room z.host z.writer) ws ≡ map (in_room room) ds = cc in
        let one : dropping_in room x.host x.writer ≡ in_room room y = cc in
        let same : x.writer ≡ y.writer = ap (λ (z : Dropping). z.writer) one in
        (λ clash. omega (arith, above.0, same, is, clash), others ws ds rest is above.1)

module _ (caller : ℕ) (known : Known) (m : Moment) (events : List Event) (contained : Contained) (s : IsSoundAt m) (lawful : IsLawful m.state events) where
  abbrev its : WriterRead → Dropping
  its w = dropping_in known.room w.host w.writer

  scanned_so : (first rest : List Event) (value : Result Listing Stuck) → events ≡ first ++ rest → Runs caller (scan_program known.room) first value → Runs caller (on_ok (reads_listed known) value) rest (Ok contained) → HasReadContainer caller known m events contained
  scanned_so first rest (Err why) split scans on = absurd (not_stuck why contained on.1)
  scanned_so first rest (Ok listing) split scans on =
      let all : IsLawful m.state (first ++ rest) = subst (IsLawful m.state) split lawful in
      let here = legal_first m first rest all in
      let behind = legal_rest m first rest all in
      let n : Moment = moment_after m first in
      let sound : IsSoundAt n = sound_after m first here s in
      let t = top_run caller known.room 0 no_flat m first listing here s scans in
      let l : AreListed known.room t.found listing.droppings = t.droppings in
      let named = recursion_from_All (λ (d : Listed). IsNamed (in_room known.room d)) listing.droppings l.named in
      let h = reads_run caller known m listing.droppings [] n rest contained named (grows_after m first here s) sound behind on in
      let end : Moment = moment_after m (first ++ h.before) in
      let same : end ≡ moment_after n h.before = moment-append m first h.before in
      let grows : Grows n end = subst (Grows n) (sym same) (grows_after n h.before (legal_first n h.before (h.listing ∷ h.later) (subst (IsLawful n.state) h.split behind)) sound) in
      let saw = seen caller m first here s in
      let found = scan_finds caller known.room m n (calls_of caller first) t.found saw sound t.scans in
      record {
        before = first ++ h.before;
        listing = h.listing;
        later = h.later;
        split = split ∙ ap (λ es. first ++ es) h.split ∙ sym (append_assoc first h.before (h.listing ∷ h.later));
        listed_by = h.listed_by;
        lists = h.lists;
        has = record {
          room = h.room;
          reads = subst (AllByRecursion (IsReadSo caller known m end)) (sym h.all) (subst (λ x. AllByRecursion (IsReadSo caller known m x) h.writers) (sym same) h.reads);
          complete = λ d in_it stood.
              let a : Among d t.found = scan_found caller known.room m n (calls_of caller first) t.found d saw t.scans in_it stood in
              let (x, among_x, is) = any_found (λ (x : Listed). in_room known.room x ≡ d) listing.droppings (all_at (λ (f : Dropping). Any (λ (x : Listed). in_room known.room x ≡ f) listing.droppings) t.found d l.all a) in
              let b : Among (in_room known.room x) (map its h.writers) = subst (Among (in_room known.room x)) (sym h.droppings) (among_map (in_room known.room) listing.droppings x among_x) in
              let w = map_among its h.writers (in_room known.room x) b in
              subst (λ ws. Any (λ (w : WriterRead). its w ≡ d) ws) (sym h.all) (found_any (λ (w : WriterRead). its w ≡ d) h.writers w.0 w.1 (sym w.2 ∙ is));
          stood = subst (All (λ (w : WriterRead). Stood end (its w))) (sym h.all) (all_members (λ (w : WriterRead). Stood end (its w)) h.writers (λ w a.
              let b : Among (its w) (map (in_room known.room) listing.droppings) = subst (Among (its w)) h.droppings (among_map its h.writers w a) in
              let x = map_among (in_room known.room) listing.droppings (its w) b in
              let f : Among (in_room known.room x.0) t.found = among t.found (in_room known.room x.0) (all_at (λ (d : Listed). IsAmong (in_room known.room d) t.found) listing.droppings x.0 l.each x.1) in
              let stood : Stood n (in_room known.room x.0) = (all_at (λ (d : Dropping). (d.room ≡ known.room) × Stood n d) t.found (in_room known.room x.0) found.stood f).1 in
              subst (Stood end) (sym x.2) (stood_grows n end (in_room known.room x.0) grows stood)));
          differ = subst Differ (sym h.all) (differ_from known.room h.writers listing.droppings h.droppings l.ascend);
          truncs = subst (λ x. AreTruncsAt x known.room contained.truncs) (sym same) h.truncs;
        };
      }

  pub contained_run : Runs caller (contained_program known) events (Ok contained) → HasReadContainer caller known m events contained
  contained_run runs =
      let r = runs_in_two caller (scan_program known.room) (on_ok (reads_listed known)) events (Ok contained) runs in
      scanned_so r.first r.rest r.value r.all r.runs r.then_runs

  -- the writers that were read stand in the end, in that room
  pub contained_stood : Runs caller (contained_program known) events (Ok contained) → (contained.room ≡ known.room) × All (λ (w : WriterRead). Stood (moment_after m events) (dropping_in known.room w.host w.writer)) contained.writers
  contained_stood runs =
      let r = contained_run runs in
      let all : IsLawful m.state (r.before ++ r.listing ∷ r.later) = subst (IsLawful m.state) r.split lawful in
      let n : Moment = moment_after m r.before in
      let sound : IsSoundAt n = sound_after m r.before (legal_first m r.before (r.listing ∷ r.later) all) s in
      let same : moment_after m events ≡ moment_after n (r.listing ∷ r.later) = ap (moment_after m) r.split ∙ moment-append m r.before (r.listing ∷ r.later) in
      let grows : Grows n (moment_after m events) = subst (Grows n) (sym same) (grows_after n (r.listing ∷ r.later) (legal_rest m r.before (r.listing ∷ r.later) all) sound) in
      (r.has.room, all_members (λ (w : WriterRead). Stood (moment_after m events) (its w)) contained.writers (λ w a. stood_grows n (moment_after m events) (its w) grows (all_at (λ (x : WriterRead). Stood n (its x)) contained.writers w r.has.stood a)))
