-- What the line of a flattening shows of its container.
use Rattle.std.proofs.Common.{◌≡◌, ℕ, true, false, List, [], ◌∷◌, ◌++◌, length, Result, Ok, Err, refl, sym, ap, ◌∙◌, subst, append_assoc}
use Rattle.std.specs.List.{All}
use Rattle.flat_format.specs.declared.flat.Flat.{Flat}
use Rattle.flat_format.specs.declared.flat.TheConstants.{HEAD_SIZE}
use Rattle.flat_format.specs.Spelling.{SpellsFlat, flat_spelling}
use Rattle.flat_format.specs.Valid.{IsFlat}
use Rattle.flat_format.proofs.Facts.{one_flat}
use Rattle.turn_object.specs.Callers.{made_by}
use Rattle.mount_model.specs.declared.call.Call.{Call}
use Rattle.mount_model.specs.declared.call.Call.TheVariants.{Find, Greet, InstallFlat, PutFlat, StartFlat, SyncDropping, SyncFlat}
use Rattle.mount_model.specs.declared.reply.Reply.TheVariants.{Done, Room as Found, Started as Begun}
use Rattle.mount_model.specs.declared.row.Making.TheVariants as making
use Rattle.mount_model.specs.History.{Event}
use Rattle.mount_model.specs.Paths.{Name}
use Rattle.mount_model.specs.Step.{IsStep}
use Rattle.mount_sound.specs.Flats.{IsRightFlat}
use Rattle.mount_sound.specs.Owed.{IsLawful, May}
use Rattle.mount_model.specs.declared.stuck.Stuck.{Stuck}
use Rattle.mount_model.specs.Running.{Runs, unbroken}
use Rattle.mount_model.proofs.Flows.Facts.{runs_in_two}
use Rattle.mount_model.specs.Program.{done}
use Rattle.mount_model.specs.FlowReplies.{Tries, failure, given, on_ok, room_in}
use Rattle.index_reader.specs.declared.listing.Dropping.{Dropping as Listed}
use Rattle.index_reader.specs.declared.listing.Listing.{Listing}
use Rattle.index_reader.specs.Opening.{no_flat, open_at_program, scan_program}
use Rattle.gather_flow.specs.Gathering.{shares_from}
use Rattle.gather_flow.specs.OneIndex.{flat_of}
use Rattle.flatten_core.specs.declared.flattening.Flattened.{Flattened}
use Rattle.flatten_core.specs.declared.starting.Started.{Started}
use Rattle.flatten_core.specs.Covered.{covered}
use Rattle.flatten_core.specs.Flattening.{flatten_program, flattened, gathers, installs_gathered, lists, tells}
use Rattle.flatten_core.specs.Installing.{done_or, if_done, install_program, installs, puts, syncs, syncs_covered, syncs_flat, syncs_index, syncs_listed}
use Rattle.flatten_core.specs.Starting.{begins, begun, start_program}
use Rattle.outcomes.specs.Counts.{counts_of}
use Rattle.reader_laws.specs.Moments.{IsSoundAt, Moment, moment_after, next_moment}
use Rattle.reader_laws.specs.Seen.{Asked, calls_of}
use Rattle.reader_laws.proofs.Gathered.Facts.{its_writers, legal_first, legal_rest, moment-append, sound_after}
use Rattle.reader_laws.proofs.Facts.{answered, first_of}
use Rattle.flatten_laws.proofs.Facts.{IsOfView, IsTaken, gathered_viewed, viewed_taken}
use Rattle.headline_laws.specs.Changing.{IsAnswered}
use Rattle.headline_laws.specs.Flattening.{FlattensFile, IsFlattened}
use Rattle.reader_laws.specs.Naming.{IsRoomNamed}
use Rattle.headline_laws.proofs.Plays.Holds.Changes.{then_moment}
use Rattle.headline_laws.proofs.Plays.Callers.Finding.{name_found}
use Rattle.headline_laws.proofs.Plays.Callers.Standing.{Next}
use Rattle.headline_laws.proofs.Plays.Holds.Held.{answered_so, found_room, its_step, went_on}
use Rattle.headline_laws.proofs.Plays.Holds.Makings.{AreUnbroken, HasBytes, IsFlatOf, StandsInstalled, bytes_installed, bytes_on, bytes_put, bytes_synced, flat_after, flat_begun, runs_unbroken}
use Rattle.headline_laws.proofs.Plays.Holds.Covering.{went_ok, went_done, was_done, was_begun, spells_so, scanned_spells}
use Rattle.headline_laws.proofs.Plays.Holds.Viewed.{ViewedFile, viewed_behind}

-- ---- what stands

flattened_so : (n : ℕ) (m : Moment) (s : IsSoundAt m) (room flat : ℕ) (index : Flat) → SpellsFlat (flat_spelling index) index → StandsInstalled n flat (flat_spelling index) m s room → IsFlattened m room flat (length index.pieces) (counts_of index.covers)
flattened_so n m s room flat index spells i =
    let content : List ℕ = flat_spelling index in
    let both = s.flats room i.there i.has_room making.Flat flat content i.has in
    let right : IsRightFlat i.there content = both.0 in
    let w = its_writers m s room i.there i.has_room right.flat.covers right.entries right.covered in
    let its : SpellsFlat content right.flat = subst (λ b. SpellsFlat b right.flat) (sym right.spelled) (spells_so right.flat right.valid w.0 w.1) in
    let same : right.flat ≡ index = one_flat content right.flat index its spells in
    record {
      tree = s.shape.tree;
      told = s.shape.told;
      bytes = content;
      installed = record { room = i.there; there = i.has_room; has = i.has; right = right; kept = both.1 };
      right = right;
      many = ap (λ (f : Flat). length f.pieces) (sym same);
      counts = ap (λ (f : Flat). counts_of f.covers) (sym same);
    }

-- ---- the calls that install it

-- the caller installed the index in these events
record InstallsIt (n room flat : ℕ) (index : Flat) (m : Moment) (events : List Event) : Type 0 where
  pub before : List Event
  pub event : Event
  pub later : List Event
  pub split : events ≡ before ++ event ∷ later
  pub installs : IsAnswered n (InstallFlat flat) Done event
  pub stands : IsFlattened (next_moment (moment_after m before) event) room flat (length index.pieces) (counts_of index.covers)

module _ (n room flat : ℕ) (index : Flat) where
  behind : (m : Moment) (front events all : List Event) → all ≡ front ++ events → InstallsIt n room flat index (moment_after m front) events → InstallsIt n room flat index m all
  behind m front events all is i = record {
    before = front ++ i.before;
    event = i.event;
    later = i.later;
    split = is ∙ ap (λ z. front ++ z) i.split ∙ sym (append_assoc front i.before (i.event ∷ i.later));
    installs = i.installs;
    stands = subst (λ (x : Moment). IsFlattened (next_moment x i.event) room flat (length index.pieces) (counts_of index.covers)) (sym (moment-append m front i.before)) i.stands;
  }

  -- how far it is
  record IsAt (m : Moment) (events : List Event) : Type 0 where
    pub lawful : IsLawful m.state events
    pub sound : IsSoundAt m
    pub whole : AreUnbroken n events
    pub its : IsFlatOf n flat room m.state

  whole_first : (first rest : List Event) → AreUnbroken n (first ++ rest) → AreUnbroken n first
  whole_first [] rest whole = tt
  whole_first (e ∷ first) rest whole = (whole.0, whole_first first rest whole.1)

  whole_rest : (first rest : List Event) → AreUnbroken n (first ++ rest) → AreUnbroken n rest
  whole_rest [] rest whole = whole
  whole_rest (e ∷ first) rest whole = whole_rest first rest whole.1

  at_first : (m : Moment) (events first rest : List Event) → events ≡ first ++ rest → IsAt m events → IsAt m first
  at_first m events first rest is a =
      record { lawful = legal_first m first rest (subst (IsLawful m.state) is a.lawful); sound = a.sound; whole = whole_first first rest (subst (AreUnbroken n) is a.whole); its = a.its }

  at_rest : (m : Moment) (events first rest : List Event) → events ≡ first ++ rest → IsAt m events → IsAt (moment_after m first) rest
  at_rest m events first rest is a =
      let all : IsLawful m.state (first ++ rest) = subst (IsLawful m.state) is a.lawful in
      let whole : AreUnbroken n (first ++ rest) = subst (AreUnbroken n) is a.whole in
      let one : IsLawful m.state first = legal_first m first rest all in
      record { lawful = legal_rest m first rest all; sound = sound_after m first one a.sound; whole = whole_rest first rest whole; its = flat_after n flat room m first one a.sound (whole_first first rest whole) a.its }

  module _ (spells : SpellsFlat (flat_spelling index) index) where
    abbrev Put : Moment → Type 0
    Put m = HasBytes n flat (flat_spelling index) m.state

    installs_so : (m : Moment) (events : List Event) (u : Unit {0}) → IsAt m events → Put m → Runs n (installs flat) events (Ok u) → InstallsIt n room flat index m events
    installs_so m events u a put runs =
        let f = first_of n (InstallFlat flat) (λ reply. done (done_or reply)) events (Ok u) runs in
        let told : f.event.reply ≡ Done = was_done f.event.reply u f.rest.1 in
        let there : Moment = moment_after m f.before in
        let first = at_first m events f.before (f.event ∷ f.later) f.split a in
        let b = at_rest m events f.before (f.event ∷ f.later) f.split a in
        let now : IsSoundAt (next_moment there f.event) = sound_after there (f.event ∷ []) (b.lawful.0, b.lawful.1, tt) b.sound in
        let step : IsStep there.state n (unbroken (InstallFlat flat)) Done f.event.after = its_step n (InstallFlat flat) Done there.state f.event f.by_caller f.asked told b.lawful.1 in
        let has = bytes_installed n flat (flat_spelling index) room there f.event b.sound now b.its (bytes_on n flat (flat_spelling index) m f.before first.lawful a.sound f.waits put) step in
        record {
          before = f.before;
          event = f.event;
          later = f.later;
          split = f.split;
          installs = answered_so n (InstallFlat flat) Done f.event f.by_caller f.asked told;
          stands = flattened_so n (next_moment there f.event) now room flat index spells has;
        }

    syncs_flat_so : (m : Moment) (events : List Event) (u : Unit {0}) → IsAt m events → Put m → Runs n (syncs_flat flat) events (Ok u) → InstallsIt n room flat index m events
    syncs_flat_so m events u a put runs =
        let f = first_of n (SyncFlat flat) (if_done (installs flat)) events (Ok u) runs in
        let w = went_done f.event.reply (installs flat) n f.later u f.rest in
        let there : Moment = moment_after m f.before in
        let first = at_first m events f.before (f.event ∷ f.later) f.split a in
        let b = at_rest m events f.before (f.event ∷ f.later) f.split a in
        let step : IsStep there.state n (unbroken (SyncFlat flat)) Done f.event.after = its_step n (SyncFlat flat) Done there.state f.event f.by_caller f.asked w.0 b.lawful.1 in
        let synced : Put (next_moment there f.event) = bytes_synced n flat (flat_spelling index) there f.event.after b.sound (bytes_on n flat (flat_spelling index) m f.before first.lawful a.sound f.waits put) step in
        behind m f.before (f.event ∷ f.later) events f.split
        (behind there (f.event ∷ []) f.later (f.event ∷ f.later) refl (installs_so (next_moment there f.event) f.later u (at_rest there (f.event ∷ f.later) (f.event ∷ []) f.later refl b) synced w.1))

    puts_so : (m : Moment) (events : List Event) (u : Unit {0}) → IsAt m events → Runs n (puts flat (flat_spelling index)) events (Ok u) → InstallsIt n room flat index m events
    puts_so m events u a runs =
        let q : Call = PutFlat flat (flat_spelling index) in
        let f = first_of n q (if_done (syncs_flat flat)) events (Ok u) runs in
        let w = went_done f.event.reply (syncs_flat flat) n f.later u f.rest in
        let there : Moment = moment_after m f.before in
        let b = at_rest m events f.before (f.event ∷ f.later) f.split a in
        let may : May there.state n (unbroken q) = subst (λ ask. May there.state n ask) f.asked (subst (λ c. May there.state c f.event.ask) f.by_caller b.lawful.0) in
        let step : IsStep there.state n (unbroken q) Done f.event.after = its_step n q Done there.state f.event f.by_caller f.asked w.0 b.lawful.1 in
        let put : Put (next_moment there f.event) = bytes_put n flat (flat_spelling index) there f.event.after b.sound may step in
        behind m f.before (f.event ∷ f.later) events f.split
        (behind there (f.event ∷ []) f.later (f.event ∷ f.later) refl (syncs_flat_so (next_moment there f.event) f.later u (at_rest there (f.event ∷ f.later) (f.event ∷ []) f.later refl b) put w.1))

    syncs_so : (ds : List Listed) (m : Moment) (events : List Event) (u : Unit {0}) → IsAt m events → Runs n (syncs room flat (flat_spelling index) ds) events (Ok u) → InstallsIt n room flat index m events
    syncs_so [] m events u a runs = puts_so m events u a runs
    syncs_so (d ∷ ds) m events u a runs =
        let next : Tries (Unit {0}) = syncs room flat (flat_spelling index) ds in
        let f = first_of n (SyncDropping room d.host d.writer true) (if_done (syncs_index room d next)) events (Ok u) runs in
        let w = went_done f.event.reply (syncs_index room d next) n f.later u f.rest in
        let g = first_of n (SyncDropping room d.host d.writer false) (if_done next) f.later (Ok u) w.1 in
        let x = went_done g.event.reply next n g.later u g.rest in
        let front : List Event = f.before ++ f.event ∷ (g.before ++ g.event ∷ []) in
        let is : events ≡ front ++ g.later = f.split ∙ ap (λ z. f.before ++ f.event ∷ z) (g.split ∙ sym (append_assoc g.before (g.event ∷ []) g.later)) ∙ sym (append_assoc f.before (f.event ∷ (g.before ++ g.event ∷ [])) g.later) in
        behind m front g.later events is (syncs_so ds (moment_after m front) g.later u (at_rest m events front g.later is a) x.1)

  install_so : (m : Moment) (events : List Event) (u : Unit {0}) → IsAt m events → IsFlat index → Runs n (install_program room flat index.covers (flat_spelling index)) events (Ok u) → InstallsIt n room flat index m events
  install_so m events u a valid runs =
      let t = runs_in_two n (scan_program room) (on_ok (syncs_listed room flat index.covers (flat_spelling index))) events (Ok u) runs in
      let w = went_ok t.value (syncs_listed room flat index.covers (flat_spelling index)) n t.rest u t.then_runs in
      of w.0 t.first t.rest t.all (subst (λ v. Runs n (scan_program room) t.first v) w.1 t.runs) (covered w.0.droppings HEAD_SIZE index.covers []) refl w.2
    where
      of : (listing : Listing) (first rest : List Event) → events ≡ first ++ rest → Runs n (scan_program room) first (Ok listing) → (result : Result (List Listed) ℕ) → covered listing.droppings HEAD_SIZE index.covers [] ≡ result → Runs n (syncs_covered room flat (flat_spelling index) result) rest (Ok u) → InstallsIt n room flat index m events
      of listing first rest all scans (Err place) is on = absurd (clash on.1)
        where
          clash : {why : Stuck} → ◌≡◌ {A = Result (Unit {0}) Stuck} (Err why) (Ok u) → ⊥
          clash e = cc
      of listing first rest all scans (Ok ds) is on =
          let one = at_first m events first rest all a in
          let spells : SpellsFlat (flat_spelling index) index = scanned_spells n room m first listing index HEAD_SIZE ds one.lawful a.sound scans valid is in
          behind m first rest events all (syncs_so spells ds (moment_after m first) rest u (at_rest m events first rest all a) on)

-- ---- the whole flattening

told_is : (a b : Flattened) → ◌≡◌ {A = Result Flattened Stuck} (Ok a) (Ok b) → a ≡ b
told_is a b e = cc

module _ (n : ℕ) (m : Moment) (started : Started) where
  -- of what was gathered so much is told
  record Tells (events : List Event) (told : Flattened) : Type 0 where
    pub index : Flat
    pub is : told ≡ flattened started index
    pub installs : InstallsIt n started.room started.flat index m events
    pub gathering : List Event
    pub rest : List Event
    pub all : events ≡ gathering ++ rest
    pub viewed : IsOfView n started.room index m gathering

  lists_so : (events : List Event) (told : Flattened) → IsAt n started.room started.flat no_flat m events → Runs n (lists started) events (Ok told) → Tells events told
  lists_so events told a runs =
      let t = runs_in_two n (open_at_program started.room) (on_ok (gathers started)) events (Ok told) runs in
      let w = went_ok t.value (gathers started) n t.rest told t.then_runs in
      let u = runs_in_two n (shares_from 1 w.0 0 []) (on_ok (installs_gathered started)) t.rest (Ok told) w.2 in
      let x = went_ok u.value (installs_gathered started) n u.rest told u.then_runs in
      let index : Flat = flat_of x.0.listed x.0.shares in
      let v = runs_in_two n (install_program started.room started.flat index.covers (flat_spelling index)) (tells (flattened started index)) u.rest (Ok told) x.2 in
      let y = went_ok v.value (λ installed. done (Ok (flattened started index))) n v.rest told v.then_runs in
      let front : List Event = t.first ++ u.first in
      let all : events ≡ front ++ u.rest = t.all ∙ ap (λ z. t.first ++ z) u.all ∙ sym (append_assoc t.first u.first u.rest) in
      let lawful : IsLawful m.state (t.first ++ u.first) = legal_first m front u.rest (subst (IsLawful m.state) all a.lawful) in
      let viewed : IsOfView n started.room index m (t.first ++ u.first) =
      gathered_viewed n started.room m t.first u.first w.0 x.0 lawful a.sound (subst (λ r. Runs n (open_at_program started.room) t.first r) w.1 t.runs) (subst (λ r. Runs n (shares_from 1 w.0 0 []) u.first r) x.1 u.runs) in
      let taken : IsTaken started.room index (moment_after m (t.first ++ u.first)).state = viewed_taken n started.room index m (t.first ++ u.first) lawful a.sound viewed in
      let here : IsAt n started.room started.flat index (moment_after m front) u.rest = at_rest n started.room started.flat index m events front u.rest all (record { lawful = a.lawful; sound = a.sound; whole = a.whole; its = a.its }) in
      let first = at_first n started.room started.flat index (moment_after m front) u.rest v.first v.rest v.all here in
      let i = install_so n started.room started.flat index (moment_after m front) v.first y.0 first taken.valid (subst (λ r. Runs n (install_program started.room started.flat index.covers (flat_spelling index)) v.first r) y.1 v.runs) in
      record {
        index = index;
        is = sym (told_is (flattened started index) told y.2.1);
        installs = behind n started.room started.flat index m front u.rest events all (more i.before i.event i.later v.first v.rest u.rest index (moment_after m front) i v.all);
        gathering = front;
        rest = u.rest;
        all = all;
        viewed = viewed;
      }
    where
      more : (before : List Event) (event : Event) (later first rest whole : List Event) (index : Flat) (x : Moment) (i : InstallsIt n started.room started.flat index x first) → whole ≡ first ++ rest → InstallsIt n started.room started.flat index x whole
      more before event later first rest whole index x i is = record {
        before = i.before;
        event = i.event;
        later = i.later ++ rest;
        split = is ∙ ap (λ z. z ++ rest) i.split ∙ append_assoc i.before (i.event ∷ i.later) rest;
        installs = i.installs;
        stands = i.stands;
      }

pub flattens : (start : Moment) (n : ℕ) (before greeting mine : List Event) (name : Name) (told : Flattened) → IsSoundAt start → Next start (before ++ greeting) mine → All (λ (a : Asked). a.ask.call ≡ Greet) (calls_of n greeting) → Runs n (flatten_program name) mine (Ok told)
    → FlattensFile start n (record { before = before; events = greeting ++ mine }) name told.flat told.pieces (counts_of told.covers)
flattens start n before greeting mine name told sound_start next greets runs =
    let lawful = next.lawful in
    let sound = next.sound in
    let m : Moment = moment_after start (before ++ greeting) in
    let t = runs_in_two n (start_program name) (on_ok lists) mine (Ok told) runs in
    let w = went_ok t.value lists n t.rest told t.then_runs in
    let started : Started = w.0 in
    let f = first_of n (Find name) (λ reply. given (room_in reply) (failure reply) begins) t.first (Ok started) (subst (λ r. Runs n (start_program name) t.first r) w.1 t.runs) in
    let a = went_on (room_in f.event.reply) (failure f.event.reply) begins n f.later started f.rest in
    let room_told : f.event.reply ≡ Found a.0 = found_room f.event.reply a.0 a.1 in
    let g = first_of n (StartFlat a.0) (λ reply. done (begun a.0 reply)) f.later (Ok started) a.2 in
    let b = was_begun a.0 g.event.reply started g.rest.1 in
    let front : List Event = f.before ++ f.event ∷ (g.before ++ g.event ∷ []) in
    let after : List Event = g.later ++ t.rest in
    let all : mine ≡ front ++ after =
    t.all ∙ ap (λ z. z ++ t.rest) (f.split ∙ ap (λ z. f.before ++ f.event ∷ z) (g.split ∙ sym (append_assoc g.before (g.event ∷ []) g.later)) ∙ sym (append_assoc f.before (f.event ∷ (g.before ++ g.event ∷ [])) g.later)) ∙ append_assoc front g.later t.rest in
    let find_all : IsLawful m.state (f.before ++ f.event ∷ (g.before ++ g.event ∷ after)) = subst (IsLawful m.state) (all ∙ append_assoc f.before (f.event ∷ (g.before ++ g.event ∷ [])) after ∙ ap (λ z. f.before ++ f.event ∷ z) (append_assoc g.before (g.event ∷ []) after)) lawful in
    let at_find : Moment = moment_after m f.before in
    let from_find : IsLawful at_find.state (f.event ∷ (g.before ++ g.event ∷ after)) = legal_rest m f.before (f.event ∷ (g.before ++ g.event ∷ after)) find_all in
    let s_find : IsSoundAt at_find = sound_after m f.before (legal_first m f.before (f.event ∷ (g.before ++ g.event ∷ after)) find_all) sound in
    let found : Moment = next_moment at_find f.event in
    let s_found : IsSoundAt found = sound_after at_find (f.event ∷ []) (from_find.0, from_find.1, tt) s_find in
    let at_start : Moment = moment_after found g.before in
    let from_start : IsLawful at_start.state (g.event ∷ after) = legal_rest found g.before (g.event ∷ after) from_find.2 in
    let s_start : IsSoundAt at_start = sound_after found g.before (legal_first found g.before (g.event ∷ after) from_find.2) s_found in
    let now : Moment = next_moment at_start g.event in
    let s_now : IsSoundAt now = sound_after at_start (g.event ∷ []) (from_start.0, from_start.1, tt) s_start in
    let find_step : IsStep at_find.state n (unbroken (Find name)) (Found a.0) f.event.after = its_step n (Find name) (Found a.0) at_find.state f.event f.by_caller f.asked room_told from_find.1 in
    let start_step : IsStep at_start.state n (unbroken (StartFlat a.0)) (Begun started.flat) g.event.after = its_step n (StartFlat a.0) (Begun started.flat) at_start.state g.event g.by_caller g.asked b.0 from_start.1 in
    let its : IsFlatOf n started.flat a.0 now.state = flat_begun n started.flat a.0 at_start g.event.after s_start start_step in
    let whole : AreUnbroken n (front ++ after) = subst (AreUnbroken n) all (runs_unbroken n (flatten_program name) mine (Ok told) runs) in
    let here : IsAt n started.room started.flat no_flat now after = record { lawful = from_start.2; sound = s_now; whole = whole_rest n started.room started.flat no_flat front after whole; its = subst (λ r. IsFlatOf n started.flat r now.state) (sym b.1) its } in
    let rest : IsAt n started.room started.flat no_flat (moment_after now g.later) t.rest = at_rest n started.room started.flat no_flat now after g.later t.rest refl here in
    let k = lists_so n (moment_after now g.later) started t.rest told rest w.2 in
    gathered_so a.0 started t.first t.rest f.before f.event f.later g.before g.event g.later t.all f.split g.split (sym b.1) k room_told f.by_caller f.asked f.waits
    (λ tree has. name_found at_find.state n name a.0 f.event.after tree (answered at_find.state n (Find name) (unbroken (Find name)) (Found a.0) f.event.after refl find_step) has)
  where
    regroup : (first : List Event) (finding : Event) (second : List Event) (starting : Event) (third : List Event) (last : Event) → first ++ (finding ∷ (second ++ starting ∷ third) ++ last ∷ []) ≡ (first ++ finding ∷ (second ++ starting ∷ [])) ++ (third ++ last ∷ [])
    regroup first finding second starting third last =
        ap (λ z. first ++ finding ∷ z) (append_assoc second (starting ∷ third) (last ∷ []) ∙ sym (append_assoc second (starting ∷ []) (third ++ last ∷ []))) ∙ sym (append_assoc first (finding ∷ (second ++ starting ∷ [])) (third ++ last ∷ []))

    shown : (room : ℕ) (started : Started) (index : Flat) (first : List Event) (finding : Event) (second : List Event) (starting : Event) (after front : List Event) → front ≡ first ++ finding ∷ (second ++ starting ∷ []) → mine ≡ front ++ after → room ≡ started.room → told ≡ flattened started index
        → (i : InstallsIt n started.room started.flat index (next_moment (moment_after (next_moment (moment_after (moment_after start (before ++ greeting)) first) finding) second) starting) after) → finding.reply ≡ Found room → finding.caller ≡ n → finding.ask ≡ unbroken (Find name)
        → moment_after (moment_after start (before ++ greeting)) front ≡ next_moment (moment_after (next_moment (moment_after (moment_after start (before ++ greeting)) first) finding) second) starting
        → IsRoomNamed (moment_after (moment_after start (before ++ greeting)) first) name room → ViewedFile start n before greeting mine first finding started.room index → FlattensFile start n (record { before = before; events = greeting ++ mine }) name told.flat told.pieces (counts_of told.covers)
    shown room started index first finding second starting after front is all same told_so i found own asked is_now named v =
        let m : Moment = moment_after start (before ++ greeting) in
        let more : List Event = second ++ starting ∷ i.before in
        let split : mine ≡ first ++ (finding ∷ more ++ i.event ∷ i.later) =
        all ∙ ap (λ z. z ++ after) is ∙ append_assoc first (finding ∷ (second ++ starting ∷ [])) after ∙ ap (λ z. first ++ finding ∷ z) (append_assoc second (starting ∷ []) after ∙ ap (λ z. second ++ starting ∷ z) i.split ∙ sym (append_assoc second (starting ∷ i.before) (i.event ∷ i.later))) in
        let until : moment_after start (before ++ ((greeting ++ first) ++ (finding ∷ more ++ i.event ∷ []))) ≡ next_moment (moment_after (moment_after m front) i.before) i.event =
        sym (then_moment start before (greeting ++ first) (finding ∷ more ++ i.event ∷ []))
        ∙ ap (λ x. moment_after x (finding ∷ more ++ i.event ∷ [])) (sym (then_moment start before greeting first))
        ∙ sym (moment-append m first (finding ∷ more ++ i.event ∷ []))
        ∙ ap (moment_after m) (regroup first finding second starting i.before i.event ∙ ap (λ z. z ++ (i.before ++ i.event ∷ [])) (sym is))
        ∙ moment-append m front (i.before ++ i.event ∷ [])
        ∙ moment-append (moment_after m front) i.before (i.event ∷ []) in
        let stands : IsFlattened (next_moment (moment_after (moment_after m front) i.before) i.event) started.room started.flat (length index.pieces) (counts_of index.covers) = subst (λ (x : Moment). IsFlattened (next_moment (moment_after x i.before) i.event) started.room started.flat (length index.pieces) (counts_of index.covers)) (sym is_now) i.stands in
        let shown_there = subst (λ (x : Moment). IsFlattened x started.room started.flat (length index.pieces) (counts_of index.covers)) (sym until) stands in
        subst (λ (t : Flattened). FlattensFile start n (record { before = before; events = greeting ++ mine }) name t.flat t.pieces (counts_of t.covers)) (sym told_so) (record {
          room = room;
          earlier = greeting ++ first;
          finding = finding;
          more = more;
          installing = i.event;
          later = i.later;
          split = ap (λ z. greeting ++ z) split ∙ sym (append_assoc greeting first (finding ∷ more ++ i.event ∷ i.later));
          finds = answered_so n (Find name) (Found room) finding own asked found;
          named = subst (λ x. IsRoomNamed x name room) (then_moment start before greeting first) named;
          installs = i.installs;
          stands = subst (λ r. IsFlattened (moment_after start (before ++ ((greeting ++ first) ++ (finding ∷ more ++ i.event ∷ [])))) r started.flat (length index.pieces) (counts_of index.covers)) (sym same) shown_there;
          seen = v.file;
          sees = v.sees;
          in_room = v.in_room ∙ sym same;
          counted = v.counted;
          shown = (index.pieces, v.shown, refl);
        })

    -- what was told of what was gathered
    gathered_so : (room : ℕ) (started : Started) (begun gathered first : List Event) (finding : Event) (found second : List Event) (starting : Event) (third : List Event) → mine ≡ begun ++ gathered → begun ≡ first ++ finding ∷ found → found ≡ second ++ starting ∷ third → room ≡ started.room
        → Tells n (moment_after (next_moment (moment_after (next_moment (moment_after (moment_after start (before ++ greeting)) first) finding) second) starting) third) started gathered told → finding.reply ≡ Found room → finding.caller ≡ n → finding.ask ≡ unbroken (Find name) → made_by n first ≡ []
        → IsRoomNamed (moment_after (moment_after start (before ++ greeting)) first) name room → FlattensFile start n (record { before = before; events = greeting ++ mine }) name told.flat told.pieces (counts_of told.covers)
    gathered_so room started begun gathered first finding found second starting third all_is begun_is found_is same k told_room own asked waits named =
        let m : Moment = moment_after start (before ++ greeting) in
        let from : Moment = next_moment (moment_after m first) finding in
        let now : Moment = next_moment (moment_after from second) starting in
        let front : List Event = first ++ finding ∷ (second ++ starting ∷ []) in
        let parted : begun ≡ front ++ third = begun_is ∙ ap (λ z. first ++ finding ∷ z) (found_is ∙ sym (append_assoc second (starting ∷ []) third)) ∙ sym (append_assoc first (finding ∷ (second ++ starting ∷ [])) third) in
        shown room started k.index first finding second starting (third ++ gathered) front refl (all_is ∙ ap (λ z. z ++ gathered) parted ∙ append_assoc front third gathered) same k.is (behind n started.room started.flat k.index now third gathered (third ++ gathered) refl k.installs) told_room own asked
        (moment-append m first (finding ∷ (second ++ starting ∷ [])) ∙ moment-append from second (starting ∷ [])) named
        (viewed_behind start n before greeting mine begun gathered first finding found second starting third k.gathering k.rest started.room k.index sound_start next greets all_is begun_is found_is k.all waits own k.viewed)
