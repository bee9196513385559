-- A name that was found free, or whose container was cut to nothing.
use Rattle.std.proofs.Common.{◌≡◌, ◌⊎◌, inl, inr, ℕ, suc, ◌<◌, ◌≤◌, Bool, true, false, List, [], ◌∷◌, ◌++◌, Option, Some, None, Result, Ok, Err, refl, sym, ap, ◌∙◌, subst, arith, append_assoc, append-nil}
use Rattle.std.specs.Prelude.{slice_get}
use Rattle.std.specs.List.{AllByRecursion}
use Rattle.plfs_types.specs.declared.entries.Entry.{Entry}
use Rattle.plain_file.proofs.Facts.{cases_Option}
use Rattle.store_laws.specs.There.{IsRoomOf}
use Rattle.mount_model.specs.declared.call.Call.{Call}
use Rattle.mount_model.specs.declared.call.Call.TheVariants.{Find, Greet, Mark}
use Rattle.mount_model.specs.declared.reply.Refusal.TheVariants as refusal
use Rattle.mount_model.specs.declared.reply.Reply.{Reply}
use Rattle.mount_model.specs.declared.reply.Reply.TheVariants as reply
use Rattle.mount_model.specs.History.{Event, state_after}
use Rattle.mount_model.specs.Paths.{Name, trunc_path}
use Rattle.mount_model.specs.State.{State}
use Rattle.mount_core.specs.Memory.{HadMemory}
use Rattle.mount_sound.specs.Owed.{IsLawful}
use Rattle.mount_model.specs.Program.{done}
use Rattle.mount_model.specs.declared.stuck.Stuck.{Stuck}
use Rattle.mount_model.specs.declared.stuck.Stuck.TheVariants as stuck
use Rattle.mount_model.specs.FlowReplies.{failure, given, room_in}
use Rattle.mount_model.specs.Running.{Runs, unbroken}
use Rattle.mount_model.proofs.Flows.Facts.{runs_next}
use Rattle.lone_flow.specs.Driving.{Makes, greets_first}
use Rattle.trunc_rename.specs.Holding.{holds}
use Rattle.trunc_rename.specs.Truncating.{lists_metadata, truncate_program}
use Rattle.reader_laws.specs.Moments.{Dropping, HadTrunc, IsNamed, IsSoundAt, Moment, file_then, landed_by, moment_after, next_moment}
use Rattle.reader_laws.proofs.Gathered.Facts.{follows, in_a_room, in_tree, legal_first, legal_rest, moment-append, sound_after}
use Rattle.reader_laws.proofs.Gathered.Moments.Bounds.{trunc_stays, truncs_above}
use Rattle.reader_laws.proofs.Gathered.Moments.Stepping.{IsAboveThen}
use Rattle.headline_laws.specs.Changing.{Change, IsFreeName, IssuesAbove, TruncatesFile}
use Rattle.reader_laws.specs.Naming.{IsRoomNamed}
use Rattle.headline_laws.specs.Refusing.{FindsNone}
use Rattle.packing_laws.proofs.Facts.{Comes, IsMade, Reaches, is_made}
use Rattle.copy_core.specs.Clearing.{Clears, cleared_as, cleared_behind, free_as, free_program}
use Rattle.put_program.proofs.Copyings.Asked.{Holds, Truncates, all_asked, hold_asks, none_behind, truncate_asks, truncate_last}
use Rattle.put_program.proofs.Copyings.Emptied.{free_found, none_own, refused_find, truncate_shows}
use Rattle.put_program.proofs.Copyings.Spared.{AllSpare, HasContainer, LandsOnly, MarksNone, MovesNone, all_spared, landed_same, lets_events, named_later, stays_next}

-- ---- a container that was cut to nothing

-- The container had the name as it was found, and keeps it. A truncate to nothing stands there, newer than all that has landed there, and no older than each
-- truncate. From some moment on whatever is issued there is newer.
pub record Emptied (to : Moment) (name : Name) : Type 0 where
  pub found : Moment
  pub sound : IsSoundAt found
  pub onward : List Event
  pub lawful : IsLawful found.state onward
  pub ends : moment_after found onward ≡ to
  pub moves : AllByRecursion (λ (e : Event). MovesNone e.ask.call) onward
  pub room : ℕ
  pub named : IsRoomNamed found name room
  pub stamp : ℕ
  pub stands : HadTrunc to room stamp 0
  pub older : (d : Dropping) → IsNamed d → d.room ≡ room → AllByRecursion (λ (e : Entry). e.stamp < stamp) (landed_by to d)
  pub newest : (earlier size : ℕ) → HadTrunc to room earlier size → earlier ≤ stamp
  pub once : Moment
  pub once_on : Comes once to
  pub below : IssuesAbove once room stamp

pub all_rest : (P : Event → Type 0) (first rest : List Event) → AllByRecursion P (first ++ rest) → AllByRecursion P rest
all_rest P [] rest all = all
all_rest P (x ∷ first) rest all = all_rest P first rest all.1

-- the container of a name at a moment
pub container_of : (m : Moment) → IsSoundAt m → (name : Name) (room : ℕ) → IsRoomNamed m name room → HasContainer m room name
container_of m sound name room named = (let is : IsRoomOf sound.shape.tree name room = named sound.shape.tree sound.shape.told in record { tree = sound.shape.tree; told = sound.shape.told; room = is.room; there = is.has_room; is = is.named })

module _ (m : Moment) (name : Name) (events : List Event) (stamp : ℕ) (sound : IsSoundAt m) (lawful : IsLawful m.state events) (own : AllByRecursion (λ (e : Event). e.caller ≡ 0) events)
    (runs : Runs 0 (greets_first (truncate_program name 0)) events (Ok stamp)) (t : TruncatesFile m 0 (record { before = []; events = events }) name 0 stamp) where
  abbrev c : Change
  c = t.change

  -- from where it was found up to the truncate, and from there on
  abbrev upto : List Event
  upto = c.finding ∷ c.between ++ (c.holding ∷ c.more)

  abbrev rest : List Event
  rest = c.changing ∷ c.later

  abbrev found : Moment
  found = moment_after m c.earlier

  abbrev until : Moment
  until = moment_after m (c.earlier ++ upto)

  abbrev once : Moment
  once = next_moment until c.changing

  split_found : events ≡ c.earlier ++ (upto ++ rest)
  split_found = t.made.split ∙ sym (ap (λ z. c.earlier ++ (c.finding ∷ z)) (append_assoc c.between (c.holding ∷ c.more) rest))

  split : events ≡ (c.earlier ++ upto) ++ rest
  split = split_found ∙ sym (append_assoc c.earlier upto rest)

  lawful_found : IsLawful found.state (upto ++ rest)
  lawful_found = legal_rest m c.earlier (upto ++ rest) (subst (λ (es : List Event). IsLawful m.state es) split_found lawful)

  sound_found : IsSoundAt found
  sound_found = sound_after m c.earlier (legal_first m c.earlier (upto ++ rest) (subst (λ (es : List Event). IsLawful m.state es) split_found lawful)) sound

  whole : IsLawful m.state ((c.earlier ++ upto) ++ rest)
  whole = subst (λ (es : List Event). IsLawful m.state es) split lawful

  lawful_rest : IsLawful until.state rest
  lawful_rest = legal_rest m (c.earlier ++ upto) rest whole

  sound_until : IsSoundAt until
  sound_until = sound_after m (c.earlier ++ upto) (legal_first m (c.earlier ++ upto) rest whole) sound

  one : IsLawful until.state (c.changing ∷ [])
  one = (lawful_rest.0, lawful_rest.1, tt)

  sound_once : IsSoundAt once
  sound_once = sound_after until (c.changing ∷ []) one sound_until

  then_until : until ≡ moment_after found upto
  then_until = moment-append m c.earlier upto

  asked : (w : ℕ) → AllByRecursion (λ (e : Event). Truncates w e.ask.call) (c.earlier ++ (upto ++ rest))
  asked w = subst (λ (es : List Event). AllByRecursion (λ (e : Event). Truncates w e.ask.call) es) split_found (all_asked (Truncates w) (greets_first (truncate_program name 0)) events (Ok stamp) ((tt, tt), λ reply. truncate_asks w name 0) own runs)

  asked_found : (w : ℕ) → AllByRecursion (λ (e : Event). Truncates w e.ask.call) (upto ++ rest)
  asked_found w = all_rest (λ (e : Event). Truncates w e.ask.call) c.earlier (upto ++ rest) (asked w)

  asked_rest : (w : ℕ) → AllByRecursion (λ (e : Event). Truncates w e.ask.call) rest
  asked_rest w = all_rest (λ (e : Event). Truncates w e.ask.call) upto rest (asked_found w)

  later_marks : AllByRecursion (λ (e : Event). MarksNone e.ask.call) c.later
  later_marks = none_behind (greets_first (truncate_program name 0)) events (c.earlier ++ upto) c.later c.changing c.holder 0 t.top (Ok stamp) (λ h s top is rep. absurd (no_mark is), λ rep. truncate_last name 0) own runs split t.made.changes.asked
    where
      no_mark : {h s top : ℕ} → Greet ≡ Mark h s top → ⊥
      no_mark is = cc

  later_spares : AllSpare 0 c.later
  later_spares = zipped c.later (asked_rest 0).1 later_marks
    where
      zipped : (es : List Event) → AllByRecursion (λ (e : Event). Truncates 0 e.ask.call) es → AllByRecursion (λ (e : Event). MarksNone e.ask.call) es → AllSpare 0 es
      zipped [] asks marks = tt
      zipped (e ∷ es) asks marks = ((asks.0.0, marks.0, asks.0.1), zipped es asks.1 marks.1)

  front_moves : (first later : List Event) → AllByRecursion (λ (e : Event). Truncates 0 e.ask.call) (first ++ later) → AllByRecursion (λ (e : Event). MovesNone e.ask.call) first
  front_moves [] later all = tt
  front_moves (e ∷ first) later all = (all.0.1, front_moves first later all.1)

  there_until : HasContainer until c.room name
  there_until = subst (λ x. HasContainer x c.room name) (sym then_until) (named_later found upto c.room name (legal_first found upto rest lawful_found) (front_moves upto rest (asked_found 0)) (container_of found sound_found name c.room t.made.named))

  there_once : HasContainer once c.room name
  there_once = (stays_next until c.changing c.room name one there_until).named (asked_rest 0).0.1

  absent : HadTrunc until c.room stamp 0 → ⊥
  absent had =
      let r = in_a_room (slice_get sound_until.shape.tree.rooms c.room) (trunc_path stamp 0) had.bytes (in_tree until sound_until c.room (trunc_path stamp 0) had.bytes had.there) in
      let less : stamp < stamp = (t.truncated.above sound_until.shape.tree r.0 sound_until.shape.told r.1).truncates stamp 0 had.bytes (record { is_item = had.is_item; there = r.2 }) in
      omega (arith, less)

  above : IsAboveThen until c.room stamp
  above = truncs_above until (c.changing ∷ []) c.room stamp 0 one sound_until absent t.truncated.stands

  newest_once : (s z : ℕ) → HadTrunc once c.room s z → s ≤ stamp
  newest_once s z had = elim (cases_Option (file_then until c.room (trunc_path s z))) as (λ _. s ≤ stamp) [
    | inr (bytes, there) ↦ (let less : s < stamp = above.truncates s z (record { is_item = had.is_item; bytes = bytes; there = there }) in omega (arith, less))
    | inl none ↦
        (let same : s ≡ stamp = (stays_next until c.changing c.room name one there_until).one_more s z stamp 0 (λ was. no_file (file_then until c.room (trunc_path s z)) was.bytes none was.there) absent had t.truncated.stands in omega (arith, same))
  ]
    where
      no_file : (o : Option (List ℕ)) (bytes : List ℕ) → o ≡ None → o ≡ Some bytes → ⊥
      no_file o bytes none some = cc

  older_until : (d : Dropping) → IsNamed d → d.room ≡ c.room → AllByRecursion (λ (e : Entry). e.stamp < stamp) (landed_by until d)
  older_until d named its = above.entries d named its

  landed_rest : (d : Dropping) → IsNamed d → landed_by (moment_after once c.later) d ≡ landed_by until d
  landed_rest d named = landed_same until rest d sound_until lawful_rest named (all_spared (suc d.writer) d rest (λ same. omega (arith, same)) (lands rest (asked_rest (suc d.writer))))
    where
      lands : (es : List Event) → AllByRecursion (λ (e : Event). Truncates (suc d.writer) e.ask.call) es → AllByRecursion (λ (e : Event). LandsOnly (suc d.writer) e.ask.call) es
      lands [] all = tt
      lands (e ∷ es) all = (all.0.0, lands es all.1)

  emptied_once : Emptied (moment_after once c.later) name
  emptied_once = record {
    found = found;
    sound = sound_found;
    onward = upto ++ rest;
    lawful = lawful_found;
    ends = moment-append found upto rest ∙ ap (λ (x : Moment). moment_after x rest) (sym then_until);
    moves = front_moves (upto ++ rest) [] (subst (λ (es : List Event). AllByRecursion (λ (e : Event). Truncates 0 e.ask.call) es) (sym (append-nil (upto ++ rest))) (asked_found 0));
    room = c.room;
    named = t.made.named;
    stamp = stamp;
    stands = trunc_stays once c.later c.room stamp 0 lawful_rest.2 sound_once t.truncated.stands;
    older = λ d named its. subst (AllByRecursion (λ (e : Entry). e.stamp < stamp)) (sym (landed_rest d named)) (older_until d named its);
    newest = λ s z had. newest_once s z ((lets_events once c.later c.room 0 name sound_once lawful_rest.2 later_spares there_once).0.truncates s z had);
    once = once;
    once_on = record { events = c.later; lawful = lawful_rest.2; ends = refl };
    below = t.truncated.below;
  }

  pub emptied : Emptied (moment_after m events) name
  emptied = subst (λ x. Emptied x name) (sym (ap (moment_after m) split ∙ moment-append m (c.earlier ++ upto) rest)) emptied_once

-- ---- a name that is free

-- the one call that looked for it, and was told that there is none
record LooksFree (m : Moment) (events : List Event) (name : Name) : Type 0 where
  finding : Event
  only : events ≡ finding ∷ []
  asks : finding.ask ≡ unbroken (Find name)
  told : finding.reply ≡ reply.Refused refusal.NoRoom

free_at : (m : Moment) (events : List Event) (name : Name) → IsSoundAt m → IsLawful m.state events → LooksFree m events name → IsFreeName (moment_after m events) name
free_at m events name sound lawful l =
    subst (λ (es : List Event). IsFreeName (moment_after m es) name) (sym l.only) (free_found m l.finding name sound (subst (λ (es : List Event). IsLawful m.state es) l.only lawful) l.asks l.told)

refused_free : (rep : Reply) → free_as rep ≡ Ok tt → rep ≡ reply.Refused refusal.NoRoom
refused_free (reply.Room room) is = absurd (cc)
refused_free (reply.Refused refusal.NoRoom) is = refl
refused_free (reply.Refused why) is = absurd (cc)
refused_free rep is = absurd (cc)

looks_free : (m : Moment) (name : Name) (events : List Event) → AllByRecursion (λ (e : Event). e.caller ≡ 0) events → Runs 0 (free_program name) events (Ok tt) → LooksFree m events name
looks_free m name [] own runs = absurd runs
looks_free m name (e ∷ events) own runs = elim (runs_next 0 (Find name) (λ rep. done (free_as rep)) e events (Ok tt) runs) as (λ _. LooksFree m (e ∷ events) name) [
  | inl (other, on) ↦ absurd (other own.0)
  | inr (mine, asks, on) ↦ record { finding = e; only = ap (λ (l : List Event). e ∷ l) (none_own events own.1 on.0); asks = asks; told = refused_free e.reply on.1 }
]

-- ---- a truncate that found none

-- the call did not look for the name and find none
abbrev FindsIt : Name → Event → Type 0
FindsIt name e = e.ask.call ≡ Find name → e.reply ≡ reply.Refused refusal.NoRoom → ⊥

holds_find : (name : Name) (events : List Event) → AllByRecursion (λ (e : Event). Holds 0 e.ask.call) events → AllByRecursion (FindsIt name) events
holds_find name [] all = tt
holds_find name (e ∷ events) all = ((λ is told. (subst (λ (q : Call). Holds 0 q) is all.0).2), holds_find name events all.1)

module _ (m : Moment) (name : Name) (g : Event) (greets : g.ask ≡ unbroken Greet) (sound : IsSoundAt m) where
  found_after : (e : Event) (events : List Event) (o : Option ℕ) → room_in e.reply ≡ o → IsLawful m.state (g ∷ e ∷ events) → HadMemory (g ∷ e ∷ events) → AllByRecursion (λ (x : Event). x.caller ≡ 0) (g ∷ e ∷ events) → e.ask ≡ unbroken (Find name)
      → Runs 0 (greets_first (truncate_program name 0)) (g ∷ e ∷ events) (Err (stuck.Refused refusal.NoRoom)) → Runs 0 (given o (failure e.reply) (λ room. holds room (lists_metadata 0 room))) events (Err (stuck.Refused refusal.NoRoom)) → LooksFree (next_moment m g) (e ∷ events) name
  found_after e events None none lawful had own asks runs on = record {
    finding = e;
    only = ap (λ (l : List Event). e ∷ l) (none_own events own.1.1 on.0);
    asks = asks;
    told = refused_find e.reply none (same (failure e.reply) on.1);
  }
    where
      same : (why : Stuck) → ◌≡◌ {A = Result ℕ Stuck} (Err why) (Err (stuck.Refused refusal.NoRoom)) → why ≡ stuck.Refused refusal.NoRoom
      same why is = cc
  found_after e events (Some room) some lawful had own asks runs on =
      let f : FindsNone m 0 (record { before = []; events = g ∷ e ∷ events }) name = truncate_shows m name 0 (g ∷ e ∷ events) (Err (stuck.Refused refusal.NoRoom)) sound lawful had own runs in
      let others : AllByRecursion (FindsIt name) events = holds_find name events (all_asked (Holds 0) (holds room (lists_metadata 0 room)) events (Err (stuck.Refused refusal.NoRoom)) (hold_asks 0 0 room) own.1.1 on) in
      let all : AllByRecursion (FindsIt name) (g ∷ e ∷ events) = ((λ is told. no_greet (sym (ap (λ a. a.call) greets) ∙ is)), ((λ is told. no_room e.reply some told), others)) in
      absurd ((all_rest (FindsIt name) f.earlier (f.finding ∷ f.later) (subst (λ (l : List Event). AllByRecursion (FindsIt name) l) f.split all)).0 f.finds.asked f.finds.told)
    where
      no_greet : Greet ≡ Find name → ⊥
      no_greet is = cc

      no_room : (rep : Reply) → room_in rep ≡ Some room → rep ≡ reply.Refused refusal.NoRoom → ⊥
      no_room (reply.Room r) some told = cc
      no_room rep some told = cc

  found_none : (events : List Event) → IsLawful m.state (g ∷ events) → HadMemory (g ∷ events) → AllByRecursion (λ (x : Event). x.caller ≡ 0) (g ∷ events) → Runs 0 (greets_first (truncate_program name 0)) (g ∷ events) (Err (stuck.Refused refusal.NoRoom))
      → Runs 0 (truncate_program name 0) events (Err (stuck.Refused refusal.NoRoom)) → LooksFree (next_moment m g) events name
  found_none [] lawful had own runs on = absurd on
  found_none (e ∷ events) lawful had own runs on = elim (runs_next 0 (Find name) (λ rep. given (room_in rep) (failure rep) (λ room. holds room (lists_metadata 0 room))) e events (Err (stuck.Refused refusal.NoRoom)) on) as (λ _. LooksFree (next_moment m g) (e ∷ events) name) [
    | inl (other, later) ↦ absurd (other own.1.0)
    | inr (mine, asks, later) ↦ found_after e events (room_in e.reply) refl lawful had own asks runs later
  ]

-- ---- both

-- the calls led to a moment at which the name is free, or its container was cut to nothing
pub record Cleared (m : Moment) (name : Name) (end : State) : Type 0 where
  pub reaches : Reaches m end
  pub is : IsFreeName reaches.to name ⊎ Emptied reaches.to name

free_behind : (m : Moment) (name : Name) (end : State) (g : Event) (events : List Event) → IsSoundAt m → IsLawful m.state (g ∷ events) → state_after m.state (g ∷ events) ≡ end → LooksFree (next_moment m g) events name → Cleared m name end
free_behind m name end g events sound lawful ends l = record {
  reaches = record { to = moment_after m (g ∷ events); comes = record { events = g ∷ events; lawful = lawful; ends = refl }; at = (follows m (g ∷ events)).0 ∙ ends };
  is = inl (free_at (next_moment m g) events name (sound_after m (g ∷ []) (lawful.0, lawful.1, tt) sound) lawful.2 l);
}

no_room_behind : (why : Stuck) → Ok tt ≡ cleared_behind why → why ≡ stuck.Refused refusal.NoRoom
no_room_behind (stuck.Refused refusal.NoRoom) is = refl
no_room_behind (stuck.Refused why) is = absurd (cc)
no_room_behind why is = absurd (cc)

truncated_so : (m : Moment) (name : Name) (cut : Result ℕ Stuck) (end : State) → IsSoundAt m → Makes (truncate_program name 0) m.state cut end → Ok tt ≡ cleared_as cut → Cleared m name end
truncated_so m name (Ok stamp) end sound makes is = record {
  reaches = record { to = moment_after m makes.events; comes = record { events = makes.events; lawful = makes.made.lawful; ends = refl }; at = (follows m makes.events).0 ∙ makes.made.ends };
  is = inr (emptied m name makes.events stamp sound makes.made.lawful makes.made.own makes.runs (truncate_shows m name 0 makes.events (Ok stamp) sound makes.made.lawful makes.had_memory makes.made.own makes.runs));
}
truncated_so m name (Err why) end sound makes is =
    missing makes.events makes.made.lawful makes.had_memory makes.made.own makes.made.ends
    (subst (λ (w : Stuck). Runs 0 (greets_first (truncate_program name 0)) makes.events (Err w)) (no_room_behind why is) makes.runs)
  where
    missing : (events : List Event) → IsLawful m.state events → HadMemory events → AllByRecursion (λ (x : Event). x.caller ≡ 0) events → state_after m.state events ≡ end → Runs 0 (greets_first (truncate_program name 0)) events (Err (stuck.Refused refusal.NoRoom)) → Cleared m name end
    missing [] lawful had own ends runs = absurd runs
    missing (g ∷ events) lawful had own ends runs = elim (runs_next 0 Greet (λ rep. truncate_program name 0) g events (Err (stuck.Refused refusal.NoRoom)) runs) as (λ _. Cleared m name end) [
      | inl (other, on) ↦ absurd (other own.0)
      | inr (mine, asks, on) ↦ free_behind m name end g events sound lawful ends (found_none m name g asks sound events lawful had own runs on)
    ]

pub cleared : (over : Bool) (name : Name) (m : Moment) (end : State) → IsSoundAt m → Clears over name m.state (Ok tt) end → Cleared m name end
cleared false name m end sound makes =
    let b : IsMade (free_program name) m (Ok tt) end = is_made (free_program name) m m.state (Ok tt) end refl makes in
    free_behind m name end b.greeting b.events sound b.lawful b.ends (looks_free (next_moment m b.greeting) name b.events b.alone b.runs)
cleared true name m end sound (cut, makes, is) = truncated_so m name cut end sound makes is
