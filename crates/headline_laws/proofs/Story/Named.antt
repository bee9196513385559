-- Where no statement renames, a container keeps the name by which a line spoke of it.
use Rattle.std.proofs.Common.{◌≡◌, ◌⊎◌, inl, inr, ℕ, List, [], ◌∷◌, ◌++◌, length, Option, Some, None, option_map, refl, sym, ap, ◌∙◌, subst, append_assoc}
use Rattle.std.specs.Prelude.{⊤, slice_get}
use Rattle.std.proofs.lemmas.Option.{slice_get-map}
use Rattle.turn_object.proofs.Facts.{state_append}
use Rattle.store_api.specs.Step.{Step, find_room, length_of, list_folder, read_at, rooms}
use Rattle.store_api.specs.declared.tree.Room.{Room}
use Rattle.store_api.specs.declared.tree.Tree.{Tree}
use Rattle.store_laws.specs.Naming.{NamesRoom}
use Rattle.store_laws.specs.Outcomes.{IsLook}
use Rattle.store_laws.proofs.Facts.{keeps_rooms}
use Rattle.mount_model.specs.declared.call.Call.{Call}
use Rattle.mount_model.specs.declared.call.Call.TheVariants.{Mark, Move}
use Rattle.mount_model.specs.declared.reply.Refusal.TheVariants as refusal
use Rattle.mount_model.specs.declared.reply.Reply.{Reply}
use Rattle.mount_model.specs.declared.reply.Reply.TheVariants as reply
use Rattle.mount_model.specs.Entering.{next_id}
use Rattle.mount_model.specs.History.{Event, state_after}
use Rattle.mount_model.specs.State.{State}
use Rattle.mount_model.specs.Step.{IsStep}
use Rattle.mount_sound.specs.Owed.{IsLawful}
use Rattle.mount_sound.proofs.Facts.{GoesOn, OfEachAct, step_acts}
use Rattle.reader_laws.specs.Moments.{IsSoundAt, Moment, moment_after}
use Rattle.reader_laws.proofs.Gathered.Facts.{follows, legal_first, legal_rest, sound_after}
use Rattle.script_lang.specs.Ranges.{FitsScript}
use Rattle.script_lang.specs.declared.line.Outcome.{Outcome}
use Rattle.script_lang.specs.declared.line.Outcome.TheVariants as line
use Rattle.script_lang.specs.declared.line.Why.TheVariants.{Busy, Exists, Held, StampsSpent}
use Rattle.script_lang.specs.declared.script.Statement.{Statement}
use Rattle.script_lang.specs.declared.script.Statement.TheVariants.{Flatten, Open, Recover, Rename, Ropen, Stat, Trunc}
use Rattle.run_core.specs.Play.{IsRight}
use Rattle.headline_laws.specs.OneFile.{OneFile}
use Rattle.headline_laws.specs.OneWriter.{OneWriter}
use Rattle.reader_laws.specs.Naming.{IsRoomNamed}
use Rattle.headline_laws.specs.Changing.{Change, IsChange}
use Rattle.headline_laws.specs.Refusing.{FindsHeld, FindsOpen, FindsTaken}
use Rattle.headline_laws.specs.Opening.{Stretch}
use Rattle.headline_laws.specs.Showing.{Shows}
use Rattle.headline_laws.specs.Writing.{ShowsWriting}
use Rattle.headline_laws.proofs.Plays.Facts.{IsQuiet, MayAsk}
use Rattle.headline.specs.Run.{IsLine, Run, Told}
use Rattle.headline.specs.Names.{names_in}
use Rattle.headline.specs.Readers.{HasNames, RenamesNone, SpeaksOf}
use Rattle.headline_laws.proofs.Story.Attributed.{attributed}
use Rattle.headline_laws.proofs.Story.Lines.{container, file_room, line_here, room_of}
use Rattle.headline_laws.proofs.Story.Namings.{story_of}
use Rattle.headline_laws.proofs.Trees.Reading.{in_part}

-- ---- one call

-- the call gives no container another name
abbrev IsNoMove : Call → Type 0
IsNoMove (Move holder to) = ⊥
IsNoMove call = ⊤

abbrev KeepsNames : Call → Step → Type 0
KeepsNames call step = IsNoMove call → (n : ℕ) → NamesRoom step n → ⊥

look_keeps : (call : Call) (s : Step) → IsLook s → KeepsNames call s
look_keeps call rooms look quiet n = λ named. named
look_keeps call (find_room name) look quiet n = λ named. named
look_keeps call (list_folder k folder) look quiet n = λ named. named
look_keeps call (length_of k folder file) look quiet n = λ named. named
look_keeps call (read_at k folder file at len) look quiet n = λ named. named
look_keeps call s look quiet n = absurd look

each_keeps : (old : State) (caller : ℕ) → OfEachAct old.table (next_id old) caller KeepsNames
each_keeps old caller = record {
  looks = look_keeps;
  rooms = λ name quiet n named. named;
  enters = λ room host most quiet n named. named;
  hostdirs = λ writer row quiet n named. named;
  indices = λ writer row held quiet n named. named;
  logs = λ writer row held quiet n named. named;
  writes = λ writer row held at bytes quiet n named. named;
  flushes = λ writer row held quiet n named. named;
  log_syncs = λ writer row quiet n named. named;
  index_syncs = λ writer row quiet n named. named;
  metas = λ writer row quiet n named. named;
  exits = λ writer row held quiet n named. named;
  holds = λ room quiet n named. named;
  truncates = λ holder h held stamp size top fits above quiet n named. named;
  renames = λ holder h held to quiet n named. quiet;
  releases = λ holder h held quiet n named. named;
  starts = λ room f makes quiet n named. named;
  puts = λ flat f held bytes quiet n named. named;
  flat_syncs = λ flat f held quiet n named. named;
  installs = λ flat f held quiet n named. named;
  packs = λ room host writer f makes fits quiet n named. named;
  dropping_syncs = λ room host writer is_log fits quiet n named. named;
  mends = λ room host writer count fits quiet n named. named;
  mend_metas = λ room host cover last fits quiet n named. named;
  buries = λ room host writer fits quiet n named. named;
  mend_holds = λ room quiet n named. named;
}

-- the container of this number has this name, as the store tells it
pub record HasName (state : State) (n : ℕ) (name : List ℕ) : Type 0 where
  pub tree : Tree
  pub told : state.store.tree ≡ Some tree
  pub room : Room
  pub there : slice_get tree.rooms n ≡ Some room
  pub is : room.name ≡ name

name_kept : (old new : State) (event_caller : ℕ) (ask : _) (reply : _) (n : ℕ) (name : List ℕ) → IsStep old event_caller ask reply new → IsNoMove ask.call → HasName old n name → HasName new n name
name_kept old new caller ask reply n name stepped quiet h =
    let g : GoesOn (KeepsNames ask.call) h.tree new = step_acts KeepsNames old new caller ask reply h.tree (each_keeps old caller) stepped h.told in
    elim g.2 as (λ _. HasName new n name) [
      | inl same ↦ record { tree = g.0; told = g.1; room = h.room; there = subst (λ (t : Tree). slice_get t.rooms n ≡ Some h.room) (sym same) h.there; is = h.is }
      | inr a ↦
          let k = keeps_rooms a.step h.tree a.told g.0 a.tells n h.room h.there in
          record { tree = g.0; told = g.1; room = k.0; there = k.1; is = k.2.name (a.holds quiet n) ∙ h.is }
    ]

-- ---- along a history

abbrev pub HaveNoMove : List Event → Type 0
HaveNoMove events = (first : List Event) (e : Event) (later : List Event) → events ≡ first ++ e ∷ later → IsNoMove e.ask.call

pub name_stays : (state : State) (events : List Event) (n : ℕ) (name : List ℕ) → IsLawful state events → HaveNoMove events → HasName state n name → (last : State) → last ≡ state_after state events → HasName last n name
name_stays state [] n name lawful quiet h last is = subst (λ s. HasName s n name) (sym is) h
name_stays state (e ∷ events) n name lawful quiet h last is =
    name_stays e.after events n name lawful.2 (λ first x later split. quiet (e ∷ first) x later (ap (λ z. e ∷ z) split)) (name_kept state e.after e.caller e.ask e.reply n name lawful.1 (quiet [] e events refl) h) last is

-- ---- a line

-- its container had this name at some time of its statement
pub record NamedAt (m : Moment) (before front : List Event) (name : List ℕ) (room : ℕ) : Type 0 where
  pub upto : List Event
  pub later : List Event
  pub split : front ≡ upto ++ later
  pub named : IsRoomNamed (moment_after m (before ++ upto)) name room

-- the line shows which container had the name of its statement
abbrev pub FindsBy : List ℕ → Statement → Outcome → Type 0
FindsBy name (Rename asked to) line.Renamed = asked ≡ name
FindsBy name (Rename asked to) (line.Refused (Busy host id)) = asked ≡ name
FindsBy name (Rename asked to) (line.Refused Exists) = asked ≡ name
FindsBy name (Trunc asked many) (line.Refused (Busy host id)) = asked ≡ name
FindsBy name (Trunc asked many) (line.Refused StampsSpent) = asked ≡ name
FindsBy name s o = SpeaksOf name s o

module _ (m : Moment) (n : ℕ) (before front : List Event) (nothing : ℕ) where
  abbrev There : Stretch
  There = record { before = before; events = front }

  opened_named : (name : List ℕ) (id : ℕ) (old new : Option OneFile) (writer w : Option OneWriter) (shows : Shows m n There old (Open name) (line.Opened id) new) → ShowsWriting m n There writer (Open name) (line.Opened id) w → NamedAt m before front name (room_of m n There nothing old new w (Open name) (line.Opened id) shows)
  opened_named name id old new (Some x) w shows writes = absurd writes.0
  opened_named name id old new None w shows (it, has, is, opens) = record {
    upto = opens.earlier ++ opens.making ∷ [];
    later = opens.between ++ opens.entering ∷ opens.later;
    split = opens.split ∙ sym (append_assoc opens.earlier (opens.making ∷ []) (opens.between ++ opens.entering ∷ opens.later));
    named = subst (λ (x : Option OneWriter). IsRoomNamed (moment_after m (before ++ (opens.earlier ++ opens.making ∷ []))) name (room_of m n There nothing old new x (Open name) (line.Opened id) shows)) (sym has) opens.named;
  }

  reader_named : (name : List ℕ) (workers size : ℕ) (cut : _) (truncs : _) (old new : Option OneFile) (w : Option OneWriter) (shows : Shows m n There old (Ropen name workers) (line.Reader size cut truncs) new) → NamedAt m before front name (room_of m n There nothing old new w (Ropen name workers) (line.Reader size cut truncs) shows)
  reader_named name workers size cut truncs (Some f) new w shows = absurd shows.1
  reader_named name workers size cut truncs None new w (file, has, opens, tells) = record {
    upto = opens.earlier;
    later = opens.first ∷ opens.sees.more ++ opens.sees.listing ∷ opens.sees.later;
    split = opens.sees.split;
    named = subst (λ (x : Option OneFile). IsRoomNamed (moment_after m (before ++ opens.earlier)) name (file_room nothing x)) (sym has) opens.named;
  }

  pub named_at : (name : List ℕ) (old new : Option OneFile) (writer w : Option OneWriter) (s : Statement) (o : Outcome) → SpeaksOf name s o → (shows : Shows m n There old s o new) → ShowsWriting m n There writer s o w → NamedAt m before front name (room_of m n There nothing old new w s o shows)
  named_at name old new writer w (Open asked) (line.Opened id) is shows writes = subst (λ x. NamedAt m before front x (room_of m n There nothing old new w (Open asked) (line.Opened id) shows)) is (opened_named asked id old new writer w shows writes)
  named_at name old new writer w (Ropen asked workers) (line.Reader size cut truncs) is shows writes =
      subst (λ x. NamedAt m before front x (room_of m n There nothing old new w (Ropen asked workers) (line.Reader size cut truncs) shows)) is (reader_named asked workers size cut truncs old new w shows)
  named_at name old new writer w (Stat asked) (line.Stat size stored shares truncs) is shows writes =
      let opens = shows.1.1 in
      subst (λ x. NamedAt m before front x shows.1.0.room) is (record {
        upto = opens.earlier;
        later = opens.first ∷ opens.sees.more ++ opens.sees.listing ∷ opens.sees.later;
        split = opens.sees.split;
        named = opens.named;
      })
  named_at name old new writer w (Trunc asked many) (line.Truncated stamp) is shows writes =
      let c = shows.1.change in
      subst (λ x. NamedAt m before front x shows.1.change.room) is (record {
        upto = c.earlier;
        later = c.finding ∷ c.between ++ (c.holding ∷ c.more ++ c.changing ∷ c.later);
        split = shows.1.made.split;
        named = shows.1.made.named;
      })
  named_at name old new writer w (Recover asked) (line.Recovered buried alive hold) is shows writes =
      subst (λ x. NamedAt m before front x shows.1.room) is (record {
        upto = shows.1.earlier;
        later = shows.1.finding ∷ shows.1.more ++ shows.1.listing ∷ shows.1.later;
        split = shows.1.split;
        named = shows.1.named;
      })
  named_at name old new writer w (Flatten asked) (line.Flattened id many cut) is shows writes =
      subst (λ x. NamedAt m before front x shows.1.room) is (record {
        upto = shows.1.earlier;
        later = shows.1.finding ∷ shows.1.more ++ shows.1.installing ∷ shows.1.later;
        split = shows.1.split;
        named = shows.1.named;
      })
  named_at name old new writer w s o is shows writes = absurd is

  -- ---- what other lines show that name a container

  attempted : (name : List ℕ) (host id : ℕ) (f : FindsOpen m n There name host id) → NamedAt m before front name f.attempt.room
  attempted name host id f = record { upto = f.attempt.earlier; later = f.attempt.finding ∷ f.attempt.between ++ f.attempt.holding ∷ f.attempt.later; split = f.made.split; named = f.made.named }

  changed : (name : List ℕ) (call : ℕ → Call) (answer : Reply) (c : Change) → IsChange m n There name call answer c → NamedAt m before front name c.room
  changed name call answer c made = record { upto = c.earlier; later = c.finding ∷ c.between ++ (c.holding ∷ c.more ++ c.changing ∷ c.later); split = made.split; named = made.named }

  pub finds_at : (name : List ℕ) (old new : Option OneFile) (writer w : Option OneWriter) (s : Statement) (o : Outcome) → FindsBy name s o → (shows : Shows m n There old s o new) → ShowsWriting m n There writer s o w → NamedAt m before front name (room_of m n There nothing old new w s o shows)
  finds_at name old new writer w (Rename asked to) line.Renamed is shows writes = subst (λ x. NamedAt m before front x shows.1.change.room) is (changed asked (λ holder. Move holder to) reply.Done shows.1.change shows.1.made)
  finds_at name old new writer w (Rename asked to) (line.Refused (Busy host id)) is shows writes = subst (λ x. NamedAt m before front x shows.1.attempt.room) is (attempted asked host id shows.1)
  finds_at name old new writer w (Rename asked to) (line.Refused Exists) is shows writes = subst (λ x. NamedAt m before front x shows.1.change.room) is (changed asked (λ holder. Move holder to) (reply.Refused refusal.Exists) shows.1.change shows.1.made)
  finds_at name old new writer w (Trunc asked many) (line.Refused (Busy host id)) is shows writes = subst (λ x. NamedAt m before front x shows.1.attempt.room) is (attempted asked host id shows.1)
  finds_at name old new writer w (Trunc asked many) (line.Refused StampsSpent) is shows writes = subst (λ x. NamedAt m before front x shows.1.change.room) is (changed asked (λ holder. Mark holder many shows.1.top) (reply.Refused refusal.StampsSpent) shows.1.change shows.1.made)
  finds_at name old new writer w (Open asked) (line.Opened id) is shows writes = named_at name old new writer w (Open asked) (line.Opened id) is shows writes
  finds_at name old new writer w (Ropen asked workers) (line.Reader size cut truncs) is shows writes = named_at name old new writer w (Ropen asked workers) (line.Reader size cut truncs) is shows writes
  finds_at name old new writer w (Stat asked) (line.Stat size stored shares truncs) is shows writes = named_at name old new writer w (Stat asked) (line.Stat size stored shares truncs) is shows writes
  finds_at name old new writer w (Trunc asked many) (line.Truncated stamp) is shows writes = named_at name old new writer w (Trunc asked many) (line.Truncated stamp) is shows writes
  finds_at name old new writer w (Recover asked) (line.Recovered buried alive hold) is shows writes = named_at name old new writer w (Recover asked) (line.Recovered buried alive hold) is shows writes
  finds_at name old new writer w (Flatten asked) (line.Flattened id many cut) is shows writes = named_at name old new writer w (Flatten asked) (line.Flattened id many cut) is shows writes
  finds_at name old new writer w s o is shows writes = absurd is

  -- a container had the other name by which a rename was to call its own
  pub record TakenAt (to : List ℕ) : Type 0 where
    pub upto : List Event
    pub later : List Event
    pub split : front ≡ upto ++ later
    pub other : ℕ
    pub named : IsRoomNamed (moment_after m (before ++ upto)) to other

  -- a container was found by its name, and was to be held while it was held
  pub held_at : (name : List ℕ) (old new : Option OneFile) (s : Statement) (o : Outcome) → (((many : ℕ) × (s ≡ Trunc name many)) ⊎ ((to : List ℕ) × (s ≡ Rename name to))) → o ≡ line.Refused Held → Shows m n There old s o new → FindsHeld m n There name
  held_at name old new (Trunc asked many) (line.Refused Held) (inl (size, is)) says shows = (let same : asked ≡ name = cc in subst (FindsHeld m n There) same shows.1)
  held_at name old new (Rename asked to) (line.Refused Held) (inr (other, is)) says shows = (let same : asked ≡ name = cc in subst (FindsHeld m n There) same shows.1)
  held_at name old new s o (inl (size, is)) says shows = absurd (cc)
  held_at name old new s o (inr (other, is)) says shows = absurd (cc)

  taken_so : (name to : List ℕ) → FindsTaken m n There name to → TakenAt to
  taken_so name to f =
      let c = f.change in
      record {
        upto = c.earlier ++ (c.finding ∷ c.between ++ (c.holding ∷ c.more));
        later = c.changing ∷ c.later;
        split = f.made.split ∙ ap (λ z. c.earlier ++ z) (sym (append_assoc (c.finding ∷ c.between) (c.holding ∷ c.more) (c.changing ∷ c.later))) ∙ sym (append_assoc c.earlier (c.finding ∷ c.between ++ (c.holding ∷ c.more)) (c.changing ∷ c.later));
        other = f.other;
        named = f.taken;
      }

  pub taken_at : (name to : List ℕ) (old new : Option OneFile) (s : Statement) (o : Outcome) → s ≡ Rename name to → o ≡ line.Refused Exists → Shows m n There old s o new → TakenAt to
  taken_at name to old new (Rename asked other) (line.Refused Exists) is says shows = (let same : other ≡ to = cc in subst TakenAt same (taken_so asked other shows.1))
  taken_at name to old new s o is says shows = absurd (cc)

-- ---- the law of this file

pub its_name : (tree : Tree) (n : ℕ) (room : Room) (name : List ℕ) → slice_get tree.rooms n ≡ Some room → room.name ≡ name → slice_get (names_in tree) n ≡ Some name
its_name tree n room name there is = slice_get-map (λ (r : Room). r.name) tree.rooms n ∙ ap (option_map (λ (r : Room). r.name)) there ∙ ap (λ x. Some x) is

module _ (run : Run) (m : Moment) (end : State) (fits : FitsScript run.script) (sound : IsSoundAt m) (right : IsRight run.script m.state run.lines end) (left : end.store.tree ≡ Some run.after) where
  pub no_moves : RenamesNone run → HaveNoMove right.history
  no_moves none first e later is = quiet e.ask.call refl
    where
      quiet : (call : Call) → e.ask.call ≡ call → IsNoMove call
      quiet (Move holder to) asked =
          let a = attributed run m end fits sound right first e later is (λ still. subst IsQuiet asked still) in
          let asks = subst (MayAsk a.line.line.kept a.t.statement) asked a.asks in
          absurd (none a.t asks.0 to a.is_line asks.1)
      quiet call asked = tt

  same_tree : (x y : Tree) → Some x ≡ Some y → x ≡ y
  same_tree x y is = cc

  -- a container that had the name at some time has it in the tree after
  name_at_last : RenamesNone run → (c rest : List Event) → right.history ≡ c ++ rest → (n : ℕ) (name : List ℕ) → IsRoomNamed (moment_after m c) name n → slice_get (names_in run.after) n ≡ Some name
  name_at_last none c rest split n name named =
      let lawful : IsLawful m.state (c ++ rest) = subst (IsLawful m.state) split right.leads.lawful in
      let now : IsSoundAt (moment_after m c) = sound_after m c (legal_first m c rest lawful) sound in
      let room = named now.shape.tree now.shape.told in
      let last : end ≡ state_after (moment_after m c).state rest = sym right.leads.ends ∙ ap (state_after m.state) split ∙ state_append m.state c rest ∙ ap (λ s. state_after s rest) (sym (follows m c).0) in
      let h = name_stays (moment_after m c).state rest n name (legal_rest m c rest lawful) (λ first e later is. no_moves none (c ++ first) e later (split ∙ ap (λ z. c ++ z) is ∙ sym (append_assoc c first (e ∷ later))))
      (record { tree = now.shape.tree; told = now.shape.told; room = room.room; there = room.has_room; is = room.named }) end last in
      subst (λ (tree : Tree). slice_get (names_in tree) n ≡ Some name) (same_tree h.tree run.after (sym h.told ∙ left)) (its_name h.tree n h.room name h.there h.is)

  named_line : RenamesNone run → (t : Told) (name : List ℕ) → IsLine run t → SpeaksOf name t.statement t.outcome → slice_get (names_in run.after) (container run m end fits sound right t) ≡ Some name
  named_line none t name is_line speaks =
      let l = line_here run m end fits sound right t is_line in
      let p = l.line.part in
      let h = l.line.shown in
      let room : ℕ = room_of m l.number (record { before = p.earlier; events = h.front }) (length run.after.rooms) l.line.file h.new h.new_writer t.statement t.outcome h.shows in
      let a : NamedAt m p.earlier h.front name room = named_at m l.number p.earlier h.front (length run.after.rooms) name l.line.file h.new l.line.writer h.new_writer t.statement t.outcome speaks h.shows h.writes in
      let split = in_part right.history p.earlier p.mine p.later h.front h.rest a.upto a.later p.split h.split a.split in
      ap (λ k. slice_get (names_in run.after) k) l.line.here ∙ name_at_last none (p.earlier ++ a.upto) (a.later ++ (h.rest ++ p.later)) split room name a.named

  pub names_told : HasNames run (story_of run m end fits sound right)
  names_told = record { named = named_line }
