-- The statements on an actor's reader are steps of a plain machine, where nobody else calls.
use Rattle.std.proofs.Common.{◌≡◌, ℕ, List, [], ◌∷◌, ◌++◌, Option, Some, None, Result, Ok, Err, refl, sym, ap, ◌∙◌, subst}
use Rattle.std.specs.Prelude.{MatchOption, slice_get}
use Rattle.script_lang.specs.declared.line.Outcome.{Outcome}
use Rattle.script_lang.specs.declared.line.Outcome.TheVariants.{Map as Mapped, Read as WasRead, ReaderClosed, Refused}
use Rattle.script_lang.specs.declared.line.Why.TheVariants.{AlreadyOpen, NotOpen}
use Rattle.script_lang.specs.declared.script.ActorDecl.{ActorDecl}
use Rattle.script_lang.specs.declared.script.Data.{Data}
use Rattle.script_lang.specs.declared.script.Statement.{Statement}
use Rattle.script_lang.specs.declared.script.Statement.TheVariants.{Map, Rclose, Read, Refresh, Ropen, Verify}
use Rattle.container_layout.specs.declared.items.Item.TheVariants as item
use Rattle.plain_file.specs.File.{slice}
use Rattle.plain_file.specs.Runs.{ArePieces}
use Rattle.read_plan.specs.Plan.{plan_of}
use Rattle.mount_model.specs.History.{AreBy, Event}
use Rattle.mount_model.specs.Paths.{Name}
use Rattle.mount_sound.specs.Ledger.{entries_in}
use Rattle.mount_sound.specs.Owed.{IsLawful}
use Rattle.mount_model.specs.declared.stuck.Stuck.{Stuck}
use Rattle.mount_model.specs.Running.{Runs}
use Rattle.reader_laws.specs.Moments.{IsSoundAt, Moment, moment_after}
use Rattle.reader_laws.specs.View.{view}
use Rattle.reader_laws.proofs.Gathered.Facts.{grows_after, moment-append, sound_after}
use Rattle.index_reader.specs.declared.opened.OpenReader.{OpenReader}
use Rattle.index_reader.specs.Reading.{read_program}
use Rattle.outcomes.specs.Data.{bytes_of, first_difference, length_of}
use Rattle.outcomes.specs.Outcomes.{difference, map_text, read_outcome, verify_outcome}
use Rattle.reader_laws.proofs.Facts.{reads_bytes, reads_trouble}
use Rattle.writer_flow.specs.declared.handle.WriterHandle.{WriterHandle}
use Rattle.plain_machine.specs.Machine.{Plain, PlainActor, PlainOwn, PlainReader, PlainRoom}
use Rattle.plain_machine.specs.Finding.{writer_of_room}
use Rattle.plain_machine.specs.Cases.{IsRefused, OnReader, OnRoom}
use Rattle.plain_machine.specs.Landed.{bytes_seen}
use Rattle.plain_machine.specs.Readers.{Sees, with_reader}
use Rattle.plain_machine.specs.Statements.{Takes}
use Rattle.plain_plays.specs.Mirrors.{Mirrors, MirrorsHandle}
use Rattle.plain_plays.specs.Readers.{HasReader, IsUse, MirrorsReader, TakesOnReader}
use Rattle.plain_plays.specs.Served.{GoesWell}
use Rattle.plain_plays.specs.Stepping.{HasActor, TakesStep}
use Rattle.plain_plays.proofs.PlainSteps.Entering.{IsContainerAt}
use Rattle.plain_plays.proofs.PlainSteps.Steps.Rooms.{set_here, set_there}
use Rattle.plain_plays.proofs.PlainSteps.ByName.Looking.{IsAlike, alike_same, changes_nothing, handle_alike, machine_alike}
use Rattle.plain_plays.proofs.PlainSteps.Looks.Answered.{Anything, EndsSo, looked, no_fault}
use Rattle.plain_plays.proofs.PlainSteps.Looks.Reading.{read_on}

-- ---- a reader stays what it is

pub lawful_both : (first rest : List Event) (m : Moment) → IsLawful m.state first → IsLawful (moment_after m first).state rest → IsLawful m.state (first ++ rest)
lawful_both [] rest m a b = b
lawful_both (e ∷ first) rest m a b = (a.0, a.1, lawful_both first rest _ a.2 b)

pub reader_later : (m : Moment) (events : List Event) (reader : OpenReader) (file : PlainReader) → IsLawful m.state events → MirrorsReader m reader file → MirrorsReader (moment_after m events) reader file
reader_later m events reader file lawful o = record {
  begin = o.begin;
  until = o.until;
  sound = o.sound;
  container = o.container;
  cut = o.cut;
  has = o.has;
  room = o.room;
  writes = o.writes;
  truncs = o.truncs;
  since = o.since ++ events;
  lawful = lawful_both o.since events o.until o.lawful (subst (λ (x : Moment). IsLawful x.state events) o.now lawful);
  now = ap (λ x. moment_after x events) o.now ∙ sym (moment-append o.until o.since events);
}

-- whatever is called
pub reader_stays : (m : Moment) (events : List Event) (reader : Option OpenReader) (file : Option PlainReader) → IsLawful m.state events → HasReader m reader file → HasReader (moment_after m events) reader file
reader_stays m events None None lawful o = tt
reader_stays m events (Some reader) (Some file) lawful o = reader_later m events reader file lawful o
reader_stays m events None (Some file) lawful o = absurd o
reader_stays m events (Some reader) None lawful o = absurd o

-- its bytes are the file's
pub seen_bytes : (m : Moment) (reader : OpenReader) (file : PlainReader) (o : MirrorsReader m reader file) → view o.until o.cut reader.truncs ≡ bytes_seen file
seen_bytes m reader file o =
    ap (λ ws. bytes_seen (record { room = file.room; writes = ws; truncs = reader.truncs })) o.writes ∙ ap (λ ts. bytes_seen (record { room = file.room; writes = file.writes; truncs = ts })) o.truncs

-- ---- the machine with another reader

handle_so : (m : Moment) (p q : Plain) → q.rooms ≡ p.rooms → (me : ℕ) (h : Option WriterHandle) (own : Option PlainOwn) → MirrorsHandle m me p h own → MirrorsHandle m me q h own
handle_so m p q same me None None x = tt
handle_so m p q same me (Some h) None x = absurd x
handle_so m p q same me None (Some own) x = absurd x
handle_so m p q same me (Some h) (Some own) x = (x.0, ap (λ (rooms : List PlainRoom). writer_of_room own.id (slice_get rooms own.room)) same ∙ x.1, x.2)

module _ (m next : Moment) (alike : IsAlike m next) (sound : IsSoundAt next) (me : ℕ) (p : Plain) (handle : Option WriterHandle) (actor : PlainActor) (declared : ActorDecl) (o : Mirrors m p) (has : HasActor m me p handle actor) where
  -- the statement has this outcome, and the actor this reader then
  pub takes_reader : (statement : Statement) (outcome : Outcome) (reader : Option OpenReader) (file : Option PlainReader) → HasReader next reader file → Takes me declared actor p statement outcome (with_reader me actor file p) → TakesOnReader m me declared actor p statement outcome next handle reader
  takes_reader statement outcome reader file it takes =
      let q : Plain = with_reader me actor file p in
      let mirrors : Mirrors next p = machine_alike m next alike sound p o in
      record {
        new = q;
        takes = takes;
        mirrors = record { sound = sound; rooms = mirrors.rooms; times = mirrors.times; mark = mirrors.mark; serial = mirrors.serial; none_hold = mirrors.none_hold };
        left = record actor { reader = file };
        its_actor = record {
          there = set_here p.actors me actor (record actor { reader = file }) has.there;
          its_own = handle_so next p q refl me handle actor.writer (handle_alike m next alike sound p me handle actor.writer has.its_own);
        };
        its_reader = it;
        others = λ other apart. set_there p.actors me other (record actor { reader = file }) apart;
        handles = λ other h own apart x. handle_so next p q refl other h own (handle_alike m next alike sound p other h own x);
      }

  -- it changes nothing
  pub takes_nothing : (statement : Statement) (outcome : Outcome) (reader : Option OpenReader) → HasReader next reader actor.reader → Takes me declared actor p statement outcome p → TakesOnReader m me declared actor p statement outcome next handle reader
  takes_nothing statement outcome reader it takes =
      let s : TakesStep m me declared actor p statement outcome next handle = changes_nothing m next alike sound me declared p actor statement outcome handle o has takes in
      record { new = s.new; takes = s.takes; mirrors = s.mirrors; left = s.left; its_actor = s.its_actor; its_reader = subst (HasReader next reader) (sym s.reader) it; others = s.others; handles = s.handles }

-- ---- the statements

pub on_reader : (actor : PlainActor) (file : PlainReader) (p : Plain) (outcome : Outcome) (new : Plain) (does : PlainReader → Type 0) → actor.reader ≡ Some file → does file → OnReader actor p outcome new does
on_reader actor file p outcome new does is done = subst (λ o. MatchOption o (IsRefused outcome NotOpen p new) does) (sym is) done

no_reader : (actor : PlainActor) (p : Plain) (does : PlainReader → Type 0) → actor.reader ≡ None → OnReader actor p (Refused NotOpen) p does
no_reader actor p does none = subst (λ o. MatchOption o (IsRefused (Refused NotOpen) NotOpen p p) does) (sym none) (refl, refl)

module _ (m : Moment) (me : ℕ) (p : Plain) (handle : Option WriterHandle) (actor : PlainActor) (declared : ActorDecl) (o : Mirrors m p) (has : HasActor m me p handle actor) where
  abbrev Step : Statement → Outcome → Moment → Option OpenReader → Type 0
  Step statement outcome last reader = TakesOnReader m me declared actor p statement outcome last handle reader

  -- ---- without a reader

  refused_use : (statement : Statement) → IsUse statement → actor.reader ≡ None → Takes me declared actor p statement (Refused NotOpen) p
  refused_use (Read at len) is none = no_reader actor p _ none
  refused_use (Verify at content) is none = no_reader actor p _ none
  refused_use Map is none = no_reader actor p _ none
  refused_use Refresh is none = no_reader actor p _ none
  refused_use Rclose is none = no_reader actor p _ none
  refused_use other is none = absurd is

  pub none_takes : (statement : Statement) → IsUse statement → actor.reader ≡ None → Step statement (Refused NotOpen) m None
  none_takes statement is none = takes_nothing m m (alike_same m) o.sound me p handle actor declared o has statement (Refused NotOpen) None (subst (HasReader m None) (sym none) tt) (refused_use statement is none)

  -- ---- with one

  module _ (reader : OpenReader) (file : PlainReader) (is : actor.reader ≡ Some file) (it : MirrorsReader m reader file) where
    -- a second one is refused
    pub second_takes : (name : Name) (workers : ℕ) → Step (Ropen name workers) (Refused AlreadyOpen) m (Some reader)
    second_takes name workers = takes_nothing m m (alike_same m) o.sound me p handle actor declared o has (Ropen name workers) (Refused AlreadyOpen) (Some reader) (subst (HasReader m (Some reader)) (sym is) it)
        (subst (λ x. MatchOption x (OnRoom p name (Refused AlreadyOpen) p (λ number room. Sees me actor p number room (Refused AlreadyOpen) p)) (λ f. IsRefused (Refused AlreadyOpen) AlreadyOpen p p)) (sym is) (refl, refl))

    -- the bytes that it reads are the file's
    record IsRead (at len : ℕ) (events : List Event) (out : Result (List ℕ) Stuck) : Type 0 where
      read : out ≡ Ok (slice (bytes_seen file) at len)
      alike : IsAlike m (moment_after m events)
      sound : IsSoundAt (moment_after m events)
      still : HasReader (moment_after m events) (Some reader) actor.reader

    its_container : IsContainerAt reader.room m
    its_container = subst (IsContainerAt reader.room) (sym it.now) ((grows_after it.until it.since it.lawful it.sound).stands reader.room item.Access tt it.container)

    reading : (at len : ℕ) (events : List Event) (out : Result (List ℕ) Stuck) → IsLawful m.state events → GoesWell me events → AreBy me events → Runs me (read_program reader.room reader.hosts (plan_of reader.pieces reader.size at len)) events out → IsRead at len events out
    reading at len events out lawful well by runs =
        let l = looked reader.room me (EndsSo Anything) events (read_program reader.room reader.hosts (plan_of reader.pieces reader.size at len)) m out o.sound its_container lawful well by (read_on reader.room reader.hosts (plan_of reader.pieces reader.size at len)) runs in
        let whole : IsLawful it.until.state (it.since ++ events) = lawful_both it.since events it.until it.lawful (subst (λ (x : Moment). IsLawful x.state events) it.now lawful) in
        record {
          read = bytes_are out l.0 whole runs;
          alike = l.1;
          sound = sound_after m events lawful o.sound;
          still = subst (HasReader (moment_after m events) (Some reader)) (sym is) (reader_later m events reader file lawful it);
        }
      where
        bytes_are : (out : Result (List ℕ) Stuck) → EndsSo Anything out → IsLawful it.until.state (it.since ++ events) → Runs me (read_program reader.room reader.hosts (plan_of reader.pieces reader.size at len)) events out → out ≡ Ok (slice (bytes_seen file) at len)
        bytes_are (Ok bytes) ends whole runs = ap Ok (reads_bytes me it.begin it.until reader it.cut it.since events at len bytes whole it.sound it.has runs ∙ ap (λ b. slice b at len) (seen_bytes m reader file it))
        bytes_are (Err why) ends whole runs = absurd (no_fault {R = List ℕ} Anything why ends (reads_trouble me it.begin it.until reader it.cut it.since events at len why whole it.sound it.has runs).0)

    pub read_takes : (at len : ℕ) (events : List Event) (out : Result (List ℕ) Stuck) → IsLawful m.state events → GoesWell me events → AreBy me events → Runs me (read_program reader.room reader.hosts (plan_of reader.pieces reader.size at len)) events out → Step (Read at len) (read_outcome at out) (moment_after m events) (Some reader)
    read_takes at len events out lawful well by runs =
        let r = reading at len events out lawful well by runs in
        takes_nothing m (moment_after m events) r.alike r.sound me p handle actor declared o has (Read at len) (read_outcome at out) (Some reader) r.still
        (on_reader actor file p (read_outcome at out) p (λ f. (read_outcome at out ≡ WasRead at (slice (bytes_seen f) at len)) × (p ≡ p)) is (ap (read_outcome at) r.read, refl))

    pub verify_takes : (at : ℕ) (content : Data) (events : List Event) (out : Result (List ℕ) Stuck) → IsLawful m.state events → GoesWell me events → AreBy me events → Runs me (read_program reader.room reader.hosts (plan_of reader.pieces reader.size at (length_of content))) events out
        → Step (Verify at content) (verify_outcome at content out) (moment_after m events) (Some reader)
    verify_takes at content events out lawful well by runs =
        let r = reading at (length_of content) events out lawful well by runs in
        takes_nothing m (moment_after m events) r.alike r.sound me p handle actor declared o has (Verify at content) (verify_outcome at content out) (Some reader) r.still
        (on_reader actor file p (verify_outcome at content out) p (λ f. (verify_outcome at content out ≡ difference at (first_difference 0 (bytes_of content) (slice (bytes_seen f) at (length_of content)))) × (p ≡ p)) is (ap (verify_outcome at content) r.read, refl))

    pub map_takes : Step Map (Mapped (map_text reader.pieces)) m (Some reader)
    map_takes = takes_nothing m m (alike_same m) o.sound me p handle actor declared o has Map (Mapped (map_text reader.pieces)) (Some reader) (subst (HasReader m (Some reader)) (sym is) it)
        (on_reader actor file p (Mapped (map_text reader.pieces)) p (λ f. (pieces : List _) × ArePieces (entries_in f.writes) f.truncs pieces × (Mapped (map_text reader.pieces) ≡ Mapped (map_text pieces)) × (p ≡ p)) is
        (reader.pieces, subst (λ ts. ArePieces (entries_in file.writes) ts reader.pieces) it.truncs (subst (λ ws. ArePieces (entries_in ws) reader.truncs reader.pieces) it.writes it.has.pieces), refl, refl))

    pub close_takes : Step Rclose ReaderClosed m None
    close_takes = takes_reader m m (alike_same m) o.sound me p handle actor declared o has Rclose ReaderClosed None None tt
        (on_reader actor file p ReaderClosed (with_reader me actor None p) (λ f. (ReaderClosed ≡ ReaderClosed) × (with_reader me actor None p ≡ with_reader me actor None p)) is (refl, refl))
