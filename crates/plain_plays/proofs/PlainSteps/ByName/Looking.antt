-- A statement that only looks leaves the mount, and so the machine, as it was.
use Rattle.std.proofs.Common.{◌≡◌, ℕ, List, [], ◌∷◌, length, Option, Some, None, Ok, refl, sym, ap, ◌∙◌, inl, inr, arith}
use Rattle.std.specs.List.{AllByRecursion}
use Rattle.script_lang.specs.declared.line.Outcome.{Outcome}
use Rattle.script_lang.specs.declared.script.ActorDecl.{ActorDecl}
use Rattle.script_lang.specs.declared.script.Statement.{Statement}
use Rattle.store_api.specs.declared.step.Answer.TheVariants as answer
use Rattle.store_api.specs.declared.tree.Tree.{Tree}
use Rattle.store_api.specs.Acts.{Acts, Stored}
use Rattle.store_api.specs.Step.{Step, find_room, rooms as all_rooms}
use Rattle.store_laws.specs.Outcomes.{IsLook}
use Rattle.store_laws.proofs.Facts.{acts_told, look_told}
use Rattle.mount_model.specs.declared.call.Call.{Call}
use Rattle.mount_model.specs.declared.call.Call.TheVariants.{Find, Look, Rooms}
use Rattle.mount_model.specs.declared.call.Look.{Look as Sight}
use Rattle.mount_model.specs.declared.call.Look.TheVariants.{Length, List as ListFolder, Read, Top}
use Rattle.mount_model.specs.declared.reply.Reply.{Reply}
use Rattle.mount_model.specs.Finding.{find_outcome}
use Rattle.mount_model.specs.History.{Event}
use Rattle.mount_model.specs.Looking.{look_outcome, look_step}
use Rattle.mount_model.specs.Making.{MakesAct, Refuses, Told, room_check}
use Rattle.mount_model.specs.Paths.{index_path, log_path}
use Rattle.mount_model.specs.State.{State, Table}
use Rattle.mount_model.specs.Step.{Answers}
use Rattle.mount_model.specs.Table.{row_of}
use Rattle.mount_model.proofs.Facts.{match_cases}
use Rattle.mount_sound.specs.Dropping.{bytes_of}
use Rattle.mount_sound.specs.Issued.{issued_after}
use Rattle.mount_sound.specs.Ledger.{Ledger}
use Rattle.mount_sound.specs.Owed.{IsLawful}
use Rattle.mount_sound.specs.There.{entries_there}
use Rattle.reader_laws.specs.Moments.{Dropping, IsSoundAt, Moment, file_told, landed, moment_after, next_moment}
use Rattle.reader_laws.proofs.Gathered.Facts.{sound_after}
use Rattle.writer_flow.specs.declared.handle.WriterHandle.{WriterHandle}
use Rattle.writer_laws.proofs.Stops.{whole_answers}
use Rattle.plain_machine.specs.Machine.{Plain, PlainActor, PlainOwn, PlainWriter}
use Rattle.plain_machine.specs.Statements.{Takes}
use Rattle.plain_plays.specs.Mirrors.{Mirrors, MirrorsHandle}
use Rattle.plain_plays.specs.Plainly.{MirrorsOwn}
use Rattle.plain_plays.specs.Stepping.{HasActor, TakesStep}
use Rattle.plain_plays.proofs.PlainSteps.Steps.Making.{machine_same}

-- ---- a mount that is as it was

-- All is as it was, but for how many acts the store has counted.
pub record IsAlike (m next : Moment) : Type 0 where
  pub tree : next.state.store.tree ≡ m.state.store.tree
  pub issued : next.issued ≡ m.issued
  pub table : next.state.table ≡ m.state.table
  pub times : next.state.times ≡ m.state.times
  pub marks : next.state.marks ≡ m.state.marks
  pub mount : next.state.mount ≡ m.state.mount
  pub serial : next.state.serial ≡ m.state.serial

pub alike_same : (m : Moment) → IsAlike m m
alike_same m = record { tree = refl; issued = refl; table = refl; times = refl; marks = refl; mount = refl; serial = refl }

pub alike_both : (a b c : Moment) → IsAlike a b → IsAlike b c → IsAlike a c
alike_both a b c x y = record {
  tree = y.tree ∙ x.tree;
  issued = y.issued ∙ x.issued;
  table = y.table ∙ x.table;
  times = y.times ∙ x.times;
  marks = y.marks ∙ x.marks;
  mount = y.mount ∙ x.mount;
  serial = y.serial ∙ x.serial;
}

-- ---- calls that only look

abbrev pub IsSight : Call → Type 0
IsSight (Find name) = Unit {0}
IsSight Rooms = Unit {0}
IsSight (Look room look) = Unit {0}
IsSight call = ⊥

find_table : (table : Table) (told : Told) → (find_outcome table told).table ≡ table
find_table table (Ok (answer.Number n)) = refl
find_table table (Ok answer.Absent) = refl
find_table table told = refl

looks_only : (room : ℕ) (look : Sight) → IsLook (look_step room look)
looks_only room Top = tt
looks_only room (ListFolder folder) = tt
looks_only room (Length path) = tt
looks_only room (Read path at len) = tt

-- a look of the store leaves its tree
pub tree_stays : (step : Step) (old new : Stored) (tree : Tree) (told : Told) → IsLook step → old.tree ≡ Some tree → Acts step old new told → new.tree ≡ old.tree
tree_stays step old new tree told look e acts =
    let t = acts_told step old new tree told e acts in
    t.1 ∙ ap Some (look_told step tree told t.0 look t.2) ∙ sym e

module _ (m : Moment) (sound : IsSoundAt m) where
  so : (call : Call) (reply : Reply) (after : State) (step : Step) (told : Told) → IsLook step → Acts step m.state.store after.store told → after ≡ record m.state { store = after.store } → issued_after m.issued m.state call reply ≡ m.issued → IsAlike m (record { state = after; issued = issued_after m.issued m.state call reply })
  so call reply after step told look acts is issued = record {
    tree = tree_stays step m.state.store after.store sound.shape.tree told look sound.shape.told acts;
    issued = issued;
    table = ap (λ (s : State). s.table) is;
    times = ap (λ (s : State). s.times) is;
    marks = ap (λ (s : State). s.marks) is;
    mount = ap (λ (s : State). s.mount) is;
    serial = ap (λ (s : State). s.serial) is;
  }

  pub same_state : (call : Call) (reply : Reply) (after : State) → after ≡ m.state → issued_after m.issued m.state call reply ≡ m.issued → IsAlike m (record { state = after; issued = issued_after m.issued m.state call reply })
  same_state call reply after is issued = record {
    tree = ap (λ (s : State). s.store.tree) is;
    issued = issued;
    table = ap (λ (s : State). s.table) is;
    times = ap (λ (s : State). s.times) is;
    marks = ap (λ (s : State). s.marks) is;
    mount = ap (λ (s : State). s.mount) is;
    serial = ap (λ (s : State). s.serial) is;
  }

  pub sight_alike : (caller : ℕ) (call : Call) (reply : Reply) (after : State) → IsSight call → Answers m.state caller call reply after → IsAlike m (record { state = after; issued = issued_after m.issued m.state call reply })
  sight_alike caller (Find name) reply after is a =
      so (Find name) reply after (find_room name) a.makes.told tt a.makes.made (a.makes.after ∙ ap (λ (t : Table). record m.state { store = after.store; table = t }) (find_table m.state.table a.makes.told)) refl
  sight_alike caller Rooms reply after is a = so Rooms reply after all_rooms a.told tt a.made a.after refl
  sight_alike caller (Look room look) reply after is a =
      elim (match_cases (room_check m.state room) (MakesAct (look_step room look) (look_outcome look m.state) m.state reply after) (λ why. Refuses why m.state reply after) a) as (λ _. IsAlike m (record { state = after; issued = m.issued })) [
        | inl (free, x) ↦ so (Look room look) reply after (look_step room look) x.told (looks_only room look) x.made x.after refl
        | inr (why, some, refused) ↦ same_state (Look room look) reply after refused.1 refl
      ]
  sight_alike caller call reply after is a = absurd is

  pub event_alike : (e : Event) → IsLawful m.state (e ∷ []) → e.ask.stop ≡ None → IsSight e.ask.call → IsAlike m (next_moment m e)
  event_alike e lawful whole is = sight_alike e.caller e.ask.call e.reply e.after is (whole_answers m.state e.caller e.ask e.reply e.after whole lawful.1)

-- whole calls, each of which only looks
abbrev pub AreSights : List Event → Type 0
AreSights events = AllByRecursion (λ (e : Event). (e.ask.stop ≡ None) × IsSight e.ask.call) events

pub run_alike : (events : List Event) (m : Moment) → IsSoundAt m → IsLawful m.state events → AreSights events → IsAlike m (moment_after m events)
run_alike [] m sound lawful are = alike_same m
run_alike (e ∷ events) m sound lawful are =
    let now = event_alike m sound e (lawful.0, lawful.1, tt) are.0.0 are.0.1 in
    alike_both m (next_moment m e) (moment_after m (e ∷ events)) now (run_alike events (next_moment m e) (sound_after m (e ∷ []) (lawful.0, lawful.1, tt) sound) lawful.2 are.1)

-- ---- what a machine has of it

pub landed_alike : (m next : Moment) (d : Dropping) → next.state.store.tree ≡ m.state.store.tree → landed next d ≡ landed m d
landed_alike m next d tree = ap (λ t. length (entries_there (bytes_of (file_told t d.room (index_path d.host d.writer))) (bytes_of (file_told t d.room (log_path d.host d.writer))))) tree

module _ (m next : Moment) (l : IsAlike m next) (sound : IsSoundAt next) where
  own_alike : (me number : ℕ) (handle : WriterHandle) (w : PlainWriter) → MirrorsOwn me number handle w m → MirrorsOwn me number handle w next
  own_alike me number handle w o = record {
    sound = sound;
    row = o.row;
    opened = record { has = record { there = ap (λ (t : Table). row_of w.id t.writers) l.table ∙ o.opened.has.there; owned = o.opened.has.owned }; is_open = o.opened.is_open };
    room = o.room;
    host = o.host;
    floor = o.floor;
    capacity = o.capacity;
    counted = o.counted;
    issued = ap (λ (x : Ledger). x number w.id) l.issued ∙ o.issued;
    landed_is = landed_alike m next (record { room = number; host = w.host; writer = w.id }) l.tree ∙ o.landed_is;
    writer = o.writer;
    pending = o.pending;
    cap_is = o.cap_is;
    fresh = o.fresh;
  }

  pub handle_alike : (p : Plain) (me : ℕ) (h : Option WriterHandle) (own : Option PlainOwn) → MirrorsHandle m me p h own → MirrorsHandle next me p h own
  handle_alike p me None None x = tt
  handle_alike p me (Some h) None x = absurd x
  handle_alike p me None (Some own) x = absurd x
  handle_alike p me (Some h) (Some own) x = (x.0, x.1, own_alike me own.room h x.0 x.2)

  pub machine_alike : (p : Plain) → Mirrors m p → Mirrors next p
  machine_alike p o = machine_same m next p p o sound l.tree l.issued l.table l.marks l.mount (let same = l.serial in omega (arith, same)) refl (l.times ∙ o.times) refl (l.serial ∙ o.serial)

  -- The statement has this outcome, and changes nothing.
  pub changes_nothing : (me : ℕ) (declared : ActorDecl) (p : Plain) (actor : PlainActor) (statement : Statement) (outcome : Outcome) (handle : Option WriterHandle) → Mirrors m p → HasActor m me p handle actor → Takes me declared actor p statement outcome p → TakesStep m me declared actor p statement outcome next handle
  changes_nothing me declared p actor statement outcome handle o has takes = record {
    new = p;
    takes = takes;
    mirrors = machine_alike p o;
    left = actor;
    its_actor = record { there = has.there; its_own = handle_alike p me handle actor.writer has.its_own };
    reader = refl;
    others = λ other apart. refl;
    handles = λ other h own apart x. handle_alike p other h own x;
  }
