-- Calls that change no file of a writer and no truncate leave a room as a plain machine has it.
use Rattle.std.proofs.Common.{◌≡◌, ◌+◌, ℕ, List, Option, Some, refl, sym, ap, ◌∙◌, arith}
use Rattle.std.specs.Prelude.{slice_get}
use Rattle.std.proofs.lemmas.List.Elements.{All-from_recursion, recursion_from_All}
use Rattle.plfs_types.specs.declared.entries.Trunc.{Trunc}
use Rattle.container_layout.specs.declared.items.Item.TheVariants as item
use Rattle.container_layout.specs.Paths.{openhosts}
use Rattle.store_api.specs.declared.tree.Room.{Room}
use Rattle.store_api.specs.declared.tree.Tree.{Tree}
use Rattle.store_api.specs.Acts.{Acts}
use Rattle.store_api.specs.Room.{has_folder}
use Rattle.store_api.specs.Step.{Step}
use Rattle.store_laws.specs.Changes.{with_room}
use Rattle.store_laws.specs.Files.{file_at}
use Rattle.store_laws.specs.Naming.{NamesFile, NamesFolder, NamesRoom}
use Rattle.store_laws.specs.Tells.{Tells}
use Rattle.store_laws.proofs.Facts.{acts_told, keeps_rooms, other_room}
use Rattle.script_lang.specs.declared.line.Outcome.{Outcome}
use Rattle.script_lang.specs.declared.script.ActorDecl.{ActorDecl}
use Rattle.script_lang.specs.declared.script.Statement.{Statement}
use Rattle.mount_model.specs.Making.{Told}
use Rattle.mount_model.specs.Paths.{index_path, log_path, open_path, trunc_path}
use Rattle.mount_model.specs.State.{Table}
use Rattle.reader_laws.specs.GatheringListing.{AreTruncsAt}
use Rattle.reader_laws.specs.Moments.{HadTrunc, IsSoundAt, Moment}
use Rattle.reader_laws.proofs.Gathered.Facts.{All-weaker}
use Rattle.writer_flow.specs.declared.handle.WriterHandle.{WriterHandle}
use Rattle.plain_machine.specs.Machine.{Plain, PlainActor, PlainRoom}
use Rattle.plain_machine.specs.Becoming.{drawn}
use Rattle.plain_machine.specs.Statements.{Takes}
use Rattle.plain_plays.specs.ByItself.{having_drawn}
use Rattle.plain_plays.specs.Mirrors.{Mirrors, MirrorsRoom, room_then, room_told}
use Rattle.plain_plays.specs.Stepping.{HasActor, TakesStep}
use Rattle.plain_plays.proofs.PlainSteps.ByName.Looking.{IsAlike}
use Rattle.plain_plays.proofs.PlainSteps.ByName.Turning.{KeepsDroppings, KeepsTable, Turns, had_before, had_now, machine_turned, room_so, turned_takes, turns_both}

-- ---- what a plain machine has of a room

-- The room's name, its folder of open writers, its droppings and its truncates are as they were.
pub record KeepsShown (old new : Room) : Type 0 where
  pub name : new.name ≡ old.name
  pub opens : has_folder new openhosts ≡ has_folder old openhosts
  pub droppings : KeepsDroppings old new
  pub truncs : (stamp size : ℕ) → file_at new (trunc_path stamp size) ≡ file_at old (trunc_path stamp size)

shown_same : (room : Room) → KeepsShown room room
shown_same room = record {
  name = refl;
  opens = refl;
  droppings = record { index = λ host writer. refl; log = λ host writer. refl; opens = λ host writer. refl };
  truncs = λ stamp size. refl;
}

shown_both : (a b c : Room) → KeepsShown a b → KeepsShown b c → KeepsShown a c
shown_both a b c x y = record {
  name = y.name ∙ x.name;
  opens = y.opens ∙ x.opens;
  droppings = record {
    index = λ host writer. y.droppings.index host writer ∙ x.droppings.index host writer;
    log = λ host writer. y.droppings.log host writer ∙ x.droppings.log host writer;
    opens = λ host writer. y.droppings.opens host writer ∙ x.droppings.opens host writer;
  };
  truncs = λ stamp size. y.truncs stamp size ∙ x.truncs stamp size;
}

-- ---- from moment to moment

-- The room of this number shows what it showed, all else is as it was, and so many serials were drawn.
pub record StaysSo (n more : ℕ) (old : Room) (m next : Moment) : Type 0 where
  pub new : Room
  pub turns : Turns n old new m next
  pub shown : KeepsShown old new
  pub times : next.state.times ≡ m.state.times
  pub holders : next.state.table.holders ≡ m.state.table.holders
  pub serial : next.state.serial ≡ m.state.serial + more

-- one after the other
pub stays_both : (n more later total : ℕ) (old : Room) (a b c : Moment) (x : StaysSo n more old a b) → StaysSo n later x.new b c → total ≡ more + later → StaysSo n total old a c
stays_both n more later total old a b c x y all = record {
  new = y.new;
  turns = turns_both n old x.new y.new a b c x.turns y.turns;
  shown = shown_both old x.new y.new x.shown y.shown;
  times = y.times ∙ x.times;
  holders = y.holders ∙ x.holders;
  serial = let first = x.serial in let then_so = y.serial in omega (arith, first, then_so, all);
}

-- no further serial was drawn
pub stays_on : (n more : ℕ) (old : Room) (a b c : Moment) (x : StaysSo n more old a b) → StaysSo n 0 x.new b c → StaysSo n more old a c
stays_on n more old a b c x y = stays_both n more 0 more old a b c x y (omega arith)

-- so it is where nothing has changed
pub stays_alike : (n : ℕ) (old : Room) (m next : Moment) → room_then m n ≡ Some old → IsAlike m next → StaysSo n 0 old m next
stays_alike n old m next at l = record {
  new = old;
  turns = record {
    was = at;
    now = ap (λ t. room_told t n) l.tree ∙ at;
    others = λ k apart. ap (λ t. room_told t k) l.tree;
    issued = l.issued;
    writers = ap (λ (t : Table). t.writers) l.table;
    marks = l.marks;
    mount = l.mount;
    drawn = let same = l.serial in omega (arith, same);
  };
  shown = shown_same old;
  times = l.times;
  holders = ap (λ (t : Table). t.holders) l.table;
  serial = let same = l.serial in omega (arith, same);
}

-- ---- an act

-- The step changes no other room, and in this one no name, no folder of open writers, no dropping and no truncate.
pub record IsAside (n : ℕ) (step : Step) : Type 0 where
  pub alone : (tree after : Tree) (told : Told) → Tells step tree told after → (k : ℕ) → (k ≡ n → ⊥) → slice_get after.rooms k ≡ slice_get tree.rooms k
  pub room : NamesRoom step n → ⊥
  pub folder : NamesFolder step n openhosts → ⊥
  pub index : (host writer : ℕ) → NamesFile step n (index_path host writer) → ⊥
  pub log : (host writer : ℕ) → NamesFile step n (log_path host writer) → ⊥
  pub opens : (host writer : ℕ) → NamesFile step n (open_path host writer) → ⊥
  pub trunc : (stamp size : ℕ) → NamesFile step n (trunc_path stamp size) → ⊥

pub same_elsewhere : (n : ℕ) (tree after : Tree) (new : Room) → after ≡ with_room tree n new → (k : ℕ) → (k ≡ n → ⊥) → slice_get after.rooms k ≡ slice_get tree.rooms k
same_elsewhere n tree after new gives k apart = ap (λ (t : Tree). slice_get t.rooms k) gives ∙ other_room tree n k new apart

pub same_all : (tree after : Tree) → after ≡ tree → (k : ℕ) → slice_get after.rooms k ≡ slice_get tree.rooms k
same_all tree after same k = ap (λ (t : Tree). slice_get t.rooms k) same

-- a call with such an act
pub aside_stays : (m : Moment) (s : IsSoundAt m) (n more : ℕ) (old : Room) → room_then m n ≡ Some old → (next : Moment) (step : Step) (told : Told) → IsAside n step → Acts step m.state.store next.state.store told → KeepsTable m next → next.state.times ≡ m.state.times
    → next.state.table.holders ≡ m.state.table.holders → next.state.serial ≡ m.state.serial + more → StaysSo n more old m next
aside_stays m s n more old at next step told aside acts kept times holders serial =
    let tree : Tree = s.shape.tree in
    let t = acts_told step m.state.store next.state.store tree told s.shape.told acts in
    let in_tree : slice_get tree.rooms n ≡ Some old = sym (ap (λ x. room_told x n) s.shape.told) ∙ at in
    let k = keeps_rooms step tree told t.0 t.2 n old in_tree in
    record {
      new = k.0;
      turns = record {
        was = at;
        now = ap (λ x. room_told x n) t.1 ∙ k.1;
        others = λ j apart. ap (λ x. room_told x j) t.1 ∙ aside.alone tree t.0 told t.2 j apart ∙ sym (ap (λ x. room_told x j) s.shape.told);
        issued = kept.issued;
        writers = kept.writers;
        marks = kept.marks;
        mount = kept.mount;
        drawn = kept.drawn;
      };
      shown = record {
        name = k.2.name aside.room;
        opens = k.2.folders openhosts aside.folder;
        droppings = record {
          index = λ host writer. k.2.files (index_path host writer) (aside.index host writer);
          log = λ host writer. k.2.files (log_path host writer) (aside.log host writer);
          opens = λ host writer. k.2.files (open_path host writer) (aside.opens host writer);
        };
        truncs = λ stamp size. k.2.files (trunc_path stamp size) (aside.trunc stamp size);
      };
      times = times;
      holders = holders;
      serial = serial;
    }

-- ---- what a machine has of it

module _ (n more : ℕ) (old : Room) (m next : Moment) (y : StaysSo n more old m next) where
  truncs_stay : (ts : List Trunc) → AreTruncsAt m n ts → AreTruncsAt next n ts
  truncs_stay ts are = record {
    rise = are.rise;
    there = All-from_recursion (λ (x : Trunc). HadTrunc next n x.stamp x.size) ts (All-weaker (λ (x : Trunc). HadTrunc m n x.stamp x.size) (λ (x : Trunc). HadTrunc next n x.stamp x.size) ts (λ x h. had_now n old y.new m next y.turns (item.Trunc x.stamp x.size) (y.shown.truncs x.stamp x.size) h) (recursion_from_All (λ (x : Trunc). HadTrunc m n x.stamp x.size) ts are.there));
    all = λ x h. are.all x (had_before n old y.new m next y.turns (item.Trunc x.stamp x.size) (y.shown.truncs x.stamp x.size) h);
  }

  pub room_stays : (room : PlainRoom) → (n ≡ m.state.marks → ⊥) → MirrorsRoom m n old room → MirrorsRoom next n y.new room
  room_stays room apart o = room_so n old y.new m next y.turns y.shown.droppings room room.name room.is_held room.truncs o (y.shown.name ∙ o.name) (y.shown.opens ∙ o.held apart) (truncs_stay room.truncs o.truncs)

-- so many serials were drawn
module _ (n more : ℕ) (old : Room) (m next : Moment) (y : StaysSo n more old m next) (sound : IsSoundAt next) (p : Plain) (o : Mirrors m p) (room : PlainRoom) (there : slice_get p.rooms n ≡ Some room) (apart : n ≡ m.state.marks → ⊥) (shows : MirrorsRoom m n old room) where
  pub machine_drawn_by : Mirrors next (having_drawn more p)
  machine_drawn_by = machine_turned n old y.new m next y.turns y.shown.droppings p (having_drawn more p) room room there there (λ j other. refl) sound o (room_stays n more old m next y room apart shows) (y.times ∙ o.times) refl (y.serial ∙ ap (λ k. k + more) o.serial) (y.holders ∙ o.none_hold)

-- where one serial was drawn
module _ (n : ℕ) (old : Room) (m next : Moment) (y : StaysSo n 1 old m next) (sound : IsSoundAt next) (p : Plain) (o : Mirrors m p) (room : PlainRoom) (there : slice_get p.rooms n ≡ Some room) (apart : n ≡ m.state.marks → ⊥) (shows : MirrorsRoom m n old room) where
  serial_is : next.state.serial ≡ (drawn p).serial
  serial_is = y.serial ∙ ap (λ k. k + 1) o.serial

  pub machine_drawn : Mirrors next (drawn p)
  machine_drawn = machine_drawn_by n 1 old m next y sound p o room there apart shows

  -- The statement has this outcome, and the machine has drawn a serial.
  pub drawn_takes : (me : ℕ) (declared : ActorDecl) (actor : PlainActor) (statement : Statement) (outcome : Outcome) (handle : Option WriterHandle) → HasActor m me p handle actor → Takes me declared actor p statement outcome (drawn p) → TakesStep m me declared actor p statement outcome next handle
  drawn_takes me declared actor statement outcome handle has takes =
      turned_takes n old y.new m next y.turns y.shown.droppings p (drawn p) room room there there (λ j other. refl) sound me declared actor statement outcome handle o has (room_stays n 1 old m next y room apart shows) refl refl (y.times ∙ o.times) refl serial_is (y.holders ∙ o.none_hold) takes
