-- One room of a mount turns into another, and no writer's files change: a plain machine has another room in its place.
use Rattle.std.proofs.Common.{◌≡◌, ◌≤◌, ℕ, Bool, not, List, [], length, Option, Some, None, refl, sym, ap, ◌∙◌, inl, inr, subst, arith}
use Rattle.std.specs.Prelude.{is_some, slice_get}
use Rattle.std.proofs.lemmas.Bool.{cases_eq}
use Rattle.std.proofs.lemmas.List.Elements.{All-from_recursion, recursion_from_All}
use Rattle.plfs_types.specs.declared.entries.Trunc.{Trunc}
use Rattle.plfs_types.specs.declared.names.Path.{Path}
use Rattle.container_layout.specs.declared.items.Item.{Item}
use Rattle.container_layout.specs.declared.items.Item.TheVariants as item
use Rattle.container_layout.specs.Paths.{path_of}
use Rattle.script_lang.specs.declared.line.Outcome.{Outcome}
use Rattle.script_lang.specs.declared.script.ActorDecl.{ActorDecl}
use Rattle.script_lang.specs.declared.script.Statement.{Statement}
use Rattle.store_api.specs.declared.tree.Room.{Room}
use Rattle.store_api.specs.declared.tree.Tree.{Tree}
use Rattle.store_api.specs.Room.{has_folder}
use Rattle.store_laws.specs.Changes.{with_room}
use Rattle.store_laws.specs.Files.{file_at}
use Rattle.store_laws.proofs.Facts.{changed_room, other_room}
use Rattle.mount_model.specs.Paths.{Name, index_path, log_path, open_path}
use Rattle.container_layout.specs.Paths.{openhosts}
use Rattle.mount_model.specs.State.{State, last_id}
use Rattle.mount_model.specs.Table.{row_of}
use Rattle.mount_sound.specs.Dropping.{bytes_of}
use Rattle.mount_sound.specs.Ledger.{Ledger}
use Rattle.mount_sound.specs.There.{entries_there}
use Rattle.reader_laws.specs.GatheringListing.{AreTruncsAt}
use Rattle.reader_laws.specs.Moments.{Dropping, HadItem, HadTrunc, IsSoundAt, Moment, file_in_room, file_then, file_told, index_then, landed, log_then}
use Rattle.reader_laws.proofs.Gathered.Facts.{All-weaker}
use Rattle.writer_flow.specs.declared.handle.WriterHandle.{WriterHandle}
use Rattle.plain_machine.specs.Machine.{Plain, PlainActor, PlainOwn, PlainRoom, PlainWriter}
use Rattle.plain_machine.specs.Finding.{owned_writer, writer_in, writer_of_room}
use Rattle.plain_machine.specs.Statements.{Takes}
use Rattle.plain_plays.specs.Mirrors.{HasTrace, Mirrors, MirrorsAt, MirrorsHandle, MirrorsRoom, MirrorsWriter, is_live_in, room_then, room_told}
use Rattle.plain_plays.specs.Plainly.{MirrorsOwn, dropping_of}
use Rattle.plain_plays.specs.Stepping.{HasActor, TakesStep}
use Rattle.plain_plays.proofs.PlainSteps.Steps.Making.{same_at}

-- ---- a room turns

-- The room of this number was this one, and is that one. All other rooms are as they were, and so are the ledger and the table's writers.
pub record Turns (n : ℕ) (old new : Room) (m next : Moment) : Type 0 where
  pub was : room_then m n ≡ Some old
  pub now : room_then next n ≡ Some new
  pub others : (k : ℕ) → (k ≡ n → ⊥) → room_then next k ≡ room_then m k
  pub issued : next.issued ≡ m.issued
  pub writers : next.state.table.writers ≡ m.state.table.writers
  pub marks : next.state.marks ≡ m.state.marks
  pub mount : next.state.mount ≡ m.state.mount
  pub drawn : m.state.serial ≤ next.state.serial

pub turns_both : (n : ℕ) (r s t : Room) (a b c : Moment) → Turns n r s a b → Turns n s t b c → Turns n r t a c
turns_both n r s t a b c x y = record {
  was = x.was;
  now = y.now;
  others = λ k apart. y.others k apart ∙ x.others k apart;
  issued = y.issued ∙ x.issued;
  writers = y.writers ∙ x.writers;
  marks = y.marks ∙ x.marks;
  mount = y.mount ∙ x.mount;
  drawn = let p = x.drawn in let q = y.drawn in omega (arith, p, q);
}

-- what the trees say of it
module _ (n : ℕ) (m next : Moment) (tree after : Tree) (shown : m.state.store.tree ≡ Some tree) (then_shown : next.state.store.tree ≡ Some after) where
  pub room_shown : (k : ℕ) (o : Option Room) → slice_get tree.rooms k ≡ o → room_then m k ≡ o
  room_shown k o e = ap (λ t. room_told t k) shown ∙ e

  pub other_shown : (old new : Room) → after ≡ with_room tree n new → (k : ℕ) → (k ≡ n → ⊥) → room_then next k ≡ room_then m k
  other_shown old new gives k apart = ap (λ t. room_told t k) then_shown ∙ ap (λ (t : Tree). slice_get t.rooms k) gives ∙ other_room tree n k new apart ∙ sym (ap (λ t. room_told t k) shown)

  pub new_shown : (old new : Room) → slice_get tree.rooms n ≡ Some old → after ≡ with_room tree n new → room_then next n ≡ Some new
  new_shown old new there gives = ap (λ t. room_told t n) then_shown ∙ ap (λ (t : Tree). slice_get t.rooms n) gives ∙ changed_room tree n old new there

-- The calls' own part of it: nothing was issued, no writer changed, and the serial is no less.
pub record KeepsTable (m next : Moment) : Type 0 where
  pub issued : next.issued ≡ m.issued
  pub writers : next.state.table.writers ≡ m.state.table.writers
  pub marks : next.state.marks ≡ m.state.marks
  pub mount : next.state.mount ≡ m.state.mount
  pub drawn : m.state.serial ≤ next.state.serial

pub turns_so : (n : ℕ) (old new : Room) (m next : Moment) (tree after : Tree) → m.state.store.tree ≡ Some tree → next.state.store.tree ≡ Some after → slice_get tree.rooms n ≡ Some old → after ≡ with_room tree n new → KeepsTable m next → Turns n old new m next
turns_so n old new m next tree after shown then_shown there gives k = record {
  was = room_shown n m next tree after shown then_shown n (Some old) there;
  now = new_shown n m next tree after shown then_shown old new there gives;
  others = other_shown n m next tree after shown then_shown old new gives;
  issued = k.issued;
  writers = k.writers;
  marks = k.marks;
  mount = k.mount;
  drawn = k.drawn;
}

-- where the tree is as it was
pub turns_none : (n : ℕ) (room : Room) (m next : Moment) → room_then m n ≡ Some room → next.state.store.tree ≡ m.state.store.tree → KeepsTable m next → Turns n room room m next
turns_none n room m next was same k = record {
  was = was;
  now = ap (λ t. room_told t n) same ∙ was;
  others = λ j apart. ap (λ t. room_told t j) same;
  issued = k.issued;
  writers = k.writers;
  marks = k.marks;
  mount = k.mount;
  drawn = k.drawn;
}

-- ---- writers' files are as they were

-- of the items that writers have
pub record KeepsDroppings (old new : Room) : Type 0 where
  pub index : (host writer : ℕ) → file_at new (index_path host writer) ≡ file_at old (index_path host writer)
  pub log : (host writer : ℕ) → file_at new (log_path host writer) ≡ file_at old (log_path host writer)
  pub opens : (host writer : ℕ) → file_at new (open_path host writer) ≡ file_at old (open_path host writer)

-- all files are as they were
pub all_kept : (old new : Room) → ((path : Path) → file_at new path ≡ file_at old path) → KeepsDroppings old new
all_kept old new same = record { index = λ host writer. same (index_path host writer); log = λ host writer. same (log_path host writer); opens = λ host writer. same (open_path host writer) }

pub by_room : (tree : Option Tree) (n : ℕ) (path : Path) → file_told tree n path ≡ file_in_room (room_told tree n) path
by_room None n path = refl
by_room (Some tree) n path = refl

later : (a b : State) → b.mount ≡ a.mount → a.serial ≤ b.serial → last_id a ≤ last_id b
later a b mount serials = omega (arith, mount, serials)

module _ (n : ℕ) (old new : Room) (m next : Moment) (t : Turns n old new m next) where
  -- a file of this path
  pub file_same : (path : Path) → file_at new path ≡ file_at old path → (k : ℕ) → file_then next k path ≡ file_then m k path
  file_same path same k = by_room next.state.store.tree k path ∙ in_room ∙ sym (by_room m.state.store.tree k path)
    where
      in_room : file_in_room (room_then next k) path ≡ file_in_room (room_then m k) path
      in_room = elim (cases_eq k n) as (λ _. file_in_room (room_then next k) path ≡ file_in_room (room_then m k) path) [
        | inl here ↦ subst (λ j. file_in_room (room_then next j) path ≡ file_in_room (room_then m j) path) (sym here) (ap (λ o. file_in_room o path) t.now ∙ same ∙ sym (ap (λ o. file_in_room o path) t.was))
        | inr other ↦ ap (λ o. file_in_room o path) (t.others k other)
      ]

  -- those of other rooms
  file_other : (k : ℕ) → (k ≡ n → ⊥) → (path : Path) → file_then next k path ≡ file_then m k path
  file_other k apart path = by_room next.state.store.tree k path ∙ ap (λ o. file_in_room o path) (t.others k apart) ∙ sym (by_room m.state.store.tree k path)

  pub last_later : last_id m.state ≤ last_id next.state
  last_later = later m.state next.state t.mount t.drawn

  -- the items of the room itself
  pub had_now : (i : Item) → file_at new (path_of i) ≡ file_at old (path_of i) → HadItem m n i → HadItem next n i
  had_now i same h = record { is_item = h.is_item; bytes = h.bytes; there = file_same (path_of i) same n ∙ h.there }

  pub had_before : (i : Item) → file_at new (path_of i) ≡ file_at old (path_of i) → HadItem next n i → HadItem m n i
  had_before i same h = record { is_item = h.is_item; bytes = h.bytes; there = sym (file_same (path_of i) same n) ∙ h.there }

  -- its truncates, where no file has changed
  pub truncs_kept : ((path : Path) → file_at new path ≡ file_at old path) → (ts : List Trunc) → AreTruncsAt m n ts → AreTruncsAt next n ts
  truncs_kept same ts are = record {
    rise = are.rise;
    there = All-from_recursion (λ (x : Trunc). HadTrunc next n x.stamp x.size) ts (All-weaker (λ (x : Trunc). HadTrunc m n x.stamp x.size) (λ (x : Trunc). HadTrunc next n x.stamp x.size) ts (λ x h. had_now (item.Trunc x.stamp x.size) (same (path_of (item.Trunc x.stamp x.size))) h) (recursion_from_All (λ (x : Trunc). HadTrunc m n x.stamp x.size) ts are.there));
    all = λ x h. are.all x (had_before (item.Trunc x.stamp x.size) (same (path_of (item.Trunc x.stamp x.size))) h);
  }

  module _ (k : KeepsDroppings old new) where
    landed_same : (d : Dropping) → landed next d ≡ landed m d
    landed_same d =
        let index : index_then next d ≡ index_then m d = file_same (index_path d.host d.writer) (k.index d.host d.writer) d.room in
        let log : log_then next d ≡ log_then m d = file_same (log_path d.host d.writer) (k.log d.host d.writer) d.room in
        ap (λ o. length (entries_there (bytes_of o) (bytes_of (log_then next d)))) index ∙ ap (λ o. length (entries_there (bytes_of (index_then m d)) (bytes_of o))) log

    writer_same : (w : PlainWriter) → MirrorsWriter m n w → MirrorsWriter next n w
    writer_same w o = record {
      named = o.named;
      drawn = let last = last_later in omega (arith, o.drawn, last);
      issued = ap (λ (l : Ledger). l n w.id) t.issued ∙ o.issued;
      landed_is = landed_same (dropping_of n w) ∙ o.landed_is;
      opens = ap is_some (file_same (open_path w.host w.id) (k.opens w.host w.id) n) ∙ o.opens;
      owned = ap (λ rows. is_live_in n (row_of w.id rows)) t.writers ∙ o.owned;
    }

    trace_same : (d : Dropping) → d.room ≡ n → HasTrace next d → HasTrace m d
    trace_same d here (inl some) = inl (subst (λ c. 1 ≤ c) (landed_same d) some)
    trace_same d here (inr h) = inr (subst (λ j. HadItem m j (item.OpenHost d.host d.writer)) (sym here) (had_before (item.OpenHost d.host d.writer) (k.opens d.host d.writer) (subst (λ j. HadItem next j (item.OpenHost d.host d.writer)) here h)))

    -- a machine's room, with this name and these truncates, held or not
    pub room_so : (room : PlainRoom) (name : Name) (is_held : Bool) (truncs : List Trunc) → MirrorsRoom m n old room → new.name ≡ name → has_folder new openhosts ≡ not is_held → AreTruncsAt next n truncs → MirrorsRoom next n new (record { name = name; is_held = is_held; truncs = truncs; writers = room.writers })
    room_so room name is_held truncs o named held are = record {
      name = named;
      held = λ apart. held;
      truncs = are;
      writers = All-weaker (MirrorsWriter m n) (MirrorsWriter next n) room.writers (λ w x. writer_same w x) o.writers;
      rise = o.rise;
      all = λ d d_named here trace. o.all d d_named here (trace_same d here trace);
    }

    -- ---- the machine with this room

    own_same : (me number : ℕ) (handle : WriterHandle) (w : PlainWriter) → IsSoundAt next → MirrorsOwn me number handle w m → MirrorsOwn me number handle w next
    own_same me number handle w sound o = record {
      sound = sound;
      row = o.row;
      opened = record { has = record { there = ap (λ rows. row_of w.id rows) t.writers ∙ o.opened.has.there; owned = o.opened.has.owned }; is_open = o.opened.is_open };
      room = o.room;
      host = o.host;
      floor = o.floor;
      capacity = o.capacity;
      counted = o.counted;
      issued = ap (λ (l : Ledger). l number w.id) t.issued ∙ o.issued;
      landed_is = landed_same (dropping_of number w) ∙ o.landed_is;
      writer = o.writer;
      pending = o.pending;
      cap_is = o.cap_is;
      fresh = o.fresh;
    }

    module _ (p q : Plain) (room left : PlainRoom) (there : slice_get p.rooms n ≡ Some room) (here : slice_get q.rooms n ≡ Some left) (elsewhere : (j : ℕ) → (j ≡ n → ⊥) → slice_get q.rooms j ≡ slice_get p.rooms j) (sound : IsSoundAt next) where
      pub machine_turned : Mirrors m p → MirrorsRoom next n new left → next.state.times ≡ q.times → q.mark ≡ p.mark → next.state.serial ≡ q.serial → next.state.table.holders ≡ [] → Mirrors next q
      machine_turned o now times mark serial none = record {
        sound = sound;
        rooms = λ j. elim (cases_eq j n) as (λ _. MirrorsAt next j (room_then next j) (slice_get q.rooms j)) [
          | inl same ↦ subst (λ i. MirrorsAt next i (room_then next i) (slice_get q.rooms i)) (sym same) (subst (λ x. MirrorsAt next n x (slice_get q.rooms n)) (sym t.now) (subst (MirrorsAt next n (Some new)) (sym here) now))
          | inr other ↦
              let was : MirrorsAt next j (room_then m j) (slice_get p.rooms j) = same_at m next t.issued t.writers t.marks last_later j (file_other j other) (room_then m j) (slice_get p.rooms j) (o.rooms j) in
              subst (λ x. MirrorsAt next j x (slice_get q.rooms j)) (sym (t.others j other)) (subst (MirrorsAt next j (room_then m j)) (sym (elsewhere j other)) was)
        ];
        times = times;
        mark = t.mount ∙ o.mark ∙ sym mark;
        serial = serial;
        none_hold = none;
      }

      owned_same : left.writers ≡ room.writers → (own : PlainOwn) (w : PlainWriter) → owned_writer p own ≡ Some w → owned_writer q own ≡ Some w
      owned_same same own w e = elim (cases_eq own.room n) as (λ _. owned_writer q own ≡ Some w) [
        | inl at ↦ ap (λ j. writer_of_room own.id (slice_get q.rooms j)) at ∙ ap (writer_of_room own.id) here ∙ writers_there same own.id ∙ sym (ap (writer_of_room own.id) there) ∙ sym (ap (λ j. writer_of_room own.id (slice_get p.rooms j)) at) ∙ e
        | inr other ↦ ap (writer_of_room own.id) (elsewhere own.room other) ∙ e
      ]
        where
          writers_there : left.writers ≡ room.writers → (id : ℕ) → writer_of_room id (Some left) ≡ writer_of_room id (Some room)
          writers_there same id = ap (λ ws. writer_in id ws) same

      pub handle_turned : left.writers ≡ room.writers → (who : ℕ) (h : Option WriterHandle) (own : Option PlainOwn) → MirrorsHandle m who p h own → MirrorsHandle next who q h own
      handle_turned same who None None x = tt
      handle_turned same who (Some h) None x = absurd x
      handle_turned same who None (Some own) x = absurd x
      handle_turned same who (Some h) (Some own) x = (x.0, owned_same same own x.0 x.1, own_same who own.room h x.0 sound x.2)

      -- The statement has this outcome. The room is that one then, with the same writers.
      pub turned_takes : (me : ℕ) (declared : ActorDecl) (actor : PlainActor) (statement : Statement) (outcome : Outcome) (handle : Option WriterHandle) → Mirrors m p → HasActor m me p handle actor → MirrorsRoom next n new left → left.writers ≡ room.writers → q.actors ≡ p.actors
          → next.state.times ≡ q.times → q.mark ≡ p.mark → next.state.serial ≡ q.serial → next.state.table.holders ≡ [] → Takes me declared actor p statement outcome q → TakesStep m me declared actor p statement outcome next handle
      turned_takes me declared actor statement outcome handle o has now same actors times mark serial none takes = record {
        new = q;
        takes = takes;
        mirrors = machine_turned o now times mark serial none;
        left = actor;
        its_actor = record { there = ap (λ (l : List PlainActor). slice_get l me) actors ∙ has.there; its_own = handle_turned same me handle actor.writer has.its_own };
        reader = refl;
        others = λ other apart. ap (λ (l : List PlainActor). slice_get l other) actors;
        handles = λ other h own apart x. handle_turned same other h own x;
      }
