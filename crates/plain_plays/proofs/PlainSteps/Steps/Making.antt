-- The container of an opening is found or made, as the plain machine finds or makes its room.
use Rattle.std.proofs.Common.{◌≡◌, ◌≤◌, ◌<◌, ◌+◌, ℕ, zero, suc, true, List, [], ◌∷◌, ◌++◌, length, length-append, Option, Some, None, Ok, Err, refl, sym, ap, ◌∙◌, inl, inr, subst, arith}
use Rattle.std.specs.Prelude.{is_some, slice_get}
use Rattle.std.proofs.lemmas.Bool.{cases_eq, cases_lt}
use Rattle.std.proofs.lemmas.List.Elements.{All-from_recursion, recursion_from_All}
use Rattle.std.proofs.lemmas.Option.{slice_get_past}
use Rattle.plfs_types.specs.declared.entries.Trunc.{Trunc}
use Rattle.plfs_types.specs.declared.names.Path.{Path}
use Rattle.container_layout.specs.declared.items.Item.{Item}
use Rattle.container_layout.specs.declared.items.Item.TheVariants as item
use Rattle.container_layout.specs.Paths.{path_of}
use Rattle.store_api.specs.declared.step.Answer.TheVariants as answer
use Rattle.store_api.specs.declared.store.Trouble.TheVariants as trouble
use Rattle.store_api.specs.declared.tree.Room.{Room as RoomThere}
use Rattle.store_api.specs.declared.tree.Tree.{Tree}
use Rattle.store_api.specs.Room.{has_folder}
use Rattle.store_api.specs.Step.{make_room}
use Rattle.store_laws.specs.Changes.{RoomMade}
use Rattle.store_laws.specs.Files.{file_at}
use Rattle.store_laws.specs.Outcomes.{MadeOrNot}
use Rattle.store_laws.specs.Says.{WhyNoRoomMade}
use Rattle.store_laws.specs.There.{IsFree, IsRoomOf}
use Rattle.store_laws.proofs.Facts.{acts_told, has_folder_same, item as place_item, make_room_told, name_other, name_same, slice_get_before, slice_get_last}
use Rattle.mount_model.specs.declared.call.Call.TheVariants.{MakeContainer}
use Rattle.mount_model.specs.declared.reply.Reply.TheVariants.{Room}
use Rattle.mount_model.specs.Finding.{make_outcome}
use Rattle.mount_model.specs.History.{Event}
use Rattle.mount_model.specs.Making.{Told}
use Rattle.mount_model.specs.Paths.{Name, new_files, new_folders}
use Rattle.container_layout.specs.Paths.{openhosts}
use Rattle.mount_model.specs.State.{State, Table, last_id}
use Rattle.mount_model.specs.Step.{Answers}
use Rattle.mount_model.specs.Table.{row_of}
use Rattle.mount_sound.specs.Dropping.{bytes_of}
use Rattle.mount_sound.specs.There.{entries_there}
use Rattle.mount_sound.specs.Ledger.{Ledger}
use Rattle.mount_sound.proofs.Facts.{IsBare, hostdir_below, made_bare}
use Rattle.reader_laws.specs.GatheringListing.{AreTruncsAt}
use Rattle.reader_laws.specs.Moments.{Dropping, HadItem, HadTrunc, IsSoundAt, Moment, file_in_room, file_then, file_told, landed, log_then, index_then, next_moment}
use Rattle.reader_laws.proofs.Gathered.Facts.{All-weaker}
use Rattle.plain_machine.specs.Machine.{Plain, PlainRoom, PlainWriter}
use Rattle.plain_machine.specs.Becoming.{empty_room, made}
use Rattle.plain_machine.specs.Finding.{find, find_from}
use Rattle.plain_plays.specs.Mirrors.{HasTrace, Mirrors, MirrorsAt, MirrorsRoom, MirrorsWriter, is_live_in, room_then, room_told}
use Rattle.plain_plays.specs.Plainly.{dropping_of}

-- ---- the room of a name

find_first : (rooms : List PlainRoom) (k n : ℕ) (name : Name) (room : PlainRoom) → slice_get rooms n ≡ Some room → room.name ≡ name → ((j : ℕ) (other : PlainRoom) → j < n → slice_get rooms j ≡ Some other → other.name ≡ name → ⊥) → find_from k name rooms ≡ Some (k + n)
find_first [] k n name room e is before = absurd (cc)
find_first (x ∷ rooms) k zero name room e is before =
    let same : x ≡ room = cc in
    rw (name_same x.name name (ap (λ (r : PlainRoom). r.name) same ∙ is)) (ap Some (omega arith))
find_first (x ∷ rooms) k (suc n) name room e is before =
    let other : x.name ≡ name → ⊥ = before 0 x (omega arith) refl in
    rw (name_other x.name name other) (find_first rooms (k + 1) n name room e is (λ j r l f g. before (suc j) r (omega (arith, l)) f g) ∙ ap Some (omega arith))

find_none : (rooms : List PlainRoom) (k : ℕ) (name : Name) → ((j : ℕ) (other : PlainRoom) → slice_get rooms j ≡ Some other → other.name ≡ name → ⊥) → find_from k name rooms ≡ None
find_none [] k name none = refl
find_none (x ∷ rooms) k name none = rw (name_other x.name name (none 0 x refl)) (find_none rooms (k + 1) name (λ j other e is. none (suc j) other e is))

-- ---- as many rooms

both_there : (m : Moment) (n : ℕ) (o : Option RoomThere) (room : PlainRoom) → MirrorsAt m n o (Some room) → o ≡ None → ⊥
both_there m n None room x e = x
both_there m n (Some r) room x e = absurd (cc)

one_there : (m : Moment) (n : ℕ) (r : RoomThere) (o : Option PlainRoom) → MirrorsAt m n (Some r) o → o ≡ None → ⊥
one_there m n r None x e = x
one_there m n r (Some room) x e = absurd (cc)

pub some_room : (m : Moment) (n : ℕ) (r : RoomThere) (o : Option PlainRoom) → MirrorsAt m n (Some r) o → (room : PlainRoom) × (o ≡ Some room) × MirrorsRoom m n r room
some_room m n r None x = absurd x
some_room m n r (Some room) x = (room, refl, x)

as_many : (m : Moment) (rs : List RoomThere) (ps : List PlainRoom) → ((n : ℕ) → MirrorsAt m n (slice_get rs n) (slice_get ps n)) → length rs ≡ length ps
as_many m rs ps at = elim (cases_lt (length rs) (length ps)) as (λ _. length rs ≡ length ps) [
  | inl less ↦
      let p = place_item ps (length rs) less in
      absurd (both_there m (length rs) (slice_get rs (length rs)) p.0 (subst (MirrorsAt m (length rs) (slice_get rs (length rs))) p.1 (at (length rs))) (slice_get_past rs (length rs) (omega arith)))
  | inr more ↦ elim (cases_lt (length ps) (length rs)) as (λ _. length rs ≡ length ps) [
    | inl less ↦
        let r = place_item rs (length ps) less in
        absurd (one_there m (length ps) r.0 (slice_get ps (length ps)) (subst (λ o. MirrorsAt m (length ps) o (slice_get ps (length ps))) r.1 (at (length ps))) (slice_get_past ps (length ps) (omega arith)))
    | inr no_more ↦ omega (arith, more, no_more)
  ]
]

-- ---- a room whose files are as they were

module _ (m next : Moment) (issued : next.issued ≡ m.issued) (writers : next.state.table.writers ≡ m.state.table.writers) (marks : next.state.marks ≡ m.state.marks) (last : last_id m.state ≤ last_id next.state) (n : ℕ) (files : (path : Path) → file_then next n path ≡ file_then m n path) where
  same_landed : (d : Dropping) → d.room ≡ n → landed next d ≡ landed m d
  same_landed d here =
      let index : index_then next d ≡ index_then m d = subst (λ k. (path : Path) → file_then next k path ≡ file_then m k path) (sym here) files (path_of (item.Index d.host d.writer)) in
      let log : log_then next d ≡ log_then m d = subst (λ k. (path : Path) → file_then next k path ≡ file_then m k path) (sym here) files (path_of (item.Log d.host d.writer)) in
      ap (λ o. length (entries_there (bytes_of o) (bytes_of (log_then next d)))) index ∙ ap (λ o. length (entries_there (bytes_of (index_then m d)) (bytes_of o))) log

  same_writer : (w : PlainWriter) → MirrorsWriter m n w → MirrorsWriter next n w
  same_writer w o = record {
    named = o.named;
    drawn = omega (arith, o.drawn, last);
    issued = ap (λ (l : Ledger). l n w.id) issued ∙ o.issued;
    landed_is = same_landed (dropping_of n w) refl ∙ o.landed_is;
    opens = ap is_some (files (path_of (item.OpenHost w.host w.id))) ∙ o.opens;
    owned = ap (λ rows. is_live_in n (row_of w.id rows)) writers ∙ o.owned;
  }

  had : (i : Item) → HadItem next n i → HadItem m n i
  had i h = record { is_item = h.is_item; bytes = h.bytes; there = sym (files (path_of i)) ∙ h.there }

  has : (i : Item) → HadItem m n i → HadItem next n i
  has i h = record { is_item = h.is_item; bytes = h.bytes; there = files (path_of i) ∙ h.there }

  trace_same : (d : Dropping) → d.room ≡ n → HasTrace next d → HasTrace m d
  trace_same d here (inl some) = inl (subst (λ k. 1 ≤ k) (same_landed d here) some)
  trace_same d here (inr h) = inr (subst (λ k. HadItem m k (item.OpenHost d.host d.writer)) (sym here) (had (item.OpenHost d.host d.writer) (subst (λ k. HadItem next k (item.OpenHost d.host d.writer)) here h)))

  same_truncs : (ts : List Trunc) → AreTruncsAt m n ts → AreTruncsAt next n ts
  same_truncs ts are = record {
    rise = are.rise;
    there = All-from_recursion (λ (t : Trunc). HadTrunc next n t.stamp t.size) ts (All-weaker (λ (t : Trunc). HadTrunc m n t.stamp t.size) (λ (t : Trunc). HadTrunc next n t.stamp t.size) ts (λ t h. has (item.Trunc t.stamp t.size) h) (recursion_from_All (λ (t : Trunc). HadTrunc m n t.stamp t.size) ts are.there));
    all = λ t h. are.all t (had (item.Trunc t.stamp t.size) h);
  }

  pub same_room : (r : RoomThere) (room : PlainRoom) → MirrorsRoom m n r room → MirrorsRoom next n r room
  same_room r room o = record {
    name = o.name;
    held = λ apart. o.held (λ same. apart (same ∙ sym marks));
    truncs = same_truncs room.truncs o.truncs;
    writers = All-weaker (MirrorsWriter m n) (MirrorsWriter next n) room.writers (λ w x. same_writer w x) o.writers;
    rise = o.rise;
    all = λ d named here trace. o.all d named here (trace_same d here trace);
  }

  pub same_at : (o : Option RoomThere) (q : Option PlainRoom) → MirrorsAt m n o q → MirrorsAt next n o q
  same_at None None x = tt
  same_at (Some r) (Some room) x = same_room r room x
  same_at None (Some room) x = absurd x
  same_at (Some r) None x = absurd x

-- ---- where the tree is as it was

-- the machine has the serials that are drawn then, and all else as before
pub machine_same : (m next : Moment) (p q : Plain) → Mirrors m p → IsSoundAt next → next.state.store.tree ≡ m.state.store.tree → next.issued ≡ m.issued → next.state.table ≡ m.state.table → next.state.marks ≡ m.state.marks → next.state.mount ≡ m.state.mount → m.state.serial ≤ next.state.serial
    → q.rooms ≡ p.rooms → next.state.times ≡ q.times → q.mark ≡ p.mark → next.state.serial ≡ q.serial → Mirrors next q
machine_same m next p q o sound tree issued table marks mount serials rooms times mark serial = record {
  sound = sound;
  rooms = λ n. subst (λ (rs : List PlainRoom). MirrorsAt next n (room_then next n) (slice_get rs n)) (sym rooms) (subst (λ t. MirrorsAt next n (room_told t n) (slice_get p.rooms n)) (sym tree)
      (same_at m next issued (ap (λ (t : Table). t.writers) table) marks (later m.state next.state mount serials) n (λ path. ap (λ t. file_told t n path) tree) (room_then m n) (slice_get p.rooms n) (o.rooms n)));
  times = times;
  mark = mount ∙ o.mark ∙ sym mark;
  serial = serial;
  none_hold = ap (λ (t : Table). t.holders) table ∙ o.none_hold;
}
  where
    later : (a b : State) → b.mount ≡ a.mount → a.serial ≤ b.serial → last_id a ≤ last_id b
    later a b e l = omega (arith, e, l)

-- ---- what was told of the making

-- a room was made behind the others, or one of the name was there
data IsFound (tree after : Tree) (name : Name) (n : ℕ) : Type 0 where
  new_one : n ≡ length tree.rooms → RoomMade tree name new_folders new_files after → IsFound tree after name n
  old_one : after ≡ tree → IsRoomOf tree name n → IsFound tree after name n

module _ (tree after : Tree) (name : Name) (table : Table) where
  same_table : (told : Told) → (make_outcome table told).table ≡ table
  same_table (Ok (answer.Number n)) = refl
  same_table (Ok (answer.Old n)) = refl
  same_table told = refl

  found_so : (told : Told) (n : ℕ) → Room n ≡ (make_outcome table told).reply → MadeOrNot tree (answer.Number (length tree.rooms)) (RoomMade tree name new_folders new_files) (WhyNoRoomMade tree name) told after → IsFound tree after name n
  found_so (Ok (answer.Number k)) n e m =
      let same : k ≡ n = cc in
      elim (cases_eq k (length tree.rooms)) as (λ _. IsFound tree after name n) [
        | inl last ↦ new_one (sym same ∙ last) (m.done (ap (λ j. Ok (answer.Number j)) last))
        | inr other ↦ absurd (m.stays (answer.Number k) refl (λ is. other (number_is k (length tree.rooms) is))).1
      ]
    where
      number_is : (a b : ℕ) → answer.Number a ≡ answer.Number b → a ≡ b
      number_is a b is = cc
  found_so (Ok (answer.Old k)) n e m =
      let same : k ≡ n = cc in
      let s = m.stays (answer.Old k) refl (λ is. cc) in
      old_one s.0 (subst (IsRoomOf tree name) same s.1)
  found_so (Ok other) n e m = absurd (cc)
  found_so (Err trouble.Fault) n e m = absurd (cc)
  found_so (Err trouble.NoMemory) n e m = absurd (cc)

-- ---- no room of the name

pub none_there : (m : Moment) (p : Plain) (tree : Tree) (name : Name) → Mirrors m p → m.state.store.tree ≡ Some tree → IsFree tree name → find p name ≡ None
none_there m p tree name o told free = find_none p.rooms 0 name (λ j other e is. taken j other e is (slice_get tree.rooms j) refl)
  where
    at : (k : ℕ) → MirrorsAt m k (slice_get tree.rooms k) (slice_get p.rooms k)
    at k = subst (λ t. MirrorsAt m k (room_told t k) (slice_get p.rooms k)) told (o.rooms k)

    taken : (j : ℕ) (other : PlainRoom) → slice_get p.rooms j ≡ Some other → other.name ≡ name → (r : Option RoomThere) → slice_get tree.rooms j ≡ r → ⊥
    taken j other e is None none = both_there m j (slice_get tree.rooms j) other (subst (MirrorsAt m j (slice_get tree.rooms j)) e (at j)) none
    taken j other e is (Some r) there =
        let x : MirrorsRoom m j r other = subst (λ y. MirrorsAt m j (Some r) y) e (subst (λ y. MirrorsAt m j y (slice_get p.rooms j)) there (at j)) in
        free j r there (x.name ∙ is)

-- ---- the machine with one room more

module _ (m next : Moment) (p : Plain) (o : Mirrors m p) (sound : IsSoundAt next) (tree after : Tree) (name : Name) (told : m.state.store.tree ≡ Some tree) (now : next.state.store.tree ≡ Some after) (c : RoomMade tree name new_folders new_files after) (issued : next.issued ≡ m.issued) (table : next.state.table ≡ m.state.table) (marks : next.state.marks ≡ m.state.marks) (mount : next.state.mount ≡ m.state.mount) (serial : next.state.serial ≡ m.state.serial) (times : next.state.times ≡ m.state.times) where
  was_at : (n : ℕ) → MirrorsAt m n (slice_get tree.rooms n) (slice_get p.rooms n)
  was_at n = subst (λ t. MirrorsAt m n (room_told t n) (slice_get p.rooms n)) told (o.rooms n)

  pub long : length tree.rooms ≡ length p.rooms
  long = as_many m tree.rooms p.rooms was_at

  bare : IsBare c.new
  bare = made_bare tree name new_folders new_files after c

  last_same : last_id m.state ≤ last_id next.state
  last_same = same m.state next.state mount serial
    where
      same : (a b : State) → b.mount ≡ a.mount → b.serial ≡ a.serial → last_id a ≤ last_id b
      same a b e f = omega (arith, e, f)

  the_last : slice_get after.rooms (length tree.rooms) ≡ Some c.new
  the_last = ap (λ (t : Tree). slice_get t.rooms (length tree.rooms)) c.gives ∙ slice_get_last tree.rooms c.new

  file_of_new : (path : Path) → file_then next (length tree.rooms) path ≡ file_at c.new path
  file_of_new path = ap (λ t. file_told t (length tree.rooms) path) now ∙ ap (λ r. file_in_room r path) the_last

  absent : (i : Item) → HadItem next (length tree.rooms) i → file_at c.new (path_of i) ≡ None → ⊥
  absent i h none = let clash : Some h.bytes ≡ None = sym h.there ∙ file_of_new (path_of i) ∙ none in cc

  new_room : MirrorsRoom next (length tree.rooms) c.new (empty_room name)
  new_room = record {
    name = c.named;
    held = λ apart. open_folder c.new c.has_folders;
    truncs = record { rise = tt; there = All-from_recursion (λ (t : Trunc). HadTrunc next (length tree.rooms) t.stamp t.size) [] tt; all = λ t h. absurd (absent (item.Trunc t.stamp t.size) h (bare.none (item.Trunc t.stamp t.size) refl)) };
    writers = tt;
    rise = tt;
    all = λ d named here trace. absurd (no_trace d here trace);
  }
    where
      open_folder : (r : RoomThere) → r.folders ≡ new_folders → has_folder r openhosts ≡ true
      open_folder r e = has_folder_same (record { name = r.name; folders = new_folders; files = r.files }) r openhosts e

      no_landed : (d : Dropping) → d.room ≡ length tree.rooms → landed next d ≡ 0
      no_landed d here =
          let none : index_then next d ≡ None = ap (λ k. file_then next k (path_of (item.Index d.host d.writer))) here ∙ file_of_new (path_of (item.Index d.host d.writer)) ∙ bare.none (item.Index d.host d.writer) (hostdir_below d.host) in
          ap (λ f. length (entries_there (bytes_of f) (bytes_of (log_then next d)))) none

      no_trace : (d : Dropping) → d.room ≡ length tree.rooms → HasTrace next d → ⊥
      no_trace d here (inl some) = let zero_is = no_landed d here in omega (arith, some, zero_is)
      no_trace d here (inr h) = absent (item.OpenHost d.host d.writer) (subst (λ k. HadItem next k (item.OpenHost d.host d.writer)) here h) (bare.none (item.OpenHost d.host d.writer) refl)

  at_each : (n : ℕ) (r : Option RoomThere) → slice_get tree.rooms n ≡ r → MirrorsAt next n (slice_get after.rooms n) (slice_get (p.rooms ++ empty_room name ∷ []) n)
  at_each n (Some r) there =
      let s = some_room m n r (slice_get p.rooms n) (subst (λ x. MirrorsAt m n x (slice_get p.rooms n)) there (was_at n)) in
      let here : slice_get after.rooms n ≡ Some r = ap (λ (t : Tree). slice_get t.rooms n) c.gives ∙ slice_get_before tree.rooms n r c.new there in
      let same : (path : Path) → file_then next n path ≡ file_then m n path = λ path. ap (λ t. file_told t n path) now ∙ ap (λ x. file_in_room x path) here ∙ sym (ap (λ t. file_told t n path) told ∙ ap (λ x. file_in_room x path) there) in
      subst (λ x. MirrorsAt next n x (slice_get (p.rooms ++ empty_room name ∷ []) n)) (sym here) (subst (MirrorsAt next n (Some r)) (sym (slice_get_before p.rooms n s.0 (empty_room name) s.1))
      (same_room m next issued (ap (λ (t : Table). t.writers) table) marks last_same n same r s.0 s.2))
  at_each n None none = elim (cases_eq n (length tree.rooms)) as (λ _. MirrorsAt next n (slice_get after.rooms n) (slice_get (p.rooms ++ empty_room name ∷ []) n)) [
    | inl here ↦ subst (λ k. MirrorsAt next k (slice_get after.rooms k) (slice_get (p.rooms ++ empty_room name ∷ []) k)) (sym here)
        (subst (λ x. MirrorsAt next (length tree.rooms) x (slice_get (p.rooms ++ empty_room name ∷ []) (length tree.rooms))) (sym the_last)
        (subst (MirrorsAt next (length tree.rooms) (Some c.new)) (sym (ap (λ k. slice_get (p.rooms ++ empty_room name ∷ []) k) long ∙ slice_get_last p.rooms (empty_room name))) new_room))
    | inr other ↦
        let past : length tree.rooms ≤ n = beyond tree.rooms n none in
        subst (λ x. MirrorsAt next n x (slice_get (p.rooms ++ empty_room name ∷ []) n)) (sym (ap (λ (t : Tree). slice_get t.rooms n) c.gives ∙ slice_get_past (tree.rooms ++ c.new ∷ []) n (omega (arith, past, other, length-append tree.rooms (c.new ∷ [])))))
        (subst (MirrorsAt next n None) (sym (slice_get_past (p.rooms ++ empty_room name ∷ []) n (omega (arith, past, other, long, length-append p.rooms (empty_room name ∷ []))))) tt)
  ]
    where
      beyond : {X : Type 0} (xs : List X) (k : ℕ) → slice_get xs k ≡ None → length xs ≤ k
      beyond xs k e = elim (cases_lt k (length xs)) as (λ _. length xs ≤ k) [
        | inl less ↦ absurd (let x = place_item xs k less in let clash : Some x.0 ≡ None = sym x.1 ∙ e in cc)
        | inr more ↦ more
      ]

  abbrev pub WithRoom : Plain
  WithRoom = record p { rooms = p.rooms ++ empty_room name ∷ [] }

  pub machine_with_room : Mirrors next WithRoom
  machine_with_room = record {
    sound = sound;
    rooms = λ n. subst (λ t. MirrorsAt next n (room_told t n) (slice_get (p.rooms ++ empty_room name ∷ []) n)) (sym now) (at_each n (slice_get tree.rooms n) refl);
    times = times ∙ o.times;
    mark = mount ∙ o.mark;
    serial = serial ∙ o.serial;
    none_hold = ap (λ (t : Table). t.holders) table ∙ o.none_hold;
  }

  pub not_found : find p name ≡ None
  not_found = none_there m p tree name o told c.free

-- ---- the room that was there

pub found_there : (m : Moment) (p : Plain) (tree : Tree) (name : Name) (n : ℕ) → Mirrors m p → m.state.store.tree ≡ Some tree → IsRoomOf tree name n → find p name ≡ Some n
found_there m p tree name n o told is =
    let at : (k : ℕ) → MirrorsAt m k (slice_get tree.rooms k) (slice_get p.rooms k) = λ k. subst (λ t. MirrorsAt m k (room_told t k) (slice_get p.rooms k)) told (o.rooms k) in
    let s = some_room m n is.room (slice_get p.rooms n) (subst (λ x. MirrorsAt m n x (slice_get p.rooms n)) is.has_room (at n)) in
    find_first p.rooms 0 n name s.0 s.1 (sym s.2.name ∙ is.named) (λ j other l e named. earlier at j other l e named (slice_get tree.rooms j) refl) ∙ ap Some (omega arith)
  where
    earlier : ((k : ℕ) → MirrorsAt m k (slice_get tree.rooms k) (slice_get p.rooms k)) → (j : ℕ) (other : PlainRoom) → j < n → slice_get p.rooms j ≡ Some other → other.name ≡ name → (r : Option RoomThere) → slice_get tree.rooms j ≡ r → ⊥
    earlier at j other l e named None none = both_there m j (slice_get tree.rooms j) other (subst (MirrorsAt m j (slice_get tree.rooms j)) e (at j)) none
    earlier at j other l e named (Some r) there =
        let x : MirrorsRoom m j r other = subst (λ y. MirrorsAt m j (Some r) y) e (subst (λ y. MirrorsAt m j y (slice_get p.rooms j)) there (at j)) in
        is.first j r l there (x.name ∙ named)

-- ---- the call

-- The machine has found or made the room of this number, and has what the mount has then.
pub record HasRoomNow (m next : Moment) (p : Plain) (name : Name) (n : ℕ) : Type 0 where
  pub now : Plain
  pub is : made p name (find p name) ≡ (now, n)
  pub mirrors : Mirrors next now
  pub actors : now.actors ≡ p.actors
  pub rooms : (k : ℕ) (room : PlainRoom) → slice_get p.rooms k ≡ Some room → slice_get now.rooms k ≡ Some room
  pub table : next.state.table ≡ m.state.table
  pub place : (next.state.marks ≡ m.state.marks) × (next.state.mount ≡ m.state.mount) × (next.state.serial ≡ m.state.serial)

pub container_made : (m : Moment) (me : ℕ) (p : Plain) (name : Name) (n : ℕ) (event : Event) → Mirrors m p → IsSoundAt (next_moment m event) → (next_moment m event).issued ≡ m.issued → Answers m.state me (MakeContainer name) (Room n) event.after → HasRoomNow m (next_moment m event) p name n
container_made m me p name n event o sound issued a =
    let next : Moment = next_moment m event in
    let acts = a.makes in
    let tree : Tree = o.sound.shape.tree in
    let told = o.sound.shape.told in
    let t = acts_told (make_room name new_folders new_files) m.state.store event.after.store tree acts.told told acts.made in
    let table : event.after.table ≡ m.state.table = ap (λ (s : State). s.table) acts.after ∙ same_table tree t.0 name m.state.table acts.told in
    let marks : event.after.marks ≡ m.state.marks = ap (λ (s : State). s.marks) acts.after in
    let mount : event.after.mount ≡ m.state.mount = ap (λ (s : State). s.mount) acts.after in
    let serial : event.after.serial ≡ m.state.serial = ap (λ (s : State). s.serial) acts.after in
    let times : event.after.times ≡ m.state.times = ap (λ (s : State). s.times) acts.after in
    elim (found_so tree t.0 name m.state.table acts.told n acts.answered (make_room_told name new_folders new_files tree acts.told t.0 t.2)) as (λ _. HasRoomNow m next p name n) [
      | new_one last c ↦ record {
        now = WithRoom m next p o sound tree t.0 name told t.1 c issued table marks mount serial times;
        is = ap (made p name) (not_found m next p o sound tree t.0 name told t.1 c issued table marks mount serial times) ∙ (λ i. (WithRoom m next p o sound tree t.0 name told t.1 c issued table marks mount serial times, (sym (long m next p o sound tree t.0 name told t.1 c issued table marks mount serial times) ∙ sym last) i));
        mirrors = machine_with_room m next p o sound tree t.0 name told t.1 c issued table marks mount serial times;
        actors = refl;
        rooms = λ k room e. slice_get_before p.rooms k room (empty_room name) e;
        table = table;
        place = (marks, mount, serial);
      }
      | old_one same is ↦
          let f : find p name ≡ Some n = found_there m p tree name n o told is in
          record {
            now = p;
            is = ap (made p name) f;
            mirrors = machine_same m next p p o sound (t.1 ∙ ap Some same ∙ sym told) issued table marks mount (omega (arith, serial)) refl (times ∙ o.times) refl (serial ∙ o.serial);
            actors = refl;
            rooms = λ k room e. e;
            table = table;
            place = (marks, mount, serial);
          }
    ]
