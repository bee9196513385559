-- A mounting leaves a container of units so.
use Rattle.std.proofs.Common.{◌≡◌, ◌⊎◌, inl, inr, ℕ, zero, suc, List, [], ◌∷◌, ◌++◌, length, take, get_or, Option, Some, Ok, refl, sym, ap, ◌∙◌, subst}
use Rattle.std.specs.Prelude.{slice_get}
use Rattle.std.specs.List.{AllByRecursion}
use Rattle.std.proofs.lemmas.Bool.{cases_eq}
use Rattle.std.proofs.lemmas.List.Elements.{All-from_recursion, recursion_from_All}
use Rattle.plfs_types.specs.declared.names.Path.{Path}
use Rattle.container_layout.specs.declared.items.Item.TheVariants.{Trunc}
use Rattle.container_layout.specs.Paths.{path_of}
use Rattle.container_layout.proofs.Facts.{elsewhere}
use Rattle.store_api.specs.Acts.{Stored}
use Rattle.store_api.specs.declared.step.Answer.TheVariants.{Made, Names}
use Rattle.store_api.specs.declared.tree.Room.{Room}
use Rattle.store_api.specs.declared.tree.Tree.{Tree}
use Rattle.store_laws.specs.Changes.{Created, RoomMade, with_room}
use Rattle.store_laws.specs.Files.{file_at}
use Rattle.store_laws.specs.There.{IsRoomOf}
use Rattle.store_laws.proofs.Facts.{acts_told, changed_room, create_told, keeps_rooms, look_told, make_room_told, other_room, slice_get_more}
use Rattle.mount_model.specs.Mounting.{IsMounted, list_step, mark_step, marks_step}
use Rattle.mount_model.specs.Paths.{Name, mark_path}
use Rattle.store_api.specs.Names.{marks_folder}
use Rattle.store_api.specs.Names.{marks_name}
use Rattle.mount_model.specs.State.{State}
use Rattle.mount_sound.specs.Items.{HasItem}
use Rattle.mount_sound.specs.Ledger.{Written}
use Rattle.mount_sound.specs.Sound.{IsSoundTree}
use Rattle.mount_sound.proofs.Facts.{one_tree}
use Rattle.reader_laws.specs.Moments.{Moment, file_told, issued_by, landed}
use Rattle.mount_sound.specs.Ledger.{change_of}
use Rattle.reader_laws.proofs.Gathered.Facts.{in_a_room}
use Rattle.packing_laws.specs.HasOnly.{IsOfUnits, TreeIsOfUnits, TreeHasOnlyUnits}
use Rattle.packing_laws.specs.OnlyUnits.{Filing, PutsUnit}

all_front : (P : Written → Type 0) (n : ℕ) (writes : List Written) → AllByRecursion P writes → AllByRecursion P (take n writes)
all_front P zero [] all = tt
all_front P zero (w ∷ writes) all = tt
all_front P (suc n) [] all = tt
all_front P (suc n) (w ∷ writes) all = (all.0, all_front P n writes all.1)

-- ---- a room that was there before

-- the room was there, with this name and these files outside the folder of marks
record Was (tree : Tree) (n : ℕ) (r : Room) : Type 0 where
  pub room : Room
  pub there : slice_get tree.rooms n ≡ Some room
  pub name : r.name ≡ room.name
  pub files : (path : Path) → (path.folder ≡ marks_folder → ⊥) → file_at r path ≡ file_at room path

before_mark : (tree after : Tree) (marks mount n : ℕ) (r : Room) → Created tree marks (mark_path mount) after → slice_get after.rooms n ≡ Some r → Was tree n r
before_mark tree after marks mount n r c there = elim (cases_eq n marks) as (λ _. Was tree n r) [
  | inl same ↦
      let now : slice_get after.rooms n ≡ Some c.new = ap (λ (t : Tree). slice_get t.rooms n) c.gives ∙ ap (λ k. slice_get (with_room tree marks c.new).rooms k) same ∙ changed_room tree marks c.room c.new c.has_room in
      let both : Some r ≡ Some c.new = sym there ∙ now in
      let is : r ≡ c.new = cc in
      record {
        room = c.room;
        there = ap (λ k. slice_get tree.rooms k) same ∙ c.has_room;
        name = ap (λ (x : Room). x.name) is ∙ c.others.name;
        files = λ path apart. ap (λ x. file_at x path) is ∙ c.others.files path (λ folder file. apart folder);
      }
  | inr other ↦ record {
    room = r;
    there = sym (ap (λ (t : Tree). slice_get t.rooms n) c.gives ∙ other_room tree marks n c.new other) ∙ there;
    name = refl;
    files = λ path apart. refl;
  }
]

before_room : (tree after : Tree) (n : ℕ) (r : Room) → (RoomMade tree marks_name (marks_folder ∷ []) [] after) ⊎ (after ≡ tree) → slice_get after.rooms n ≡ Some r → (r.name ≡ marks_name → ⊥) → slice_get tree.rooms n ≡ Some r
before_room tree after n r (inr same) there other = ap (λ (t : Tree). slice_get t.rooms n) (sym same) ∙ there
before_room tree after n r (inl c) there other =
    let at : slice_get (tree.rooms ++ c.new ∷ []) n ≡ Some r = ap (λ (t : Tree). slice_get t.rooms n) (sym c.gives) ∙ there in
    elim (cases_eq n (length tree.rooms)) as (λ _. slice_get tree.rooms n ≡ Some r) [
      | inl last ↦ (let is : r ≡ c.new = (slice_get_more tree.rooms n r c.new at).0 last in absurd (other (ap (λ (x : Room). x.name) is ∙ c.named)))
      | inr before ↦ (slice_get_more tree.rooms n r c.new at).1 before
    ]

-- each room of another name was there before the mounting
was_there : (serial : ℕ) (times : Option (List ℕ)) (opened : Stored) (start : State) (tree now : Tree) → IsMounted serial times opened start → opened.tree ≡ Some tree → start.store.tree ≡ Some now → (n : ℕ) (r : Room) → slice_get now.rooms n ≡ Some r → (r.name ≡ marks_name → ⊥) → Was tree n r
was_there serial times opened start tree now mounted told now_is n r there other =
    let d = mounted.draws in
    let a = acts_told marks_step opened d.roomed tree d.tells.told told d.tells.made in
    let b = acts_told (list_step start.marks) d.roomed d.listed a.0 (Ok (Names d.names)) a.1 d.lists in
    let same : b.0 ≡ a.0 = look_told (list_step start.marks) a.0 (Ok (Names d.names)) b.0 tt b.2 in
    let put = acts_told (mark_step start.marks start.mount) d.listed start.store a.0 (Ok Made) (b.1 ∙ ap (λ t. Some t) same) d.marked in
    let c : Created a.0 start.marks (mark_path start.mount) put.0 = (create_told start.marks (mark_path start.mount) a.0 (Ok Made) put.0 put.2).done refl in
    let last : now ≡ put.0 = one_tree now put.0 start.store.tree now_is put.1 in
    let w : Was a.0 n r = before_mark a.0 put.0 start.marks start.mount n r c (ap (λ (t : Tree). slice_get t.rooms n) (sym last) ∙ there) in
    let there_first : slice_get tree.rooms n ≡ Some w.room =
    before_room tree a.0 n w.room (make_room_told marks_name (marks_folder ∷ []) [] tree d.tells.told a.0 a.2).either w.there (λ is. other (w.name ∙ is)) in
    record { room = w.room; there = there_first; name = w.name; files = w.files }

-- and each room that was there has its name still
name_stays : (serial : ℕ) (times : Option (List ℕ)) (opened : Stored) (start : State) (tree now : Tree) → IsMounted serial times opened start → opened.tree ≡ Some tree → start.store.tree ≡ Some now → (n : ℕ) (room : Room) → slice_get tree.rooms n ≡ Some room
    → (r : Room) × (slice_get now.rooms n ≡ Some r) × (r.name ≡ room.name)
name_stays serial times opened start tree now mounted told now_is n room there =
    let d = mounted.draws in
    let a = acts_told marks_step opened d.roomed tree d.tells.told told d.tells.made in
    let b = acts_told (list_step start.marks) d.roomed d.listed a.0 (Ok (Names d.names)) a.1 d.lists in
    let put = acts_told (mark_step start.marks start.mount) d.listed start.store b.0 (Ok Made) b.1 d.marked in
    let last : now ≡ put.0 = one_tree now put.0 start.store.tree now_is put.1 in
    let x = keeps_rooms marks_step tree d.tells.told a.0 a.2 n room there in
    let y = keeps_rooms (list_step start.marks) a.0 (Ok (Names d.names)) b.0 b.2 n x.0 x.1 in
    let z = keeps_rooms (mark_step start.marks start.mount) b.0 (Ok Made) put.0 put.2 n y.0 y.1 in
    (z.0, ap (λ (t : Tree). slice_get t.rooms n) last ∙ z.1, z.2.name (λ no. no) ∙ y.2.name (λ no. no) ∙ x.2.name (λ no. no))

room_was : (serial : ℕ) (times : Option (List ℕ)) (opened : Stored) (start : State) (tree now : Tree) (name : Name) (n : ℕ) → IsMounted serial times opened start → opened.tree ≡ Some tree → start.store.tree ≡ Some now → (name ≡ marks_name → ⊥) → IsRoomOf now name n → IsRoomOf tree name n
room_was serial times opened start tree now name n mounted told now_is other is =
    let w : Was tree n is.room = was_there serial times opened start tree now mounted told now_is n is.room is.has_room (λ marks. other (sym is.named ∙ marks)) in
    record {
      room = w.room;
      has_room = w.there;
      named = sym w.name ∙ is.named;
      first = λ k room below there named.
          let s = name_stays serial times opened start tree now mounted told now_is k room there in
          is.first k s.0 below s.1 (s.2 ∙ named);
    }

-- ---- a container of units

trunc_apart : (stamp size : ℕ) → (path_of (Trunc stamp size)).folder ≡ marks_folder → ⊥
trunc_apart stamp size same = elsewhere (ap (λ (f : Name). get_or f 0 0) same) refl

pub mounted_units : (serial : ℕ) (times : Option (List ℕ)) (opened : Stored) (start : State) (tree : Tree) (sound : IsSoundTree tree) (filing : Filing) (name : Name) → IsMounted serial times opened start → opened.tree ≡ Some tree → (name ≡ marks_name → ⊥) → TreeIsOfUnits filing tree sound name
    → IsOfUnits filing (record { state = start; issued = sound.issued }) name
mounted_units serial times opened start tree sound filing name mounted told other of now n now_is is =
    let m : Moment = record { state = start; issued = sound.issued } in
    let has : TreeHasOnlyUnits filing tree sound n = of n (room_was serial times opened start tree now name n mounted told now_is other is) in
    let P : Written → Type 0 = λ w. PutsUnit filing (change_of w) in
    record {
      is_filing = has.is_filing;
      writes = λ d its stood.
          let all : AllByRecursion P (sound.issued d.room d.writer) = subst (λ r. AllByRecursion P (sound.issued r d.writer)) (sym its) (recursion_from_All P (sound.issued n d.writer) (has.writes d.writer)) in
          All-from_recursion P (take (landed m d) (issued_by m d)) (all_front P (landed m d) (issued_by m d) all);
      no_truncates = λ stamp size had.
          let r = in_a_room (slice_get now.rooms n) (path_of (Trunc stamp size)) had.bytes (sym (ap (λ o. file_told o n (path_of (Trunc stamp size))) now_is) ∙ had.there) in
          let both : Some r.0 ≡ Some is.room = sym r.1 ∙ is.has_room in
          let same : r.0 ≡ is.room = cc in
          let w : Was tree n is.room = was_there serial times opened start tree now mounted told now_is n is.room is.has_room (λ marks. other (sym is.named ∙ marks)) in
          let item : HasItem w.room (Trunc stamp size) had.bytes = record { is_item = had.is_item; there = sym (w.files (path_of (Trunc stamp size)) (trunc_apart stamp size)) ∙ ap (λ x. file_at x (path_of (Trunc stamp size))) (sym same) ∙ r.2 } in
          has.no_truncates w.room w.there stamp size had.bytes item;
    }
