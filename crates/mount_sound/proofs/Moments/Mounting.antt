-- A mount over a sound tree begins sound.
use Rattle.std.proofs.Common.{◌≡◌, ◌≤◌, ◌<◌, ◌-◌, ◌^◌, ℕ, List, [], ◌∷◌, length, get_or, Option, Some, None, refl, ap, sym, ◌∙◌, inl, inr, subst, arith, length-append}
use Rattle.std.specs.Prelude.{slice_get, Ok}
use Rattle.std.proofs.lemmas.Bool.{cases_lt, cases_eq}
use Rattle.plfs_types.specs.declared.names.Path.{Path}
use Rattle.container_layout.specs.declared.items.Item.{Item}
use Rattle.container_layout.specs.declared.items.Item.TheVariants.{Access, OpenHost, Meta, Trunc, Flat, TmpFlat, Index, Log, Packed, TmpPacked}
use Rattle.container_layout.specs.Paths.{path_of, hostdir_of}
use Rattle.container_layout.proofs.Facts.{elsewhere}
use Rattle.store_api.specs.Acts.{Stored, Acts}
use Rattle.store_api.specs.declared.step.Answer.TheVariants.{Made, Names}
use Rattle.store_api.specs.declared.tree.Room.{Room}
use Rattle.store_api.specs.declared.tree.Tree.{Tree}
use Rattle.store_api.specs.Step.{Step}
use Rattle.store_laws.specs.Files.{file_at, AreTwo, SameButFile}
use Rattle.store_laws.specs.Prefix.{IsPrefix}
use Rattle.store_laws.specs.Changes.{with_room, Created}
use Rattle.store_laws.specs.Naming.{NamesKept, KeepsRoom}
use Rattle.store_laws.specs.Tells.{Tells}
use Rattle.store_laws.proofs.Facts.{look_told, changed_room, other_room, earlier_room, prefix_length, has_folder_same, acts_told, keeps_rooms, make_room_told, create_told}
use Rattle.mount_model.specs.declared.row.Row.{Row}
use Rattle.mount_model.specs.declared.mount_trouble.MountTrouble.{MountTrouble}
use Rattle.mount_model.specs.Failing.{FailsToMount, no_room, no_names, no_next, no_mark}
use Rattle.mount_model.specs.Making.{Told}
use Rattle.mount_model.specs.Mounting.{marks_step, list_step, mark_step, IsMounted}
use Rattle.mount_model.specs.Paths.{Name, mark_path, log_path}
use Rattle.store_api.specs.Names.{marks_folder}
use Rattle.store_api.specs.Names.{marks_name}
use Rattle.mount_model.specs.State.{State, last_id}
use Rattle.mount_model.proofs.Facts.{mounted_regular}
use Rattle.mount_sound.specs.Marks.{IsMarksRoom, IsOfMark}
use Rattle.mount_sound.specs.Shape.{IsShapedTree, IsDrawnBy, IsShaped}
use Rattle.mount_sound.proofs.Shapes.Facts.{mounted_shape, failed_shape}
use Rattle.mount_sound.specs.Entries.{AreEntriesOf}
use Rattle.mount_sound.specs.Ledger.{Written, entries_in, content, AreFull, Ledger}
use Rattle.mount_sound.specs.Dropping.{bytes_of, IsWriter}
use Rattle.mount_sound.specs.Flats.{AreRightFlats, AreBeingMade}
use Rattle.mount_sound.specs.Held.{AreHeld}
use Rattle.mount_sound.specs.Items.{HasItem}
use Rattle.mount_sound.specs.Sound.{AreSound, IsSoundFor, IsSoundTree}
use Rattle.mount_sound.proofs.Calls.Aside.{IsAside, goes_aside, flats_on, named_kept, one_room}
use Rattle.mount_sound.proofs.Indices.FlatPaths.{other_folder}
use Rattle.mount_sound.proofs.Writers.Entering.{IsNew, new_here, absent}
use Rattle.mount_sound.proofs.Indices.Flats.{KeepsAllEntries, same_entries}
use Rattle.mount_sound.proofs.Soundness.Frames.{writer_frame}
use Rattle.mount_sound.proofs.Soundness.Items.{SameFor, is_log}
use Rattle.mount_sound.proofs.Soundness.Local.{local}
use Rattle.mount_sound.proofs.Calls.Making.{one_tree}
use Rattle.mount_sound.proofs.Holds.NewRooms.{made_bare, more}
use Rattle.mount_sound.proofs.Soundness.Trees.{sound_tree}

-- ---- marks are no items

pub mark_folder_apart : (item : Item) → (path_of item).folder ≡ marks_folder → ⊥
mark_folder_apart Access e = elsewhere (ap (λ (n : Name). get_or n 0 0) e) refl
mark_folder_apart (OpenHost host writer) e = elsewhere (ap (λ (n : Name). get_or n 0 0) e) refl
mark_folder_apart (Meta last bytes stamp host writer) e = elsewhere (ap (λ (n : Name). get_or n 1 0) e) refl
mark_folder_apart (Trunc stamp size) e = elsewhere (ap (λ (n : Name). get_or n 0 0) e) refl
mark_folder_apart (Flat id) e = elsewhere (ap (λ (n : Name). get_or n 0 0) e) refl
mark_folder_apart (TmpFlat id) e = elsewhere (ap (λ (n : Name). get_or n 0 0) e) refl
mark_folder_apart (Index host writer) e = elsewhere (ap (λ (n : Name). get_or n 0 0) e) refl
mark_folder_apart (Log host writer) e = elsewhere (ap (λ (n : Name). get_or n 0 0) e) refl
mark_folder_apart (Packed host writer) e = elsewhere (ap (λ (n : Name). get_or n 0 0) e) refl
mark_folder_apart (TmpPacked host id) e = elsewhere (ap (λ (n : Name). get_or n 0 0) e) refl

mark_apart : (item : Item) (mount : ℕ) → AreTwo (path_of item) (mark_path mount)
mark_apart item mount = λ folder file. mark_folder_apart item folder

-- a mark leaves what the room holds of all writers
same_but_mark : (mount q : ℕ) (room new : Room) → SameButFile (mark_path mount) room new → SameFor q room new
same_but_mark mount q room new s = record {
  owned = λ item is o. s.files (path_of item) (mark_apart item mount);
  kepts = λ item is o. omega (arith, s.kepts (path_of item) (mark_apart item mount));
  truncates = λ stamp size is. s.files (path_of (Trunc stamp size)) (mark_apart (Trunc stamp size) mount);
  folders = λ host there. has_folder_same room new (hostdir_of host) s.folders ∙ there;
}

-- ---- an act that names no item leaves flattened indices right

record IsForeign (step : Step) : Type 0 where
  aside : IsAside step
  items : (n : ℕ) (item : Item) → NamesKept step n (path_of item) → ⊥

foreign_entries : (step : Step) (n : ℕ) (room new : Room) → IsForeign step → KeepsRoom step n room new → KeepsAllEntries room new
foreign_entries step n room new f k = same_entries room new (λ item writer o is. k.files (path_of item) (λ named. f.items n item (named_kept step n (path_of item) named))) (λ item writer o is. k.kepts (path_of item) (f.items n item))

foreign_flats : (step : Step) (tree : Tree) (told : Told) (after : Tree) → IsForeign step → Tells step tree told after → AreRightFlats tree → AreRightFlats after
foreign_flats step tree told after f t flats =
    flats_on tree after (goes_aside tree after (inr (record { step = step; told = told; holds = f.aside.files; tells = t })))
    (λ n room new e now. let k = keeps_rooms step tree told after t n room e in subst (KeepsAllEntries room) (one_room k.0 new (slice_get after.rooms n) k.1 now) (foreign_entries step n room k.0 f k.2))
    flats

marks_foreign : IsForeign marks_step
marks_foreign = record { aside = record { files = λ n path named at. named; folders = λ n named. named }; items = λ n item named. named }

list_foreign : (room : ℕ) → IsForeign (list_step room)
list_foreign room = record { aside = record { files = λ n path named at. named; folders = λ n named. named }; items = λ n item named. named }

mark_foreign : (room mount : ℕ) → IsForeign (mark_step room mount)
mark_foreign room mount = record {
  aside = record { files = λ n path named. other_folder _ _ path (refl, refl) named.1; folders = λ n named. named };
  items = λ n item named. mark_folder_apart item named.1.0;
}

no_row : (row : Row) → None ≡ Some row → ⊥
no_row row e = cc

marked : (last : ℕ) (issued : Ledger) (tree after : Tree) (marks mount : ℕ) → AreSound last issued [] tree → Created tree marks (mark_path mount) after → AreSound last issued [] after
marked last issued tree after marks mount s c =
    let same : (q : ℕ) → SameFor q c.room c.new = λ q. same_but_mark mount q c.room c.new c.others in
    subst (AreSound last issued []) (sym c.gives)
    (local marks 0 c.room c.new issued issued [] [] tree
    (record {
      there = c.has_room;
      fit = λ id row e. absurd (no_row row e);
      others = λ q other. refl;
      writes = λ m q other. refl;
      files = λ q other. same q;
      truncates = (same 0).truncates;
      own = λ x e. absurd (no_row x e);
      writer = λ small. writer_frame c.room c.new 0 (issued marks 0) small (same 0) ((s.rooms marks c.room c.has_room).writers 0 small);
      valid = s.writes marks 0;
    })
    last last (omega arith) (omega arith) s)

-- ---- the acts of mounting

-- the store tells a tree that is sound for these writes, and whose flattened indices are right
abbrev IsToldSound : ℕ → Ledger → Stored → Type 0
IsToldSound last issued stored = (tree : Tree) × (stored.tree ≡ Some tree) × AreSound last issued [] tree × AreRightFlats tree

roomed : (last : ℕ) (issued : Ledger) (opened new : Stored) (tree : Tree) (told : Told) → opened.tree ≡ Some tree → AreSound last issued [] tree → AreRightFlats tree → Acts marks_step opened new told → IsToldSound last issued new
roomed last issued opened new tree told is s flats made =
    let t = acts_told marks_step opened new tree told is made in
    let m = make_room_told marks_name (marks_folder ∷ []) [] tree told t.0 t.2 in (
      t.0,
      t.1,
      elim m.either as (λ _. AreSound last issued [] t.0) [
        | inl r ↦ subst (AreSound last issued []) (sym r.gives) (more last issued [] tree r.new (made_bare tree marks_name (marks_folder ∷ []) [] t.0 r) s)
        | inr same ↦ subst (AreSound last issued []) (sym same) s
      ],
      foreign_flats marks_step tree told t.0 marks_foreign t.2 flats,
    )

looked : (last : ℕ) (issued : Ledger) (room : ℕ) (opened new : Stored) (told : Told) → IsToldSound last issued opened → Acts (list_step room) opened new told → IsToldSound last issued new
looked last issued room opened new told s made =
    let l = acts_told (list_step room) opened new s.0 told s.1 made in
    (l.0, l.1, subst (AreSound last issued []) (sym (look_told (list_step room) s.0 told l.0 tt l.2)) s.2, foreign_flats (list_step room) s.0 told l.0 (list_foreign room) l.2 s.3)

put : (last : ℕ) (issued : Ledger) (room mount : ℕ) (opened new : Stored) (told : Told) → IsToldSound last issued opened → Acts (mark_step room mount) opened new told → IsToldSound last issued new
put last issued room mount opened new told s made =
    let t = acts_told (mark_step room mount) opened new s.0 told s.1 made in (
      t.0,
      t.1,
      elim (create_told room (mark_path mount) s.0 told t.0 t.2).either as (λ _. AreSound last issued [] t.0) [
        | inl c ↦ marked last issued s.0 t.0 room mount s.2 c
        | inr same ↦ subst (AreSound last issued []) (sym same) s.2
      ],
      foreign_flats (mark_step room mount) s.0 told t.0 (mark_foreign room mount) t.2 s.3,
    )

-- a sound tree is sound for its writes, with whatever ids of 64 bits
tree_sound : (tree : Tree) (s : IsSoundTree tree) → AreSound (2 ^ 64 - 1) s.issued [] tree
tree_sound tree s = record {
  rooms = s.rooms;
  writes = s.writes;
  placed = λ id row e. absurd (no_row row e);
  fresh = λ number writer past. s.fitting number writer (omega arith);
  roomless = s.roomless;
}

all_acts : (serial : ℕ) (times : Option (List ℕ)) (opened : Stored) (new : State) (tree : Tree) → IsMounted serial times opened new → opened.tree ≡ Some tree → (s : IsSoundTree tree) → IsToldSound (2 ^ 64 - 1) s.issued new.store
all_acts serial times opened new tree m told s =
    let d = m.draws in
    let r = roomed (2 ^ 64 - 1) s.issued opened d.roomed tree d.tells.told told (tree_sound tree s) s.flats d.tells.made in
    let l = looked (2 ^ 64 - 1) s.issued new.marks d.roomed d.listed (Ok (Names d.names)) r d.lists in
    put (2 ^ 64 - 1) s.issued new.marks new.mount d.listed new.store (Ok Made) l d.marked

failed_acts : (issued : Ledger) (opened left : Stored) (trouble : MountTrouble) (tree : Tree) → FailsToMount opened trouble left → opened.tree ≡ Some tree → AreSound (2 ^ 64 - 1) issued [] tree → AreRightFlats tree → IsToldSound (2 ^ 64 - 1) issued left
failed_acts issued opened left trouble tree (no_room f) told s flats = roomed (2 ^ 64 - 1) issued opened left tree f.told told s flats f.made
failed_acts issued opened left trouble tree (no_names first room tells f) told s flats =
    looked (2 ^ 64 - 1) issued room first left f.told (roomed (2 ^ 64 - 1) issued opened first tree tells.told told s flats tells.made) f.made
failed_acts issued opened left trouble tree (no_next first room names tells lists none) told s flats =
    looked (2 ^ 64 - 1) issued room first left (Ok (Names names)) (roomed (2 ^ 64 - 1) issued opened first tree tells.told told s flats tells.made) lists
failed_acts issued opened left trouble tree (no_mark first second room names mount tells lists next f) told s flats =
    let l = looked (2 ^ 64 - 1) issued room first second (Ok (Names names)) (roomed (2 ^ 64 - 1) issued opened first tree tells.told told s flats tells.made) lists in
    put (2 ^ 64 - 1) issued room mount second left f.told l f.made

-- What a mounting leaves that broke off is sound for the next one.
pub failed_sound : (opened left : Stored) (trouble : MountTrouble) (tree : Tree) → FailsToMount opened trouble left → opened.tree ≡ Some tree → IsSoundTree tree → (after : Tree) × (left.tree ≡ Some after) × IsSoundTree after
failed_sound opened left trouble tree f told s =
    let acts = failed_acts s.issued opened left trouble tree f told (tree_sound tree s) s.flats in
    let shape = failed_shape opened left trouble tree f told s.shaped in
    let shaped : IsShapedTree (IsOfMark acts.0) acts.0 = subst (λ t. IsShapedTree (IsOfMark t) t) (one_tree shape.0 acts.0 left.tree shape.1 acts.1) shape.2 in
    (acts.0, acts.1, sound_tree s.issued [] acts.0 shaped acts.2.rooms acts.2.writes acts.3)

-- ---- nothing was issued under an id that is not drawn yet

marks_new : (room : Room) (id : ℕ) → IsMarksRoom room → IsNew room id
marks_new room id m = record { none = λ item is o. absent (file_at room (path_of item)) (λ bytes e. let f = m.files (path_of item) bytes e in mark_folder_apart item (ap (λ (p : Path). p.folder) f.3)) }

no_new_items : (state : State) (shape : IsShaped state) (number : ℕ) (room : Room) (id : ℕ) → slice_get shape.tree.rooms number ≡ Some room → last_id state < id → IsNew room id
no_new_items state shape number room id there new = elim (shape.shaped.rooms number room there) as (λ _. IsNew room id) [
  | inl m ↦ marks_new room id m
  | inr c ↦ new_here (IsDrawnBy (last_id state) shape.tree) room id (λ d. omega (arith, d.1, new)) c
]

nothing_logged : (writer : ℕ) (issued : List Written) → AreFull issued → AreEntriesOf writer 0 0 (entries_in issued) → length (content issued) ≤ 0 → issued ≡ []
nothing_logged writer [] f o l = refl
nothing_logged writer (w ∷ issued) f o l = absurd (omega (arith, length-append w.bytes (content issued), f.0, o.0.some))

unissued : (room : Room) (writer : ℕ) (issued : List Written) → writer < 2 ^ 64 → IsNew room writer → IsWriter room writer issued → AreFull issued → AreEntriesOf writer 0 0 (entries_in issued) → issued ≡ []
unissued room writer issued fits n w f o =
    let none : file_at room (log_path w.host writer) ≡ None = n.none (Log w.host writer) (is_log w.host writer w.host_fits fits) refl in
    let nothing : IsPrefix (content issued) [] = subst (λ x. IsPrefix (content issued) (bytes_of x)) none w.log in
    nothing_logged writer issued f o (prefix_length (content issued) [] nothing)

by_room : (state : State) (shape : IsShaped state) (issued : Ledger) (s : AreSound (2 ^ 64 - 1) issued [] shape.tree) (number writer : ℕ) (found : Option Room) → slice_get shape.tree.rooms number ≡ found → last_id state < writer → writer < 2 ^ 64 → issued number writer ≡ []
by_room state shape issued s number writer None none new fits = s.roomless number writer none
by_room state shape issued s number writer (Some room) there new fits =
    unissued room writer (issued number writer) fits (no_new_items state shape number room writer there new) ((s.rooms number room there).writers writer fits) (s.writes number writer).full (s.writes number writer).in_order

fresh : (state : State) (shape : IsShaped state) (issued : Ledger) → AreSound (2 ^ 64 - 1) issued [] shape.tree → (number writer : ℕ) → last_id state < writer → issued number writer ≡ []
fresh state shape issued s number writer new = elim (cases_lt writer (2 ^ 64)) as (λ _. issued number writer ≡ []) [
  | inl fits ↦ by_room state shape issued s number writer (slice_get shape.tree.rooms number) refl new fits
  | inr past ↦ s.fresh number writer (omega arith)
]

-- A mount over a store that told a sound tree is sound for what has landed in that.
pub mounted_sound : (serial : ℕ) (times : Option (List ℕ)) (opened : Stored) (new : State) (tree : Tree) → IsMounted serial times opened new → opened.tree ≡ Some tree → (s : IsSoundTree tree) → IsSoundFor s.issued new
mounted_sound serial times opened new tree m told s =
    let shape : IsShaped new = mounted_shape serial times opened new tree m told s.shaped in
    let acts = all_acts serial times opened new tree m told s in
    let sound : AreSound (2 ^ 64 - 1) s.issued [] shape.tree = subst (AreSound (2 ^ 64 - 1) s.issued []) (one_tree acts.0 shape.tree new.store.tree acts.1 shape.told) acts.2 in
    record {
      clean = (tree, ap (λ (x : Stored). x.tree) m.opened_is ∙ told, s);
      regular = mounted_regular serial times opened new m;
      shape = shape;
      sound = subst (λ rows. AreSound (last_id new) s.issued rows shape.tree) (sym m.no_writers) (record {
        rooms = sound.rooms;
        writes = sound.writes;
        placed = sound.placed;
        fresh = fresh new shape s.issued sound;
        roomless = sound.roomless;
      });
      held = subst (λ holders. AreHeld holders shape.tree) (sym m.no_holders) (record { each = λ number h e. absurd (cc); alone = λ one other h k e f same. absurd (cc) });
      flats = subst AreRightFlats (one_tree acts.0 shape.tree new.store.tree acts.1 shape.told) acts.3;
      flattenings = subst (λ flattenings. AreBeingMade flattenings shape.tree) (sym m.no_flattenings) (λ id f e. absurd (cc));
    }

-- ---- a room with droppings stays as it was

roomed_keeps : (opened new : Stored) (tree now : Tree) (told : Told) → opened.tree ≡ Some tree → Acts marks_step opened new told → new.tree ≡ Some now → (number : ℕ) (room : Room) → slice_get tree.rooms number ≡ Some room → slice_get now.rooms number ≡ Some room
roomed_keeps opened new tree now told is made now_is number room there =
    let t = acts_told marks_step opened new tree told is made in
    let same : now ≡ t.0 = one_tree now t.0 new.tree now_is t.1 in
    ap (λ (x : Tree). slice_get x.rooms number) same
    ∙ (elim (make_room_told marks_name (marks_folder ∷ []) [] tree told t.0 t.2).either as (λ _. slice_get t.0.rooms number ≡ Some room) [
      | inl r ↦ ap (λ (x : Tree). slice_get x.rooms number) r.gives ∙ earlier_room tree number room r.new there
      | inr stays ↦ ap (λ (x : Tree). slice_get x.rooms number) stays ∙ there
    ])

-- the room of marks has no index dropping
no_dropping : (room : Room) (host writer : ℕ) (bytes : List ℕ) → IsMarksRoom room → file_at room (path_of (Index host writer)) ≡ Some bytes → ⊥
no_dropping room host writer bytes m there = let f = m.files (path_of (Index host writer)) bytes there in mark_folder_apart (Index host writer) (ap (λ (p : Path). p.folder) f.3)

marked_keeps : (tree now : Tree) (marks mount : ℕ) (here : Room) → Created tree marks (mark_path mount) now → slice_get now.rooms marks ≡ Some here → IsMarksRoom here → (number : ℕ) (room : Room) → slice_get tree.rooms number ≡ Some room
    → (host writer : ℕ) (bytes : List ℕ) → HasItem room (Index host writer) bytes → slice_get now.rooms number ≡ Some room
marked_keeps tree now marks mount here c at is_marks number room there host writer bytes h = ap (λ (x : Tree). slice_get x.rooms number) c.gives ∙ (elim (cases_eq number marks) as (λ _. slice_get (with_room tree marks c.new).rooms number ≡ Some room) [
  | inl same ↦
      let both : Some room ≡ Some c.room = sym there ∙ ap (λ k. slice_get tree.rooms k) same ∙ c.has_room in
      let its : room ≡ c.room = cc in
      let now_both : Some c.new ≡ Some here = sym (changed_room tree marks c.room c.new c.has_room) ∙ ap (λ (x : Tree). slice_get x.rooms marks) (sym c.gives) ∙ at in
      let new : c.new ≡ here = cc in
      let stays : file_at c.new (path_of (Index host writer)) ≡ Some bytes = c.others.files (path_of (Index host writer)) (mark_apart (Index host writer) mount) ∙ ap (λ r. file_at r (path_of (Index host writer))) (sym its) ∙ h.there in
      absurd (no_dropping c.new host writer bytes (subst IsMarksRoom (sym new) is_marks) stays)
  | inr other ↦ other_room tree marks number c.new other ∙ there
])

-- A mounting changes no room that has droppings.
pub mounted_keeps : (serial : ℕ) (times : Option (List ℕ)) (opened : Stored) (new : State) (tree now : Tree) → IsMounted serial times opened new → opened.tree ≡ Some tree → IsSoundTree tree → new.store.tree ≡ Some now → (number : ℕ) (room : Room) → slice_get tree.rooms number ≡ Some room
    → (host writer : ℕ) (bytes : List ℕ) → HasItem room (Index host writer) bytes → slice_get now.rooms number ≡ Some room
mounted_keeps serial times opened new tree now m told s now_is number room there host writer bytes h =
    let d = m.draws in
    let shape : IsShaped new = mounted_shape serial times opened new tree m told s.shaped in
    let r = roomed (2 ^ 64 - 1) s.issued opened d.roomed tree d.tells.told told (tree_sound tree s) s.flats d.tells.made in
    let first : slice_get r.0.rooms number ≡ Some room = roomed_keeps opened d.roomed tree r.0 d.tells.told told d.tells.made r.1 number room there in
    let l = acts_told (list_step new.marks) d.roomed d.listed r.0 (Ok (Names d.names)) r.1 d.lists in
    let same : l.0 ≡ r.0 = look_told (list_step new.marks) r.0 (Ok (Names d.names)) l.0 tt l.2 in
    let put = acts_told (mark_step new.marks new.mount) d.listed new.store r.0 (Ok Made) (l.1 ∙ ap (λ t. Some t) same) d.marked in
    let c : Created r.0 new.marks (mark_path new.mount) put.0 = (create_told new.marks (mark_path new.mount) r.0 (Ok Made) put.0 put.2).done refl in
    let last : now ≡ put.0 = one_tree now put.0 new.store.tree now_is put.1 in
    let shaped : shape.tree ≡ put.0 = one_tree shape.tree put.0 new.store.tree shape.told put.1 in
    ap (λ (x : Tree). slice_get x.rooms number) last
    ∙ marked_keeps r.0 put.0 new.marks new.mount shape.marks c (ap (λ (x : Tree). slice_get x.rooms new.marks) (sym shaped) ∙ shape.has_marks) shape.is_marks number room first host writer bytes h
