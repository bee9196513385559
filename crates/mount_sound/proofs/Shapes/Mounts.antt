-- A mount over a tree of the right shape has it.
use Rattle.std.proofs.Common.{◌≡◌, ℕ, ◌+◌, ◌<◌, ◌≤◌, ◌^◌, true, false, ◌||◌, List, [], ◌∷◌, length, slice_get, Option, Some, refl, sym, ap, ◌∙◌, ◌⊎◌, inl, inr, subst, arith}
use Rattle.std.specs.Prelude.{is_some, Ok}
use Rattle.std.specs.List.{All}
use Rattle.std.proofs.lemmas.Bool.{cases_eq}
use Rattle.std.proofs.lemmas.Fmt.{decimal_injective}
use Rattle.std.proofs.lemmas.List.Elements.{All-head, All-tail}
use Rattle.plfs_types.specs.Names.{IsLogicalName}
use Rattle.store_api.specs.declared.tree.Room.{Room}
use Rattle.store_api.specs.declared.tree.Tree.{Tree}
use Rattle.store_api.specs.declared.step.Answer.TheVariants.{Made, Old, Number, Names}
use Rattle.store_api.specs.Acts.{Stored, Acts}
use Rattle.store_api.specs.Room.{is_top, has_folder}
use Rattle.store_laws.specs.Files.{file_at, SameButFile}
use Rattle.store_laws.specs.Differ.{is_listed, PathsDiffer}
use Rattle.store_laws.specs.There.{IsRoomOf, ListsFolder}
use Rattle.store_laws.specs.Changes.{with_room, Created, RoomMade}
use Rattle.store_laws.specs.Says.{ListTells}
use Rattle.store_laws.specs.Tells.{Tells}
use Rattle.store_laws.proofs.Facts.{path_cases, acts_told, make_room_told, create_told, list_tells, look_answered, look_told, changed_room, each_room, added_room, each_with_added, rooms_differ_kept, rooms_differ_added, folder_kept, folders_differ_kept, each_file, each_new_file, has_new_folder, new_folders_differ}
use Rattle.mount_model.specs.Paths.{Name, mark_name, mark_path}
use Rattle.store_api.specs.Names.{marks_folder}
use Rattle.store_api.specs.Names.{marks_name}
use Rattle.mount_model.specs.State.{State, id_of}
use Rattle.mount_model.specs.declared.mount_trouble.MountTrouble.{MountTrouble}
use Rattle.mount_model.specs.Failing.{FailsToMount, no_room, no_names, no_next, no_mark}
use Rattle.mount_model.specs.Making.{Told}
use Rattle.mount_model.specs.Listed.{IsGreatest, IsMarkOf}
use Rattle.mount_model.specs.Mounting.{marks_step, list_step, mark_step, room_told, TellsRoom, IsMounted}
use Rattle.mount_sound.specs.Marks.{IsMarkFile, IsMarksRoom, HasMark, IsOfMark}
use Rattle.mount_sound.specs.Container.{IsContainer}
use Rattle.mount_sound.specs.Shape.{IsShapedTree, IsDrawnBy, IsShaped}
use Rattle.mount_sound.proofs.Shapes.Containers.{is_top_empty, one_of, listed_first, listed_none}
use Rattle.mount_sound.proofs.Shapes.Trees.{IsShapedFor, has_shape, of_mark_kept, room_kept, with_added, has_mark_added}

-- a tree of the right shape, whose room of marks has this number
pub record IsReady (marks : ℕ) (tree : Tree) : Type 0 where
  pub shaped : IsShapedTree (IsOfMark tree) tree
  pub room : Room
  pub has_room : slice_get tree.rooms marks ≡ Some room
  pub is_marks : IsMarksRoom room

-- ---- the room of marks

-- a room of this name is no container
dotted_name : IsLogicalName marks_name → ⊥
dotted_name logical = logical.no_dot refl

marks_of : (allowed : ℕ → Type 0) (room : Room) → room.name ≡ marks_name → IsMarksRoom room ⊎ IsContainer allowed room → IsMarksRoom room
marks_of allowed room named is = elim is as (λ _. IsMarksRoom room) [
  | inl m ↦ m
  | inr c ↦ absurd (dotted_name (subst IsLogicalName named c.named))
]

-- it was there
ready_there : (n : ℕ) (tree : Tree) → IsShapedTree (IsOfMark tree) tree → IsRoomOf tree marks_name n → IsReady n tree
ready_there n tree shaped of = record {
  shaped = shaped;
  room = of.room;
  has_room = of.has_room;
  is_marks = marks_of (IsOfMark tree) of.room of.named (shaped.rooms n of.room of.has_room);
}

module _ (tree : Tree) (after : Tree) (made : RoomMade tree marks_name (marks_folder ∷ []) [] after) where
  made_folder : (folder : Name) → has_folder made.new folder ≡ true → (folder ≡ []) ⊎ (folder ≡ marks_folder)
  made_folder folder at = elim (one_of (is_top folder) (is_listed folder (marks_folder ∷ [])) (sym (has_new_folder tree marks_name (marks_folder ∷ []) [] after made folder) ∙ at)) as (λ _. (folder ≡ []) ⊎ (folder ≡ marks_folder)) [
    | inl top ↦ inl (is_top_empty folder top)
    | inr listed ↦ elim (listed_first folder marks_folder [] listed) as (λ _. (folder ≡ []) ⊎ (folder ≡ marks_folder)) [
      | inl is ↦ inr is
      | inr none ↦ absurd (listed_none folder none)
    ]
  ]

  marks_made : IsMarksRoom made.new
  marks_made = record {
    named = made.named;
    folders_differ = new_folders_differ tree marks_name (marks_folder ∷ []) [] after made (refl, tt);
    paths_differ = made.differ tt;
    has_marks = has_new_folder tree marks_name (marks_folder ∷ []) [] after made marks_folder;
    folders = made_folder;
    top_unlisted = ap (λ folders. is_listed [] folders) made.has_folders;
    files = λ path bytes at. absurd (listed_none path.file (each_new_file tree marks_name (marks_folder ∷ []) [] after made path bytes at).2);
  }

  -- it was made
  ready_made : IsShapedTree (IsOfMark tree) tree → IsReady (length tree.rooms) after
  ready_made shaped =
      let wider = of_mark_kept tree (with_added tree made.new) (has_mark_added tree made.new) in
      let ready : IsReady (length tree.rooms) (with_added tree made.new) = record {
        shaped = record {
          rooms_differ = rooms_differ_added tree made.new (λ k room there named. made.free k room there (named ∙ made.named)) shaped.rooms_differ;
          rooms = λ k r at. elim (each_with_added tree k made.new r at) as (λ _. IsMarksRoom r ⊎ IsContainer (IsOfMark (with_added tree made.new)) r) [
            | inl here ↦ inl (subst IsMarksRoom (sym here.1) marks_made)
            | inr other ↦ room_kept (IsOfMark tree) (IsOfMark (with_added tree made.new)) r wider (shaped.rooms k r other.1)
          ];
        };
        room = made.new;
        has_room = added_room tree made.new;
        is_marks = marks_made;
      } in
      subst (IsReady (length tree.rooms)) (sym made.gives) ready

-- ---- a mark

-- the room of marks has one more
marks_more : (mount : ℕ) (room new : Room) → 1 ≤ mount → mount < 2 ^ 32 → file_at new (mark_path mount) ≡ Some [] → SameButFile (mark_path mount) room new → (PathsDiffer room → PathsDiffer new) → IsMarksRoom room → IsMarksRoom new
marks_more mount room new some fits now others differ m = record {
  named = others.name ∙ m.named;
  folders_differ = folders_differ_kept (mark_path mount) room new others m.folders_differ;
  paths_differ = differ m.paths_differ;
  has_marks = folder_kept (mark_path mount) room new marks_folder others ∙ m.has_marks;
  folders = λ folder at. m.folders folder (sym (folder_kept (mark_path mount) room new folder others) ∙ at);
  top_unlisted = ap (λ folders. is_listed [] folders) others.folders ∙ m.top_unlisted;
  files = λ path bytes at. elim (each_file (mark_path mount) path room new bytes others at) as (λ _. IsMarkFile path bytes) [
    | inl same ↦
        let both : Some [] ≡ Some bytes = sym now ∙ ap (λ p. file_at new p) (sym same) ∙ at in
        let is : [] ≡ bytes = cc in
        (mount, some, fits, same, sym is)
    | inr old ↦ m.files path bytes old.1
  ];
}

all_listed : (P : Name → Type 0) (name : Name) (names : List Name) → All P names → is_listed name names ≡ true → P name
all_listed P name [] all e = absurd (listed_none name e)
all_listed P name (x ∷ names) all e = elim (listed_first name x names e) as (λ _. P name) [
  | inl is ↦ subst P (sym is) (All-head P x names all)
  | inr rest ↦ all_listed P name names (All-tail P x names all) rest
]

-- each mark of the room is among its names
mark_listed : (tree : Tree) (n : ℕ) (names : List Name) (room : Room) (mount : ℕ) → ListsFolder tree n marks_folder names → slice_get tree.rooms n ≡ Some room → file_at room (mark_path mount) ≡ Some [] → is_listed (mark_name mount) names ≡ true
mark_listed tree n names room mount lists there mark =
    let both : Some lists.room ≡ Some room = sym lists.has_room ∙ there in
    let same : lists.room ≡ room = cc in
    let stands : file_at lists.room (mark_path mount) ≡ Some [] = subst (λ r. file_at r (mark_path mount) ≡ Some []) (sym same) mark in
    lists.entries.exactly (mark_name mount) ∙ ap (λ f. is_some f || false) stands

-- so it is of no greater mount
mark_within : (names : List Name) (greatest mount : ℕ) → IsGreatest IsMarkOf names greatest → greatest < 2 ^ 32 → mount < 2 ^ 32 → is_listed (mark_name mount) names ≡ true → mount ≤ greatest
mark_within names greatest mount found fits mount_fits listed =
    let is = all_listed (λ name. (n : ℕ) × IsMarkOf name n × (n ≤ greatest)) (mark_name mount) names found.numbers listed in
    let same : mount ≡ is.0 = decimal_injective mount is.0 (omega arith) (omega (arith, is.2, fits)) is.1.1 in
    omega (arith, same, is.2)

module _ (n mount : ℕ) (tree after : Tree) (ready : IsReady n tree) (some : 1 ≤ mount) (fits : mount < 2 ^ 32) (c : Created tree n (mark_path mount) after) where
  the_room : c.room ≡ ready.room
  the_room = let both : Some c.room ≡ Some ready.room = sym c.has_room ∙ ready.has_room in cc

  was_marks : IsMarksRoom c.room
  was_marks = subst IsMarksRoom (sym the_room) ready.is_marks

  now_marks : IsMarksRoom c.new
  now_marks = marks_more mount c.room c.new some fits c.now c.others c.differ was_marks

  -- a mark stands in the room of marks
  stands_there : (m : ℕ) (has : HasMark tree m) → has.number ≡ n
  stands_there m has = ready.shaped.rooms_differ has.number n has.room ready.room has.there ready.has_room (has.named ∙ sym ready.is_marks.named)

  in_room : (m : ℕ) (has : HasMark tree m) → file_at c.room (mark_path m) ≡ Some []
  in_room m has =
      let both : Some has.room ≡ Some c.room = sym has.there ∙ ap (λ k. slice_get tree.rooms k) (stands_there m has) ∙ c.has_room in
      let same : has.room ≡ c.room = cc in
      subst (λ r. file_at r (mark_path m) ≡ Some []) same has.mark

  mark_stays : (m : ℕ) → HasMark tree m → HasMark (with_room tree n c.new) m
  mark_stays m has = record {
    number = n;
    room = c.new;
    there = changed_room tree n c.room c.new c.has_room;
    named = now_marks.named;
    mark = elim (path_cases (mark_path m) (mark_path mount)) as (λ _. file_at c.new (mark_path m) ≡ Some []) [
      | inl same ↦ ap (λ p. file_at c.new p) same ∙ c.now
      | inr two ↦ c.others.files (mark_path m) two ∙ in_room m has
    ];
  }

  -- with one more mark the tree keeps its shape
  pub put_shaped : IsShapedTree (IsOfMark after) after
  put_shaped = subst (λ t. IsShapedTree (IsOfMark t) t) (sym c.gives) (record {
    rooms_differ = rooms_differ_kept tree n c.room c.new c.has_room c.others.name ready.shaped.rooms_differ;
    rooms = λ k r at. elim (each_room tree n k c.room c.new r c.has_room at) as (λ _. IsMarksRoom r ⊎ IsContainer (IsOfMark (with_room tree n c.new)) r) [
      | inl here ↦ inl (subst IsMarksRoom (sym here.1) now_marks)
      | inr other ↦ room_kept (IsOfMark tree) (IsOfMark (with_room tree n c.new)) r (of_mark_kept tree (with_room tree n c.new) mark_stays) (ready.shaped.rooms k r other.1)
    ];
  })

  -- where the mark is behind the greatest one, the mount may draw serials of it
  module _ (serial greatest : ℕ) (names : List Name) (lists : ListsFolder tree n marks_folder names) (found : IsGreatest IsMarkOf names greatest) (next : mount ≡ greatest + 1) where
    mark_below : (m : ℕ) → HasMark tree m → m < 2 ^ 32 → m ≤ greatest
    mark_below m has m_fits = mark_within names greatest m found (omega arith) m_fits (mark_listed tree n names c.room m lists c.has_room (in_room m has))

    id_below : (m s : ℕ) → m ≤ greatest → s < 2 ^ 32 → id_of m s ≤ id_of mount serial
    id_below m s below small = omega arith

    -- ids of the marks that were there are below those of the new one
    drawn_before : (id : ℕ) → IsOfMark tree id → IsDrawnBy (id_of mount serial) (with_room tree n c.new) id
    drawn_before id o =
        (of_mark_kept tree (with_room tree n c.new) mark_stays id o, subst (λ i. i ≤ id_of mount serial) (sym o.is) (id_below o.mount o.serial (mark_below o.mount o.has_mark o.mount_fits) o.serial_fits))

    marked : IsShapedFor (id_of mount serial) n mount (with_room tree n c.new)
    marked = record {
      shaped = record {
        rooms_differ = rooms_differ_kept tree n c.room c.new c.has_room c.others.name ready.shaped.rooms_differ;
        rooms = λ k r at. elim (each_room tree n k c.room c.new r c.has_room at) as (λ _. IsMarksRoom r ⊎ IsContainer (IsDrawnBy (id_of mount serial) (with_room tree n c.new)) r) [
          | inl here ↦ inl (subst IsMarksRoom (sym here.1) now_marks)
          | inr other ↦ room_kept (IsOfMark tree) (IsDrawnBy (id_of mount serial) (with_room tree n c.new)) r drawn_before (ready.shaped.rooms k r other.1)
        ];
      };
      room = c.new;
      has_room = changed_room tree n c.room c.new c.has_room;
      is_marks = now_marks;
      mark = c.now;
    }

    pub marked_shape : IsShapedFor (id_of mount serial) n mount after
    marked_shape = subst (IsShapedFor (id_of mount serial) n mount) (sym c.gives) marked

-- ---- the acts of mounting

made_number : (n : ℕ) (tree after : Tree) → IsShapedTree (IsOfMark tree) tree → Tells marks_step tree (Ok (Number n)) after → IsReady n after
made_number n tree after shaped t =
    let m = make_room_told marks_name (marks_folder ∷ []) [] tree (Ok (Number n)) after t in
    elim (cases_eq n (length tree.rooms)) as (λ _. IsReady n after) [
      | inl last ↦ subst (λ k. IsReady k after) (sym last) (ready_made tree after (m.done (ap (λ k. Ok (Number k)) last)) shaped)
      | inr other ↦ absurd ((m.stays (Number n) refl (λ same. let is : n ≡ length tree.rooms = cc in other is)).1)
    ]

made_old : (n : ℕ) (tree after : Tree) → IsShapedTree (IsOfMark tree) tree → Tells marks_step tree (Ok (Old n)) after → IsReady n after
made_old n tree after shaped t =
    let m = (make_room_told marks_name (marks_folder ∷ []) [] tree (Ok (Old n)) after t).stays (Old n) refl (λ same. cc) in
    subst (IsReady n) (sym m.0) (ready_there n tree shaped m.1)

by_told : (n : ℕ) (tree after : Tree) → IsShapedTree (IsOfMark tree) tree → (told : Told) → room_told told ≡ Some n → Tells marks_step tree told after → IsReady n after
by_told n tree after shaped (Ok (Number number)) is t = let same : number ≡ n = cc in made_number n tree after shaped (subst (λ k. Tells marks_step tree (Ok (Number k)) after) same t)
by_told n tree after shaped (Ok (Old number)) is t = let same : number ≡ n = cc in made_old n tree after shaped (subst (λ k. Tells marks_step tree (Ok (Old k)) after) same t)
by_told n tree after shaped told is t = absurd (cc)

-- the store tells a tree, and the room of marks is ready
abbrev IsReadied : ℕ → Stored → Type 0
IsReadied n stored = (tree : Tree) × (stored.tree ≡ Some tree) × IsReady n tree

readied : (n : ℕ) (opened roomed : Stored) (tree : Tree) → opened.tree ≡ Some tree → IsShapedTree (IsOfMark tree) tree → TellsRoom opened roomed n → IsReadied n roomed
readied n opened roomed tree told shaped tells =
    let t = acts_told marks_step opened roomed tree tells.told told tells.made in
    (t.0, t.1, by_told n tree t.0 shaped tells.told tells.tells t.2)

-- A mount over a store that told a tree of the right shape has it.
pub mounted_shape : (serial : ℕ) (times : Option (List ℕ)) (opened : Stored) (new : State) (tree : Tree) → IsMounted serial times opened new → opened.tree ≡ Some tree → IsShapedTree (IsOfMark tree) tree → IsShaped new
mounted_shape serial times opened new tree m told shaped =
    let d = m.draws in
    let ready = readied new.marks opened d.roomed tree told shaped d.tells in
    let listed = acts_told (list_step new.marks) d.roomed d.listed ready.0 (Ok (Names d.names)) ready.1 d.lists in
    let lists = look_answered (list_step new.marks) ready.0 (ListTells ready.0 new.marks marks_folder) (list_tells ready.0 new.marks marks_folder) (Names d.names) listed.0 listed.2 in
    let told_now : d.listed.tree ≡ Some ready.0 = listed.1 ∙ ap (λ t. Some t) lists.0 in
    let put = acts_told (mark_step new.marks new.mount) d.listed new.store ready.0 (Ok Made) told_now d.marked in
    let created : Created ready.0 new.marks (mark_path new.mount) put.0 = (create_told new.marks (mark_path new.mount) ready.0 (Ok Made) put.0 put.2).done refl in
    has_shape new put.0 put.1
    (marked_shape new.marks new.mount ready.0 put.0 ready.2 (omega (arith, d.next.next)) d.next.fits created new.serial d.next.greatest d.names lists.1 d.next.found d.next.next)

-- ---- a mounting that broke off

-- the store tells a tree of the right shape
abbrev pub IsToldShaped : Stored → Type 0
IsToldShaped stored = (tree : Tree) × (stored.tree ≡ Some tree) × IsShapedTree (IsOfMark tree) tree

room_shaped : (tree after : Tree) (told : Told) → IsShapedTree (IsOfMark tree) tree → Tells marks_step tree told after → IsShapedTree (IsOfMark after) after
room_shaped tree after told shaped t = elim (make_room_told marks_name (marks_folder ∷ []) [] tree told after t).either as (λ _. IsShapedTree (IsOfMark after) after) [
  | inl made ↦ (ready_made tree after made shaped).shaped
  | inr same ↦ subst (λ t. IsShapedTree (IsOfMark t) t) (sym same) shaped
]

looked_shaped : (room : ℕ) (roomed left : Stored) (tree : Tree) (told : Told) → roomed.tree ≡ Some tree → IsShapedTree (IsOfMark tree) tree → Acts (list_step room) roomed left told → IsToldShaped left
looked_shaped room roomed left tree told is shaped made =
    let l = acts_told (list_step room) roomed left tree told is made in
    (l.0, l.1, subst (λ t. IsShapedTree (IsOfMark t) t) (sym (look_told (list_step room) tree told l.0 tt l.2)) shaped)

-- Whatever its acts told, the tree that they left has its shape.
pub failed_shape : (opened left : Stored) (trouble : MountTrouble) (tree : Tree) → FailsToMount opened trouble left → opened.tree ≡ Some tree → IsShapedTree (IsOfMark tree) tree → IsToldShaped left
failed_shape opened left trouble tree (no_room f) is shaped =
    let t = acts_told marks_step opened left tree f.told is f.made in
    (t.0, t.1, room_shaped tree t.0 f.told shaped t.2)
failed_shape opened left trouble tree (no_names roomed room tells f) is shaped =
    let r = readied room opened roomed tree is shaped tells in
    looked_shaped room roomed left r.0 f.told r.1 r.2.shaped f.made
failed_shape opened left trouble tree (no_next roomed room names tells lists none) is shaped =
    let r = readied room opened roomed tree is shaped tells in
    looked_shaped room roomed left r.0 (Ok (Names names)) r.1 r.2.shaped lists
failed_shape opened left trouble tree (no_mark roomed listed room names mount tells lists next f) is shaped =
    let r = readied room opened roomed tree is shaped tells in
    let l = acts_told (list_step room) roomed listed r.0 (Ok (Names names)) r.1 lists in
    let same : l.0 ≡ r.0 = look_told (list_step room) r.0 (Ok (Names names)) l.0 tt l.2 in
    let put = acts_told (mark_step room mount) listed left r.0 f.told (l.1 ∙ ap (λ t. Some t) same) f.made in (
      put.0,
      put.1,
      elim (create_told room (mark_path mount) r.0 f.told put.0 put.2).either as (λ _. IsShapedTree (IsOfMark put.0) put.0) [
        | inl made ↦ put_shaped room mount r.0 put.0 r.2 (omega (arith, next.next)) next.fits made
        | inr stays ↦ subst (λ t. IsShapedTree (IsOfMark t) t) (sym stays) r.2.shaped
      ],
    )
