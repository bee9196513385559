-- A file below the top is as it was, unless the act names it.
use Rattle.std.proofs.Common.{◌≡◌, ℕ, ◌*◌, ◌≤◌, ◌<◌, List, [], ◌∷◌, get_or, take, Option, Some, None, Bool, false, refl, ap, sym, ◌∙◌, ◌⊎◌, inl, inr, subst, arith}
use Rattle.std.specs.Prelude.{◌≢◌, slice_get, if◌then◌else◌, ◌&&◌}
use Rattle.std.specs.List.{AllByRecursion}
use Rattle.std.proofs.lemmas.Bool.{cases_eq}
use Rattle.plfs_types.specs.declared.entries.Entry.{Entry}
use Rattle.plfs_types.specs.declared.names.Path.{Path}
use Rattle.container_layout.specs.declared.items.Item.TheVariants.{Index, Trunc}
use Rattle.container_layout.specs.Items.{IsItem}
use Rattle.container_layout.proofs.Facts.{same_items, elsewhere}
use Rattle.store_api.specs.declared.tree.Room.{Room}
use Rattle.store_api.specs.declared.tree.Tree.{Tree}
use Rattle.store_api.specs.Room.{is_top}
use Rattle.store_api.specs.Step.{Step, make_room, rename_room, make_folder, remove_folder, create, remove, replace, write_at, cut, sync}
use Rattle.store_laws.specs.Changes.{with_room, Created, RoomMade, WasCut}
use Rattle.store_laws.specs.Outcomes.{IsLook}
use Rattle.store_laws.specs.Differ.{is_listed}
use Rattle.store_laws.specs.Files.{file_at}
use Rattle.store_laws.specs.Naming.{IsPathOf, NamesFile}
use Rattle.store_laws.specs.Tells.{Tells}
use Rattle.store_laws.proofs.Facts.{look_told, other_room, each_with_added, path_eq, create_told, remove_told, replace_told, write_told, cut_told, sync_told, make_folder_told, remove_folder_told, make_room_told, rename_room_told, keeps_rooms, changed_room, path_cases}
use Rattle.mount_model.specs.declared.call.Call.{Call}
use Rattle.mount_model.specs.declared.call.Call.TheVariants.{Mark}
use Rattle.mount_model.specs.declared.row.Flattening.{Flattening}
use Rattle.mount_model.specs.declared.row.Holder.{Holder}
use Rattle.mount_model.specs.declared.row.Row.{Row}
use Rattle.mount_model.specs.Holding.{truncate_step}
use Rattle.mount_model.specs.Paths.{index_path, trunc_path, temporary, installed}
use Rattle.mount_model.specs.Recovering.{IsHostAndWriter, mend_step}
use Rattle.mount_model.specs.Step.{IsStep}
use Rattle.mount_model.specs.History.{Event}
use Rattle.mount_model.proofs.Facts.{row_of_id}
use Rattle.mount_model.specs.Table.{row_of, holder_of}
use Rattle.mount_model.specs.Making.{Told}
use Rattle.mount_model.specs.Entering.{next_id}
use Rattle.mount_sound.specs.Dropping.{bytes_of}
use Rattle.mount_sound.specs.Excluding.{IsAboveAll}
use Rattle.mount_sound.specs.Owed.{StandsInRoom, IsTop, MayMend, Owes}
use Rattle.mount_sound.specs.There.{landed_entries, landed_in}
use Rattle.mount_sound.proofs.Facts.{ActsOn, Fits, IsNoFlattenings, OfEachAct, acts_so, all_fit, index_no_flattenings, is_index, step_acts, trunc_no_flattenings}
use Rattle.reader_laws.specs.Bounds.{SparesIndex}
use Rattle.reader_laws.specs.Moments.{Moment, IsSoundAt, next_moment, file_in_room, file_in_tree, file_told, file_then, Dropping, IsNamed}
use Rattle.reader_laws.proofs.Gathered.Containers.Entries.{not_top}

-- ---------- rooms that weren't there

no_room : (o : Option Room) (room : Room) → o ≡ None → o ≡ Some room → ⊥
no_room o room p q = cc

absent_same : (tree after : Tree) (n : ℕ) (room : Room) → after ≡ tree → slice_get tree.rooms n ≡ None → slice_get after.rooms n ≡ Some room → ⊥
absent_same tree after n room same none e = no_room (slice_get tree.rooms n) room none (ap (λ (t : Tree). slice_get t.rooms n) (sym same) ∙ e)

absent_still : (tree after : Tree) (k n : ℕ) (was new room : Room) → slice_get tree.rooms k ≡ Some was → after ≡ with_room tree k new → slice_get tree.rooms n ≡ None → slice_get after.rooms n ≡ Some room → ⊥
absent_still tree after k n was new room there gives none e = elim (cases_eq n k) as (λ _. ⊥) [
  | inl here ↦ no_room (slice_get tree.rooms n) was none (ap (λ i. slice_get tree.rooms i) here ∙ there)
  | inr other ↦ no_room (slice_get tree.rooms n) room none (sym (other_room tree k n new other) ∙ ap (λ (t : Tree). slice_get t.rooms n) (sym gives) ∙ e)
]

below_top : (b l : Bool) (there absent : Option (List ℕ)) → b ≡ false → (if b && l then there else absent) ≡ absent
below_top b l there absent e = rw e refl

made_bare : (tree after : Tree) (name : List ℕ) (folders files : List (List ℕ)) (n : ℕ) (path : Path) (room : Room) → RoomMade tree name folders files after → is_top path.folder ≡ false → slice_get tree.rooms n ≡ None → slice_get after.rooms n ≡ Some room → file_at room path ≡ None
made_bare tree after name folders files n path room m below none e =
    elim (each_with_added tree n m.new room (ap (λ (t : Tree). slice_get t.rooms n) (sym m.gives) ∙ e)) as (λ _. file_at room path ≡ None) [
      | inl (at, is) ↦ ap (λ r. file_at r path) is ∙ m.has_files path ∙ below_top (is_top path.folder) (is_listed path.file files) _ _ below
      | inr (within, was) ↦ absurd (no_room (slice_get tree.rooms n) room none was)
    ]

-- a room that wasn't there before the act has no file below its top
bare_room : (step : Step) (tree : Tree) (told : Told) (after : Tree) (n : ℕ) (path : Path) (room : Room) → Tells step tree told after → is_top path.folder ≡ false → slice_get tree.rooms n ≡ None → slice_get after.rooms n ≡ Some room → file_at room path ≡ None
bare_room (make_room name folders files) tree told after n path room t below none e = elim (make_room_told name folders files tree told after t).either as (λ _. file_at room path ≡ None) [
  | inl c ↦ made_bare tree after name folders files n path room c below none e
  | inr same ↦ absurd (absent_same tree after n room same none e)
]
bare_room (rename_room k to) tree told after n path room t below none e = elim (rename_room_told k to tree told after t).either as (λ _. file_at room path ≡ None) [
  | inl c ↦ absurd (absent_still tree after k n c.room c.new room c.has_room c.gives none e)
  | inr same ↦ absurd (absent_same tree after n room same none e)
]
bare_room (make_folder k folder) tree told after n path room t below none e = elim (make_folder_told k folder tree told after t).either as (λ _. file_at room path ≡ None) [
  | inl c ↦ absurd (absent_still tree after k n c.room c.new room c.has_room c.gives none e)
  | inr same ↦ absurd (absent_same tree after n room same none e)
]
bare_room (remove_folder k folder) tree told after n path room t below none e = elim (remove_folder_told k folder tree told after t).either as (λ _. file_at room path ≡ None) [
  | inl c ↦ absurd (absent_still tree after k n c.room c.new room c.has_room c.gives none e)
  | inr same ↦ absurd (absent_same tree after n room same none e)
]
bare_room (create k folder file) tree told after n path room t below none e = elim (create_told k (record { folder = folder; file = file }) tree told after t).either as (λ _. file_at room path ≡ None) [
  | inl c ↦ absurd (absent_still tree after k n c.room c.new room c.has_room c.gives none e)
  | inr same ↦ absurd (absent_same tree after n room same none e)
]
bare_room (remove k folder file) tree told after n path room t below none e = elim (remove_told k (record { folder = folder; file = file }) tree told after t).either as (λ _. file_at room path ≡ None) [
  | inl c ↦ absurd (absent_still tree after k n c.room c.new room c.has_room c.gives none e)
  | inr same ↦ absurd (absent_same tree after n room same none e)
]
bare_room (replace k folder from to) tree told after n path room t below none e = elim (replace_told k (record { folder = folder; file = from }) to tree told after t).either as (λ _. file_at room path ≡ None) [
  | inl (inl c) ↦ absurd (absent_still tree after k n c.room c.new room c.has_room c.gives none e)
  | inl (inr c) ↦ absurd (absent_same tree after n room c.2 none e)
  | inr same ↦ absurd (absent_same tree after n room same none e)
]
bare_room (write_at k folder file at bytes) tree told after n path room t below none e = elim (write_told k (record { folder = folder; file = file }) at bytes tree told after t) as (λ _. file_at room path ≡ None) [
  | inl w ↦ absurd (absent_still tree after k n w.1.room w.1.new room w.1.has_room w.1.gives none e)
  | inr (u, inl same) ↦ absurd (absent_same tree after n room same none e)
  | inr (u, inr p) ↦ absurd (absent_still tree after k n p.2.room p.2.new room p.2.has_room p.2.gives none e)
]
bare_room (cut k folder file len) tree told after n path room t below none e = elim (cut_told k (record { folder = folder; file = file }) len tree told after t).either as (λ _. file_at room path ≡ None) [
  | inl c ↦ absurd (absent_still tree after k n c.room c.new room c.has_room c.gives none e)
  | inr same ↦ absurd (absent_same tree after n room same none e)
]
bare_room (sync k folder file) tree told after n path room t below none e = elim (sync_told k (record { folder = folder; file = file }) tree told after t).either as (λ _. file_at room path ≡ None) [
  | inl c ↦ absurd (absent_still tree after k n c.room c.new room c.has_room c.gives none e)
  | inr same ↦ absurd (absent_same tree after n room same none e)
]
bare_room step tree told after n path room t below none e = absurd (absent_same tree after n room (look_told step tree told after tt t) none e)

-- ---------- files that the act doesn't name

still_none : (o : Option Room) (path : Path) → ((room : Room) → o ≡ Some room → file_at room path ≡ None) → file_in_room o path ≡ None
still_none None path bare = refl
still_none (Some room) path bare = bare room refl

file_same : (step : Step) (tree : Tree) (told : Told) (after : Tree) (n : ℕ) (path : Path) (o : Option Room) → slice_get tree.rooms n ≡ o → Tells step tree told after → is_top path.folder ≡ false → (NamesFile step n path → ⊥) → file_in_tree after n path ≡ file_in_room o path
file_same step tree told after n path None e t below spared = still_none (slice_get after.rooms n) path (λ room there. bare_room step tree told after n path room t below e there)
file_same step tree told after n path (Some room) e t below spared =
    let k = keeps_rooms step tree told after t n room e in
    ap (λ o. file_in_room o path) k.1 ∙ k.2.files path spared

-- ---------- a file after a step, by what its call's act names

look_names : (step : Step) (n : ℕ) (path : Path) → IsLook step → NamesFile step n path → ⊥
look_names (create k folder file) n path look names = look
look_names (remove k folder file) n path look names = look
look_names (replace k folder from to) n path look names = look
look_names (write_at k folder file at bytes) n path look names = look
look_names (cut k folder file len) n path look names = look
look_names step n path look names = names

-- a file whose path differs from that of the act in the first byte of its folder, or of its name
first_byte : (a b : List ℕ) → a ≡ b → get_or a 0 0 ≡ get_or b 0 0
first_byte a b e = ap (λ (l : List ℕ). get_or l 0 0) e

-- the act names the file of no such path
abbrev pub LeavesFile : ℕ → Path → Step → Type 0
LeavesFile n path step = NamesFile step n path → ⊥

-- the file isn't one of a flattening
of_flattening : (path : Path) (f : Flattening) → IsNoFlattenings path → IsPathOf (temporary f).folder (temporary f).file path ⊎ IsPathOf (temporary f).folder (installed f).file path → ⊥
of_flattening path f apart (inl from) = apart.from f from
of_flattening path f apart (inr to) = apart.to f to

-- ---------- index droppings

made_bytes : (k : ℕ) (made : Path) (tree after : Tree) (n : ℕ) (path : Path) → Created tree k made after → bytes_of (file_in_tree after n path) ≡ bytes_of (file_in_tree tree n path)
made_bytes k made tree after n path c = elim (cases_eq n k) as (λ _. bytes_of (file_in_tree after n path) ≡ bytes_of (file_in_tree tree n path)) [
  | inl here ↦
      let was : file_in_tree tree n path ≡ file_at c.room path = ap (λ o. file_in_room o path) (ap (λ i. slice_get tree.rooms i) here ∙ c.has_room) in
      let is : file_in_tree after n path ≡ file_at c.new path = ap (λ o. file_in_room o path) (ap (λ i. slice_get after.rooms i) here ∙ ap (λ (t : Tree). slice_get t.rooms k) c.gives ∙ changed_room tree k c.room c.new c.has_room) in
      ap bytes_of is ∙ (elim (path_cases path made) as (λ _. bytes_of (file_at c.new path) ≡ bytes_of (file_at c.room path)) [
        | inl same ↦ ap bytes_of (ap (file_at c.new) same ∙ c.now) ∙ sym (ap bytes_of (ap (file_at c.room) same ∙ c.none))
        | inr two ↦ ap bytes_of (c.others.files path two)
      ]) ∙ sym (ap bytes_of was)
  | inr other ↦ ap (λ o. bytes_of (file_in_room o path)) (ap (λ (t : Tree). slice_get t.rooms n) c.gives ∙ other_room tree k n c.new other)
]

-- the act makes an empty file, or cuts this index dropping to its entries that have landed, or doesn't name it
abbrev pub LeavesEntries : Tree → Dropping → Step → Type 0
LeavesEntries tree d (create k folder file) = Unit {0}
LeavesEntries tree d (cut k folder file len) = NamesFile (cut k folder file len) d.room (index_path d.host d.writer) → (room : Room) → slice_get tree.rooms d.room ≡ Some room → len ≡ 40 * landed_in room d.host d.writer
LeavesEntries tree d step = LeavesFile d.room (index_path d.host d.writer) step

-- an index dropping's bytes
abbrev index_in : Tree → Dropping → List ℕ
index_in tree d = bytes_of (file_in_tree tree d.room (index_path d.host d.writer))

-- the index dropping was cut to its entries that had landed
pub record IsCutToLanded (tree after : Tree) (d : Dropping) : Type 0 where
  pub room : Room
  pub there : slice_get tree.rooms d.room ≡ Some room
  pub cut : index_in after d ≡ take (40 * landed_in room d.host d.writer) (index_in tree d)

-- it is as it was, or was cut to its entries that had landed
abbrev pub IsLeft : Tree → Tree → Dropping → Type 0
IsLeft tree after d = (index_in after d ≡ index_in tree d) ⊎ IsCutToLanded tree after d

cut_here : (tree after : Tree) (d : Dropping) (k len : ℕ) (path : Path) → k ≡ d.room → path ≡ index_path d.host d.writer → ((room : Room) → slice_get tree.rooms d.room ≡ Some room → len ≡ 40 * landed_in room d.host d.writer) → WasCut tree k path len after → IsLeft tree after d
cut_here tree after d k len path here same landed c =
    let index : Path = index_path d.host d.writer in
    let there : slice_get tree.rooms d.room ≡ Some c.room = ap (λ i. slice_get tree.rooms i) (sym here) ∙ c.has_room in
    let changed : slice_get after.rooms d.room ≡ Some c.new = ap (λ i. slice_get after.rooms i) (sym here) ∙ ap (λ (t : Tree). slice_get t.rooms k) c.gives ∙ changed_room tree k c.room c.new c.has_room in
    let was : index_in tree d ≡ c.old = ap (λ o. bytes_of (file_in_room o index)) there ∙ ap bytes_of (ap (file_at c.room) (sym same) ∙ c.there) in
    let is : index_in after d ≡ take len c.old = ap (λ o. bytes_of (file_in_room o index)) changed ∙ ap bytes_of (ap (file_at c.new) (sym same) ∙ c.now) in
    inr (record { room = c.room; there = there; cut = is ∙ ap (λ n. take n c.old) (landed c.room there) ∙ ap (take (40 * landed_in c.room d.host d.writer)) (sym was) })

entries_left : (step : Step) (d : Dropping) (tree : Tree) (told : Told) (after : Tree) → LeavesEntries tree d step → Tells step tree told after → IsLeft tree after d
entries_left (create k folder file) d tree told after leaves t =
    elim (create_told k (record { folder = folder; file = file }) tree told after t).either as (λ _. IsLeft tree after d) [
      | inl c ↦ inl (made_bytes k (record { folder = folder; file = file }) tree after d.room (index_path d.host d.writer) c)
      | inr same ↦ inl (ap (λ (x : Tree). index_in x d) same)
    ]
entries_left (cut k folder file len) d tree told after leaves t =
    let index : Path = index_path d.host d.writer in
    let path : Path = record { folder = folder; file = file } in
    let spared : (NamesFile (cut k folder file len) d.room index → ⊥) → IsLeft tree after d = λ spares. inl (ap bytes_of (file_same (cut k folder file len) tree told after d.room index (slice_get tree.rooms d.room) refl t (not_top d.host) spares)) in
    elim (cases_eq d.room k) as (λ _. IsLeft tree after d) [
      | inr other ↦ spared (λ names. other names.0)
      | inl here ↦ elim (path_cases index path) as (λ _. IsLeft tree after d) [
        | inr two ↦ spared (λ names. two names.1.0 names.1.1)
        | inl same ↦ elim (cut_told k path len tree told after t).either as (λ _. IsLeft tree after d) [
          | inl c ↦ cut_here tree after d k len path (sym here) (sym same) (leaves (here, (ap (λ (p : Path). p.folder) same, ap (λ (p : Path). p.file) same))) c
          | inr as_was ↦ inl (ap (λ (x : Tree). index_in x d) as_was)
        ]
      ]
    ]
entries_left step d tree told after leaves t = inl (ap bytes_of (file_same step tree told after d.room (index_path d.host d.writer) (slice_get tree.rooms d.room) refl t (not_top d.host) leaves))

acted_entries : (d : Dropping) (tree after : Tree) → ActsOn (LeavesEntries tree d) tree after → IsLeft tree after d
acted_entries d tree after (inl same) = inl (ap (λ (t : Tree). index_in t d) same)
acted_entries d tree after (inr a) = entries_left a.step d tree a.told after a.holds a.tells

one_writer : (h w host writer : ℕ) → IsItem (Index h w) → IsItem (Index host writer) → (index_path h w).folder ≡ (index_path host writer).folder → (index_path h w).file ≡ (index_path host writer).file → w ≡ writer
one_writer h w host writer a b folder file = let same : Index h w ≡ Index host writer = same_items (Index h w) (Index host writer) a b (path_eq (index_path h w) (index_path host writer) folder file) in cc

-- a flush of another writer isn't of this index dropping
other_row : (m : Moment) (s : IsSoundAt m) (d : Dropping) (writer : ℕ) (row : Row) → IsNamed d → writer ≢ d.writer → row_of writer m.state.table.writers ≡ Some row → (index_path d.host d.writer).folder ≡ (index_path row.host row.id).folder → (index_path d.host d.writer).file ≡ (index_path row.host row.id).file → ⊥
other_row m s d writer row named other held folder file =
    let fits : Fits row = all_fit m.state s.regular writer row held in
    let item : IsItem (Index row.host row.id) = record { in_range = tt; widths = (fits.host, fits.id) } in
    other (sym (row_of_id writer m.state.table.writers row held) ∙ sym (one_writer d.host d.writer row.host row.id named item folder file))

module _ (m : Moment) (s : IsSoundAt m) (caller : ℕ) (d : Dropping) (named : IsNamed d) where
  mends_landed : (number host writer count : ℕ) → IsHostAndWriter host writer → StandsInRoom m.state number (MayMend host writer count) → LeavesEntries s.shape.tree d (mend_step number host writer count)
  mends_landed number host writer count is may names room there =
      let item : IsItem (Index host writer) = is_index host writer is.host_fits is.writer_fits in
      let same : Index d.host d.writer ≡ Index host writer = same_items (Index d.host d.writer) (Index host writer) named item (path_eq (index_path d.host d.writer) (index_path host writer) names.1.0 names.1.1) in
      let its_host : host ≡ d.host = cc in
      let its_writer : writer ≡ d.writer = cc in
      let x = may s.shape.tree s.shape.told in
      let both : Some x.0 ≡ Some room = sym x.1 ∙ ap (λ n. slice_get s.shape.tree.rooms n) (sym names.0) ∙ there in
      let one : x.0 ≡ room = cc in
      let owed : MayMend host writer count room = subst (MayMend host writer count) one x.2 in
      ap (λ n. 40 * n) (owed.landed ∙ ap (λ h. landed_in room h writer) its_host ∙ ap (λ w. landed_in room d.host w) its_writer)

  looked : (step : Step) → IsLook step → LeavesEntries s.shape.tree d step
  looked (create k folder file) look = tt
  looked (remove k folder file) look = absurd look
  looked (replace k folder from to) look = absurd look
  looked (write_at k folder file at bytes) look = absurd look
  looked (cut k folder file len) look = absurd look
  looked step look = look_names step d.room (index_path d.host d.writer) look

  -- Each act but a flush of its writer leaves an index dropping the entries that have landed.
  leave_index : OfEachAct m.state.table (next_id m.state) caller (λ call step. SparesIndex call d → Owes m.state caller call → LeavesEntries s.shape.tree d step)
  leave_index = record {
    looks = λ call step look spares owes. looked step look;
    rooms = λ name spares owes none. none;
    enters = λ room host most spares owes. tt;
    hostdirs = λ writer row spares owes none. none;
    indices = λ writer row held spares owes. tt;
    logs = λ writer row held spares owes. tt;
    writes = λ writer row held at bytes spares owes names. elsewhere (first_byte _ _ names.1.1) refl;
    flushes = λ writer row held spares owes names. other_row m s d writer row named spares held names.1.0 names.1.1;
    log_syncs = λ writer row spares owes none. none;
    index_syncs = λ writer row spares owes none. none;
    metas = λ writer row spares owes. tt;
    exits = λ writer row held spares owes names. elsewhere (first_byte _ _ names.1.0) refl;
    holds = λ room spares owes none. none;
    truncates = λ holder h held stamp size top item above spares owes. tt;
    renames = λ holder h held to spares owes none. none;
    releases = λ holder h held spares owes none. none;
    starts = λ room f makes spares owes. tt;
    packs = λ room host writer f makes numbers spares owes. tt;
    puts = λ flat f held bytes spares owes names. (index_no_flattenings d.host d.writer).from f names.1;
    flat_syncs = λ flat f held spares owes none. none;
    installs = λ flat f held spares owes names. of_flattening (index_path d.host d.writer) f (index_no_flattenings d.host d.writer) names.1;
    dropping_syncs = λ room host writer is_log is spares owes none. none;
    mends = λ room host writer count is spares owes. mends_landed room host writer count is owes.1;
    mend_metas = λ room host cover last is spares owes. tt;
    buries = λ room host writer is spares owes names. elsewhere (first_byte _ _ names.1.0) refl;
    mend_holds = λ room spares owes none. none;
  }

-- So does each step.
pub index_left : (m : Moment) (s : IsSoundAt m) (e : Event) (d : Dropping) → IsNamed d → SparesIndex e.ask.call d → Owes m.state e.caller e.ask.call → IsStep m.state e.caller e.ask e.reply e.after
    → (after : Tree) × (e.after.store.tree ≡ Some after) × IsLeft s.shape.tree after d
index_left m s e d named spares owes step =
    let P : Call → Step → Type 0 = λ call act. SparesIndex call d → Owes m.state e.caller call → LeavesEntries s.shape.tree d act in
    let g = step_acts P m.state e.after e.caller e.ask e.reply s.shape.tree (leave_index m s e.caller d named) step s.shape.told in
    (g.0, g.1, acted_entries d s.shape.tree g.0 (acts_so (P e.ask.call) (LeavesEntries s.shape.tree d) s.shape.tree g.0 (λ act leaves. leaves spares owes) g.2))

-- ---------- truncates

-- the stamp is above all that the room of this number has
abbrev pub IsAboveRoom : Tree → ℕ → ℕ → Type 0
IsAboveRoom tree number stamp = (room : Room) → slice_get tree.rooms number ≡ Some room → IsAboveAll room stamp

-- the act doesn't name this truncate, or its stamp is above all that the room has
abbrev LeavesTrunc : Tree → ℕ → ℕ → ℕ → Step → Type 0
LeavesTrunc tree number stamp size step = LeavesFile number (trunc_path stamp size) step ⊎ IsAboveRoom tree number stamp

all_below : (top stamp : ℕ) (es : List Entry) → top < stamp → AllByRecursion (λ (e : Entry). e.stamp ≤ top) es → AllByRecursion (λ (e : Entry). e.stamp < stamp) es
all_below top stamp [] above all = tt
all_below top stamp (e ∷ es) above all = (omega (arith, above, all.0), all_below top stamp es above all.1)

one_stamp : (a b size sizes : ℕ) → Trunc a size ≡ Trunc b sizes → a ≡ b
one_stamp a b size sizes e = cc

module _ (m : Moment) (s : IsSoundAt m) (caller number stamp size : ℕ) (item : IsItem (Trunc stamp size)) where
  marks_above : (holder : ℕ) (h : Holder) → holder_of caller holder m.state.table.holders ≡ Some h → (its its_size top : ℕ) → IsItem (Trunc its its_size) → top < its → Owes m.state caller (Mark holder its_size top) → LeavesTrunc s.shape.tree number stamp size (truncate_step h its its_size)
  marks_above holder h held its its_size top is above owes = elim (cases_eq number h.room) as (λ _. LeavesTrunc s.shape.tree number stamp size (truncate_step h its its_size)) [
    | inr other ↦ inl (λ names. other names.0)
    | inl here ↦ elim (path_cases (trunc_path stamp size) (trunc_path its its_size)) as (λ _. LeavesTrunc s.shape.tree number stamp size (truncate_step h its its_size)) [
      | inr two ↦ inl (λ names. two names.1.0 names.1.1)
      | inl same ↦
          let one : stamp ≡ its = one_stamp stamp its size its_size (same_items (Trunc stamp size) (Trunc its its_size) item is same) in
          let tops : (room : Room) → slice_get s.shape.tree.rooms number ≡ Some room → IsTop room top = λ room there. owes h held s.shape.tree room s.shape.told (ap (λ n. slice_get s.shape.tree.rooms n) (sym here) ∙ there) in
          inr (λ room there. record {
            truncates = λ other size content has. omega (arith, above, one, (tops room there).truncates other size content has);
            entries = λ host writer content has. all_below top stamp (landed_entries room host writer) (omega (arith, above, one)) ((tops room there).entries host writer content has);
          })
    ]
  ]

  -- A truncate that an act puts has a stamp above all that the room has.
  leave_trunc : OfEachAct m.state.table (next_id m.state) caller (λ call step. Owes m.state caller call → LeavesTrunc s.shape.tree number stamp size step)
  leave_trunc = record {
    looks = λ call step look owes. inl (look_names step number (trunc_path stamp size) look);
    rooms = λ name owes. inl (λ none. none);
    enters = λ room host most owes. inl (λ names. elsewhere (first_byte _ _ names.1.0) refl);
    hostdirs = λ writer row owes. inl (λ none. none);
    indices = λ writer row held owes. inl (λ names. elsewhere (first_byte _ _ names.1.0) refl);
    logs = λ writer row held owes. inl (λ names. elsewhere (first_byte _ _ names.1.0) refl);
    writes = λ writer row held at bytes owes. inl (λ names. elsewhere (first_byte _ _ names.1.0) refl);
    flushes = λ writer row held owes. inl (λ names. elsewhere (first_byte _ _ names.1.0) refl);
    log_syncs = λ writer row owes. inl (λ none. none);
    index_syncs = λ writer row owes. inl (λ none. none);
    metas = λ writer row owes. inl (λ names. elsewhere (first_byte _ _ names.1.0) refl);
    exits = λ writer row held owes. inl (λ names. elsewhere (first_byte _ _ names.1.0) refl);
    holds = λ room owes. inl (λ none. none);
    truncates = λ holder h held its its_size top is above owes. marks_above holder h held its its_size top is above owes;
    renames = λ holder h held to owes. inl (λ none. none);
    releases = λ holder h held owes. inl (λ none. none);
    starts = λ room f makes owes. inl (λ names. (trunc_no_flattenings stamp size).from f names.1);
    packs = λ room host writer f makes numbers owes. inl (λ names. (trunc_no_flattenings stamp size).from f names.1);
    puts = λ flat f held bytes owes. inl (λ names. (trunc_no_flattenings stamp size).from f names.1);
    flat_syncs = λ flat f held owes. inl (λ none. none);
    installs = λ flat f held owes. inl (λ names. of_flattening (trunc_path stamp size) f (trunc_no_flattenings stamp size) names.1);
    dropping_syncs = λ room host writer is_log is owes. inl (λ none. none);
    mends = λ room host writer count is owes. inl (λ names. elsewhere (first_byte _ _ names.1.0) refl);
    mend_metas = λ room host cover last is owes. inl (λ names. elsewhere (first_byte _ _ names.1.0) refl);
    buries = λ room host writer is owes. inl (λ names. elsewhere (first_byte _ _ names.1.0) refl);
    mend_holds = λ room owes. inl (λ none. none);
  }

trunc_below : (stamp size : ℕ) → is_top (trunc_path stamp size).folder ≡ false
trunc_below stamp size = refl

acted_trunc : (tree after : Tree) (number stamp size : ℕ) → ActsOn (LeavesTrunc tree number stamp size) tree after → (file_in_tree after number (trunc_path stamp size) ≡ file_in_tree tree number (trunc_path stamp size)) ⊎ IsAboveRoom tree number stamp
acted_trunc tree after number stamp size (inl same) = inl (ap (λ (t : Tree). file_in_tree t number (trunc_path stamp size)) same)
acted_trunc tree after number stamp size (inr a) = elim a.holds as (λ _. (file_in_tree after number (trunc_path stamp size) ≡ file_in_tree tree number (trunc_path stamp size)) ⊎ IsAboveRoom tree number stamp) [
  | inl spares ↦ inl (file_same a.step tree a.told after number (trunc_path stamp size) (slice_get tree.rooms number) refl a.tells (trunc_below stamp size) spares)
  | inr above ↦ inr above
]

-- After each step a truncate is as it was, or its stamp is above all that the room had.
pub trunc_left : (m : Moment) (s : IsSoundAt m) (e : Event) (number stamp size : ℕ) → IsItem (Trunc stamp size) → Owes m.state e.caller e.ask.call → IsStep m.state e.caller e.ask e.reply e.after
    → (file_then (next_moment m e) number (trunc_path stamp size) ≡ file_then m number (trunc_path stamp size)) ⊎ IsAboveRoom s.shape.tree number stamp
trunc_left m s e number stamp size item owes step =
    let path : Path = trunc_path stamp size in
    let P : Call → Step → Type 0 = λ call act. Owes m.state e.caller call → LeavesTrunc s.shape.tree number stamp size act in
    let g = step_acts P m.state e.after e.caller e.ask e.reply s.shape.tree (leave_trunc m s e.caller number stamp size item) step s.shape.told in
    elim (acted_trunc s.shape.tree g.0 number stamp size (acts_so (P e.ask.call) (LeavesTrunc s.shape.tree number stamp size) s.shape.tree g.0 (λ act leaves. leaves owes) g.2)) as (λ _. (file_then (next_moment m e) number path ≡ file_then m number path) ⊎ IsAboveRoom s.shape.tree number stamp) [
      | inl same ↦ inl (ap (λ o. file_told o number path) g.1 ∙ same ∙ ap (λ o. file_told o number path) (sym s.shape.told))
      | inr above ↦ inr above
    ]
