-- What stands of a container stays, and no entry that has landed is lost, whatever a step does.
use Rattle.std.proofs.Common.{◌≡◌, ◌≤◌, ◌<◌, ◌^◌, ◌+◌, ◌*◌, ◌/◌, ℕ, zero, suc, List, [], ◌∷◌, length, get_or, take, drop, nat_le, if◌then◌else◌, true, false, Option, Some, refl, ap, sym, ◌∙◌, inl, inr, subst, arith}
use Rattle.std.specs.Prelude.{slice_get}
use Rattle.std.proofs.lemmas.Bool.{cases_eq}
use Rattle.std.proofs.lemmas.List.{length-take-le}
use Rattle.index_entry.specs.Spelling.{entry_in}
use Rattle.index_entry.specs.Within.{within_log}
use Rattle.container_layout.specs.declared.items.Item.{Item}
use Rattle.container_layout.specs.declared.items.Item.TheVariants.{Access, OpenHost, Meta, Trunc, Flat, TmpFlat, Index, Log, Packed, TmpPacked}
use Rattle.container_layout.specs.Items.{IsItem}
use Rattle.container_layout.specs.Paths.{path_of}
use Rattle.container_layout.proofs.Facts.{elsewhere, same_items}
use Rattle.store_api.specs.declared.tree.Room.{Room}
use Rattle.store_api.specs.declared.tree.Tree.{Tree}
use Rattle.store_api.specs.Step.{Step, create, cut, make_room, remove, replace}
use Rattle.store_laws.specs.Changes.{beside}
use Rattle.store_laws.specs.Differ.{PathsDiffer}
use Rattle.store_laws.specs.Files.{file_at}
use Rattle.store_laws.specs.Naming.{NamesFile, OnlyAdds}
use Rattle.store_laws.specs.Outcomes.{IsLook}
use Rattle.store_laws.specs.Tells.{Tells}
use Rattle.store_laws.proofs.Facts.{cut_told, keeps_rooms, lengthens_told, path_cases, replace_told, slice_get-slice_set}
use Rattle.mount_model.specs.declared.call.Ask.{Ask}
use Rattle.mount_model.specs.declared.call.Call.{Call}
use Rattle.mount_model.specs.declared.reply.Reply.{Reply}
use Rattle.mount_model.specs.declared.row.Flattening.{Flattening}
use Rattle.mount_model.specs.declared.row.Making.{Making}
use Rattle.mount_model.specs.declared.row.Making.TheVariants as making
use Rattle.mount_model.specs.Entering.{next_id}
use Rattle.mount_model.specs.Building.{hostdir_step, index_step, log_step}
use Rattle.mount_model.specs.Flattening.{install_step, put_flat_step, start_step, sync_flat_step}
use Rattle.mount_model.specs.Flushing.{flush_step, sync_index_step, sync_log_step}
use Rattle.mount_model.specs.Holding.{hold_step, release_step, rename_step, truncate_step}
use Rattle.mount_model.specs.Leaving.{put_meta_step}
use Rattle.mount_model.specs.Making.{Told}
use Rattle.mount_model.specs.Paths.{Name, new_files, new_folders, open_path, index_path, installed, installed_item, temporary, temporary_item}
use Rattle.container_layout.specs.Paths.{openhosts}
use Rattle.mount_model.specs.Regular.{IsOfSerial}
use Rattle.mount_model.specs.Recovering.{IsHostAndWriter, mend_hold_step, mend_meta_step, mend_step, sync_dropping_step}
use Rattle.mount_model.specs.State.{State}
use Rattle.mount_model.specs.Step.{IsStep}
use Rattle.mount_model.specs.Table.{flattening_at}
use Rattle.mount_model.specs.Writing.{write_step}
use Rattle.mount_model.proofs.Facts.{all-unmap, flattening_at_all}
use Rattle.mount_sound.specs.Named.{FitsNames}
use Rattle.mount_sound.proofs.Shapes.Facts.{id_fits}
use Rattle.mount_sound.specs.Dropping.{bytes_of, log_bytes}
use Rattle.mount_sound.specs.Growing.{ItemsStay, Stays, least_length}
use Rattle.mount_sound.specs.Items.{HasItem}
use Rattle.mount_sound.specs.Landed.{whole}
use Rattle.mount_sound.specs.Ledger.{Ledger}
use Rattle.mount_sound.specs.Owed.{Owes, MayMend}
use Rattle.mount_sound.specs.Sound.{IsSoundFor}
use Rattle.mount_sound.specs.There.{entries_there, landed_in}
use Rattle.mount_sound.proofs.DeadWriters.Gone.{in_room}
use Rattle.mount_sound.proofs.Calls.Acting.{ActsOn, OfEachAct, step_acts}
use Rattle.mount_sound.proofs.Indices.FlatPaths.{moved_to}
use Rattle.mount_sound.proofs.Soundness.Items.{is_index}
use Rattle.mount_sound.proofs.Indices.Makings.{is_installed, is_temporary, named_of}

-- ---- what an item's file is long at least

no_more_told : (log n : ℕ) (bytes : List ℕ) → length (within_log log n bytes) ≤ n
no_more_told log zero bytes = omega arith
no_more_told log (suc n) bytes = elim (nat_le ((entry_in bytes).physical + (entry_in bytes).len) log) as (λ b. length (if b then entry_in bytes ∷ within_log log n (drop 40 bytes) else []) ≤ suc n) [
  | true ↦ omega (arith, no_more_told log n (drop 40 bytes))
  | false ↦ omega arith
]

whole_fits : (count : ℕ) (bytes : List ℕ) → count ≤ length bytes / 40 → 40 * count ≤ length bytes
whole_fits count bytes l = omega (arith, l)

-- its index dropping has the entries that have landed
pub landed_fits : (room : Room) (host writer : ℕ) (bytes : List ℕ) → file_at room (index_path host writer) ≡ Some bytes → 40 * landed_in room host writer ≤ length bytes
landed_fits room host writer bytes e =
    whole_fits (landed_in room host writer) bytes
    (subst (λ f. length (entries_there (bytes_of f) (log_bytes room host writer)) ≤ whole bytes) (sym e) (no_more_told (length (log_bytes room host writer)) (whole bytes) bytes))

pub at_least : (room : Room) (item : Item) (bytes : List ℕ) → HasItem room item bytes → least_length room item bytes ≤ length bytes
at_least room (Log host writer) bytes h = omega arith
at_least room (Index host writer) bytes h = landed_fits room host writer bytes h.there
at_least room item bytes h = omega arith

-- ---- items that no step takes

first_byte : (folder : List ℕ) → folder ≡ openhosts → get_or folder 0 0 ≡ 111
first_byte folder e = ap (λ (l : List ℕ). get_or l 0 0) e

outside : (item : Item) → Stays item → (path_of item).folder ≡ openhosts → ⊥
outside Access stays e = elsewhere (first_byte (path_of Access).folder e) refl
outside (OpenHost host writer) stays e = absurd stays
outside (Meta last bytes stamp host writer) stays e = elsewhere (first_byte (path_of (Meta last bytes stamp host writer)).folder e) refl
outside (Trunc stamp size) stays e = elsewhere (first_byte (path_of (Trunc stamp size)).folder e) refl
outside (Flat id) stays e = elsewhere (first_byte (path_of (Flat id)).folder e) refl
outside (TmpFlat id) stays e = absurd stays
outside (Index host writer) stays e = elsewhere (first_byte (path_of (Index host writer)).folder e) refl
outside (Log host writer) stays e = elsewhere (first_byte (path_of (Log host writer)).folder e) refl
outside (Packed host writer) stays e = elsewhere (first_byte (path_of (Packed host writer)).folder e) refl
outside (TmpPacked host id) stays e = absurd stays

-- the item is there later, and its file is so long
abbrev IsLater : Tree → ℕ → Room → Item → List ℕ → Type 0
IsLater after n room item bytes = (new : Room) × (later : List ℕ) × (slice_get after.rooms n ≡ Some new) × HasItem new item later × (least_length room item bytes ≤ length later)

-- the step leaves each item that stays
abbrev pub LeavesItems : Tree → Step → Type 0
LeavesItems tree step = (told : Told) (after : Tree) → Tells step tree told after → ItemsStay tree after

adds_items : (tree : Tree) (step : Step) → OnlyAdds step → LeavesItems tree step
adds_items tree step adds told after t n room item bytes there stays h =
    let x = lengthens_told step tree told after adds t n room (path_of item) bytes there h.there in
    (x.0, x.1, x.2, record { is_item = h.is_item; there = x.3 }, omega (arith, x.4, at_least room item bytes h))

-- where the step doesn't name its file, the item is as it was
spared_item : (tree : Tree) (step : Step) (told : Told) (after : Tree) → Tells step tree told after → (n : ℕ) (room : Room) (item : Item) (bytes : List ℕ) → slice_get tree.rooms n ≡ Some room → HasItem room item bytes → (NamesFile step n (path_of item) → ⊥) → IsLater after n room item bytes
spared_item tree step told after t n room item bytes there h spares =
    let k = keeps_rooms step tree told after t n room there in
    (k.0, bytes, k.1, record { is_item = h.is_item; there = k.2.files (path_of item) spares ∙ h.there }, at_least room item bytes h)

-- an entry of an open writer is removed
removes_items : (tree : Tree) (room : ℕ) (file : Name) → LeavesItems tree (remove room openhosts file)
removes_items tree room file told after t n r item bytes there stays h = spared_item tree (remove room openhosts file) told after t n r item bytes there h (λ named. outside item stays named.1.0)

look_adds : (step : Step) → IsLook step → OnlyAdds step
look_adds (remove n folder file) look = absurd look
look_adds (replace n folder from to) look = absurd look
look_adds (cut n folder file len) look = absurd look
look_adds step look = tt

one_room : (a b : Room) (o : Option Room) → o ≡ Some a → o ≡ Some b → a ≡ b
one_room a b o p q = cc

-- ---- an index dropping is cut

module _ (tree : Tree) (number host writer count : ℕ) (named : IsHostAndWriter host writer) (landed : (room : Room) → slice_get tree.rooms number ≡ Some room → count ≡ landed_in room host writer) where
  mended : IsItem (Index host writer)
  mended = is_index host writer named.host_fits named.writer_fits

  mended_index : (told : Told) (after : Tree) → Tells (mend_step number host writer count) tree told after → (room : Room) (bytes : List ℕ) → slice_get tree.rooms number ≡ Some room → HasItem room (Index host writer) bytes → IsLater after number room (Index host writer) bytes
  mended_index told after t room bytes there h = elim (cut_told number (index_path host writer) (40 * count) tree told after t).either as (λ _. IsLater after number room (Index host writer) bytes) [
    | inr same ↦ (room, bytes, ap (λ (x : Tree). slice_get x.rooms number) same ∙ there, h, at_least room (Index host writer) bytes h)
    | inl c ↦ (
      c.new,
      take (40 * count) c.old,
      ap (λ (x : Tree). slice_get x.rooms number) c.gives ∙ slice_get-slice_set tree.rooms number c.room c.new c.has_room,
      record { is_item = h.is_item; there = c.now },
      omega (arith, landed room there, length-take-le (40 * count) c.old c.within),
    )
  ]

  mends_items : LeavesItems tree (mend_step number host writer count)
  mends_items told after t n room item bytes there stays h = elim (path_cases (path_of item) (index_path host writer)) as (λ _. IsLater after n room item bytes) [
    | inr two ↦ spared_item tree (mend_step number host writer count) told after t n room item bytes there h (λ names. two names.1.0 names.1.1)
    | inl same ↦ elim (cases_eq n number) as (λ _. IsLater after n room item bytes) [
      | inr other ↦ spared_item tree (mend_step number host writer count) told after t n room item bytes there h (λ names. other names.0)
      | inl at ↦
          let is : item ≡ Index host writer = same_items item (Index host writer) h.is_item mended same in
          subst (λ k. IsLater after k room item bytes) (sym at)
          (subst (λ x. IsLater after number room x bytes) (sym is)
          (mended_index told after t room bytes (ap (λ k. slice_get tree.rooms k) (sym at) ∙ there) (subst (λ x. HasItem room x bytes) is h)))
    ]
  ]

-- ---- a flattened index is installed, or a packed one

module _ (tree : Tree) (f : Flattening) (named : FitsNames f.makes) (small : f.id < 2 ^ 64) (differ : (room : Room) → slice_get tree.rooms f.room ≡ Some room → PathsDiffer room) where
  least_installed : (room : Room) (makes : Making) (id : ℕ) (bytes : List ℕ) → least_length room (installed_item makes id) bytes ≡ 0
  least_installed room making.Flat id bytes = refl
  least_installed room (making.Pack host writer) id bytes = refl

  no_stay : (makes : Making) (id : ℕ) → Stays (temporary_item makes id) → ⊥
  no_stay making.Flat id stays = stays
  no_stay (making.Pack host writer) id stays = stays

  -- the item that it becomes
  becomes : (told : Told) (after : Tree) → Tells (install_step f) tree told after → (room : Room) (bytes : List ℕ) → slice_get tree.rooms f.room ≡ Some room → HasItem room (installed_item f.makes f.id) bytes → IsLater after f.room room (installed_item f.makes f.id) bytes
  becomes told after t room bytes there h =
      let none : least_length room (installed_item f.makes f.id) bytes ≡ 0 = least_installed room f.makes f.id bytes in
      elim (replace_told f.room (temporary f) (installed f).file tree told after t).either as (λ _. IsLater after f.room room (installed_item f.makes f.id) bytes) [
        | inr same ↦ (room, bytes, ap (λ (x : Tree). slice_get x.rooms f.room) same ∙ there, h, omega (arith, none))
        | inl (inr c) ↦ (room, bytes, ap (λ (x : Tree). slice_get x.rooms f.room) c.2 ∙ there, h, omega (arith, none))
        | inl (inl c) ↦ (
          c.new,
          c.bytes,
          ap (λ (x : Tree). slice_get x.rooms f.room) c.gives ∙ slice_get-slice_set tree.rooms f.room c.room c.new c.has_room,
          record { is_item = h.is_item; there = ap (λ p. file_at c.new p) (sym (moved_to f.makes f.id)) ∙ c.now (differ c.room c.has_room) },
          omega (arith, none),
        )
      ]

  installs_items : LeavesItems tree (install_step f)
  installs_items told after t n room item bytes there stays h = elim (path_cases (path_of item) (temporary f)) as (λ _. IsLater after n room item bytes) [
    | inl from ↦ absurd (no_stay f.makes f.id (subst Stays (same_items item (temporary_item f.makes f.id) h.is_item (is_temporary f.makes f.id named small) from) stays))
    | inr two ↦ elim (path_cases (path_of item) (beside (temporary f) (installed f).file)) as (λ _. IsLater after n room item bytes) [
      | inr apart ↦ spared_item tree (install_step f) told after t n room item bytes there h (λ names. elim names.1 as (λ _. ⊥) [ inl p ↦ two p.0 p.1 | inr p ↦ apart p.0 p.1 ])
      | inl to ↦ elim (cases_eq n f.room) as (λ _. IsLater after n room item bytes) [
        | inr other ↦ spared_item tree (install_step f) told after t n room item bytes there h (λ names. other names.0)
        | inl at ↦
            let is : item ≡ installed_item f.makes f.id = same_items item (installed_item f.makes f.id) h.is_item (is_installed f.makes f.id named small) (to ∙ moved_to f.makes f.id) in
            subst (λ k. IsLater after k room item bytes) (sym at)
            (subst (λ x. IsLater after f.room room x bytes) (sym is)
            (becomes told after t room bytes (ap (λ k. slice_get tree.rooms k) (sym at) ∙ there) (subst (λ x. HasItem room x bytes) is h)))
      ]
    ]
  ]

-- ---- each step

module _ (l : Ledger) (old : State) (s : IsSoundFor l old) (caller : ℕ) where
  pub paths_differ : (n : ℕ) (room : Room) → slice_get s.shape.tree.rooms n ≡ Some room → PathsDiffer room
  paths_differ n room there = elim (s.shape.shaped.rooms n room there) as (λ _. PathsDiffer room) [
    | inl m ↦ m.paths_differ
    | inr c ↦ c.paths_differ
  ]

  flat_id_fits : (flat : ℕ) (f : Flattening) → flattening_at flat old.table.flattenings ≡ Some f → f.id < 2 ^ 64
  flat_id_fits flat f e =
      let drawn : IsOfSerial old.mount old.serial f.id =
      flattening_at_all (λ (x : Flattening). IsOfSerial old.mount old.serial x.id) flat old.table.flattenings f (all-unmap (IsOfSerial old.mount old.serial) (λ (x : Flattening). x.id) old.table.flattenings s.regular.flattenings.drawn) e in
      subst (λ i. i < 2 ^ 64) (sym drawn.3) (id_fits old.mount drawn.0 s.regular.mount_fits (omega (arith, drawn.2, s.regular.serial_fits)))

  its_acts : OfEachAct old.table (next_id old) caller (λ call step. Owes old caller call → LeavesItems s.shape.tree step)
  its_acts = record {
    looks = λ call step look owes. adds_items s.shape.tree step (look_adds step look);
    rooms = λ name owes. adds_items s.shape.tree (make_room name new_folders new_files) tt;
    enters = λ room host most owes. adds_items s.shape.tree (create room openhosts (open_path host (next_id old)).file) tt;
    hostdirs = λ writer row owes. adds_items s.shape.tree (hostdir_step row) tt;
    indices = λ writer row e owes. adds_items s.shape.tree (index_step row) tt;
    logs = λ writer row e owes. adds_items s.shape.tree (log_step row) tt;
    writes = λ writer row e at bytes owes. adds_items s.shape.tree (write_step row bytes) tt;
    flushes = λ writer row e owes. adds_items s.shape.tree (flush_step row) tt;
    log_syncs = λ writer row owes. adds_items s.shape.tree (sync_log_step row) tt;
    index_syncs = λ writer row owes. adds_items s.shape.tree (sync_index_step row) tt;
    metas = λ writer row owes. adds_items s.shape.tree (put_meta_step row) tt;
    exits = λ writer row e owes. removes_items s.shape.tree row.room (open_path row.host row.id).file;
    holds = λ room owes. adds_items s.shape.tree (hold_step room) tt;
    truncates = λ holder h e stamp size top item above owes. adds_items s.shape.tree (truncate_step h stamp size) tt;
    renames = λ holder h e to owes. adds_items s.shape.tree (rename_step h to) tt;
    releases = λ holder h e owes. adds_items s.shape.tree (release_step h) tt;
    starts = λ room f makes owes. adds_items s.shape.tree (start_step f) tt;
    packs = λ room host writer f makes numbers owes. adds_items s.shape.tree (start_step f) tt;
    puts = λ flat f e bytes owes. adds_items s.shape.tree (put_flat_step f bytes) tt;
    flat_syncs = λ flat f e owes. adds_items s.shape.tree (sync_flat_step f) tt;
    installs = λ flat f e owes. installs_items s.shape.tree f (named_of (s.flattenings flat f e).0 f.makes f.id (s.flattenings flat f e).2.begun) (flat_id_fits flat f e) (paths_differ f.room);
    dropping_syncs = λ room host writer is_log named owes. adds_items s.shape.tree (sync_dropping_step room host writer is_log) tt;
    mends = λ room host writer count named owes. mends_items s.shape.tree room host writer count named (λ r there. (in_room old room (MayMend host writer count) owes.1 s.shape.tree r s.shape.told there).landed);
    mend_metas = λ room host cover last named owes. adds_items s.shape.tree (mend_meta_step room host cover last) tt;
    buries = λ room host writer named owes. removes_items s.shape.tree room (open_path host writer).file;
    mend_holds = λ room owes. adds_items s.shape.tree (mend_hold_step room) tt;
  }

  acted_stays : (call : Call) (after : Tree) → Owes old caller call → ActsOn (λ step. Owes old caller call → LeavesItems s.shape.tree step) s.shape.tree after → ItemsStay s.shape.tree after
  acted_stays call after owes (inl same) = λ n room item bytes there stays h. (room, bytes, ap (λ (x : Tree). slice_get x.rooms n) same ∙ there, h, at_least room item bytes h)
  acted_stays call after owes (inr a) = a.holds owes a.told after a.tells

  -- Each step leaves the items that stay.
  pub step_stays : (new : State) (ask : Ask) (reply : Reply) → Owes old caller ask.call → IsStep old caller ask reply new → (after : Tree) × (new.store.tree ≡ Some after) × ItemsStay s.shape.tree after
  step_stays new ask reply owes step =
      let g = step_acts (λ call x. Owes old caller call → LeavesItems s.shape.tree x) old new caller ask reply s.shape.tree its_acts step s.shape.told in
      (g.0, g.1, acted_stays ask.call g.0 owes g.2)
