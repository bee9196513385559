-- A tree keeps its shape through each act, whatever it tells.
use Rattle.std.proofs.Common.{◌≡◌, ℕ, ◌≤◌, Bool, true, false, ◌||◌, not, List, [], ◌∷◌, ◌++◌, take, slice_get, Some, refl, sym, ap, ◌∙◌, ◌⊎◌, inl, inr, subst, if◌then◌else◌}
use Rattle.std.specs.Prelude.{Result, Ok, Err}
use Rattle.std.proofs.lemmas.List.Folds.{list_any-append}
use Rattle.plfs_types.specs.Names.{IsLogicalName}
use Rattle.plfs_types.specs.Bytes.{overwritten}
use Rattle.plfs_types.specs.declared.names.Path.{Path}
use Rattle.container_layout.specs.declared.items.Item.{Item}
use Rattle.container_layout.specs.Paths.{IsAt}
use Rattle.store_api.specs.declared.tree.Room.{Room}
use Rattle.store_api.specs.declared.tree.Tree.{Tree}
use Rattle.store_api.specs.declared.step.Answer.{Answer}
use Rattle.store_api.specs.declared.step.Answer.TheVariants.{Old, NoFolder}
use Rattle.store_api.specs.declared.store.Trouble.{Trouble}
use Rattle.store_api.specs.declared.store.Trouble.TheVariants.{Fault, NoMemory}
use Rattle.store_api.specs.Step.{Step, make_room, rename_room, make_folder, remove_folder, create, remove, replace, write_at, cut, sync}
use Rattle.store_api.specs.Names.{same_name}
use Rattle.store_api.specs.Room.{stays, becomes, has_folder, listing, folder_made, removed_if_empty, folder_removed}
use Rattle.store_api.specs.Effect.{Effect, tree_after, or_no_room}
use Rattle.store_api.specs.Leaves.{not_made, whole, in_part, with_first}
use Rattle.store_laws.specs.Files.{file_at, AreTwo, SameButFile}
use Rattle.store_laws.specs.Differ.{is_listed, PathsDiffer}
use Rattle.store_laws.specs.Tells.{Tells}
use Rattle.store_laws.specs.Changes.{with_room, beside, Wrote, FolderMade, FolderRemoved}
use Rattle.store_laws.specs.Outcomes.{IsLook}
use Rattle.store_laws.proofs.Facts.{look_told, create_told, remove_told, replace_told, make_room_told, rename_room_told, write_told, cut_told, sync_told, with_folder, make_folder_cases, remove_folder_cases, changed_room, none_kept, prefix_take}
use Rattle.mount_model.specs.Paths.{Name, new_folders, new_files, access_path}
use Rattle.container_layout.specs.Paths.{openhosts}
use Rattle.mount_sound.specs.Container.{IsContainerFolder, MayHold, IsOfId, IsItemFile}
use Rattle.mount_sound.specs.Shape.{IsDrawnBy}
use Rattle.mount_sound.proofs.Shapes.Items.{MayHoldAny, may_lose}
use Rattle.mount_sound.proofs.Shapes.Containers.{ids_wider, container_filed, container_removed, container_moved, container_foldered, container_closed, container_renamed, container_made}
use Rattle.mount_sound.proofs.Shapes.Trees.{IsShapedFor, shape_later, shape_changed, shape_renamed, shape_added}

-- ---- the folders after one was made

folder_whole : (tree : Tree) (n : ℕ) (folder : Name) (room : Room) → slice_get tree.rooms n ≡ Some room → has_folder room folder ≡ false → tree_after tree (make_folder n folder) ≡ with_room tree n (with_folder room folder)
folder_whole tree n folder room there none =
    ap (λ found. (or_no_room tree n (λ r. folder_made r folder) found).tree) there
    ∙ ap (λ b. with_room tree n (if b then stays room (Old 0) else becomes (with_folder room folder)).room) none

-- a room of the tree has become one room alone
one_room : (tree : Tree) (n : ℕ) (room a b : Room) → slice_get tree.rooms n ≡ Some room → with_room tree n a ≡ with_room tree n b → a ≡ b
one_room tree n room a b there trees =
    let rooms : Some a ≡ Some b = sym (changed_room tree n room a there) ∙ ap (λ (t : Tree). slice_get t.rooms n) trees ∙ changed_room tree n room b there in
    cc

new_folders_are : (tree : Tree) (n : ℕ) (folder : Name) (made : FolderMade tree n folder (tree_after tree (make_folder n folder))) → made.new.folders ≡ made.room.folders ++ folder ∷ []
new_folders_are tree n folder made =
    ap (λ (r : Room). r.folders) (one_room tree n made.room made.new (with_folder made.room folder) made.has_room (sym made.gives ∙ folder_whole tree n folder made.room made.has_room made.none))

neither : (a b : Bool) → (a || b) ≡ false → a ≡ false
neither true b e = absurd (cc)
neither false b e = refl

no_more : (a b : Bool) → a ≡ false → b ≡ false → (a || b) ≡ false
no_more true b e f = absurd (cc)
no_more false b e f = f

top_apart : (room : Room) (folder : Name) → has_folder room folder ≡ false → same_name folder [] ≡ false
top_apart room [] none = absurd (cc)
top_apart room (x ∷ xs) none = refl

top_still_unlisted : (room : Room) (folder : Name) → has_folder room folder ≡ false → is_listed [] room.folders ≡ false → is_listed [] (room.folders ++ folder ∷ []) ≡ false
top_still_unlisted room folder none unlisted =
    list_any-append (λ other. same_name other []) room.folders (folder ∷ []) ∙ no_more (is_listed [] room.folders) (same_name folder [] || false) unlisted (no_more (same_name folder []) false (top_apart room folder none) refl)

-- ---- the folders after one was removed

fewer_names : (room : Room) (folder : Name) (names : List Name) → is_listed [] room.folders ≡ false → is_listed [] (removed_if_empty room folder names).room.folders ≡ false
fewer_names room folder [] unlisted = none_kept (λ other. same_name other []) (λ name. not (same_name name folder)) room.folders unlisted
fewer_names room folder (least ∷ names) unlisted = unlisted

top_unlisted_yet : (room : Room) (folder : Name) → is_listed [] room.folders ≡ false → is_listed [] (folder_removed room folder).room.folders ≡ false
top_unlisted_yet room folder unlisted = elim (has_folder room folder) as (λ b. is_listed [] (if b then removed_if_empty room folder (listing room folder) else stays room NoFolder).room.folders ≡ false) [
  | true ↦ fewer_names room folder (listing room folder) unlisted
  | false ↦ unlisted
]

removed_room : (tree : Tree) (n : ℕ) (folder : Name) (gone : FolderRemoved tree n folder (tree_after tree (remove_folder n folder))) → gone.new ≡ (folder_removed gone.room folder).room
removed_room tree n folder gone =
    one_room tree n gone.room gone.new (folder_removed gone.room folder).room gone.has_room
    (sym gone.gives ∙ ap (λ found. (or_no_room tree n (λ r. folder_removed r folder) found).tree) gone.has_room)

-- a step that no write is was made whole, or the tree is as before
whole_or_not : (step : Step) (tree : Tree) → ((k : ℕ) → with_first k step ≡ step) → (told : Result Answer Trouble) (after : Tree) → Tells step tree told after → (after ≡ tree_after tree step) ⊎ (after ≡ tree)
whole_or_not step tree all (Ok answer) after t = inl (sym (ap (λ (x : Effect). x.tree) t))
whole_or_not step tree all (Err Fault) after (not_made e) = inr e
whole_or_not step tree all (Err Fault) after (whole e) = inl e
whole_or_not step tree all (Err Fault) after (in_part k m e) = inl (e ∙ ap (λ s. tree_after tree s) (all k))
whole_or_not step tree all (Err NoMemory) after t = inr t

-- ---- the acts

module _ (last last' marks mount : ℕ) (tree : Tree) (grows : last ≤ last') (s : IsShapedFor last marks mount tree) (told : Result Answer Trouble) (after : Tree) where
  stays_shaped : after ≡ tree → IsShapedFor last' marks mount after
  stays_shaped same = subst (IsShapedFor last' marks mount) (sym same) (shape_later last last' marks mount tree grows s)

  pub look_shape : (step : Step) → IsLook step → Tells step tree told after → IsShapedFor last' marks mount after
  look_shape step look t = stays_shaped (look_told step tree told after look t)

  -- an item's file is made, where its id was drawn
  pub create_shape : (n : ℕ) (path : Path) (item : Item) → (n ≡ marks → ⊥) → IsAt path item → MayHold item [] → ((room : Room) → slice_get tree.rooms n ≡ Some room → IsOfId (IsDrawnBy last' tree) item)
      → Tells (create n path.folder path.file) tree told after → IsShapedFor last' marks mount after
  create_shape n path item apart at holds of t = elim ((create_told n path tree told after t).either) as (λ _. IsShapedFor last' marks mount after) [
    | inl c ↦ subst (IsShapedFor last' marks mount) (sym c.gives)
        (shape_changed last last' marks mount n tree c.room c.new grows s apart c.has_room c.others.name
        (λ more was. container_filed (IsDrawnBy last' (with_room tree n c.new)) c.room c.new path c.others c.differ was []
        (record { item = item; is_at = at; holds = holds; id = ids_wider (IsDrawnBy last' tree) (IsDrawnBy last' (with_room tree n c.new)) item more (of c.room c.has_room); housed = c.folder }) c.now))
    | inr same ↦ stays_shaped same
  ]

  -- a file that was there has other bytes, which its item may hold
  refiled_shape : (n : ℕ) (path : Path) (room new : Room) (old bytes : List ℕ) → (n ≡ marks → ⊥) → ((item : Item) → IsAt path item → MayHold item old → MayHold item bytes)
      → slice_get tree.rooms n ≡ Some room → file_at room path ≡ Some old → file_at new path ≡ Some bytes → SameButFile path room new → (PathsDiffer room → PathsDiffer new) → after ≡ with_room tree n new → IsShapedFor last' marks mount after
  refiled_shape n path room new old bytes apart holds has_room there now others differ gives =
      subst (IsShapedFor last' marks mount) (sym gives)
      (shape_changed last last' marks mount n tree room new grows s apart has_room others.name
      (λ more was.
      let f = was.files path old there in
      container_filed (IsDrawnBy last' (with_room tree n new)) room new path others differ was bytes
      (record { item = f.item; is_at = f.is_at; holds = holds f.item f.is_at f.holds; id = f.id; housed = f.housed }) now))

  wrote_shape : (n : ℕ) (path : Path) (at : ℕ) (bytes : List ℕ) → (n ≡ marks → ⊥) → MayHoldAny path → Wrote tree n path at bytes after → IsShapedFor last' marks mount after
  wrote_shape n path at bytes apart any w =
      refiled_shape n path w.room w.new w.old (overwritten w.old at bytes) apart (λ item is_at holds. any item w.old (overwritten w.old at bytes) is_at holds) w.has_room w.there w.now w.others w.differ w.gives

  -- bytes are written to a file that may hold any
  pub write_shape : (n : ℕ) (path : Path) (at : ℕ) (bytes : List ℕ) → (n ≡ marks → ⊥) → MayHoldAny path → Tells (write_at n path.folder path.file at bytes) tree told after → IsShapedFor last' marks mount after
  write_shape n path at bytes apart any t = elim (write_told n path at bytes tree told after t) as (λ _. IsShapedFor last' marks mount after) [
    | inl done ↦ wrote_shape n path at bytes apart any done.1
    | inr rest ↦ elim (rest.1) as (λ _. IsShapedFor last' marks mount after) [
      | inl same ↦ stays_shaped same
      | inr part ↦ wrote_shape n path at (take part.0 bytes) apart any part.2
    ]
  ]

  -- a file is cut
  pub cut_shape : (n : ℕ) (path : Path) (len : ℕ) → (n ≡ marks → ⊥) → Tells (cut n path.folder path.file len) tree told after → IsShapedFor last' marks mount after
  cut_shape n path len apart t = elim ((cut_told n path len tree told after t).either) as (λ _. IsShapedFor last' marks mount after) [
    | inl c ↦ refiled_shape n path c.room c.new c.old (take len c.old) apart (λ item is_at holds. may_lose item (take len c.old) c.old (prefix_take len c.old) holds) c.has_room c.there c.now c.others c.differ c.gives
    | inr same ↦ stays_shaped same
  ]

  -- a file is synced
  pub sync_shape : (n : ℕ) (path : Path) → (n ≡ marks → ⊥) → Tells (sync n path.folder path.file) tree told after → IsShapedFor last' marks mount after
  sync_shape n path apart t = elim ((sync_told n path tree told after t).either) as (λ _. IsShapedFor last' marks mount after) [
    | inl c ↦ refiled_shape n path c.room c.new c.old c.old apart (λ item is_at holds. holds) c.has_room c.there c.now c.others c.differ c.gives
    | inr same ↦ stays_shaped same
  ]

  -- a file gets another name in its folder, and neither was `access`
  pub replace_shape : (n : ℕ) (path : Path) (to : Name) → (n ≡ marks → ⊥) → AreTwo access_path path → AreTwo access_path (beside path to)
      → ((allowed : ℕ → Type 0) → ((id : ℕ) → IsDrawnBy last' tree id → allowed id) → (room : Room) → slice_get tree.rooms n ≡ Some room → (bytes : List ℕ) → IsItemFile allowed room path bytes → IsItemFile allowed room (beside path to) bytes)
      → Tells (replace n path.folder path.file to) tree told after → IsShapedFor last' marks mount after
  replace_shape n path to apart from_apart to_apart becomes t = elim ((replace_told n path to tree told after t).either) as (λ _. IsShapedFor last' marks mount after) [
    | inl replaced ↦ elim replaced as (λ _. IsShapedFor last' marks mount after) [
      | inl m ↦ subst (IsShapedFor last' marks mount) (sym m.gives)
          (shape_changed last last' marks mount n tree m.room m.new grows s apart m.has_room m.same_name
          (λ more was. container_moved (IsDrawnBy last' (with_room tree n m.new)) tree n path to after m from_apart to_apart (becomes (IsDrawnBy last' (with_room tree n m.new)) more m.room m.has_room m.bytes) was))
      | inr same ↦ stays_shaped same.2
    ]
    | inr same ↦ stays_shaped same
  ]

  -- a file is removed, and not `access`
  pub remove_shape : (n : ℕ) (path : Path) → (n ≡ marks → ⊥) → AreTwo access_path path → Tells (remove n path.folder path.file) tree told after → IsShapedFor last' marks mount after
  remove_shape n path apart two t = elim ((remove_told n path tree told after t).either) as (λ _. IsShapedFor last' marks mount after) [
    | inl r ↦ subst (IsShapedFor last' marks mount) (sym r.gives)
        (shape_changed last last' marks mount n tree r.room r.new grows s apart r.has_room r.others.name
        (λ more was. container_removed (IsDrawnBy last' (with_room tree n r.new)) r.room r.new path r.others r.differ was two r.gone))
    | inr same ↦ stays_shaped same
  ]

  -- a folder is made that a container may have
  pub make_folder_shape : (n : ℕ) (folder : Name) → (n ≡ marks → ⊥) → IsContainerFolder folder → Tells (make_folder n folder) tree told after → IsShapedFor last' marks mount after
  make_folder_shape n folder apart known t = elim (whole_or_not (make_folder n folder) tree (λ k. refl) told after t) as (λ _. IsShapedFor last' marks mount after) [
    | inl all ↦ elim (make_folder_cases tree n folder) as (λ _. IsShapedFor last' marks mount after) [
      | inl made ↦
          let f : FolderMade tree n folder (tree_after tree (make_folder n folder)) = made.1 in
          subst (IsShapedFor last' marks mount) (sym (all ∙ f.gives))
          (shape_changed last last' marks mount n tree f.room f.new grows s apart f.has_room f.others.name
          (λ more was. container_foldered (IsDrawnBy last' (with_room tree n f.new)) f.room f.new folder known f.now f.others f.differ
          (ap (λ folders. is_listed [] folders) (new_folders_are tree n folder f) ∙ top_still_unlisted f.room folder f.none was.top_unlisted)
          was))
      | inr stays ↦ stays_shaped (all ∙ stays.same)
    ]
    | inr same ↦ stays_shaped same
  ]

  -- the folder of who has the container open is removed
  pub close_shape : (n : ℕ) → (n ≡ marks → ⊥) → Tells (remove_folder n openhosts) tree told after → IsShapedFor last' marks mount after
  close_shape n apart t = elim (whole_or_not (remove_folder n openhosts) tree (λ k. refl) told after t) as (λ _. IsShapedFor last' marks mount after) [
    | inl all ↦ elim (remove_folder_cases tree n openhosts) as (λ _. IsShapedFor last' marks mount after) [
      | inl removed ↦
          let f : FolderRemoved tree n openhosts (tree_after tree (remove_folder n openhosts)) = removed.1 in
          subst (IsShapedFor last' marks mount) (sym (all ∙ f.gives))
          (shape_changed last last' marks mount n tree f.room f.new grows s apart f.has_room f.others.name
          (λ more was. container_closed (IsDrawnBy last' (with_room tree n f.new)) f.room f.new f.others f.differ f.empty
          (ap (λ (r : Room). is_listed [] r.folders) (removed_room tree n openhosts f) ∙ top_unlisted_yet f.room openhosts was.top_unlisted)
          was))
      | inr stays ↦ stays_shaped (all ∙ stays.same)
    ]
    | inr same ↦ stays_shaped same
  ]

  -- a container gets another logical name
  pub rename_shape : (n : ℕ) (to : Name) → (n ≡ marks → ⊥) → IsLogicalName to → Tells (rename_room n to) tree told after → IsShapedFor last' marks mount after
  rename_shape n to apart logical t = elim ((rename_room_told n to tree told after t).either) as (λ _. IsShapedFor last' marks mount after) [
    | inl r ↦ subst (IsShapedFor last' marks mount) (sym r.gives)
        (shape_renamed last last' marks mount n tree r.room r.new grows s apart r.has_room (λ k room there named. r.free k room there (named ∙ r.named))
        (λ was. container_renamed (IsDrawnBy last' (with_room tree n r.new)) r.room r.new (subst IsLogicalName (sym r.named) logical) r.same_folders r.same_files was))
    | inr same ↦ stays_shaped same
  ]

  -- a container is made
  pub make_room_shape : last ≡ last' → (name : Name) → IsLogicalName name → Tells (make_room name new_folders new_files) tree told after → IsShapedFor last' marks mount after
  make_room_shape still name logical t = elim ((make_room_told name new_folders new_files tree told after t).either) as (λ _. IsShapedFor last' marks mount after) [
    | inl m ↦ subst (IsShapedFor last' marks mount) (sym m.gives)
        (subst (λ l. IsShapedFor l marks mount (record { rooms = tree.rooms ++ m.new ∷ [] })) still
        (shape_added last marks mount tree m.new s (λ k room there named. m.free k room there (named ∙ m.named))
        (container_made (IsDrawnBy last (record { rooms = tree.rooms ++ m.new ∷ [] })) tree name after m logical)))
    | inr same ↦ stays_shaped same
  ]
