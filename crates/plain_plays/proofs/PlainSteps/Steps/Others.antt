-- The act of a writer's call leaves all of the tree but what is that writer's.
use Rattle.std.proofs.Common.{◌≡◌, ℕ, get_or, Option, Some, None, refl, sym, ap, ◌∙◌, inl, inr, subst}
use Rattle.std.specs.Prelude.{slice_get, Result}
use Rattle.std.proofs.lemmas.Bool.{cases_eq}
use Rattle.container_layout.specs.declared.items.Item.{Item}
use Rattle.container_layout.specs.declared.items.Item.TheVariants.{Access, Flat, Index, Log, Meta, OpenHost, Packed, TmpFlat, TmpPacked, Trunc}
use Rattle.container_layout.specs.Items.{IsItem}
use Rattle.container_layout.specs.Paths.{path_of}
use Rattle.container_layout.proofs.Facts.{elsewhere, same_items}
use Rattle.store_api.specs.declared.step.Answer.{Answer}
use Rattle.store_api.specs.declared.store.Trouble.{Trouble}
use Rattle.store_api.specs.declared.tree.Room.{Room}
use Rattle.store_api.specs.declared.tree.Tree.{Tree}
use Rattle.store_api.specs.Room.{has_folder}
use Rattle.store_api.specs.Step.{Step, create, cut, find_room, length_of, list_folder, make_folder, make_room, read_at, remove, remove_folder, rename_room, replace, rooms as all_rooms, sync, write_at}
use Rattle.store_laws.specs.Changes.{with_room}
use Rattle.store_laws.specs.Files.{file_at}
use Rattle.store_laws.specs.Naming.{IsPathOf, NamesFile, NamesFolder, NamesRoom}
use Rattle.store_laws.specs.Outcomes.{IsLook}
use Rattle.store_laws.specs.Tells.{Tells}
use Rattle.store_laws.proofs.Facts.{create_told, cut_told, keeps_rooms, look_told, make_folder_told, other_room, remove_folder_told, remove_told, rename_room_told, replace_told, sync_told, write_told}
use Rattle.mount_model.specs.declared.call.Call.{Call}
use Rattle.mount_model.specs.declared.call.Call.TheVariants.{Enter}
use Rattle.mount_model.specs.declared.row.Row.{Row}
use Rattle.mount_model.specs.Paths.{Name, metadata}
use Rattle.container_layout.specs.Paths.{openhosts}
use Rattle.mount_model.specs.State.{Table}
use Rattle.mount_model.specs.Table.{row_of}
use Rattle.mount_sound.proofs.Facts.{ActsOn, OfEachAct}
use Rattle.reader_laws.specs.Moments.{Dropping, IsNamed}
use Rattle.writer_laws.specs.Waiting.{IsOn}

-- ---- what is another's

abbrev pub its : ℕ → ℕ → ℕ → Dropping
its room host writer = record { room = room; host = host; writer = writer }

-- an item in the room of this number that shows in a plain machine, and is not of this writer
abbrev pub IsOthers : Dropping → ℕ → Item → Type 0
IsOthers d n (OpenHost host writer) = its n host writer ≡ d → ⊥
IsOthers d n (Index host writer) = its n host writer ≡ d → ⊥
IsOthers d n (Log host writer) = its n host writer ≡ d → ⊥
IsOthers d n (Trunc stamp size) = Unit {0}
IsOthers d n item = ⊥

abbrev pub MakesNoRoom : Step → Type 0
MakesNoRoom (make_room name folders files) = ⊥
MakesNoRoom step = Unit {0}

-- the step makes no room, and changes nothing of what is another's
pub record SparesOthers (d : Dropping) (step : Step) : Type 0 where
  pub makes : MakesNoRoom step
  pub names : (n : ℕ) → NamesRoom step n → ⊥
  pub folders : (n : ℕ) → NamesFolder step n openhosts → ⊥
  pub files : (n : ℕ) (item : Item) → IsItem item → IsOthers d n item → NamesFile step n (path_of item) → ⊥

-- ---- the call is one on this writer, or the one by which it enters

abbrev pub IsItsCall : ℕ → Dropping → Call → Type 0
IsItsCall next d (Enter room host capacity) = its room host next ≡ d
IsItsCall next d call = IsOn d.writer call

-- where the table has the writer, it is in this room and of this host
abbrev pub IsPlaced : Dropping → Table → Type 0
IsPlaced d table = (row : Row) → row_of d.writer table.writers ≡ Some row → its row.room row.host row.id ≡ d

spared_look : (d : Dropping) (step : Step) → IsLook step → SparesOthers d step
spared_look d (make_room name folders files) look = absurd look
spared_look d (rename_room n to) look = absurd look
spared_look d (make_folder m folder) look = absurd look
spared_look d (remove_folder m folder) look = absurd look
spared_look d (create m folder file) look = absurd look
spared_look d (remove m folder file) look = absurd look
spared_look d (replace m folder from to) look = absurd look
spared_look d (write_at m folder file at bytes) look = absurd look
spared_look d (cut m folder file len) look = absurd look
spared_look d (sync m folder file) look = absurd look
spared_look d step look = record { makes = tt; names = λ n x. x; folders = λ n x. x; files = λ n item is others x. x }

-- an item that is the writer's own is no other's
own_item : (d : Dropping) (n : ℕ) (item own : Item) → IsItem item → IsItem own → (IsOthers d n own → ⊥) → IsOthers d n item → IsPathOf (path_of own).folder (path_of own).file (path_of item) → ⊥
own_item d n item own is is_own not others at = not (subst (IsOthers d n) (same_items item own is is_own (λ i. record { folder = at.0 i; file = at.1 i })) others)

first_byte : (a b : Name) → a ≡ b → get_or a 0 0 ≡ get_or b 0 0
first_byte a b e = ap (λ (n : Name). get_or n 0 0) e

not_meta : (d : Dropping) (n : ℕ) (item : Item) → IsOthers d n item → (path_of item).folder ≡ metadata → ⊥
not_meta d n (OpenHost host writer) others e = elsewhere (first_byte _ _ e) refl
not_meta d n (Index host writer) others e = elsewhere (first_byte _ _ e) refl
not_meta d n (Log host writer) others e = elsewhere (first_byte _ _ e) refl
not_meta d n (Trunc stamp size) others e = elsewhere (first_byte _ _ e) refl
not_meta d n Access others e = others
not_meta d n (Meta last bytes stamp host writer) others e = others
not_meta d n (Flat id) others e = others
not_meta d n (TmpFlat id) others e = others
not_meta d n (Packed host writer) others e = others
not_meta d n (TmpPacked host id) others e = others

module _ (d : Dropping) (named : IsNamed d) where
  is_index : (room host writer : ℕ) → its room host writer ≡ d → IsItem (Index host writer)
  is_index room host writer same = subst (λ (x : Dropping). IsItem (Index x.host x.writer)) (sym same) named

  is_log : (room host writer : ℕ) → its room host writer ≡ d → IsItem (Log host writer)
  is_log room host writer same = record { in_range = tt; widths = (is_index room host writer same).widths }

  is_open : (room host writer : ℕ) → its room host writer ≡ d → IsItem (OpenHost host writer)
  is_open room host writer same = record { in_range = tt; widths = (is_index room host writer same).widths }

  -- a file of the writer in its room
  its_file : (room host writer : ℕ) (own : Item) → its room host writer ≡ d → IsItem own → ((n : ℕ) → n ≡ room → IsOthers d n own → ⊥) → (n : ℕ) (item : Item) → IsItem item → IsOthers d n item → (n ≡ room) × IsPathOf (path_of own).folder (path_of own).file (path_of item) → ⊥
  its_file room host writer own same is_own not n item is others at = own_item d n item own is is_own (not n at.0) others at.1

  same_there : (room host writer n : ℕ) → its room host writer ≡ d → n ≡ room → (its n host writer ≡ d → ⊥) → ⊥
  same_there room host writer n same here not = not (ap (λ k. its k host writer) here ∙ same)

  -- its act, by its step
  module _ (table : Table) (next caller : ℕ) (placed : IsPlaced d table) where
    row_place : (writer : ℕ) (row : Row) → row_of writer table.writers ≡ Some row → writer ≡ d.writer → its row.room row.host row.id ≡ d
    row_place writer row held on = placed row (subst (λ w. row_of w table.writers ≡ Some row) on held)

    pub spare_others : OfEachAct table next caller (λ call step. IsItsCall next d call → SparesOthers d step)
    spare_others = record {
      looks = λ call step look on. spared_look d step look;
      rooms = λ name on. absurd on;
      enters = λ room host most on. record { makes = tt; names = λ n x. x; folders = λ n x. x; files = its_file room host next (OpenHost host next) on (is_open room host next on) (λ n here not. same_there room host next n on here not) };
      hostdirs = λ writer row on. record { makes = tt; names = λ n x. x; folders = λ n x. elsewhere (first_byte _ _ x.1) refl; files = λ n item is others x. x };
      indices = λ writer row held on.
          let same = row_place writer row held on in
          record { makes = tt; names = λ n x. x; folders = λ n x. x; files = its_file row.room row.host row.id (Index row.host row.id) same (is_index row.room row.host row.id same) (λ n here not. same_there row.room row.host row.id n same here not) };
      logs = λ writer row held on.
          let same = row_place writer row held on in
          record { makes = tt; names = λ n x. x; folders = λ n x. x; files = its_file row.room row.host row.id (Log row.host row.id) same (is_log row.room row.host row.id same) (λ n here not. same_there row.room row.host row.id n same here not) };
      writes = λ writer row held at bytes on.
          let same = row_place writer row held on in
          record { makes = tt; names = λ n x. x; folders = λ n x. x; files = its_file row.room row.host row.id (Log row.host row.id) same (is_log row.room row.host row.id same) (λ n here not. same_there row.room row.host row.id n same here not) };
      flushes = λ writer row held on.
          let same = row_place writer row held on in
          record { makes = tt; names = λ n x. x; folders = λ n x. x; files = its_file row.room row.host row.id (Index row.host row.id) same (is_index row.room row.host row.id same) (λ n here not. same_there row.room row.host row.id n same here not) };
      log_syncs = λ writer row on. record { makes = tt; names = λ n x. x; folders = λ n x. x; files = λ n item is others x. x };
      index_syncs = λ writer row on. record { makes = tt; names = λ n x. x; folders = λ n x. x; files = λ n item is others x. x };
      metas = λ writer row on. record { makes = tt; names = λ n x. x; folders = λ n x. x; files = λ n item is others x. not_meta d n item others x.1.0 };
      exits = λ writer row held on.
          let same = row_place writer row held on in
          record { makes = tt; names = λ n x. x; folders = λ n x. x; files = its_file row.room row.host row.id (OpenHost row.host row.id) same (is_open row.room row.host row.id same) (λ n here not. same_there row.room row.host row.id n same here not) };
      holds = λ room on. absurd on;
      truncates = λ holder h held stamp size top item above on. absurd on;
      renames = λ holder h held to on. absurd on;
      releases = λ holder h held on. absurd on;
      starts = λ room f makes on. absurd on;
      puts = λ flat f held bytes on. absurd on;
      flat_syncs = λ flat f held on. absurd on;
      installs = λ flat f held on. absurd on;
      packs = λ room host writer f makes numbers on. absurd on;
      dropping_syncs = λ room host writer is_log numbers on. absurd on;
      mends = λ room host writer count numbers on. absurd on;
      mend_metas = λ room host cover last numbers on. absurd on;
      buries = λ room host writer numbers on. absurd on;
      mend_holds = λ room on. absurd on;
    }

-- ---- what such an act leaves of a tree

-- of this room all that is another's is as it was
pub record SameRoomBut (d : Dropping) (n : ℕ) (room new : Room) : Type 0 where
  pub name : new.name ≡ room.name
  pub opens : has_folder new openhosts ≡ has_folder room openhosts
  pub files : (item : Item) → IsItem item → IsOthers d n item → file_at new (path_of item) ≡ file_at room (path_of item)

abbrev pub SameAtBut : Dropping → ℕ → Option Room → Option Room → Type 0
SameAtBut d n None None = Unit {0}
SameAtBut d n (Some room) (Some new) = SameRoomBut d n room new
SameAtBut d n _ _ = ⊥

pub same_at_all : (d : Dropping) (n : ℕ) (o : Option Room) → SameAtBut d n o o
same_at_all d n None = tt
same_at_all d n (Some room) = record { name = refl; opens = refl; files = λ item is others. refl }

absent_same : (tree after : Tree) (n : ℕ) → after ≡ tree → slice_get tree.rooms n ≡ None → slice_get after.rooms n ≡ None
absent_same tree after n same none = ap (λ (t : Tree). slice_get t.rooms n) same ∙ none

absent_by : (tree after : Tree) (m n : ℕ) (room changed : Room) → slice_get tree.rooms m ≡ Some room → after ≡ with_room tree m changed → slice_get tree.rooms n ≡ None → slice_get after.rooms n ≡ None
absent_by tree after m n room changed there gives none = elim (cases_eq n m) as (λ _. slice_get after.rooms n ≡ None) [
  | inl here ↦ absurd (let clash : Some room ≡ None = sym there ∙ ap (λ k. slice_get tree.rooms k) (sym here) ∙ none in cc)
  | inr other ↦ ap (λ (t : Tree). slice_get t.rooms n) gives ∙ other_room tree m n changed other ∙ none
]

-- where no room is made, one that isn't there isn't later
step_absent : (step : Step) (tree : Tree) (told : Result Answer Trouble) (after : Tree) (n : ℕ) → MakesNoRoom step → Tells step tree told after → slice_get tree.rooms n ≡ None → slice_get after.rooms n ≡ None
step_absent (make_room name folders files) tree told after n makes t none = absurd makes
step_absent (rename_room m to) tree told after n makes t none = elim (rename_room_told m to tree told after t).either as (λ _. slice_get after.rooms n ≡ None) [
  | inl c ↦ absent_by tree after m n c.room c.new c.has_room c.gives none
  | inr same ↦ absent_same tree after n same none
]
step_absent (make_folder m folder) tree told after n makes t none = elim (make_folder_told m folder tree told after t).either as (λ _. slice_get after.rooms n ≡ None) [
  | inl c ↦ absent_by tree after m n c.room c.new c.has_room c.gives none
  | inr same ↦ absent_same tree after n same none
]
step_absent (remove_folder m folder) tree told after n makes t none = elim (remove_folder_told m folder tree told after t).either as (λ _. slice_get after.rooms n ≡ None) [
  | inl c ↦ absent_by tree after m n c.room c.new c.has_room c.gives none
  | inr same ↦ absent_same tree after n same none
]
step_absent (create m folder file) tree told after n makes t none = elim (create_told m (record { folder = folder; file = file }) tree told after t).either as (λ _. slice_get after.rooms n ≡ None) [
  | inl c ↦ absent_by tree after m n c.room c.new c.has_room c.gives none
  | inr same ↦ absent_same tree after n same none
]
step_absent (remove m folder file) tree told after n makes t none = elim (remove_told m (record { folder = folder; file = file }) tree told after t).either as (λ _. slice_get after.rooms n ≡ None) [
  | inl c ↦ absent_by tree after m n c.room c.new c.has_room c.gives none
  | inr same ↦ absent_same tree after n same none
]
step_absent (replace m folder from to) tree told after n makes t none = elim (replace_told m (record { folder = folder; file = from }) to tree told after t).either as (λ _. slice_get after.rooms n ≡ None) [
  | inl (inl c) ↦ absent_by tree after m n c.room c.new c.has_room c.gives none
  | inl (inr c) ↦ absent_same tree after n c.2 none
  | inr same ↦ absent_same tree after n same none
]
step_absent (write_at m folder file at bytes) tree told after n makes t none = elim (write_told m (record { folder = folder; file = file }) at bytes tree told after t) as (λ _. slice_get after.rooms n ≡ None) [
  | inl w ↦ let c = w.1 in absent_by tree after m n c.room c.new c.has_room c.gives none
  | inr (u, inl same) ↦ absent_same tree after n same none
  | inr (u, inr p) ↦ let c = p.2 in absent_by tree after m n c.room c.new c.has_room c.gives none
]
step_absent (cut m folder file len) tree told after n makes t none = elim (cut_told m (record { folder = folder; file = file }) len tree told after t).either as (λ _. slice_get after.rooms n ≡ None) [
  | inl c ↦ absent_by tree after m n c.room c.new c.has_room c.gives none
  | inr same ↦ absent_same tree after n same none
]
step_absent (sync m folder file) tree told after n makes t none = elim (sync_told m (record { folder = folder; file = file }) tree told after t).either as (λ _. slice_get after.rooms n ≡ None) [
  | inl c ↦ absent_by tree after m n c.room c.new c.has_room c.gives none
  | inr same ↦ absent_same tree after n same none
]
step_absent all_rooms tree told after n makes t none = absent_same tree after n (look_told all_rooms tree told after tt t) none
step_absent (find_room name) tree told after n makes t none = absent_same tree after n (look_told (find_room name) tree told after tt t) none
step_absent (list_folder m folder) tree told after n makes t none = absent_same tree after n (look_told (list_folder m folder) tree told after tt t) none
step_absent (length_of m folder file) tree told after n makes t none = absent_same tree after n (look_told (length_of m folder file) tree told after tt t) none
step_absent (read_at m folder file at len) tree told after n makes t none = absent_same tree after n (look_told (read_at m folder file at len) tree told after tt t) none

module _ (d : Dropping) (tree after : Tree) (n : ℕ) where
  step_leaves : (step : Step) (told : Result Answer Trouble) → SparesOthers d step → Tells step tree told after → (o : Option Room) → slice_get tree.rooms n ≡ o → SameAtBut d n o (slice_get after.rooms n)
  step_leaves step told spares t None none = subst (SameAtBut d n None) (sym (step_absent step tree told after n spares.makes t none)) tt
  step_leaves step told spares t (Some room) there =
      let k = keeps_rooms step tree told after t n room there in
      subst (SameAtBut d n (Some room)) (sym k.1) (record {
        name = k.2.name (spares.names n);
        opens = k.2.folders openhosts (spares.folders n);
        files = λ item is others. k.2.files (path_of item) (spares.files n item is others);
      })

  -- whatever such act it was
  pub acts_leave_others : ActsOn (SparesOthers d) tree after → SameAtBut d n (slice_get tree.rooms n) (slice_get after.rooms n)
  acts_leave_others (inl same) = subst (λ (t : Tree). SameAtBut d n (slice_get tree.rooms n) (slice_get t.rooms n)) (sym same) (same_at_all d n (slice_get tree.rooms n))
  acts_leave_others (inr a) = step_leaves a.step a.told a.holds a.tells (slice_get tree.rooms n) refl
