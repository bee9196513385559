-- Which acts leave a file as it is, and that most leave one that is no dropping.
use Rattle.std.proofs.Common.{◌≡◌, ℕ, List, get_or, Some, None, refl, ap, sym, ◌∙◌, ◌⊎◌, inl, inr}
use Rattle.std.specs.Prelude.{slice_get}
use Rattle.std.proofs.lemmas.Bool.{cases_eq}
use Rattle.plfs_types.specs.declared.names.Path.{Path}
use Rattle.container_layout.proofs.Facts.{elsewhere}
use Rattle.store_api.specs.declared.tree.Room.{Room}
use Rattle.store_api.specs.declared.tree.Tree.{Tree}
use Rattle.store_api.specs.Step.{Step, make_folder, remove_folder, create, remove, replace, write_at, cut, sync}
use Rattle.store_laws.specs.Changes.{Created}
use Rattle.store_laws.specs.Files.{file_at}
use Rattle.store_laws.specs.Naming.{IsPathOf, NamesFile}
use Rattle.store_laws.specs.Outcomes.{IsLook}
use Rattle.store_laws.specs.Tells.{Tells}
use Rattle.store_laws.proofs.Facts.{changed_room, create_told, keeps_rooms, other_room}
use Rattle.mount_model.specs.declared.call.Call.{Call}
use Rattle.mount_model.specs.declared.call.Call.TheVariants.{PutFlat, InstallFlat}
use Rattle.mount_model.specs.declared.row.Flattening.{Flattening}
use Rattle.mount_model.specs.Flattening.{put_flat_step, install_step}
use Rattle.mount_model.specs.Making.{Told}
use Rattle.mount_model.specs.Paths.{Name, index_path, log_path, meta_path, open_path}
use Rattle.container_layout.specs.Paths.{openhosts}
use Rattle.mount_model.specs.State.{Table}
use Rattle.mount_model.specs.Table.{flattening_at}
use Rattle.mount_sound.proofs.Calls.Acting.{OfEachAct, ActsOn}
use Rattle.mount_sound.proofs.Calls.Aside.{one_room}
use Rattle.mount_sound.proofs.Indices.FlatPaths.{IsFlattenings, index_no_flattenings, log_no_flattenings, not_flattenings, other_folder}

-- ---- a step that leaves a file

abbrev pub IsCreate : Step → Type 0
IsCreate (create n folder file) = Unit {0}
IsCreate step = ⊥

-- a file of this path stays as it is: the step doesn't name it, or only makes files that aren't there
abbrev pub LeavesFile : ℕ → Path → Step → Type 0
LeavesFile n path step = (NamesFile step n path → ⊥) ⊎ IsCreate step

module _ (n : ℕ) (path : Path) (tree : Tree) (room : Room) (there : slice_get tree.rooms n ≡ Some room) (bytes : List ℕ) (stands : file_at room path ≡ Some bytes) where
  -- the file stands in the tree after it
  abbrev pub StandsAfter : Tree → Type 0
  StandsAfter after = (new : Room) → slice_get after.rooms n ≡ Some new → file_at new path ≡ Some bytes

  pub as_before : (after : Tree) → after ≡ tree → StandsAfter after
  as_before after same new now = ap (λ r. file_at r path) (one_room new room (slice_get tree.rooms n) (ap (λ (t : Tree). slice_get t.rooms n) (sym same) ∙ now) there) ∙ stands

  -- a file that was made is another one
  not_made : (m : ℕ) (made : Path) (after : Tree) → Created tree m made after → StandsAfter after
  not_made m made after c new now = elim (cases_eq n m) as (λ _. file_at new path ≡ Some bytes) [
    | inl same ↦
        let was : c.room ≡ room = one_room c.room room (slice_get tree.rooms m) c.has_room (ap (λ k. slice_get tree.rooms k) (sym same) ∙ there) in
        let is : c.new ≡ new = one_room c.new new (slice_get after.rooms m) (ap (λ (t : Tree). slice_get t.rooms m) c.gives ∙ changed_room tree m c.room c.new c.has_room) (ap (λ k. slice_get after.rooms k) (sym same) ∙ now) in
        ap (λ r. file_at r path) (sym is) ∙ c.others.files path (λ folder file. not_there c.room was (λ i. record { folder = folder i; file = file i }) c.none) ∙ ap (λ r. file_at r path) was ∙ stands
    | inr other ↦ as_before (record { rooms = tree.rooms }) refl new (sym (other_room tree m n c.new other) ∙ ap (λ (t : Tree). slice_get t.rooms n) (sym c.gives) ∙ now)
  ]
    where
      not_there : (r : Room) → r ≡ room → path ≡ made → file_at r made ≡ None → ⊥
      not_there r was same none = let e : file_at r made ≡ Some bytes = ap (λ p. file_at r p) (sym same) ∙ ap (λ x. file_at x path) was ∙ stands in cc

  unnamed : (step : Step) (told : Told) (after : Tree) → (NamesFile step n path → ⊥) → Tells step tree told after → StandsAfter after
  unnamed step told after not t new now =
      let k = keeps_rooms step tree told after t n room there in
      ap (λ r. file_at r path) (one_room new k.0 (slice_get after.rooms n) now k.1) ∙ k.2.files path not ∙ stands

  left : (step : Step) (told : Told) (after : Tree) → LeavesFile n path step → Tells step tree told after → StandsAfter after
  left step told after (inl not) t = unnamed step told after not t
  left (create m folder file) told after (inr made) t = elim (create_told m (record { folder = folder; file = file }) tree told after t).either as (λ _. StandsAfter after) [
    | inl c ↦ not_made m (record { folder = folder; file = file }) after c
    | inr same ↦ as_before after same
  ]
  left step told after (inr made) t = absurd made

  -- whatever act left the file, it stands
  pub acts_leave : (after : Tree) → ActsOn (LeavesFile n path) tree after → StandsAfter after
  acts_leave after (inl same) = as_before after same
  acts_leave after (inr a) = left a.step a.told after a.holds a.tells

-- ---- a file that is no dropping

look_leaves : (n : ℕ) (path : Path) (step : Step) → IsLook step → LeavesFile n path step
look_leaves n path (make_folder m folder) look = absurd look
look_leaves n path (remove_folder m folder) look = absurd look
look_leaves n path (create m folder file) look = absurd look
look_leaves n path (remove m folder file) look = absurd look
look_leaves n path (replace m folder from to) look = absurd look
look_leaves n path (write_at m folder file at bytes) look = absurd look
look_leaves n path (cut m folder file len) look = absurd look
look_leaves n path (sync m folder file) look = absurd look
look_leaves n path step look = inl (λ named. named)

-- the path is of no log or index dropping, and of no entry of an open writer
pub record IsNoDropping (path : Path) : Type 0 where
  pub logs : (host writer : ℕ) → IsPathOf (log_path host writer).folder (log_path host writer).file path → ⊥
  pub indices : (host writer : ℕ) → IsPathOf (index_path host writer).folder (index_path host writer).file path → ⊥
  pub opens : (host writer : ℕ) → IsPathOf openhosts (open_path host writer).file path → ⊥

pub flattening_no_dropping : (path : Path) → IsFlattenings path → IsNoDropping path
flattening_no_dropping path of = record {
  logs = λ host writer named. not_flattenings (log_path host writer) path (log_no_flattenings host writer) named of;
  indices = λ host writer named. not_flattenings (index_path host writer) path (index_no_flattenings host writer) named of;
  opens = λ host writer named. other_folder openhosts (open_path host writer).file path (refl, refl) named of;
}

first_byte : (a b : Name) → a ≡ b → get_or a 0 0 ≡ get_or b 0 0
first_byte a b e = ap (λ (n : Name). get_or n 0 0) e

pub meta_no_dropping : (last bytes stamp host writer : ℕ) → IsNoDropping (meta_path last bytes stamp host writer)
meta_no_dropping last bytes stamp host writer = record {
  logs = λ h w named. elsewhere (first_byte _ _ named.0) refl;
  indices = λ h w named. elsewhere (first_byte _ _ named.0) refl;
  opens = λ h w named. elsewhere (first_byte _ _ named.0) refl;
}

module _ (n : ℕ) (path : Path) (apart : IsNoDropping path) (table : Table) (next caller : ℕ) (on : Call → Type 0)
    (puts : (flat : ℕ) (g : Flattening) → flattening_at flat table.flattenings ≡ Some g → (bytes : List ℕ) → on (PutFlat flat bytes) → NamesFile (put_flat_step g bytes) n path → ⊥)
    (installs : (flat : ℕ) (g : Flattening) → flattening_at flat table.flattenings ≡ Some g → on (InstallFlat flat) → NamesFile (install_step g) n path → ⊥) where
  -- Where puts and installs leave it, so does the act of every call.
  pub file_acts : OfEachAct table next caller (λ call step. on call → LeavesFile n path step)
  file_acts = record {
    looks = λ call step look on_it. look_leaves n path step look;
    rooms = λ name on_it. inl (λ named. named);
    enters = λ room host most on_it. inr tt;
    hostdirs = λ writer row on_it. inl (λ named. named);
    indices = λ writer row e on_it. inr tt;
    logs = λ writer row e on_it. inr tt;
    writes = λ writer row e from bytes on_it. inl (λ named. apart.logs row.host row.id named.1);
    flushes = λ writer row e on_it. inl (λ named. apart.indices row.host row.id named.1);
    log_syncs = λ writer row on_it. inl (λ named. named);
    index_syncs = λ writer row on_it. inl (λ named. named);
    metas = λ writer row on_it. inr tt;
    exits = λ writer row e on_it. inl (λ named. apart.opens row.host row.id named.1);
    holds = λ room on_it. inl (λ named. named);
    truncates = λ holder h e stamp size top item above on_it. inr tt;
    renames = λ holder h e to on_it. inl (λ named. named);
    releases = λ holder h e on_it. inl (λ named. named);
    starts = λ room f makes on_it. inr tt;
    puts = λ flat g e bytes on_it. inl (puts flat g e bytes on_it);
    flat_syncs = λ flat g e on_it. inl (λ named. named);
    installs = λ flat g e on_it. inl (installs flat g e on_it);
    packs = λ room host writer f makes numbers on_it. inr tt;
    dropping_syncs = λ room host writer is_log numbers on_it. inl (λ named. named);
    mends = λ room host writer count numbers on_it. inl (λ named. apart.indices host writer named.1);
    mend_metas = λ room host cover last numbers on_it. inr tt;
    buries = λ room host writer numbers on_it. inl (λ named. apart.opens host writer named.1);
    mend_holds = λ room on_it. inl (λ named. named);
  }
