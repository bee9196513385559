-- A folder of a container stays, but for that of who has it open.
use Rattle.std.proofs.Common.{◌≡◌, ℕ, List, [], ◌∷◌, Option, Some, true, refl, ap, sym, ◌∙◌, inl, inr, subst}
use Rattle.std.specs.Prelude.{slice_get}
use Rattle.std.proofs.lemmas.Bool.{cases_eq}
use Rattle.store_api.specs.declared.tree.Room.{Room}
use Rattle.store_api.specs.declared.tree.Tree.{Tree}
use Rattle.store_api.specs.Room.{has_folder}
use Rattle.store_api.specs.Step.{Step, make_folder, remove_folder}
use Rattle.store_laws.specs.Changes.{FolderMade, with_room}
use Rattle.store_laws.specs.Naming.{KeepsRoom}
use Rattle.store_laws.specs.Outcomes.{IsLook}
use Rattle.store_laws.specs.Tells.{Tells}
use Rattle.store_laws.proofs.Facts.{changed_room, keeps_rooms, make_folder_told, name_cases}
use Rattle.mount_model.specs.Entering.{next_id}
use Rattle.mount_model.specs.History.{Event}
use Rattle.mount_model.specs.Making.{Told}
use Rattle.mount_model.specs.Paths.{Name}
use Rattle.container_layout.specs.Paths.{openhosts}
use Rattle.mount_model.specs.State.{Table}
use Rattle.mount_model.specs.Step.{IsStep}
use Rattle.mount_sound.specs.Owed.{IsLawful}
use Rattle.mount_sound.proofs.Facts.{ActsOn, OfEachAct, step_acts}
use Rattle.reader_laws.specs.Moments.{Moment, IsSoundAt, moment_after, next_moment}
use Rattle.reader_laws.proofs.Soundness.LookEnds.{HasContainer}

-- ---- an act

-- it removes no folder but that of who has a container open
abbrev KeepsFolders : Step → Type 0
KeepsFolders (remove_folder n folder) = folder ≡ openhosts
KeepsFolders step = Unit {0}

looks_keep : (step : Step) → IsLook step → KeepsFolders step
looks_keep (remove_folder n folder) look = absurd look
looks_keep step look = tt

each_keeps : (table : Table) (id caller : ℕ) → OfEachAct table id caller (λ call step. KeepsFolders step)
each_keeps table id caller = record {
  looks = λ call step look. looks_keep step look;
  rooms = λ name. tt;
  enters = λ room host most. tt;
  hostdirs = λ writer row. tt;
  indices = λ writer row e. tt;
  logs = λ writer row e. tt;
  writes = λ writer row e at bytes. tt;
  flushes = λ writer row e. tt;
  log_syncs = λ writer row. tt;
  index_syncs = λ writer row. tt;
  metas = λ writer row. tt;
  exits = λ writer row e. tt;
  holds = λ room. refl;
  truncates = λ holder h e stamp size top is more. tt;
  renames = λ holder h e to. tt;
  releases = λ holder h e. tt;
  starts = λ room f e. tt;
  puts = λ flat f e bytes. tt;
  flat_syncs = λ flat f e. tt;
  installs = λ flat f e. tt;
  packs = λ room host writer f e is. tt;
  dropping_syncs = λ room host writer is_log is. tt;
  mends = λ room host writer count is. tt;
  mend_metas = λ room host cover last is. tt;
  buries = λ room host writer is. tt;
  mend_holds = λ room. tt;
}

one_room : (a b : Room) (o : Option Room) → o ≡ Some a → o ≡ Some b → a ≡ b
one_room a b o p q = cc

module _ (tree after : Tree) (told_ : Told) (n : ℕ) (room new : Room) (folder : Name) (there : slice_get tree.rooms n ≡ Some room) (now : slice_get after.rooms n ≡ Some new) (has : has_folder room folder ≡ true) where
  -- where a folder was made
  made_still : (k : ℕ) (made : Name) → FolderMade tree k made after → KeepsRoom (make_folder k made) n room new → has_folder new folder ≡ true
  made_still k made c kept = elim (cases_eq n k) as (λ _. has_folder new folder ≡ true) [
    | inl here ↦ elim (name_cases folder made) as (λ _. has_folder new folder ≡ true) [
      | inl same ↦
          let at : slice_get after.rooms n ≡ Some c.new = ap (λ (t : Tree). slice_get t.rooms n) c.gives ∙ ap (λ i. slice_get (with_room tree k c.new).rooms i) here ∙ changed_room tree k c.room c.new c.has_room in
          ap (λ r. has_folder r folder) (one_room new c.new (slice_get after.rooms n) now at) ∙ ap (has_folder c.new) same ∙ c.now
      | inr other ↦ kept.folders folder (λ named. other named.1) ∙ has
    ]
    | inr other ↦ kept.folders folder (λ named. other named.0) ∙ has
  ]

  still : (step : Step) → KeepsFolders step → Tells step tree told_ after → KeepsRoom step n room new → (folder ≡ openhosts → ⊥) → has_folder new folder ≡ true
  still (remove_folder k gone) keeps tells kept other = kept.folders folder (λ named. other (named.1 ∙ keeps)) ∙ has
  still (make_folder k made) keeps tells kept other = elim (make_folder_told k made tree told_ after tells).either as (λ _. has_folder new folder ≡ true) [
    | inl c ↦ made_still k made c kept
    | inr same ↦ ap (λ r. has_folder r folder) (one_room new room (slice_get after.rooms n) now (ap (λ (t : Tree). slice_get t.rooms n) same ∙ there)) ∙ has
  ]
  still step keeps tells kept other = kept.folders folder (λ named. named) ∙ has

-- ---- a history

-- the room of this number had this folder
pub record HadFolder (m : Moment) (number : ℕ) (folder : Name) : Type 0 where
  pub tree : Tree
  pub room : Room
  pub told : m.state.store.tree ≡ Some tree
  pub there : slice_get tree.rooms number ≡ Some room
  pub has : has_folder room folder ≡ true

acts_keep : (tree after : Tree) (n : ℕ) (room : Room) (folder : Name) → slice_get tree.rooms n ≡ Some room → has_folder room folder ≡ true → (folder ≡ openhosts → ⊥) → ActsOn KeepsFolders tree after → (new : Room) × (slice_get after.rooms n ≡ Some new) × (has_folder new folder ≡ true)
acts_keep tree after n room folder there has other (inl same) = (room, ap (λ (t : Tree). slice_get t.rooms n) same ∙ there, has)
acts_keep tree after n room folder there has other (inr a) =
    let k = keeps_rooms a.step tree a.told after a.tells n room there in
    (k.0, k.1, still tree after a.told n room k.0 folder there k.1 has a.step a.holds a.tells k.2 other)

pub folder_next : (m : Moment) (e : Event) (number : ℕ) (folder : Name) → IsStep m.state e.caller e.ask e.reply e.after → (folder ≡ openhosts → ⊥) → HadFolder m number folder → HadFolder (next_moment m e) number folder
folder_next m e number folder step other had =
    let g = step_acts (λ call s. KeepsFolders s) m.state e.after e.caller e.ask e.reply had.tree (each_keeps m.state.table (next_id m.state) e.caller) step had.told in
    let k = acts_keep had.tree g.0 number had.room folder had.there had.has other g.2 in
    record { tree = g.0; room = k.0; told = g.1; there = k.1; has = k.2 }

-- It has it later, whatever calls come in between.
pub folder_after : (m : Moment) (events : List Event) (number : ℕ) (folder : Name) → IsLawful m.state events → (folder ≡ openhosts → ⊥) → HadFolder m number folder → HadFolder (moment_after m events) number folder
folder_after m [] number folder lawful other had = had
folder_after m (e ∷ events) number folder lawful other had = folder_after (next_moment m e) events number folder lawful.2 other (folder_next m e number folder lawful.1 other had)

-- a container has the folder that it had
pub has_it : (m : Moment) (s : IsSoundAt m) (number : ℕ) (folder : Name) (c : HasContainer m s number) → HadFolder m number folder → has_folder c.room folder ≡ true
has_it m s number folder c had =
    let both : Some had.tree ≡ Some s.shape.tree = sym had.told ∙ s.shape.told in
    let one : had.tree ≡ s.shape.tree = cc in
    let same : had.room ≡ c.room = one_room had.room c.room (slice_get s.shape.tree.rooms number) (ap (λ (t : Tree). slice_get t.rooms number) (sym one) ∙ had.there) c.there in
    subst (λ r. has_folder r folder ≡ true) same had.has

pub had_it : (m : Moment) (s : IsSoundAt m) (number : ℕ) (folder : Name) (c : HasContainer m s number) → has_folder c.room folder ≡ true → HadFolder m number folder
had_it m s number folder c has = record { tree = s.shape.tree; room = c.room; told = s.shape.told; there = c.there; has = has }
