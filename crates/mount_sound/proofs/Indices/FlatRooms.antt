-- A change of the files of one flattening leaves all else of its room right.
use Rattle.std.proofs.Common.{◌≡◌, ◌≤◌, ◌<◌, ◌^◌, ℕ, List, length, Some, refl, ap, sym, ◌∙◌, inl, inr, subst, arith}
use Rattle.std.specs.Prelude.{slice_get}
use Rattle.std.proofs.lemmas.Bool.{cases_eq}
use Rattle.container_layout.specs.declared.items.Item.{Item}
use Rattle.container_layout.specs.declared.items.Item.TheVariants.{Trunc, Flat, Index}
use Rattle.container_layout.specs.Items.{IsItem}
use Rattle.container_layout.specs.Paths.{path_of, hostdir_of}
use Rattle.store_api.specs.declared.tree.Room.{Room}
use Rattle.store_api.specs.declared.tree.Tree.{Tree}
use Rattle.store_api.specs.Room.{has_folder}
use Rattle.store_laws.specs.Changes.{Moved, beside, with_room}
use Rattle.store_laws.specs.Files.{file_at, kept_at, AreTwo, SameButFile}
use Rattle.store_laws.proofs.Facts.{changed_room, has_folder_same, other_room}
use Rattle.mount_model.specs.declared.row.Flattening.{Flattening}
use Rattle.mount_model.specs.declared.row.Holder.{Holder}
use Rattle.mount_model.specs.declared.row.Making.{Making}
use Rattle.mount_model.specs.declared.row.Making.TheVariants as making
use Rattle.mount_model.specs.declared.row.Row.{Row}
use Rattle.mount_model.specs.Paths.{Name, installed_item, installed_of, temporary_item, temporary_of}
use Rattle.container_layout.specs.Paths.{openhosts}
use Rattle.mount_sound.specs.Named.{FitsNames}
use Rattle.mount_sound.specs.Flats.{IsBegunIn, IsRightFor, IsFlatteningIn}
use Rattle.mount_sound.specs.Held.{IsHeldIn, AreHeld}
use Rattle.mount_sound.specs.Items.{HasItem}
use Rattle.mount_sound.specs.Ledger.{Ledger}
use Rattle.mount_sound.specs.Sound.{AreSound}
use Rattle.mount_sound.proofs.Indices.FlatPaths.{moved_to}
use Rattle.mount_sound.proofs.Indices.Flats.{KeepsAllEntries, right_frame, same_entries}
use Rattle.mount_sound.proofs.Soundness.Items.{SameFor, apart, no_owner, owner}
use Rattle.mount_sound.proofs.Soundness.Local.{AllFit}
use Rattle.mount_sound.proofs.Indices.Makings.{installed_unowned, is_installed, is_temporary, named_of, one_flat, one_temporary, temporary_unowned, trunc_no_installed, trunc_no_temporary, two_kinds}
use Rattle.mount_sound.proofs.Soundness.RoomFrames.{room_frame}

-- ---- a room

-- of the room's items only the temporary file of this id may have changed, and what it becomes
pub record SameButFlat (makes : Making) (id : ℕ) (room new : Room) : Type 0 where
  pub files : (item : Item) → IsItem item → (item ≡ temporary_item makes id → ⊥) → (item ≡ installed_item makes id → ⊥) → file_at new (path_of item) ≡ file_at room (path_of item)
  pub kepts : (item : Item) → IsItem item → (item ≡ temporary_item makes id → ⊥) → (item ≡ installed_item makes id → ⊥) → kept_at new (path_of item) ≡ kept_at room (path_of item)
  pub folders : (folder : Name) → has_folder new folder ≡ has_folder room folder

-- the temporary file alone has changed
pub but_temporary : (makes : Making) (id : ℕ) (room new : Room) → FitsNames makes → id < 2 ^ 64 → SameButFile (temporary_of makes id) room new → SameButFlat makes id room new
but_temporary makes id room new named fits s = record {
  files = λ item is other becomes. s.files (path_of item) (apart item (temporary_item makes id) is (is_temporary makes id named fits) other);
  kepts = λ item is other becomes. s.kepts (path_of item) (apart item (temporary_item makes id) is (is_temporary makes id named fits) other);
  folders = λ folder. has_folder_same room new folder s.folders;
}

-- the temporary file has got the name of what it becomes
pub but_moved : (tree : Tree) (n : ℕ) (makes : Making) (id : ℕ) (after : Tree) → FitsNames makes → id < 2 ^ 64 → (c : Moved tree n (temporary_of makes id) (installed_of makes id).file after) → SameButFlat makes id c.room c.new
but_moved tree n makes id after named fits c =
    let to : (item : Item) → IsItem item → (item ≡ installed_item makes id → ⊥) → AreTwo (path_of item) (beside (temporary_of makes id) (installed_of makes id).file) = λ item is becomes.
    subst (λ p. AreTwo (path_of item) p) (sym (moved_to makes id)) (apart item (installed_item makes id) is (is_installed makes id named fits) becomes) in
    record {
      files = λ item is other becomes. c.others (path_of item) (apart item (temporary_item makes id) is (is_temporary makes id named fits) other) (to item is becomes);
      kepts = λ item is other becomes. c.kepts (path_of item) (apart item (temporary_item makes id) is (is_temporary makes id named fits) other) (to item is becomes);
      folders = λ folder. has_folder_same c.room c.new folder c.same_folders;
    }

module _ (makes : Making) (id : ℕ) (room new : Room) (s : SameButFlat makes id room new) where
  owned_files : (item : Item) (writer : ℕ) → owner item ≡ Some writer → IsItem item → file_at new (path_of item) ≡ file_at room (path_of item)
  owned_files item writer o is = s.files item is (λ e. no_owner (temporary_item makes id) item writer (temporary_unowned makes id) o (sym e)) (λ e. no_owner (installed_item makes id) item writer (installed_unowned makes id) o (sym e))

  owned_kepts : (item : Item) (writer : ℕ) → owner item ≡ Some writer → IsItem item → kept_at new (path_of item) ≡ kept_at room (path_of item)
  owned_kepts item writer o is = s.kepts item is (λ e. no_owner (temporary_item makes id) item writer (temporary_unowned makes id) o (sym e)) (λ e. no_owner (installed_item makes id) item writer (installed_unowned makes id) o (sym e))

  -- the room has the same of each writer
  pub flat_same_for : (q : ℕ) → SameFor q room new
  flat_same_for q = record {
    owned = λ item is o. owned_files item q o is;
    kepts = λ item is o. omega (arith, owned_kepts item q o is);
    truncates = λ stamp size is. s.files (Trunc stamp size) is (trunc_no_temporary stamp size makes id) (trunc_no_installed stamp size makes id);
    folders = λ host there. s.folders (hostdir_of host) ∙ there;
  }

  pub flat_keeps_entries : KeepsAllEntries room new
  flat_keeps_entries = same_entries room new owned_files owned_kepts

  pub right_still : (others : Making) (bytes : List ℕ) → IsRightFor room others bytes → IsRightFor new others bytes
  right_still others bytes r = right_frame room new flat_keeps_entries others bytes r

  -- what was installed and is as before is right and kept
  pub index_still : (others : Making) (q : ℕ) (bytes : List ℕ) → file_at new (installed_of others q) ≡ file_at room (installed_of others q) → kept_at new (installed_of others q) ≡ kept_at room (installed_of others q) → HasItem new (installed_item others q) bytes
      → ((bytes : List ℕ) → HasItem room (installed_item others q) bytes → IsRightFor room others bytes × (length bytes ≤ kept_at room (installed_of others q))) → IsRightFor new others bytes × (length bytes ≤ kept_at new (installed_of others q))
  index_still others q bytes file kept h were =
      let was = were bytes (record { is_item = h.is_item; there = sym file ∙ h.there }) in
      (right_still others bytes was.0, omega (arith, was.1, kept))

  -- what another flattening began with is there
  begun_still : (others : Making) (q : ℕ) → q < 2 ^ 64 → (q ≡ id → ⊥) → IsBegunIn room others q → IsBegunIn new others q
  begun_still making.Flat q fits other none = s.files (Flat q) (is_installed making.Flat q tt fits) (λ e. two_kinds makes making.Flat id q (sym e)) (λ e. other (one_flat q makes id e)) ∙ none
  begun_still (making.Pack host writer) q fits other begun = (begun.0, record { is_item = begun.1.is_item; there = owned_files (Index host writer) writer refl begun.1.is_item ∙ begun.1.there })

  -- another flattening stands as it stood
  pub being_made_still : (g : Flattening) → g.id < 2 ^ 64 → (g.id ≡ id → ⊥) → IsFlatteningIn room g → IsFlatteningIn new g
  being_made_still g fits other i =
      let is : IsItem (temporary_item g.makes g.id) = is_temporary g.makes g.id (named_of room g.makes g.id i.begun) fits in
      let not_temporary : temporary_item g.makes g.id ≡ temporary_item makes id → ⊥ = λ e. other (one_temporary g.makes makes g.id id e) in
      let not_installed : temporary_item g.makes g.id ≡ installed_item makes id → ⊥ = λ e. two_kinds g.makes makes g.id id e in
      record {
        begun = begun_still g.makes g.id fits other i.begun;
        bytes = i.bytes;
        there = s.files (temporary_item g.makes g.id) is not_temporary not_installed ∙ i.there;
        put = λ far. right_still g.makes i.bytes (i.put far);
        synced = λ far. omega (arith, i.synced far, s.kepts (temporary_item g.makes g.id) is not_temporary not_installed);
      }

-- ---- a tree

-- one room of the tree has changed so
pub record FlatChanged (tree : Tree) (n : ℕ) (makes : Making) (id : ℕ) (after : Tree) : Type 0 where
  pub room : Room
  pub new : Room
  pub has_room : slice_get tree.rooms n ≡ Some room
  pub same : SameButFlat makes id room new
  pub gives : after ≡ with_room tree n new

module _ (tree : Tree) (n : ℕ) (makes : Making) (id : ℕ) (after : Tree) (c : FlatChanged tree n makes id after) where
  -- the room of this number is there, and is the new one
  pub flat_new : slice_get after.rooms n ≡ Some c.new
  flat_new = ap (λ (t : Tree). slice_get t.rooms n) c.gives ∙ changed_room tree n c.room c.new c.has_room

  pub flat_other : (m : ℕ) → (m ≡ n → ⊥) → slice_get after.rooms m ≡ slice_get tree.rooms m
  flat_other m other = ap (λ (t : Tree). slice_get t.rooms m) c.gives ∙ other_room tree n m c.new other

  -- Writers are sound then.
  pub flat_sound : (last : ℕ) (issued : Ledger) (rows : List Row) → AllFit rows → AreSound last issued rows tree → AreSound last issued rows after
  flat_sound last issued rows fit s = subst (AreSound last issued rows) (sym c.gives) (room_frame n c.room c.new issued rows tree c.has_room last fit (flat_same_for makes id c.room c.new c.same) s)

  held_still : (h : Holder) → IsHeldIn tree h → IsHeldIn after h
  held_still h i = elim (cases_eq h.room n) as (λ _. IsHeldIn after h) [
    | inl same ↦
        let one : Some c.room ≡ Some i.room = sym c.has_room ∙ ap (λ k. slice_get tree.rooms k) (sym same) ∙ i.there in
        let is : c.room ≡ i.room = cc in
        record {
          room = c.new;
          there = ap (λ k. slice_get after.rooms k) same ∙ flat_new;
          closed = c.same.folders openhosts ∙ ap (λ r. has_folder r openhosts) is ∙ i.closed;
        }
    | inr other ↦ record { room = i.room; there = flat_other h.room other ∙ i.there; closed = i.closed }
  ]

  -- Who holds a room keeps holding it.
  pub flat_held : (holders : List Holder) → AreHeld holders tree → AreHeld holders after
  flat_held holders s = record { each = λ number h e. held_still h (s.each number h e); alone = s.alone }
