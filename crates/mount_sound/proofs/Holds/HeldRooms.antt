-- Holding a room, giving it another name and letting it go leave what it holds of writers.
use Rattle.std.proofs.Common.{◌≡◌, ℕ, List, refl, ap, sym, ◌∙◌, inl, inr, subst}
use Rattle.std.specs.Prelude.{get_or}
use Rattle.container_layout.specs.Paths.{hostdir_of}
use Rattle.container_layout.proofs.Facts.{elsewhere}
use Rattle.store_api.specs.declared.tree.Room.{Room}
use Rattle.store_api.specs.declared.tree.Tree.{Tree}
use Rattle.store_api.specs.Step.{make_folder, rename_room}
use Rattle.store_laws.specs.Tells.{Tells}
use Rattle.store_laws.specs.Files.{SameButFolder}
use Rattle.store_laws.specs.Changes.{FolderMade, FolderRemoved, RoomRenamed}
use Rattle.store_laws.proofs.Facts.{has_folder_same, make_folder_told, remove_folder_told, rename_room_told}
use Rattle.mount_model.specs.declared.row.Row.{Row}
use Rattle.mount_model.specs.Paths.{Name}
use Rattle.container_layout.specs.Paths.{openhosts}
use Rattle.mount_model.specs.Making.{Told}
use Rattle.mount_model.specs.Holding.{hold_step}
use Rattle.mount_sound.specs.Ledger.{Ledger}
use Rattle.mount_sound.specs.Sound.{AreSound}
use Rattle.mount_sound.proofs.Soundness.Items.{SameFor, same_for_files}
use Rattle.mount_sound.proofs.Soundness.Local.{AllFit}
use Rattle.mount_sound.proofs.Soundness.RoomFrames.{room_frame}

-- the folder of who has the container open is none of droppings
pub host_elsewhere : (host : ℕ) → hostdir_of host ≡ openhosts → ⊥
host_elsewhere host e = elsewhere (ap (λ (l : List ℕ). get_or l 0 0) e) refl

-- with it or without it a room has the same of each writer
pub same_but_openhosts : (room new : Room) → SameButFolder openhosts room new → (q : ℕ) → SameFor q room new
same_but_openhosts room new s q = same_for_files q room new s.files (λ host there. s.folders (hostdir_of host) (host_elsewhere host) ∙ there)

same_but_name : (room new : Room) → new.folders ≡ room.folders → new.files ≡ room.files → (q : ℕ) → SameFor q room new
same_but_name room new folders files q = same_for_files q room new files (λ host there. has_folder_same room new (hostdir_of host) folders ∙ there)

module _ (last : ℕ) (issued : Ledger) (rows : List Row) (tree : Tree) (fit : AllFit rows) (s : AreSound last issued rows tree) where
  stays : (after : Tree) → after ≡ tree → AreSound last issued rows after
  stays after same = subst (AreSound last issued rows) (sym same) s

  closed : (number : ℕ) (after : Tree) → FolderRemoved tree number openhosts after → AreSound last issued rows after
  closed number after c = subst (AreSound last issued rows) (sym c.gives) (room_frame number c.room c.new issued rows tree c.has_room last fit (same_but_openhosts c.room c.new c.others) s)

  opened : (number : ℕ) (after : Tree) → FolderMade tree number openhosts after → AreSound last issued rows after
  opened number after c = subst (AreSound last issued rows) (sym c.gives) (room_frame number c.room c.new issued rows tree c.has_room last fit (same_but_openhosts c.room c.new c.others) s)

  renamed : (number : ℕ) (to : Name) (after : Tree) → RoomRenamed tree number to after → AreSound last issued rows after
  renamed number to after c = subst (AreSound last issued rows) (sym c.gives) (room_frame number c.room c.new issued rows tree c.has_room last fit (same_but_name c.room c.new c.same_folders c.same_files) s)

  -- Writers are sound once a room is held, whatever the act told.
  pub hold_sound : (room : ℕ) (told : Told) (after : Tree) → Tells (hold_step room) tree told after → AreSound last issued rows after
  hold_sound room told after t = elim (remove_folder_told room openhosts tree told after t).either as (λ _. AreSound last issued rows after) [
    | inl c ↦ closed room after c
    | inr same ↦ stays after same
  ]

  -- So they are once its folder of who has it open is made.
  pub open_sound : (room : ℕ) (told : Told) (after : Tree) → Tells (make_folder room openhosts) tree told after → AreSound last issued rows after
  open_sound room told after t = elim (make_folder_told room openhosts tree told after t).either as (λ _. AreSound last issued rows after) [
    | inl c ↦ opened room after c
    | inr same ↦ stays after same
  ]

  -- And so once it has another name.
  pub rename_sound : (room : ℕ) (to : Name) (told : Told) (after : Tree) → Tells (rename_room room to) tree told after → AreSound last issued rows after
  rename_sound room to told after t = elim (rename_room_told room to tree told after t).either as (λ _. AreSound last issued rows after) [
    | inl c ↦ renamed room to after c
    | inr same ↦ stays after same
  ]
