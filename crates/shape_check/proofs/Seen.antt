-- A tree of which all is kept, beside the one that a store tells.
use Rattle.std.proofs.Common.{◌≡◌, ℕ, ◌≤◌, inl, inr, Bool, true, false, ◌&&◌, ◌||◌, List, [], ◌∷◌, length, Option, Some, None, refl, ap, sym, ◌∙◌, arith}
use Rattle.std.specs.Prelude.{slice_get, option_map, map, is_some, if◌then◌else◌}
use Rattle.std.specs.List.{find}
use Rattle.std.proofs.lemmas.Option.{slice_get-map}
use Rattle.plfs_types.specs.Counts.{HasRisen}
use Rattle.plfs_types.specs.declared.names.Path.{Path}
use Rattle.store_api.specs.declared.tree.File.{File}
use Rattle.store_api.specs.declared.tree.Room.{Room}
use Rattle.store_api.specs.declared.tree.Tree.{Tree}
use Rattle.store_api.specs.Acts.{Stored}
use Rattle.store_api.specs.AllKept.{all_kept, room_kept}
use Rattle.store_api.specs.Kept.{synced}
use Rattle.store_api.specs.Step.{Name}
use Rattle.store_api.specs.Room.{file_in, is_at, is_top}
use Rattle.store_laws.specs.Files.{file_at, kept_at, kept_of}
use Rattle.store_laws.specs.There.{has_entry}
use Rattle.store_laws.specs.Differ.{is_listed}
use Rattle.shape_check.specs.Seeing.{IsSeen, IsLookedAt}

found_synced : (p : File → Bool) (q : (file : File) → p (synced file) ≡ p file) (files : List File) → find p (map synced files) ≡ option_map synced (find p files)
found_synced p q [] = refl
found_synced p q (f ∷ fs) = elim (p f) as (λ b. p f ≡ b → find p (map synced (f ∷ fs)) ≡ option_map synced (if b then Some f else find p fs)) [
  | true ↦ λ e. rw (q f, e) refl
  | false ↦ λ e. rw (q f, e) (found_synced p q fs)
] refl

in_kept : (room : Room) (folder name : Name) → file_in (room_kept room) folder name ≡ option_map synced (file_in room folder name)
in_kept room folder name = found_synced (is_at folder name) (λ file. refl) room.files

bytes_of_synced : (found : Option File) → option_map (λ (f : File). f.bytes) (option_map synced found) ≡ option_map (λ (f : File). f.bytes) found
bytes_of_synced None = refl
bytes_of_synced (Some file) = refl

-- its files are the same
pub file_kept_so : (room : Room) (path : Path) → file_at (room_kept room) path ≡ file_at room path
unfolding file_at
file_kept_so room path = ap (λ (found : Option File). option_map (λ (f : File). f.bytes) found) (in_kept room path.folder path.file) ∙ bytes_of_synced (file_in room path.folder path.file)

-- and so are the entries of its folders
pub entry_kept : (room : Room) (folder name : Name) → has_entry (room_kept room) folder name ≡ has_entry room folder name
entry_kept room folder name = ap (λ (found : Option (List ℕ)). is_some found || (is_top folder && is_listed name room.folders)) (file_kept_so room (record { folder = folder; file = name }))

-- the room that the store tells
pub told_room : (told tree : Tree) (n : ℕ) (room : Room) → tree ≡ all_kept told → slice_get tree.rooms n ≡ Some room → (before : Room) × (slice_get told.rooms n ≡ Some before) × (room ≡ room_kept before)
told_room told tree n room kept there = of (slice_get told.rooms n) refl
  where
    mapped : slice_get tree.rooms n ≡ option_map room_kept (slice_get told.rooms n)
    mapped = ap (λ (t : Tree). slice_get t.rooms n) kept ∙ slice_get-map room_kept told.rooms n

    of : (found : Option Room) → slice_get told.rooms n ≡ found → (before : Room) × (slice_get told.rooms n ≡ Some before) × (room ≡ room_kept before)
    of None e = let none : slice_get tree.rooms n ≡ None = mapped ∙ ap (option_map room_kept) e in absurd (cc)
    of (Some before) e = let some : slice_get tree.rooms n ≡ Some (room_kept before) = mapped ∙ ap (option_map room_kept) e in (before, e, cc)

-- ---- looks, one after the other

pub looked_on : (old mid new : Stored) → IsLookedAt old mid → IsLookedAt mid new → IsLookedAt old new
looked_on old mid new a b = record { same = b.same ∙ a.same; counted = omega (arith, a.counted, b.counted) }

pub seen_on : (old new : Stored) (tree : Tree) → IsLookedAt old new → IsSeen old tree → IsSeen new tree
seen_on old new tree a s = record { told = s.told; tells = a.same ∙ s.tells; kept = s.kept }

pub risen_on : (a b c : ℕ) → a ≤ b → HasRisen b c → HasRisen a c
risen_on a b c le (inl rose) = inl (omega arith)
risen_on a b c le (inr full) = inr full

-- all bytes of its files are kept
pub all_kept_at : (room : Room) (path : Path) (bytes : List ℕ) → file_at (room_kept room) path ≡ Some bytes → kept_at (room_kept room) path ≡ length bytes
unfolding file_at kept_at
all_kept_at room path bytes at = of (file_in room path.folder path.file) (in_kept room path.folder path.file)
  where
    of : (found : Option File) → file_in (room_kept room) path.folder path.file ≡ option_map synced found → kept_of (file_in (room_kept room) path.folder path.file) ≡ length bytes
    of None e = let none : option_map (λ (f : File). f.bytes) (file_in (room_kept room) path.folder path.file) ≡ None = ap (option_map (λ (f : File). f.bytes)) e in absurd (cc)
    of (Some file) e =
        let some : option_map (λ (f : File). f.bytes) (file_in (room_kept room) path.folder path.file) ≡ Some file.bytes = ap (option_map (λ (f : File). f.bytes)) e in
        let same : file.bytes ≡ bytes = cc in
        ap kept_of e ∙ ap (λ (l : List ℕ). length l) same

pub kept_whole : (stored : Stored) (tree : Tree) (n : ℕ) (room : Room) (path : Path) (bytes : List ℕ) → IsSeen stored tree → slice_get tree.rooms n ≡ Some room → file_at room path ≡ Some bytes → kept_at room path ≡ length bytes
kept_whole stored tree n room path bytes seen there at =
    let before = told_room seen.told tree n room seen.kept there in
    ap (λ (r : Room). kept_at r path) before.2 ∙ all_kept_at before.0 path bytes (ap (λ (r : Room). file_at r path) (sym before.2) ∙ at)
