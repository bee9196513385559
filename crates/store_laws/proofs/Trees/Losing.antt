-- What a loss of power leaves, path by path.
use Rattle.std.proofs.Common.{◌≡◌, ◌≤◌, ℕ, zero, suc, Bool, true, false, cond, List, [], ◌∷◌, length, min, slice_get, Option, Some, None, refl, ap, sym, ◌∙◌, subst, arith}
use Rattle.std.specs.List.{find}
use Rattle.plfs_types.specs.declared.names.Path.{Path}
use Rattle.store_api.specs.declared.tree.File.{File}
use Rattle.store_api.specs.declared.tree.Room.{Room}
use Rattle.store_api.specs.declared.tree.Tree.{Tree}
use Rattle.store_api.specs.Step.{Name}
use Rattle.store_api.specs.Room.{is_at, file_in}
use Rattle.store_api.specs.Loss.{LosesFile, LoseFiles, LosesRoom, LoseRooms, Loses}
use Rattle.store_laws.specs.Files.{file_at, kept_at}
use Rattle.store_laws.specs.Differ.{is_there, FilesDiffer}
use Rattle.store_laws.specs.Prefix.{IsPrefix}
use Rattle.store_laws.specs.Losing.{HasLost, HaveLost}
use Rattle.store_laws.proofs.Steps.Rooms.{file_at_found, kept_at_found, file_at_none, none_in, some_in}
use Rattle.store_laws.proofs.Steps.Overwriting.{prefix_take}

-- ---- files

same_place : (folder name : Name) (file new : File) → LosesFile file new → is_at folder name new ≡ is_at folder name file
same_place folder name file new l = ap (λ (p : Path). is_at folder name (record file { path = p })) l.path

-- what is found of the lost files
LostAs : Option File → Option File → Type 0
LostAs None new = new ≡ None
LostAs (Some file) new = (lost : File) × (new ≡ Some lost) × LosesFile file lost

by_test : (b : Bool) (file new : File) (found lost : Option File) → LosesFile file new → LostAs found lost → LostAs (cond b (Some file) found) (cond b (Some new) lost)
unfolding LostAs
by_test true file new found lost l rest = (new, refl, l)
by_test false file new found lost l rest = rest

lost_found : (folder name : Name) (files news : List File) → LoseFiles files news → LostAs (find (is_at folder name) files) (find (is_at folder name) news)
unfolding LostAs
lost_found folder name [] news l = ap (λ fs. find (is_at folder name) fs) l
lost_found folder name (file ∷ files) news l =
    subst (λ fs. LostAs (find (is_at folder name) (file ∷ files)) (find (is_at folder name) fs)) (sym l.2)
    (subst (λ b. LostAs (cond (is_at folder name file) (Some file) (find (is_at folder name) files)) (cond b (Some l.0) (find (is_at folder name) l.1))) (sym (same_place folder name file l.0 l.3))
    (by_test (is_at folder name file) file l.0 (find (is_at folder name) files) (find (is_at folder name) l.1) l.3 (lost_found folder name files l.1 l.4)))

was_there : (folder name : Name) (files news : List File) → LoseFiles files news → is_there folder name news ≡ is_there folder name files
was_there folder name [] news l = ap (λ fs. is_there folder name fs) l
was_there folder name (file ∷ files) news l =
    ap (λ fs. is_there folder name fs) l.2 ∙ rw (same_place folder name file l.0 l.3, was_there folder name files l.1 l.4) refl

files_differ : (files news : List File) → LoseFiles files news → FilesDiffer files → FilesDiffer news
files_differ [] news l d = subst FilesDiffer (sym l) tt
files_differ (file ∷ files) news l d =
    subst FilesDiffer (sym l.2)
    (ap (λ (p : Path). is_there p.folder p.file l.1) l.3.path ∙ was_there file.path.folder file.path.file files l.1 l.4 ∙ d.0, files_differ files l.1 l.4 d.1)

-- ---- rooms

LostFound : (room : Room) (new : Room) → Path → Option File → Type 0
LostFound room new path None = file_in new path.folder path.file ≡ None
LostFound room new path (Some file) = (lost : File) × (file_in new path.folder path.file ≡ Some lost) × LosesFile file lost

lost_in : (room new : Room) (path : Path) (found : Option File) → LostAs found (file_in new path.folder path.file) → LostFound room new path found
unfolding LostAs LostFound
lost_in room new path None l = l
lost_in room new path (Some file) l = l

lost_at : (room new : Room) (path : Path) (found : Option File) → LosesRoom room new → file_in room path.folder path.file ≡ found → LostFound room new path found
lost_at room new path found l e = subst (LostFound room new path) e (lost_in room new path (file_in room path.folder path.file) (lost_found path.folder path.file room.files new.files l.files))

lost_some : (room new : Room) (path : Path) (file : File) → LostFound room new path (Some file) → (lost : File) × (file_in new path.folder path.file ≡ Some lost) × LosesFile file lost
unfolding LostFound
lost_some room new path file l = l

lost_none : (room new : Room) (path : Path) → LostFound room new path None → file_in new path.folder path.file ≡ None
unfolding LostFound
lost_none room new path l = l

pub has_lost : (room new : Room) → LosesRoom room new → HasLost room new
has_lost room new l = record {
  name = l.name;
  folders = l.folders;
  files = λ path bytes e.
      let was = some_in room path bytes e in
      let now = lost_some room new path was.0 (lost_at room new path (Some was.0) l was.1) in
      record {
        front = now.0.bytes;
        there = file_at_found new path now.0 now.1;
        begins = subst (λ b. IsPrefix now.0.bytes b) was.2 (subst (λ b. IsPrefix b was.0.bytes) (sym now.2.first) (prefix_take (length now.0.bytes) was.0.bytes));
        long = omega (arith, now.2.long, kept_at_found room path was.0 was.1, ap length was.2);
        kept = kept_at_found new path now.0 now.1 ∙ now.2.kept;
      };
  none = λ path e. file_at_none new path (lost_none room new path (lost_at room new path None l (none_in room path e)));
  differ = λ d. files_differ room.files new.files l.files d;
}

lost_room : (rooms news : List Room) (n : ℕ) (room : Room) → LoseRooms rooms news → slice_get rooms n ≡ Some room → (lost : Room) × (slice_get news n ≡ Some lost) × HasLost room lost
lost_room [] news n room l e = absurd (cc)
lost_room (r ∷ rooms) news zero room l e =
    let is : r ≡ room = cc in
    (l.0, ap (λ rs. slice_get rs 0) l.2, subst (λ x. HasLost x l.0) is (has_lost r l.0 l.3))
lost_room (r ∷ rooms) news (suc n) room l e =
    let rest = lost_room rooms l.1 n room l.4 e in
    (rest.0, ap (λ rs. slice_get rs (suc n)) l.2 ∙ rest.1, rest.2)

no_lost_room : (rooms news : List Room) (n : ℕ) → LoseRooms rooms news → slice_get rooms n ≡ None → slice_get news n ≡ None
no_lost_room [] news n l e = ap (λ rs. slice_get rs n) l ∙ e
no_lost_room (r ∷ rooms) news zero l e = absurd (cc)
no_lost_room (r ∷ rooms) news (suc n) l e = ap (λ rs. slice_get rs (suc n)) l.2 ∙ no_lost_room rooms l.1 n l.4 e

-- a loss leaves each file its first bytes
pub have_lost : (tree new : Tree) → Loses tree new → HaveLost tree new
have_lost tree new l = record {
  rooms = λ n room e. lost_room tree.rooms new.rooms n room l e;
  none = λ n e. no_lost_room tree.rooms new.rooms n l e;
}

-- ---- and back

by_file : (room new : Room) (path : Path) (front : List ℕ) (file : Option (List ℕ)) → HasLost room new → file_at room path ≡ file → file_at new path ≡ Some front → (bytes : List ℕ) × (file_at room path ≡ Some bytes)
by_file room new path front None h e at = let none = h.none path e in absurd (cc)
by_file room new path front (Some bytes) h e at = (bytes, e)

-- a file of the lost room was there, and is the first bytes of what it was
pub file_back : (room new : Room) (path : Path) (front : List ℕ) → HasLost room new → file_at new path ≡ Some front → (bytes : List ℕ) × (file_at room path ≡ Some bytes) × IsPrefix front bytes × (min (kept_at room path) (length bytes) ≤ length front) × (kept_at new path ≡ length front)
file_back room new path front h at =
    let was = by_file room new path front (file_at room path) h refl at in
    let l = h.files path was.0 was.1 in
    let is : Some l.front ≡ Some front = sym l.there ∙ at in
    let same : l.front ≡ front = cc in
    (was.0, was.1, subst (λ f. IsPrefix f was.0) same l.begins, subst (λ f. min (kept_at room path) (length was.0) ≤ length f) same l.long, l.kept ∙ ap length same)

by_room : (tree new : Tree) (n : ℕ) (lost : Room) (found : Option Room) → HaveLost tree new → slice_get tree.rooms n ≡ found → slice_get new.rooms n ≡ Some lost → (room : Room) × (slice_get tree.rooms n ≡ Some room) × HasLost room lost
by_room tree new n lost None h e at = let none = h.none n e in absurd (cc)
by_room tree new n lost (Some room) h e at =
    let l = h.rooms n room e in
    let is : Some l.0 ≡ Some lost = sym l.1 ∙ at in
    let same : l.0 ≡ lost = cc in
    (room, e, subst (HasLost room) same l.2)

-- a room of the lost tree was there
pub room_back : (tree new : Tree) (n : ℕ) (lost : Room) → HaveLost tree new → slice_get new.rooms n ≡ Some lost → (room : Room) × (slice_get tree.rooms n ≡ Some room) × HasLost room lost
room_back tree new n lost h at = by_room tree new n lost (slice_get tree.rooms n) h refl at
