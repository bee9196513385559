-- Where all holds that is checked no complaint is right.
use Rattle.std.proofs.Common.{◌≡◌, ℕ, ◌+◌, ◌≤◌, List, length, [], true, Option, Some, refl, ap, sym, ◌∙◌, subst, inl, inr, arith}
use Rattle.std.specs.Prelude.{slice_get, ◌≢◌}
use Rattle.std.proofs.lemmas.Bool.{false≢true}
use Rattle.plfs_types.specs.Names.{IsLogicalName}
use Rattle.container_layout.specs.declared.items.Item.{Item}
use Rattle.container_layout.specs.declared.items.Item.TheVariants.{Index}
use Rattle.container_layout.proofs.Facts.{one_item}
use Rattle.store_api.specs.declared.tree.Room.{Room}
use Rattle.store_api.specs.declared.tree.Tree.{Tree}
use Rattle.store_api.specs.Room.{has_folder}
use Rattle.mount_model.specs.Paths.{Name, access_path, installed_of}
use Rattle.store_api.specs.Names.{marks_name}
use Rattle.mount_sound.specs.Container.{IsContainer, IsOfId, MayHold}
use Rattle.mount_sound.specs.Marks.{IsMarksRoom, IsOfMark}
use Rattle.mount_sound.specs.Items.{HasItem}
use Rattle.mount_sound.specs.Dropping.{bytes_of}
use Rattle.store_laws.specs.Files.{file_at, kept_at}
use Rattle.store_laws.proofs.Facts.{name_cases}
use Rattle.mount_sound.proofs.Facts.{in_order_take}
use Rattle.tree_laws.specs.Checked.{whole_entries, IsCheckedDropping, IsCheckedTree, IsCheckedRoom}
use Rattle.tree_laws.specs.Complaints.{Complaint, room_name, no_folder, no_access, foreign_folder, foreign, no_mark, filled, unmarked, two_hosts, entry, long_log, unaccounted, untrue, unsettled, between, two_truncates, wrong_index, unkept, IsBroken, IsNeeded, IsAllowed}

-- a room of another name than that of the marks is a container
container : (tree : Tree) (number : ℕ) (room : Room) (name : Name) → IsCheckedTree tree → slice_get tree.rooms number ≡ Some room → room.name ≡ name → name ≢ marks_name → IsContainer (IsOfMark tree) room
container tree number room name c there named other = elim (c.shaped.rooms number room there) [
  | inl is_marks ↦ absurd (other (sym named ∙ is_marks.named))
  | inr is ↦ is
]

-- the name of the room of marks is no name of a file
not_logical : (room : Room) → IsLogicalName room.name → room.name ≡ marks_name → ⊥
not_logical room rule named = (subst (λ (n : Name). IsLogicalName n) named rule).no_dot refl

-- a room of this name is that of the marks
marks : (tree : Tree) (number : ℕ) (room : Room) (name : Name) → IsCheckedTree tree → slice_get tree.rooms number ≡ Some room → room.name ≡ name → name ≡ marks_name → IsMarksRoom room
marks tree number room name c there named is = elim (c.shaped.rooms number room there) [
  | inl is_marks ↦ is_marks
  | inr container ↦ absurd (not_logical room container.named (named ∙ is))
]

needed : (tree : Tree) (number : ℕ) (room : Room) (name folder : Name) → IsCheckedTree tree → slice_get tree.rooms number ≡ Some room → room.name ≡ name → IsNeeded name folder → has_folder room folder ≡ true
needed tree number room name folder c there named (inl (is, e)) = ap (has_folder room) e ∙ (marks tree number room name c there named is).has_marks
needed tree number room name folder c there named (inr (other, inl e)) = ap (has_folder room) e ∙ (container tree number room name c there named other).has_metadata
needed tree number room name folder c there named (inr (other, inr (inl e))) = ap (has_folder room) e ∙ (container tree number room name c there named other).has_truncs
needed tree number room name folder c there named (inr (other, inr (inr e))) = ap (has_folder room) e ∙ (container tree number room name c there named other).has_flats

allowed : (tree : Tree) (number : ℕ) (room : Room) (name folder : Name) → IsCheckedTree tree → slice_get tree.rooms number ≡ Some room → room.name ≡ name → has_folder room folder ≡ true → IsAllowed name folder
allowed tree number room name folder c there named has = elim (name_cases name marks_name) [
  | inl is ↦ inl (is, (marks tree number room name c there named is).folders folder has)
  | inr other ↦ inr (other, (container tree number room name c there named other).folders folder has)
]

dropping_of : (room : Room) (host writer : ℕ) (bytes : List ℕ) → IsCheckedRoom room → HasItem room (Index host writer) bytes → IsCheckedDropping writer bytes
dropping_of room host writer bytes c has =
    subst (λ (o : Option (List ℕ)). IsCheckedDropping writer (bytes_of o)) has.there (c.writers host writer (inl (bytes, has))).dropping

pub denied : (tree : Tree) (complaint : Complaint) → IsBroken tree complaint → IsCheckedTree tree → ⊥
denied tree (room_name name) (other, (number, room, there, named, wrong)) c = wrong (subst (λ (n : Name). IsLogicalName n) named (container tree number room name c there named other).named)
denied tree (no_folder name folder) (number, room, there, named, wrong) c =
    false≢true (sym wrong.0 ∙ needed tree number room name folder c there named wrong.1)
denied tree (no_access name) (other, (number, room, there, named, wrong)) c =
    let there_is : file_at room access_path ≡ Some [] = (container tree number room name c there named other).has_access in
    absurd (cc)
denied tree (foreign_folder name folder) (number, room, there, named, wrong) c =
    wrong.1 (allowed tree number room name folder c there named wrong.0)
denied tree (no_mark path) (number, room, there, named, wrong) c =
    wrong.2 ((marks tree number room marks_name c there named refl).files path wrong.0 wrong.1)
denied tree (foreign name path) (other, (number, room, there, named, wrong)) c =
    let file = (container tree number room name c there named other).files path wrong.0 wrong.1 in
    wrong.2 file.item file.is_at
denied tree (filled name path) (other, (number, room, there, named, (bytes, item, at, is, wrong))) c =
    let file = (container tree number room name c there named other).files path bytes at in
    wrong (subst (λ (i : Item). MayHold i bytes) (one_item path file.item item file.is_at is) file.holds)
denied tree (unmarked name path) (other, (number, room, there, named, (bytes, item, at, is, wrong))) c =
    let file = (container tree number room name c there named other).files path bytes at in
    wrong (subst (λ (i : Item). IsOfId (IsOfMark tree) i) (one_item path file.item item file.is_at is) file.id)
denied tree (two_hosts name writer) (number, room, there, named, wrong) c =
    wrong.4 (((c.rooms number room there).writers wrong.0 writer wrong.2).alone wrong.1 wrong.3)
denied tree (entry name path place) (number, room, there, named, (host, writer, bytes, at, has, (k, is, within, before, wrong))) c =
    wrong (in_order_take (k + 1) writer 0 0 (whole_entries bytes) (dropping_of room host writer bytes (c.rooms number room there) has).in_order)
denied tree (long_log name path) (number, room, there, named, (host, writer, bytes, at, has, wrong)) c =
    omega (arith, wrong, (dropping_of room host writer bytes (c.rooms number room there) has).small)
denied tree (unaccounted name path) (number, room, there, named, (host, writer, bytes, at, has, wrong)) c =
    wrong.2 (((c.rooms number room there).writers host writer (inl (bytes, has))).left wrong.0 wrong.1)
denied tree (untrue name path) (number, room, there, named, (last, bytes, stamp, host, writer, content, at, has, wrong)) c =
    wrong (((c.rooms number room there).writers host writer (inr (inr (record { last = last; bytes = bytes; stamp = stamp; content = content; has = has })))).told last bytes stamp content has)
denied tree (unsettled name path) (number, room, there, named, (host, writer, bytes, at, has, wrong)) c =
    wrong.1 (((c.rooms number room there).writers host writer (inl (bytes, has))).settled wrong.0)
denied tree (between name path stamp) (number, room, there, named, (host, writer, bytes, at, has, wrong)) c =
    wrong.3 (((c.rooms number room there).writers host writer (inl (bytes, has))).beside stamp wrong.0 wrong.1 wrong.2)
denied tree (two_truncates name stamp) (number, room, there, named, wrong) c =
    wrong.6 ((c.rooms number room there).truncates stamp wrong.0 wrong.1 wrong.2 wrong.3 wrong.4 wrong.5)
denied tree (wrong_index name path) (number, room, there, named, (makes, id, bytes, at, has, wrong)) c =
    wrong ((c.rooms number room there).flats makes id bytes has).0
denied tree (unkept name path) (number, room, there, named, (makes, id, bytes, at, has, wrong)) c =
    let fits : length bytes ≤ kept_at room (installed_of makes id) = ((c.rooms number room there).flats makes id bytes has).1 in
    let same : kept_at room path ≡ kept_at room (installed_of makes id) = ap (kept_at room) at in
    omega (arith, wrong, fits, same)
