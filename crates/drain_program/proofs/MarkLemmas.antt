-- The marks of a sound tree are no damage.
use Rattle.std.proofs.Common.{ℕ, suc, ◌≡◌, ◌⊎◌, inl, inr, Bool, true, false, ◌||◌, List, [], ◌∷◌, Option, Some, None, refl, sym, ap, ◌∙◌, subst, arith}
use Rattle.std.specs.Prelude.{if◌then◌else◌, slice_get}
use Rattle.std.specs.List.{Any, find}
use Rattle.std.specs.Option.{is_some}
use Rattle.std.proofs.lemmas.Bool.{cases_Bool, cond-true, cond-false}
use Rattle.std.proofs.lemmas.List.Folds.{list_any-from_Any}
use Rattle.plfs_types.specs.Names.{IsLogicalName}
use Rattle.plfs_types.specs.declared.names.Path.{Path}
use Rattle.store_api.specs.declared.step.Answer.TheVariants.{Names, NoFolder}
use Rattle.store_api.specs.declared.tree.Room.{Room}
use Rattle.store_api.specs.declared.tree.Tree.{Tree}
use Rattle.store_api.specs.Effect.{effect, or_no_room, room_after}
use Rattle.store_api.specs.Names.{same_name}
use Rattle.store_api.specs.Room as rooms
use Rattle.store_api.specs.Step.{Name}
use Rattle.store_laws.specs.Differ.{is_listed}
use Rattle.store_laws.specs.Files.{file_at}
use Rattle.store_laws.specs.Says.{ListTells}
use Rattle.store_laws.specs.There.{ListsFolder, has_entry}
use Rattle.store_laws.proofs.Facts.{list_tells, name_eq, name_same}
use Rattle.mount_model.specs.Listed.{IsLeastOther, IsMarkOf}
use Rattle.mount_model.specs.Mounting.{list_step}
use Rattle.store_api.specs.Names.{marks_folder}
use Rattle.store_api.specs.Names.{marks_name}
use Rattle.mount_sound.specs.Container.{IsContainer}
use Rattle.mount_sound.specs.Marks.{IsMarksRoom, IsOfMark}
use Rattle.mount_sound.specs.Sound.{IsSoundTree}
use Rattle.program_ends.specs.Mounting.{AreDamagedAt, listed_in, listed_marks, listed_or_none}

-- ---- the room of the marks

-- a room of this name is no container
dotted_name : IsLogicalName marks_name → ⊥
dotted_name logical = logical.no_dot refl

marks_of : (allowed : ℕ → Type 0) (room : Room) → room.name ≡ marks_name → IsMarksRoom room ⊎ IsContainer allowed room → IsMarksRoom room
marks_of allowed room named is = elim is as (λ _. IsMarksRoom room) [
  | inl m ↦ m
  | inr c ↦ absurd (dotted_name (subst IsLogicalName named c.named))
]

abbrev is_marks_room : Room → Bool
is_marks_room room = same_name room.name marks_name

-- the room that is found by its name
record IsFound (all : List Room) (room : Room) : Type 0 where
  place : ℕ
  there : slice_get all place ≡ Some room
  named : same_name room.name marks_name ≡ true

found : (all : List Room) (room : Room) → find is_marks_room all ≡ Some room → IsFound all room
found [] room e = absurd (cc)
found (r ∷ all) room e = elim (cases_Bool (is_marks_room r)) as (λ _. IsFound (r ∷ all) room) [
  | inl is_it ↦
      let told : Some r ≡ Some room = sym (cond-true (is_marks_room r) (Some r) (find is_marks_room all) is_it) ∙ e in
      let same : r ≡ room = cc in
      record { place = 0; there = ap (λ x. Some x) same; named = subst (λ x. is_marks_room x ≡ true) same is_it }
  | inr other ↦
      let rest = found all room (sym (cond-false (is_marks_room r) (Some r) (find is_marks_room all) other) ∙ e) in
      record { place = suc rest.place; there = rest.there; named = rest.named }
]

same_room : (a b : Room) → Some a ≡ Some b → a ≡ b
same_room a b e = cc

-- ---- what is listed in it

listed_answer : (tree : Tree) (n : ℕ) (room : Room) → slice_get tree.rooms n ≡ Some room → rooms.has_folder room marks_folder ≡ true → (effect tree (list_step n)).answer ≡ Names (rooms.listing room marks_folder)
listed_answer tree n room at has =
    ap (λ o. (or_no_room tree n (λ r. rooms.folder_listed r marks_folder) o).answer) at
    ∙ ap (λ h. (room_after tree n (if h then rooms.stays room (Names (rooms.listing room marks_folder)) else rooms.stays room NoFolder)).answer) has

lists_folder : (tree : Tree) (n : ℕ) (room : Room) → slice_get tree.rooms n ≡ Some room → rooms.has_folder room marks_folder ≡ true → ListsFolder tree n marks_folder (rooms.listing room marks_folder)
lists_folder tree n room at has = subst (ListTells tree n marks_folder) (listed_answer tree n room at has) (list_tells tree n marks_folder).says_so

listed_so : (name : Name) (names : List Name) → Any (λ other. other ≡ name) names → is_listed name names ≡ true
listed_so name names any =
    let is : same_name any.1 name ≡ true = name_same any.1 name any.4 in
    list_any-from_Any (λ other. same_name other name) names (any.0, any.1, any.2, any.3, is)

-- ---- a name in it is a mark

marked : (room : Room) (m : IsMarksRoom room) (name : Name) (file : Option (List ℕ)) → file_at room (record { folder = marks_folder; file = name }) ≡ file → (is_some file || false) ≡ true → (n : ℕ) × IsMarkOf name n
marked room m name None at has = cc
marked room m name (Some bytes) at has =
    let is = m.files (record { folder = marks_folder; file = name }) bytes at in
    (is.0, ((is.1, is.2), ap (λ (p : Path). p.file) is.3))

none_other : (tree : Tree) (room : Room) (name : Name) → IsSoundTree tree → find is_marks_room tree.rooms ≡ Some room → AreDamagedAt name (listed_in room) → ⊥
none_other tree room name sound is damaged =
    let f = found tree.rooms room is in
    let m = marks_of (IsOfMark tree) room (name_eq room.name marks_name f.named) (sound.shaped.rooms f.place room f.there) in
    let names : List Name = rooms.listing room marks_folder in
    let least : IsLeastOther IsMarkOf names name = subst (AreDamagedAt name) (ap (λ h. if h then Some (rooms.listing room marks_folder) else None) m.has_marks) damaged in
    let l = lists_folder tree f.place room f.there m.has_marks in
    let one : l.room ≡ room = same_room l.room room (sym l.has_room ∙ f.there) in
    let has : has_entry room marks_folder name ≡ true = ap (λ r. has_entry r marks_folder name) (sym one) ∙ sym (l.entries.exactly name) ∙ listed_so name names least.there in
    let mark = marked room m name (file_at room (record { folder = marks_folder; file = name })) refl has in
    least.foreign mark.0 mark.1

pub undamaged_marks : (tree : Tree) (name : Name) → IsSoundTree tree → AreDamagedAt name (listed_marks tree) → ⊥
undamaged_marks tree name sound damaged = elim (find is_marks_room tree.rooms) as (λ o. find is_marks_room tree.rooms ≡ o → AreDamagedAt name (listed_or_none o) → ⊥) [
  | None ↦ λ none least. (let less = least.there.2 in omega (arith, less))
  | Some room ↦ λ is least. none_other tree room name sound is least
] refl damaged
