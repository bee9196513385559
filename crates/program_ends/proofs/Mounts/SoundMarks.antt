-- A mounting of a sound tree shows no damage.
use Rattle.std.proofs.Common.{ℕ, ◌≡◌, ◌⊎◌, inl, inr, true, false, ◌||◌, if◌then◌else◌, List, [], get_or, slice_get, Option, Some, None, IfOk, Result, Ok, Err, refl, sym, ap, ◌∙◌, subst, arith}
use Rattle.std.specs.List.{Any, find, position}
use Rattle.std.specs.Option.{is_some}
use Rattle.std.proofs.lemmas.List.Folds.{list_any-from_Any}
use Rattle.std.proofs.lemmas.List.Quantifiers.{position-Some}
use Rattle.std.proofs.lemmas.Option.{get_or_from_slice_get}
use Rattle.plfs_types.specs.Names.{IsLogicalName}
use Rattle.plfs_types.specs.declared.names.Path.{Path}
use Rattle.store_api.specs.declared.step.Answer.TheVariants.{Names, NoFolder}
use Rattle.store_api.specs.declared.tree.Room.{Room}
use Rattle.store_api.specs.declared.tree.Tree.{Tree}
use Rattle.store_api.specs.Acts.{Stored}
use Rattle.store_api.specs.Effect.{effect, or_no_room, room_after}
use Rattle.store_api.specs.Names.{same_name}
use Rattle.store_api.specs.Room as rooms
use Rattle.store_api.specs.Step.{Name}
use Rattle.store_laws.specs.Differ.{is_listed}
use Rattle.store_laws.specs.Files.{file_at}
use Rattle.store_laws.specs.Says.{ListTells}
use Rattle.store_laws.specs.There.{ListsFolder, has_entry}
use Rattle.store_laws.proofs.Facts.{list_tells, name_eq, name_same}
use Rattle.mount_model.specs.Failing.{FailsToMount}
use Rattle.mount_model.specs.Listed.{IsLeastOther, IsMarkOf}
use Rattle.mount_model.specs.Mounting.{list_step}
use Rattle.store_api.specs.Names.{marks_folder}
use Rattle.store_api.specs.Names.{marks_name}
use Rattle.mount_model.specs.declared.mount_trouble.MountTrouble.{MountTrouble}
use Rattle.mount_model.specs.declared.mount_trouble.MountTrouble.TheVariants as trouble
use Rattle.mount_sound.specs.Container.{IsContainer}
use Rattle.mount_sound.specs.Marks.{IsMarksRoom, IsOfMark}
use Rattle.mount_sound.specs.Sound.{IsSoundTree}
use Rattle.script_lang.specs.declared.line.Line.{Line}
use Rattle.script_lang.specs.declared.line.Outcome.{Outcome}
use Rattle.script_lang.specs.declared.line.Outcome.TheVariants as of
use Rattle.script_lang.specs.declared.line.Why.TheVariants.{MountsSpent}
use Rattle.program_ends.specs.Mounting.{AreDamagedAt, AreWhy, IsUnmounted, listed_in, listed_or_none, listed_marks, unmounted_of}
use Rattle.program_ends.specs.Outcomes.{has_line, is_damage}
use Rattle.program_ends.specs.SoundTrees.{TellsSoundTree}
use Rattle.program_ends.proofs.Mounts.MountLemmas.{find_nowhere, find_there, is_marks_room, why_fails}

-- ---- the room of the marks

-- a room of this name is no container
dotted_name : IsLogicalName marks_name → ⊥
dotted_name logical = logical.no_dot refl

marks_of : (allowed : ℕ → Type 0) (room : Room) → room.name ≡ marks_name → IsMarksRoom room ⊎ IsContainer allowed room → IsMarksRoom room
marks_of allowed room named is = elim is as (λ _. IsMarksRoom room) [
  | inl m ↦ m
  | inr c ↦ absurd (dotted_name (subst IsLogicalName named c.named))
]

-- the room that is found by its name
record IsFound (tree : Tree) (room : Room) : Type 0 where
  place : ℕ
  there : slice_get tree.rooms place ≡ Some room
  named : room.name ≡ marks_name

same_room : (a b : Room) → Some a ≡ Some b → a ≡ b
same_room a b e = cc

found : (tree : Tree) (room : Room) → find is_marks_room tree.rooms ≡ Some room → IsFound tree room
found tree room is = elim (position is_marks_room tree.rooms) as (λ o. position is_marks_room tree.rooms ≡ o → IsFound tree room) [
  | None ↦ λ none. (let bad : None ≡ Some room = sym (find_nowhere is_marks_room tree.rooms none) ∙ is in absurd (cc))
  | Some i ↦ λ at.
      let there : slice_get tree.rooms i ≡ Some room = (find_there is_marks_room tree.rooms i at).0 ∙ is in
      let passes : is_marks_room (get_or tree.rooms i room) ≡ true = (position-Some is_marks_room tree.rooms i room at).1 in
      record { place = i; there = there; named = name_eq room.name marks_name (subst (λ r. is_marks_room r ≡ true) (get_or_from_slice_get tree.rooms i room room there) passes) }
] refl

-- ---- what is listed in it

listed_answer : (tree : Tree) (n : ℕ) (room : Room) → slice_get tree.rooms n ≡ Some room → rooms.has_folder room marks_folder ≡ true → (effect tree (list_step n)).answer ≡ Names (rooms.listing room marks_folder)
listed_answer tree n room at has =
    ap (λ o. (or_no_room tree n (λ r. rooms.folder_listed r marks_folder) o).answer) at
    ∙ ap (λ h. (room_after tree n (if h then rooms.stays room (Names (rooms.listing room marks_folder)) else rooms.stays room NoFolder)).answer) has

lists_folder : (tree : Tree) (n : ℕ) (room : Room) → slice_get tree.rooms n ≡ Some room → rooms.has_folder room marks_folder ≡ true → ListsFolder tree n marks_folder (rooms.listing room marks_folder)
lists_folder tree n room at has = subst (ListTells tree n marks_folder) (listed_answer tree n room at has) (list_tells tree n marks_folder).says_so

listed_so : (name : Name) (names : List Name) → Any (λ other. other ≡ name) names → is_listed name names ≡ true
listed_so name names any =
    let is : same_name any.1 name ≡ true = name_same any.1 name any.4 in
    list_any-from_Any (λ other. same_name other name) names (any.0, any.1, any.2, any.3, is)

-- ---- a name in it is a mark

marked : (room : Room) (m : IsMarksRoom room) (name : Name) (file : Option (List ℕ)) → file_at room (record { folder = marks_folder; file = name }) ≡ file → (is_some file || false) ≡ true → (n : ℕ) × IsMarkOf name n
marked room m name None at has = cc
marked room m name (Some bytes) at has =
    let is = m.files (record { folder = marks_folder; file = name }) bytes at in
    (is.0, ((is.1, is.2), ap (λ (p : Path). p.file) is.3))

none_other : (tree : Tree) (room : Room) (name : Name) → IsSoundTree tree → find is_marks_room tree.rooms ≡ Some room → AreDamagedAt name (listed_in room) → ⊥
none_other tree room name sound is damaged =
    let f = found tree room is in
    let m = marks_of (IsOfMark tree) room f.named (sound.shaped.rooms f.place room f.there) in
    let names : List Name = rooms.listing room marks_folder in
    let least : IsLeastOther IsMarkOf names name = subst (AreDamagedAt name) (ap (λ h. if h then Some (rooms.listing room marks_folder) else None) m.has_marks) damaged in
    let l = lists_folder tree f.place room f.there m.has_marks in
    let one : l.room ≡ room = same_room l.room room (sym l.has_room ∙ f.there) in
    let has : has_entry room marks_folder name ≡ true = ap (λ r. has_entry r marks_folder name) (sym one) ∙ sym (l.entries.exactly name) ∙ listed_so name names least.there in
    let mark = marked room m name (file_at room (record { folder = marks_folder; file = name })) refl has in
    least.foreign mark.0 mark.1

undamaged_marks : (tree : Tree) (name : Name) → IsSoundTree tree → AreDamagedAt name (listed_marks tree) → ⊥
undamaged_marks tree name sound damaged = elim (find is_marks_room tree.rooms) as (λ o. find is_marks_room tree.rooms ≡ o → AreDamagedAt name (listed_or_none o) → ⊥) [
  | None ↦ λ none least. (let less = least.there.2 in omega (arith, less))
  | Some room ↦ λ is least. none_other tree room name sound is least
] refl damaged

-- ---- what is said of a mounting that broke off

undamaged_trouble : (why : MountTrouble) (tree : Tree) (outcome : Outcome) → IsSoundTree tree → AreWhy (listed_marks tree) why → unmounted_of why ≡ Some outcome → is_damage outcome ≡ false
undamaged_trouble (trouble.Damaged file) tree outcome sound because is = absurd (undamaged_marks tree file sound because)
undamaged_trouble trouble.NoMarks tree outcome sound because is = absurd (undamaged_marks tree [] sound because)
undamaged_trouble trouble.Spent tree outcome sound because is = let same : outcome ≡ of.Refused MountsSpent = cc in ap is_damage same
undamaged_trouble trouble.Fault tree outcome sound because is = let same : outcome ≡ of.Fault = cc in ap is_damage same
undamaged_trouble trouble.NoMemory tree outcome sound because is = cc

-- line 0 shows none
pub unmounted_undamaged : (before after : Stored) (why : MountTrouble) (lines : List Line) → FailsToMount before why after → IsUnmounted why lines → TellsSoundTree before → has_line is_damage lines ≡ false
unmounted_undamaged before after why lines failed (outcome, told, only) (tree, is, sound) =
    let none : is_damage outcome ≡ false = undamaged_trouble why tree outcome sound (why_fails before after why failed tree is) told in
    ap (λ ls. has_line is_damage ls) only ∙ ap (λ b. b || false) none

pub all_unmounted_undamaged : {E : Type 0} (before after : Stored) (why : MountTrouble) (result : Result (List Line) E) → FailsToMount before why after → IfOk result (IsUnmounted why) → IfOk result (λ lines. TellsSoundTree before → has_line is_damage lines ≡ false)
all_unmounted_undamaged before after why (Ok lines) failed only = unmounted_undamaged before after why lines failed only
all_unmounted_undamaged before after why (Err e) failed only = tt
