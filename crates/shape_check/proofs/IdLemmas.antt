-- Ids that mounts with a mark may have drawn.
use Rattle.std.proofs.Common.{◌≡◌, ℕ, ◌+◌, ◌*◌, ◌/◌, ◌%◌, ◌^◌, ◌≤◌, ◌<◌, inl, inr, ◌↔◌, Bool, false, List, [], length, Option, Some, None, ap, sym, ◌∙◌, subst, arith}
use Rattle.std.specs.Prelude.{slice_get, IsTrue}
use Rattle.std.proofs.lemmas.Bool.{cases_lt, false≢true}
use Rattle.plfs_types.specs.declared.names.Path.{Path}
use Rattle.store_api.specs.declared.tree.Room.{Room}
use Rattle.store_api.specs.declared.tree.Tree.{Tree}
use Rattle.store_api.specs.Acts.{Stored}
use Rattle.store_laws.specs.Files.{file_at}
use Rattle.mount_model.specs.Paths.{mark_name, mark_path}
use Rattle.store_api.specs.Names.{marks_folder}
use Rattle.store_api.specs.Names.{marks_name}
use Rattle.mount_sound.specs.Marks.{IsOfMark}
use Rattle.shape_check.specs.declared.finding.Finding.{Finding}
use Rattle.shape_check.specs.Places.{HasMarks}
use Rattle.shape_check.specs.Rightness.{Fails}
use Rattle.shape_check.specs.Seeing.{IsSeen, HasRoom}
use Rattle.shape_check.specs.Told.{TellsLength}
use Rattle.shape_check.proofs.MarkLemmas.{no_file, empty}

pub marks_room : (number : ℕ) (old new : Stored) (finding : Finding) → Fails (HasRoom number) old new finding → Fails (HasMarks (Some number)) old new finding
marks_room number old new finding f = record { cause = f.cause; right = λ tree seen has. f.right tree seen (has.tells.room, has.tells.has_room) }

-- an id whose lower half is 0 is none
pub no_serial : (tree : Tree) (id : ℕ) → id % 2 ^ 32 ≡ 0 → IsTrue false ↔ IsOfMark tree id
no_serial tree id none = (λ wrong. absurd (false≢true wrong), λ is. (let some : 1 ≤ is.serial = is.some in let fits : is.serial < 2 ^ 32 = is.serial_fits in absurd (omega (arith, none, some, fits, is.is))))

same_room : (tree : Tree) (number : ℕ) → HasMarks (Some number) tree → (other : ℕ) (room : Room) → slice_get tree.rooms other ≡ Some room → room.name ≡ marks_name → slice_get tree.rooms number ≡ Some room
same_room tree number has other room there named =
    let e : other ≡ number = has.listable.orderly.rooms_differ other number room has.tells.room there has.tells.has_room (named ∙ sym has.tells.named) in
    ap (slice_get tree.rooms) (sym e) ∙ there

mount_of : (id mount serial : ℕ) → id ≡ mount * 4294967296 + serial → serial < 4294967296 → mount ≡ id / 4294967296
mount_of id mount serial e fits = omega arith

parts_of : (id : ℕ) → id ≡ (id / 4294967296) * 4294967296 + id % 4294967296
parts_of id = omega arith

serial_fits : (id : ℕ) → id % 4294967296 < 4294967296
serial_fits id = omega arith

mount_fits : (id : ℕ) → id < 2 ^ 64 → id / 4294967296 < 4294967296
mount_fits id fits = omega arith

some_serial : (n : ℕ) → (n ≡ 0 → ⊥) → 1 ≤ n
some_serial n some = elim (cases_lt 0 n) [
  | inl more ↦ omega (arith, more)
  | inr none ↦ absurd (some (omega (arith, none)))
]

-- the mark of its mount is there, and empty, just where it is one
pub drawn : (old : Stored) (number id : ℕ) (found : Option ℕ) (is : Bool) → id < 2 ^ 64 → (id % 4294967296 ≡ 0 → ⊥)
    → ((tree : Tree) (held : Room) → IsSeen old tree → slice_get tree.rooms number ≡ Some held → TellsLength held (record { folder = marks_folder; file = mark_name (id / 4294967296) }) found)
    → (IsTrue is ↔ (found ≡ Some 0)) → (tree : Tree) → IsSeen old tree → HasMarks (Some number) tree → IsTrue is ↔ IsOfMark tree id
drawn old number id found is fits some shows rule tree seen has = (λ true_is. there (rule.0 true_is), λ of_mark. rule.1 (empty_is of_mark))
  where
    path : Path
    path = mark_path (id / 4294967296)

    there : found ≡ Some 0 → IsOfMark tree id
    there e =
        let t : TellsLength has.tells.room path (Some 0) = subst (λ (f : Option ℕ). TellsLength has.tells.room path f) e (shows tree has.tells.room seen has.tells.has_room) in
        record {
          mount = id / 4294967296;
          serial = id % 4294967296;
          has_mark = record { number = number; room = has.tells.room; there = has.tells.has_room; named = has.tells.named; mark = t.1 ∙ ap Some (empty t.0 t.2) };
          mount_fits = mount_fits id fits;
          some = some_serial (id % 4294967296) some;
          serial_fits = serial_fits id;
          is = parts_of id;
        }

    of : (room : Room) (f : Option ℕ) → slice_get tree.rooms number ≡ Some room → file_at room path ≡ Some [] → TellsLength room path f → f ≡ Some 0
    of room None at mark t =
        let gone : file_at room path ≡ None = no_file room path (λ bytes b. (has.listable.orderly.rooms number room at).housed path bytes b) t in
        absurd (cc)
    of room (Some len) at mark t =
        let same : t.0 ≡ [] = cc in
        ap Some (sym t.2 ∙ ap (λ (l : List ℕ). length l) same)

    empty_is : IsOfMark tree id → found ≡ Some 0
    empty_is m =
        let here : slice_get tree.rooms number ≡ Some m.has_mark.room = same_room tree number has m.has_mark.number m.has_mark.room m.has_mark.there m.has_mark.named in
        let its : m.mount ≡ id / 4294967296 = mount_of id m.mount m.serial m.is m.serial_fits in
        of m.has_mark.room found here (ap (λ (n : ℕ). file_at m.has_mark.room (mark_path n)) (sym its) ∙ m.has_mark.mark) (shows tree m.has_mark.room seen here)

-- where there is no room of marks no id is one
pub no_marks : (tree : Tree) (id : ℕ) → HasMarks None tree → IsTrue false ↔ IsOfMark tree id
no_marks tree id has = (λ wrong. absurd (false≢true wrong), λ m. absurd (has.tells m.has_mark.number m.has_mark.room m.has_mark.there m.has_mark.named))
