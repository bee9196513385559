-- What is shown of the bytes of one file.
use Rattle.std.proofs.Common.{◌≡◌, ℕ, ◌+◌, ◌-◌, ◌≤◌, ◌<◌, true, false, List, [], ◌++◌, length, take, drop, Option, Some, None, Result, Ok, Err, refl, ap, sym, ◌∙◌, arith}
use Rattle.std.specs.Prelude.{slice_get, is_some, min, IfOk, IfErr}
use Rattle.std.proofs.Math.Seq.{take-add}
use Rattle.std.proofs.lemmas.List.{length-drop, length-take-le, take_all}
use Rattle.plfs_types.specs.declared.names.Path.{Path}
use Rattle.store_api.specs.declared.tree.Room.{Room}
use Rattle.store_api.specs.declared.tree.Tree.{Tree}
use Rattle.store_api.specs.Acts.{Stored}
use Rattle.store_laws.specs.Files.{file_at}
use Rattle.mount_sound.specs.Dropping.{bytes_of}
use Rattle.shape_check.specs.declared.files.Place.{Place}
use Rattle.shape_check.specs.declared.finding.Finding.{Finding}
use Rattle.shape_check.specs.declared.finding.Finding.TheVariants.{Untold}
use Rattle.shape_check.specs.Files.{IsPlaced, OfPlace}
use Rattle.shape_check.specs.Rightness.{Fails}
use Rattle.shape_check.specs.Seeing.{IsSeen, IsLookedAt, IsOrderlyFile}
use Rattle.shape_check.specs.Told.{TellsLength, TellsBytes}
use Rattle.shape_check.proofs.Facts.{no_file, risen_on, seen_on}
pub use Rattle.shape_check.proofs.Facts.{fails_on, no_memory, looked_same, looked_on, no_place}
use Rattle.tree_check.specs.Whole.{HasFileOf}

abbrev pub ShowsLength : Stored → ℕ → Path → Option ℕ → Type 0
ShowsLength old number path found = (tree : Tree) (held : Room) → IsSeen old tree → slice_get tree.rooms number ≡ Some held → TellsLength held path found

pub its_file : (place : Place) (tree : Tree) (at : IsPlaced place tree) (path : Path) → TellsLength at.room path None → file_at at.room path ≡ None
its_file place tree at path t = no_file at.room path (λ bytes b. (at.listable.orderly.rooms place.number at.room at.there).housed path bytes b) t

pub length_some : (place : Place) (old : Stored) (path : Path) (len : ℕ) → ShowsLength old place.number path (Some len) → OfPlace (λ tree room. length (bytes_of (file_at room path)) ≡ len) place old
length_some place old path len shows = λ tree seen at. (let t = shows tree at.room seen at.there in ap (λ (f : Option (List ℕ)). length (bytes_of f)) t.1 ∙ t.2)

pub length_none : (place : Place) (old : Stored) (path : Path) → ShowsLength old place.number path None → OfPlace (λ tree room. length (bytes_of (file_at room path)) ≡ 0) place old
length_none place old path shows = λ tree seen at. ap (λ (f : Option (List ℕ)). length (bytes_of f)) (its_file place tree at path (shows tree at.room seen at.there))

pub is_there : (place : Place) (old : Stored) (path : Path) (len : ℕ) → ShowsLength old place.number path (Some len) → OfPlace (λ tree room. is_some (file_at room path) ≡ true) place old
is_there place old path len shows = λ tree seen at. ap is_some (shows tree at.room seen at.there).1

pub is_gone : (place : Place) (old : Stored) (path : Path) → ShowsLength old place.number path None → OfPlace (λ tree room. is_some (file_at room path) ≡ false) place old
is_gone place old path shows = λ tree seen at. ap is_some (its_file place tree at path (shows tree at.room seen at.there))

pub none_read : (place : Place) (old : Stored) (path : Path) → ShowsLength old place.number path None → OfPlace (λ tree room. bytes_of (file_at room path) ≡ []) place old
none_read place old path shows = λ tree seen at. ap bytes_of (its_file place tree at path (shows tree at.room seen at.there))

-- ---- a file of this length

abbrev HasIt : Stored → Place → Path → ℕ → List ℕ → Type 0
HasIt old place path size bytes = (tree : Tree) → IsSeen old tree → (has : HasFileOf place path size tree) → has.bytes ≡ bytes

its_length : (place : Place) (path : Path) (size : ℕ) (old mid : Stored) → IsLookedAt old mid → ShowsLength old place.number path (Some size) → (tree : Tree) → IsSeen old tree → IsPlaced place tree → HasFileOf place path size tree
its_length place path size old mid looked shows tree seen at = (let t = shows tree at.room seen at.there in record { placed = at; bytes = t.0; there = t.1; long = t.2 })

pub whole_read : (place : Place) (path : Path) (size : ℕ) (old mid : Stored) (result : Result (List ℕ) Finding) → IsLookedAt old mid → ShowsLength old place.number path (Some size) → IfOk result (HasIt mid place path size) → IfOk result (λ bytes. OfPlace (λ tree room. bytes_of (file_at room path) ≡ bytes) place old)
unfolding its_length
whole_read place path size old mid (Err finding) looked shows has = tt
whole_read place path size old mid (Ok bytes) looked shows has = λ tree seen at. (
    let it = its_length place path size old mid looked shows tree seen at in
    ap bytes_of it.there ∙ has tree (seen_on old mid tree looked seen) it)

pub whole_fails : (place : Place) (path : Path) (size : ℕ) (old mid new : Stored) (result : Result (List ℕ) Finding) → IsLookedAt old mid → ShowsLength old place.number path (Some size) → IfErr result (Fails (HasFileOf place path size) mid new) → IfErr result (Fails (IsPlaced place) old new)
whole_fails place path size old mid new (Ok bytes) looked shows f = tt
whole_fails place path size old mid new (Err finding) looked shows f = record {
  cause = λ e. risen_on old.faults mid.faults new.faults looked.counted (f.cause e);
  right = λ tree seen at. f.right tree (seen_on old mid tree looked seen) (its_length place path size old mid looked shows tree seen at);
}

-- ---- piece by piece

pub file_orderly : (place : Place) (path : Path) (size : ℕ) (old new : Stored) (finding : Finding) → Fails (IsOrderlyFile place.number path) old new finding → Fails (HasFileOf place path size) old new finding
file_orderly place path size old new finding f = record {
  cause = f.cause;
  right = λ tree seen has. f.right tree seen (has.placed.room, has.placed.there, (has.placed.listable.orderly.rooms place.number has.placed.room has.placed.there).housed path has.bytes has.there, (has.bytes, has.there));
}

abbrev ShowsBytes : Stored → ℕ → Path → ℕ → ℕ → List ℕ → Type 0
ShowsBytes old number path at len bytes = (tree : Tree) (held : Room) → IsSeen old tree → slice_get tree.rooms number ≡ Some held → TellsBytes held path at len bytes

pub piece_read : (place : Place) (path : Path) (size at len : ℕ) (old : Stored) (bytes : List ℕ) → ShowsBytes old place.number path at len bytes → (tree : Tree) → IsSeen old tree → (has : HasFileOf place path size tree) → bytes ≡ take len (drop at has.bytes)
piece_read place path size at len old bytes shows tree seen has =
    let t = shows tree has.placed.room seen has.placed.there in
    let same : t.0 ≡ has.bytes = cc in
    t.2 ∙ ap (λ (l : List ℕ). take len (drop at l)) same

long_enough : (all : List ℕ) (size at most : ℕ) → length all ≡ size → at < size → length (take (min (size - at) most) (drop at all)) ≡ min (size - at) most
long_enough all size at most long less = length-take-le (min (size - at) most) (drop at all) (omega (arith, length-drop at all, long))

pub piece_short : (place : Place) (path : Path) (size at most len : ℕ) (old new : Stored) (bytes : List ℕ) → ShowsBytes old place.number path at len bytes → at < size → len ≡ min (size - at) most → (length bytes ≡ len → ⊥) → Fails (HasFileOf place path size) old new Untold
piece_short place path size at most len old new bytes shows less is short = record {
  cause = λ e. absurd (cc);
  right = λ tree seen has. absurd (short (
      ap (λ (l : List ℕ). length l) (piece_read place path size at len old bytes shows tree seen has)
      ∙ ap (λ (n : ℕ). length (take n (drop at has.bytes))) is ∙ long_enough has.bytes size at most has.long less ∙ sym is));
}

-- the bytes so far
abbrev pub HasFirst : Stored → Place → Path → ℕ → ℕ → List ℕ → Type 0
HasFirst old place path size at bytes = (tree : Tree) → IsSeen old tree → (has : HasFileOf place path size tree) → bytes ≡ take at has.bytes

pub first_none : (old : Stored) (place : Place) (path : Path) (size : ℕ) → HasFirst old place path size 0 []
first_none old place path size = λ tree seen has. refl

pub first_more : (old mid : Stored) (place : Place) (path : Path) (size at some : ℕ) (before bytes after : List ℕ) → IsLookedAt old mid → HasFirst old place path size at before
    → ((tree : Tree) → IsSeen mid tree → (has : HasFileOf place path size tree) → bytes ≡ take some (drop at has.bytes)) → after ≡ before ++ bytes → HasFirst old place path size (at + some) after
first_more old mid place path size at some before bytes after looked first next e = λ tree seen has.
    e ∙ ap (λ (l : List ℕ). l ++ bytes) (first tree seen has) ∙ ap (λ (l : List ℕ). take at has.bytes ++ l) (next tree (seen_on old mid tree looked seen) has) ∙ sym (take-add at some has.bytes)

pub first_all : (old : Stored) (place : Place) (path : Path) (size at : ℕ) (bytes : List ℕ) → size ≤ at → HasFirst old place path size at bytes → HasIt old place path size bytes
first_all old place path size at bytes past first = λ tree seen has. sym (first tree seen has ∙ take_all at has.bytes (omega (arith, past, has.long)))
