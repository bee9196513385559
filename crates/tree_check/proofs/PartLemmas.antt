-- What is shown of entries that are read part by part.
use Rattle.std.proofs.Common.{◌≡◌, ℕ, zero, suc, ◌+◌, ◌-◌, ◌*◌, ◌≤◌, ◌<◌, ◌⊎◌, inl, inr, min, List, [], ◌∷◌, ◌++◌, length, take, drop, Option, Some, None, refl, ap, sym, ◌∙◌, subst, append_assoc, arith}
use Rattle.std.specs.Int.{w64, from_le_bytes}
use Rattle.std.proofs.Math.Seq.{take-add}
use Rattle.std.proofs.lemmas.Bool.{cases_lt}
use Rattle.std.proofs.lemmas.List.{drop-drop, drop-take, length-drop, length-take-le, take-take, take_all}
use Rattle.plfs_types.specs.declared.entries.Entry.{Entry}
use Rattle.plfs_types.specs.declared.names.Path.{Path}
use Rattle.index_entry.specs.Records.{IsBytes}
use Rattle.index_entry.specs.Spelling.{entry_in, number_in}
use Rattle.store_api.specs.declared.tree.Tree.{Tree}
use Rattle.store_api.specs.Acts.{Stored}
use Rattle.store_laws.specs.Files.{file_at}
use Rattle.mount_sound.specs.Dropping.{bytes_of}
use Rattle.tree_laws.specs.Checked.{whole_entries}
use Rattle.shape_check.specs.declared.files.Place.{Place}
use Rattle.shape_check.specs.Seeing.{IsSeen, IsLookedAt}
use Rattle.shape_check.proofs.Facts.{seen_on}
use Rattle.tree_check.specs.Entries.{AreEntriesIn}
use Rattle.tree_check.specs.Whole.{HasFileOf, HasLength}
use Rattle.tree_check.proofs.EntryLemmas.{AreSoFar, front_first, so_far_all}

-- ---- an entry of the first bytes

front_again : (place n m : ℕ) (xs : List ℕ) → place + n ≤ m → take n (drop place (take m xs)) ≡ take n (drop place xs)
front_again place n m xs l =
    let rest : m ≡ place + (m - place) = omega (arith, l) in
    ap (λ (k : ℕ). take n (drop place (take k xs))) rest ∙ ap (λ (ys : List ℕ). take n ys) (drop-take place (m - place) xs) ∙ take-take n (m - place) (drop place xs) (omega (arith, l))

number_again : (place m : ℕ) (bytes : List ℕ) → place + 8 ≤ m → number_in place (take m bytes) ≡ number_in place bytes
number_again place m bytes l = ap (from_le_bytes w64) (front_again place 8 m bytes l)

entry_again : (m : ℕ) (bytes : List ℕ) → 40 ≤ m → entry_in (take m bytes) ≡ entry_in bytes
unfolding entry_in
entry_again m bytes l = λ i. record {
  at = number_again 0 m bytes (omega (arith, l)) i;
  len = number_again 8 m bytes (omega (arith, l)) i;
  physical = number_again 16 m bytes (omega (arith, l)) i;
  stamp = number_again 24 m bytes (omega (arith, l)) i;
  writer = number_again 32 m bytes (omega (arith, l)) i;
}

-- ---- the entries of the first bytes, and those of the rest

split_none : (bytes : List ℕ) → whole_entries (take 0 bytes) ++ whole_entries (drop 0 bytes) ≡ whole_entries bytes
split_none [] = refl
split_none (b ∷ bytes) = refl

-- so many first bytes are those of k entries
split_so : (k n : ℕ) (bytes : List ℕ) → n ≡ 40 * k → n ≤ length bytes → whole_entries (take n bytes) ++ whole_entries (drop n bytes) ≡ whole_entries bytes
split_so zero n bytes e l = let none : n ≡ 0 = omega (arith, e) in subst (λ (m : ℕ). whole_entries (take m bytes) ++ whole_entries (drop m bytes) ≡ whole_entries bytes) (sym none) (split_none bytes)
split_so (suc k) n bytes e l =
    let parts : n ≡ 40 + (n - 40) = omega (arith, e) in
    let long : length (take n bytes) ≡ n = length-take-le n bytes l in
    let next : drop 40 (take n bytes) ≡ take (n - 40) (drop 40 bytes) = ap (λ (m : ℕ). drop 40 (take m bytes)) parts ∙ drop-take 40 (n - 40) bytes in
    let after : drop n bytes ≡ drop (n - 40) (drop 40 bytes) = ap (λ (m : ℕ). drop m bytes) parts ∙ sym (drop-drop (n - 40) 40 bytes) in
    let first : whole_entries (take n bytes) ≡ entry_in bytes ∷ whole_entries (take (n - 40) (drop 40 bytes)) =
    front_first (take n bytes) (omega (arith, long, e))
    ∙ ap (λ (x : Entry). x ∷ whole_entries (drop 40 (take n bytes))) (entry_again n bytes (omega (arith, e)))
    ∙ ap (λ (l : List ℕ). entry_in bytes ∷ whole_entries l) next in
    let rest : whole_entries (take (n - 40) (drop 40 bytes)) ++ whole_entries (drop (n - 40) (drop 40 bytes)) ≡ whole_entries (drop 40 bytes) =
    split_so k (n - 40) (drop 40 bytes) (omega (arith, e)) (omega (arith, length-drop 40 bytes, l)) in
    ap (λ (es : List Entry). es ++ whole_entries (drop n bytes)) first
    ∙ ap (λ (l : List ℕ). (entry_in bytes ∷ whole_entries (take (n - 40) (drop 40 bytes))) ++ whole_entries l) after
    ∙ ap (λ (es : List Entry). entry_in bytes ∷ es) rest
    ∙ sym (front_first bytes (omega (arith, e, l)))

-- all bytes are those of all entries
split_all : (n : ℕ) (bytes : List ℕ) → length bytes ≤ n → whole_entries (take n bytes) ++ whole_entries (drop n bytes) ≡ whole_entries bytes
split_all n bytes l =
    let none : length (drop n bytes) ≡ 0 = omega (arith, length-drop n bytes, l) in
    let all : take n bytes ≡ bytes = take_all n bytes l in
    sym (so_far_all (whole_entries (take n bytes) ++ whole_entries (drop n bytes)) (drop n bytes) (whole_entries (take n bytes)) (omega (arith, none)) refl) ∙ ap whole_entries all

-- ---- bytes

bytes_both : (a b : List ℕ) → IsBytes a → IsBytes b → IsBytes (a ++ b)
bytes_both [] b are also i = also i
bytes_both (x ∷ a) b are also zero = are 0
bytes_both (x ∷ a) b are also (suc i) = bytes_both a b (λ j. are (suc j)) also i

-- ---- one part after the other

-- these are the entries of the first bytes
pub record AreFirst (all : List ℕ) (at : ℕ) (entries : List Entry) : Type 0 where
  pub so_far : AreSoFar (whole_entries all) (drop at all) entries
  pub are_bytes : IsBytes (take at all)

abbrev pub HasFirstEntries : Stored → Place → Path → ℕ → ℕ → List Entry → Type 0
HasFirstEntries old place path size at entries = (tree : Tree) → IsSeen old tree → (has : HasLength place path size tree) → AreFirst (bytes_of (file_at has.placed.room path)) at entries

no_bytes : (bytes : List ℕ) → IsBytes (take 0 bytes)
no_bytes [] = λ i. omega arith
no_bytes (b ∷ bytes) = λ i. omega arith

pub first_entries_none : (old : Stored) (place : Place) (path : Path) (size : ℕ) (entries : List Entry) → entries ≡ [] → HasFirstEntries old place path size 0 entries
first_entries_none old place path size entries none = λ tree seen has.
    subst (AreFirst (bytes_of (file_at has.placed.room path)) 0) (sym none) (record { so_far = refl; are_bytes = no_bytes (bytes_of (file_at has.placed.room path)) })

part_whole : (left most n : ℕ) → most ≡ 163840 → n ≡ min left most → (n ≡ 40 * 4096) ⊎ (n ≡ left)
part_whole left most n is some = elim (cases_lt left most) [
  | inl fewer ↦ inr (omega (arith, some, fewer))
  | inr many ↦ inl (omega (arith, some, many, is))
]

split_part : (rest : List ℕ) (left most n : ℕ) → length rest ≡ left → most ≡ 163840 → n ≡ min left most → whole_entries (take n rest) ++ whole_entries (drop n rest) ≡ whole_entries rest
split_part rest left most n long is some = elim (part_whole left most n is some) [
  | inl whole ↦ split_so 4096 n rest whole (omega (arith, long, some))
  | inr all ↦ split_all n rest (omega (arith, long, all))
]

first_more : (all part : List ℕ) (size at most n : ℕ) (entries more : List Entry) → length all ≡ size → most ≡ 163840 → n ≡ min (size - at) most → part ≡ take n (drop at all) → IsBytes part → more ≡ entries ++ whole_entries part → AreFirst all at entries → AreFirst all (at + n) more
first_more all part size at most n entries more long whole some is are e first =
    let rest : List ℕ = drop at all in
    let left : length rest ≡ size - at = length-drop at all ∙ ap (λ (k : ℕ). k - at) long in
    record {
      so_far =
          ap (λ (l : List Entry). l ++ whole_entries (drop (at + n) all)) (e ∙ ap (λ (l : List ℕ). entries ++ whole_entries l) is)
          ∙ ap (λ (l : List ℕ). (entries ++ whole_entries (take n rest)) ++ whole_entries l) (sym (drop-drop n at all))
          ∙ append_assoc entries (whole_entries (take n rest)) (whole_entries (drop n rest))
          ∙ ap (λ (l : List Entry). entries ++ l) (split_part rest (size - at) most n left whole some)
          ∙ first.so_far;
      are_bytes = subst IsBytes (sym (take-add at n all)) (bytes_both (take at all) (take n rest) first.are_bytes (subst IsBytes is are));
    }

-- a file that has some bytes is there
file_so : (place : Place) (path : Path) (size at : ℕ) (tree : Tree) (has : HasLength place path size tree) (found : Option (List ℕ)) → file_at has.placed.room path ≡ found → length (bytes_of found) ≡ size → at < size
    → (file : HasFileOf place path size tree) × (file.bytes ≡ bytes_of found)
file_so place path size at tree has None e long less = absurd (omega (arith, long, less))
file_so place path size at tree has (Some bytes) e long less = (record { placed = has.placed; bytes = bytes; there = e; long = long }, refl)

pub file_of : (place : Place) (path : Path) (size at : ℕ) (tree : Tree) (has : HasLength place path size tree) → at < size → (file : HasFileOf place path size tree) × (file.bytes ≡ bytes_of (file_at has.placed.room path))
file_of place path size at tree has less = file_so place path size at tree has (file_at has.placed.room path) refl has.long less

-- what is told of the next part
abbrev pub TellsPart : Stored → Place → Path → ℕ → ℕ → ℕ → List ℕ → Type 0
TellsPart mid place path size at n part = (tree : Tree) → IsSeen mid tree → (has : HasFileOf place path size tree) → part ≡ take n (drop at has.bytes)

pub first_entries_more : (old mid : Stored) (place : Place) (path : Path) (size at most n : ℕ) (part : List ℕ) (entries more : List Entry) → IsLookedAt old mid → at < size → most ≡ 163840 → n ≡ min (size - at) most → TellsPart mid place path size at n part → IsBytes part
    → more ≡ entries ++ whole_entries part → HasFirstEntries old place path size at entries → HasFirstEntries old place path size (at + n) more
first_entries_more old mid place path size at most n part entries more looked less whole some tells are e first = λ tree seen has. (
    let file = file_of place path size at tree has less in
    first_more (bytes_of (file_at has.placed.room path)) part size at most n entries more has.long whole some
    (tells tree (seen_on old mid tree looked seen) file.0 ∙ ap (λ (l : List ℕ). take n (drop at l)) file.1) are e (first tree seen has))

pub first_entries_all : (old : Stored) (place : Place) (path : Path) (size at : ℕ) (entries : List Entry) → size ≤ at → HasFirstEntries old place path size at entries
    → (tree : Tree) → IsSeen old tree → (has : HasLength place path size tree) → AreEntriesIn (bytes_of (file_at has.placed.room path)) entries
first_entries_all old place path size at entries past first = λ tree seen has. (
    let all : List ℕ = bytes_of (file_at has.placed.room path) in
    let f : AreFirst all at entries = first tree seen has in
    (subst IsBytes (take_all at all (omega (arith, past, has.long))) f.are_bytes, so_far_all (whole_entries all) (drop at all) entries (omega (arith, length-drop at all, past, has.long)) f.so_far))
