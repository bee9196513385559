-- What is shown of the bytes of a flattened index.
use Rattle.std.proofs.Common.{◌≡◌, ℕ, ◌+◌, ◌*◌, ◌≤◌, ◌<◌, ◌^◌, ◌↔◌, Bool, false, List, [], ◌∷◌, ◌++◌, length, take, Some, None, Result, Ok, Err, ap, sym, ◌∙◌, subst, arith, length-append}
use Rattle.std.specs.Prelude.{IsTrue, IfOk}
use Rattle.std.specs.BTreeMap.{BTreeMap}
use Rattle.std.specs.List.{All, AllByRecursion, flat_map}
use Rattle.std.specs.Int.{w64, to_le_bytes}
use Rattle.std.proofs.lemmas.List.Elements.{All-cons, All-nil}
use Rattle.plfs_types.specs.declared.entries.Cover.{Cover}
use Rattle.plfs_types.specs.declared.entries.Entry.{Entry}
use Rattle.plfs_types.specs.declared.limits.TheConstants.{MAX_LOG}
use Rattle.plfs_types.specs.declared.names.Path.{Path}
use Rattle.index_entry.specs.Entries.{AreEntriesOf, logged, last_stamp}
use Rattle.index_entry.proofs.Facts.{length-spelled}
use Rattle.plain_file.specs.declared.pieces.Piece.{Piece}
use Rattle.plain_file.specs.Runs.{ArePieces}
use Rattle.interval_merge.specs.Writer.{HasPiece}
use Rattle.flat_format.specs.declared.flat.Flat.{Flat}
use Rattle.flat_format.specs.Spelling.{SpellsFlat, flat_spelling, letters, cover_spelling, piece_spelling}
use Rattle.flat_format.proofs.Facts.{covers_format, valid_spells}
use Rattle.store_api.specs.declared.tree.Room.{Room}
use Rattle.store_api.specs.declared.tree.Tree.{Tree}
use Rattle.store_api.specs.Acts.{Stored}
use Rattle.store_laws.specs.Files.{file_at}
use Rattle.mount_sound.specs.Dropping.{bytes_of}
use Rattle.mount_sound.specs.Flats.{AreCovered, IsRightFlat}
use Rattle.shape_check.specs.declared.files.Place.{Place}
use Rattle.shape_check.specs.declared.finding.Finding.{Finding}
use Rattle.shape_check.specs.Files.{OfPlace}
use Rattle.shape_check.specs.Seeing.{IsSeen, IsLookedAt}
use Rattle.shape_check.proofs.Facts.{seen_on}
use Rattle.tree_check.specs.declared.owners.Owner.{Owner}
use Rattle.tree_check.specs.Entries.{AreInOrder}
use Rattle.tree_check.specs.Indices.{IsOwned, IsDecoded, AreTheirs, IsCoverOf}
use Rattle.tree_check.proofs.EntryLemmas.{order_front}
use Rattle.tree_check.proofs.IndexLemmas.{Tells, not_so}

-- ---- entries as pieces

each_piece : (writer last offset : ℕ) (es : List Entry) → AreEntriesOf writer last offset es → offset + logged es ≤ MAX_LOG → All HasPiece es
each_piece writer last offset [] o small = All-nil HasPiece
each_piece writer last offset (e ∷ es) o small =
    All-cons HasPiece e es (record { not_empty = omega (arith, o.0.some); within = o.0.within; in_log = omega (arith, o.0.place, small) })
    (each_piece writer e.stamp (offset + e.len) es o.1 (omega (arith, small)))

-- entries in order have pieces
pub have_pieces : (writer : ℕ) (entries : List Entry) → AreInOrder writer entries → All HasPiece entries
have_pieces writer entries o = each_piece writer 0 0 entries o.in_order (omega (arith, o.small))

pub first_have_pieces : (writer n : ℕ) (entries : List Entry) → AreInOrder writer entries → All HasPiece (take n entries)
first_have_pieces writer n entries o = have_pieces writer (take n entries) (order_front writer n entries o)

-- ---- bytes

writers_fit : (room : Room) (covers : List Cover) (entries : List Entry) → AreCovered room covers entries → AllByRecursion (λ (c : Cover). c.writer < 2 ^ 64) covers
writers_fit room [] entries are = tt
writers_fit room (c ∷ covers) entries are = (are.0.stands.is_item.widths.1, writers_fit room covers are.1.0 are.1.2)

covers_long : (flat : Flat) → 32 * length flat.covers ≤ length (flat_spelling flat)
covers_long flat =
    let covers : List ℕ = flat_map cover_spelling flat.covers in
    let pieces : List ℕ = flat_map piece_spelling flat.pieces in
    let counts : List ℕ = to_le_bytes w64 (length flat.pieces) in
    let first : List ℕ = to_le_bytes w64 (length flat.covers) in
    let spelled : length covers ≡ 32 * length flat.covers = length-spelled covers_format flat.covers in
    omega (arith, spelled, length-append covers pieces, length-append counts (covers ++ pieces), length-append first (counts ++ covers ++ pieces), length-append letters (first ++ counts ++ covers ++ pieces))

few_covers : (n m : ℕ) → 32 * n ≤ m → m < 2 ^ 64 → n < 2 ^ 64
few_covers n m long short = omega (arith, long, short)

-- a right flattened index is spelled so
pub right_spells : (room : Room) (bytes : List ℕ) → length bytes < 2 ^ 64 → (right : IsRightFlat room bytes) → SpellsFlat bytes right.flat
right_spells room bytes short right =
    let long : length bytes ≡ length (flat_spelling right.flat) = ap (λ (l : List ℕ). length l) right.spelled in
    let few : length right.flat.covers < 2 ^ 64 = few_covers (length right.flat.covers) (length bytes) (omega (arith, long, covers_long right.flat)) short in
    subst (λ (l : List ℕ). SpellsFlat l right.flat) (sym right.spelled) (valid_spells right.flat right.valid (writers_fit room right.flat.covers right.entries right.covered) few)

-- the file is what was read
abbrev pub IsRead : Place → Path → List ℕ → Stored → Type 0
IsRead place path bytes old = OfPlace (λ tree room. bytes_of (file_at room path) ≡ bytes) place old

pub no_flat : (place : Place) (owners : BTreeMap ℕ Owner) (path : Path) (old : Stored) (bytes : List ℕ) → length bytes < 2 ^ 64 → IsRead place path bytes old → IsDecoded bytes None → Tells place owners path old false (λ room bytes. IsRightFlat room bytes)
no_flat place owners path old bytes short read none = λ tree seen at.
    not_so (IsRightFlat at.owned.placed.room at.bytes) (λ right.
    let same : at.bytes ≡ bytes = sym (ap bytes_of at.there) ∙ read tree seen at.owned.placed in
    let right_bytes : IsRightFlat at.owned.placed.room bytes = subst (IsRightFlat at.owned.placed.room) same right in
    none right_bytes.flat right_bytes.valid (right_spells at.owned.placed.room bytes short right_bytes))

pub flat_tells : (place : Place) (owners : BTreeMap ℕ Owner) (path : Path) (old a : Stored) (bytes : List ℕ) (flat : Flat) (is : Bool) → length bytes < 2 ^ 64 → IsRead place path bytes old → IsLookedAt old a → IsDecoded bytes (Some flat)
    → ((tree : Tree) → IsSeen a tree → (at : IsOwned place owners tree) → IsTrue is ↔ AreTheirs at.placed.room flat) → Tells place owners path old is (λ room bytes. IsRightFlat room bytes)
flat_tells place owners path old a bytes flat is short read to_a (valid, spells, only) tells = λ tree seen at. (
    let room : Room = at.owned.placed.room in
    let t : IsTrue is ↔ AreTheirs room flat = tells tree (seen_on old a tree to_a seen) at.owned in
    let same : at.bytes ≡ bytes = sym (ap bytes_of at.there) ∙ read tree seen at.owned.placed in (
      λ yes. (let theirs = t.0 yes in record { flat = flat; valid = valid; spelled = same ∙ spells.spelled; entries = theirs.0; covered = theirs.1; pieces = theirs.2 }),
      λ right. (
          let now : IsRightFlat room bytes = subst (IsRightFlat room) same right in
          let one : now.flat ≡ flat = only now.flat now.valid (right_spells room bytes short now) in
          t.1 (subst (AreTheirs room) one (now.entries, now.covered, now.pieces))),
    ))

pub all_flat_tell : (place : Place) (owners : BTreeMap ℕ Owner) (path : Path) (old a : Stored) (bytes : List ℕ) (flat : Flat) (result : Result Bool Finding) → length bytes < 2 ^ 64 → IsRead place path bytes old → IsLookedAt old a → IsDecoded bytes (Some flat)
    → IfOk result (λ is. (tree : Tree) → IsSeen a tree → (at : IsOwned place owners tree) → IsTrue is ↔ AreTheirs at.placed.room flat) → IfOk result (λ is. Tells place owners path old is (λ room bytes. IsRightFlat room bytes))
all_flat_tell place owners path old a bytes flat (Err finding) short read to_a decoded tells = tt
all_flat_tell place owners path old a bytes flat (Ok is) short read to_a decoded tells = flat_tells place owners path old a bytes flat is short read to_a decoded tells

-- ---- the first entries of a cover

pub too_many : (cover : Cover) (landed : List Entry) → length landed < cover.count → IsCoverOf cover landed None
too_many cover landed past = λ some sum latest. omega (arith, past, some)

pub other_sum : (cover : Cover) (landed : List Entry) (bytes stamp : ℕ) → bytes ≡ logged (take cover.count landed) → stamp ≡ last_stamp 0 (take cover.count landed) → (bytes ≡ cover.bytes → stamp ≡ cover.stamp → ⊥) → IsCoverOf cover landed None
other_sum cover landed bytes stamp b s wrong = λ some sum latest. wrong (b ∙ sym sum) (s ∙ sym latest)

pub same_sum : (cover : Cover) (landed : List Entry) (bytes stamp : ℕ) (pieces : List Piece) → cover.count ≤ length landed → bytes ≡ logged (take cover.count landed) → stamp ≡ last_stamp 0 (take cover.count landed) → bytes ≡ cover.bytes → stamp ≡ cover.stamp
    → ArePieces (take cover.count landed) [] pieces → IsCoverOf cover landed (Some pieces)
same_sum cover landed bytes stamp pieces some b s same_b same_s are = (some, sym same_b ∙ b, sym same_s ∙ s, are)
