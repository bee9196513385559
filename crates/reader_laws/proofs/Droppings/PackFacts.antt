-- What a packed index that stands tells: its head, and the entries behind a cover.
use Rattle.std.proofs.Common.{◌≡◌, ℕ, ◌+◌, ◌*◌, ◌≤◌, ◌^◌, nat_le, nat_lt, nat_eq, Bool, true, false, List, [], ◌∷◌, ◌++◌, length, take, drop, Option, Some, None, refl, ap, sym, ◌∙◌, subst, arith, length-drop}
use Rattle.std.specs.Prelude.{if◌then◌else◌, ◌&&◌, slice_get}
use Rattle.std.specs.List.{AllByRecursion}
use Rattle.std.proofs.lemmas.Bool.{and_from}
use Rattle.std.proofs.lemmas.Bool.Decides.{nat_tests}
use Rattle.std.proofs.lemmas.List.{take-append-drop}
use Rattle.std.proofs.lemmas.Nat.{from_le_bytes-to_le_bytes_8}
use Rattle.plfs_types.specs.declared.entries.Cover.{Cover}
use Rattle.plfs_types.specs.declared.entries.Entry.{Entry}
use Rattle.container_layout.specs.declared.items.Item.TheVariants.{Packed}
use Rattle.container_layout.specs.Items.{IsItem}
use Rattle.index_entry.specs.Entries.{AreEntriesOf, logged, last_stamp}
use Rattle.index_entry.specs.Spelling.{number_in}
use Rattle.index_pack.specs.Spelling.{Packs}
use Rattle.index_pack.proofs.Facts.{length_spelled}
use Rattle.interval_merge.specs.Writer.{HasPiece}
use Rattle.mount_model.specs.declared.row.Making.TheVariants as making
use Rattle.mount_sound.specs.Flats.{IsRightPack}
use Rattle.mount_sound.proofs.Facts.{logged_append, order_drop}
use Rattle.index_reader.specs.PackRules.{has_head, has_count, has_length}
use Rattle.index_reader.specs.Packs.{no_tail, head_fault, tail_past}
use Rattle.reader_laws.specs.Moments.{Moment, IsSoundAt, Dropping, IsNamed, file_then, landed_by}
use Rattle.reader_laws.specs.Packs.{TellsCount, pack_of}
use Rattle.reader_laws.proofs.Gathered.Facts.{in_a_room, in_tree, landed_at}
use Rattle.reader_laws.proofs.Droppings.Checking.{Longer, last_stamp-append}

-- ---- what stands

pub pack_item : (d : Dropping) → IsNamed d → IsItem (Packed d.host d.writer)
pack_item d named = record { in_range = tt; widths = (named.widths.0, named.widths.1) }

-- a packed index that stands is of all entries that have landed of its writer
pub had_pack : (m : Moment) (s : IsSoundAt m) (d : Dropping) (bytes : List ℕ) → IsNamed d → file_then m d.room (pack_of d) ≡ Some bytes → Packs bytes (landed_by m d)
had_pack m s d bytes named there =
    let r = in_a_room (slice_get s.shape.tree.rooms d.room) (pack_of d) bytes (in_tree m s d.room (pack_of d) bytes there) in
    let right : IsRightPack r.0 d.host d.writer bytes = (s.flats d.room r.0 r.1 (making.Pack d.host d.writer) 0 bytes (record { is_item = pack_item d named; there = r.2 })).0 in
    subst (Packs bytes) (sym (landed_at m s d r.0 r.1)) right.packs

-- ---- its head

-- the place of the first fault, by four tests
abbrev place_of : Bool → Bool → Bool → Bool → Option ℕ
place_of a b c d = if a then (if b then (if c then (if d then Some 8 else None) else Some 16) else Some 8) else Some 0

module _ (bytes : List ℕ) (entries : List Entry) (packs : Packs bytes entries) where
  pub tells : TellsCount (take 24 bytes) (length entries)
  tells = record { runs = length packs.runs; fits = packs.spells.counted; spelled = ap (take 24) packs.spells.spelled }

  pub count_told : number_in 8 (take 24 bytes) ≡ length entries
  count_told = ap (λ b. number_in 8 (take 24 b)) packs.spells.spelled ∙ from_le_bytes-to_le_bytes_8 (length entries) packs.spells.counted

  runs_told : number_in 16 (take 24 bytes) ≡ number_in 16 bytes
  runs_told = ap (λ b. number_in 16 (take 24 b)) packs.spells.spelled ∙ sym (ap (number_in 16) packs.spells.spelled)

  pub long_enough : 24 ≤ length bytes
  long_enough = omega (arith, length_spelled bytes (length entries) packs.runs packs.spells)

  headed : has_head (take 24 bytes) ≡ true
  headed = ap (λ b. has_head (take 24 b)) packs.spells.spelled

  in_range : (n count : ℕ) → n ≡ count → 1 ≤ count → count ≤ 1048576 → (nat_le 1 n && nat_le n 1048576) ≡ true
  in_range n count e least most = let a : nat_le 1 n ≡ true = grind (arith, nat_tests) in let b : nat_le n 1048576 ≡ true = grind (arith, nat_tests) in and_from (nat_le 1 n) (nat_le n 1048576) a b

  counted : has_count (take 24 bytes) ≡ true
  counted = in_range (number_in 8 (take 24 bytes)) (length entries) count_told packs.valid.counted.0 packs.valid.counted.1

  same : (a b : ℕ) → a ≡ b → nat_eq a b ≡ true
  same a b e = grind (arith, nat_tests)

  sized : has_length (length bytes) (take 24 bytes) ≡ true
  sized = same (length bytes) (24 + 64 * number_in 16 (take 24 bytes)) (length_spelled bytes (length entries) packs.runs packs.spells ∙ ap (λ n. 24 + 64 * n) (sym runs_told))

  no_fewer : (n count covered : ℕ) → n ≡ count → covered ≤ count → nat_lt n covered ≡ false
  no_fewer n count covered e l = grind (arith, nat_tests)

  none_of : (a b c d : Bool) → a ≡ true → b ≡ true → c ≡ true → d ≡ false → place_of a b c d ≡ None
  none_of true true true false p q r s = refl
  none_of true true true true p q r s = absurd (let e : true ≡ false = s in cc)
  none_of true true false d p q r s = absurd (let e : false ≡ true = r in cc)
  none_of true false c d p q r s = absurd (let e : false ≡ true = q in cc)
  none_of false b c d p q r s = absurd (let e : false ≡ true = p in cc)

  -- no fault is in it where no more entries are covered than there are
  pub no_fault : (covered : ℕ) → covered ≤ length entries → head_fault (length bytes) covered (take 24 bytes) ≡ None
  no_fault covered few = none_of (has_head (take 24 bytes)) (has_count (take 24 bytes)) (has_length (length bytes) (take 24 bytes)) (nat_lt (number_in 8 (take 24 bytes)) covered) headed counted sized (no_fewer (number_in 8 (take 24 bytes)) (length entries) covered count_told few)

-- without a fault no more are covered
pub not_fewer : (told covered : ℕ) (head : List ℕ) → head_fault told covered head ≡ None → nat_lt (number_in 8 head) covered ≡ false
not_fewer told covered head = of (has_head head) (has_count head) (has_length told head) (nat_lt (number_in 8 head) covered)
  where
    of : (a b c d : Bool) → place_of a b c d ≡ None → d ≡ false
    of true true true false e = refl
    of true true true true e = absurd (cc)
    of true true false d e = absurd (cc)
    of true false c d e = absurd (cc)
    of false b c d e = absurd (cc)

-- ---- the entries behind a cover

has_pieces : (writer last offset : ℕ) (es : List Entry) → offset + logged es ≤ 2 ^ 56 → AreEntriesOf writer last offset es → AllByRecursion HasPiece es
has_pieces writer last offset [] small order = tt
has_pieces writer last offset (e ∷ es) small (follows, order) = (
  record { not_empty = omega (arith, follows.some); within = follows.within; in_log = omega (arith, follows.place, small) },
  has_pieces writer e.stamp (offset + e.len) es (omega (arith, small)) order,
)

-- the entries past the covered ones go on from the cover
pub past_longer : (owner : ℕ) (cover : Cover) (entries : List Entry) → cover.count ≤ length entries → logged (take cover.count entries) ≡ cover.bytes → last_stamp 0 (take cover.count entries) ≡ cover.stamp → AreEntriesOf owner 0 0 entries → logged entries ≤ 2 ^ 56
    → Longer (drop cover.count entries) (no_tail cover) (tail_past cover entries)
past_longer owner cover entries few sum latest order small =
    let n : ℕ = cover.count in
    let split : take n entries ++ drop n entries ≡ entries = take-append-drop n entries in
    let parts : logged (take n entries) + logged (drop n entries) ≡ logged entries = sym (logged_append (take n entries) (drop n entries)) ∙ ap logged split in
    let count : length entries ≡ n + length (drop n entries) = omega (arith, few, length-drop n entries) in
    let bytes : logged entries ≡ cover.bytes + logged (drop n entries) = sym parts ∙ ap (λ k. k + logged (drop n entries)) sum in
    let stamp : last_stamp 0 entries ≡ last_stamp cover.stamp (drop n entries) = ap (last_stamp 0) (sym split) ∙ last_stamp-append 0 (take n entries) (drop n entries) ∙ ap (λ k. last_stamp k (drop n entries)) latest in
    record {
      entries = refl;
      cover = λ i. record { writer = cover.writer; count = count i; bytes = bytes i; stamp = stamp i };
      pieces = has_pieces owner (last_stamp 0 (take n entries)) (0 + logged (take n entries)) (drop n entries) (omega (arith, parts, small)) (order_drop n owner 0 0 entries order);
    }
