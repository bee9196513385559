-- A reader that gathers of a packed index has all entries of its writer.
use Rattle.std.proofs.Common.{◌≡◌, ℕ, zero, suc, ◌≤◌, List, [], ◌∷◌, ◌++◌, length, take, drop, Option, Some, refl, ap, sym, ◌∙◌, inl, inr, subst, arith}
use Rattle.std.specs.Prelude.{slice_get}
use Rattle.std.proofs.Math.Seq.{take-length}
use Rattle.std.proofs.lemmas.Nat.{from_le_bytes-to_le_bytes_8}
use Rattle.plfs_types.specs.declared.entries.Entry.{Entry}
use Rattle.plfs_types.specs.declared.names.Path.{Path}
use Rattle.container_layout.specs.declared.items.Item.TheVariants.{Packed}
use Rattle.container_layout.specs.Items.{IsItem}
use Rattle.index_entry.specs.Spelling.{number_in}
use Rattle.index_pack.specs.Spelling.{Packs}
use Rattle.index_pack.proofs.Facts.{one_list}
use Rattle.mount_model.specs.declared.row.Making.TheVariants as making
use Rattle.mount_model.specs.Paths.{index_path}
use Rattle.mount_sound.specs.Flats.{IsRightPack}
use Rattle.mount_sound.specs.Ledger.{entries_in}
use Rattle.reader_laws.specs.Moments.{Moment, IsSoundAt, IsNamed, Dropping, Stood, file_in_room, file_told, file_then, issued_by, landed, landed_by, Grows}
use Rattle.reader_laws.specs.Seen.{Asked, IsSeenCall, IsSeen}
use Rattle.reader_laws.specs.Gathering.{Gathered, CoversLanded, IsPrefixOf}
use Rattle.reader_laws.specs.Packs.{ReadsPack, ReadsRest, TellsCount, pack_of}
use Rattle.reader_laws.proofs.Gathered.Indices.FileReading.{reads_on}
use Rattle.reader_laws.proofs.Gathered.Logs.Fronts.{entries_stay, in_tree, issued_grows, landed_at, landed_is_first, landed_whole}
use Rattle.reader_laws.proofs.Gathered.Moments.Growing.{grows_trans, in_a_room, stood_grows}
use Rattle.reader_laws.proofs.Gathered.Containers.Looking.{length_told, read_told}
use Rattle.reader_laws.proofs.Gathered.Containers.Replied.{answers_as}
use Rattle.reader_laws.proofs.Gathered.Moments.Seeing.{seen_grows}

pack_item : (d : Dropping) → IsNamed d → IsItem (Packed d.host d.writer)
pack_item d named = record { in_range = tt; widths = (named.widths.0, named.widths.1) }

-- ---------- what stands then

-- a packed index that stands is of all entries that have landed of its writer, whose index dropping stands
record HadPack (m : Moment) (d : Dropping) (bytes : List ℕ) : Type 0 where
  packs : Packs bytes (landed_by m d)
  stands : Stood m d

had_pack : (m : Moment) (s : IsSoundAt m) (d : Dropping) (bytes : List ℕ) → IsNamed d → file_then m d.room (pack_of d) ≡ Some bytes → HadPack m d bytes
had_pack m s d bytes named there =
    let r = in_a_room (slice_get s.shape.tree.rooms d.room) (pack_of d) bytes (in_tree m s d.room (pack_of d) bytes there) in
    let right : IsRightPack r.0 d.host d.writer bytes = (s.flats d.room r.0 r.1 (making.Pack d.host d.writer) 0 bytes (record { is_item = pack_item d named; there = r.2 })).0 in
    record {
      packs = subst (Packs bytes) (sym (landed_at m s d r.0 r.1)) right.packs;
      stands = record {
        is_item = named;
        bytes = right.content;
        there = ap (λ o. file_told o d.room (index_path d.host d.writer)) s.shape.told ∙ ap (λ o. file_in_room o (index_path d.host d.writer)) r.1 ∙ right.stands.there;
      };
    }

-- its first bytes tell how many these are
head_tells : (bytes : List ℕ) (entries : List Entry) (count : ℕ) → Packs bytes entries → TellsCount (take 24 bytes) count → count ≡ length entries
head_tells bytes entries count packs tells =
    let told : number_in 8 (take 24 bytes) ≡ count = ap (number_in 8) tells.spelled ∙ from_le_bytes-to_le_bytes_8 count tells.fits in
    let has : number_in 8 (take 24 bytes) ≡ length entries = ap (λ b. number_in 8 (take 24 b)) packs.spells.spelled ∙ from_le_bytes-to_le_bytes_8 (length entries) packs.spells.counted in
    sym told ∙ has

-- ---------- what was gathered

one_file : (a b : List ℕ) (o : Option (List ℕ)) → o ≡ Some a → o ≡ Some b → a ≡ b
one_file a b o p q = cc

none_dropped : (bytes : List ℕ) → drop 0 bytes ≡ bytes
none_dropped [] = refl
none_dropped (b ∷ bytes) = refl

pub all_dropped : (n : ℕ) (es : List Entry) → length es ≤ n → drop n es ≡ []
all_dropped zero [] l = refl
all_dropped zero (e ∷ es) l = absurd (omega (arith, l))
all_dropped (suc n) [] l = refl
all_dropped (suc n) (e ∷ es) l = all_dropped n es (omega (arith, l))

-- the tail is what isn't covered of the entries
rest_told : (caller : ℕ) (start end : Moment) (d : Dropping) (told count covered : ℕ) (reads : List Asked) (tail entries : List Entry) (bytes : List ℕ) → IsNamed d → IsSeen caller start reads end → file_then start d.room (pack_of d) ≡ Some bytes → length bytes ≡ told
    → Packs bytes entries → count ≡ length entries → ReadsRest d told count covered (take 24 bytes) reads tail → tail ≡ drop covered entries
rest_told caller start end d told count covered reads tail entries bytes named seen there long packs counted (inl (all, unread, none)) = none ∙ sym (all_dropped covered entries (omega (arith, all, counted)))
rest_told caller start end d told count covered reads tail entries bytes named seen there long packs counted (inr (some, (content, listed, read, its, behind))) =
    let whole : take 24 bytes ++ content ≡ bytes =
    reads_on caller (making.Pack d.host d.writer) d.room 0 start end 24 told reads content bytes seen (pack_item d named) there read ∙ ap (λ n. take n bytes) (sym long) ∙ take-length bytes in
    let same : listed ≡ entries = one_list bytes listed entries (subst (λ b. Packs b listed) whole its) packs in
    behind ∙ ap (drop covered) same

gathers_so : (caller : ℕ) (start next later end : Moment) (g : Gathered) (asked : List Asked) (named : IsNamed g.dropping) (r : ReadsPack g.dropping g.covered g.count g.tail asked) → IsSeenCall caller start r.first next → IsSeenCall caller next r.second later → IsSeen caller later r.reads end → IsPrefixOf start end g
gathers_so caller start next later end g asked named r call second seen =
    let d : Dropping = g.dropping in
    let path : Path = pack_of d in
    let m : Moment = call.before in
    let t = length_told m call.sound caller d.room path r.told next.state (answers_as m.state caller r.first.ask _ r.first.reply _ next.state r.pack_length.call r.pack_length.reply refl call.answers) in
    let bytes : List ℕ = t.0 in
    let is : IsItem (Packed d.host d.writer) = pack_item d named in
    let at_next : file_then next d.room path ≡ Some bytes = call.goes.indices (making.Pack d.host d.writer) d.room 0 bytes is t.1 in
    let at_second : file_then second.before d.room path ≡ Some bytes = second.waits.indices (making.Pack d.host d.writer) d.room 0 bytes is at_next in
    let at_later : file_then later d.room path ≡ Some bytes = second.goes.indices (making.Pack d.host d.writer) d.room 0 bytes is at_second in
    let u = read_told second.before second.sound caller d.room path 0 24 r.head later.state (answers_as second.before.state caller r.second.ask _ r.second.reply _ later.state r.pack_head.call r.pack_head.reply refl second.answers) in
    let one : u.0 ≡ bytes = one_file u.0 bytes (file_then second.before d.room path) u.1 at_second in
    let head : r.head ≡ take 24 bytes = sym u.2 ∙ ap (take 24) (none_dropped u.0 ∙ one) in
    let on : Grows m end = grows_trans m next end call.goes (grows_trans next second.before end second.waits (grows_trans second.before later end second.goes (seen_grows caller later end r.reads seen))) in
    let had : HadPack m d bytes = had_pack m call.sound d bytes named t.1 in
    let count : g.count ≡ landed m d = head_tells bytes (landed_by m d) g.count had.packs (subst (λ h. TellsCount h g.count) head r.tells) in
    let tail : g.tail ≡ drop g.covered (landed_by m d) =
    rest_told caller later end d r.told g.count g.covered r.reads g.tail (landed_by m d) bytes named seen at_later t.2 had.packs count (subst (λ h. ReadsRest d r.told g.count g.covered h r.reads g.tail) head r.rest) in
    let issued : landed m d ≤ length (issued_by m d) = omega (arith, landed_whole m call.sound d named) in
    let first : landed_by m d ≡ take g.count (entries_in (issued_by end d)) =
    landed_is_first m call.sound d named ∙ sym (entries_stay m end d (landed m d) on issued) ∙ ap (λ n. take n (entries_in (issued_by end d))) (sym count) in
    record {
      least = omega (arith, call.waits.landed d named, count);
      most = omega (arith, on.landed d named, count);
      were_issued = omega (arith, count, issued, issued_grows m end d on);
      stands = stood_grows m end d on had.stands;
      entries = tail ∙ ap (drop g.covered) first;
    }

-- What was gathered of a packed index are all entries of its writer.
pub gathers_pack : (caller : ℕ) (start end : Moment) (g : Gathered) (asked : List Asked) → IsNamed g.dropping → IsSeen caller start asked end → ReadsPack g.dropping g.covered g.count g.tail asked → CoversLanded start g → IsPrefixOf start end g
gathers_pack caller start end g asked named seen r covers =
    let s : IsSeen caller start (r.first ∷ r.second ∷ r.reads) end = subst (λ a. IsSeen caller start a end) r.calls seen in
    gathers_so caller start s.0 s.2.0 end g asked named r s.1 s.2.1 s.2.2
