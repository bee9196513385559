-- What a reader takes of a flattened index is right for its room, at a moment of its reading.
use Rattle.std.proofs.Common.{◌≡◌, ℕ, suc, ◌+◌, ◌≤◌, ◌<◌, ◌^◌, List, [], ◌∷◌, get_or, length, take, Some, refl, ap, sym, ◌∙◌, inl, inr, subst, arith}
use Rattle.std.specs.Prelude.{slice_get}
use Rattle.std.specs.List.{AllByRecursion}
use Rattle.std.proofs.Math.Seq.{take-length}
use Rattle.plfs_types.specs.declared.entries.Cover.{Cover}
use Rattle.plfs_types.specs.declared.entries.Entry.{Entry}
use Rattle.plfs_types.specs.declared.names.Path.{Path}
use Rattle.plain_file.specs.Runs.{ArePieces}
use Rattle.container_layout.specs.declared.items.Item.TheVariants.{Flat as FlatItem, Index}
use Rattle.container_layout.specs.Items.{IsItem}
use Rattle.container_layout.proofs.Facts.{elsewhere}
use Rattle.flat_format.specs.Covers.{AreCovers, Precedes}
use Rattle.flat_format.specs.declared.flat.Flat.{Flat}
use Rattle.flat_format.specs.Spelling.{SpellsFlat}
use Rattle.flat_format.proofs.Facts.{one_flat, valid_spells}
use Rattle.store_api.specs.declared.tree.Room.{Room}
use Rattle.mount_model.specs.Paths.{flat_path, index_path}
use Rattle.store_api.specs.Names.{marks_folder}
use Rattle.mount_model.specs.State.{last_id}
use Rattle.mount_sound.specs.Shape.{IsDrawnBy}
use Rattle.mount_sound.proofs.Shapes.Facts.{item_held}
use Rattle.mount_model.specs.declared.row.Making.TheVariants as making
use Rattle.mount_sound.specs.Flats.{AreCovered, IsCovered, IsRightFlat}
use Rattle.mount_sound.specs.Items.{HasItem}
use Rattle.reader_laws.specs.Moments.{Moment, IsSoundAt, file_then, Grows}
use Rattle.reader_laws.specs.Seen.{Asked, IsSeenCall, IsSeen}
use Rattle.reader_laws.specs.Files.{ReadsFile}
use Rattle.reader_laws.proofs.Gathered.Moments.Growing.{grows_trans, in_a_room}
use Rattle.reader_laws.proofs.Gathered.Moments.Seeing.{seen_grows}
use Rattle.reader_laws.proofs.Gathered.Containers.Looking.{length_told}
use Rattle.reader_laws.proofs.Gathered.Indices.FileReading.{reads_on}
use Rattle.reader_laws.proofs.Gathered.Containers.Replied.{answers_as}
use Rattle.reader_laws.proofs.Gathered.Logs.Fronts.{in_tree}

-- ---------- its bytes

-- a moment at which the flattened index had the bytes that were read
record HadFlat (start end : Moment) (room id : ℕ) (content : List ℕ) : Type 0 where
  m : Moment
  sound : IsSoundAt m
  begins : Grows start m
  ends : Grows m end
  there : file_then m room (flat_path id) ≡ Some content

file_read : (caller room id : ℕ) (start end : Moment) (asked : List Asked) (content : List ℕ) → IsSeen caller start asked end → IsItem (FlatItem id) → ReadsFile room (flat_path id) content asked → HadFlat start end room id content
file_read caller room id start end asked content seen is r =
    let s : IsSeen caller start (r.first ∷ r.reads) end = subst (λ l. IsSeen caller start l end) r.calls seen in
    let call : IsSeenCall caller start r.first s.0 = s.1 in
    let m : Moment = call.before in
    let t = length_told m call.sound caller room (flat_path id) r.told s.0.state (answers_as m.state caller r.first.ask _ r.first.reply _ s.0.state r.call r.reply refl call.answers) in
    let all : content ≡ t.0 =
    reads_on caller making.Flat room id s.0 end 0 r.told r.reads content t.0 s.2 is (call.goes.indices making.Flat room id t.0 is t.1) r.bytes ∙ ap (λ n. take n t.0) (sym t.2) ∙ take-length t.0 in
    record { m = m; sound = call.sound; begins = call.waits; ends = grows_trans m s.0 end call.goes (seen_grows caller s.0 end r.reads s.2); there = t.1 ∙ ap (λ b. Some b) (sym all) }

-- ---------- its covers

-- the writer of an index dropping has an id of at least 1
some_writer : (m : Moment) (s : IsSoundAt m) (number : ℕ) (room : Room) → slice_get s.shape.tree.rooms number ≡ Some room → (host writer : ℕ) (content : List ℕ) → HasItem room (Index host writer) content → 1 ≤ writer
some_writer m s number room there host writer content has = elim (s.shape.shaped.rooms number room there) as (λ _. 1 ≤ writer) [
  | inl marks ↦
      let mark = marks.files (index_path host writer) content has.there in
      let clash : marks_folder ≡ (index_path host writer).folder = sym (ap (λ (p : Path). p.folder) mark.3) in
      elsewhere (ap (λ (l : List ℕ). get_or l 0 0) clash) refl
  | inr container ↦
      let drawn : IsDrawnBy (last_id m.state) s.shape.tree writer = (item_held (IsDrawnBy (last_id m.state) s.shape.tree) room (Index host writer) content container has.is_item has.there).id in
      omega (arith, drawn.0.some, drawn.0.is)
]

-- the writers of later covers are above those of earlier ones
pub above : (c : Cover) (covers : List Cover) → Precedes c covers → AreCovers covers → AllByRecursion (λ (d : Cover). suc c.writer ≤ d.writer) covers
above c [] first are = tt
above c (d ∷ covers) first are = (omega (arith, first), higher covers (above d covers are.1 are.2))
  where
    higher : (es : List Cover) → AllByRecursion (λ (e : Cover). suc d.writer ≤ e.writer) es → AllByRecursion (λ (e : Cover). suc c.writer ≤ e.writer) es
    higher [] all = tt
    higher (e ∷ es) all = (omega (arith, first, all.0), higher es all.1)

-- covers of ascending writers in a range are few
pub few_covers : (least : ℕ) (covers : List Cover) → least ≤ 2 ^ 64 → AreCovers covers → AllByRecursion (λ (c : Cover). least ≤ c.writer) covers → AllByRecursion (λ (c : Cover). c.writer < 2 ^ 64) covers → length covers + least ≤ 2 ^ 64
few_covers least [] fits are all small = omega (arith, fits)
few_covers least (c ∷ covers) fits are all small =
    omega (arith, few_covers (suc c.writer) covers (omega (arith, small.0)) are.2 (above c covers are.1 are.2) small.1, all.0)

pub its_writers : (m : Moment) (s : IsSoundAt m) (number : ℕ) (room : Room) → slice_get s.shape.tree.rooms number ≡ Some room → (covers : List Cover) (entries : List Entry) → AreCovered room covers entries
    → AllByRecursion (λ (c : Cover). 1 ≤ c.writer) covers × AllByRecursion (λ (c : Cover). c.writer < 2 ^ 64) covers
its_writers m s number room there [] entries a = (tt, tt)
its_writers m s number room there (c ∷ covers) entries a =
    let is : IsCovered room c = a.0 in
    let rest = its_writers m s number room there covers a.1.0 a.1.2 in
    ((some_writer m s number room there is.host c.writer is.content is.stands, rest.0), (is.stands.is_item.widths.1, rest.1))

-- ---------- it was right

-- A moment between these two at which the flattened index was right for its room.
pub record WasRight (start end : Moment) (number : ℕ) (flat : Flat) : Type 0 where
  pub m : Moment
  pub sound : IsSoundAt m
  pub begins : Grows start m
  pub ends : Grows m end
  pub room : Room
  pub there : slice_get sound.shape.tree.rooms number ≡ Some room
  pub covers : AreCovers flat.covers
  pub entries : List Entry
  pub covered : AreCovered room flat.covers entries
  pub pieces : ArePieces entries [] flat.pieces

pub flat_right : (caller number id : ℕ) (start end : Moment) (asked : List Asked) (content : List ℕ) (flat : Flat) → IsSeen caller start asked end → IsItem (FlatItem id) → ReadsFile number (flat_path id) content asked → SpellsFlat content flat → WasRight start end number flat
flat_right caller number id start end asked content flat seen is reads spells =
    let h : HadFlat start end number id content = file_read caller number id start end asked content seen is reads in
    let s : IsSoundAt h.m = h.sound in
    let r = in_a_room (slice_get s.shape.tree.rooms number) (flat_path id) content (in_tree h.m s number (flat_path id) content h.there) in
    let right : IsRightFlat r.0 content = (s.flats number r.0 r.1 making.Flat id content (record { is_item = is; there = r.2 })).0 in
    let w = its_writers h.m s number r.0 r.1 right.flat.covers right.entries right.covered in
    let few : length right.flat.covers < 2 ^ 64 = fewer (length right.flat.covers) (few_covers 1 right.flat.covers (omega arith) right.valid.covers w.0 w.1) in
    let its : SpellsFlat content right.flat = subst (λ b. SpellsFlat b right.flat) (sym right.spelled) (valid_spells right.flat right.valid w.1 few) in
    let same : right.flat ≡ flat = one_flat content right.flat flat its spells in
    record {
      m = h.m;
      sound = s;
      begins = h.begins;
      ends = h.ends;
      room = r.0;
      there = r.1;
      covers = subst (λ (f : Flat). AreCovers f.covers) same right.valid.covers;
      entries = right.entries;
      covered = subst (λ (f : Flat). AreCovered r.0 f.covers right.entries) same right.covered;
      pieces = subst (λ (f : Flat). ArePieces right.entries [] f.pieces) same right.pieces;
    }
  where
    fewer : (n : ℕ) → n + 1 ≤ 2 ^ 64 → n < 2 ^ 64
    fewer n l = omega (arith, l)
