-- The laws of opening.
use Rattle.std.proofs.Common.{◌≡◌, ℕ, List, [], ◌∷◌, ◌++◌, Option, Some, None, refl, ap, sym, ◌∙◌, subst, append_assoc, arith}
use Rattle.std.specs.List.{Any}
use Rattle.std.proofs.lemmas.List.{append-nil}
use Rattle.plfs_types.specs.declared.entries.Cover.{Cover}
use Rattle.plfs_types.specs.declared.entries.Trunc.{Trunc}
use Rattle.flat_format.specs.declared.flat.Flat.{Flat}
use Rattle.mount_model.specs.Paths.{Name}
use Rattle.mount_sound.specs.Ledger.{entries_in}
use Rattle.plain_file.proofs.Facts.{Among, All-Among}
use Rattle.mount_model.specs.History.{Event}
use Rattle.mount_sound.specs.Owed.{IsLawful}
use Rattle.index_reader.specs.declared.gathered.Gathered.{Gathered as Parts}
use Rattle.index_reader.specs.declared.listing.Listing.{Listing}
use Rattle.index_reader.specs.declared.opened.OpenReader.{OpenReader}
use Rattle.index_reader.specs.Gathered.{AreFirstOf, IsGatheredOf, covers_of}
use Rattle.plain_file.specs.Runs.{ArePieces}
use Rattle.reader_laws.specs.Moments.{Moment, IsSoundAt, Dropping, Grows, Stood, issued_by, moment_after}
use Rattle.reader_laws.specs.Seen.{Asked, asked_in, calls_of, IsSeen}
use Rattle.reader_laws.specs.Gathering.{Gathered, GathersAll, IsPrefixOf}
use Rattle.plfs_types.specs.Places.{IsAmong}
use Rattle.reader_laws.specs.Flats.{covers_of as flat_covers, IsFlatName, TakesNewest, pieces_of}
use Rattle.reader_laws.specs.GatheringOpening.{IsCutOf, IsOpening, HasView, ListsTruncs}
use Rattle.reader_laws.specs.View.{covered_in, WritersRise}
use Rattle.reader_laws.proofs.Gathered.Facts.{HasAll, WasRight, all_at, any_found, flat_right, grows_after, grows_trans, is_among, legal_first, legal_rest, length-entries, length_taken, moment-append, opened, opened_flat, prefix_of, scan_found, seen, seen_grows, seen_split, sound_after, stood_grows}
use Rattle.std.proofs.lemmas.List.Elements.{All-from_recursion}
use Rattle.reader_laws.specs.Covering.{cover_with, counts_in}
use Rattle.reader_laws.specs.Listing.{HasListed, HasListedTruncs}
use Rattle.reader_laws.specs.Opened.{IsReaderOf, HasOpenedIn}
use Rattle.reader_laws.specs.Opening.{Portion, shares_of, OpensAlone}
use Rattle.reader_laws.specs.Sharing.{cover_before}
use Rattle.reader_laws.proofs.Calls.Calling.{calls_append}
use Rattle.reader_laws.proofs.OpenReaders.Cuts.{all_by, same_tails}
use Rattle.reader_laws.proofs.OpenReaders.Counts.{AreRightFor, none_right, flat_is_right, cover_is, counts_are, IsCounted, covers_counted}
use Rattle.reader_laws.proofs.Calls.Histories.{listed_by, truncs_listed}
use Rattle.reader_laws.proofs.Containers.Listings.{listing_run}
use Rattle.reader_laws.proofs.OpenReaders.Openings.{in_turn, named_in, HasCutOf, cut_of, reader_of, IsBegun, listing_begins}
use Rattle.reader_laws.proofs.OpenReaders.Portions.{all_of, HasAllOf, all_together}

-- ---- the covers

-- The covers of the flattened index that a listing read are right for the cut, whenever that was made.
pub listing_right : (caller : ℕ) (start end : Moment) (listing : Listing) (scanning : List Event) (cut : List Gathered) (h : HasListed listing (calls_of caller scanning)) → IsLawful start.state scanning → IsSoundAt start → IsCutOf listing.room h.found cut → Grows (moment_after start scanning) end → AreRightFor end cut listing.flat.covers
listing_right caller start end listing scanning cut h lawful sound cuts grows =
    let room : ℕ = listing.room in
    let middle : Moment = moment_after start scanning in
    let s = seen_split caller start middle h.earlier (h.flattened ++ h.scan) (subst (λ a. IsSeen caller start a middle) h.split (seen caller start scanning lawful sound)) in
    let f = seen_split caller s.0 middle h.flattened h.scan s.2 in
    let all : (d : Dropping) → d.room ≡ room → Stood f.0 d → Any (λ (g : Gathered). g.dropping ≡ d) cut = λ d its stood.
    all_at (λ (x : Dropping). Any (λ (g : Gathered). g.dropping ≡ x) cut) h.found d cuts.all (scan_found caller room f.0 middle h.scan h.found d f.2 h.scans its stood) in
    let first : IsSeen caller s.0 (h.reads.first ∷ h.reads.reads) f.0 = subst (λ a. IsSeen caller s.0 a f.0) h.reads.calls f.1 in
    subst (AreRightFor end cut) h.covers (newest_right caller room first.0 f.0 end h.reads.names h.flat h.reads.reads cut first.2 h.reads.takes cuts.rise all (grows_trans f.0 middle end (seen_grows caller f.0 middle h.scan f.2) grows))
  where
    newest_right : (caller room : ℕ) (start middle end : Moment) (names : List Name) (flat : Option Flat) (asked : List Asked) (cut : List Gathered) → IsSeen caller start asked middle → TakesNewest room names flat asked → WritersRise room cut
        → ((d : Dropping) → d.room ≡ room → Stood middle d → Any (λ (g : Gathered). g.dropping ≡ d) cut) → Grows middle end → AreRightFor end cut (flat_covers flat)
    newest_right caller room start middle end names None asked cut seen takes rise all grows = none_right end cut
    newest_right caller room start middle end names (Some flat) asked cut seen (id, content, newest, reads, spells) rise all grows =
        let (name, a, named) = any_found (λ n. IsFlatName n id) names newest.named in
        let w : WasRight start middle room flat = flat_right caller room id start middle asked content flat seen named.is_item reads spells in
        let has : HasAll w.m room 0 cut = λ d its l st. (let g = any_found (λ (x : Gathered). x.dropping ≡ d) cut (all d its (stood_grows w.m middle d w.ends st)) in (g.0, g.1, g.2)) in
        flat_is_right w.m w.sound room w.room w.there end (grows_trans w.m middle end w.ends grows) cut flat.covers w.entries rise w.covers w.covered has

counted_so : (start end : Moment) (cut : List Gathered) (flat : List Cover) (g : Gathered) → IsPrefixOf start end g → g.covered ≡ (cover_before flat g).count → g.count ≡ (cover_with (cover_before flat g) g.tail).count → IsCounted end flat g
counted_so start end cut flat g p before count = record {
  whole = length_taken g.count (entries_in (issued_by end g.dropping)) (omega (arith, p.were_issued, length-entries (issued_by end g.dropping)));
  before = before;
  few = omega (arith, before, count);
}

-- The covers that were first told are the counts of the cut.
pub covers_of_cut : (start end : Moment) (listing : Listing) (asked : List Asked) (portions : List Portion) (truncs : List Trunc) (gathered cut : List Gathered) (covers : List Cover) (h : HasListed listing asked) → HasView start end listing.room cut truncs → HasCutOf listing h.found h.scan h.flat gathered cut
    → HasAllOf listing.room listing.flat.covers portions gathered → AreRightFor end cut listing.flat.covers → AreFirstOf (covers_of (shares_of portions) ++ listing.flat.covers) covers → covers ≡ counts_in end cut
covers_of_cut start end listing asked portions truncs gathered cut covers h view c has right first =
    let flat : List Cover = listing.flat.covers in
    let in_gathered : (g : Gathered) → Among g cut → Among g gathered = λ g a. All-Among (λ (x : Gathered). Among x gathered) cut g c.picks.from a in
    let counted : (g : Gathered) → Among g cut → IsCounted end flat g = λ g a.
    counted_so start end cut flat g (prefix_of start end cut g view.admissible a) (All-Among (λ (x : Gathered). x.covered ≡ (cover_before flat x).count) gathered g has.covered_so (in_gathered g a))
    (All-Among (λ (x : Gathered). x.count ≡ (cover_with (cover_before flat x) x.tail).count) gathered g has.counted (in_gathered g a)) in
    let told : covers_of (shares_of portions) ≡ counts_in end gathered = has.covers_are ∙ counts_are end flat gathered (λ g a.
    let n = counted g (c.all g a) in cover_is start end cut flat g right (c.all g a) (prefix_of start end cut g view.admissible (c.all g a)) n.before n.few) in
    covers_counted end listing.room cut gathered flat (covers_of (shares_of portions)) covers view.rise right counted c.all in_gathered told first.ascend first.each

-- ---- one who reads all portions

-- What the caller made of its calls is what one who opens a reader alone makes.
opens_so : (caller : ℕ) (listing : Listing) (scanning gathering before : List Event) (last : Asked) (truncs : List Trunc) (gathered cut : List Gathered) (h : HasListed listing (calls_of caller scanning)) → HasCutOf listing h.found h.scan h.flat gathered cut
    → GathersAll gathered (calls_of caller gathering) → calls_of caller before ≡ [] → ListsTruncs listing.room truncs last
    → (o : IsOpening listing.room cut truncs (calls_of caller (scanning ++ (gathering ++ before))) last) × (o.flat ≡ h.flat)
opens_so caller listing scanning gathering before last truncs gathered cut h has gathers waits lists = (
  record {
    earlier = h.earlier;
    flattened = h.flattened;
    scan = h.scan;
    entries = calls_of caller gathering;
    split = calls_append caller scanning (gathering ++ before)
        ∙ ap (λ l. calls_of caller scanning ++ l) (calls_append caller gathering before ∙ ap (λ l. calls_of caller gathering ++ l) waits ∙ append-nil (calls_of caller gathering))
        ∙ ap (λ l. l ++ calls_of caller gathering) h.split
        ∙ append_assoc h.earlier (h.flattened ++ h.scan) (calls_of caller gathering)
        ∙ ap (λ l. h.earlier ++ l) (append_assoc h.flattened h.scan (calls_of caller gathering));
    flat = h.flat;
    reads = h.reads;
    droppings = h.found;
    scans = h.scans;
    cuts = has.cuts;
    packed = has.packed;
    gathered = gathered;
    gathers = gathers;
    covered = has.covered;
    has = All-from_recursion (λ (g : Gathered). IsAmong g gathered) cut (all_by (λ (g : Gathered). IsAmong g gathered) cut (λ g a. is_among gathered g (All-Among (λ (x : Gathered). Among x gathered) cut g has.picks.from a)));
    lists = lists;
  },
  refl,
)

regroup : (a b c : List Event) (last : Event) (later : List Event) → a ++ (b ++ (c ++ last ∷ later)) ≡ (a ++ (b ++ c)) ++ last ∷ later
regroup a b c last later = ap (λ l. a ++ l) (sym (append_assoc b c (last ∷ later))) ∙ sym (append_assoc a (b ++ c) (last ∷ later))

pub opens_alone : (caller : ℕ) (start : Moment) (events : List Event) (listing : Listing) (portions : List Portion) (truncs : List Trunc) (parts : Parts) (reader : OpenReader) → IsLawful start.state events → IsSoundAt start → OpensAlone caller events listing portions truncs → IsGatheredOf listing (shares_of portions) truncs parts → IsReaderOf parts reader
    → HasOpenedIn caller start events reader
opens_alone caller start events listing portions truncs parts reader lawful sound o is made =
    let all : IsLawful start.state (o.scanning ++ (o.gathering ++ o.listing_truncs)) = subst (IsLawful start.state) o.split lawful in
    let l1 = legal_first start o.scanning (o.gathering ++ o.listing_truncs) all in
    let m1 : Moment = moment_after start o.scanning in
    let s1 : IsSoundAt m1 = sound_after start o.scanning l1 sound in
    let r1 = legal_rest start o.scanning (o.gathering ++ o.listing_truncs) all in
    let l2 = legal_first m1 o.gathering o.listing_truncs r1 in
    let m2 : Moment = moment_after m1 o.gathering in
    let s2 : IsSoundAt m2 = sound_after m1 o.gathering l2 s1 in
    let r2 = legal_rest m1 o.gathering o.listing_truncs r1 in
    let h : HasListed listing (calls_of caller o.scanning) = listing_run caller o.program start o.scanning listing l1 sound o.lists o.scans in
    let t = in_turn caller listing.room listing.flat.covers m1 portions o.gathering l2 s1 (named_in listing h.found portions h.droppings o.dealt) o.reads in
    let gathered : List Gathered = all_of t.parts in
    let has : HasAllOf listing.room listing.flat.covers portions gathered = all_together listing.room listing.flat.covers portions t.parts t.each in
    let c = cut_of listing (calls_of caller o.scanning) portions gathered h o.dealt has in
    let cut : List Gathered = c.0 in
    let last : HasListedTruncs caller listing.room o.listing_truncs truncs = truncs_listed caller listing.room m2 o.listing_truncs truncs r2 s2 o.truncates in
    let until : List Event = o.scanning ++ (o.gathering ++ last.before) in
    let b : IsBegun caller until = listing_begins caller listing o.scanning (o.gathering ++ last.before) h in
    let whole : events ≡ b.before ++ (b.first ∷ b.more ++ last.listing ∷ last.later) =
    o.split ∙ ap (λ l. o.scanning ++ (o.gathering ++ l)) last.split ∙ regroup o.scanning o.gathering last.before last.listing last.later ∙ ap (λ l. l ++ last.listing ∷ last.later) b.split ∙ append_assoc b.before (b.first ∷ b.more) (last.listing ∷ last.later) in
    let lawful' : IsLawful start.state (b.before ++ (b.first ∷ b.more ++ last.listing ∷ last.later)) = subst (IsLawful start.state) whole lawful in
    let from : Moment = moment_after start b.before in
    let s0 : IsSoundAt from = sound_after start b.before (legal_first start b.before (b.first ∷ b.more ++ last.listing ∷ last.later) lawful') sound in
    let rest = legal_rest start b.before (b.first ∷ b.more ++ last.listing ∷ last.later) lawful' in
    let end : Moment = moment_after from (b.first ∷ b.more) in
    let opening = opens_so caller listing o.scanning o.gathering last.before (asked_in last.listing) truncs gathered cut h c.1 t.gathers last.waits last.truncates in
    let here : (p : IsOpening listing.room cut truncs (calls_of caller (b.first ∷ b.more)) (asked_in last.listing)) × (p.flat ≡ h.flat) =
    subst (λ calls. (p : IsOpening listing.room cut truncs calls (asked_in last.listing)) × (p.flat ≡ h.flat)) (sym b.same) opening in
    let ends : moment_after m1 (o.gathering ++ last.before) ≡ end = sym (moment-append start o.scanning (o.gathering ++ last.before)) ∙ ap (moment_after start) b.split ∙ moment-append start b.before (b.first ∷ b.more) in
    let grows : Grows m1 end = subst (Grows m1) ends (grows_after m1 (o.gathering ++ last.before) (legal_first m1 (o.gathering ++ last.before) (last.listing ∷ last.later) (subst (IsLawful m1.state) (ap (λ l. o.gathering ++ l) last.split ∙ sym (append_assoc o.gathering last.before (last.listing ∷ last.later))) r1)) s1) in
    let s3 : IsSoundAt end = sound_after from (b.first ∷ b.more) (legal_first from (b.first ∷ b.more) (last.listing ∷ last.later) rest) s0 in
    let view : HasView from end listing.room cut truncs = opened caller listing.room from (b.first ∷ b.more) last.listing last.later cut truncs rest s0 here.0 in
    let of_flat : ArePieces (covered_in end cut) [] (pieces_of here.0.flat) = opened_flat caller listing.room from (b.first ∷ b.more) last.listing cut truncs (legal_first from (b.first ∷ b.more) (last.listing ∷ last.later) rest) s0 here.0 in
    record {
      before = b.before;
      first = b.first;
      more = b.more;
      listing = last.listing;
      later = last.later;
      split = whole;
      waits = b.waits;
      begins = b.begins;
      lists = last.lists;
      truncates = listed_by reader listing.room truncs (asked_in last.listing) (made.room ∙ is.room) (made.truncates ∙ is.truncates) last.truncates;
      cut = cut;
      has = reader_of from end listing portions (shares_of portions) truncs parts reader gathered cut has.each s3 view c.1.picks
          (same_tails cut gathered (λ g a. All-Among (λ (x : Gathered). Among x gathered) cut g c.1.picks.from a) c.1.all)
          (subst (ArePieces (covered_in end cut) []) (ap pieces_of here.1 ∙ h.pieces) of_flat) has.pieces has.entries is made
          (covers_of_cut from end listing (calls_of caller o.scanning) portions truncs gathered cut parts.flat.covers h view c.1 has (listing_right caller start end listing o.scanning cut h l1 sound c.1.cuts grows) is.covers);
    }
