-- Who runs the programs of an opening has opened a reader.
use Rattle.reader_laws.specs.Covering.{counts_in}
use Rattle.index_reader.specs.Found.{item_of}
use Rattle.std.proofs.Common.{◌≡◌, ℕ, nat_eq, true, false, List, [], ◌∷◌, ◌++◌, map, Option, Some, refl, ap, sym, ◌∙◌, inl, inr, subst, append_assoc}
use Rattle.std.specs.Prelude.{Ok, option_map, if◌then◌else◌}
use Rattle.std.specs.List.{All, Any, AllByRecursion}
use Rattle.std.proofs.lemmas.Bool.{cases_Bool, cond-false}
use Rattle.std.proofs.lemmas.List.Elements.{All-from_recursion, recursion_from_All}
use Rattle.plfs_types.specs.declared.entries.Cover.{Cover}
use Rattle.plfs_types.specs.declared.entries.Entry.{Entry}
use Rattle.plfs_types.specs.declared.entries.Trunc.{Trunc}
use Rattle.plain_file.specs.declared.pieces.Piece.{Piece}
use Rattle.plain_file.specs.File.{plain_size}
use Rattle.plain_file.specs.Runs.{ArePieces}
use Rattle.plain_file.specs.Size.{size_from}
use Rattle.plain_file.specs.Sources.{source_of}
use Rattle.plain_file.proofs.Facts.{Among, All-Among, SameElements, OnePerKey-from_KeysDiffer, newest_at-same}
use Rattle.flat_format.specs.declared.flat.Flat.{Flat}
use Rattle.interval_merge.specs.Lists.{ArePiecesOfEach, joined}
use Rattle.mount_model.specs.History.{Event}
use Rattle.mount_sound.specs.Owed.{IsLawful}
use Rattle.mount_model.specs.Running.{Runs}
use Rattle.mount_sound.specs.Ledger.{entries_in}
use Rattle.index_reader.specs.declared.gathered.Gathered.{Gathered as Parts}
use Rattle.index_reader.specs.declared.listing.Dropping.{Dropping as Listed}
use Rattle.index_reader.specs.declared.listing.Listing.{Listing}
use Rattle.index_reader.specs.declared.opened.OpenReader.{OpenReader}
use Rattle.index_reader.specs.declared.sharing.Share.{Share}
use Rattle.index_reader.specs.Sharing.{share_program}
use Rattle.index_reader.specs.Covered.{cover_of, or_nothing}
use Rattle.index_reader.specs.Gathered.{ArePiecesOfAll, IsGatheredOf, pieces_of_each}
use Rattle.reader_laws.specs.Moments.{Moment, IsSoundAt, Dropping, IsNamed, moment_after}
use Rattle.reader_laws.specs.Seen.{Asked, asked_in, calls_of}
use Rattle.reader_laws.specs.Gathering.{Gathered, GathersAll}
use Rattle.reader_laws.specs.GatheringListing.{NamesPack}
use Rattle.plfs_types.specs.Places.{IsAmong}
use Rattle.reader_laws.specs.Flats.{IsCoveredSo, covered_count, covers_of}
use Rattle.reader_laws.specs.GatheringOpening.{IsCutOf, IsPackedSo, HasView}
use Rattle.reader_laws.specs.View.{covered_in, changes_in, tails_in, tails_of, writes_in, WritersRise}
use Rattle.reader_laws.proofs.Gathered.Facts.{alike, all_at, among, among_left, among_right, any_found, found_any, keys_in, legal_first, legal_rest, same_entries, seen, size_of_pieces, sound_after}
use Rattle.reader_laws.specs.Listing.{AreListed, HasListed, IsPackedAs}
use Rattle.reader_laws.specs.Opened.{IsReaderOf, HasOpenReader}
use Rattle.reader_laws.specs.Opening.{AreDealt, Portion, droppings_of, ReadsInTurn}
use Rattle.index_reader.specs.Hosts.{hosts_of}
use Rattle.reader_laws.specs.Sharing.{in_room, host_in_room, cover_before, IsShareOf}
use Rattle.reader_laws.proofs.Calls.Calling.{calls_append}
use Rattle.reader_laws.proofs.OpenReaders.Cuts.{same_head, same_rest, dropping_of, either_part, all_by, matching, IsPicked, WasGathered, picked, cut_rises, all_picked}
use Rattle.reader_laws.proofs.OpenReaders.Portions.{HasEach, all_of, HasAllOf, gathers-append}
use Rattle.reader_laws.proofs.Droppings.Shares.{share_run, all_first, all_rest}

-- ---- shares

pub share_gathered : (caller room : ℕ) (start : Moment) (events : List Event) (ds : List Listed) (covers : List Cover) (share : Share) → IsLawful start.state events → IsSoundAt start → All (λ (d : Listed). IsNamed (in_room room d)) ds
    → Runs caller (share_program room ds covers) events (Ok share) → (gathered : List Gathered) × GathersAll gathered (calls_of caller events) × IsShareOf room ds covers gathered share
share_gathered caller room start events ds covers share lawful sound named runs =
    share_run caller room ds covers start (moment_after start events) events share (recursion_from_All (λ (d : Listed). IsNamed (in_room room d)) ds named) (seen caller start events lawful sound) runs

-- ---- portions, one after the other

-- what the caller gathered of all portions
pub record InTurn (caller room : ℕ) (covers : List Cover) (portions : List Portion) (events : List Event) : Type 0 where
  pub parts : List (List Gathered)
  pub each : HasEach room covers portions parts
  pub gathers : GathersAll (all_of parts) (calls_of caller events)

pub in_turn : (caller room : ℕ) (covers : List Cover) (start : Moment) (portions : List Portion) (events : List Event) → IsLawful start.state events → IsSoundAt start → AllByRecursion (λ (d : Listed). IsNamed (in_room room d)) (droppings_of portions) → ReadsInTurn caller room covers portions events
    → InTurn caller room covers portions events
in_turn caller room covers start [] events lawful sound named reads = record { parts = []; each = tt; gathers = reads }
in_turn caller room covers start (p ∷ portions) events lawful sound named (mine, rest, split, runs, more) =
    let both : IsLawful start.state (mine ++ rest) = subst (IsLawful start.state) split lawful in
    let first = legal_first start mine rest both in
    let h = share_run caller room p.droppings covers start (moment_after start mine) mine p.share (all_first (λ (d : Listed). IsNamed (in_room room d)) p.droppings (droppings_of portions) named) (seen caller start mine first sound) runs in
    let t = in_turn caller room covers (moment_after start mine) portions rest (legal_rest start mine rest both) (sound_after start mine first sound) (all_rest (λ (d : Listed). IsNamed (in_room room d)) p.droppings (droppings_of portions) named) more in
    record {
      parts = h.0 ∷ t.parts;
      each = (h.2, t.each);
      gathers = subst (GathersAll (h.0 ++ all_of t.parts)) (sym (ap (calls_of caller) split ∙ calls_append caller mine rest)) (gathers-append h.0 (all_of t.parts) (calls_of caller mine) (calls_of caller rest) h.1 t.gathers);
    }

-- each dropping of the portions has a dropping's name
pub named_in : (listing : Listing) (found : List Dropping) (portions : List Portion) → AreListed listing.room found listing.droppings → AreDealt listing.droppings portions → AllByRecursion (λ (d : Listed). IsNamed (in_room listing.room d)) (droppings_of portions)
named_in listing found portions listed dealt = of (droppings_of portions) (recursion_from_All (λ (d : Listed). IsAmong d listing.droppings) (droppings_of portions) dealt.only)
  where
    of : (ds : List Listed) → AllByRecursion (λ (d : Listed). IsAmong d listing.droppings) ds → AllByRecursion (λ (d : Listed). IsNamed (in_room listing.room d)) ds
    of [] all = tt
    of (d ∷ ds) all = (all_at (λ (e : Listed). IsNamed (in_room listing.room e)) listing.droppings d listed.named (among listing.droppings d all.0), of ds all.1)

-- ---- the cut of what was gathered

-- the counts of a flattened index's covers
pub count_is : (covers : List Cover) (writer : ℕ) → (cover_of writer covers).count ≡ covered_count covers writer
count_is [] writer = refl
count_is (c ∷ covers) writer = elim (nat_eq c.writer writer) as (λ b. (or_nothing writer (if b then Some c else item_of (λ (d : Cover). d.writer) writer covers)).count ≡ (if b then c.count else covered_count covers writer)) [
  | true ↦ refl
  | false ↦ count_is covers writer
]

-- what was listed of one that was gathered
its_listed : (room : ℕ) (gathered : List Gathered) (ds : List Listed) (g : Gathered) → map dropping_of gathered ≡ map (in_room room) ds → map (λ (x : Gathered). x.packed) gathered ≡ map (λ (d : Listed). d.packed) ds → Among g gathered → (d : Listed) × Among d ds × (g.dropping ≡ in_room room d) × (g.packed ≡ d.packed)
its_listed room [] ds g are packed a = absurd a
its_listed room (x ∷ gathered) [] g are packed a = absurd (cc)
its_listed room (x ∷ gathered) (d ∷ ds) g are packed (inl e) = (
  d,
  inl refl,
  ap dropping_of e ∙ same_head x.dropping (in_room room d) (map dropping_of gathered) (map (in_room room) ds) are,
  ap (λ (y : Gathered). y.packed) e ∙ same_head x.packed d.packed (map (λ (y : Gathered). y.packed) gathered) (map (λ (y : Listed). y.packed) ds) packed,
)
its_listed room (x ∷ gathered) (d ∷ ds) g are packed (inr a) =
    let l = its_listed room gathered ds g (same_rest x.dropping (in_room room d) (map dropping_of gathered) (map (in_room room) ds) are) (same_rest x.packed d.packed (map (λ (y : Gathered). y.packed) gathered) (map (λ (y : Listed). y.packed) ds) packed) a in
    (l.0, inr l.1, l.2, l.3)

packed_as : (room : ℕ) (scan : List Asked) (d : Listed) (g : Gathered) → g.dropping ≡ in_room room d → g.packed ≡ d.packed → IsPackedAs room scan d → IsPackedSo scan g
packed_as room scan d g its same p = record {
  named = λ e. subst (NamesPack scan) (sym its) (p.of_named (sym same ∙ e));
  unnamed = λ e n. p.of_unnamed (sym same ∙ e) (subst (NamesPack scan) its n);
}

-- The cut of what was gathered of all portions.
pub record HasCutOf (listing : Listing) (found : List Dropping) (scan : List Asked) (flat : Option Flat) (gathered cut : List Gathered) : Type 0 where
  pub picks : IsPicked listing.room gathered listing.droppings cut
  pub cuts : IsCutOf listing.room found cut
  pub packed : All (IsPackedSo scan) cut
  pub covered : All (IsCoveredSo (covers_of flat)) cut
  pub all : (g : Gathered) → Among g gathered → Among g cut

pub cut_of : (listing : Listing) (asked : List Asked) (portions : List Portion) (gathered : List Gathered) (h : HasListed listing asked) → AreDealt listing.droppings portions → HasAllOf listing.room listing.flat.covers portions gathered → (cut : List Gathered) × HasCutOf listing h.found h.scan h.flat gathered cut
cut_of listing asked portions gathered h dealt has =
    let room : ℕ = listing.room in
    let listed : AreListed room h.found listing.droppings = h.droppings in
    let was : (d : Listed) → Among d listing.droppings → WasGathered room gathered d = λ d a.
    (let in_portions : Among d (droppings_of portions) = among (droppings_of portions) d (all_at (λ (e : Listed). IsAmong e (droppings_of portions)) listing.droppings d dealt.all a) in
    let m = matching (in_room room) dropping_of (droppings_of portions) gathered d (sym has.droppings_are) in_portions in
    (m.0, m.1, sym m.2)) in
    let p = picked room gathered listing.droppings was in
    let cut : List Gathered = p.0 in
    let only : (d : Listed) → Among d (droppings_of portions) → Among d listing.droppings = λ d a. among listing.droppings d (all_at (λ (e : Listed). IsAmong e listing.droppings) (droppings_of portions) d dealt.only a) in (
      cut,
      record {
        picks = p.1;
        cuts = record {
          rise = cut_rises room cut listing.droppings p.1.are listed.ascend;
          found = All-from_recursion (λ (g : Gathered). IsAmong g.dropping h.found) cut (all_by (λ (g : Gathered). IsAmong g.dropping h.found) cut (λ g a.
              let m = matching dropping_of (in_room room) cut listing.droppings g p.1.are a in
              subst (λ d. IsAmong d h.found) (sym m.2) (all_at (λ (d : Listed). IsAmong (in_room room d) h.found) listing.droppings m.0 listed.each m.1)));
          all = All-from_recursion (λ (d : Dropping). Any (λ (g : Gathered). g.dropping ≡ d) cut) h.found (all_by (λ (d : Dropping). Any (λ (g : Gathered). g.dropping ≡ d) cut) h.found (λ f a.
              let (d, b, is) = any_found (λ (e : Listed). in_room room e ≡ f) listing.droppings (all_at (λ (x : Dropping). Any (λ (e : Listed). in_room room e ≡ x) listing.droppings) h.found f listed.all a) in
              let m = matching (in_room room) dropping_of listing.droppings cut d (sym p.1.are) b in
              found_any (λ (g : Gathered). g.dropping ≡ f) cut m.0 m.1 (sym m.2 ∙ is)));
        };
        packed = All-from_recursion (IsPackedSo h.scan) cut (all_by (IsPackedSo h.scan) cut (λ g a.
            let l = its_listed room gathered (droppings_of portions) g has.droppings_are has.packed_are (All-Among (λ (x : Gathered). Among x gathered) cut g p.1.from a) in
            packed_as room h.scan l.0 g l.2 l.3 (all_at (IsPackedAs room h.scan) listing.droppings l.0 h.packs (only l.0 l.1))));
        covered = All-from_recursion (IsCoveredSo (covers_of h.flat)) cut (all_by (IsCoveredSo (covers_of h.flat)) cut (λ g a.
            All-Among (λ (x : Gathered). x.covered ≡ (cover_before listing.flat.covers x).count) gathered g has.covered_so (All-Among (λ (x : Gathered). Among x gathered) cut g p.1.from a)
            ∙ count_is listing.flat.covers g.dropping.writer ∙ ap (λ cs. covered_count cs g.dropping.writer) (sym h.covers)));
        all = all_picked room gathered (droppings_of portions) listing.droppings cut has.droppings_are dealt.once only p.1;
      },
    )

-- ---- its pieces

-- The pieces of a right flattened index and of all tails are those of the cut.
pub cut_pieces : (end : Moment) (room : ℕ) (cut gathered : List Gathered) (each : List (List Entry)) (flat : List Piece) (lists : List (List Piece)) (pieces : List Piece) → IsSoundAt end → WritersRise room cut → tails_of cut ≡ tails_in end cut → SameElements (tails_of cut) (tails_of gathered)
    → ArePieces (covered_in end cut) [] flat → ArePiecesOfEach each lists → joined each ≡ tails_of gathered → ArePiecesOfAll (flat ∷ lists) pieces → ArePieces (entries_in (writes_in end cut)) [] pieces
cut_pieces end room cut gathered each flat lists pieces s rise tails same of_flat of_each entries all =
    let covered : List Entry = covered_in end cut in
    let both : ArePieces (covered ++ tails_of gathered) [] pieces = subst (λ es. ArePieces (covered ++ es) [] pieces) entries (all.entries (covered ∷ each) (of_flat, of_each)) in
    let writes : List Entry = entries_in (writes_in end cut) in
    let here = same_entries end cut in
    let elements : SameElements writes (covered ++ tails_of gathered) = record {
      to = λ x a. elim (either_part x covered (tails_in end cut) (here.to x a)) as (λ _. Among x (covered ++ tails_of gathered)) [
        | inl front ↦ among_left x covered (tails_of gathered) front
        | inr tail ↦ among_right x covered (tails_of gathered) (same.to x (subst (Among x) (sym tails) tail))
      ];
      back = λ x a. here.back x (elim (either_part x covered (tails_of gathered) a) as (λ _. Among x (covered ++ tails_in end cut)) [
        | inl front ↦ among_left x covered (tails_in end cut) front
        | inr tail ↦ among_right x covered (tails_in end cut) (subst (Among x) tails (same.back x tail))
      ]);
    } in
    record {
      runs = both.runs;
      shown = λ x. both.shown x ∙ ap (option_map (source_of x)) (sym (newest_at-same writes (covered ++ tails_of gathered) [] [] (OnePerKey-from_KeysDiffer writes (keys_in end s room cut rise)) elements (record { to = λ u a. a; back = λ u a. a }) x));
    }

-- ---- the reader

-- the hosts that droppings tell, in a room
pub hosts_in_room : (room : ℕ) (ds : List Listed) → map (host_in_room room) (hosts_of ds) ≡ map (in_room room) ds
hosts_in_room room [] = refl
hosts_in_room room (d ∷ ds) = ap (λ l. in_room room d ∷ l) (hosts_in_room room ds)

pub reader_of : (start end : Moment) (listing : Listing) (portions : List Portion) (shares : List Share) (truncs : List Trunc) (parts : Parts) (reader : OpenReader) (gathered cut : List Gathered) (each : List (List Entry)) → IsSoundAt end → HasView start end listing.room cut truncs → IsPicked listing.room gathered listing.droppings cut
    → SameElements (tails_of cut) (tails_of gathered) → ArePieces (covered_in end cut) [] listing.flat.pieces → ArePiecesOfEach each (pieces_of_each shares) → joined each ≡ tails_of gathered
    → IsGatheredOf listing shares truncs parts → IsReaderOf parts reader → parts.flat.covers ≡ counts_in end cut → HasOpenReader start end reader cut
reader_of start end listing portions shares truncs parts reader gathered cut each s view picks same of_flat of_each entries is made covers =
    let room : reader.room ≡ listing.room = made.room ∙ is.room in
    let told : reader.truncs ≡ truncs = made.truncates ∙ is.truncates in
    let pieces : ArePieces (entries_in (writes_in end cut)) [] parts.flat.pieces = cut_pieces end listing.room cut gathered each listing.flat.pieces (pieces_of_each shares) parts.flat.pieces s view.rise view.entries same of_flat of_each entries is.pieces in
    let size : reader.size ≡ plain_size (changes_in end cut truncs) = made.size ∙ ap (size_from parts.flat.pieces) is.truncates ∙ sym (size_of_pieces end listing.room cut truncs parts.flat.pieces s view.rise pieces) in
    record {
      view = subst (λ r. HasView start end r cut reader.truncs) (sym room) (subst (λ ts. HasView start end listing.room cut ts) (sym told) view);
      hosts = ap (λ hs. map (host_in_room reader.room) hs) (made.hosts ∙ ap hosts_of is.droppings) ∙ hosts_in_room reader.room listing.droppings ∙ ap (λ r. map (in_room r) listing.droppings) room ∙ sym picks.are;
      pieces = subst (λ ts. ArePieces (entries_in (writes_in end cut)) ts reader.pieces) (sym made.truncates) (made.pieces (entries_in (writes_in end cut)) pieces);
      size = size ∙ ap (λ ts. plain_size (changes_in end cut ts)) (sym told);
      covers = made.covers ∙ covers;
    }

-- ---- where it begins

-- The caller's first call among the events.
pub record IsBegun (caller : ℕ) (events : List Event) : Type 0 where
  pub before : List Event
  pub first : Event
  pub more : List Event
  pub split : events ≡ before ++ first ∷ more
  pub waits : calls_of caller before ≡ []
  pub begins : first.caller ≡ caller
  pub same : calls_of caller (first ∷ more) ≡ calls_of caller events

pub begun : (caller : ℕ) (events : List Event) (c : Asked) (cs : List Asked) → calls_of caller events ≡ c ∷ cs → IsBegun caller events
begun caller [] c cs some = absurd (cc)
begun caller (e ∷ events) c cs some = elim (cases_Bool (nat_eq e.caller caller)) [
  | inl own ↦ record { before = []; first = e; more = events; split = refl; waits = refl; begins = alike e.caller caller own; same = refl }
  | inr other ↦
      let past : (es : List Event) → calls_of caller (e ∷ es) ≡ calls_of caller es = λ es. cond-false (nat_eq e.caller caller) (asked_in e ∷ calls_of caller es) (calls_of caller es) other in
      let b = begun caller events c cs (sym (past events) ∙ some) in
      record { before = e ∷ b.before; first = b.first; more = b.more; split = ap (λ l. e ∷ l) b.split; waits = past b.before ∙ b.waits; begins = b.begins; same = b.same ∙ sym (past events) }
]

some_first : (earlier : List Asked) (first : Asked) (reads rest : List Asked) → (c : Asked) × (cs : List Asked) × (earlier ++ (first ∷ reads ++ rest) ≡ c ∷ cs)
some_first [] first reads rest = (first, reads ++ rest, refl)
some_first (a ∷ earlier) first reads rest = (a, earlier ++ (first ∷ reads ++ rest), refl)

-- a listing made a call
pub listing_begins : (caller : ℕ) (listing : Listing) (scanning rest : List Event) → HasListed listing (calls_of caller scanning) → IsBegun caller (scanning ++ rest)
listing_begins caller listing scanning rest h =
    let s = some_first h.earlier h.reads.first h.reads.reads (h.scan ++ calls_of caller rest) in
    begun caller (scanning ++ rest) s.0 s.1
    (calls_append caller scanning rest ∙ ap (λ l. l ++ calls_of caller rest) h.split ∙ append_assoc h.earlier (h.flattened ++ h.scan) (calls_of caller rest)
    ∙ ap (λ l. h.earlier ++ l) (append_assoc h.flattened h.scan (calls_of caller rest) ∙ ap (λ l. l ++ (h.scan ++ calls_of caller rest)) h.reads.calls) ∙ s.2)
