-- What a caller that gathered a container alone has: of each writer the first entries, and the pieces of them all. They are those of a cut that it saw.
use Rattle.std.proofs.Common.{◌≡◌, ◌≤◌, ℕ, List, [], ◌∷◌, ◌++◌, map, length, take, Some, refl, ap, sym, ◌∙◌, inl, inr, subst, arith, append_assoc, Bool, true, false}
use Rattle.std.specs.Prelude.{slice_get, ◌==◌}
use Rattle.std.proofs.lemmas.List.{append-nil}
use Rattle.std.proofs.lemmas.List.Elements.{All-from_recursion}
use Rattle.plfs_types.specs.declared.entries.Entry.{Entry}
use Rattle.plfs_types.specs.declared.entries.Trunc.{Trunc}
use Rattle.plain_file.specs.Runs.{ArePieces}
use Rattle.plain_file.proofs.Facts.{Among, All-Among}
use Rattle.container_layout.specs.declared.items.Item.TheVariants.{Index}
use Rattle.store_api.specs.declared.tree.Room.{Room}
use Rattle.store_api.specs.declared.tree.Tree.{Tree}
use Rattle.mount_model.specs.History.{Event}
use Rattle.mount_model.specs.State.{State}
use Rattle.mount_sound.specs.Items.{HasItem}
use Rattle.mount_sound.specs.Ledger.{entries_in}
use Rattle.mount_sound.specs.Owed.{IsLawful, StandsInRoom}
use Rattle.mount_sound.specs.There.{landed_entries}
use Rattle.mount_sound.proofs.Facts.{one_tree, take_less}
use Rattle.flat_format.specs.declared.flat.Flat.{Flat}
use Rattle.flat_format.specs.Valid.{IsFlat}
use Rattle.index_reader.specs.Covered.{AreByWriter}
use Rattle.gather_flow.specs.OneIndex.{flat_of, gathered_of}
use Rattle.index_reader.specs.declared.listing.Dropping.{Dropping as Listed}
use Rattle.index_reader.specs.declared.listing.Listing.{Listing}
use Rattle.index_reader.specs.Gathered.{IsGatheredOf, pieces_of_each}
use Rattle.reader_laws.specs.Moments.{Moment, IsSoundAt, Dropping, Grows, Stood, issued_by, landed, landed_by, moment_after}
use Rattle.reader_laws.specs.Seen.{Asked, asked_in, calls_of}
use Rattle.reader_laws.specs.Gathering.{Gathered, GathersAll, IsPrefixOf}
use Rattle.plfs_types.specs.Places.{IsAmong}
use Rattle.reader_laws.specs.Flats.{pieces_of}
use Rattle.reader_laws.specs.GatheringOpening.{IsOpening, HasView, ListsTruncs}
use Rattle.reader_laws.specs.View.{covered_in, own_entries, writes_in, WritersRise}
use Rattle.reader_laws.proofs.Gathered.Facts.{grows_after, is_among, landed_at, landed_is_first, legal_first, legal_rest, length-entries, length_taken, entries_stay, moment-append, opened, opened_flat, prefix_of, sound_after, stands, stood_grows}
use Rattle.recovery_laws.proofs.Facts.{HasFirst}
use Rattle.reader_laws.specs.Covering.{counts_in}
use Rattle.reader_laws.specs.Listing.{HasListed, HasListedTruncs}
use Rattle.reader_laws.specs.Opening.{Portion, shares_of, OpensAlone}
use Rattle.reader_laws.proofs.Facts.{HasAllOf, HasCutOf, all_by, all_of, all_together, calls_append, covers_of_cut, cut_of, cut_pieces, in_turn, listing_right, listing_run, named_in, same_tails, truncs_listed}
use Rattle.flatten_laws.proofs.Merged.{each_runs, one_index}
use Rattle.flatten_laws.proofs.Valid.{flat_valid}
use Rattle.flatten_laws.proofs.Owns.{Own, AreOwn, all_entries, are_own, counts_owns, entries_owns, own_cover, own_if, own_of, owns_in}

-- ---- in the room

-- these are the first entries of each, and they have landed
abbrev pub EachFirst : ℕ → List Own → State → Type 0
EachFirst number [] state = Unit {0}
EachFirst number (o ∷ owns) state = StandsInRoom state number (HasFirst o.host o.writer o.entries) × EachFirst number owns state

-- what stood at a moment stands in its room
pub stood_stands : (m : Moment) (s : IsSoundAt m) (d : Dropping) → Stood m d → StandsInRoom m.state d.room (λ room. (content : List ℕ) × HasItem room (Index d.host d.writer) content)
stood_stands m s d had tree told =
    let st = stands m s d had.bytes had.is_item had.there in
    (st.room, ap (λ (t : Tree). slice_get t.rooms d.room) (one_tree tree s.shape.tree m.state.store.tree told s.shape.told) ∙ st.there, (had.bytes, record { is_item = had.is_item; there = st.at }))

-- what was gathered of a writer are its first entries, whenever later
first_of_prefix : (start end last : Moment) (s : IsSoundAt last) (g : Gathered) → IsPrefixOf start end g → Grows end last → StandsInRoom last.state g.dropping.room (HasFirst g.dropping.host g.dropping.writer (own_entries end g))
first_of_prefix start end last s g p grows tree told =
    let d : Dropping = g.dropping in
    let had : Stood last d = stood_grows end last d grows p.stands in
    let st = stands last s d had.bytes had.is_item had.there in
    let es : List Entry = own_entries end g in
    let long : length es ≡ g.count = length_taken g.count (entries_in (issued_by end d)) (omega (arith, p.were_issued, length-entries (issued_by end d))) in
    let here : landed_by last d ≡ landed_entries st.room d.host d.writer = landed_at last s d st.room st.there in
    let enough : g.count ≤ landed last d = omega (arith, p.most, grows.landed d had.is_item) in (
      st.room,
      ap (λ (t : Tree). slice_get t.rooms d.room) (one_tree tree s.shape.tree last.state.store.tree told s.shape.told) ∙ st.there,
      record {
        content = had.bytes;
        stands = record { is_item = had.is_item; there = st.at };
        many = omega (arith, long, enough, ap length here);
        first = ap (λ n. take n (landed_entries st.room d.host d.writer)) long
            ∙ ap (λ l. take g.count l) (sym here)
            ∙ ap (λ l. take g.count l) (landed_is_first last s d had.is_item)
            ∙ take_less g.count (landed last d) (entries_in (issued_by last d)) enough
            ∙ entries_stay end last d g.count grows p.were_issued;
      },
    )

first_both : (number : ℕ) (xs ys : List Own) (state : State) → EachFirst number xs state → EachFirst number ys state → EachFirst number (xs ++ ys) state
first_both number [] ys state a b = b
first_both number (x ∷ xs) ys state a b = (a.0, first_both number xs ys state a.1 b)

first_when : (start end last : Moment) (s : IsSoundAt last) (number : ℕ) (g : Gathered) → g.dropping.room ≡ number → IsPrefixOf start end g → Grows end last → (b : Bool) → EachFirst number (own_if end b (own_of end g)) last.state
first_when start end last s number g is p grows true = tt
first_when start end last s number g is p grows false = (subst (λ n. StandsInRoom last.state n (HasFirst g.dropping.host g.dropping.writer (own_entries end g))) is (first_of_prefix start end last s g p grows), tt)

firsts : (start end last : Moment) (s : IsSoundAt last) (number : ℕ) (cut : List Gathered) → ((g : Gathered) → Among g cut → (g.dropping.room ≡ number) × IsPrefixOf start end g) → Grows end last → EachFirst number (owns_in end cut) last.state
firsts start end last s number [] each grows = tt
firsts start end last s number (g ∷ cut) each grows =
    let own = each g (inl refl) in
    first_both number (own_if end ((own_cover (own_of end g)).count == 0) (own_of end g)) (owns_in end cut) last.state
    (first_when start end last s number g own.0 own.1 grows ((own_cover (own_of end g)).count == 0))
    (firsts start end last s number cut (λ h a. each h (inr a)) grows)

-- ---- what was gathered

-- The index is valid, and of the first entries of writers, which have landed in the room.
pub record IsTaken (number : ℕ) (index : Flat) (state : State) : Type 0 where
  pub owns : List Own
  pub are : AreOwn owns
  pub covers : map own_cover owns ≡ index.covers
  pub valid : IsFlat index
  pub pieces : ArePieces (all_entries owns) [] index.pieces
  pub firsts : EachFirst number owns state

valid_index : (owns : List Own) (index : Flat) → AreOwn owns → map own_cover owns ≡ index.covers → AreByWriter index.covers → ArePieces (all_entries owns) [] index.pieces → IsFlat index
valid_index owns index are covers by pieces =
    let same : ◌≡◌ {A = Flat} (record { covers = map own_cover owns; pieces = index.pieces }) index = λ i. record { covers = covers i; pieces = index.pieces } in
    subst IsFlat same (flat_valid owns index.pieces are (subst AreByWriter (sym covers) by) pieces)

regroup : (a b c : List Event) (last : Event) (later : List Event) → a ++ (b ++ (c ++ last ∷ later)) ≡ (a ++ (b ++ c)) ++ last ∷ later
regroup a b c last later = ap (λ l. a ++ l) (sym (append_assoc b c (last ∷ later))) ∙ sym (append_assoc a (b ++ c) (last ∷ later))

-- the caller's calls are those of an opening
opens_so : (caller : ℕ) (listing : Listing) (scanning gathering before : List Event) (last : Asked) (truncs : List Trunc) (gathered cut : List Gathered) (h : HasListed listing (calls_of caller scanning)) → HasCutOf listing h.found h.scan h.flat gathered cut
    → GathersAll gathered (calls_of caller gathering) → calls_of caller before ≡ [] → ListsTruncs listing.room truncs last
    → (o : IsOpening listing.room cut truncs (calls_of caller (scanning ++ (gathering ++ before))) last) × (o.flat ≡ h.flat)
opens_so caller listing scanning gathering before last truncs gathered cut h has gathers waits lists = (
  record {
    earlier = h.earlier;
    flattened = h.flattened;
    scan = h.scan;
    entries = calls_of caller gathering;
    split = calls_append caller scanning (gathering ++ before)
        ∙ ap (λ l. calls_of caller scanning ++ l) (calls_append caller gathering before ∙ ap (λ l. calls_of caller gathering ++ l) waits ∙ append-nil (calls_of caller gathering))
        ∙ ap (λ l. l ++ calls_of caller gathering) h.split
        ∙ append_assoc h.earlier (h.flattened ++ h.scan) (calls_of caller gathering)
        ∙ ap (λ l. h.earlier ++ l) (append_assoc h.flattened h.scan (calls_of caller gathering));
    flat = h.flat;
    reads = h.reads;
    droppings = h.found;
    scans = h.scans;
    cuts = has.cuts;
    packed = has.packed;
    gathered = gathered;
    gathers = gathers;
    covered = has.covered;
    has = All-from_recursion (λ (g : Gathered). IsAmong g gathered) cut (all_by (λ (g : Gathered). IsAmong g gathered) cut (λ g a. is_among gathered g (All-Among (λ (x : Gathered). Among x gathered) cut g has.picks.from a)));
    lists = lists;
  },
  refl,
)

in_room_of : (number : ℕ) (cut : List Gathered) (g : Gathered) → WritersRise number cut → Among g cut → g.dropping.room ≡ number
in_room_of number [] g rise a = absurd a
in_room_of number (x ∷ cut) g rise (inl same) = ap (λ (y : Gathered). y.dropping.room) same ∙ rise.0
in_room_of number (x ∷ cut) g rise (inr a) = in_room_of number cut g rise.2 a

-- The index is of a view of the room: of a cut of its writers, from the first of these events to the listing of the truncates. Its covers and its pieces are
-- those of the cut, whatever the truncates take away.
pub record IsOfView (caller number : ℕ) (index : Flat) (start : Moment) (events : List Event) : Type 0 where
  pub until : List Event
  pub listing : Event
  pub later : List Event
  pub split : events ≡ until ++ listing ∷ later
  pub lists : listing.caller ≡ caller
  pub truncs : List Trunc
  pub truncates : ListsTruncs number truncs (asked_in listing)
  pub cut : List Gathered
  pub view : HasView start (moment_after start until) number cut truncs
  pub covers : index.covers ≡ counts_in (moment_after start until) cut
  pub ascend : AreByWriter index.covers
  pub pieces : ArePieces (entries_in (writes_in (moment_after start until) cut)) [] index.pieces

pub viewed_alone : (caller : ℕ) (start : Moment) (events : List Event) (listing : Listing) (portions : List Portion) (truncs : List Trunc) → IsLawful start.state events → IsSoundAt start → OpensAlone caller events listing portions truncs
    → IsOfView caller listing.room (flat_of listing (shares_of portions)) start events
viewed_alone caller start events listing portions truncs lawful sound o =
    let room : ℕ = listing.room in
    let index : Flat = flat_of listing (shares_of portions) in
    let all : IsLawful start.state (o.scanning ++ (o.gathering ++ o.listing_truncs)) = subst (IsLawful start.state) o.split lawful in
    let l1 = legal_first start o.scanning (o.gathering ++ o.listing_truncs) all in
    let m1 : Moment = moment_after start o.scanning in
    let s1 : IsSoundAt m1 = sound_after start o.scanning l1 sound in
    let r1 = legal_rest start o.scanning (o.gathering ++ o.listing_truncs) all in
    let l2 = legal_first m1 o.gathering o.listing_truncs r1 in
    let m2 : Moment = moment_after m1 o.gathering in
    let s2 : IsSoundAt m2 = sound_after m1 o.gathering l2 s1 in
    let r2 = legal_rest m1 o.gathering o.listing_truncs r1 in
    let h : HasListed listing (calls_of caller o.scanning) = listing_run caller o.program start o.scanning listing l1 sound o.lists o.scans in
    let t = in_turn caller room listing.flat.covers m1 portions o.gathering l2 s1 (named_in listing h.found portions h.droppings o.dealt) o.reads in
    let gathered : List Gathered = all_of t.parts in
    let has : HasAllOf room listing.flat.covers portions gathered = all_together room listing.flat.covers portions t.parts t.each in
    let c = cut_of listing (calls_of caller o.scanning) portions gathered h o.dealt has in
    let cut : List Gathered = c.0 in
    let last : HasListedTruncs caller room o.listing_truncs truncs = truncs_listed caller room m2 o.listing_truncs truncs r2 s2 o.truncates in
    let until : List Event = o.scanning ++ (o.gathering ++ last.before) in
    let rest : List Event = last.listing ∷ last.later in
    let whole : events ≡ until ++ rest = o.split ∙ ap (λ l. o.scanning ++ (o.gathering ++ l)) last.split ∙ regroup o.scanning o.gathering last.before last.listing last.later in
    let both : IsLawful start.state (until ++ rest) = subst (IsLawful start.state) whole lawful in
    let end : Moment = moment_after start until in
    let l3 = legal_first start until rest both in
    let s3 : IsSoundAt end = sound_after start until l3 sound in
    let opening = opens_so caller listing o.scanning o.gathering last.before (asked_in last.listing) truncs gathered cut h c.1 t.gathers last.waits last.truncates in
    let ends : moment_after m1 (o.gathering ++ last.before) ≡ end = sym (moment-append start o.scanning (o.gathering ++ last.before)) in
    let goes : IsLawful m1.state ((o.gathering ++ last.before) ++ rest) = subst (IsLawful m1.state) (ap (λ l. o.gathering ++ l) last.split ∙ sym (append_assoc o.gathering last.before rest)) r1 in
    let grows : Grows m1 end = subst (Grows m1) ends (grows_after m1 (o.gathering ++ last.before) (legal_first m1 (o.gathering ++ last.before) rest goes) s1) in
    let view : HasView start end room cut truncs = opened caller room start until last.listing last.later cut truncs both sound opening.0 in
    let of_flat : ArePieces (covered_in end cut) [] (pieces_of opening.0.flat) = opened_flat caller room start until last.listing cut truncs l3 sound opening.0 in
    let its_flat : ArePieces (covered_in end cut) [] listing.flat.pieces = subst (ArePieces (covered_in end cut) []) (ap pieces_of opening.1 ∙ h.pieces) of_flat in
    let is : IsGatheredOf listing (shares_of portions) truncs (gathered_of listing (shares_of portions) truncs) = one_index listing (shares_of portions) truncs (its_flat.runs, each_runs has.each (pieces_of_each (shares_of portions)) has.pieces) in
    let pieces : ArePieces (entries_in (writes_in end cut)) [] index.pieces =
    cut_pieces end room cut gathered has.each listing.flat.pieces (pieces_of_each (shares_of portions)) index.pieces s3 view.rise view.entries
    (same_tails cut gathered (λ g a. All-Among (λ (x : Gathered). Among x gathered) cut g c.1.picks.from a) c.1.all)
    its_flat has.pieces has.entries is.pieces in
    let covers : index.covers ≡ counts_in end cut =
    covers_of_cut start end listing (calls_of caller o.scanning) portions truncs gathered cut index.covers h view c.1 has (listing_right caller start end listing o.scanning cut h l1 sound c.1.cuts grows) is.covers in
    record {
      until = until;
      listing = last.listing;
      later = last.later;
      split = whole;
      lists = last.lists;
      truncs = truncs;
      truncates = last.truncates;
      cut = cut;
      view = view;
      covers = covers;
      ascend = is.covers.ascend;
      pieces = pieces;
    }

-- So the index is of the first entries of writers, which have landed from then on.
pub viewed_taken : (caller number : ℕ) (index : Flat) (start : Moment) (events : List Event) → IsLawful start.state events → IsSoundAt start → IsOfView caller number index start events → IsTaken number index (moment_after start events).state
viewed_taken caller number index start events lawful sound seen =
    let rest : List Event = seen.listing ∷ seen.later in
    let both : IsLawful start.state (seen.until ++ rest) = subst (IsLawful start.state) seen.split lawful in
    let end : Moment = moment_after start seen.until in
    let sound_end : IsSoundAt end = sound_after start seen.until (legal_first start seen.until rest both) sound in
    let behind = legal_rest start seen.until rest both in
    let owns : List Own = owns_in end seen.cut in
    let same : map own_cover owns ≡ index.covers = sym (seen.covers ∙ counts_owns end seen.cut) in
    let are : AreOwn owns = are_own end sound_end seen.cut in
    let shown : ArePieces (all_entries owns) [] index.pieces = subst (λ es. ArePieces es [] index.pieces) (sym (entries_owns end seen.cut)) seen.pieces in
    let final : Moment = moment_after end rest in
    let now : moment_after start events ≡ final = ap (moment_after start) seen.split ∙ moment-append start seen.until rest in
    subst (λ (m : Moment). IsTaken number index m.state) (sym now) (record {
      owns = owns;
      are = are;
      covers = same;
      valid = valid_index owns index are same seen.ascend shown;
      pieces = shown;
      firsts = firsts start end final (sound_after end rest behind sound_end) number seen.cut (λ g a. (in_room_of number seen.cut g seen.view.rise a, prefix_of start end seen.cut g seen.view.admissible a)) (grows_after end rest behind sound_end);
    })
