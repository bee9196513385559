-- A reader whose portions are read by workers.
use Rattle.std.proofs.Common.{◌≡◌, ℕ, List, [], ◌∷◌, ◌++◌, refl, ap, sym, ◌∙◌, inl, inr, subst, append_assoc}
use Rattle.std.specs.Prelude.{Ok}
use Rattle.std.specs.List.{Any, AllByRecursion}
use Rattle.std.proofs.lemmas.List.{append-nil}
use Rattle.std.proofs.lemmas.List.Elements.{All-from_recursion, recursion_from_All}
use Rattle.plfs_types.specs.declared.entries.Cover.{Cover}
use Rattle.plfs_types.specs.declared.entries.Trunc.{Trunc}
use Rattle.plain_file.specs.Runs.{ArePieces}
use Rattle.plain_file.proofs.Facts.{Among, All-Among, SameElements, cases_Option}
use Rattle.interval_merge.specs.Lists.{joined}
use Rattle.mount_model.specs.History.{Event}
use Rattle.mount_sound.specs.Owed.{IsLawful}
use Rattle.mount_model.specs.Running.{Runs}
use Rattle.index_reader.specs.declared.gathered.Gathered.{Gathered as Parts}
use Rattle.index_reader.specs.declared.listing.Dropping.{Dropping as Listed}
use Rattle.index_reader.specs.declared.listing.Listing.{Listing}
use Rattle.index_reader.specs.declared.opened.OpenReader.{OpenReader}
use Rattle.index_reader.specs.declared.sharing.Share.{Share}
use Rattle.index_reader.specs.Found.{item_of}
use Rattle.index_reader.specs.Gathered.{AreFirstOf, IsJoinedOf, IsGatheredOf, covers_of}
use Rattle.index_reader.specs.Sharing.{share_program}
use Rattle.reader_laws.specs.Moments.{Moment, IsNamed, IsSoundAt, Grows, moment_after}
use Rattle.reader_laws.specs.Seen.{asked_in, calls_of, Asked}
use Rattle.reader_laws.specs.Gathering.{Gathered, Share as Gathering, GatherShares}
use Rattle.plfs_types.specs.Places.{IsAmong}
use Rattle.reader_laws.specs.Flats.{pieces_of}
use Rattle.reader_laws.specs.GatheringOpening.{IsSharedOpening, HasView, ListsTruncs}
use Rattle.reader_laws.specs.View.{covered_in, tails_of}
use Rattle.reader_laws.proofs.Gathered.Facts.{found_any, grows_after, is_among, legal_first, legal_rest, moment-append, seen, shared_flat, shared_opened, sound_after}
use Rattle.reader_laws.specs.Listing.{HasListed}
use Rattle.reader_laws.specs.Opened.{IsReaderOf, HasOpenedIn}
use Rattle.reader_laws.specs.Opening.{Portion, droppings_of, shares_of, Work, portions_of, OpensByWorkers}
use Rattle.reader_laws.specs.Sharing.{in_room}
use Rattle.reader_laws.proofs.OpenReaders.Counts.{AreRightFor, item_first, item_rest}
use Rattle.reader_laws.proofs.OpenReaders.Cuts.{either_part, all_by, same_tails}
use Rattle.reader_laws.proofs.Calls.Histories.{listed_by, truncs_first}
use Rattle.reader_laws.proofs.Containers.Listings.{listing_run}
use Rattle.reader_laws.proofs.OpenReaders.Openings.{named_in, HasCutOf, cut_of, reader_of, IsBegun, listing_begins}
use Rattle.reader_laws.proofs.OpenReaders.Portions.{HasEach, all_of, HasAllOf, all_together}
use Rattle.reader_laws.proofs.OpenReaders.Readers.{listing_right, covers_of_cut}
use Rattle.reader_laws.proofs.Droppings.Shares.{share_run, all_first, all_rest}

-- ---- what the workers gathered

-- each worker with what it gathered
gatherings : List Work → List (List Gathered) → List Gathering
gatherings [] parts = []
gatherings (w ∷ works) [] = []
gatherings (w ∷ works) (gathered ∷ parts) = record { worker = w.worker; part = gathered } ∷ gatherings works parts

record ByWorkers (room : ℕ) (covers : List Cover) (works : List Work) (events : List Event) : Type 0 where
  pub parts : List (List Gathered)
  pub each : HasEach room covers (portions_of works) parts
  pub gathers : GatherShares events (gatherings works parts)

by_workers : (room : ℕ) (covers : List Cover) (start : Moment) (works : List Work) (events : List Event) → IsLawful start.state events → IsSoundAt start → AllByRecursion (λ (d : Listed). IsNamed (in_room room d)) (droppings_of (portions_of works))
    → AllByRecursion (λ (w : Work). Runs w.worker (share_program room w.portion.droppings covers) events (Ok w.portion.share)) works → ByWorkers room covers works events
unfolding gatherings
by_workers room covers start [] events lawful sound named reads = record { parts = []; each = tt; gathers = tt }
by_workers room covers start (w ∷ works) events lawful sound named reads =
    let p : Portion = w.portion in
    let h = share_run w.worker room p.droppings covers start (moment_after start events) events p.share (all_first (λ (d : Listed). IsNamed (in_room room d)) p.droppings (droppings_of (portions_of works)) named) (seen w.worker start events lawful sound) reads.0 in
    let t = by_workers room covers start works events lawful sound (all_rest (λ (d : Listed). IsNamed (in_room room d)) p.droppings (droppings_of (portions_of works)) named) reads.1 in
    record { parts = h.0 ∷ t.parts; each = (h.2, t.each); gathers = (h.1, t.gathers) }

-- all that was gathered is a worker's
one_gathering : (room : ℕ) (covers : List Cover) (works : List Work) (parts : List (List Gathered)) (g : Gathered) → HasEach room covers (portions_of works) parts → Among g (all_of parts) → (x : Gathering) × Among x (gatherings works parts) × Among g x.part
unfolding gatherings
one_gathering room covers [] [] g each a = absurd a
one_gathering room covers [] (gathered ∷ parts) g each a = absurd each
one_gathering room covers (w ∷ works) [] g each a = absurd each
one_gathering room covers (w ∷ works) (gathered ∷ parts) g each a = elim (either_part g gathered (all_of parts) a) as (λ _. (x : Gathering) × Among x (record { worker = w.worker; part = gathered } ∷ gatherings works parts) × Among g x.part) [
  | inl mine ↦ (record { worker = w.worker; part = gathered }, inl refl, mine)
  | inr others ↦ (let t = one_gathering room covers works parts g each.1 others in (t.0, inr t.1, t.2))
]

-- ---- what was opened

-- All that an opening came to, but for what was made of the shares.
record IsOpened (caller : ℕ) (start : Moment) (events : List Event) (listing : Listing) (portions : List Portion) (truncs : List Trunc) : Type 0 where
  pub before : List Event
  pub first : Event
  pub more : List Event
  pub last : Event
  pub later : List Event
  pub split : events ≡ before ++ (first ∷ more ++ last ∷ later)
  pub waits : calls_of caller before ≡ []
  pub begins : first.caller ≡ caller
  pub lists : last.caller ≡ caller
  pub truncates : ListsTruncs listing.room truncs (asked_in last)
  pub asked : List Asked
  pub listed : HasListed listing asked
  pub gathered : List Gathered
  pub has : HasAllOf listing.room listing.flat.covers portions gathered
  pub cut : List Gathered
  pub is_cut : HasCutOf listing listed.found listed.scan listed.flat gathered cut
  pub sound : IsSoundAt (moment_after (moment_after start before) (first ∷ more))
  pub view : HasView (moment_after start before) (moment_after (moment_after start before) (first ∷ more)) listing.room cut truncs
  pub flat_is : ArePieces (covered_in (moment_after (moment_after start before) (first ∷ more)) cut) [] listing.flat.pieces
  pub right : AreRightFor (moment_after (moment_after start before) (first ∷ more)) cut listing.flat.covers

workers_opened : (caller : ℕ) (start : Moment) (events : List Event) (listing : Listing) (works : List Work) (truncs : List Trunc) → IsLawful start.state events → IsSoundAt start → OpensByWorkers caller events listing works truncs → IsOpened caller start events listing (portions_of works) truncs
workers_opened caller start events listing works truncs lawful sound o =
    let room : ℕ = listing.room in
    let rest : List Event = o.gathering ++ o.last ∷ o.later in
    let all : IsLawful start.state (o.scanning ++ rest) = subst (IsLawful start.state) o.split lawful in
    let l1 = legal_first start o.scanning rest all in
    let m1 : Moment = moment_after start o.scanning in
    let s1 : IsSoundAt m1 = sound_after start o.scanning l1 sound in
    let r1 = legal_rest start o.scanning rest all in
    let l2 = legal_first m1 o.gathering (o.last ∷ o.later) r1 in
    let m2 : Moment = moment_after m1 o.gathering in
    let s2 : IsSoundAt m2 = sound_after m1 o.gathering l2 s1 in
    let r2 = legal_rest m1 o.gathering (o.last ∷ o.later) r1 in
    let h : HasListed listing (calls_of caller o.scanning) = listing_run caller o.program start o.scanning listing l1 sound o.lists o.scans in
    let t = by_workers room listing.flat.covers m1 works o.gathering l2 s1 (named_in listing h.found (portions_of works) h.droppings o.dealt)
    (recursion_from_All (λ (w : Work). Runs w.worker (share_program room w.portion.droppings listing.flat.covers) o.gathering (Ok w.portion.share)) works o.reads) in
    let gathered : List Gathered = all_of t.parts in
    let has : HasAllOf room listing.flat.covers (portions_of works) gathered = all_together room listing.flat.covers (portions_of works) t.parts t.each in
    let c = cut_of listing (calls_of caller o.scanning) (portions_of works) gathered h o.dealt has in
    let cut : List Gathered = c.0 in
    let lists = truncs_first caller room m2 o.last o.later truncs r2 s2 o.by_caller o.truncates in
    let b : IsBegun caller o.scanning = subst (IsBegun caller) (append-nil o.scanning) (listing_begins caller listing o.scanning [] h) in
    let begun : List Event = b.first ∷ b.more in
    let whole : events ≡ b.before ++ (begun ++ (o.gathering ++ o.last ∷ o.later)) = o.split ∙ ap (λ l. l ++ rest) b.split ∙ append_assoc b.before begun rest in
    let lawful' : IsLawful start.state (b.before ++ (begun ++ (o.gathering ++ o.last ∷ o.later))) = subst (IsLawful start.state) whole lawful in
    let from : Moment = moment_after start b.before in
    let s0 : IsSoundAt from = sound_after start b.before (legal_first start b.before (begun ++ rest) lawful') sound in
    let on = legal_rest start b.before (begun ++ rest) lawful' in
    let l3 = legal_first from begun rest on in
    let m3 : Moment = moment_after from begun in
    let l4 = legal_first m3 o.gathering (o.last ∷ o.later) (legal_rest from begun rest on) in
    let end : Moment = moment_after from (b.first ∷ (b.more ++ o.gathering)) in
    let ends : moment_after m3 o.gathering ≡ end = sym (moment-append from begun o.gathering) in
    let same : m3 ≡ m1 = sym (moment-append start b.before begun) ∙ ap (moment_after start) (sym b.split) in
    let opening : (p : IsSharedOpening room cut truncs (calls_of caller begun) o.gathering (asked_in o.last)) × (p.flat ≡ h.flat) = (
      record {
        earlier = h.earlier;
        flattened = h.flattened;
        scan = h.scan;
        split = b.same ∙ h.split;
        flat = h.flat;
        reads = h.reads;
        droppings = h.found;
        scans = h.scans;
        cuts = c.1.cuts;
        packed = c.1.packed;
        shares = gatherings works t.parts;
        gathers = t.gathers;
        covered = c.1.covered;
        shared = All-from_recursion (λ (g : Gathered). Any (λ (x : Gathering). IsAmong g x.part) (gatherings works t.parts)) cut (all_by (λ (g : Gathered). Any (λ (x : Gathering). IsAmong g x.part) (gatherings works t.parts)) cut (λ g a.
            let x = one_gathering room listing.flat.covers works t.parts g t.each (All-Among (λ (y : Gathered). Among y gathered) cut g c.1.picks.from a) in
            found_any (λ (y : Gathering). IsAmong g y.part) (gatherings works t.parts) x.0 x.1 (is_among x.0.part g x.2)));
        lists = lists;
      },
      refl,
    ) in
    let s3 : IsSoundAt (moment_after m3 o.gathering) = sound_after m3 o.gathering l4 (sound_after from begun l3 s0) in
    let view = shared_opened caller room from begun o.gathering o.last o.later cut truncs on s0 opening.0 in
    let of_flat = shared_flat caller room from begun o.gathering o.last cut truncs l3 l4 s0 opening.0 in
    let grows : Grows m1 (moment_after m3 o.gathering) = subst (λ m. Grows m1 (moment_after m o.gathering)) (sym same) (grows_after m1 o.gathering l2 s1) in
    record {
      before = b.before;
      first = b.first;
      more = b.more ++ o.gathering;
      last = o.last;
      later = o.later;
      split = whole ∙ ap (λ l. b.before ++ l) (sym (append_assoc begun o.gathering (o.last ∷ o.later)));
      waits = b.waits;
      begins = b.begins;
      lists = o.by_caller;
      truncates = lists;
      asked = calls_of caller o.scanning;
      listed = h;
      gathered = gathered;
      has = has;
      cut = cut;
      is_cut = c.1;
      sound = subst IsSoundAt ends s3;
      view = subst (λ m. HasView from m room cut truncs) ends view;
      flat_is = subst (λ m. ArePieces (covered_in m cut) [] listing.flat.pieces) ends (subst (ArePieces (covered_in (moment_after m3 o.gathering) cut) []) (ap pieces_of opening.1 ∙ h.pieces) of_flat);
      right = subst (λ m. AreRightFor m cut listing.flat.covers) ends (listing_right caller start (moment_after m3 o.gathering) listing o.scanning cut h l1 sound c.1.cuts grows);
    }

same_entries : (gathered cut : List Gathered) → AllByRecursion (λ (g : Gathered). Among g gathered) cut → ((g : Gathered) → Among g gathered → Among g cut) → SameElements (tails_of cut) (tails_of gathered)
same_entries gathered cut from all = same_tails cut gathered (λ g a. All-Among (λ (x : Gathered). Among x gathered) cut g from a) all

pub opens_each : (caller : ℕ) (start : Moment) (events : List Event) (listing : Listing) (works : List Work) (truncs : List Trunc) (parts : Parts) (reader : OpenReader) → IsLawful start.state events → IsSoundAt start → OpensByWorkers caller events listing works truncs
    → IsGatheredOf listing (shares_of (portions_of works)) truncs parts → IsReaderOf parts reader → HasOpenedIn caller start events reader
opens_each caller start events listing works truncs parts reader lawful sound opens is made =
    let o = workers_opened caller start events listing works truncs lawful sound opens in
    let from : Moment = moment_after start o.before in
    let end : Moment = moment_after from (o.first ∷ o.more) in
    record {
      before = o.before;
      first = o.first;
      more = o.more;
      listing = o.last;
      later = o.later;
      split = o.split;
      waits = o.waits;
      begins = o.begins;
      lists = o.lists;
      truncates = listed_by reader listing.room truncs (asked_in o.last) (made.room ∙ is.room) (made.truncates ∙ is.truncates) o.truncates;
      cut = o.cut;
      has = reader_of from end listing (portions_of works) (shares_of (portions_of works)) truncs parts reader o.gathered o.cut o.has.each o.sound o.view o.is_cut.picks (same_entries o.gathered o.cut o.is_cut.picks.from o.is_cut.all) o.flat_is o.has.pieces o.has.entries is made
          (covers_of_cut from end listing o.asked (portions_of works) truncs o.gathered o.cut parts.flat.covers o.listed o.view o.is_cut o.has o.right is.covers);
    }

-- the first cover of a writer stays that where covers come behind
same_first : (w : ℕ) (a b rest : List Cover) → item_of (λ (c : Cover). c.writer) w a ≡ item_of (λ (c : Cover). c.writer) w b → item_of (λ (c : Cover). c.writer) w (a ++ rest) ≡ item_of (λ (c : Cover). c.writer) w (b ++ rest)
same_first w a b rest same = elim (cases_Option (item_of (λ (c : Cover). c.writer) w a)) [
  | inl none ↦ item_rest w a rest none ∙ sym (item_rest w b rest (sym same ∙ none))
  | inr some ↦ item_first w a rest some.0 some.1 ∙ sym (item_first w b rest some.0 (sym same ∙ some.1))
]

pub opens_joined : (caller : ℕ) (start : Moment) (events : List Event) (listing : Listing) (works : List Work) (share : Share) (truncs : List Trunc) (parts : Parts) (reader : OpenReader) → IsLawful start.state events → IsSoundAt start → OpensByWorkers caller events listing works truncs
    → IsJoinedOf (shares_of (portions_of works)) share → IsGatheredOf listing (share ∷ []) truncs parts → IsReaderOf parts reader → HasOpenedIn caller start events reader
opens_joined caller start events listing works share truncs parts reader lawful sound opens joins is made =
    let o = workers_opened caller start events listing works truncs lawful sound opens in
    let from : Moment = moment_after start o.before in
    let end : Moment = moment_after from (o.first ∷ o.more) in
    let told : List Cover = covers_of (shares_of (portions_of works)) in
    let first : AreFirstOf (told ++ listing.flat.covers) parts.flat.covers = record {
      ascend = is.covers.ascend;
      each = λ w. is.covers.each w ∙ same_first w (share.covers ++ []) told listing.flat.covers (ap (item_of (λ (c : Cover). c.writer) w) (append-nil share.covers) ∙ joins.covers.each w);
    } in
    record {
      before = o.before;
      first = o.first;
      more = o.more;
      listing = o.last;
      later = o.later;
      split = o.split;
      waits = o.waits;
      begins = o.begins;
      lists = o.lists;
      truncates = listed_by reader listing.room truncs (asked_in o.last) (made.room ∙ is.room) (made.truncates ∙ is.truncates) o.truncates;
      cut = o.cut;
      has = reader_of from end listing (portions_of works) (share ∷ []) truncs parts reader o.gathered o.cut (joined o.has.each ∷ []) o.sound o.view o.is_cut.picks (same_entries o.gathered o.cut o.is_cut.picks.from o.is_cut.all) o.flat_is
          (joins.pieces.entries o.has.each o.has.pieces, tt) (append-nil (joined o.has.each) ∙ o.has.entries) is made
          (covers_of_cut from end listing o.asked (portions_of works) truncs o.gathered o.cut parts.flat.covers o.listed o.view o.is_cut o.has o.right first);
    }
