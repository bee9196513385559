-- The program of a share of listed droppings fails only by the store.
use Rattle.std.proofs.Common.{◌≡◌, ℕ, true, Some, List, [], ◌∷◌, ◌++◌, map, get_or, refl, ap, sym, ◌∙◌, ◌⊎◌, inl, inr, subst, arith}
use Rattle.std.specs.Prelude.{Result, Ok, Err}
use Rattle.std.specs.List.{All, Any, AllByRecursion}
use Rattle.std.proofs.lemmas.Bool.{cases_Bool, cond-true, cond-false}
use Rattle.std.proofs.lemmas.List.Elements.{All-from_recursion}
use Rattle.plfs_types.specs.declared.entries.Cover.{Cover}
use Rattle.plain_file.proofs.Facts.{Among, All-Among}
use Rattle.plfs_types.specs.declared.names.Path.{Path}
use Rattle.container_layout.specs.declared.items.Item.TheVariants.{Packed}
use Rattle.container_layout.specs.Items.{IsItem}
use Rattle.container_layout.specs.Paths.{hostdir_of, path_of}
use Rattle.container_layout.proofs.Facts.{elsewhere}
use Rattle.mount_model.specs.declared.call.Look.TheVariants.{List as ListFolder}
use Rattle.mount_model.specs.declared.row.Making.TheVariants as making
use Rattle.mount_model.specs.Paths.{Name, access_path, flats}
use Rattle.store_api.specs.Names.{marks_folder}
use Rattle.mount_model.specs.History.{Event, state_after}
use Rattle.mount_sound.specs.Owed.{IsLawful}
use Rattle.mount_model.specs.declared.stuck.Stuck.{Stuck}
use Rattle.mount_model.specs.Running.{Runs}
use Rattle.mount_model.specs.FlowReplies.{Tries, on_ok}
use Rattle.mount_model.proofs.Flows.Facts.{runs_in_two}
use Rattle.index_reader.specs.declared.listing.Dropping.{Dropping as Listed}
use Rattle.index_reader.specs.declared.listing.Listing.{Listing}
use Rattle.index_reader.specs.declared.entries.Tail.{Tail}
use Rattle.index_reader.specs.declared.sharing.Share.{Share}
use Rattle.index_reader.specs.declared.sharing.Sofar.{Sofar}
use Rattle.index_reader.specs.Covered.{cover_of}
use Rattle.index_reader.specs.Packs.{no_tail, packed_path, pack_program}
use Rattle.index_reader.specs.Sharing.{nothing, added, share_of, dropping_program, gathers, share_program}
use Rattle.index_reader.specs.Tails.{tail_program}
use Rattle.index_reader.specs.Truncs.{trunc_program}
use Rattle.reader_laws.specs.Moments.{Moment, IsSoundAt, Dropping, IsNamed, Stood, HadItem, Grows, file_in_room, file_then, file_told, moment_after}
use Rattle.reader_laws.specs.Seen.{Asked, calls_of, IsSeen, IsSeenCall}
use Rattle.reader_laws.specs.Flats.{IsCoveredSo, covered_count, covers_of}
use Rattle.reader_laws.specs.Gathering.{Gathered, CoversLanded}
use Rattle.reader_laws.specs.GatheringListing.{IsListed, NamesPack, AreFound}
use Rattle.plfs_types.specs.Places.{IsAmong}
use Rattle.reader_laws.specs.GatheringOpening.{IsCutOf}
use Rattle.reader_laws.proofs.Gathered.Facts.{IsTaken, all_at, among, answers_as, any_found, flat_taken, folder_listed, follows, found_any, grows_after, grows_refl, grows_trans, legal_first, legal_rest, moment-append, named_file, not_top, scan_finds, scan_found, seen, seen_grows, seen_split, sound_after, stood_grows}
use Rattle.reader_laws.specs.Failing.{FailsByStore, IsContainerAt}
use Rattle.reader_laws.specs.Listing.{HasListed, IsPackedAs}
use Rattle.reader_laws.specs.Opening.{Lists}
use Rattle.reader_laws.specs.Sharing.{in_room}
use Rattle.reader_laws.proofs.OpenReaders.Counts.{AreRightFor}
use Rattle.reader_laws.proofs.OpenReaders.Cuts.{all_by, among_map, cut_rises, dropping_of, map_among, matching}
use Rattle.reader_laws.proofs.Containers.Listings.{listing_run}
use Rattle.reader_laws.proofs.Soundness.LookEnds.{container_later}
use Rattle.reader_laws.proofs.OpenReaders.Openings.{count_is}
use Rattle.reader_laws.proofs.Faults.PackFails.{pack_fails}
use Rattle.reader_laws.proofs.OpenReaders.Readers.{listing_right}
use Rattle.reader_laws.proofs.Faults.TailFails.{IsCoverOf, cover_later, tail_fails}
use Rattle.reader_laws.proofs.Faults.TruncFails.{truncs_fail}
use Rattle.reader_laws.proofs.Calls.Troubles.{fails_first, fails_rest}

-- ---- a share

-- the dropping stands, and its packed index where it has one, and its cover is right
pub record IsSafe (m : Moment) (room : ℕ) (covers : List Cover) (d : Listed) : Type 0 where
  pub named : IsNamed (in_room room d)
  pub stood : Stood m (in_room room d)
  pub pack : d.packed ≡ true → HadItem m room (Packed d.host d.writer)
  pub cover : IsCoverOf m (in_room room d) (cover_of d.writer covers)

safe_later : (a b : Moment) (s : IsSoundAt a) (room : ℕ) (covers : List Cover) (d : Listed) → Grows a b → IsSafe a room covers d → IsSafe b room covers d
safe_later a b s room covers d grows safe = record {
  named = safe.named;
  stood = stood_grows a b (in_room room d) grows safe.stood;
  pack = λ has. pack_later (safe.pack has);
  cover = cover_later a b s (in_room room d) (cover_of d.writer covers) safe.named grows safe.cover;
}
  where
    pack_later : HadItem a room (Packed d.host d.writer) → HadItem b room (Packed d.host d.writer)
    pack_later had = record { is_item = had.is_item; bytes = had.bytes; there = grows.indices (making.Pack d.host d.writer) room 0 had.bytes had.is_item had.there }

all_later : (a b : Moment) (s : IsSoundAt a) (room : ℕ) (covers : List Cover) (ds : List Listed) → Grows a b → AllByRecursion (IsSafe a room covers) ds → AllByRecursion (IsSafe b room covers) ds
all_later a b s room covers [] grows all = tt
all_later a b s room covers (d ∷ ds) grows all = (safe_later a b s room covers d grows all.0, all_later a b s room covers ds grows all.1)

no_ok : {R : Type 0} (x : R) (why : Stuck) → ◌≡◌ {A = Result R Stuck} (Ok x) (Err why) → ⊥
no_ok x why e = cc

same_trouble : {R : Type 0} (a b : Stuck) → ◌≡◌ {A = Result R Stuck} (Err a) (Err b) → a ≡ b
same_trouble a b e = cc

one_fails : (caller room : ℕ) (covers : List Cover) (d : Listed) (m : Moment) (events : List Event) (why : Stuck) → IsSoundAt m → IsLawful m.state events → IsSafe m room covers d → Runs caller (dropping_program room d (cover_of d.writer covers)) events (Err why) → FailsByStore caller m.state events why
one_fails caller room covers d m events why s lawful safe runs =
    let cover : Cover = cover_of d.writer covers in
    elim (cases_Bool d.packed) as (λ _. FailsByStore caller m.state events why) [
      | inl packed ↦ pack_fails caller room d safe.named m cover events why s safe.stood (safe.pack packed) lawful safe.cover
          (subst (λ p. Runs caller p events (Err why)) (cond-true d.packed (pack_program room (packed_path d.host d.writer) cover) (tail_program room d (no_tail cover)) packed) runs)
      | inr unpacked ↦ tail_fails caller room d safe.named m cover events why s safe.stood lawful safe.cover
          (subst (λ p. Runs caller p events (Err why)) (cond-false d.packed (pack_program room (packed_path d.host d.writer) cover) (tail_program room d (no_tail cover)) unpacked) runs)
    ]

pub gathers_fail : (caller room : ℕ) (covers : List Cover) (ds : List Listed) (m : Moment) (events : List Event) (old : Sofar) (why : Stuck) → IsSoundAt m → IsLawful m.state events → AllByRecursion (IsSafe m room covers) ds → Runs caller (gathers room covers ds old) events (Err why) → FailsByStore caller m.state events why
gathers_fail caller room covers [] m events old why s lawful safe runs = absurd (no_ok (share_of old) why runs.1)
gathers_fail caller room covers (d ∷ ds) m events old why s lawful safe runs =
    let next = on_ok (λ tail. gathers room covers ds (added tail old)) in
    let two = runs_in_two caller (dropping_program room d (cover_of d.writer covers)) next events (Err why) runs in
    let both : IsLawful m.state (two.first ++ two.rest) = subst (IsLawful m.state) two.all lawful in
    let l1 = legal_first m two.first two.rest both in
    let s1 = sound_after m two.first l1 s in
    let state_is = (follows m two.first).0 in
    subst (λ es. FailsByStore caller m.state es why) (sym two.all)
    (by_value two.value two.first two.rest both l1 two.runs two.then_runs
    (λ tail then_runs. subst (λ st. FailsByStore caller st two.rest why) state_is
    (gathers_fail caller room covers ds (moment_after m two.first) two.rest (added tail old) why s1 (legal_rest m two.first two.rest both) (all_later m (moment_after m two.first) s room covers ds (grows_after m two.first l1 s) safe.1) then_runs)))
  where
    by_value : (value : Result Tail Stuck) (first rest : List Event) → IsLawful m.state (first ++ rest) → IsLawful m.state first → Runs caller (dropping_program room d (cover_of d.writer covers)) first value → Runs caller (on_ok (λ tail. gathers room covers ds (added tail old)) value) rest (Err why)
        → ((tail : Tail) → Runs caller (gathers room covers ds (added tail old)) rest (Err why) → FailsByStore caller (state_after m.state first) rest why) → FailsByStore caller m.state (first ++ rest) why
    by_value (Err other) first rest both l1 mine then_runs later =
        let same : other ≡ why = same_trouble {R = Share} other why then_runs.1 in
        fails_first caller m.state first rest why both (one_fails caller room covers d m first why s l1 safe.0 (subst (λ x. Runs caller (dropping_program room d (cover_of d.writer covers)) first (Err x)) same mine))
    by_value (Ok tail) first rest both l1 mine then_runs later = fails_rest caller m.state first rest why both (later tail then_runs)

-- ---- the droppings of a listing

-- a packed index that was named in a scan stands from then on
pack_stands : (caller : ℕ) (start end : Moment) (scan : List Asked) (d : Dropping) → IsNamed d → IsSeen caller start scan end → NamesPack scan d → HadItem end d.room (Packed d.host d.writer)
pack_stands caller start end scan d named seen names =
    let (x, a, (told, listed, within)) = any_found (λ (asked : Asked). (names : List Name) × IsListed d.room (ListFolder (hostdir_of d.host)) names asked × IsAmong (path_of (Packed d.host d.writer)).file names) scan names in
    from start scan x told seen a listed (among told (path_of (Packed d.host d.writer)).file within)
  where
    from : (start : Moment) (scan : List Asked) (x : Asked) (names : List Name) → IsSeen caller start scan end → Among x scan → IsListed d.room (ListFolder (hostdir_of d.host)) names x → Among (path_of (Packed d.host d.writer)).file names → HadItem end d.room (Packed d.host d.writer)
    from start [] x names seen a listed within = absurd a
    from start (y ∷ scan) x names (next, call, seen) (inl same) listed within =
        let m : Moment = call.before in
        let path : Path = path_of (Packed d.host d.writer) in
        let here : IsListed d.room (ListFolder (hostdir_of d.host)) names y = subst (IsListed d.room (ListFolder (hostdir_of d.host)) names) same listed in
        let l = folder_listed m call.sound caller d.room (hostdir_of d.host) names next.state (answers_as m.state caller y.ask _ y.reply _ next.state here.call here.reply refl call.answers) in
        let f = named_file l.room (hostdir_of d.host) path.file names (not_top d.host) l.entries within in
        let is : IsItem (Packed d.host d.writer) = record { in_range = tt; widths = (named.widths.0, named.widths.1) } in
        let there : file_then m d.room path ≡ Some f.0 = ap (λ o. file_told o d.room path) call.sound.shape.told ∙ ap (λ o. file_in_room o path) l.has_room ∙ f.1 in
        record { is_item = is; bytes = f.0; there = (grows_trans m next end call.goes (seen_grows caller next end scan seen)).indices (making.Pack d.host d.writer) d.room 0 f.0 is there }
    from start (y ∷ scan) x names (next, call, seen) (inr a) listed within = from next scan x names seen a listed within

-- as they are listed, before anything of them is gathered
ungathered : ℕ → List Cover → Listed → Gathered
ungathered room covers d = record { dropping = in_room room d; packed = d.packed; covered = (cover_of d.writer covers).count; count = 0; tail = [] }

ungathered_are : (room : ℕ) (covers : List Cover) (ds : List Listed) → map dropping_of (map (ungathered room covers) ds) ≡ map (in_room room) ds
unfolding ungathered
ungathered_are room covers [] = refl
ungathered_are room covers (d ∷ ds) = ap (λ l. in_room room d ∷ l) (ungathered_are room covers ds)

listed_safe : (caller : ℕ) (start : Moment) (scanning : List Event) (listing : Listing) (h : HasListed listing (calls_of caller scanning)) → IsLawful start.state scanning → IsSoundAt start → AllByRecursion (IsSafe (moment_after start scanning) listing.room listing.flat.covers) listing.droppings
unfolding ungathered
listed_safe caller start scanning listing h lawful sound =
    let room : ℕ = listing.room in
    let covers : List Cover = listing.flat.covers in
    let ds : List Listed = listing.droppings in
    let cut : List Gathered = map (ungathered room covers) ds in
    let are = ungathered_are room covers ds in
    let middle : Moment = moment_after start scanning in
    let s1 : IsSoundAt middle = sound_after start scanning lawful sound in
    let cuts : IsCutOf room h.found cut = record {
      rise = cut_rises room cut ds are h.droppings.ascend;
      found = All-from_recursion (λ (g : Gathered). IsAmong g.dropping h.found) cut (all_by (λ (g : Gathered). IsAmong g.dropping h.found) cut (λ g a.
          let m = matching dropping_of (in_room room) cut ds g are a in
          subst (λ d. IsAmong d h.found) (sym m.2) (all_at (λ (d : Listed). IsAmong (in_room room d) h.found) ds m.0 h.droppings.each m.1)));
      all = All-from_recursion (λ (d : Dropping). Any (λ (g : Gathered). g.dropping ≡ d) cut) h.found (all_by (λ (d : Dropping). Any (λ (g : Gathered). g.dropping ≡ d) cut) h.found (λ f a.
          let (d, b, is) = any_found (λ (e : Listed). in_room room e ≡ f) ds (all_at (λ (x : Dropping). Any (λ (e : Listed). in_room room e ≡ x) ds) h.found f h.droppings.all a) in
          let m = matching (in_room room) dropping_of ds cut d (sym are) b in
          found_any (λ (g : Gathered). g.dropping ≡ f) cut m.0 m.1 (sym m.2 ∙ is)));
    } in
    let right : AreRightFor middle cut covers = listing_right caller start middle listing scanning cut h lawful sound cuts (grows_refl middle) in
    let s = seen_split caller start middle h.earlier (h.flattened ++ h.scan) (subst (λ a. IsSeen caller start a middle) h.split (seen caller start scanning lawful sound)) in
    let f = seen_split caller s.0 middle h.flattened h.scan s.2 in
    let all : (d : Dropping) → d.room ≡ room → Stood f.0 d → Any (λ (g : Gathered). g.dropping ≡ d) cut = λ d its stood.
    all_at (λ (x : Dropping). Any (λ (g : Gathered). g.dropping ≡ x) cut) h.found d cuts.all (scan_found caller room f.0 middle h.scan h.found d f.2 h.scans its stood) in
    let covered : All (IsCoveredSo (covers_of h.flat)) cut = All-from_recursion (IsCoveredSo (covers_of h.flat)) cut (all_by (IsCoveredSo (covers_of h.flat)) cut (λ g a.
    let m = map_among (ungathered room covers) ds g a in
    ap (λ (x : Gathered). x.covered) m.2 ∙ count_is covers m.0.writer ∙ ap (λ cs. covered_count cs m.0.writer) (sym h.covers) ∙ ap (λ (x : Gathered). covered_count (covers_of h.flat) x.dropping.writer) (sym m.2))) in
    let taken : IsTaken s.0 f.0 cut h.flat = flat_taken caller room s.0 f.0 h.flat h.flattened cut f.1 h.reads cuts.rise covered all in
    let goes = grows_trans taken.m f.0 middle taken.ends (seen_grows caller f.0 middle h.scan f.2) in
    let found : AreFound f.0 middle room h.found = scan_finds caller room f.0 middle h.scan h.found f.2 s1 h.scans in
    all_by (IsSafe middle room covers) ds (λ d a.
    let g : Gathered = ungathered room covers d in
    let in_cut : Among g cut = among_map (ungathered room covers) ds d a in
    let named = all_at (λ (x : Listed). IsNamed (in_room room x)) ds d h.droppings.named a in
    let its = all_at (λ (x : Listed). IsAmong (in_room room x) h.found) ds d h.droppings.each a in
    record {
      named = named;
      stood = (all_at (λ (x : Dropping). (x.room ≡ room) × Stood middle x) h.found (in_room room d) found.stood (among h.found (in_room room d) its)).1;
      pack = λ has. pack_stands caller f.0 middle h.scan (in_room room d) named f.2 ((all_at (IsPackedAs room h.scan) ds d h.packs a).of_named has);
      cover = record { tells = right.right g in_cut; had = omega (arith, All-Among (CoversLanded taken.m) cut g taken.landed in_cut, goes.landed (in_room room d) named) };
    })

-- ---- after a listing

-- the moments of a listing and of what comes behind it
record AfterListing (start : Moment) (scanning between reading : List Event) : Type 0 where
  pub first : IsLawful start.state scanning
  pub sound : IsSoundAt (moment_after start scanning)
  pub goes : Grows (moment_after start scanning) (moment_after start (scanning ++ between))
  pub then_ : IsSoundAt (moment_after start (scanning ++ between))
  pub rest : IsLawful (moment_after start (scanning ++ between)).state reading

after_listing : (start : Moment) (scanning between reading : List Event) → IsLawful start.state (scanning ++ (between ++ reading)) → IsSoundAt start → AfterListing start scanning between reading
after_listing start scanning between reading lawful sound =
    let m : Moment = moment_after start scanning in
    let l1 = legal_first start scanning (between ++ reading) lawful in
    let s1 = sound_after start scanning l1 sound in
    let r1 = legal_rest start scanning (between ++ reading) lawful in
    let l2 = legal_first m between reading r1 in
    let is : moment_after m between ≡ moment_after start (scanning ++ between) = sym (moment-append start scanning between) in
    record {
      first = l1;
      sound = s1;
      goes = subst (Grows m) is (grows_after m between l2 s1);
      then_ = subst IsSoundAt is (sound_after m between l2 s1);
      rest = subst (λ (x : Moment). IsLawful x.state reading) is (legal_rest m between reading r1);
    }

pub shares_fail : (lister caller : ℕ) (program : Tries Listing) (start : Moment) (scanning between reading : List Event) (listing : Listing) (ds : List Listed) (why : Stuck) → IsLawful start.state (scanning ++ (between ++ reading)) → IsSoundAt start → Lists program → Runs lister program scanning (Ok listing)
    → All (λ (d : Listed). IsAmong d listing.droppings) ds → Runs caller (share_program listing.room ds listing.flat.covers) reading (Err why) → FailsByStore caller (state_after start.state (scanning ++ between)) reading why
shares_fail lister caller program start scanning between reading listing ds why lawful sound lists lister_runs within runs =
    let a = after_listing start scanning between reading lawful sound in
    let h = listing_run lister program start scanning listing a.first sound lists lister_runs in
    let safe = listed_safe lister start scanning listing h a.first sound in
    let these : AllByRecursion (IsSafe (moment_after start scanning) listing.room listing.flat.covers) ds = all_by (IsSafe (moment_after start scanning) listing.room listing.flat.covers) ds (λ d b.
    All-Among (IsSafe (moment_after start scanning) listing.room listing.flat.covers) listing.droppings d safe (among listing.droppings d (all_at (λ (x : Listed). IsAmong x listing.droppings) ds d within b))) in
    subst (λ st. FailsByStore caller st reading why) (follows start (scanning ++ between)).0
    (gathers_fail caller listing.room listing.flat.covers ds (moment_after start (scanning ++ between)) reading nothing why a.then_ a.rest (all_later (moment_after start scanning) (moment_after start (scanning ++ between)) a.sound listing.room listing.flat.covers ds a.goes these) runs)

-- ---- truncates

-- a room whose flattened indices were listed is a container
pub listed_container : (caller : ℕ) (start : Moment) (scanning : List Event) (listing : Listing) → HasListed listing (calls_of caller scanning) → IsLawful start.state scanning → IsSoundAt start → IsContainerAt (moment_after start scanning) listing.room
listed_container caller start scanning listing h lawful sound =
    let room : ℕ = listing.room in
    let middle : Moment = moment_after start scanning in
    let s = seen_split caller start middle h.earlier (h.flattened ++ h.scan) (subst (λ a. IsSeen caller start a middle) h.split (seen caller start scanning lawful sound)) in
    let f = seen_split caller s.0 middle h.flattened h.scan s.2 in
    let first : IsSeen caller s.0 (h.reads.first ∷ h.reads.reads) f.0 = subst (λ a. IsSeen caller s.0 a f.0) h.reads.calls f.1 in
    let call : IsSeenCall caller s.0 h.reads.first first.0 = first.1 in
    let m : Moment = call.before in
    let l = folder_listed m call.sound caller room flats h.reads.names first.0.state (answers_as m.state caller h.reads.first.ask _ h.reads.first.reply _ first.0.state h.reads.lists.call h.reads.lists.reply refl call.answers) in
    let here : IsContainerAt m room = elim (call.sound.shape.shaped.rooms room l.room l.has_room) as (λ _. IsContainerAt m room) [
      | inl marks ↦ absurd (elsewhere_ (marks.folders flats l.there))
      | inr container ↦ record {
        is_item = record { in_range = tt; widths = tt };
        bytes = [];
        there = ap (λ o. file_told o room access_path) call.sound.shape.told ∙ ap (λ o. file_in_room o access_path) l.has_room ∙ container.has_access;
      }
    ] in
    container_later m middle room (grows_trans m first.0 middle call.goes (grows_trans first.0 f.0 middle (seen_grows caller first.0 f.0 h.reads.reads first.2) (seen_grows caller f.0 middle h.scan f.2))) here
  where
    elsewhere_ : (flats ≡ []) ⊎ (flats ≡ marks_folder) → ⊥
    elsewhere_ (inl e) = elsewhere (ap (λ (l : List ℕ). get_or l 0 0) e) refl
    elsewhere_ (inr e) = elsewhere (ap (λ (l : List ℕ). get_or l 0 0) e) refl

pub truncates_fail : (lister caller : ℕ) (program : Tries Listing) (start : Moment) (scanning between reading : List Event) (listing : Listing) (why : Stuck) → IsLawful start.state (scanning ++ (between ++ reading)) → IsSoundAt start → Lists program → Runs lister program scanning (Ok listing)
    → Runs caller (trunc_program listing.room) reading (Err why) → FailsByStore caller (state_after start.state (scanning ++ between)) reading why
truncates_fail lister caller program start scanning between reading listing why lawful sound lists lister_runs runs =
    let a = after_listing start scanning between reading lawful sound in
    let h = listing_run lister program start scanning listing a.first sound lists lister_runs in
    subst (λ st. FailsByStore caller st reading why) (follows start (scanning ++ between)).0
    (truncs_fail caller listing.room (moment_after start (scanning ++ between)) reading why a.rest a.then_
    (container_later (moment_after start scanning) (moment_after start (scanning ++ between)) listing.room a.goes (listed_container lister start scanning listing h a.first sound)) runs)
