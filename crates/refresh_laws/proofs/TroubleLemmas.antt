-- A refresh ends in trouble only where the store's count of faults rose.
use Rattle.std.proofs.Common.{◌≡◌, ℕ, true, false, List, [], ◌∷◌, ◌++◌, map, refl, ap, sym, ◌∙◌, inl, inr, subst, arith}
use Rattle.std.specs.Prelude.{Ok, Err}
use Rattle.std.specs.List.{Any, AllByRecursion}
use Rattle.plfs_types.specs.declared.entries.Cover.{Cover}
use Rattle.plain_file.proofs.Facts.{Among}
use Rattle.mount_model.specs.History.{Event, state_after}
use Rattle.mount_sound.specs.Owed.{IsLawful}
use Rattle.mount_model.specs.declared.stuck.Stuck.{Stuck}
use Rattle.mount_model.specs.Running.{Runs}
use Rattle.index_reader.specs.declared.listing.Dropping.{Dropping as Listed}
use Rattle.index_reader.specs.declared.listing.Listing.{Listing}
use Rattle.index_reader.specs.declared.opened.OpenReader.{OpenReader}
use Rattle.index_reader.specs.Covered.{cover_of}
use Rattle.index_reader.specs.Opening.{no_flat, scan_program}
use Rattle.index_reader.specs.Sharing.{nothing, share_program}
use Rattle.index_reader.specs.Truncs.{trunc_program}
use Rattle.reader_laws.specs.Moments.{Moment, IsSoundAt, Dropping, Grows, IsNamed, Stood, moment_after}
use Rattle.reader_laws.specs.Seen.{calls_of}
use Rattle.reader_laws.specs.Gathering.{Gathered, CoversLanded}
use Rattle.reader_laws.specs.GatheringListing.{AreFound}
use Rattle.plfs_types.specs.Places.{IsAmong}
use Rattle.reader_laws.specs.View.{WritersRise}
use Rattle.reader_laws.proofs.Gathered.Facts.{all_at, among, any_found, follows, grows_after, grows_trans, legal_first, legal_rest, scan_finds, scan_found, seen, sound_after}
use Rattle.reader_laws.specs.Failing.{FailsByStore, IsContainerAt}
use Rattle.reader_laws.specs.Listing.{AreListed}
use Rattle.reader_laws.specs.Opened.{HasOpenReader}
use Rattle.reader_laws.specs.Sharing.{in_room}
use Rattle.reader_laws.proofs.OpenReaders.Counts.{AreRightFor}
use Rattle.reader_laws.proofs.OpenReaders.Cuts.{all_by, among_map, cut_rises, dropping_of, matching}
use Rattle.reader_laws.proofs.Containers.Listings.{HasTop, top_run}
use Rattle.reader_laws.proofs.Faults.ScanFails.{top_fails}
use Rattle.reader_laws.proofs.Faults.ShareFails.{IsSafe, gathers_fail}
use Rattle.reader_laws.proofs.Faults.TruncFails.{truncs_fail}
use Rattle.refresh_index.specs.Refreshing.{all_unpacked}
use Rattle.refresh_laws.proofs.FormerLemmas.{formerly, landed_before, right_still}
use Rattle.refresh_laws.proofs.RefreshLemmas.{unpacked_listed}

-- the scan
pub scan_fails : (caller room : ℕ) (m : Moment) (events : List Event) (why : Stuck) → IsSoundAt m → IsContainerAt m room → IsLawful m.state events → Runs caller (scan_program room) events (Err why) → FailsByStore caller m.state events why
scan_fails caller room m events why s container lawful runs = top_fails caller room 0 no_flat m events why s container tt lawful runs

-- as they are listed, before anything of them is read
abbrev pub ungathered : ℕ → List Cover → Listed → Gathered
ungathered room covers d = record { dropping = in_room room d; packed = d.packed; covered = (cover_of d.writer covers).count; count = 0; tail = [] }

pub ungathered_are : (room : ℕ) (covers : List Cover) (ds : List Listed) → map dropping_of (map (ungathered room covers) ds) ≡ map (in_room room) ds
ungathered_are room covers [] = refl
ungathered_are room covers (d ∷ ds) = ap (λ l. in_room room d ∷ l) (ungathered_are room covers ds)

is_unpacked : (ds : List Listed) (d : Listed) → Among d (all_unpacked ds) → d.packed ≡ false
is_unpacked [] d a = absurd a
is_unpacked (x ∷ ds) d (inl e) = ap (λ (y : Listed). y.packed) e
is_unpacked (x ∷ ds) d (inr a) = is_unpacked ds d a

-- what was listed can be read behind what the reader has
listed_safe : (caller : ℕ) (start end : Moment) (held : OpenReader) (former : List Gathered) (m : Moment) (scanning : List Event) (listing : Listing) → HasOpenReader start end held former → Grows end m → IsLawful m.state scanning → IsSoundAt m → Runs caller (scan_program held.room) scanning (Ok listing)
    → AllByRecursion (IsSafe (moment_after m scanning) held.room held.covers) (all_unpacked listing.droppings)
listed_safe caller start end held former m scanning listing has grows lawful s runs =
    let room : ℕ = held.room in
    let t : HasTop caller room no_flat scanning listing = top_run caller room 0 no_flat m scanning listing lawful s runs in
    let ds : List Listed = all_unpacked listing.droppings in
    let l : AreListed room t.found ds = unpacked_listed room t.found listing.droppings t.droppings in
    let cut : List Gathered = map (ungathered room held.covers) ds in
    let are = ungathered_are room held.covers ds in
    let last : Moment = moment_after m scanning in
    let sl : IsSoundAt last = sound_after m scanning lawful s in
    let on : Grows m last = grows_after m scanning lawful s in
    let rise : WritersRise room cut = cut_rises room cut ds are l.ascend in
    let sees = seen caller m scanning lawful s in
    let complete : (d : Dropping) → d.room ≡ room → Stood m d → (g : Gathered) × Among g cut × (g.dropping ≡ d) = λ d its stood.
    (let a = scan_found caller room m last (calls_of caller scanning) t.found d sees t.scans its stood in
    let (e, c, same) = any_found (λ (x : Listed). in_room room x ≡ d) ds (all_at (λ (x : Dropping). Any (λ (y : Listed). in_room room y ≡ x) ds) t.found d l.all a) in
    let g = matching (in_room room) dropping_of ds cut e (sym are) c in
    (g.0, g.1, sym g.2 ∙ same)) in
    let right : AreRightFor last cut held.covers = subst (AreRightFor last cut) (sym has.covers) (right_still start end m last room former cut has.view.rise rise has.view.admissible grows complete (grows_far end m last grows on)) in
    let found : AreFound m last room t.found = scan_finds caller room m last (calls_of caller scanning) t.found sees sl t.scans in
    all_by (IsSafe last room held.covers) ds (λ d a.
    let g : Gathered = ungathered room held.covers d in
    let in_cut : Among g cut = among_map (ungathered room held.covers) ds d a in
    let named = all_at (λ (x : Listed). IsNamed (in_room room x)) ds d l.named a in
    let its = all_at (λ (x : Listed). IsAmong (in_room room x) t.found) ds d l.each a in
    let landed_then : CoversLanded m g = landed_before start end m last room former cut has.view.rise rise has.view.admissible grows complete g
    (formerly start end m last room former cut has.view.rise rise has.view.admissible grows complete g in_cut (ap (λ cs. (cover_of d.writer cs).count) has.covers)) in
    record {
      named = named;
      stood = (all_at (λ (x : Dropping). (x.room ≡ room) × Stood last x) t.found (in_room room d) found.stood (among t.found (in_room room d) its)).1;
      pack = λ packed. absurd (clash (sym packed ∙ is_unpacked listing.droppings d a));
      cover = record { tells = right.right g in_cut; had = omega (arith, landed_then, on.landed (in_room room d) named) };
    })
  where
    clash : true ≡ false → ⊥
    clash e = cc

    grows_far : (a b c : Moment) → Grows a b → Grows b c → Grows a c
    grows_far a b c f g = grows_trans a b c f g

-- the share behind it
pub share_fails : (caller : ℕ) (start end : Moment) (held : OpenReader) (former : List Gathered) (m : Moment) (scanning reading : List Event) (listing : Listing) (why : Stuck) → HasOpenReader start end held former → Grows end m → IsLawful m.state (scanning ++ reading) → IsSoundAt m → Runs caller (scan_program held.room) scanning (Ok listing)
    → Runs caller (share_program held.room (all_unpacked listing.droppings) held.covers) reading (Err why) → FailsByStore caller (state_after m.state scanning) reading why
share_fails caller start end held former m scanning reading listing why has grows lawful s runs fails =
    let l1 = legal_first m scanning reading lawful in
    subst (λ st. FailsByStore caller st reading why) (follows m scanning).0
    (gathers_fail caller held.room held.covers (all_unpacked listing.droppings) (moment_after m scanning) reading nothing why (sound_after m scanning l1 s) (legal_rest m scanning reading lawful)
    (listed_safe caller start end held former m scanning listing has grows l1 s runs) fails)

-- the truncates
pub truncates_fail : (caller room : ℕ) (m : Moment) (events : List Event) (why : Stuck) → IsLawful m.state events → IsSoundAt m → IsContainerAt m room → Runs caller (trunc_program room) events (Err why) → FailsByStore caller m.state events why
truncates_fail caller room m events why lawful s container runs = truncs_fail caller room m events why lawful s container runs
