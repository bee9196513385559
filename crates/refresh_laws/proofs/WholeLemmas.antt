-- The whole program of a refresh.
use Rattle.std.proofs.Common.{◌≡◌, ℕ, ◌<◌, List, [], ◌∷◌, ◌++◌, map, refl, ap, sym, inl, inr, subst}
use Rattle.std.specs.List.{AllByRecursion}
use Rattle.plfs_types.specs.declared.entries.Trunc.{Trunc}
use Rattle.plain_file.specs.declared.parts.ReaderParts.{ReaderParts}
use Rattle.plain_file.specs.declared.parts.WriterHost.{WriterHost}
use Rattle.plain_file.specs.Runs.{AreRuns}
use Rattle.mount_model.specs.History.{Event}
use Rattle.mount_sound.specs.Owed.{IsLawful}
use Rattle.mount_model.specs.Running.{Runs}
use Rattle.index_reader.specs.declared.listing.Listing.{Listing}
use Rattle.index_reader.specs.declared.opened.OpenReader.{OpenReader}
use Rattle.index_reader.specs.declared.sharing.Share.{Share}
use Rattle.index_reader.specs.Hosts.{AreByWriter, hosts_of}
use Rattle.index_reader.specs.Opened.{reader_from}
use Rattle.index_reader.specs.Opening.{no_flat}
use Rattle.gather_flow.specs.OneIndex.{gathered_of}
use Rattle.reader_laws.specs.Moments.{Moment, IsSoundAt, Dropping, moment_after}
use Rattle.reader_laws.specs.Gathering.{Gathered}
use Rattle.reader_laws.specs.View.{WritersRise}
use Rattle.reader_laws.proofs.Gathered.Facts.{grows_after, legal_first, legal_rest, sound_after}
use Rattle.reader_laws.specs.Failing.{IsContainerAt}
use Rattle.reader_laws.specs.Listing.{AreListed}
use Rattle.reader_laws.specs.Opened.{HasOpenReader}
use Rattle.reader_laws.specs.Sharing.{host_in_room}
use Rattle.reader_laws.proofs.OpenReaders.Cuts.{dropping_of}
use Rattle.reader_laws.proofs.Facts.{container_later, share_gathered}
use Rattle.reader_laws.proofs.Containers.Listings.{HasTop, top_run}
use Rattle.refresh_index.specs.declared.refreshing.RefreshOut.{RefreshOut}
use Rattle.refresh_index.specs.Hosts.{hosts_with}
use Rattle.refresh_index.proofs.HostLemmas.{Rise, by_rise}
use Rattle.refresh_index.specs.Refreshing.{all_unpacked, behind, refresh_program, refreshed}
use Rattle.refresh_laws.specs.Refreshing.{EndsWith, RefreshEnds, RefreshesAlone}
use Rattle.refresh_laws.proofs.EndLemmas.{refresh_ends}
use Rattle.refresh_laws.proofs.MadeLemmas.{is_refresh}
use Rattle.refresh_laws.proofs.RefreshLemmas.{refreshed_in, unpacked_listed}
use Rattle.refresh_laws.proofs.StayLemmas.{hosts_told, unpacked_same}

-- the pieces of the share are runs
share_runs : (caller : ℕ) (m : Moment) (held : OpenReader) (events : List Event) (listing : Listing) (share : Share) (truncs : List Trunc)
    → IsLawful m.state events → IsSoundAt m → RefreshesAlone caller events held listing share truncs → AreRuns share.pieces
share_runs caller m held events listing share truncs lawful s r =
    let all : IsLawful m.state (r.scanning ++ (r.gathering ++ r.listing_truncs)) = subst (IsLawful m.state) r.split lawful in
    let l1 = legal_first m r.scanning (r.gathering ++ r.listing_truncs) all in
    let m1 : Moment = moment_after m r.scanning in
    let s1 : IsSoundAt m1 = sound_after m r.scanning l1 s in
    let l2 = legal_first m1 r.gathering r.listing_truncs (legal_rest m r.scanning (r.gathering ++ r.listing_truncs) all) in
    let t : HasTop caller held.room no_flat r.scanning listing = top_run caller held.room 0 no_flat m r.scanning listing l1 s r.scans in
    let listed : AreListed held.room t.found (all_unpacked listing.droppings) = unpacked_listed held.room t.found listing.droppings t.droppings in
    let g = share_gathered caller held.room m1 r.gathering (all_unpacked listing.droppings) held.covers share l2 s1 listed.named r.reads in
    g.2.pieces_are.runs

-- the hosts of an open reader stand by ascending writer, as its cut does

same_first : (x y : Dropping) (xs ys : List Dropping) → x ∷ xs ≡ y ∷ ys → (x ≡ y) × (xs ≡ ys)
same_first x y xs ys same = (cc, cc)

hosts_above : (n room : ℕ) (hosts : List WriterHost) (cut : List Gathered) → map (host_in_room room) hosts ≡ map dropping_of cut → AllByRecursion (λ (g : Gathered). n < g.dropping.writer) cut → AllByRecursion (λ (h : WriterHost). n < h.writer) hosts
hosts_above n room [] cut same all = tt
hosts_above n room (h ∷ hosts) [] same all = absurd (cc)
hosts_above n room (h ∷ hosts) (g ∷ cut) same all =
    let both = same_first (host_in_room room h) g.dropping (map (host_in_room room) hosts) (map dropping_of cut) same in
    (subst (λ (d : Dropping). n < d.writer) (sym both.0) all.0, hosts_above n room hosts cut both.1 all.1)

hosts_rise : (room : ℕ) (hosts : List WriterHost) (cut : List Gathered) → map (host_in_room room) hosts ≡ map dropping_of cut → WritersRise room cut → Rise hosts
hosts_rise room [] cut same rise = tt
hosts_rise room (h ∷ hosts) [] same rise = absurd (cc)
hosts_rise room (h ∷ hosts) (g ∷ cut) same rise =
    let both = same_first (host_in_room room h) g.dropping (map (host_in_room room) hosts) (map dropping_of cut) same in
    let writer : h.writer ≡ g.dropping.writer = ap (λ (d : Dropping). d.writer) both.0 in
    (subst (λ n. AllByRecursion (λ (k : WriterHost). n < k.writer) hosts) (sym writer) (hosts_above g.dropping.writer room hosts cut both.1 rise.1), hosts_rise room hosts cut both.1 rise.2)

pub whole : (caller : ℕ) (start end : Moment) (held : ReaderParts) (former : List Gathered) (between events : List Event) (out : RefreshOut)
    → IsLawful end.state (between ++ events) → IsSoundAt end → IsContainerAt end held.room → HasOpenReader start end (reader_from held) former
    → Runs caller (refresh_program held) events out → RefreshEnds caller (moment_after end between) events former held out
whole caller start end held former between events out lawful_all sound_end container has runs =
    let by : AreByWriter held.hosts = by_rise held.hosts (hosts_rise held.room held.hosts former has.hosts has.view.rise) in
    let lb = legal_first end between events lawful_all in
    let m : Moment = moment_after end between in
    let s : IsSoundAt m = sound_after end between lb sound_end in
    let lawful : IsLawful m.state events = legal_rest end between events lawful_all in
    let grows = grows_after end between lb sound_end in
    let there : IsContainerAt m held.room = container_later end m held.room grows container in
    elim (refresh_ends caller start end m held former has grows s there events out lawful runs) as (λ _. RefreshEnds caller m events former held out) [
      | inl h ↦
          let scan_lawful = legal_first m h.scanning h.others (subst (IsLawful m.state) h.first lawful) in
          let pieces_runs = share_runs caller m (reader_from held) events h.listing h.share h.truncs lawful s h.reads in
          let hosts : hosts_with held.hosts h.listing.droppings ≡ hosts_of h.listing.droppings = hosts_told caller start end m held former has grows s h.scanning h.listing scan_lawful h.scans by in
          let made = is_refresh start end held former has sound_end h.listing h.share h.truncs pieces_runs hosts (unpacked_same held.hosts h.listing.droppings) in
          subst (λ (o : RefreshOut). EndsWith caller m events former held o.parts o.result) (sym h.is)
          (refreshed_in caller start end (reader_from held) former between events h.listing h.share h.truncs
          (reader_from (refreshed held (gathered_of (behind held h.listing) (h.share ∷ []) h.truncs))) lawful_all sound_end has h.reads made)
      | inr t ↦ subst (λ (o : RefreshOut). EndsWith caller m events former held o.parts o.result) (sym t.is) (refl, t.fails)
    ]
