-- Who runs the programs of a refresh has refreshed its reader.
use Rattle.std.proofs.Common.{◌≡◌, ℕ, ◌+◌, ◌<◌, ◌≤◌, List, [], ◌∷◌, ◌++◌, length, map, Option, refl, ap, sym, ◌∙◌, inl, inr, subst, append_assoc, arith}
use Rattle.std.specs.Prelude.{option_map}
use Rattle.std.specs.List.{All, Any, AllByRecursion}
use Rattle.std.proofs.lemmas.List.{append-nil}
use Rattle.std.proofs.lemmas.List.Elements.{All-from_recursion, recursion_from_All}
use Rattle.plfs_types.specs.declared.entries.Entry.{Entry}
use Rattle.plfs_types.specs.declared.entries.Trunc.{Trunc}
use Rattle.plain_file.specs.File.{plain_size}
use Rattle.plain_file.specs.Newest.{newest_at}
use Rattle.plain_file.specs.Runs.{ArePieces}
use Rattle.plain_file.specs.Shows.{entries_of, truncs_of}
use Rattle.plain_file.specs.Size.{size_from, last_trunc}
use Rattle.plain_file.specs.Sources.{source_at, source_of, kept_source, after_source}
use Rattle.plain_file.proofs.Facts.{Among, All-Among, SameElements, OnePerKey-from_KeysDiffer, newest_at-same}
use Rattle.plain_file.proofs.Facts.{ArePieces-clipped_before, SaysAfter, SaysAfter-clipped_before, size-from_after}
use Rattle.mount_model.specs.History.{Event}
use Rattle.mount_sound.specs.Ledger.{entries_in}
use Rattle.mount_sound.specs.Owed.{IsLawful}
use Rattle.index_reader.specs.declared.listing.Dropping.{Dropping as Listed}
use Rattle.index_reader.specs.declared.listing.Listing.{Listing}
use Rattle.index_reader.specs.declared.opened.OpenReader.{OpenReader}
use Rattle.index_reader.specs.declared.sharing.Share.{Share}
use Rattle.index_reader.specs.Covered.{cover_of}
use Rattle.index_reader.specs.Listing.{AreByWriter}
use Rattle.index_reader.specs.Opening.{no_flat}
use Rattle.reader_laws.specs.Moments.{Moment, IsSoundAt, Dropping, Grows, IsNamed, Stood, issued_by, moment_after}
use Rattle.reader_laws.specs.Seen.{asked_in, calls_of, IsSeen}
use Rattle.reader_laws.specs.Gathering.{Gathered, CoversLanded, IsAdmissible, IsPrefixOf}
use Rattle.reader_laws.specs.GatheringListing.{AreTruncsAt}
use Rattle.plfs_types.specs.Places.{IsAmong}
use Rattle.reader_laws.specs.GatheringOpening.{HasView}
use Rattle.reader_laws.specs.View.{changes_in, covered_in, tails_in, tails_of, writes_in, WritersRise}
use Rattle.reader_laws.proofs.Gathered.Facts.{all_at, among_left, among_right, any_found, found_any, grows_after, grows_trans, keys_in, later_truncates, legal_first, legal_rest, length-entries, length_taken, moment-append, prefix_of, same_entries, scan_found, seen, seen_grows, seen_split, sound_after}
use Rattle.reader_laws.proofs.Gathered.Logs.Gathers.{AdmissibleEach, gathers_all}
use Rattle.reader_laws.proofs.Gathered.Moments.Seeing.{seen_waits}
use Rattle.reader_laws.proofs.Gathered.Containers.Truncates.{truncs_listed as truncs_stood}
use Rattle.reader_laws.proofs.Gathered.OpenReaders.Viewing.{bytes_all, entries_of-changes, keys_differ, tails_are, truncs_of-changes}
use Rattle.reader_laws.specs.Covering.{counts_in, cover_with}
use Rattle.reader_laws.specs.Listing.{AreListed, HasListedTruncs}
use Rattle.reader_laws.specs.Opened.{HasOpenReader}
use Rattle.reader_laws.specs.Sharing.{in_room, host_in_room, cover_before, IsShareOf}
use Rattle.reader_laws.proofs.Calls.Calling.{calls_append}
use Rattle.reader_laws.proofs.OpenReaders.Counts.{AreRightFor, IsCounted, cover_is, counts_are, covers_counted}
use Rattle.reader_laws.proofs.OpenReaders.Cuts.{all_by, among_map, cut_rises, dropping_of, either_part, matching}
use Rattle.reader_laws.proofs.Calls.Histories.{listed_by, truncs_listed}
use Rattle.reader_laws.proofs.Containers.Listings.{HasTop, top_run}
use Rattle.reader_laws.proofs.OpenReaders.Openings.{IsBegun, begun, hosts_in_room, share_gathered}
use Rattle.refresh_index.specs.Refreshing.{unpacked, all_unpacked}
use Rattle.refresh_laws.specs.Refreshing.{RefreshesAlone, IsRefreshOf, HasRefreshedIn}
use Rattle.refresh_laws.proofs.FormerLemmas.{covered_same, formerly, landed_before, not_below, right_still}

-- ---- droppings of which the index alone is read

in_room_same : (room : ℕ) (ds : List Listed) → map (in_room room) (all_unpacked ds) ≡ map (in_room room) ds
in_room_same room [] = refl
in_room_same room (d ∷ ds) = ap (λ l. in_room room d ∷ l) (in_room_same room ds)

writers_same : (ds : List Listed) → map (λ (d : Listed). d.writer) (all_unpacked ds) ≡ map (λ (d : Listed). d.writer) ds
writers_same [] = refl
writers_same (d ∷ ds) = ap (λ l. d.writer ∷ l) (writers_same ds)

unpacked_by_writer : (ds : List Listed) → AreByWriter ds → AreByWriter (all_unpacked ds)
unpacked_by_writer [] by = tt
unpacked_by_writer (d ∷ ds) by = (subst (λ ws. All (λ later. d.writer < later) ws) (sym (writers_same ds)) by.0, unpacked_by_writer ds by.1)

all_unpacked_so : (P : Listed → Type 0) → ((d : Listed) → P d → P (unpacked d)) → (ds : List Listed) → AllByRecursion P ds → AllByRecursion P (all_unpacked ds)
all_unpacked_so P so [] all = tt
all_unpacked_so P so (d ∷ ds) all = (so d all.0, all_unpacked_so P so ds all.1)

pub unpacked_listed : (room : ℕ) (found : List Dropping) (ds : List Listed) → AreListed room found ds → AreListed room found (all_unpacked ds)
unpacked_listed room found ds l = record {
  ascend = unpacked_by_writer ds l.ascend;
  each = All-from_recursion (λ (d : Listed). IsAmong (in_room room d) found) (all_unpacked ds) (all_unpacked_so (λ (d : Listed). IsAmong (in_room room d) found) (λ d p. p) ds (recursion_from_All (λ (d : Listed). IsAmong (in_room room d) found) ds l.each));
  all = All-from_recursion (λ (f : Dropping). Any (λ (d : Listed). in_room room d ≡ f) (all_unpacked ds)) found (all_by (λ (f : Dropping). Any (λ (d : Listed). in_room room d ≡ f) (all_unpacked ds)) found (λ f a.
      let (d, b, is) = any_found (λ (e : Listed). in_room room e ≡ f) ds (all_at (λ (x : Dropping). Any (λ (e : Listed). in_room room e ≡ x) ds) found f l.all a) in
      found_any (λ (e : Listed). in_room room e ≡ f) (all_unpacked ds) (unpacked d) (among_map unpacked ds d b) is));
  named = All-from_recursion (λ (d : Listed). IsNamed (in_room room d)) (all_unpacked ds) (all_unpacked_so (λ (d : Listed). IsNamed (in_room room d)) (λ d p. p) ds (recursion_from_All (λ (d : Listed). IsNamed (in_room room d)) ds l.named));
}

-- ---- small things

both_hold : {X : Type 0} (P Q : X → Type 0) (xs : List X) → AllByRecursion (λ x. P x → Q x) xs → ((x : X) → Among x xs → P x) → AllByRecursion Q xs
both_hold P Q [] so all = tt
both_hold P Q (x ∷ xs) so all = (so.0 (all x (inl refl)), both_hold P Q xs so.1 (λ y a. all y (inr a)))

regroup : (a b c : List Event) (last : Event) (later : List Event) → a ++ (b ++ (c ++ last ∷ later)) ≡ (a ++ (b ++ c)) ++ last ∷ later
regroup a b c last later = ap (λ l. a ++ l) (sym (append_assoc b c (last ∷ later))) ∙ sym (append_assoc a (b ++ c) (last ∷ later))

same_self : {X : Type 0} (xs : List X) → SameElements xs xs
same_self xs = record { to = λ x a. a; back = λ x a. a }

-- ---- the cut

module _ (start end from last : Moment) (held new : OpenReader) (former cut : List Gathered) (listing : Listing) (share : Share) (truncs : List Trunc)
    (has : HasOpenReader start end held former) (grows : Grows end from) (on : Grows from last) (s : IsSoundAt last)
    (rise : WritersRise held.room cut)
    (complete : (d : Dropping) → d.room ≡ held.room → Stood from d → (g : Gathered) × Among g cut × (g.dropping ≡ d))
    (shared : IsShareOf held.room (all_unpacked listing.droppings) held.covers cut share)
    (each : AdmissibleEach from last cut) (all_truncs : AreTruncsAt last held.room truncs) (more : List Trunc) (are : truncs ≡ held.truncs ++ more)
    (is : IsRefreshOf held listing share truncs new) where
  was : IsAdmissible start end former
  was = has.view.admissible

  rise_f : WritersRise held.room former
  rise_f = has.view.rise

  far : Grows end last
  far = grows_trans end from last grows on

  before : (g : Gathered) → Among g cut → g.covered ≡ (cover_before held.covers g).count
  before g a = All-Among (λ (x : Gathered). x.covered ≡ (cover_before held.covers x).count) cut g shared.covered_so a

  before_f : (g : Gathered) → Among g cut → g.covered ≡ (cover_of g.dropping.writer (counts_in end former)).count
  before_f g a = before g a ∙ ap (λ cs. (cover_of g.dropping.writer cs).count) has.covers

  few : (g : Gathered) → Among g cut → g.covered ≤ g.count
  few g a =
      let n : g.count ≡ (cover_before held.covers g).count + length g.tail = All-Among (λ (x : Gathered). x.count ≡ (cover_with (cover_before held.covers x) x.tail).count) cut g shared.counted a in
      omega (arith, before g a, n)

  admissible : IsAdmissible from last cut
  admissible = both_hold (CoversLanded from) (IsPrefixOf from last) cut each (λ g a. landed_before start end from last held.room former cut rise_f rise was grows complete g (formerly start end from last held.room former cut rise_f rise was grows complete g a (before_f g a)))

  tails : tails_of cut ≡ tails_in last cut
  tails = tails_are from last cut admissible

  covered_so : SameElements (covered_in last cut) (entries_in (writes_in end former))
  covered_so = covered_same start end from last held.room former cut rise_f rise was grows complete far before_f few

  -- the writes of the cut are those of the former one, and what was read
  elements : SameElements (entries_in (writes_in last cut)) (entries_in (writes_in end former) ++ tails_of cut)
  elements = record {
    to = λ e m. elim (either_part e (covered_in last cut) (tails_in last cut) ((same_entries last cut).to e m)) as (λ _. Among e (entries_in (writes_in end former) ++ tails_of cut)) [
      | inl front ↦ among_left e (entries_in (writes_in end former)) (tails_of cut) (covered_so.to e front)
      | inr tail ↦ among_right e (entries_in (writes_in end former)) (tails_of cut) (subst (Among e) (sym tails) tail)
    ];
    back = λ e m. (same_entries last cut).back e (elim (either_part e (entries_in (writes_in end former)) (tails_of cut) m) as (λ _. Among e (covered_in last cut ++ tails_in last cut)) [
      | inl front ↦ among_left e (covered_in last cut) (tails_in last cut) (covered_so.back e front)
      | inr tail ↦ among_right e (covered_in last cut) (tails_in last cut) (subst (Among e) tails tail)
    ]);
  }

  same_newest : (ts : List Trunc) (x : ℕ) → newest_at (entries_in (writes_in last cut)) ts x ≡ newest_at (entries_in (writes_in end former) ++ tails_of cut) ts x
  same_newest ts x =
      newest_at-same (entries_in (writes_in last cut)) (entries_in (writes_in end former) ++ tails_of cut) ts ts (OnePerKey-from_KeysDiffer (entries_in (writes_in last cut)) (keys_in last s held.room cut rise)) elements (same_self ts) x

  pieces : ArePieces (entries_in (writes_in last cut)) truncs new.pieces
  pieces =
      let both : List Entry = entries_in (writes_in end former) ++ tails_of cut in
      let p : ArePieces both (held.truncs ++ more) new.pieces =
      ArePieces-clipped_before (entries_in (writes_in end former)) (tails_of cut) held.truncs more held.pieces share.pieces new.pieces has.pieces shared.pieces_are is.are_runs
      (λ x. is.kept x ∙ ap (λ ts. kept_source ts x (source_at is.merged x)) are ∙ ap (kept_source (held.truncs ++ more) x) (is.newest x)) in
      let q : ArePieces both truncs new.pieces = subst (λ ts. ArePieces both ts new.pieces) (sym are) p in
      record { runs = q.runs; shown = λ x. q.shown x ∙ ap (option_map (source_of x)) (sym (same_newest truncs x)) }

  says_after : SaysAfter (last_trunc (truncs_of (changes_in last cut truncs))) (entries_of (changes_in last cut truncs)) is.merged
  says_after =
      let l : Option Trunc = last_trunc (held.truncs ++ more) in
      let base : SaysAfter l (entries_in (writes_in end former) ++ tails_of cut) is.merged =
      SaysAfter-clipped_before (entries_in (writes_in end former)) (tails_of cut) held.truncs more held.pieces share.pieces is.merged has.pieces shared.pieces_are is.newest in
      let of_cut : SaysAfter l (entries_in (writes_in last cut)) is.merged = λ x. base x ∙ ap (after_source l) (ap (option_map (source_of x)) (sym (same_newest [] x))) in
      let all : truncs_of (changes_in last cut truncs) ≡ held.truncs ++ more = truncs_of-changes (writes_in last cut) truncs ∙ are in
      subst (λ (es : List Entry). SaysAfter (last_trunc (truncs_of (changes_in last cut truncs))) es is.merged) (sym (entries_of-changes (writes_in last cut) truncs))
      (subst (λ (ts : List Trunc). SaysAfter (last_trunc ts) (entries_in (writes_in last cut)) is.merged) (sym all) of_cut)

  size : new.size ≡ plain_size (changes_in last cut truncs)
  size =
      let plain : plain_size (changes_in last cut truncs) ≡ size_from is.merged (truncs_of (changes_in last cut truncs)) =
      size-from_after (changes_in last cut truncs) is.merged (keys_differ last s held.room cut truncs rise) (bytes_all last s held.room cut truncs rise) is.runs says_after in
      is.size ∙ sym (plain ∙ ap (size_from is.merged) (truncs_of-changes (writes_in last cut) truncs))

  right : AreRightFor last cut held.covers
  right = subst (AreRightFor last cut) (sym has.covers) (right_still start end from last held.room former cut rise_f rise was grows complete far)

  counted : (g : Gathered) → Among g cut → IsCounted last held.covers g
  counted g a = record {
    whole = length_taken g.count (entries_in (issued_by last g.dropping)) (omega (arith, (prefix_of from last cut g admissible a).were_issued, length-entries (issued_by last g.dropping)));
    before = before g a;
    few = few g a;
  }

  covers : new.covers ≡ counts_in last cut
  covers =
      let told : share.covers ≡ counts_in last cut = shared.covers_are ∙ counts_are last held.covers cut (λ g a. cover_is from last cut held.covers g right a (prefix_of from last cut g admissible a) (before g a) (few g a)) in
      covers_counted last held.room cut cut held.covers share.covers new.covers rise right counted (λ g a. a) (λ g a. a) told is.covers.ascend is.covers.each

  hosts : map (host_in_room new.room) new.hosts ≡ map (λ (g : Gathered). g.dropping) cut
  hosts =
      ap (λ hs. map (host_in_room new.room) hs) is.hosts ∙ hosts_in_room new.room listing.droppings ∙ ap (λ r. map (in_room r) listing.droppings) is.room
      ∙ sym (in_room_same held.room listing.droppings) ∙ sym shared.droppings_are

  -- the reader has what a reader has that is opened
  pub has_reader : HasOpenReader from last new cut
  has_reader =
      let view : HasView from last held.room cut truncs = record {
        rise = rise;
        admissible = admissible;
        complete = λ d its stood. (let c = complete d its stood in found_any (λ (g : Gathered). g.dropping ≡ d) cut c.0 c.1 c.2);
        all_truncs = all_truncs;
        entries = tails;
      } in
      record {
        view = subst (λ r. HasView from last r cut new.truncs) (sym is.room) (subst (λ ts. HasView from last held.room cut ts) (sym is.truncates) view);
        hosts = hosts;
        pieces = subst (λ ts. ArePieces (entries_in (writes_in last cut)) ts new.pieces) (sym is.truncates) pieces;
        size = size ∙ ap (λ ts. plain_size (changes_in last cut ts)) (sym is.truncates);
        covers = covers;
      }

  pub is_above : All (λ (f : Gathered). Any (λ (h : Gathered). (h.dropping ≡ f.dropping) × (f.count ≤ h.count)) cut) former
  is_above = All-from_recursion (λ (f : Gathered). Any (λ (h : Gathered). (h.dropping ≡ f.dropping) × (f.count ≤ h.count)) cut) former
      (all_by (λ (f : Gathered). Any (λ (h : Gathered). (h.dropping ≡ f.dropping) × (f.count ≤ h.count)) cut) former (λ f a.
      (let h = not_below start end from last held.room former cut rise_f rise was grows complete far before_f few f a in
      found_any (λ (h : Gathered). (h.dropping ≡ f.dropping) × (f.count ≤ h.count)) cut h.0 h.1 (h.2, h.3))))

-- ---- the law

pub refreshed_in : (caller : ℕ) (start end : Moment) (held : OpenReader) (former : List Gathered) (between events : List Event) (listing : Listing) (share : Share) (truncs : List Trunc) (new : OpenReader)
    → IsLawful end.state (between ++ events) → IsSoundAt end → HasOpenReader start end held former → RefreshesAlone caller events held listing share truncs → IsRefreshOf held listing share truncs new
    → HasRefreshedIn caller (moment_after end between) events former held new
refreshed_in caller start end held former between events listing share truncs new lawful_all sound_end has r is =
    let room : ℕ = held.room in
    let m0 : Moment = moment_after end between in
    let lb = legal_first end between events lawful_all in
    let sound : IsSoundAt m0 = sound_after end between lb sound_end in
    let lawful : IsLawful m0.state events = legal_rest end between events lawful_all in
    let all : IsLawful m0.state (r.scanning ++ (r.gathering ++ r.listing_truncs)) = subst (IsLawful m0.state) r.split lawful in
    let l1 = legal_first m0 r.scanning (r.gathering ++ r.listing_truncs) all in
    let m1 : Moment = moment_after m0 r.scanning in
    let s1 : IsSoundAt m1 = sound_after m0 r.scanning l1 sound in
    let r1 = legal_rest m0 r.scanning (r.gathering ++ r.listing_truncs) all in
    let l2 = legal_first m1 r.gathering r.listing_truncs r1 in
    let m2 : Moment = moment_after m1 r.gathering in
    let s2 : IsSoundAt m2 = sound_after m1 r.gathering l2 s1 in
    let r2 = legal_rest m1 r.gathering r.listing_truncs r1 in
    let t : HasTop caller room no_flat r.scanning listing = top_run caller room 0 no_flat m0 r.scanning listing l1 sound r.scans in
    let ds : List Listed = all_unpacked listing.droppings in
    let listed : AreListed room t.found ds = unpacked_listed room t.found listing.droppings t.droppings in
    let g = share_gathered caller room m1 r.gathering ds held.covers share l2 s1 listed.named r.reads in
    let cut : List Gathered = g.0 in
    let shared : IsShareOf room ds held.covers cut share = g.2 in
    let last_ : HasListedTruncs caller room r.listing_truncs truncs = truncs_listed caller room m2 r.listing_truncs truncs r2 s2 r.truncates in
    let until : List Event = r.scanning ++ (r.gathering ++ last_.before) in
    let calls : calls_of caller until ≡ calls_of caller r.scanning ++ calls_of caller r.gathering =
    calls_append caller r.scanning (r.gathering ++ last_.before) ∙ ap (λ l. calls_of caller r.scanning ++ l) (calls_append caller r.gathering last_.before ∙ ap (λ l. calls_of caller r.gathering ++ l) last_.waits ∙ append-nil (calls_of caller r.gathering)) in
    let b : IsBegun caller until = begun caller until t.scans.first (t.scans.rest ++ calls_of caller r.gathering) (calls ∙ ap (λ l. l ++ calls_of caller r.gathering) t.scans.calls) in
    let whole : events ≡ b.before ++ (b.first ∷ b.more ++ last_.listing ∷ last_.later) =
    r.split ∙ ap (λ l. r.scanning ++ (r.gathering ++ l)) last_.split ∙ regroup r.scanning r.gathering last_.before last_.listing last_.later ∙ ap (λ l. l ++ last_.listing ∷ last_.later) b.split ∙ append_assoc b.before (b.first ∷ b.more) (last_.listing ∷ last_.later) in
    let lawful' : IsLawful m0.state (b.before ++ (b.first ∷ b.more ++ last_.listing ∷ last_.later)) = subst (IsLawful m0.state) whole lawful in
    let from : Moment = moment_after m0 b.before in
    let lf = legal_first m0 b.before (b.first ∷ b.more ++ last_.listing ∷ last_.later) lawful' in
    let sf : IsSoundAt from = sound_after m0 b.before lf sound in
    let rest = legal_rest m0 b.before (b.first ∷ b.more ++ last_.listing ∷ last_.later) lawful' in
    let lm = legal_first from (b.first ∷ b.more) (last_.listing ∷ last_.later) rest in
    let last : Moment = moment_after from (b.first ∷ b.more) in
    let sl : IsSoundAt last = sound_after from (b.first ∷ b.more) lm sf in
    let step = legal_rest from (b.first ∷ b.more) (last_.listing ∷ last_.later) rest in
    let grows : Grows end from = grows_trans end m0 from (grows_after end between lb sound_end) (grows_after m0 b.before lf sound) in
    let on : Grows from last = grows_after from (b.first ∷ b.more) lm sf in
    let sees : IsSeen caller from (calls_of caller r.scanning ++ calls_of caller r.gathering) last = subst (λ a. IsSeen caller from a last) (b.same ∙ calls) (seen caller from (b.first ∷ b.more) lm sf) in
    let two = seen_split caller from last (calls_of caller r.scanning) (calls_of caller r.gathering) sees in
    let rise : WritersRise room cut = cut_rises room cut ds shared.droppings_are listed.ascend in
    let complete : (d : Dropping) → d.room ≡ room → Stood from d → (x : Gathered) × Among x cut × (x.dropping ≡ d) = λ d its stood.
    (let a = scan_found caller room from two.0 (calls_of caller r.scanning) t.found d two.1 t.scans its stood in
    let (e, c, same) = any_found (λ (x : Listed). in_room room x ≡ d) ds (all_at (λ (x : Dropping). Any (λ (y : Listed). in_room room y ≡ x) ds) t.found d listed.all a) in
    let m = matching (in_room room) dropping_of ds cut e (sym shared.droppings_are) c in
    (m.0, m.1, sym m.2 ∙ same)) in
    let each : AdmissibleEach from last cut = gathers_all caller from last cut (calls_of caller r.gathering) (seen_waits caller from two.0 last (calls_of caller r.gathering) (seen_grows caller from two.0 (calls_of caller r.scanning) two.1) two.2) g.1 in
    let stood : AreTruncsAt last room truncs = truncs_stood last sl last_.listing.caller room truncs (asked_in last_.listing) last_.listing.after step.1 last_.truncates in
    let to_last : List Event = between ++ (b.before ++ (b.first ∷ b.more)) in
    let at_last : moment_after end to_last ≡ last = moment-append end between (b.before ++ (b.first ∷ b.more)) ∙ moment-append m0 b.before (b.first ∷ b.more) in
    let legal_to : IsLawful end.state to_last = legal_first end to_last (last_.listing ∷ last_.later) (subst (IsLawful end.state) (ap (λ l. between ++ l) (whole ∙ sym (append_assoc b.before (b.first ∷ b.more) (last_.listing ∷ last_.later))) ∙ sym (append_assoc between (b.before ++ (b.first ∷ b.more)) (last_.listing ∷ last_.later))) lawful_all) in
    let later = later_truncates start end to_last room former held.truncs truncs legal_to sound_end has.view (subst (λ m. AreTruncsAt m room truncs) (sym at_last) stood) in
    record {
      room = is.room;
      opened = record {
        before = b.before;
        first = b.first;
        more = b.more;
        listing = last_.listing;
        later = last_.later;
        split = whole;
        waits = b.waits;
        begins = b.begins;
        lists = last_.lists;
        truncates = listed_by new room truncs (asked_in last_.listing) is.room is.truncates last_.truncates;
        cut = cut;
        has = has_reader start end from last held new former cut listing share truncs has grows on sl rise complete shared each stood later.0 later.1 is;
      };
      above = is_above start end from last held new former cut listing share truncs has grows on sl rise complete shared each stood later.0 later.1 is;
      more = later.0;
      truncates = is.truncates ∙ later.1;
    }
