-- The program that reads a container past what is known of it fails only by the store.
use Rattle.std.proofs.Common.{◌≡◌, ℕ, List, [], ◌∷◌, ◌++◌, sym, subst}
use Rattle.std.specs.Prelude.{Result, Ok, Err}
use Rattle.std.specs.List.{AllByRecursion}
use Rattle.plfs_types.specs.declared.entries.Trunc.{Trunc}
use Rattle.mount_model.specs.History.{Event}
use Rattle.mount_sound.specs.Owed.{IsLawful}
use Rattle.mount_model.specs.declared.stuck.Stuck.{Stuck}
use Rattle.mount_model.specs.FlowReplies.{on_ok}
use Rattle.mount_model.specs.Running.{Runs}
use Rattle.mount_model.proofs.Flows.Facts.{runs_in_two}
use Rattle.index_reader.specs.declared.entries.Tail.{Tail}
use Rattle.index_reader.specs.declared.listing.Dropping.{Dropping as Listed}
use Rattle.index_reader.specs.declared.listing.Listing.{Listing}
use Rattle.index_reader.specs.Covered.{cover_of}
use Rattle.index_reader.specs.Opening.{no_flat, scan_program}
use Rattle.index_reader.specs.Packs.{no_tail}
use Rattle.index_reader.specs.Tails.{tail_program}
use Rattle.index_reader.specs.Truncs.{trunc_program}
use Rattle.plfs_types.specs.Places.{IsAmong}
use Rattle.reader_laws.specs.Moments.{Dropping, Grows, IsNamed, IsSoundAt, Moment, Stood, moment_after}
use Rattle.reader_laws.specs.Seen.{calls_of}
use Rattle.reader_laws.proofs.Gathered.Facts.{all_at, among, follows, grows_after, grows_trans, legal_first, legal_rest, scan_finds, seen, sound_after, stood_grows}
use Rattle.reader_laws.specs.Failing.{FailsByStore, IsContainerAt}
use Rattle.reader_laws.specs.Listing.{AreListed}
use Rattle.reader_laws.specs.Sharing.{in_room}
use Rattle.reader_laws.proofs.Calls.Troubles.{fails_first, fails_rest}
use Rattle.reader_laws.proofs.Containers.Listings.{top_run}
use Rattle.reader_laws.proofs.Faults.ScanFails.{top_fails}
use Rattle.reader_laws.proofs.Faults.TailFails.{IsCoverOf, tail_fails}
use Rattle.reader_laws.proofs.Faults.TruncFails.{truncs_fail}
use Rattle.reader_laws.proofs.OpenReaders.Cuts.{all_by}
use Rattle.reader_laws.proofs.Soundness.LookEnds.{container_later}
use Rattle.drain_read.specs.declared.read.Contained.{Contained}
use Rattle.drain_read.specs.declared.read.Known.{Known}
use Rattle.drain_read.specs.declared.read.WriterRead.{WriterRead}
use Rattle.drain_read.specs.Reading.{contained_program, contains, lists_truncs, read_as, reads_all, reads_listed}

no_ok : {R : Type 0} (x : R) (why : Stuck) → ◌≡◌ {A = Result R Stuck} (Ok x) (Err why) → ⊥
no_ok x why e = cc

same_trouble : {R : Type 0} (a b : Stuck) → ◌≡◌ {A = Result R Stuck} (Err a) (Err b) → a ≡ b
same_trouble a b e = cc

-- From a moment on the covers that are known are of entries that have landed, whichever dropping stands.
module _ (caller : ℕ) (known : Known) (start : Moment) (covered : (m : Moment) → IsSoundAt m → Grows start m → (d : Listed) → Stood m (in_room known.room d) → IsCoverOf m (in_room known.room d) (cover_of d.writer known.covers)) where
  -- a dropping that can be read
  record IsReadable (m : Moment) (d : Listed) : Type 0 where
    named : IsNamed (in_room known.room d)
    stood : Stood m (in_room known.room d)

  all_later : (a b : Moment) (ds : List Listed) → Grows a b → AllByRecursion (IsReadable a) ds → AllByRecursion (IsReadable b) ds
  all_later a b [] grows all = tt
  all_later a b (d ∷ ds) grows all = (record { named = all.0.named; stood = stood_grows a b (in_room known.room d) grows all.0.stood }, all_later a b ds grows all.1)

  -- ---- the truncates

  truncs_end : (sofar : List WriterRead) (m : Moment) (events : List Event) (why : Stuck) → IsSoundAt m → IsContainerAt m known.room → IsLawful m.state events → Runs caller (lists_truncs known sofar) events (Err why) → FailsByStore caller m.state events why
  truncs_end sofar m events why s container lawful runs =
      let r = runs_in_two caller (trunc_program known.room) (on_ok (contains known sofar)) events (Err why) runs in
      subst (λ es. FailsByStore caller m.state es why) (sym r.all) (by_value r.first r.rest r.value (subst (IsLawful m.state) r.all lawful) r.runs r.then_runs)
    where
      by_value : (first rest : List Event) (value : Result (List Trunc) Stuck) → IsLawful m.state (first ++ rest) → Runs caller (trunc_program known.room) first value → Runs caller (on_ok (contains known sofar) value) rest (Err why) → FailsByStore caller m.state (first ++ rest) why
      by_value first rest (Err other) all lists on =
          let same : other ≡ why = same_trouble {R = Contained} other why on.1 in
          fails_first caller m.state first rest why all (subst (FailsByStore caller m.state first) same (truncs_fail caller known.room m first other (legal_first m first rest all) s container lists))
      by_value first rest (Ok ts) all lists on = absurd (no_ok (record { room = known.room; writers = sofar; truncs = ts }) why on.1)

  -- ---- the droppings

  reads_end : (ds : List Listed) (sofar : List WriterRead) (m : Moment) (events : List Event) (why : Stuck) → AllByRecursion (IsReadable m) ds → Grows start m → IsSoundAt m → IsContainerAt m known.room → IsLawful m.state events → Runs caller (reads_all known ds sofar) events (Err why) → FailsByStore caller m.state events why
  reads_end [] sofar m events why readable waited s container lawful runs = truncs_end sofar m events why s container lawful runs
  reads_end (d ∷ ds) sofar m events why readable waited s container lawful runs =
      let r = runs_in_two caller (tail_program known.room d (no_tail (cover_of d.writer known.covers))) (on_ok (λ tail. reads_all known ds (sofar ++ read_as known.keeps d tail ∷ []))) events (Err why) runs in
      subst (λ es. FailsByStore caller m.state es why) (sym r.all)
      (by_value (λ w n rest all grows sound holds behind on. reads_end ds (sofar ++ w ∷ []) n rest why all (grows_trans start m n waited grows) sound holds behind on)
      r.first r.rest r.value (subst (IsLawful m.state) r.all lawful) r.runs r.then_runs)
    where
      by_value : ((w : WriterRead) (n : Moment) (rest : List Event) → AllByRecursion (IsReadable n) ds → Grows m n → IsSoundAt n → IsContainerAt n known.room → IsLawful n.state rest → Runs caller (reads_all known ds (sofar ++ w ∷ [])) rest (Err why) → FailsByStore caller n.state rest why)
          → (first rest : List Event) (value : Result Tail Stuck) → IsLawful m.state (first ++ rest) → Runs caller (tail_program known.room d (no_tail (cover_of d.writer known.covers))) first value → Runs caller (on_ok (λ tail. reads_all known ds (sofar ++ read_as known.keeps d tail ∷ [])) value) rest (Err why)
          → FailsByStore caller m.state (first ++ rest) why
      by_value more first rest (Err other) all reads on =
          let same : other ≡ why = same_trouble {R = Contained} other why on.1 in
          fails_first caller m.state first rest why all (subst (FailsByStore caller m.state first) same
          (tail_fails caller known.room d readable.0.named m (cover_of d.writer known.covers) first other s readable.0.stood (legal_first m first rest all) (covered m s waited d readable.0.stood) reads))
      by_value more first rest (Ok tail) all reads on =
          let here = legal_first m first rest all in
          let n : Moment = moment_after m first in
          let grows : Grows m n = grows_after m first here s in
          fails_rest caller m.state first rest why all
          (subst (λ st. FailsByStore caller st rest why) (follows m first).0
          (more (read_as known.keeps d tail) n rest (all_later m n ds grows readable.1) grows (sound_after m first here s) (container_later m n known.room grows container) (legal_rest m first rest all) on))

  -- ---- all

  pub contained_fails : (m : Moment) (events : List Event) (why : Stuck) → Grows start m → IsSoundAt m → IsContainerAt m known.room → IsLawful m.state events → Runs caller (contained_program known) events (Err why) → FailsByStore caller m.state events why
  contained_fails m events why waited s container lawful runs =
      let r = runs_in_two caller (scan_program known.room) (on_ok (reads_listed known)) events (Err why) runs in
      subst (λ es. FailsByStore caller m.state es why) (sym r.all) (by_value r.first r.rest r.value (subst (IsLawful m.state) r.all lawful) r.runs r.then_runs)
    where
      by_value : (first rest : List Event) (value : Result Listing Stuck) → IsLawful m.state (first ++ rest) → Runs caller (scan_program known.room) first value → Runs caller (on_ok (reads_listed known) value) rest (Err why) → FailsByStore caller m.state (first ++ rest) why
      by_value first rest (Err other) all scans on =
          let same : other ≡ why = same_trouble {R = Contained} other why on.1 in
          fails_first caller m.state first rest why all (subst (FailsByStore caller m.state first) same (top_fails caller known.room 0 no_flat m first other s container tt (legal_first m first rest all) scans))
      by_value first rest (Ok listing) all scans on =
          let here = legal_first m first rest all in
          let n : Moment = moment_after m first in
          let sound : IsSoundAt n = sound_after m first here s in
          let grows : Grows m n = grows_after m first here s in
          let t = top_run caller known.room 0 no_flat m first listing here s scans in
          let l : AreListed known.room t.found listing.droppings = t.droppings in
          let found = scan_finds caller known.room m n (calls_of caller first) t.found (seen caller m first here s) sound t.scans in
          let readable : AllByRecursion (IsReadable n) listing.droppings = all_by (IsReadable n) listing.droppings (λ d a. record {
            named = all_at (λ (x : Listed). IsNamed (in_room known.room x)) listing.droppings d l.named a;
            stood = (all_at (λ (x : Dropping). (x.room ≡ known.room) × Stood n x) t.found (in_room known.room d) found.stood (among t.found (in_room known.room d) (all_at (λ (x : Listed). IsAmong (in_room known.room x) t.found) listing.droppings d l.each a))).1;
          }) in
          fails_rest caller m.state first rest why all
          (subst (λ st. FailsByStore caller st rest why) (follows m first).0
          (reads_end listing.droppings [] n rest why readable (grows_trans start m n waited grows) sound (container_later m n known.room grows container) (legal_rest m first rest all) on))
