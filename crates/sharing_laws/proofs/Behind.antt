-- What is read behind the listing of a container, however that was found.
use Rattle.std.proofs.Common.{◌≤◌, ◌-◌, ℕ, List, [], ◌∷◌, ◌++◌, Ok, ap, subst}
use Rattle.std.specs.List.{All, AllByRecursion, range_with_len}
use Rattle.std.proofs.lemmas.List.Elements.{All-from_recursion, recursion_from_All}
use Rattle.plfs_types.specs.declared.entries.Trunc.{Trunc}
use Rattle.plain_file.specs.Runs.{AreRuns}
use Rattle.plain_file.proofs.Facts.{Among, All-Among}
use Rattle.mount_model.specs.History.{Event}
use Rattle.mount_sound.specs.Owed.{IsLawful}
use Rattle.mount_model.specs.Running.{Runs}
use Rattle.mount_model.specs.FlowReplies.{Tries}
use Rattle.index_reader.specs.declared.listing.Dropping.{Dropping as Listed}
use Rattle.index_reader.specs.declared.listing.Listing.{Listing}
use Rattle.index_reader.specs.declared.sharing.Share.{Share}
use Rattle.index_reader.specs.Gathered.{pieces_of_each}
use Rattle.index_reader.specs.Sharing.{share_program}
use Rattle.reader_laws.specs.Moments.{Moment, IsNamed, IsSoundAt, moment_after}
use Rattle.reader_laws.specs.Seen.{calls_of}
use Rattle.reader_laws.proofs.Gathered.Facts.{among_left, among_right, legal_first, legal_rest, sound_after}
use Rattle.reader_laws.specs.Listing.{HasListed}
use Rattle.reader_laws.specs.Opened.{HasOpenedIn}
use Rattle.reader_laws.specs.Opening.{Lists, Portion, ReadsInTurn, Work, droppings_of, portions_of, shares_of}
use Rattle.reader_laws.specs.Sharing.{in_room}
use Rattle.reader_laws.proofs.Facts.{listing_run, opens_alone, share_gathered}
use Rattle.gather_flow.specs.OneIndex.{reader_of}
use Rattle.sharing_laws.proofs.Alone.{ReadAll}
use Rattle.sharing_laws.proofs.Dealing.{all_among, all_members, dealt}
use Rattle.sharing_laws.proofs.Listings.{flat_runs}
use Rattle.sharing_laws.proofs.Made.{parts_gathered, parts_of, reader_made}

-- ---- shares

share_runs : (listing : Listing) (k : ℕ) (m : Moment) (events : List Event) (p : Portion) → AllByRecursion (λ (d : Listed). IsNamed (in_room listing.room d)) listing.droppings → ((d : Listed) → Among d p.droppings → Among d listing.droppings) → IsLawful m.state events → IsSoundAt m
    → Runs k (share_program listing.room p.droppings listing.flat.covers) events (Ok p.share) → AreRuns p.share.pieces
share_runs listing k m events p all its lawful sound runs =
    let P : Listed → Type 0 = λ (d : Listed). IsNamed (in_room listing.room d) in
    let named : All P p.droppings = All-from_recursion P p.droppings (all_members P p.droppings (λ d a. All-Among P listing.droppings d all (its d a))) in
    (share_gathered k listing.room m events p.droppings listing.flat.covers p.share lawful sound named runs).2.pieces_are.runs

pub runs_in_turn : (n : ℕ) (listing : Listing) (m : Moment) (portions : List Portion) (events : List Event) → AllByRecursion (λ (d : Listed). IsNamed (in_room listing.room d)) listing.droppings → ((d : Listed) → Among d (droppings_of portions) → Among d listing.droppings) → IsLawful m.state events → IsSoundAt m
    → ReadsInTurn n listing.room listing.flat.covers portions events → AllByRecursion (λ (s : Share). AreRuns s.pieces) (shares_of portions)
runs_in_turn n listing m [] events all its lawful sound reads = tt
runs_in_turn n listing m (p ∷ portions) events all its lawful sound (mine, rest, split, runs, more) =
    let both : IsLawful m.state (mine ++ rest) = subst (IsLawful m.state) split lawful in
    let first = legal_first m mine rest both in (
      share_runs listing n m mine p all (λ d a. its d (among_left d p.droppings (droppings_of portions) a)) first sound runs,
      runs_in_turn n listing (moment_after m mine) portions rest all (λ d a. its d (among_right d p.droppings (droppings_of portions) a)) (legal_rest m mine rest both) (sound_after m mine first sound) more,
    )

pub runs_by_workers : (listing : Listing) (m : Moment) (works : List Work) (events : List Event) → AllByRecursion (λ (d : Listed). IsNamed (in_room listing.room d)) listing.droppings → ((d : Listed) → Among d (droppings_of (portions_of works)) → Among d listing.droppings) → IsLawful m.state events → IsSoundAt m
    → AllByRecursion (λ (w : Work). Runs w.worker (share_program listing.room w.portion.droppings listing.flat.covers) events (Ok w.portion.share)) works → AllByRecursion (λ (s : Share). AreRuns s.pieces) (shares_of (portions_of works))
runs_by_workers listing m [] events all its lawful sound reads = tt
runs_by_workers listing m (w ∷ works) events all its lawful sound reads = (
  share_runs listing w.worker m events w.portion all (λ d a. its d (among_left d w.portion.droppings (droppings_of (portions_of works)) a)) lawful sound reads.0,
  runs_by_workers listing m works events all (λ d a. its d (among_right d w.portion.droppings (droppings_of (portions_of works)) a)) lawful sound reads.1,
)

-- ---- behind a listing

module _ (n : ℕ) (there : Moment) (sound : IsSoundAt there) (program : Tries Listing) (lists : Lists program) (listing : Listing) (scanning : List Event) (scans : Runs n program scanning (Ok listing)) where
  pub was_listed : (rest : List Event) → IsLawful there.state (scanning ++ rest) → HasListed listing (calls_of n scanning)
  was_listed rest lawful = listing_run n program there scanning listing (legal_first there scanning rest lawful) sound lists scans

  -- the pieces of what was read are in order
  pub pieces_run : (rest : List Event) (shares : List Share) → IsLawful there.state (scanning ++ rest) → AllByRecursion (λ (s : Share). AreRuns s.pieces) shares → AllByRecursion AreRuns (listing.flat.pieces ∷ pieces_of_each shares)
  pieces_run rest shares lawful all = (flat_runs n there listing scanning (was_listed rest lawful) (legal_first there scanning rest lawful) sound, of shares all)
    where
      of : (ss : List Share) → AllByRecursion (λ (s : Share). AreRuns s.pieces) ss → AllByRecursion AreRuns (pieces_of_each ss)
      of [] a = tt
      of (s ∷ ss) a = (a.0, of ss a.1)

  pub all_named : (rest : List Event) → IsLawful there.state (scanning ++ rest) → AllByRecursion (λ (d : Listed). IsNamed (in_room listing.room d)) listing.droppings
  all_named rest lawful = recursion_from_All (λ (d : Listed). IsNamed (in_room listing.room d)) listing.droppings (was_listed rest lawful).droppings.named

  -- the caller that read all shares by itself, and then listed the truncates, could have opened a reader of them
  pub alone_opened : {R : Type 0} (makes : Listing → List Share → List Trunc → R) (workers : ℕ) (mine : List Event) (made : R) → 1 ≤ workers → IsLawful there.state (scanning ++ mine) → (r : ReadAll makes n workers listing (range_with_len 0 (workers - 0)) [] mine (Ok made))
      → HasOpenedIn n there (scanning ++ mine) (reader_of listing (shares_of r.portions) r.opened.truncs)
  alone_opened makes workers mine made some lawful r =
      let h = was_listed mine lawful in
      let middle : Moment = moment_after there scanning in
      let parted : IsLawful middle.state (r.gathering ++ r.rest) = subst (IsLawful middle.state) r.split (legal_rest there scanning mine lawful) in
      let its : (d : Listed) → Among d (droppings_of r.portions) → Among d listing.droppings = λ d a. all_among workers listing.droppings (range_with_len 0 (workers - 0)) d (subst (Among d) r.dealt a) in
      let all = runs_in_turn n listing middle r.portions r.gathering (all_named mine lawful) its (legal_first middle r.gathering r.rest parted) (sound_after there scanning (legal_first there scanning mine lawful) sound) r.reads in
      let shares : List Share = shares_of r.portions in
      let truncs : List Trunc = r.opened.truncs in
      let runs = pieces_run mine shares lawful all in
      opens_alone n there (scanning ++ mine) listing r.portions truncs (parts_of listing shares truncs) (reader_of listing shares truncs) lawful sound (record {
        program = program;
        lists = lists;
        scanning = scanning;
        gathering = r.gathering;
        listing_truncs = r.rest;
        split = ap (λ z. scanning ++ z) r.split;
        scans = scans;
        dealt = dealt workers listing.droppings r.portions some h.droppings.ascend r.dealt;
        reads = r.reads;
        truncates = r.opened.runs;
      }) (parts_gathered listing shares truncs runs) (reader_made listing shares truncs runs)
