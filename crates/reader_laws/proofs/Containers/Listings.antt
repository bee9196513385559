-- Who runs the program of a listing has read the newest flattened index and scanned the container.
use Rattle.std.proofs.Common.{◌≡◌, ℕ, zero, suc, ◌+◌, ◌<◌, true, false, List, [], ◌∷◌, ◌++◌, map, Option, Some, None, refl, ap, sym, ◌∙◌, ◌⊎◌, inl, inr, subst, arith}
use Rattle.std.specs.Prelude.{Result, Ok, Err, if◌then◌else◌}
use Rattle.std.specs.List.{All, Any, AllByRecursion, range_with_len}
use Rattle.std.proofs.lemmas.Bool.{cases_Bool, cond-true, cond-false}
use Rattle.std.proofs.lemmas.List.Elements.{All-from_recursion}
use Rattle.plfs_types.specs.declared.names.Path.{Path}
use Rattle.plain_file.proofs.Facts.{Among, All-Among}
use Rattle.container_layout.specs.Paths.{hostdir_of}
use Rattle.flat_format.specs.declared.flat.Flat.{Flat}
use Rattle.mount_model.specs.declared.call.Ask.{Ask}
use Rattle.mount_model.specs.Paths.{Name, flats, metadata, truncs}
use Rattle.mount_model.specs.History.{Event}
use Rattle.mount_sound.specs.Owed.{IsLawful}
use Rattle.turn_object.specs.Callers.{made_by}
use Rattle.mount_model.specs.declared.stuck.Stuck.{Stuck}
use Rattle.mount_model.specs.Running.{Runs}
use Rattle.mount_model.specs.FlowReplies.{Tries, damage, on_ok, names_in, room_in}
use Rattle.mount_model.specs.FlowListed.{file_in}
use Rattle.mount_model.proofs.Flows.Facts.{runs_in_two}
use Rattle.index_reader.specs.declared.listing.Dropping.{Dropping as Listed}
use Rattle.index_reader.specs.declared.listing.Listing.{Listing}
use Rattle.index_reader.specs.declared.scanning.Scan.{Scan}
use Rattle.index_reader.specs.Listing.{AreByWriter}
use Rattle.index_reader.specs.Newest.{newest_in}
use Rattle.index_reader.specs.Opening.{no_flat, flat_program, uncovered, lone_pack, dropping_of, listing_of, unless_uncovered, unless_lone, listed, scans, top_program, if_newest, open_at_program, open_read_program}
use Rattle.index_reader.specs.Scanning.{nothing_found, unless_foreign, scanned}
use Rattle.index_reader.specs.Searching.{same_bytes, has_name}
use Rattle.index_reader.specs.Tops.{access, foreign_at_top, required, shown, top_shows}
use Rattle.container_layout.specs.Paths.{hostdirs}
use Rattle.index_reader.proofs.Facts.{same_bytes-itself, same_bytes-eq}
use Rattle.reader_laws.specs.Moments.{Moment, IsSoundAt, Dropping, IsNamed, moment_after, next_moment}
use Rattle.reader_laws.specs.Seen.{Asked, asked_in, calls_of}
use Rattle.reader_laws.specs.Flats.{IsFlatName, ReadsFlat, covers_of, pieces_of}
use Rattle.mount_model.specs.declared.call.Look.TheVariants.{List as ListFolder}
use Rattle.reader_laws.specs.GatheringListing.{IsListed, ListsHostdirs, IsScan}
use Rattle.plfs_types.specs.Places.{IsAmong}
use Rattle.reader_laws.proofs.Gathered.Facts.{All-append, among, any_found, found_any, is_among, legal_first, legal_rest, seen, sound_after}
use Rattle.reader_laws.specs.Listing.{AreListed, HasListed, IsPackedAs}
use Rattle.reader_laws.specs.Opening.{Lists}
use Rattle.reader_laws.specs.Sharing.{in_room}
use Rattle.reader_laws.proofs.Calls.Calling.{asked_all, calls_append, calls_are, given_so, same_ok, names_given}
use Rattle.reader_laws.proofs.OpenReaders.Cuts.{map_among, among_map}
use Rattle.reader_laws.proofs.Containers.FlatRuns.{part_so, none_named, newest_named, HasFlat, flat_run}
use Rattle.reader_laws.proofs.Containers.NamedPacks.{NamedIn, none_named_in, named_now, named_later, named_then, not_named, all_members, were_packed}
use Rattle.reader_laws.proofs.Calls.Histories.{first_of, calls_from}
use Rattle.reader_laws.proofs.Containers.Scanning.{Owner, dropping, Rise, GoesOnWith, goes_nowhere, goes_both, PacksGoOn, packs_nowhere, packs_both, NameOwner, HasTaken, folder_taken}

-- ---- moments

-- a lawful history is so up to its first call, and from there on
pub record FromFirst (start : Moment) (before : List Event) (e : Event) (later : List Event) : Type 0 where
  pub here : IsSoundAt (moment_after start before)
  pub rest : IsLawful (moment_after start before).state (e ∷ later)
  pub next : IsSoundAt (next_moment (moment_after start before) e)

pub from_first : (start : Moment) (events before : List Event) (e : Event) (later : List Event) → events ≡ before ++ e ∷ later → IsLawful start.state events → IsSoundAt start → FromFirst start before e later
from_first start events before e later split lawful sound =
    let all : IsLawful start.state (before ++ e ∷ later) = subst (IsLawful start.state) split lawful in
    let here : IsSoundAt (moment_after start before) = sound_after start before (legal_first start before (e ∷ later) all) sound in
    let rest = legal_rest start before (e ∷ later) all in
    record { here = here; rest = rest; next = sound_after (moment_after start before) (e ∷ []) (legal_first (moment_after start before) (e ∷ []) later rest) here }

-- ---- names

pub has_true : (name : Name) (names : List Name) → has_name name names ≡ true → Among name names
has_true name [] e = absurd (cc)
has_true name (other ∷ names) e = elim (same_bytes name other) as (λ t. same_bytes name other ≡ t → (if t then true else has_name name names) ≡ true → Among name (other ∷ names)) [
  | true ↦ λ t e. inl (same_bytes-eq name other t)
  | false ↦ λ t e. inr (has_true name names e)
] refl e

has_false : (name : Name) (names : List Name) → has_name name names ≡ false → Among name names → ⊥
has_false name [] e a = absurd a
has_false name (other ∷ names) e a = elim (same_bytes name other) as (λ t. same_bytes name other ≡ t → (if t then true else has_name name names) ≡ false → ⊥) [
  | true ↦ λ t e. (let clash : true ≡ false = e in cc)
  | false ↦ λ t e. either a t (λ b. has_false name names e b)
] refl e
  where
    either : Among name (other ∷ names) → same_bytes name other ≡ false → (Among name names → ⊥) → ⊥
    either (inl same) t later = let itself : same_bytes name other ≡ true = ap (same_bytes name) (sym same) ∙ same_bytes-itself name in let clash : true ≡ false = sym itself ∙ t in cc
    either (inr b) t later = later b

never : {X : Type 0} (x : X) (why : Stuck) → ◌≡◌ {A = Result X Stuck} (Err why) (Ok x) → ⊥
never x why e = cc

required_so : {X : Type 0} (name : Name) (path : Path) (names : List Name) (next : Result X Stuck) (x : X) → required name path names next ≡ Ok x → next ≡ Ok x
required_so {X} name path names next x = elim (has_name name names) as (λ t. (if t then next else Err (damage path 0)) ≡ Ok x → next ≡ Ok x) [ true ↦ λ e. e | false ↦ λ e. absurd (never x (damage path 0) e) ]

foreign_so : {X : Type 0} (folder : Name) (o : Option Name) (next : Result X Stuck) (x : X) → unless_foreign folder o next ≡ Ok x → next ≡ Ok x
foreign_so folder None next x e = e
foreign_so folder (Some name) next x e = absurd (never x (damage (file_in folder name) 0) e)

top_so : (names : List Name) (ks : List ℕ) → top_shows names ≡ Ok ks → ks ≡ shown names hostdirs
top_so names ks made =
    let last : Result (List ℕ) Stuck = Ok (shown names hostdirs) in
    let fourth : Result (List ℕ) Stuck = required truncs (file_in truncs []) names last in
    let third : Result (List ℕ) Stuck = required metadata (file_in metadata []) names fourth in
    let second : Result (List ℕ) Stuck = required flats (file_in flats []) names third in
    let first : Result (List ℕ) Stuck = required access (file_in [] access) names second in
    sym (same_ok (shown names hostdirs) ks
    (required_so truncs (file_in truncs []) names last ks
    (required_so metadata (file_in metadata []) names fourth ks
    (required_so flats (file_in flats []) names third ks
    (required_so access (file_in [] access) names second ks
    (foreign_so [] (foreign_at_top names) first ks made))))))

-- ---- the folders of droppings

record HasScanned (caller room id : ℕ) (flat : Flat) (top : List Name) (ks : List ℕ) (events : List Event) (scan : Scan) (listing : Listing) : Type 0 where
  pub found : List Dropping
  pub lists : ListsHostdirs room top ks (calls_of caller events) found
  pub named : AllByRecursion IsNamed found
  pub last : Scan
  pub goes : GoesOnWith room scan last found
  pub packs : PacksGoOn scan.packs last.packs (NamedIn room (calls_of caller events))
  pub made : listed room id flat last ≡ Ok listing

scans_run : (caller room id : ℕ) (flat : Flat) (start : Moment) (top : List Name) (ks : List ℕ) (events : List Event) (scan : Scan) (listing : Listing) → IsLawful start.state events → IsSoundAt start → AllByRecursion (λ k. k < 32) ks → Runs caller (scans room id flat (shown top ks) scan) events (Ok listing)
    → HasScanned caller room id flat top ks events scan listing
scans_run caller room id flat start top [] events scan listing lawful sound small runs =
    record {
      found = [];
      lists = (calls_are caller events ∙ ap asked_all runs.0, refl);
      named = tt;
      last = scan;
      goes = goes_nowhere room scan;
      packs = packs_nowhere scan.packs (NamedIn room (calls_of caller events)) (λ o n. none_named_in room o (subst (λ a. NamedIn room a o) (calls_are caller events ∙ ap asked_all runs.0) n));
      made = runs.1;
    }
scans_run caller room id flat start top (k ∷ ks) events scan listing lawful sound small runs = elim (cases_Bool (has_name (hostdir_of k) top)) [
  | inl has ↦
      let here_runs : Runs caller (scans room id flat (k ∷ shown top ks) scan) events (Ok listing) = subst (λ l. Runs caller (scans room id flat l scan) events (Ok listing)) (cond-true (has_name (hostdir_of k) top) (k ∷ shown top ks) (shown top ks) has) runs in
      let f = first_of caller _ _ events (Ok listing) here_runs in
      let e : Event = f.event in
      let m : Moment = moment_after start f.before in
      let p : FromFirst start f.before e f.later = from_first start events f.before e f.later f.split lawful sound in
      let g = given_so (names_in e.reply) _ _ (made_by caller f.later) listing f.rest in
      let names : List Name = g.0 in
      let v = part_so (λ more. scans room id flat (shown top ks) more) (scanned (hostdir_of k) names scan) (made_by caller f.later) listing g.2 in
      let asks = ap (λ (a : Ask). a.call) f.asked in
      let reply = names_given e.reply names g.1 in
      let t : HasTaken room k names scan v.0 = folder_taken room k small.0 names scan v.0 v.1 in
      let h = scans_run caller room id flat (next_moment m e) top ks f.later v.0 listing p.rest.2 p.next small.1 v.2 in
      record {
        found = t.ds ++ h.found;
        lists = (
          asked_in e ∷ [],
          calls_of caller f.later,
          t.ds,
          h.found,
          calls_from caller _ _ events (Ok listing) f,
          refl,
          inr (is_among top (hostdir_of k) (has_true (hostdir_of k) top has), (asked_in e, refl, record { names = names; lists = record { call = asks; reply = reply }; found = t.are })),
          h.lists,
        );
        named = All-append IsNamed t.ds h.found t.named h.named;
        last = h.last;
        goes = goes_both room scan v.0 h.last t.ds h.found t.goes h.goes;
        packs = subst (λ a. PacksGoOn scan.packs h.last.packs (NamedIn room a)) (sym (calls_from caller _ _ events (Ok listing) f))
            (packs_both scan.packs v.0.packs h.last.packs (NameOwner (hostdir_of k) names) (NamedIn room (calls_of caller f.later)) (NamedIn room (asked_in e ∷ calls_of caller f.later)) t.packs h.packs
            (λ o n. named_now room k names (asked_in e) (calls_of caller f.later) o asks reply n) (λ o n. named_later room (asked_in e) (calls_of caller f.later) o n) (λ o n. named_then room k names (asked_in e) (calls_of caller f.later) o asks reply n));
        made = h.made;
      }
  | inr lacks ↦
      let here_runs : Runs caller (scans room id flat (shown top ks) scan) events (Ok listing) = subst (λ l. Runs caller (scans room id flat l scan) events (Ok listing)) (cond-false (has_name (hostdir_of k) top) (k ∷ shown top ks) (shown top ks) lacks) runs in
      let h = scans_run caller room id flat start top ks events scan listing lawful sound small.1 here_runs in
      record {
        found = h.found;
        lists = ([], calls_of caller events, [], h.found, refl, refl, inl (λ a. has_false (hostdir_of k) top lacks (among top (hostdir_of k) a), refl, refl), h.lists);
        named = h.named;
        last = h.last;
        goes = h.goes;
        packs = h.packs;
        made = h.made;
      }
]

-- ---- what was listed

uncovered_so : {X : Type 0} (id : ℕ) (o : Option ℕ) (next : Result X Stuck) (x : X) → unless_uncovered id o next ≡ Ok x → next ≡ Ok x
uncovered_so id None next x e = e
uncovered_so id (Some index) next x e = absurd (cc)

lone_so : {X : Type 0} (o : Option Owner) (next : Result X Stuck) (x : X) → unless_lone o next ≡ Ok x → next ≡ Ok x
lone_so None next x e = e
lone_so (Some p) next x e = absurd (cc)

lone_none : {X : Type 0} (o : Option Owner) (next : Result X Stuck) (x : X) → unless_lone o next ≡ Ok x → o ≡ None
lone_none None next x e = refl
lone_none (Some p) next x e = absurd (cc)

-- what was listed is of what was found, and no packed index stands alone
record IsListingOf (room : ℕ) (flat : Flat) (scan : Scan) (listing : Listing) : Type 0 where
  pub is : listing_of room flat scan ≡ listing
  pub none_lone : lone_pack scan.indices scan.packs ≡ None

listed_so : (room id : ℕ) (flat : Flat) (scan : Scan) (listing : Listing) → listed room id flat scan ≡ Ok listing → IsListingOf room flat scan listing
listed_so room id flat scan listing made =
    let told : Result Listing Stuck = Ok (listing_of room flat scan) in
    let covered = uncovered_so id (uncovered scan.indices 0 flat.covers) (unless_lone (lone_pack scan.indices scan.packs) told) listing made in
    record {
      is = same_ok (listing_of room flat scan) listing (lone_so (lone_pack scan.indices scan.packs) told listing covered);
      none_lone = lone_none (lone_pack scan.indices scan.packs) told listing covered;
    }

ascending : (packs owners : List Owner) → Rise owners → AreByWriter (map (dropping_of packs) owners)
ascending packs [] rise = tt
ascending packs (o ∷ owners) rise = (All-from_recursion (λ later. o.writer < later) (map (λ (d : Listed). d.writer) (map (dropping_of packs) owners)) (above owners rise.0), ascending packs owners rise.1)
  where
    above : (os : List Owner) → AllByRecursion (λ (p : Owner). o.writer < p.writer) os → AllByRecursion (λ later. o.writer < later) (map (λ (d : Listed). d.writer) (map (dropping_of packs) os))
    above [] all = tt
    above (p ∷ os) all = (all.0, above os all.1)

were_listed : (room : ℕ) (found : List Dropping) (last : Scan) → GoesOnWith room nothing_found last found → AllByRecursion IsNamed found → AreListed room found (map (dropping_of last.packs) last.indices)
were_listed room found last goes named =
    let listed_ : List Listed = map (dropping_of last.packs) last.indices in
    let its : (d : Listed) → Among d listed_ → (o : Owner) × Among o last.indices × (d ≡ dropping_of last.packs o) = λ d a. map_among (dropping_of last.packs) last.indices d a in
    let in_found : (o : Owner) → Among o last.indices → Among (dropping room o) found = λ o a. only o (All-Among (λ (p : Owner). Among p [] ⊎ Among (dropping room p) found) last.indices o goes.from a) in
    record {
      ascend = ascending last.packs last.indices (goes.rise tt);
      each = all_members (λ (d : Listed). IsAmong (in_room room d) found) listed_ (λ d a. (let o = its d a in subst (λ x. IsAmong (in_room room x) found) (sym o.2) (is_among found (dropping room o.0) (in_found o.0 o.1))));
      all = all_members (λ (f : Dropping). Any (λ (d : Listed). in_room room d ≡ f) listed_) found (λ f a.
          let o = All-Among (λ (d : Dropping). (p : Owner) × Among p last.indices × (dropping room p ≡ d)) found f goes.found a in
          found_any (λ (d : Listed). in_room room d ≡ f) listed_ (dropping_of last.packs o.0) (among_map (dropping_of last.packs) last.indices o.0 o.1) o.2);
      named = all_members (λ (d : Listed). IsNamed (in_room room d)) listed_ (λ d a. (let o = its d a in subst (λ x. IsNamed (in_room room x)) (sym o.2) (All-Among IsNamed found (dropping room o.0) named (in_found o.0 o.1))));
    }
  where
    only : (o : Owner) → Among o [] ⊎ Among (dropping room o) found → Among (dropping room o) found
    only o (inl a) = absurd a
    only o (inr a) = a

-- ---- the top, and all behind it

pub record HasTop (caller room : ℕ) (flat : Flat) (events : List Event) (listing : Listing) : Type 0 where
  pub found : List Dropping
  pub scans : IsScan room found (calls_of caller events)
  pub room_is : listing.room ≡ room
  pub flat_is : listing.flat ≡ flat
  pub droppings : AreListed room found listing.droppings
  pub packs : All (IsPackedAs room (calls_of caller events)) listing.droppings

pub range_below : (from n : ℕ) → AllByRecursion (λ k. k < from + n) (range_with_len from n)
range_below from zero = tt
range_below from (suc n) = (omega arith, wider (range_with_len (from + 1) n) (range_below (from + 1) n))
  where
    wider : (ks : List ℕ) → AllByRecursion (λ k. k < from + 1 + n) ks → AllByRecursion (λ k. k < from + suc n) ks
    wider [] all = tt
    wider (k ∷ ks) all = (omega (arith, all.0), wider ks all.1)

pub top_run : (caller room id : ℕ) (flat : Flat) (start : Moment) (events : List Event) (listing : Listing) → IsLawful start.state events → IsSoundAt start → Runs caller (top_program room id flat) events (Ok listing) → HasTop caller room flat events listing
top_run caller room id flat start events listing lawful sound runs =
    let f = first_of caller _ _ events (Ok listing) runs in
    let e : Event = f.event in
    let p : FromFirst start f.before e f.later = from_first start events f.before e f.later f.split lawful sound in
    let g = given_so (names_in e.reply) _ _ (made_by caller f.later) listing f.rest in
    let names : List Name = g.0 in
    let v = part_so (λ ks. scans room id flat ks nothing_found) (top_shows names) (made_by caller f.later) listing g.2 in
    let on : Runs caller (scans room id flat (shown names hostdirs) nothing_found) f.later (Ok listing) = subst (λ ks. Runs caller (scans room id flat ks nothing_found) f.later (Ok listing)) (top_so names v.0 v.1) v.2 in
    let h = scans_run caller room id flat (next_moment (moment_after start f.before) e) names hostdirs f.later nothing_found listing p.rest.2 p.next (range_below 0 32) on in
    let of = listed_so room id flat h.last listing h.made in
    let is : listing_of room flat h.last ≡ listing = of.is in
    let asks = ap (λ (a : Ask). a.call) f.asked in
    let top : PacksGoOn [] h.last.packs (NamedIn room (asked_in e ∷ calls_of caller f.later)) = record {
      from = λ o a. elim (h.packs.from o a) as (λ _. Among o [] ⊎ NamedIn room (asked_in e ∷ calls_of caller f.later) o) [ inl before ↦ inl before | inr n ↦ inr (named_later room (asked_in e) (calls_of caller f.later) o n) ];
      kept = h.packs.kept;
      found = λ o n. h.packs.found o (not_named room (asked_in e) (calls_of caller f.later) o asks n);
    } in
    let packs : PacksGoOn [] h.last.packs (NamedIn room (calls_of caller events)) = subst (λ a. PacksGoOn [] h.last.packs (NamedIn room a)) (sym (calls_from caller _ _ events (Ok listing) f)) top in
    record {
      found = h.found;
      scans = record {
        first = asked_in e;
        rest = calls_of caller f.later;
        calls = calls_from caller _ _ events (Ok listing) f;
        top = names;
        lists = record { call = ap (λ (a : Ask). a.call) f.asked; reply = names_given e.reply names g.1 };
        hostdirs = h.lists;
      };
      room_is = ap (λ (l : Listing). l.room) (sym is);
      flat_is = ap (λ (l : Listing). l.flat) (sym is);
      droppings = subst (λ (l : Listing). AreListed room h.found l.droppings) is (were_listed room h.found h.last h.goes h.named);
      packs = subst (λ (l : Listing). All (IsPackedAs room (calls_of caller events)) l.droppings) is (were_packed room (calls_of caller events) h.last (h.goes.rise tt) of.none_lone packs h.found h.goes h.named);
    }

-- ---- the listing

-- a listing of a room of this number
pub record HasListedAt (caller room : ℕ) (events : List Event) (listing : Listing) : Type 0 where
  pub room_is : listing.room ≡ room
  pub flattened : List Asked
  pub scan : List Asked
  pub split : calls_of caller events ≡ flattened ++ scan
  pub flat : Option Flat
  pub reads : ReadsFlat room flat flattened
  pub covers : covers_of flat ≡ listing.flat.covers
  pub pieces : pieces_of flat ≡ listing.flat.pieces
  pub found : List Dropping
  pub scans : IsScan room found scan
  pub droppings : AreListed room found listing.droppings
  pub packs : All (IsPackedAs room scan) listing.droppings

by_newest : (caller room : ℕ) (first : Asked) (names : List Name) (start : Moment) (events later : List Event) (newest : Option ℕ) (listing : Listing) → calls_of caller events ≡ first ∷ calls_of caller later → IsListed room (ListFolder flats) names first → newest_in names None ≡ Ok newest → IsLawful start.state later → IsSoundAt start
    → Runs caller (if_newest room newest) later (Ok listing) → HasListedAt caller room events listing
by_newest caller room first names start events later None listing calls lists newest lawful sound runs =
    let t = top_run caller room 0 no_flat start later listing lawful sound runs in
    record {
      room_is = t.room_is;
      flattened = first ∷ [];
      scan = calls_of caller later;
      split = calls;
      flat = None;
      reads = record { first = first; reads = []; calls = refl; names = names; lists = lists; takes = (none_named names newest, refl) };
      covers = ap (λ (f : Flat). f.covers) (sym t.flat_is);
      pieces = ap (λ (f : Flat). f.pieces) (sym t.flat_is);
      found = t.found;
      scans = t.scans;
      droppings = t.droppings;
      packs = t.packs;
    }
by_newest caller room first names start events later (Some id) listing calls lists newest lawful sound runs =
    let two = runs_in_two caller (flat_program room id) (on_ok (λ flat. top_program room id flat)) later (Ok listing) runs in
    let v = part_so (λ flat. top_program room id flat) two.value (made_by caller two.rest) listing two.then_runs in
    let flat : Flat = v.0 in
    let both : IsLawful start.state (two.first ++ two.rest) = subst (IsLawful start.state) two.all lawful in
    let l1 = legal_first start two.first two.rest both in
    let n = newest_named names id newest in
    let is = (any_found (λ name. IsFlatName name id) names n.named).2.is_item in
    let f : HasFlat caller room id two.first flat = flat_run caller room id start (moment_after start two.first) two.first flat is (seen caller start two.first l1 sound) (subst (λ r. Runs caller (flat_program room id) two.first r) v.1 two.runs) in
    let t = top_run caller room id flat (moment_after start two.first) two.rest listing (legal_rest start two.first two.rest both) (sound_after start two.first l1 sound) v.2 in
    record {
      room_is = t.room_is;
      flattened = first ∷ calls_of caller two.first;
      scan = calls_of caller two.rest;
      split = calls ∙ ap (λ es. first ∷ calls_of caller es) two.all ∙ ap (λ l. first ∷ l) (calls_append caller two.first two.rest);
      flat = Some flat;
      reads = record { first = first; reads = calls_of caller two.first; calls = refl; names = names; lists = lists; takes = (id, f.content, n, f.reads, f.spells) };
      covers = ap (λ (x : Flat). x.covers) (sym t.flat_is);
      pieces = ap (λ (x : Flat). x.pieces) (sym t.flat_is);
      found = t.found;
      scans = t.scans;
      droppings = t.droppings;
      packs = t.packs;
    }

pub at_run : (caller room : ℕ) (start : Moment) (events : List Event) (listing : Listing) → IsLawful start.state events → IsSoundAt start → Runs caller (open_at_program room) events (Ok listing) → HasListedAt caller room events listing
at_run caller room start events listing lawful sound runs =
    let f = first_of caller _ _ events (Ok listing) runs in
    let e : Event = f.event in
    let p : FromFirst start f.before e f.later = from_first start events f.before e f.later f.split lawful sound in
    let g = given_so (names_in e.reply) _ _ (made_by caller f.later) listing f.rest in
    let names : List Name = g.0 in
    let v = part_so (if_newest room) (newest_in names None) (made_by caller f.later) listing g.2 in
    by_newest caller room (asked_in e) names (next_moment (moment_after start f.before) e) events f.later v.0 listing (calls_from caller _ _ events (Ok listing) f)
    (record { call = ap (λ (a : Ask). a.call) f.asked; reply = names_given e.reply names g.1 }) v.1 p.rest.2 p.next v.2

with_earlier : (caller room : ℕ) (earlier : List Asked) (events later : List Event) (listing : Listing) → calls_of caller events ≡ earlier ++ calls_of caller later → HasListedAt caller room later listing → HasListed listing (calls_of caller events)
with_earlier caller room earlier events later listing calls h = record {
  earlier = earlier;
  flattened = h.flattened;
  scan = h.scan;
  split = calls ∙ ap (λ l. earlier ++ l) h.split;
  flat = h.flat;
  reads = subst (λ r. ReadsFlat r h.flat h.flattened) (sym h.room_is) h.reads;
  covers = h.covers;
  pieces = h.pieces;
  found = h.found;
  scans = subst (λ r. IsScan r h.found h.scan) (sym h.room_is) h.scans;
  droppings = subst (λ r. AreListed r h.found listing.droppings) (sym h.room_is) h.droppings;
  packs = subst (λ r. All (IsPackedAs r h.scan) listing.droppings) (sym h.room_is) h.packs;
}

named_run : (caller : ℕ) (name : Name) (start : Moment) (events : List Event) (listing : Listing) → IsLawful start.state events → IsSoundAt start → Runs caller (open_read_program name) events (Ok listing) → HasListed listing (calls_of caller events)
named_run caller name start events listing lawful sound runs =
    let f = first_of caller _ _ events (Ok listing) runs in
    let e : Event = f.event in
    let p : FromFirst start f.before e f.later = from_first start events f.before e f.later f.split lawful sound in
    let g = given_so (room_in e.reply) _ _ (made_by caller f.later) listing f.rest in
    with_earlier caller g.0 (asked_in e ∷ []) events f.later listing (calls_from caller _ _ events (Ok listing) f) (at_run caller g.0 (next_moment (moment_after start f.before) e) f.later listing p.rest.2 p.next g.2)

-- A listing that ended well.
pub listing_run : (caller : ℕ) (program : Tries Listing) (start : Moment) (events : List Event) (listing : Listing) → IsLawful start.state events → IsSoundAt start → Lists program → Runs caller program events (Ok listing) → HasListed listing (calls_of caller events)
listing_run caller program start events listing lawful sound (inl (name, is)) runs = named_run caller name start events listing lawful sound (subst (λ p. Runs caller p events (Ok listing)) is runs)
listing_run caller program start events listing lawful sound (inr (room, is)) runs =
    with_earlier caller room [] events events listing refl (at_run caller room start events listing lawful sound (subst (λ p. Runs caller p events (Ok listing)) is runs))
