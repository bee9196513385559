-- What every listing of a container that was found by its name has.
use Rattle.std.proofs.Common.{◌≡◌, ℕ, List, [], ◌∷◌, ◌++◌, Option, Some, None, Result, Ok, Err, refl, sym, ap, ◌∙◌, subst}
use Rattle.turn_object.specs.Callers.{made_by}
use Rattle.mount_model.specs.Program.{done, ask, followed_by}
use Rattle.mount_model.specs.Calls.{AreCallsOf}
use Rattle.container_layout.specs.Paths.{hostdir_of}
use Rattle.flat_format.specs.declared.flat.Flat.{Flat}
use Rattle.mount_model.specs.declared.call.Call.TheVariants.{Find}
use Rattle.mount_model.specs.declared.reply.Reply.{Reply}
use Rattle.mount_model.specs.declared.reply.Reply.TheVariants.{Room}
use Rattle.mount_model.specs.Paths.{Name}
use Rattle.mount_model.specs.History.{Event}
use Rattle.mount_model.specs.declared.stuck.Stuck.{Stuck}
use Rattle.mount_model.specs.Running.{unbroken, asking, Runs}
use Rattle.mount_model.specs.FlowReplies.{Tries, given, on_ok, room_in, names_in}
use Rattle.index_reader.specs.declared.listing.Listing.{Listing}
use Rattle.index_reader.specs.declared.scanning.Scan.{Scan}
use Rattle.index_reader.specs.Newest.{newest_in}
use Rattle.index_reader.specs.Opening.{no_flat, flat_program, uncovered, lone_pack, listing_of, unless_uncovered, unless_lone, listed, scans, top_program, if_newest, open_at_program, open_read_program}
use Rattle.index_reader.specs.Scanning.{nothing_found, scanned}
use Rattle.index_reader.specs.Tops.{top_shows}
use Rattle.reader_laws.proofs.Facts.{first_of}

-- ---- results of a program

module _ {R : Type 0} (P : R → Type 0) where
  -- where it ends well, its result is such
  abbrev pub IsSuch : Result R Stuck → Type 0
  IsSuch (Ok r) = P r
  IsSuch (Err why) = Unit {0}

  abbrev pub Gives : Tries R → Type 0
  Gives (done result) = IsSuch result
  Gives (ask call k) = (reply : Reply) → Gives (k reply)

  gives_given : {A : Type 0} (found : Option A) (why : Stuck) (next : A → Tries R) → ((a : A) → Gives (next a)) → Gives (given found why next)
  gives_given None why next all = tt
  gives_given (Some a) why next all = all a

  gives_on : {A : Type 0} (next : A → Tries R) (result : Result A Stuck) → ((a : A) → Gives (next a)) → Gives (on_ok next result)
  gives_on next (Ok a) all = all a
  gives_on next (Err why) all = tt

  gives_then : {A : Type 0} (p : Tries A) (next : A → Tries R) → ((a : A) → Gives (next a)) → Gives (followed_by p (on_ok next))
  gives_then (done result) next all = gives_on next result all
  gives_then {A} (ask call k) next all = λ reply. gives_then (k reply) next all

  pub made_such : (p : Tries R) (calls : List Event) (r : R) → Gives p → AreCallsOf (asking p) calls (Ok r) → P r
  made_such (done result) calls r all made = subst IsSuch made.1 all
  made_such (ask call k) [] r all made = absurd made
  made_such (ask call k) (e ∷ calls) r all made = made_such (k e.reply) calls r (all e.reply) made.1

-- ---- the room

abbrev pub IsOf : ℕ → Listing → Type 0
IsOf room listing = listing.room ≡ room

abbrev item_in : {A : Type 0} → List A → Type 0
item_in {A} items = A

listed_of : (room id : ℕ) (flat : Flat) (scan : Scan) → IsSuch (IsOf room) (listed room id flat scan)
listed_of room id flat scan = covered (uncovered scan.indices 0 flat.covers)
  where
    alone : (found : Option (item_in scan.packs)) → IsSuch (IsOf room) (unless_lone found (Ok (listing_of room flat scan)))
    alone None = refl
    alone (Some o) = tt

    covered : (found : Option ℕ) → IsSuch (IsOf room) (unless_uncovered id found (unless_lone (lone_pack scan.indices scan.packs) (Ok (listing_of room flat scan))))
    covered None = alone (lone_pack scan.indices scan.packs)
    covered (Some index) = tt

scans_of : (room id : ℕ) (flat : Flat) (ks : List ℕ) (scan : Scan) → Gives (IsOf room) (scans room id flat ks scan)
scans_of room id flat [] scan = listed_of room id flat scan
scans_of room id flat (k ∷ ks) scan = λ reply. gives_given (IsOf room) (names_in reply) _ _ (λ names. gives_on (IsOf room) _ (scanned (hostdir_of k) names scan) (λ more. scans_of room id flat ks more))

top_of : (room id : ℕ) (flat : Flat) → Gives (IsOf room) (top_program room id flat)
top_of room id flat = λ reply. gives_given (IsOf room) (names_in reply) _ _ (λ names. gives_on (IsOf room) _ (top_shows names) (λ ks. scans_of room id flat ks nothing_found))

newest_of : (room : ℕ) (found : Option ℕ) → Gives (IsOf room) (if_newest room found)
newest_of room None = top_of room 0 no_flat
newest_of room (Some id) = gives_then (IsOf room) (flat_program room id) (λ flat. top_program room id flat) (λ flat. top_of room id flat)

pub open_at_of : (room : ℕ) → Gives (IsOf room) (open_at_program room)
open_at_of room = λ reply. gives_given (IsOf room) (names_in reply) _ _ (λ names. gives_on (IsOf room) (if_newest room) (newest_in names None) (λ found. newest_of room found))

-- ---- the first call

-- The caller's first call finds the listing's room by the name.
pub record FindsFirst (n : ℕ) (name : Name) (events : List Event) (listing : Listing) : Type 0 where
  pub before : List Event
  pub event : Event
  pub later : List Event
  pub split : events ≡ before ++ event ∷ later
  pub waits : made_by n before ≡ []
  pub own : event.caller ≡ n
  pub asks : event.ask ≡ unbroken (Find name)
  pub told : event.reply ≡ Room listing.room

found_room : (reply : Reply) (room : ℕ) → room_in reply ≡ Some room → reply ≡ Room room
found_room (Room r) room e = let same : r ≡ room = cc in ap Room same
found_room reply room e = absurd (cc)

went_on : {A R : Type 0} (found : Option A) (why : Stuck) (next : A → Tries R) (calls : List Event) (out : R) → AreCallsOf (asking (given found why next)) calls (Ok out) → (a : A) × (found ≡ Some a) × AreCallsOf (asking (next a)) calls (Ok out)
went_on {A} {R} None why next calls out made = (let clash : ◌≡◌ {A = Result R Stuck} (Err why) (Ok out) = made.1 in absurd (cc))
went_on (Some a) why next calls out made = (a, refl, made)

pub finds_first : (n : ℕ) (name : Name) (events : List Event) (listing : Listing) → Runs n (open_read_program name) events (Ok listing) → FindsFirst n name events listing
finds_first n name events listing runs =
    let f = first_of n _ _ events (Ok listing) runs in
    let g = went_on (room_in f.event.reply) _ open_at_program (made_by n f.later) listing f.rest in
    let is : listing.room ≡ g.0 = made_such (IsOf g.0) (open_at_program g.0) (made_by n f.later) listing (open_at_of g.0) g.2 in
    record { before = f.before; event = f.event; later = f.later; split = f.split; waits = f.waits; own = f.by_caller; asks = f.asked; told = found_room f.event.reply g.0 g.1 ∙ ap Room (sym is) }

-- ---- the flattened index
