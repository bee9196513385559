-- The covers of a flattened index fit its container.
use Rattle.std.proofs.Common.{◌≡◌, ◌<◌, ◌≤◌, ◌+◌, ◌^◌, ℕ, nat_eq, true, false, inl, inr, List, [], ◌∷◌, ◌++◌, length, take, Option, Some, None, Result, Ok, Err, refl, sym, ap, ◌∙◌, arith}
use Rattle.std.specs.Prelude.{if◌then◌else◌}
use Rattle.std.specs.List.{AllByRecursion}
use Rattle.plfs_types.specs.declared.entries.Cover.{Cover}
use Rattle.plfs_types.specs.declared.entries.Entry.{Entry}
use Rattle.plain_file.proofs.Facts.{Among}
use Rattle.flat_format.specs.declared.flat.Flat.{Flat}
use Rattle.flat_format.specs.declared.flat.TheConstants.{COVER_SIZE}
use Rattle.flat_format.specs.Spelling.{SpellsFlat, flat_spelling}
use Rattle.flat_format.specs.Valid.{IsFlat}
use Rattle.flat_format.proofs.Facts.{valid_spells}
use Rattle.mount_model.specs.declared.reply.Reply.{Reply}
use Rattle.mount_model.specs.declared.reply.Reply.TheVariants.{Done, Started as Begun}
use Rattle.mount_model.specs.History.{Event}
use Rattle.mount_sound.specs.Entries.{last_stamp, logged}
use Rattle.mount_sound.specs.Flats.{IsCovered, covered_entries}
use Rattle.mount_sound.specs.Owed.{IsLawful}
use Rattle.mount_sound.specs.There.{landed_entries}
use Rattle.mount_model.specs.declared.stuck.Stuck.{Stuck}
use Rattle.mount_model.specs.Running.{Runs}
use Rattle.mount_model.specs.FlowReplies.{Tries, failure, on_ok}
use Rattle.index_reader.specs.declared.listing.Dropping.{Dropping as Listed}
use Rattle.index_reader.specs.declared.listing.Listing.{Listing}
use Rattle.index_reader.specs.Found.{item_of}
use Rattle.index_reader.specs.Opening.{no_flat, scan_program}
use Rattle.flatten_core.specs.declared.starting.Started.{Started}
use Rattle.flatten_core.specs.Covered.{covered, or_place}
use Rattle.flatten_core.specs.Installing.{done_or, if_done}
use Rattle.flatten_core.specs.Starting.{begun}
use Rattle.reader_laws.specs.Moments.{Dropping, IsSoundAt, Moment, Stood, moment_after}
use Rattle.reader_laws.specs.Seen.{calls_of}
use Rattle.reader_laws.specs.GatheringListing.{AreFound}
use Rattle.plfs_types.specs.Places.{IsAmong}
use Rattle.reader_laws.proofs.Gathered.Facts.{alike, all_at, among, few_covers, its_writers, scan_finds, seen, sound_after, stands}
use Rattle.reader_laws.specs.Sharing.{in_room}
use Rattle.reader_laws.proofs.Facts.{HasTop, top_run}

-- ---- replies

pub went_ok : {A R : Type 0} (result : Result A Stuck) (next : A → Tries R) (n : ℕ) (events : List Event) (out : R) → Runs n (on_ok next result) events (Ok out) → (a : A) × (result ≡ Ok a) × Runs n (next a) events (Ok out)
went_ok (Ok a) next n events out made = (a, refl, made)
went_ok {A} {R} (Err why) next n events out made = (let clash : ◌≡◌ {A = Result R Stuck} (Err why) (Ok out) = made.1 in absurd (cc))

pub went_done : (reply : Reply) (next : Tries (Unit {0})) (n : ℕ) (later : List Event) (u : Unit {0}) → Runs n (if_done next reply) later (Ok u) → (reply ≡ Done) × Runs n next later (Ok u)
went_done Done next n later u made = (refl, made)
went_done reply next n later u made = (let clash : ◌≡◌ {A = Result (Unit {0}) Stuck} (Err (failure reply)) (Ok u) = made.1 in absurd (cc))

pub was_done : (reply : Reply) (u : Unit {0}) → done_or reply ≡ Ok u → reply ≡ Done
was_done Done u e = refl
was_done reply u e = (let clash : ◌≡◌ {A = Result (Unit {0}) Stuck} (Err (failure reply)) (Ok u) = e in absurd (cc))

pub was_begun : (room : ℕ) (reply : Reply) (started : Started) → begun room reply ≡ Ok started → (reply ≡ Begun started.flat) × (started.room ≡ room)
was_begun room (Begun flat) started e =
    let same : ◌≡◌ {A = Started} (record { room = room; flat = flat }) started = ok_same (record { room = room; flat = flat }) started e in
    (ap (λ (s : Started). Begun s.flat) same, ap (λ (s : Started). s.room) (sym same))
  where
    ok_same : (a b : Started) → ◌≡◌ {A = Result Started Stuck} (Ok a) (Ok b) → a ≡ b
    ok_same a b k = cc
was_begun room reply started e = (let clash : ◌≡◌ {A = Result Started Stuck} (Err (failure reply)) (Ok started) = e in absurd (cc))

-- ---- the covers of an index fit

-- an item that is found is one of them, of this writer
item_found : (w : ℕ) (ds : List Listed) (d : Listed) → item_of (λ (x : Listed). x.writer) w ds ≡ Some d → Among d ds × (d.writer ≡ w)
item_found w [] d e = absurd (cc)
item_found w (x ∷ ds) d e = of (nat_eq x.writer w) refl e (λ k. item_found w ds d k)
  where
    of : (b : _) → nat_eq x.writer w ≡ b → (if b then Some x else item_of (λ (y : Listed). y.writer) w ds) ≡ Some d → (item_of (λ (y : Listed). y.writer) w ds ≡ Some d → Among d ds × (d.writer ≡ w)) → Among d (x ∷ ds) × (d.writer ≡ w)
    of true t k rest = (let same : x ≡ d = cc in (inl (sym same), ap (λ (y : Listed). y.writer) (sym same) ∙ alike x.writer w t))
    of false t k rest = let r = rest k in (inr r.0, r.1)

covers_found : (ds : List Listed) (place : ℕ) (covers : List Cover) (sofar found : List Listed) → covered ds place covers sofar ≡ Ok found → (c : Cover) → Among c covers → (d : Listed) × Among d ds × (d.writer ≡ c.writer)
covers_found ds place [] sofar found e c a = absurd a
covers_found ds place (x ∷ covers) sofar found e c a = of (item_of (λ (d : Listed). d.writer) x.writer ds) refl e (λ d k b. covers_found ds (place + COVER_SIZE) covers (sofar ++ d ∷ []) found k c b) a
  where
    of : (o : Option Listed) → item_of (λ (d : Listed). d.writer) x.writer ds ≡ o → or_place o place (λ d. covered ds (place + COVER_SIZE) covers (sofar ++ d ∷ [])) ≡ Ok found
        → ((d : Listed) → covered ds (place + COVER_SIZE) covers (sofar ++ d ∷ []) ≡ Ok found → Among c covers → (k : Listed) × Among k ds × (k.writer ≡ c.writer)) → Among c (x ∷ covers) → (d : Listed) × Among d ds × (d.writer ≡ c.writer)
    of None is k rest b = absurd (let clash : ◌≡◌ {A = Result (List Listed) ℕ} (Err place) (Ok found) = k in cc)
    of (Some d) is k rest (inl same) = (let f = item_found x.writer ds d is in (d, f.0, f.1 ∙ ap (λ (y : Cover). y.writer) (sym same)))
    of (Some d) is k rest (inr b) = rest d k b

none_taken : (es : List Entry) → take 0 es ≡ []
none_taken [] = refl
none_taken (e ∷ es) = refl

-- a writer whose index dropping stands has a number of 64 bits, and not 0
writer_fits : (m : Moment) (s : IsSoundAt m) (d : Dropping) → Stood m d → (1 ≤ d.writer) × (d.writer < 2 ^ 64)
writer_fits m s d stood =
    let st = stands m s d stood.bytes stood.is_item stood.there in
    let c : Cover = record { writer = d.writer; count = 0; bytes = 0; stamp = 0 } in
    let none : covered_entries st.room d.host c ≡ [] = none_taken (landed_entries st.room d.host d.writer) in
    let is : IsCovered st.room c = record {
      host = d.host;
      content = stood.bytes;
      stands = record { is_item = stood.is_item; there = st.at };
      kept = omega arith;
      sum = ap logged (sym none);
      latest = ap (last_stamp 0) (sym none);
    } in
    let w = its_writers m s d.room st.room st.there (c ∷ []) (covered_entries st.room d.host c ++ []) (is, ([], refl, refl)) in
    (w.0.0, w.1.0)

fewer : (k : ℕ) → k + 1 ≤ 2 ^ 64 → k < 2 ^ 64
fewer k l = omega (arith, l)

pub spells_so : (index : Flat) → IsFlat index → AllByRecursion (λ (c : Cover). 1 ≤ c.writer) index.covers → AllByRecursion (λ (c : Cover). c.writer < 2 ^ 64) index.covers → SpellsFlat (flat_spelling index) index
spells_so index valid ones small = valid_spells index valid small (fewer (length index.covers) (few_covers 1 index.covers (omega arith) valid.covers ones small))

members : (P : Cover → Type 0) (covers : List Cover) → ((c : Cover) → Among c covers → P c) → AllByRecursion P covers
members P [] f = tt
members P (c ∷ covers) f = (f c (inl refl), members P covers (λ d a. f d (inr a)))

-- the writers of an index whose droppings were found have such numbers
pub scanned_spells : (n room : ℕ) (m : Moment) (events : List Event) (listing : Listing) (index : Flat) (place : ℕ) (found : List Listed) → IsLawful m.state events → IsSoundAt m → Runs n (scan_program room) events (Ok listing) → IsFlat index → covered listing.droppings place index.covers [] ≡ Ok found → SpellsFlat (flat_spelling index) index
scanned_spells n room m events listing index place found lawful sound runs valid is =
    let end : Moment = moment_after m events in
    let s : IsSoundAt end = sound_after m events lawful sound in
    let t : HasTop n room no_flat events listing = top_run n room 0 no_flat m events listing lawful sound runs in
    let f : AreFound m end room t.found = scan_finds n room m end (calls_of n events) t.found (seen n m events lawful sound) s t.scans in
    let its : (c : Cover) → Among c index.covers → (1 ≤ c.writer) × (c.writer < 2 ^ 64) = λ c a.
    (let k = covers_found listing.droppings place index.covers [] found is c a in
    let d : Dropping = in_room room k.0 in
    let there : Among d t.found = among t.found d (all_at (λ (x : Listed). IsAmong (in_room room x) t.found) listing.droppings k.0 t.droppings.each k.1) in
    let w = writer_fits end s d (all_at (λ (x : Dropping). (x.room ≡ room) × Stood end x) t.found d f.stood there).1 in
    (omega (arith, w.0, k.2), omega (arith, w.1, k.2))) in
    spells_so index valid (members (λ (c : Cover). 1 ≤ c.writer) index.covers (λ c a. (its c a).0)) (members (λ (c : Cover). c.writer < 2 ^ 64) index.covers (λ c a. (its c a).1))
