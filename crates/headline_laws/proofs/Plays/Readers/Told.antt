-- What the statement that tells of a file shows.
use Rattle.std.proofs.Common.{◌≡◌, inl, inr, ℕ, ◌+◌, ◌-◌, ◌≤◌, Bool, true, false, List, [], ◌∷◌, ◌++◌, length, Option, Some, None, Result, Ok, Err, refl, sym, ap, ◌∙◌, subst, arith, append_assoc}
use Rattle.std.specs.Prelude.{if◌then◌else◌, ◌==◌}
use Rattle.std.specs.List.{All, range_with_len}
use Rattle.std.proofs.lemmas.Bool.Decides.{nat_tests}
use Rattle.plfs_types.specs.declared.entries.Cover.{Cover}
use Rattle.plfs_types.specs.declared.entries.Entry.{Entry}
use Rattle.plfs_types.specs.declared.entries.ShareBytes.{ShareBytes}
use Rattle.plfs_types.specs.declared.entries.Trunc.{Trunc}
use Rattle.index_entry.specs.Entries.{logged}
use Rattle.turn_object.specs.Callers.{made_by}
use Rattle.mount_model.specs.Process.{ends}
use Rattle.mount_model.specs.Plays.{Plays}
use Rattle.mount_model.specs.declared.call.Call.TheVariants.{Find, Greet, Look}
use Rattle.mount_model.specs.declared.call.Look.TheVariants.{List as ListFolder}
use Rattle.mount_model.specs.declared.reply.Reply.{Reply}
use Rattle.mount_model.specs.declared.reply.Reply.TheVariants.{Room}
use Rattle.mount_model.specs.Paths.{Name}
use Rattle.container_layout.specs.Paths.{openhosts}
use Rattle.mount_model.specs.History.{Event}
use Rattle.mount_sound.specs.Owed.{IsLawful}
use Rattle.mount_model.specs.declared.stuck.Stuck.{Stuck}
use Rattle.mount_model.specs.declared.stuck.Stuck.TheVariants as stuck
use Rattle.mount_model.specs.Running.{Runs, unbroken}
use Rattle.mount_model.specs.FlowReplies.{failure, given, on_ok, room_in, Tries}
use Rattle.attr_flow.specs.declared.attr.Attr.{Attr}
use Rattle.attr_flow.specs.declared.attr_flow.AttrOut.{AttrOut}
use Rattle.attr_flow.specs.declared.attr_flow.AttrOut.TheVariants.{Cached, MustMerge}
use Rattle.attr_flow.specs.Asking.{attr_program, attributes, if_open, lists_metadata, lists_open, lists_truncs}
use Rattle.attr_flow.specs.Listings.{is_open}
use Rattle.attr_flow.specs.Shares.{shares_covered, stored_in, with_share}
use Rattle.index_reader.specs.declared.listing.Listing.{Listing}
use Rattle.index_reader.specs.declared.opened.OpenReader.{OpenReader}
use Rattle.index_reader.specs.declared.sharing.Share.{Share}
use Rattle.index_reader.specs.Opening.{open_at_program}
use Rattle.index_reader.specs.Sharing.{covered}
use Rattle.reader_laws.specs.Gathering.{Gathered}
use Rattle.reader_laws.specs.Moments.{Moment, IsSoundAt, moment_after}
use Rattle.reader_laws.specs.Seen.{Asked, calls_of}
use Rattle.reader_laws.specs.View.{own_entries}
use Rattle.reader_laws.proofs.Gathered.Facts.{legal_first, legal_rest, sound_after}
use Rattle.reader_laws.specs.Covering.{counts_in, cover_with, empty_cover}
use Rattle.reader_laws.specs.Opened.{HasOpenedIn}
use Rattle.reader_laws.specs.Opening.{Lists, shares_of}
use Rattle.reader_laws.proofs.Facts.{first_of, listing_fails, shares_fail, truncates_fail}
use Rattle.trouble_laws.specs.Undamaged.{IsNoDamage}
use Rattle.trouble_laws.proofs.Facts.{tell_ends}
use Rattle.gather_flow.specs.OneIndex.{attr_of, reader_of}
use Rattle.gather_flow.specs.Shares.{by_itself, programs_from}
use Rattle.outcomes.specs.Outcomes.{stuck_outcome}
use Rattle.actor_core.specs.declared.kept.Kept.{Kept}
use Rattle.actor_core.specs.declared.kept.Stop.{Stop}
use Rattle.actor_core.specs.Endings.{Ending, stopped, told_of}
use Rattle.actor_core.specs.Telling.{if_asked, if_relisted, tells_by, tells_of_file}
use Rattle.actor_core.specs.Work.{finishes}
use Rattle.sharing_laws.proofs.Facts.{alone_opened, dealt_listed, read_alone, then_made}
use Rattle.headline_laws.specs.Opening.{Stretch}
use Rattle.headline_laws.specs.Showing.{ShowsLook}
use Rattle.look_laws.specs.Shares.{shares_seen}
use Rattle.headline_laws.specs.Telling.{ShowsTold}
use Rattle.headline_laws.proofs.Plays.Readers.Cached.{cached_told}
use Rattle.headline_laws.proofs.Plays.Callers.Carrying.{CourseOf, EndsSo, carried_on, ended_behind, then_told}
use Rattle.headline_laws.proofs.Plays.Callers.Earlier.{opened_earlier}
use Rattle.headline_laws.proofs.Plays.Readers.Listings.{FindsFirst, Gives, IsOf, IsSuch, made_such, open_at_of}
use Rattle.headline_laws.proofs.Plays.Readers.Opened.{HasOpenedFile, file_opened}
use Rattle.headline_laws.proofs.Plays.Callers.Standing.{Both, Next, up_to}

-- ---- troubles behind a listing

plain_fault : (why : Stuck) → why ≡ stuck.Fault → IsNoDamage why
plain_fault why is = subst IsNoDamage (sym is) tt

same_trouble : {R : Type 0} (a b : Stuck) → ◌≡◌ {A = Result R Stuck} (Err a) (Err b) → a ≡ b
same_trouble a b e = cc

no_trouble : {R : Type 0} (a : R) (b : Stuck) → ◌≡◌ {A = Result R Stuck} (Ok a) (Err b) → ⊥
no_trouble a b e = cc

-- a share, or the list of truncates behind them, fails by the store
alone_plain : {R : Type 0} (makes : Listing → List Share → List Trunc → R) (n workers : ℕ) (there : Moment) (program : Tries Listing) (listing : Listing) (scanning mine : List Event) (why : Stuck) → IsLawful there.state (scanning ++ mine) → IsSoundAt there → Lists program
    → Runs n program scanning (Ok listing) → Runs n (by_itself (programs_from workers listing 0) [] (then_made makes listing)) mine (Err why) → IsNoDamage why
alone_plain {R} makes n workers there program listing scanning mine why lawful sound lists scans runs = elim (read_alone makes n workers listing _ [] mine (Err why) runs) as (λ _. IsNoDamage why) [
  | inl r ↦ plain_fault why (truncates_fail n n program there scanning r.gathering r.rest listing why (subst (λ es. IsLawful there.state (scanning ++ es)) r.split lawful) sound lists scans r.opened).0
  | inr f ↦
      let fails = shares_fail n n program there scanning f.between f.reading listing _ f.why (subst (λ es. IsLawful there.state (scanning ++ es)) f.split lawful) sound lists scans (dealt_listed workers f.worker listing.droppings) f.runs in
      plain_fault why (same_trouble {R = R} why f.why f.is ∙ fails.0)
]

-- ---- the bytes of each writer

from_none : (k : ℕ) → 0 + k ≡ k
from_none k = omega arith

some_counted : (n : ℕ) (e : Entry) (es : List Entry) → n ≡ 0 + length (e ∷ es) → (n == 0) ≡ false
some_counted n e es is = (let more : 1 ≤ n = omega (arith, is) in grind (arith, nat_tests))

one_share : (writer : ℕ) (es : List Entry) (covers : List Cover) (shares : List ShareBytes) → shares_covered covers ≡ shares → shares_covered (covered (cover_with (empty_cover writer) es) ++ covers) ≡ with_share writer (logged es) shares
one_share writer [] covers shares e = e
one_share writer (x ∷ es) covers shares e =
    let c : Cover = cover_with (empty_cover writer) (x ∷ es) in
    ap (λ b. shares_covered ((if b then [] else c ∷ []) ++ covers)) (some_counted c.count x es refl) ∙ ap (λ k. with_share writer k (shares_covered covers)) (from_none (logged (x ∷ es))) ∙ ap (with_share writer (logged (x ∷ es))) e

shares_counted : (end : Moment) (cut : List Gathered) → shares_covered (counts_in end cut) ≡ shares_seen end cut
shares_counted end [] = refl
shares_counted end (g ∷ cut) = one_share g.dropping.writer (own_entries end g) (counts_in end cut) (shares_seen end cut) (shares_counted end cut)

-- ---- how the file was found

went_on : {A R : Type 0} (found : Option A) (why : Stuck) (next : A → Tries R) (n : ℕ) (events : List Event) (out : R) → Runs n (given found why next) events (Ok out) → (a : A) × (found ≡ Some a) × Runs n (next a) events (Ok out)
went_on {A} {R} None why next n events out made = (let clash : ◌≡◌ {A = Result R Stuck} (Err why) (Ok out) = made.1 in absurd (cc))
went_on (Some a) why next n events out made = (a, refl, made)

found_room : (reply : Reply) (room : ℕ) → room_in reply ≡ Some room → reply ≡ Room room
found_room (Room r) room e = let same : r ≡ room = cc in ap Room same
found_room reply room e = absurd (cc)

-- The caller's first call found a room by the name, and its next one listed who has it open.
record AskedFirst (n : ℕ) (name : Name) (events : List Event) (out : AttrOut) : Type 0 where
  pub room : ℕ
  pub before : List Event
  pub event : Event
  pub middle : List Event
  pub listing : Event
  pub later : List Event
  pub split : events ≡ before ++ (event ∷ middle ++ listing ∷ later)
  pub waits : made_by n before ≡ []
  pub own : event.caller ≡ n
  pub asks : event.ask ≡ unbroken (Find name)
  pub told : event.reply ≡ Room room
  pub lists : listing.caller ≡ n
  pub looks : listing.ask ≡ unbroken (Look room (ListFolder openhosts))
  pub rest : Runs n (on_ok (if_open room) (is_open listing.reply)) later (Ok out)

asked_first : (n : ℕ) (name : Name) (events : List Event) (out : AttrOut) → Runs n (attr_program name) events (Ok out) → AskedFirst n name events out
asked_first n name events out runs =
    let f = first_of n _ _ events (Ok out) runs in
    let g = went_on (room_in f.event.reply) (failure f.event.reply) lists_open n f.later out f.rest in
    let l = first_of n _ _ f.later (Ok out) g.2 in
    record {
      room = g.0;
      before = f.before;
      event = f.event;
      middle = l.before;
      listing = l.event;
      later = l.later;
      split = f.split ∙ ap (λ z. f.before ++ f.event ∷ z) l.split;
      waits = f.waits;
      own = f.by_caller;
      asks = f.asked;
      told = found_room f.event.reply g.0 g.1;
      lists = l.by_caller;
      looks = l.asked;
      rest = l.rest;
    }

-- ---- whether somebody has it open

module _ (P : AttrOut → Type 0) where
  gives_on : {A : Type 0} (next : A → Tries AttrOut) (result : Result A Stuck) → ((a : A) → Gives P (next a)) → Gives P (on_ok next result)
  gives_on next (Ok a) all = all a
  gives_on next (Err why) all = tt

abbrev IsCached : AttrOut → Type 0
IsCached (Cached attr) = Unit {0}
IsCached (MustMerge room) = ⊥

cached_so : (metas : _) (result : Result (List Trunc) Stuck) → IsSuch IsCached (attributes metas result)
cached_so metas (Ok listed) = tt
cached_so metas (Err why) = tt

metadata_gives : (room : ℕ) → Gives IsCached (lists_metadata room)
metadata_gives room = λ reply. gives_on IsCached (lists_truncs room) _ (λ metas again. cached_so metas _)

same_merge : (a b : ℕ) → ◌≡◌ {A = Result AttrOut Stuck} (Ok (MustMerge a)) (Ok (MustMerge b)) → a ≡ b
same_merge a b e = cc

-- it is that room's index that is to be gathered
merges : (n room other : ℕ) (later : List Event) (result : Result Bool Stuck) → Runs n (on_ok (if_open room) result) later (Ok (MustMerge other)) → room ≡ other
merges n room other later (Ok true) runs = same_merge room other runs.1
merges n room other later (Ok false) runs = absurd (made_such IsCached (lists_metadata room) (made_by n later) (MustMerge other) (metadata_gives room) runs)
merges n room other later (Err why) runs = (let clash : ◌≡◌ {A = Result AttrOut Stuck} (Err why) (Ok (MustMerge other)) = runs.1 in absurd (cc))

module _ (start : Moment) (sound : IsSoundAt start) (n : ℕ) (before greeting : List Event) (greets : All (λ (a : Asked). a.ask.call ≡ Greet) (calls_of n greeting)) (name : Name) where
  abbrev Now : Moment
  Now = moment_after start (before ++ greeting)

  abbrev At : List Event → Stretch
  At mine = record { before = before; events = greeting ++ mine }

  -- its index was gathered
  gathered_told : (room : ℕ) (first scanning mine : List Event) (listing : Listing) (attr : Attr) → Next start (before ++ greeting) (first ++ (scanning ++ mine)) → Runs n (attr_program name) first (Ok (MustMerge room)) → Runs n (open_at_program room) scanning (Ok listing)
      → Runs n (by_itself (programs_from 1 listing 0) [] (tells_by listing)) mine (Ok attr) → ShowsTold start n (At (first ++ (scanning ++ mine))) name attr.size attr.stored attr.shares attr.truncs
  gathered_told room first scanning mine listing attr next runs scans reads =
      let f = asked_first n name first (MustMerge room) runs in
      let there : Moment = moment_after Now first in
      let lawful : IsLawful there.state (scanning ++ mine) = legal_rest Now first (scanning ++ mine) next.lawful in
      let sound_there : IsSoundAt there = sound_after Now first (legal_first Now first (scanning ++ mine) next.lawful) next.sound in
      let of_room : listing.room ≡ room = made_such (IsOf room) (open_at_program room) (made_by n scanning) listing (open_at_of room) scans in
      let its : f.room ≡ listing.room = merges n f.room room f.later (is_open f.listing.reply) f.rest ∙ sym of_room in
      let finds : FindsFirst n name first listing = record { before = f.before; event = f.event; later = f.middle ++ f.listing ∷ f.later; split = f.split; waits = f.waits; own = f.own; asks = f.asks; told = f.told ∙ ap Room its } in
      elim (read_alone attr_of n 1 listing (range_with_len 0 (1 - 0)) [] mine (Ok attr) reads) as (λ _. ShowsTold start n (At (first ++ (scanning ++ mine))) name attr.size attr.stored attr.shares attr.truncs) [
        | inr failed ↦ absurd (no_trouble {R = Attr} attr failed.why failed.is)
        | inl r ↦
            let reader : OpenReader = reader_of listing (shares_of r.portions) r.opened.truncs in
            let opened : HasOpenedIn n there (scanning ++ mine) reader = alone_opened n there sound_there (open_at_program room) (inr (room, refl)) listing scanning scans attr_of 1 mine attr (omega arith) lawful r in
            let whole : HasOpenedIn n Now (first ++ (scanning ++ mine)) reader = opened_earlier n Now first f.before f.event (f.middle ++ f.listing ∷ f.later) (scanning ++ mine) reader next.sound f.split next.lawful f.waits f.own opened in
            let h : HasOpenedFile start n before greeting (first ++ (scanning ++ mine)) name reader = file_opened start n before greeting (first ++ (scanning ++ mine)) first (scanning ++ mine) name listing reader sound next greets refl finds refl whole in
            let shares : attr.shares ≡ shares_seen h.file.moment h.file.cut = ap (λ (a : Attr). a.shares) r.opened.is ∙ ap shares_covered h.keeps.has.covers ∙ shares_counted h.file.moment h.file.cut in (
              h.file,
              h.opens,
              record {
                size_is = ap (λ (a : Attr). a.size) r.opened.is ∙ h.tells.size_is;
                shares_are = shares;
                stored_is = ap (λ (a : Attr). a.stored) r.opened.is ∙ ap stored_in (sym (ap (λ (a : Attr). a.shares) r.opened.is));
                truncates = ap (λ (a : Attr). a.truncs) r.opened.is ∙ h.tells.truncates;
              },
            )
      ]

  -- ---- the statement

  module _ {L : Type 0} (as_line : Ending → L) (next : Kept → CourseOf L) (kept : Kept) (stop : Option Stop) where
    -- the actor keeps its reader, and the line shows so much
    abbrev pub Tells : List Event → Ending → Type 0
    Tells mine e = (e.kept.reader ≡ kept.reader) × ShowsLook start n (At mine) name e.outcome

    abbrev Comes : List Event → List (List Event) → List L → CourseOf L → Type 0
    Comes part ws lines left = EndsSo n as_line next part ws lines left Tells

    behind : (e : Ending) (part first rest : List Event) (ws : List (List Event)) (lines : List L) (left : CourseOf L) → part ≡ first ++ rest → Plays n (then_told as_line next (finishes e)) rest ws lines left → Tells first e → Comes part ws lines left
    behind e part first rest ws lines left is plays tells = ended_behind n as_line next e ends part first rest ws lines left Tells is plays tells

    stopped_tells : (mine : List Event) → Tells mine (stopped kept)
    stopped_tells mine = (refl, tt)

    trouble_shows : (mine : List Event) (why : Stuck) → IsNoDamage why → ShowsLook start n (At mine) name (stuck_outcome why)
    trouble_shows mine stuck.Fault plain = tt
    trouble_shows mine (stuck.Damaged folder file place) plain = absurd plain
    trouble_shows mine (stuck.Refused because) plain = tt

    trouble_tells : (mine : List Event) (why : Stuck) → IsNoDamage why → Tells mine (told_of kept (Err why))
    trouble_tells mine why plain = (refl, trouble_shows mine why plain)

    -- what came of the gathering
    gathered_tells : (room : ℕ) (first scanning mine : List Event) (listing : Listing) (result : Result Attr Stuck) → Next start (before ++ greeting) (first ++ (scanning ++ mine)) → Runs n (attr_program name) first (Ok (MustMerge room)) → Runs n (open_at_program room) scanning (Ok listing)
        → Runs n (by_itself (programs_from 1 listing 0) [] (tells_by listing)) mine result → Tells (first ++ (scanning ++ mine)) (told_of kept result)
    gathered_tells room first scanning mine listing (Ok attr) whole runs scans reads = (refl, gathered_told room first scanning mine listing attr whole runs scans reads)
    gathered_tells room first scanning mine listing (Err why) whole runs scans reads =
        trouble_tells (first ++ (scanning ++ mine)) why
        (alone_plain attr_of n 1 (moment_after Now first) (open_at_program room) listing scanning mine why (legal_rest Now first (scanning ++ mine) whole.lawful) (sound_after Now first (legal_first Now first (scanning ++ mine) whole.lawful) whole.sound) (inr (room, refl)) scans reads)

    -- behind the listing of the container, by whose number it was listed
    relisted : (room : ℕ) (later : Option Stop) (part first : List Event) (result : Result Listing Stuck) (scanning rest : List Event) (ws : List (List Event)) (lines : List L) (left : CourseOf L) → Next start before (greeting ++ part) → part ≡ first ++ (scanning ++ rest)
        → Runs n (attr_program name) first (Ok (MustMerge room)) → Runs n (open_at_program room) scanning result → Plays n (then_told as_line next (if_relisted kept later result)) rest ws lines left → Comes part ws lines left
    relisted room later part first (Err why) scanning rest ws lines left whole is asks runs plays =
        let split : part ≡ (first ++ scanning) ++ rest = is ∙ sym (append_assoc first scanning rest) in
        let b : Both start before greeting (first ++ scanning) = up_to start before greeting part (first ++ scanning) rest whole split in
        let fails = listing_fails n (open_at_program room) (moment_after Now first) scanning why (legal_rest Now first scanning b.next.lawful) (sound_after Now first (legal_first Now first scanning b.next.lawful) b.next.sound) (inr (room, refl)) runs in
        behind (told_of kept (Err why)) part (first ++ scanning) rest ws lines left split plays
        (trouble_tells (first ++ scanning) why (elim fails as (λ _. IsNoDamage why) [ inl fault ↦ plain_fault why fault.0 | inr lacks ↦ subst IsNoDamage (sym lacks) tt ]))
    relisted room later part first (Ok listing) scanning rest ws lines left whole is asks runs plays =
        elim (carried_on n as_line next (by_itself (programs_from 1 listing 0) [] (tells_by listing)) later (λ again result. finishes (told_of kept result)) (finishes (stopped kept)) rest ws lines left plays) as (λ _. Comes part ws lines left) [
          | inl r ↦
              let inner : part ≡ (first ++ (scanning ++ r.mine)) ++ r.rest = is ∙ ap (λ z. first ++ (scanning ++ z)) r.all ∙ ap (λ z. first ++ z) (sym (append_assoc scanning r.mine r.rest)) ∙ sym (append_assoc first (scanning ++ r.mine) r.rest) in
              let b : Both start before greeting (first ++ (scanning ++ r.mine)) = up_to start before greeting part (first ++ (scanning ++ r.mine)) r.rest whole inner in
              behind (told_of kept r.result) part (first ++ (scanning ++ r.mine)) r.rest ws lines left inner r.goes_on (gathered_tells room first scanning r.mine listing r.result b.next asks runs r.runs)
          | inr h ↦
              behind (stopped kept) part (first ++ (scanning ++ h.mine)) h.rest ws lines left
              (is ∙ ap (λ z. first ++ (scanning ++ z)) h.all ∙ ap (λ z. first ++ z) (sym (append_assoc scanning h.mine h.rest)) ∙ sym (append_assoc first (scanning ++ h.mine) h.rest)) h.goes_on (stopped_tells (first ++ (scanning ++ h.mine)))
        ]

    asked : (later : Option Stop) (part first : List Event) (result : Result AttrOut Stuck) (rest : List Event) (ws : List (List Event)) (lines : List L) (left : CourseOf L) → Next start before (greeting ++ part) → part ≡ first ++ rest → Runs n (attr_program name) first result
        → Plays n (then_told as_line next (if_asked kept later result)) rest ws lines left → Comes part ws lines left
    asked later part first (Err why) rest ws lines left whole is runs plays =
        let b : Both start before greeting first = up_to start before greeting part first rest whole is in
        behind (told_of kept (Err why)) part first rest ws lines left is plays (trouble_tells first why (tell_ends n name Now.state Now.issued first (Err why) b.next.lawful b.next.sound runs))
    asked later part first (Ok (Cached attr)) rest ws lines left whole is runs plays =
        let b : Both start before greeting first = up_to start before greeting part first rest whole is in
        behind (told_of kept (Ok attr)) part first rest ws lines left is plays
        (refl, cached_told start n before greeting first name attr sound b.next greets runs)
    asked later part first (Ok (MustMerge room)) rest ws lines left whole is runs plays =
        elim (carried_on n as_line next (open_at_program room) later (if_relisted kept) (finishes (stopped kept)) rest ws lines left plays) as (λ _. Comes part ws lines left) [
          | inl r ↦ relisted room r.stop part first r.result r.mine r.rest ws lines left whole (is ∙ ap (λ z. first ++ z) r.all) runs r.runs r.goes_on
          | inr h ↦ behind (stopped kept) part (first ++ h.mine) h.rest ws lines left (is ∙ ap (λ z. first ++ z) h.all ∙ sym (append_assoc first h.mine h.rest)) h.goes_on (stopped_tells (first ++ h.mine))
        ]

    pub look_ends : (part : List Event) (ws : List (List Event)) (lines : List L) (left : CourseOf L) → Next start before (greeting ++ part) → Plays n (then_told as_line next (tells_of_file kept stop name)) part ws lines left → Comes part ws lines left
    look_ends part ws lines left whole plays =
        elim (carried_on n as_line next (attr_program name) stop (if_asked kept) (finishes (stopped kept)) part ws lines left plays) as (λ _. Comes part ws lines left) [
          | inl r ↦ asked r.stop part r.mine r.result r.rest ws lines left whole r.all r.runs r.goes_on
          | inr h ↦ behind (stopped kept) part h.mine h.rest ws lines left h.all h.goes_on (stopped_tells h.mine)
        ]
