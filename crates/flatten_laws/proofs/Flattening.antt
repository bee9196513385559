-- Each call of a flattening may be made.
use Rattle.std.proofs.Common.{◌<◌, ◌≡◌, ℕ, ◌+◌, ◌%◌, ◌==◌, true, false, List, [], ◌∷◌, ◌++◌, map, Option, Some, None, refl, ap, sym, ◌∙◌, inl, inr, subst, arith, append_assoc}
use Rattle.std.specs.Prelude.{Result, Ok, Err, if◌then◌else◌}
use Rattle.std.specs.List.{All, AllByRecursion}
use Rattle.std.proofs.lemmas.Bool.Decides.{nat_tests}
use Rattle.std.proofs.lemmas.List.{append-nil}
use Rattle.std.proofs.lemmas.List.Elements.{All-from_recursion, recursion_from_All}
use Rattle.plfs_types.specs.declared.entries.Trunc.{Trunc}
use Rattle.plain_file.proofs.Facts.{Among}
use Rattle.container_layout.specs.declared.items.Item.TheVariants.{Index}
use Rattle.plain_file.specs.Runs.{ArePieces}
use Rattle.flat_format.specs.declared.flat.Flat.{Flat}
use Rattle.flat_format.specs.declared.flat.TheConstants.{HEAD_SIZE}
use Rattle.flat_format.specs.Spelling.{flat_spelling}
use Rattle.turn_object.specs.Callers.{made_by}
use Rattle.mount_model.specs.declared.stuck.Stuck.{Stuck}
use Rattle.mount_model.specs.Running.{asking, unbroken, Runs}
use Rattle.mount_model.proofs.Flows.Facts.{runs_in_two}
use Rattle.mount_model.specs.Calls.{AreCallsOf}
use Rattle.mount_model.specs.Program.{Program, done, ask, followed_by}
use Rattle.mount_model.specs.Safe.{IsSafe}
use Rattle.mount_model.proofs.Stories.Facts.{entries_both}
use Rattle.mount_model.specs.declared.call.Call.{Call}
use Rattle.mount_model.specs.declared.call.Call.TheVariants.{Find, StartFlat}
use Rattle.mount_model.specs.declared.reply.Reply.{Reply}
use Rattle.mount_model.specs.declared.reply.Reply.TheVariants as reply_of
use Rattle.store_api.specs.declared.step.Answer.TheVariants.{Names}
use Rattle.mount_model.specs.History.{Event, state_after}
use Rattle.mount_model.specs.State.{State}
use Rattle.mount_model.specs.Step.{IsStep}
use Rattle.mount_sound.specs.Ledger.{Ledger}
use Rattle.mount_sound.specs.Items.{HasItem}
use Rattle.mount_sound.specs.Owed.{IsLawful, Permits, StandsInRoom}
use Rattle.mount_sound.specs.Sound.{IsClean, IsFine, IsSoundFor}
use Rattle.mount_sound.proofs.Facts.{was_clean}
use Rattle.mount_model.specs.FlowReplies.{failure, given, on_ok, room_in, Tries, on_ok as then_on_ok}
use Rattle.index_reader.specs.declared.listing.Dropping.{Dropping as Listed}
use Rattle.index_reader.specs.declared.listing.Listing.{Listing}
use Rattle.index_reader.specs.declared.sharing.Share.{Share}
use Rattle.index_reader.specs.Listing.{AreByWriter}
use Rattle.index_reader.specs.Opening.{open_at_program, scan_program}
use Rattle.index_reader.specs.Sharing.{share_program}
use Rattle.index_reader.specs.Truncs.{trunc_program}
use Rattle.index_reader.proofs.Facts.{IsLook, OnlyLooks, listing_looks, share_looks, truncs_looks}
use Rattle.gather_flow.specs.declared.all_read.AllRead.{AllRead}
use Rattle.gather_flow.specs.Dealing.{dealt_to, its_own}
use Rattle.gather_flow.specs.Gathering.{if_truncs_listed, reads_truncs, shares_from}
use Rattle.gather_flow.specs.OneIndex.{flat_of}
use Rattle.flatten_core.specs.declared.flattening.Flattened.{Flattened}
use Rattle.flatten_core.specs.declared.starting.Started.{Started}
use Rattle.flatten_core.specs.Covered.{covered}
use Rattle.flatten_core.specs.Flattening.{flatten_program, flattened, gathers, installs_gathered, installs_index, lists, tells}
use Rattle.flatten_core.specs.Installing.{install_program, syncs_covered, syncs_listed}
use Rattle.flatten_core.specs.Starting.{begins, begun}
use Rattle.reader_laws.specs.Moments.{Moment, IsSoundAt, moment_after}
use Rattle.reader_laws.specs.Seen.{calls_of}
use Rattle.plfs_types.specs.Places.{IsAmong}
use Rattle.reader_laws.proofs.Gathered.Facts.{follows, is_among, legal_first, sound_after}
use Rattle.recovery_laws.proofs.Holds.Facts.{LastsOne, fine_lasts, may_free, safe_ask, safe_free}
use Rattle.recovery_laws.proofs.Facts.{Cleanly, Stays, cleanly_then}
use Rattle.reader_laws.specs.Listing.{HasListed}
use Rattle.reader_laws.specs.Opening.{AreDealt, OpensAlone, Portion, WritersDiffer, droppings_of}
use Rattle.reader_laws.proofs.Facts.{at_run, listing_run}
use Rattle.flatten_laws.proofs.Owns.{all_entries, own_cover}
use Rattle.flatten_laws.proofs.Taken.{EachFirst, IsOfView, IsTaken, viewed_alone, viewed_taken}
use Rattle.flatten_laws.proofs.Scanned.{scanned_stand}
use Rattle.flatten_laws.proofs.Kept.{each_stays}
use Rattle.flatten_laws.proofs.Pairing.{AreOf, ArePaired, all_listed, covered_so, pair}
use Rattle.flatten_laws.proofs.Installing.{IsSyncing, beside_both, beside_stays, safe_syncs}
use Rattle.flatten_laws.proofs.Shared.{grouped, safe_looks}
use Rattle.flatten_laws.proofs.Started.{IsStarted, LastsBeside, beside_lasts, started_lasts, started_so}

-- ---- the programs of a gathering only look

then_looks : {R S : Type 0} (p : Program Call Reply R) (next : R → Program Call Reply S) → ((r : R) → OnlyLooks (next r)) → OnlyLooks p → OnlyLooks (followed_by p next)
then_looks (done r) next goes looks = goes r
then_looks (ask q k) next goes looks = (looks.0, λ reply. then_looks (k reply) next goes (looks.1 reply))

on_ok_looks : {A R : Type 0} (next : A → Tries R) → ((a : A) → OnlyLooks (next a)) → (result : Result A Stuck) → OnlyLooks (then_on_ok next result)
on_ok_looks next goes (Ok a) = goes a
on_ok_looks next goes (Err because) = tt

open_looks : (room : ℕ) → OnlyLooks (open_at_program room)
open_looks room = (listing_looks []).1 (reply_of.Room room)

-- a scan is what follows where there is no flattened index
scan_looks : (room : ℕ) → OnlyLooks (scan_program room)
scan_looks room = (open_looks room).1 (reply_of.Looked (Names []))

truncs_then_look : (listing : Listing) (shares : List Share) → OnlyLooks (reads_truncs listing shares)
truncs_then_look listing shares = then_looks (trunc_program listing.room) (then_on_ok (if_truncs_listed listing shares)) (λ result. on_ok_looks (if_truncs_listed listing shares) (λ truncs. tt) result) (truncs_looks listing.room)

shares_look : (listing : Listing) → OnlyLooks (shares_from 1 listing 0 [])
shares_look listing =
    then_looks (share_program listing.room (dealt_to 1 0 0 listing.droppings) listing.flat.covers) (then_on_ok (λ share. reads_truncs listing ([] ++ share ∷ [])))
    (λ result. on_ok_looks (λ share. reads_truncs listing ([] ++ share ∷ [])) (λ share. truncs_then_look listing ([] ++ share ∷ [])) result)
    (share_looks listing.room (dealt_to 1 0 0 listing.droppings) listing.flat.covers)

-- ---- what a run of them has done

-- one worker has all droppings
one_has_all : (j : ℕ) (ds : List Listed) → dealt_to 1 0 j ds ≡ ds
one_has_all j [] = refl
one_has_all j (d ∷ ds) = ap (λ b. its_own b d ++ dealt_to 1 0 (j + 1) ds) (is_zero j) ∙ ap (λ l. d ∷ l) (one_has_all (j + 1) ds)
  where
    zero_rest : (k : ℕ) → k % 1 ≡ 0
    zero_rest k = omega arith

    is_zero : (k : ℕ) → (k % 1 == 0) ≡ true
    is_zero k = let e : k % 1 ≡ 0 = zero_rest k in rw e refl

-- all was read as one share
pub record ReadsAll (caller : ℕ) (listing : Listing) (events : List Event) (all : AllRead) : Type 0 where
  pub share : Share
  pub truncs : List Trunc
  pub gathering : List Event
  pub listing_truncs : List Event
  pub split : events ≡ gathering ++ listing_truncs
  pub reads : Runs caller (share_program listing.room listing.droppings listing.flat.covers) gathering (Ok share)
  pub lists_them : Runs caller (trunc_program listing.room) listing_truncs (Ok truncs)
  pub is : flat_of listing (share ∷ []) ≡ flat_of all.listed all.shares

runs_more : {R : Type 0} (n : ℕ) (p : Program Call Reply R) (events more : List Event) (out : R) → made_by n more ≡ [] → Runs n p events out → Runs n p (events ++ more) out
runs_more {R} n p events more out none runs = subst (λ (z : List Event). AreCallsOf (asking p) z out) (sym (entries_both n events more ∙ ap (λ z. made_by n events ++ z) none ∙ append-nil (made_by n events))) runs

abbrev stuck_with : {A : Type 0} → Stuck → Tries A
stuck_with why = done (Err why)

never : {A B : Type 0} (caller : ℕ) (why : Stuck) (events : List Event) (out : A) → Runs caller (stuck_with {A = A} why) events (Ok out) → B
never {A} caller why events out runs = absurd (clash why out runs.1)
  where
    clash : (w : Stuck) (x : A) → ◌≡◌ {A = Result A Stuck} (Err w) (Ok x) → ⊥
    clash w x e = cc

same_read : (a b : AllRead) → ◌≡◌ {A = Result AllRead Stuck} (Ok a) (Ok b) → a ≡ b
same_read a b e = cc

module _ (caller : ℕ) (listing : Listing) (all : AllRead) where
  truncs_read : (share : Share) (gathering events : List Event) → Runs caller (share_program listing.room listing.droppings listing.flat.covers) gathering (Ok share) → Runs caller (reads_truncs listing (share ∷ [])) events (Ok all) → ReadsAll caller listing (gathering ++ events) all
  truncs_read share gathering events reads runs =
      let t = runs_in_two caller (trunc_program listing.room) (then_on_ok (if_truncs_listed listing (share ∷ []))) events (Ok all) runs in
      of t.value t.first t.rest t.all t.runs t.then_runs
    where
      of : (value : Result (List Trunc) Stuck) (first rest : List Event) → events ≡ first ++ rest → Runs caller (trunc_program listing.room) first value → Runs caller (then_on_ok (if_truncs_listed listing (share ∷ [])) value) rest (Ok all) → ReadsAll caller listing (gathering ++ events) all
      of (Ok truncs) first rest split mine ended = record {
        share = share;
        truncs = truncs;
        gathering = gathering;
        listing_truncs = events;
        split = refl;
        reads = reads;
        lists_them = subst (λ es. Runs caller (trunc_program listing.room) es (Ok truncs)) (sym split) (runs_more caller (trunc_program listing.room) first rest (Ok truncs) ended.0 mine);
        is = ap (λ (a : AllRead). flat_of a.listed a.shares) (same_read (record { listed = listing; shares = share ∷ []; truncs = truncs }) all ended.1);
      }
      of (Err why) first rest split mine ended = never caller why rest all ended

  pub all_read : (events : List Event) → Runs caller (shares_from 1 listing 0 []) events (Ok all) → ReadsAll caller listing events all
  all_read events runs =
      let program : List Listed → Tries Share = λ ds. share_program listing.room ds listing.flat.covers in
      let t = runs_in_two caller (program (dealt_to 1 0 0 listing.droppings)) (then_on_ok (λ share. reads_truncs listing ([] ++ share ∷ []))) events (Ok all) runs in
      subst (λ es. ReadsAll caller listing es all) (sym t.all) (of t.value t.first t.rest (subst (λ ds. Runs caller (program ds) t.first t.value) (one_has_all 0 listing.droppings) t.runs) t.then_runs)
    where
      of : (value : Result Share Stuck) (first rest : List Event) → Runs caller (share_program listing.room listing.droppings listing.flat.covers) first value → Runs caller (then_on_ok (λ share. reads_truncs listing ([] ++ share ∷ [])) value) rest (Ok all) → ReadsAll caller listing (first ++ rest) all
      of (Ok share) first rest mine on = truncs_read share first rest mine on
      of (Err why) first rest mine on = never caller why rest all on

-- ---- one portion has all that was listed

members : {X : Type 0} (P : X → Type 0) (xs : List X) → ((x : X) → Among x xs → P x) → AllByRecursion P xs
members P [] f = tt
members P (x ∷ xs) f = (f x (inl refl), members P xs (λ y a. f y (inr a)))

differ : (ds : List Listed) → AreByWriter ds → WritersDiffer ds
differ [] rise = tt
differ (d ∷ ds) rise = (of ds (recursion_from_All (λ later. d.writer < later) (map (λ (x : Listed). x.writer) ds) rise.0), differ ds rise.1)
  where
    of : (es : List Listed) → AllByRecursion (λ later. d.writer < later) (map (λ (x : Listed). x.writer) es) → AllByRecursion (λ (e : Listed). e.writer ≡ d.writer → ⊥) es
    of [] above = tt
    of (e ∷ es) above = ((λ is. omega (arith, is, above.0)), of es above.1)

abbrev Listed_all : List Listed → List Listed → Type 0
Listed_all xs ys = All (λ (d : Listed). IsAmong d ys) xs

every : (xs : List Listed) → Listed_all xs xs
every xs = All-from_recursion (λ (d : Listed). IsAmong d xs) xs (members (λ (d : Listed). IsAmong d xs) xs (λ d a. is_among xs d a))

-- what the one worker has was listed
pub one_listed : (ds : List Listed) → All (λ (d : Listed). IsAmong d ds) (dealt_to 1 0 0 ds)
one_listed ds = subst (λ l. Listed_all l ds) (sym (one_has_all 0 ds)) (every ds)

one_portion : (ds : List Listed) (share : Share) → AreByWriter ds → AreDealt ds (record { droppings = ds; share = share } ∷ [])
one_portion ds share rise = record {
  all = subst (λ l. Listed_all ds l) (sym (append-nil ds)) (every ds);
  only = subst (λ l. Listed_all l ds) (sym (append-nil ds)) (every ds);
  once = subst WritersDiffer (sym (append-nil ds)) (differ ds rise);
}

-- what a caller gathers of a container is a cut that it saw
pub gathered_viewed : (caller room : ℕ) (start : Moment) (events more : List Event) (listing : Listing) (all : AllRead) → IsLawful start.state (events ++ more) → IsSoundAt start → Runs caller (open_at_program room) events (Ok listing) → Runs caller (shares_from 1 listing 0 []) more (Ok all)
    → IsOfView caller room (flat_of all.listed all.shares) start (events ++ more)
gathered_viewed caller room start events more listing all whole sound runs reads =
    let first = legal_first start events more whole in
    let r : ReadsAll caller listing more all = all_read caller listing all more reads in
    let h : HasListed listing (calls_of caller events) = listing_run caller (open_at_program room) start events listing first sound (inr (room, refl)) runs in
    let portion : Portion = record { droppings = listing.droppings; share = r.share } in
    let opens : OpensAlone caller (events ++ more) listing (portion ∷ []) r.truncs = record {
      program = open_at_program room;
      lists = inr (room, refl);
      scanning = events;
      gathering = r.gathering ++ [];
      listing_truncs = r.listing_truncs;
      split = ap (λ l. events ++ l) (r.split ∙ ap (λ l. l ++ r.listing_truncs) (sym (append-nil r.gathering)));
      scans = runs;
      dealt = one_portion listing.droppings r.share h.droppings.ascend;
      reads = (r.gathering, [], refl, r.reads, refl);
      truncates = r.lists_them;
    } in
    let seen : IsOfView caller listing.room (flat_of listing (r.share ∷ [])) start (events ++ more) = viewed_alone caller start (events ++ more) listing (portion ∷ []) r.truncs whole sound opens in
    let here : listing.room ≡ room = (at_run caller room start events listing first sound runs).room_is in
    subst (λ index. IsOfView caller room index start (events ++ more)) r.is (subst (λ n. IsOfView caller n (flat_of listing (r.share ∷ [])) start (events ++ more)) here seen)

-- so it is of the first entries of writers, which have landed
pub gathered_taken : (caller room : ℕ) (start : Moment) (events more : List Event) (listing : Listing) (all : AllRead) → IsLawful start.state (events ++ more) → IsSoundAt start → Runs caller (open_at_program room) events (Ok listing) → Runs caller (shares_from 1 listing 0 []) more (Ok all)
    → IsTaken room (flat_of all.listed all.shares) (moment_after start (events ++ more)).state
gathered_taken caller room start events more listing all whole sound runs reads =
    viewed_taken caller room (flat_of all.listed all.shares) start (events ++ more) whole sound (gathered_viewed caller room start events more listing all whole sound runs reads)

-- ---- histories

-- no call of a lawful history changes what was mounted
clean_before : (state : State) (events : List Event) → IsLawful state events → IsClean (state_after state events) → IsClean state
clean_before state [] lawful clean = clean
clean_before state (e ∷ events) lawful clean = was_clean state e.after e.caller e.ask e.reply lawful.1 (clean_before e.after events lawful.2 clean)

joined : (state : State) (xs ys : List Event) → IsLawful state xs → IsLawful (state_after state xs) ys → IsLawful state (xs ++ ys)
joined state [] ys a b = b
joined state (x ∷ xs) ys a b = (a.0, a.1, joined x.after xs ys a.2 b)

after_both : (state : State) (xs ys : List Event) → state_after state (xs ++ ys) ≡ state_after (state_after state xs) ys
after_both state [] ys = refl
after_both state (x ∷ xs) ys = after_both x.after xs ys

taken_stays : (number : ℕ) (index : Flat) → Stays (IsTaken number index)
taken_stays number index l old new other asked reply may step s f = record {
  owns = f.owns;
  are = f.are;
  covers = f.covers;
  valid = f.valid;
  pieces = f.pieces;
  firsts = each_stays number f.owns l old new other asked reply may step s f.firsts;
}

-- ---- the calls

module _ (caller : ℕ) (started : Started) where
  abbrev Begun : State → Type 0
  Begun = IsStarted caller started.room started.flat

  abbrev Gathered : Flat → State → Type 0
  Gathered index state = Begun state × IsTaken started.room index state

  begun_lasts : LastsOne caller (Cleanly Begun)
  begun_lasts = beside_lasts caller Begun (started_lasts caller started.room started.flat)

  gathered_lasts : (index : Flat) → LastsOne caller (Cleanly (Gathered index))
  gathered_lasts index = beside_lasts caller (Gathered index) (beside_both caller Begun (IsTaken started.room index) (started_lasts caller started.room started.flat) (beside_stays caller (IsTaken started.room index) (taken_stays started.room index)))

  -- ---- it is installed

  -- in the end it is told
  abbrev tells_of : Flat → Result (Unit {0}) Stuck → Tries Flattened
  tells_of index = tells (flattened started index)

  tells_safe : (index : Flat) (result : Result (Unit {0}) Stuck) (state : State) → IsSafe IsStep Permits caller (asking (tells_of index result)) state
  tells_safe index (Ok installed) state = tt
  tells_safe index (Err why) state = tt

  module _ (index : Flat) (state : State) (f : Cleanly (Gathered index) state) (events : List Event) (listing : Listing) (lawful : IsLawful state events) (runs : Runs caller (scan_program started.room) events (Ok listing)) (holds : Cleanly (Gathered index) (state_after state events)) where
    syncing : (ds : List Listed) → covered listing.droppings HEAD_SIZE index.covers [] ≡ Ok ds → (l : Ledger) → IsSoundFor l (state_after state events) → IsClean (state_after state events) → IsTaken started.room index (state_after state events) → IsSyncing started.room index ds (state_after state events)
    syncing ds is l s clean taken =
        let now : State = state_after state events in
        let c = covered_so listing.droppings HEAD_SIZE index.covers [] ds is in
        let of : AreOf listing.droppings (map own_cover taken.owns) ds = subst (λ cs. AreOf listing.droppings cs ds) (sym taken.covers) (subst (AreOf listing.droppings index.covers) (sym c.1) c.2) in
        let p : ArePaired ds taken.owns = pair listing.droppings taken.owns ds taken.are of in
        let before = f.0.sound (clean_before state events lawful clean) in
        let start : Moment = record { state = state; issued = before.0 } in
        let same : (moment_after start events).state ≡ now = (follows start events).0 in
        record {
          synced = [];
          owns = p.paired;
          are = p.own;
          theirs = p.theirs;
          covers = p.covers ∙ taken.covers;
          valid = taken.valid;
          pieces = subst (λ es. ArePieces es [] index.pieces) (sym p.entries) taken.pieces;
          covered = tt;
          firsts = p.firsts started.room l now s
              (λ d a. subst (λ (x : State). StandsInRoom x started.room (λ room. (content : List ℕ) × HasItem room (Index d.host d.writer) content)) same
              (scanned_stand caller started.room start events listing lawful before.1 runs d (all_listed listing.droppings (map own_cover taken.owns) ds of d a)))
              taken.firsts;
        }

    found : (result : Result (List Listed) ℕ) → covered listing.droppings HEAD_SIZE index.covers [] ≡ result → IsSafe IsStep Permits caller (asking (followed_by (syncs_covered started.room started.flat (flat_spelling index) result) (tells_of index))) (state_after state events)
    found (Err place) is = tt
    found (Ok ds) is =
        safe_syncs caller started.room started.flat index (tells_of index) (tells_safe index) ds (state_after state events)
        (holds.0, λ clean. let h = holds.1 clean in let s = holds.0.sound clean in (h.0, syncing ds is s.0 s.1 clean h.1))

  safe_installs : (index : Flat) (state : State) → Cleanly (Gathered index) state → IsSafe IsStep Permits caller (asking (installs_index started index)) state
  safe_installs index state f =
      subst (λ (p : Tries Flattened). IsSafe IsStep Permits caller (asking p) state)
      (sym (grouped (scan_program started.room) (on_ok (syncs_listed started.room started.flat index.covers (flat_spelling index))) (tells_of index)))
      (safe_looks caller (Cleanly (Gathered index)) (gathered_lasts index) (λ s h. h.0) (scan_program started.room) (scan_looks started.room)
      (λ result. followed_by (on_ok (syncs_listed started.room started.flat index.covers (flat_spelling index)) result) (tells_of index)) state f went)
    where
      went : (events : List Event) (result : Result Listing Stuck) → IsLawful state events → Runs caller (scan_program started.room) events result → Cleanly (Gathered index) (state_after state events)
          → IsSafe IsStep Permits caller (asking (followed_by (on_ok (syncs_listed started.room started.flat index.covers (flat_spelling index)) result) (tells_of index))) (state_after state events)
      went events (Err why) lawful runs holds = tt
      went events (Ok listing) lawful runs holds = found index state f events listing lawful runs holds (covered listing.droppings HEAD_SIZE index.covers []) refl

  -- ---- it is gathered

  module _ (state : State) (f : Cleanly Begun state) (events : List Event) (listing : Listing) (lawful : IsLawful state events) (runs : Runs caller (open_at_program started.room) events (Ok listing)) where
    -- what is gathered of a clean state is right
    taken : (more : List Event) (all : AllRead) → IsLawful (state_after state events) more → Runs caller (shares_from 1 listing 0 []) more (Ok all) → IsClean (state_after (state_after state events) more) → IsTaken started.room (flat_of all.listed all.shares) (state_after (state_after state events) more)
    taken more all also reads clean =
        let whole : IsLawful state (events ++ more) = joined state events more lawful also in
        let ends : state_after state (events ++ more) ≡ state_after (state_after state events) more = after_both state events more in
        let before = f.0.sound (clean_before state (events ++ more) whole (subst IsClean (sym ends) clean)) in
        let start : Moment = record { state = state; issued = before.0 } in
        let at : (moment_after start (events ++ more)).state ≡ state_after (state_after state events) more = (follows start (events ++ more)).0 ∙ ends in
        subst (IsTaken started.room (flat_of all.listed all.shares)) at (gathered_taken caller started.room start events more listing all whole before.1 runs reads)

    read : (more : List Event) (result : Result AllRead Stuck) → IsLawful (state_after state events) more → Runs caller (shares_from 1 listing 0 []) more result → Cleanly Begun (state_after (state_after state events) more)
        → IsSafe IsStep Permits caller (asking (on_ok (installs_gathered started) result)) (state_after (state_after state events) more)
    read more (Err why) also reads holds = tt
    read more (Ok all) also reads holds =
        safe_installs (flat_of all.listed all.shares) (state_after (state_after state events) more) (holds.0, λ clean. (holds.1 clean, taken more all also reads clean))

    safe_gathers : Cleanly Begun (state_after state events) → IsSafe IsStep Permits caller (asking (gathers started listing)) (state_after state events)
    safe_gathers holds =
        safe_looks caller (Cleanly Begun) begun_lasts (λ s h. h.0) (shares_from 1 listing 0 []) (shares_look listing) (on_ok (installs_gathered started)) (state_after state events) holds read

  safe_lists : (state : State) → Cleanly Begun state → IsSafe IsStep Permits caller (asking (lists started)) state
  safe_lists state f = safe_looks caller (Cleanly Begun) begun_lasts (λ s h. h.0) (open_at_program started.room) (open_looks started.room) (on_ok (gathers started)) state f went
    where
      went : (events : List Event) (result : Result Listing Stuck) → IsLawful state events → Runs caller (open_at_program started.room) events result → Cleanly Begun (state_after state events)
          → IsSafe IsStep Permits caller (asking (on_ok (gathers started) result)) (state_after state events)
      went events (Err why) lawful runs holds = tt
      went events (Ok listing) lawful runs holds = safe_gathers state f events listing lawful runs holds

-- ---- it begins

module _ (caller room : ℕ) where
  goes_on : (state : State) (reply : Reply) (after : State) → Permits state caller (unbroken (StartFlat room)) → IsStep state caller (unbroken (StartFlat room)) reply after → IsSafe IsStep Permits caller (asking (on_ok lists (begun room reply))) after
  goes_on state (reply_of.Started flat) after may step =
      safe_lists caller (record { room = room; flat = flat }) after
      (cleanly_then (λ x. Unit {0}) (IsStarted caller room flat) state after caller (unbroken (StartFlat room)) (reply_of.Started flat) may step (may.0, λ clean. tt) (λ l s h. started_so caller room flat l state after s step))
  goes_on state reply after may step = tt

  safe_begins : (state : State) → IsFine state → IsSafe IsStep Permits caller (asking (followed_by (begins room) (on_ok lists))) state
  safe_begins = safe_ask caller IsFine (StartFlat room) (λ reply. on_ok lists (begun room reply)) (fine_lasts caller) (λ state fine. may_free state caller (StartFlat room) (tt, tt) fine)
      (λ state reply after fine may step. goes_on state reply after may step)

safe_found : (caller : ℕ) (o : Option ℕ) (why : Stuck) (state : State) → IsFine state → IsSafe IsStep Permits caller (asking (followed_by (given o why begins) (on_ok lists))) state
safe_found caller None why state fine = tt
safe_found caller (Some room) why state fine = safe_begins caller room state fine

-- From a fine state a caller may make all calls of a flattening, whatever others do between them.
pub safe_flattening : (caller : ℕ) (name : List ℕ) (state : State) → IsFine state → IsSafe IsStep Permits caller (asking (flatten_program name)) state
safe_flattening caller name =
    safe_free caller (Find name) (λ reply. followed_by (given (room_in reply) (failure reply) begins) (on_ok lists)) (tt, tt)
    (λ reply after fine. safe_found caller (room_in reply) (failure reply) after fine)
