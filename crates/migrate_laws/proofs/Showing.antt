-- What the calls of a migration that is at its end have shown: the container, and that no writer was passed over.
use Rattle.std.proofs.Common.{◌≡◌, ◌≤◌, ◌⊎◌, ◌%◌, ℕ, List, [], ◌∷◌, ◌++◌, Bool, true, false, Option, Some, None, refl, ap, sym, ◌∙◌, inl, inr, subst}
use Rattle.std.specs.Prelude.{Result, Ok, Err, map}
use Rattle.std.specs.List.{AllByRecursion, Contains}
use Rattle.std.proofs.lemmas.List.Elements.{All-contains, All-from_recursion}
use Rattle.turn_object.proofs.Facts.{state_append}
use Rattle.store_api.specs.declared.step.Answer.TheVariants.{Names}
use Rattle.mount_model.specs.declared.names.Metadata.{Metadata}
use Rattle.mount_model.specs.declared.stuck.Stuck.{Stuck}
use Rattle.mount_model.specs.FlowListed.{file_in, told_by}
use Rattle.mount_model.specs.FlowReplies.{Tries, failure, given, names_in, on_ok, room_in, trouble}
use Rattle.mount_model.specs.Running.{Runs, unbroken}
use Rattle.mount_model.proofs.Flows.Facts.{runs_in_two}
use Rattle.mount_model.specs.declared.call.Ask.{Ask}
use Rattle.mount_model.specs.declared.call.Call.{Call}
use Rattle.mount_model.specs.declared.call.Call.TheVariants.{Find, Look}
use Rattle.mount_model.specs.declared.call.Look.TheVariants.{List as ListFolder, Top}
use Rattle.mount_model.specs.declared.reply.Reply.{Reply}
use Rattle.mount_model.specs.declared.reply.Reply.TheVariants.{Looked}
use Rattle.mount_model.specs.History.{Event, state_after}
use Rattle.mount_model.specs.Paths.{Name, metadata}
use Rattle.mount_model.specs.State.{State}
use Rattle.mount_model.specs.Step.{IsStep}
use Rattle.mount_sound.specs.Issued.{issued}
use Rattle.mount_sound.specs.Ledger.{Ledger}
use Rattle.mount_sound.specs.Owed.{IsLawful, StandsInRoom}
use Rattle.mount_sound.specs.Sound.{IsSoundFor}
use Rattle.mount_sound.proofs.Facts.{history_keeps, lawful_first, lawful_rest}
use Rattle.recovery_laws.proofs.Facts.{Stays}
use Rattle.index_reader.specs.declared.listing.Dropping.{Dropping}
use Rattle.index_reader.specs.declared.listing.Listing.{Listing}
use Rattle.index_reader.specs.Found.{item_of}
use Rattle.index_reader.specs.Opening.{no_flat, scans}
use Rattle.index_reader.specs.Scanning.{nothing_found}
use Rattle.index_reader.specs.Scanning as scanning
use Rattle.index_reader.specs.Tops.{top_shows}
use Rattle.migrate_core.specs.declared.migrated.Migrated.{Migrated}
use Rattle.migrate_core.specs.Chosen.{chosen, is_packed, metas_named}
use Rattle.migrate_core.specs.Migrating.{lists_metadata, migrate_at_program, migrate_program, migrates_listed, migrates_shown, scans_then}
use Rattle.migrate_laws.specs.Closed.{AreExactly, HasClosed, IsPacked, IsTooLong, WriterOf}
use Rattle.migrate_laws.specs.Migrated.{HasMigrated, HasPackedIn, IsLeftOut}
use Rattle.migrate_laws.specs.Moments.{Calls, HasLooked, IsLooking, OnlyLooks}
use Rattle.migrate_laws.specs.Packed.{HavePacks, PackOf, writer_of}
use Rattle.migrate_laws.proofs.Choosing.{HasOf, IsNew, IsOpen, chosen_open, has_chosen, has_named, pick}
use Rattle.migrate_laws.proofs.Closing.{closed_left, closed_of, its_own, left_by, long_so, not_both, of_meta, packed_by}
use Rattle.migrate_laws.proofs.Counting.{IsDealt, IsDone, all_end, as_many, left_there, writers_of}
use Rattle.migrate_laws.proofs.Earlier.{IsIn, packed_stay, scans_show, top_has}
use Rattle.migrate_laws.proofs.Ends.{IsNext, along, calls_later, its_moment, lawful_before, looked_later, looks_only, never, next_call, same_end}
use Rattle.migrate_laws.proofs.Finding.{found_named}
use Rattle.migrate_laws.proofs.Left.{AreLeft, IsLeft, all_left_stay, left_stays}
use Rattle.migrate_laws.proofs.Listed.{ListingStands, scans_end}
use Rattle.migrate_laws.proofs.Looking.{IsStanding, closed_listed, of_names, standing_at, standing_left}
use Rattle.migrate_laws.proofs.Migrating.{all_chosen, all_ordered, named_all, scans_look, went_on}
use Rattle.migrate_laws.proofs.Reading.{IsLong}
use Rattle.migrate_laws.proofs.Rising.{all_so, chosen_rises}

-- who is counted had no packed index as the folders were listed, and had closed
abbrev IsFresh : ℕ → State → List Dropping → WriterOf → Type 0
IsFresh number listed droppings w = IsNew droppings w.writer × StandsInRoom listed number (HasClosed w)

-- with that none was so before which it counts
pub record HasNewlyPacked (caller number : ℕ) (was : WriterOf → Type 0) (start : State) (events : List Event) (out : Migrated) : Type 0 where
  pub shown : HasPackedIn caller number start events out
  pub new : AllByRecursion (λ (p : PackOf). was (writer_of p) → ⊥) shown.packs

all_packs_so : (P Q : PackOf → Type 0) (packs : List PackOf) → ((p : PackOf) → P p → Q p) → AllByRecursion P packs → AllByRecursion Q packs
all_packs_so P Q [] so a = tt
all_packs_so P Q (p ∷ packs) so a = (so p a.0, all_packs_so P Q packs so a.1)

-- where what was so earlier was so later
newly_so : (caller number : ℕ) (was now : WriterOf → Type 0) (start : State) (events : List Event) (out : Migrated) → ((w : WriterOf) → was w → now w) → HasNewlyPacked caller number now start events out → HasNewlyPacked caller number was start events out
newly_so caller number was now start events out so h =
    record { shown = h.shown; new = all_packs_so (λ (p : PackOf). now (writer_of p) → ⊥) (λ (p : PackOf). was (writer_of p) → ⊥) h.shown.packs (λ p never w. never (so (writer_of p) w)) h.new }

-- ---- seen from earlier on

module _ (start : State) (before : List Event) (e : Event) (rest : List Event) (caller : ℕ) (out : Migrated) (others : AllByRecursion (λ (x : Event). x.caller ≡ caller → ⊥) before) (looks : IsLooking e.ask.call) where
  pub packed_later : (number : ℕ) → HasPackedIn caller number e.after rest out → HasPackedIn caller number start (before ++ e ∷ rest) out
  packed_later number h =
      let same = same_end start before e rest in
      record {
        packs = h.packs;
        have = subst (HavePacks number h.packs) same h.have;
        apart = h.apart;
        counts = h.counts;
        listed = h.listed;
        lists = calls_later start before e rest caller (Look number (ListFolder metadata)) h.listed h.lists;
        closed = h.closed;
        each = λ w closed. subst (λ z. StandsInRoom z number (λ room. IsPacked w room ⊎ IsTooLong w room)) same (h.each w closed);
        scanned = h.scanned;
        looked = looked_later caller start before e rest h.scanned others looks h.looked;
        others = λ w closed has. h.others w closed (subst (λ z. StandsInRoom z number (IsPacked w)) (sym same) has);
        left = h.left;
        exactly = subst (λ z. AreExactly (IsLeftOut number h.listed z) h.left) same h.exactly;
        left_counted = h.left_counted;
      }

  pub new_later : (number : ℕ) (was : WriterOf → Type 0) → HasNewlyPacked caller number was e.after rest out → HasNewlyPacked caller number was start (before ++ e ∷ rest) out
  unfolding packed_later
  new_later number was h = record { shown = packed_later number h.shown; new = h.new }

  pub migrated_later : (name : Name) → HasMigrated caller name e.after rest out → HasMigrated caller name start (before ++ e ∷ rest) out
  unfolding packed_later
  migrated_later name h = record {
    number = h.number;
    found = h.found;
    finds = calls_later start before e rest caller (Find name) h.found h.finds;
    named = h.named;
    packed = packed_later h.number h.packed;
    new = h.new;
  }

-- ---- no writer is left out

all_both : (P Q : Metadata → Type 0) (ms : List Metadata) → AllByRecursion P ms → AllByRecursion Q ms → AllByRecursion (λ (m : Metadata). P m × Q m) ms
all_both P Q [] a b = tt
all_both P Q (m ∷ ms) a b = ((a.0, b.0), all_both P Q ms a.1 b.1)

all_writers : (P : WriterOf → Type 0) (ls : List Metadata) → AllByRecursion (λ (m : Metadata). P (of_meta m)) ls → AllByRecursion P (writers_of ls)
all_writers P [] a = tt
all_writers P (m ∷ ls) a = (a.0, all_writers P ls a.1)

same_writer : (m : Metadata) (w : WriterOf) → m.host ≡ w.host → m.writer ≡ w.writer → of_meta m ≡ w
same_writer m w a b = λ i. record { host = a i; writer = b i }

-- what stood as the metadata were listed, and had no packed index as the folders were
abbrev Stood : ℕ → State → List Dropping → Metadata → Type 0
Stood number listed droppings m = IsStanding number m listed × IsOpen droppings m

module _ (number : ℕ) (metas : List Metadata) (droppings : List Dropping) (l : Ledger) (listed : State) (s : IsSoundFor l listed)
    (stand : AllByRecursion (λ (m : Metadata). IsStanding number m listed) metas) (all_there : (w : WriterOf) → StandsInRoom listed number (HasClosed w) → HasOf w.writer metas)
    (j : Ledger) (scanned : State) (r : IsSoundFor j scanned) (later : (w : WriterOf) → StandsInRoom listed number (HasClosed w) → IsLeft number (left_by w) scanned) (packed : ListingStands number droppings scanned)
    (k : Ledger) (end : State) (t : IsSoundFor k end) (on : (w : WriterOf) → StandsInRoom scanned number (IsPacked w) → StandsInRoom end number (IsPacked w)) (out : Migrated) (d : IsDone number (Stood number listed droppings) (IsFresh number listed droppings) (chosen droppings metas) out end) where
  -- it is packed, and that is counted or was so before
  abbrev IsKnown : WriterOf → Type 0
  IsKnown w = StandsInRoom end number (IsPacked w) × (Contains (map writer_of d.packs) w ⊎ StandsInRoom scanned number (IsPacked w))

  -- it is packed, or one of those that are left
  fate_of : (w : WriterOf) → StandsInRoom listed number (HasClosed w) → IsKnown w ⊎ Contains (writers_of d.ls) w
  fate_of w closed = by_test (is_packed (item_of (λ (x : Dropping). x.writer) w.writer droppings)) refl
    where
      wrote : AllByRecursion (λ (m : Metadata). m.writer ≡ w.writer → 1 ≤ m.stamp) metas
      wrote = all_so (λ (m : Metadata). IsStanding number m listed) (λ (m : Metadata). m.writer ≡ w.writer → 1 ≤ m.stamp) metas (λ m is same. (its_own l listed s number w closed m is same).1) stand

      so : (m : Metadata) → m.writer ≡ w.writer → IsStanding number m listed → IsDealt number d.packs d.ls end m → IsKnown w ⊎ Contains (writers_of d.ls) w
      so m same is (inl has) =
          let it : of_meta m ≡ w = same_writer m w (its_own l listed s number w closed m is same).0 same in
          inl (subst (λ v. StandsInRoom end number (IsPacked v)) it has.0, inl (subst (λ v. Contains (map writer_of d.packs) v) it has.1))
      so m same is (inr among) = inr (subst (λ v. Contains (writers_of d.ls) v) (same_writer m w (its_own l listed s number w closed m is same).0 same) (left_there m d.ls among))

      by_test : (b : Bool) → is_packed (item_of (λ (x : Dropping). x.writer) w.writer droppings) ≡ b → IsKnown w ⊎ Contains (writers_of d.ls) w
      by_test true is =
          let was : StandsInRoom scanned number (IsPacked w) = packed_by j scanned r number w (later w closed) (packed w.writer is) in
          inl (on w was, inr was)
      by_test false is =
          let has : HasOf w.writer (chosen droppings metas) = has_chosen w.writer droppings is metas (all_ordered (λ (m : Metadata). m.writer ≡ w.writer → 1 ≤ m.stamp) metas wrote) (all_there w closed) in
          let those : AllByRecursion (λ (m : Metadata). IsStanding number m listed × IsDealt number d.packs d.ls end m) (chosen droppings metas) =
          all_both (λ (m : Metadata). IsStanding number m listed) (IsDealt number d.packs d.ls end) (chosen droppings metas) (all_chosen (λ (m : Metadata). IsStanding number m listed) droppings metas stand) d.dealt in
          let p = pick (λ (m : Metadata). IsStanding number m listed × IsDealt number d.packs d.ls end m) w.writer (chosen droppings metas) those has in
          so p.0 p.1 p.2.0 p.2.1

  left_out : AllByRecursion (IsLeftOut number listed end) (writers_of d.ls)
  left_out = all_writers (IsLeftOut number listed end) d.ls
      (all_so (λ (m : Metadata). Stood number listed droppings m × IsLong number m end) (λ (m : Metadata). IsLeftOut number listed end (of_meta m)) d.ls
      (λ m is. (closed_of number m listed is.0.1.0 is.0.0, long_so number m end is.1))
      (all_both (Stood number listed droppings) (λ (m : Metadata). IsLong number m end) d.ls d.these d.long))

  none_missed : (w : WriterOf) → IsLeftOut number listed end w → Contains (writers_of d.ls) w
  none_missed w is = elim (fate_of w is.0) [
    | inl known ↦ absurd (not_both k end t number w known.0 is.1)
    | inr there ↦ there
  ]

  -- those that are left are too long
  long_there : (w : WriterOf) → Contains (writers_of d.ls) w → StandsInRoom end number (IsTooLong w)
  long_there w there = (find d.ls left_out there).1
    where
      find : (ls : List Metadata) → AllByRecursion (IsLeftOut number listed end) (writers_of ls) → Contains (writers_of ls) w → IsLeftOut number listed end w
      find ls a c = All-contains (IsLeftOut number listed end) (writers_of ls) w (All-from_recursion (IsLeftOut number listed end) (writers_of ls) a) c

  each_dealt : (w : WriterOf) → StandsInRoom listed number (HasClosed w) → StandsInRoom end number (λ room. IsPacked w room ⊎ IsTooLong w room)
  each_dealt w closed = elim (fate_of w closed) [
    | inl known ↦ λ tree told. (let x = known.0 tree told in (x.0, x.1, inl x.2))
    | inr there ↦ λ tree told. (let x = long_there w there tree told in (x.0, x.1, inr x.2))
  ]

  known_so : (w : WriterOf) → StandsInRoom listed number (HasClosed w) → StandsInRoom end number (IsPacked w) → Contains (map writer_of d.packs) w ⊎ StandsInRoom scanned number (IsPacked w)
  known_so w closed has = elim (fate_of w closed) [
    | inl known ↦ known.1
    | inr there ↦ absurd (not_both k end t number w has (long_there w there))
  ]

  pub packed_in : (was : WriterOf → Type 0) → ((p : PackOf) → IsFresh number listed droppings (writer_of p) → was (writer_of p) → ⊥) → (caller : ℕ) (start : State) (events : List Event) → Calls caller (Look number (ListFolder metadata)) start events listed → HasLooked caller start events scanned → state_after start events ≡ end → HasNewlyPacked caller number was start events out
  packed_in was never caller start events calls looked same = record {
    shown = record {
      packs = d.packs;
      have = subst (HavePacks number d.packs) (sym same) d.have;
      apart = d.apart;
      counts = d.counts;
      listed = listed;
      lists = calls;
      closed = all_packs_so (λ (p : PackOf). IsFresh number listed droppings (writer_of p)) (λ (p : PackOf). StandsInRoom listed number (HasClosed (writer_of p))) d.packs (λ p is. is.1) d.new;
      each = λ w closed. subst (λ z. StandsInRoom z number (λ room. IsPacked w room ⊎ IsTooLong w room)) (sym same) (each_dealt w closed);
      scanned = scanned;
      looked = looked;
      others = λ w closed has. known_so w closed (subst (λ z. StandsInRoom z number (IsPacked w)) same has);
      left = writers_of d.ls;
      exactly = subst (λ z. AreExactly (IsLeftOut number listed z) (writers_of d.ls)) (sym same) (record { all = left_out; none_missed = none_missed; once = d.once });
      left_counted = d.left ∙ sym (as_many d.ls);
    };
    new = all_packs_so (λ (p : PackOf). IsFresh number listed droppings (writer_of p)) (λ (p : PackOf). was (writer_of p) → ⊥) d.packs never d.new;
  }

-- ---- the calls

module _ (caller number : ℕ) (out : Migrated) where
  -- Behind the listing of the metadata, from this state on: the folders were listed, and the writers were dealt with.
  record HasShown (folders : List ℕ) (listed : State) (metas : List Metadata) (now : State) (events : List Event) : Type 0 where
    pub first : List Event
    pub rest : List Event
    pub all : events ≡ first ++ rest
    pub lawful : IsLawful now first
    pub then_lawful : IsLawful (state_after now first) rest
    pub only : OnlyLooks caller first
    pub droppings : List Dropping
    pub stand : ListingStands number droppings (state_after now first)
    pub finished : IsDone number (Stood number listed droppings) (IsFresh number listed droppings) (chosen droppings metas) out (state_after (state_after now first) rest)
    -- who was packed before is seen to be
    pub seen : (w : WriterOf) → StandsInRoom now number (IsPacked w) → IsIn (w.host % 32) folders → is_packed (item_of (λ (d : Dropping). d.writer) w.writer droppings) ≡ true

  abbrev IsPackedNow : State → WriterOf → Type 0
  IsPackedNow state w = StandsInRoom state number (IsPacked w)

  module _ (folders : List ℕ) where
    abbrev scan : Tries Listing
    scan = scans number 0 no_flat folders nothing_found

    behind_scan : (listed : State) (metas : List Metadata) → AllByRecursion (λ (m : Metadata). IsStanding number m listed) metas → (l : Ledger) (now : State) (events first rest : List Event) → events ≡ first ++ rest → IsLawful now (first ++ rest) → IsSoundFor l now → AreLeft number metas now
        → (value : Result Listing Stuck) → Runs caller scan first value → Runs caller (on_ok (migrates_listed number metas) value) rest (Ok out) → HasShown folders listed metas now events
    behind_scan listed metas stand l now events first rest all lawful s left (Err why) runs then_runs = absurd (never caller why rest out then_runs)
    behind_scan listed metas stand l now events first rest all lawful s left (Ok listing) runs then_runs =
        let before : IsLawful now first = lawful_first now first rest lawful in
        let behind : IsLawful (state_after now first) rest = lawful_rest now first rest lawful in
        let mid : State = state_after now first in
        let t : IsSoundFor (issued l now first) mid = history_keeps l now first before s in
        let those : List Metadata = chosen listing.droppings metas in
        let still : AreLeft number metas mid = along (AreLeft number metas) (all_left_stay number metas) l now first before s left in
        let stood : AllByRecursion (Stood number listed listing.droppings) those =
        all_both (λ (m : Metadata). IsStanding number m listed) (IsOpen listing.droppings) those (all_chosen (λ (m : Metadata). IsStanding number m listed) listing.droppings metas stand) (chosen_open listing.droppings metas) in
        record {
          first = first;
          rest = rest;
          all = all;
          lawful = before;
          then_lawful = behind;
          only = looks_only caller scan first (Ok listing) (scans_look number folders nothing_found) runs;
          droppings = listing.droppings;
          stand = scans_end number caller folders nothing_found now (λ writer is. absurd (let clash : false ≡ true = is in cc)) l first (Ok listing) before s runs;
          finished = all_end caller number (Stood number listed listing.droppings) (IsFresh number listed listing.droppings) (λ m is. (is.1.1, closed_of number m listed is.1.0 is.0)) those (chosen_rises listing.droppings metas) stood mid (all_chosen (λ (m : Metadata). IsLeft number m mid) listing.droppings metas still) (issued l now first) rest (Ok out) behind t then_runs;
          seen = λ w was there. scans_show caller number w folders nothing_found now was (inl there) l first (Ok listing) before s runs;
        }

    abbrev listing_call : Call
    listing_call = Look number (ListFolder metadata)

    abbrev listing_on : Reply → Tries Migrated
    listing_on reply = scans_then number scan (told_by metadata (λ names. metas_named names []) reply)

    module _ (l : Ledger) (start : State) (s : IsSoundFor l start) (events : List Event) (n : IsNext caller listing_call listing_on start events (Ok out)) (lawful : IsLawful start n.before) where
      abbrev listed : State
      listed = state_after start n.before

      abbrev then_ : State
      then_ = n.event.after

      -- what others call before it leaves that
      before_too : (w : WriterOf) → IsPackedNow start w → IsPackedNow listed w
      before_too w was = along (λ state. IsPackedNow state w) (packed_stay caller number w) l start n.before lawful s was

      -- it is so from the call on
      on_from : (fact : State → Type 0) → Stays fact → fact listed → (first : List Event) → IsLawful then_ first → fact (state_after then_ first)
      on_from fact stays f first lawful = along fact stays n.then_ledger then_ first lawful n.then_sound (stays n.ledger listed then_ caller (unbroken listing_call) n.event.reply n.may n.step n.sound f)

      abbrev Was : WriterOf → Type 0
      Was w = IsPackedNow start w × IsIn (w.host % 32) folders

      not_again : (b : Bool) → b ≡ true → b ≡ false → ⊥
      not_again true a e = let clash : true ≡ false = e in cc
      not_again false a e = let clash : false ≡ true = a in cc

      closed_on : (metas : List Metadata) (x : HasShown folders listed metas then_ n.rest) → AllByRecursion (λ (m : Metadata). IsStanding number m listed) metas → ((w : WriterOf) → StandsInRoom listed number (HasClosed w) → HasOf w.writer metas) → HasNewlyPacked caller number Was start events out
      closed_on metas x stand all_there =
          let mid : State = state_after then_ x.first in
          let j : Ledger = issued n.then_ledger then_ x.first in
          let r : IsSoundFor j mid = history_keeps n.then_ledger then_ x.first x.lawful n.then_sound in
          let end : State = state_after mid x.rest in
          let t : IsSoundFor (issued j mid x.rest) end = history_keeps j mid x.rest x.then_lawful r in
          let looked : HasLooked caller then_ n.rest mid = record { before = x.first; after = x.rest; split = x.all; comes = refl; only = x.only } in
          let looks : IsLooking n.event.ask.call = subst (λ (a : Ask). IsLooking a.call) (sym n.asks) tt in
          let from_start : HasLooked caller start events mid = subst (λ es. HasLooked caller start es mid) (sym n.split) (looked_later caller start n.before n.event n.rest mid n.others looks looked) in
          packed_in number metas x.droppings n.ledger listed n.sound stand all_there
          j mid r (λ w closed. on_from (IsLeft number (left_by w)) (left_stays number (left_by w)) (closed_left number w listed closed) x.first x.lawful) x.stand
          (issued j mid x.rest) end t (λ w has. along (λ state. IsPackedNow state w) (packed_stay caller number w) j mid x.rest x.then_lawful r has) out x.finished
          Was (λ p new was. not_again _ (x.seen (writer_of p) (on_from (λ state. IsPackedNow state (writer_of p)) (packed_stay caller number (writer_of p)) (before_too (writer_of p) was.0) [] tt) was.1) new.0)
          caller start events (its_moment caller listing_call listing_on start events (Ok out) n) from_start
          (ap (state_after start) n.split ∙ sym (same_end start n.before n.event n.rest) ∙ ap (state_after then_) x.all ∙ state_append then_ x.first x.rest)

      by_told : (r : Result (List Metadata) Stuck) → told_by metadata (λ names. metas_named names []) n.event.reply ≡ r → Runs caller (scans_then number scan r) n.rest (Ok out) → HasNewlyPacked caller number Was start events out
      by_told (Err why) is runs = absurd (never caller why n.rest out runs)
      by_told (Ok metas) is runs =
          let w = went_on (names_in n.event.reply) (trouble (file_in metadata []) n.event.reply) (λ names. metas_named names []) metas is in
          let step : IsStep listed caller (unbroken listing_call) (Looked (Names w.0)) then_ = subst (λ r. IsStep listed caller (unbroken listing_call) r then_) (of_names n.event.reply w.0 w.1) n.step in
          let stand : AllByRecursion (λ (m : Metadata). IsStanding number m listed) metas =
          named_all (λ (m : Metadata). IsStanding number m listed) w.0 w.0 [] metas (λ name h. h) (λ name m h i. standing_at n.ledger listed n.sound caller number w.0 then_ step name m h i) w.2 tt in
          let all_there : (v : WriterOf) → StandsInRoom listed number (HasClosed v) → HasOf v.writer metas =
          λ v closed. (let x = closed_listed n.ledger listed n.sound caller number w.0 then_ step v closed in subst (λ q. HasOf q metas) x.1 (has_named x.2.0 x.0 w.0 [] metas x.2.2 x.2.1 w.2)) in
          let left : AreLeft number metas then_ =
          all_left_stay number metas n.ledger listed then_ caller (unbroken listing_call) n.event.reply n.may n.step n.sound
          (all_so (λ (m : Metadata). IsStanding number m listed) (λ (m : Metadata). IsLeft number m listed) metas (λ m f. standing_left number m listed f) stand) in
          let two = runs_in_two caller scan (on_ok (migrates_listed number metas)) n.rest (Ok out) runs in
          let both : IsLawful then_ (two.first ++ two.rest) = subst (IsLawful then_) two.all n.lawful in
          closed_on metas (behind_scan listed metas stand n.then_ledger then_ n.rest two.first two.rest two.all both n.then_sound left two.value two.runs two.then_runs) stand all_there

      listed_so : HasNewlyPacked caller number Was start events out
      listed_so = by_told (told_by metadata (λ names. metas_named names []) n.event.reply) refl n.runs

    lists_so : (l : Ledger) (start : State) (events : List Event) → IsLawful start events → IsSoundFor l start → Runs caller (lists_metadata number scan) events (Ok out) → HasNewlyPacked caller number (λ w. IsPackedNow start w × IsIn (w.host % 32) folders) start events out
    lists_so l start events lawful s runs =
        let n = next_call caller listing_call listing_on l start events (Ok out) lawful s runs in
        listed_so l start s events n (lawful_before caller listing_call listing_on start events (Ok out) n lawful)

  -- the top shows which folders of droppings there are
  module _ (l : Ledger) (start : State) (s : IsSoundFor l start) (events : List Event) (lawful : IsLawful start events) where
    abbrev top_on : Reply → Tries Migrated
    top_on reply = given (names_in reply) (trouble (file_in [] []) reply) (λ names. on_ok (migrates_shown number) (top_shows names))

    module _ (n : IsNext caller (Look number Top) top_on start events (Ok out)) where
      abbrev topped : State
      topped = state_after start n.before

      packed_then : (w : WriterOf) → IsPackedNow start w → IsPackedNow topped w
      packed_then w was = along (λ state. IsPackedNow state w) (packed_stay caller number w) l start n.before (lawful_before caller (Look number Top) top_on start events (Ok out) n lawful) s was

      by_folders : (names : List Name) → IsStep topped caller (unbroken (Look number Top)) (Looked (Names names)) n.event.after → (r : Result (List ℕ) Stuck) → top_shows names ≡ r → Runs caller (on_ok (migrates_shown number) r) n.rest (Ok out) → HasNewlyPacked caller number (IsPackedNow start) n.event.after n.rest out
      by_folders names step (Err why) is runs = absurd (never caller why n.rest out runs)
      by_folders names step (Ok folders) is runs =
          newly_so caller number (IsPackedNow start) (λ w. IsPackedNow n.event.after w × IsIn (w.host % 32) folders) n.event.after n.rest out
          (λ w was. (
            packed_stay caller number w n.ledger topped n.event.after caller (unbroken (Look number Top)) n.event.reply n.may n.step n.sound (packed_then w was),
            top_has n.ledger topped n.sound number w (packed_then w was) caller names n.event.after step folders is,
          ))
          (lists_so folders n.then_ledger n.event.after n.rest n.lawful n.then_sound runs)

      by_names : (o : Option (List Name)) → names_in n.event.reply ≡ o → Runs caller (given o (trouble (file_in [] []) n.event.reply) (λ names. on_ok (migrates_shown number) (top_shows names))) n.rest (Ok out) → HasNewlyPacked caller number (IsPackedNow start) n.event.after n.rest out
      by_names None is runs = absurd (never caller (trouble (file_in [] []) n.event.reply) n.rest out runs)
      by_names (Some names) is runs = by_folders names (subst (λ r. IsStep topped caller (unbroken (Look number Top)) r n.event.after) (of_names n.event.reply names is) n.step) (top_shows names) refl runs

      topped_so : HasNewlyPacked caller number (IsPackedNow start) start events out
      topped_so = subst (λ es. HasNewlyPacked caller number (IsPackedNow start) start es out) (sym n.split)
          (new_later start n.before n.event n.rest caller out n.others (subst (λ (a : Ask). IsLooking a.call) (sym n.asks) tt) number (IsPackedNow start) (by_names (names_in n.event.reply) refl n.runs))

    at_so : Runs caller (migrate_at_program number) events (Ok out) → HasNewlyPacked caller number (IsPackedNow start) start events out
    at_so runs = topped_so (next_call caller (Look number Top) top_on l start events (Ok out) lawful s runs)

module _ (caller : ℕ) (name : Name) (out : Migrated) (start : State) (events : List Event) where
  abbrev finding_on : Reply → Tries Migrated
  finding_on reply = given (room_in reply) (failure reply) migrate_at_program

  abbrev WasPacked : ℕ → State → WriterOf → Type 0
  WasPacked number state w = StandsInRoom state number (IsPacked w)

  found_so : (n : IsNext caller (Find name) finding_on start events (Ok out)) (o : Option ℕ) → room_in n.event.reply ≡ o → Runs caller (given o (failure n.event.reply) migrate_at_program) n.rest (Ok out) → HasMigrated caller name start events out
  found_so n None is runs = absurd (never caller (failure n.event.reply) n.rest out runs)
  found_so n (Some number) is runs =
      let found : State = state_after start n.before in
      let from_find : HasNewlyPacked caller number (WasPacked number found) n.event.after n.rest out =
      newly_so caller number (WasPacked number found) (WasPacked number n.event.after) n.event.after n.rest out
      (λ w was. packed_stay caller number w n.ledger found n.event.after caller (unbroken (Find name)) n.event.reply n.may n.step n.sound was)
      (at_so caller number out n.then_ledger n.event.after n.then_sound n.rest n.lawful runs) in
      let all : HasNewlyPacked caller number (WasPacked number found) start events out =
      subst (λ es. HasNewlyPacked caller number (WasPacked number found) start es out) (sym n.split)
      (new_later start n.before n.event n.rest caller out n.others (subst (λ (a : Ask). IsLooking a.call) (sym n.asks) tt) number (WasPacked number found) from_find) in
      record {
        number = number;
        found = found;
        finds = its_moment caller (Find name) finding_on start events (Ok out) n;
        named = found_named found caller name n.event.reply n.event.after number n.step is;
        packed = all.shown;
        new = all.new;
      }

-- A migration that is at its end passed over no writer of the container that it found, and its counts are right.
pub what_it_shows : (caller : ℕ) (name : List ℕ) (l : Ledger) (start : State) (events : List Event) (out : Migrated) → IsLawful start events → IsSoundFor l start → Runs caller (migrate_program name) events (Ok out) → HasMigrated caller name start events out
what_it_shows caller name l start events out lawful s runs =
    let n = next_call caller (Find name) (λ reply. given (room_in reply) (failure reply) migrate_at_program) l start events (Ok out) lawful s runs in
    found_so caller name out start events n (room_in n.event.reply) refl n.runs
