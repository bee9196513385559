-- What a writer's synced droppings keep: a cover of its first entries is right from then on.
use Rattle.std.proofs.Common.{true, false, ◌≡◌, ◌≤◌, ◌+◌, ◌*◌, ◌/◌, ℕ, List, [], ◌∷◌, ◌++◌, map, length, min, take, Some, refl, ap, sym, ◌∙◌, inl, inr, subst, arith}
use Rattle.std.specs.Prelude.{slice_get}
use Rattle.plfs_types.specs.declared.entries.Entry.{Entry}
use Rattle.container_layout.specs.declared.items.Item.TheVariants.{Index, Log}
use Rattle.store_api.specs.declared.tree.Room.{Room}
use Rattle.store_api.specs.declared.tree.Tree.{Tree}
use Rattle.store_laws.specs.Files.{kept_at}
use Rattle.mount_model.specs.Running.{unbroken}
use Rattle.mount_model.specs.declared.call.Ask.{Ask}
use Rattle.mount_model.specs.declared.call.Call.TheVariants.{SyncDropping}
use Rattle.mount_model.specs.declared.reply.Reply.{Reply}
use Rattle.mount_model.specs.declared.reply.Reply.TheVariants.{Done}
use Rattle.mount_model.specs.Paths.{index_path, log_path}
use Rattle.mount_model.specs.State.{State}
use Rattle.mount_model.specs.Step.{IsStep}
use Rattle.mount_sound.specs.Dropping.{IsWriter, bytes_of}
use Rattle.mount_sound.specs.Entries.{last_stamp, logged}
use Rattle.mount_sound.specs.Flats.{AreCovered, IsCovered, covered_entries}
use Rattle.mount_sound.specs.Issued.{issued_after}
use Rattle.mount_sound.specs.Items.{HasItem}
use Rattle.mount_sound.specs.Keeping.{kept_in}
use Rattle.mount_sound.specs.Landed.{whole}
use Rattle.mount_sound.specs.Ledger.{Ledger, Written, entries_in}
use Rattle.mount_sound.specs.Owed.{HasDropping, May, StandsInRoom}
use Rattle.mount_sound.specs.Recovered.{IsSyncedWhole}
use Rattle.mount_sound.specs.Sound.{IsSoundFor}
use Rattle.mount_sound.specs.There.{landed_entries, landed_in}
use Rattle.mount_sound.proofs.Facts.{KeepsAllEntries, accounted, covered_on, few, has_recovered, in_later, is_log, its_writers, kept_most, landed_number, later, one_tree, room_keeps, same_covered, some_room, stay_later, take_less, writer_told}
use Rattle.recovery_laws.proofs.Facts.{AreLogged, HasFirst, Stays, first_stays, in_log, log_there, logged_stays}
use Rattle.flatten_laws.proofs.Owns.{Own, IsOwn, own_cover}
use Rattle.flatten_laws.proofs.Taken.{EachFirst}

-- ---- in one room

-- the cover of the writer's first entries is right: they are what it covers
abbrev pub IsCoveredSo : Own → Room → Type 0
IsCoveredSo o room = (is : IsCovered room (own_cover o)) × (covered_entries room is.host (own_cover o) ≡ o.entries)

abbrev pub HasCovered : ℕ → Own → State → Type 0
HasCovered number o state = StandsInRoom state number (IsCoveredSo o)

abbrev pub HasLogged : ℕ → Own → State → Type 0
HasLogged number o state = StandsInRoom state number (AreLogged o.host o.writer o.entries)

pub first_stays_so : (number : ℕ) (o : Own) → Stays (λ state. StandsInRoom state number (HasFirst o.host o.writer o.entries))
first_stays_so number o l old new other asked reply may step s f = first_stays l old new other asked reply may step s number o.host o.writer o.entries f

pub each_stays : (number : ℕ) (owns : List Own) → Stays (EachFirst number owns)
each_stays number [] l old new other asked reply may step s f = tt
each_stays number (o ∷ owns) l old new other asked reply may step s f = (first_stays_so number o l old new other asked reply may step s f.0, each_stays number owns l old new other asked reply may step s f.1)

pub logged_stays_so : (number : ℕ) (o : Own) → Stays (HasLogged number o)
logged_stays_so number o l old new other asked reply may step s f = logged_stays l old new other asked reply may step s number o.host o.writer o.entries f

-- what is covered stays so
pub covered_stays : (number : ℕ) (o : Own) → Stays (HasCovered number o)
covered_stays number o l old new other asked reply may step s f =
    let was = f s.shape.tree s.shape.told in
    let is : IsCovered was.0 (own_cover o) = was.2.0 in
    let s' : IsSoundFor (issued_after l old asked.call reply) new = later l old new other asked reply may step s in
    let x = stay_later l old new other asked reply may step s s' number was.0 (Index is.host o.writer) is.content was.1 tt is.stands in
    let keeps : KeepsAllEntries was.0 x.0 = room_keeps l old new other asked reply (may.owes s.clean) step (its_writers l old s) (accounted (issued_after l old asked.call reply) new (its_writers (issued_after l old asked.call reply) new s')) number was.0 x.0 was.1 x.2 in
    in_later l old new other asked reply may step s s' number (IsCoveredSo o) (x.0, x.2, (covered_on was.0 x.0 keeps (own_cover o) is, same_covered was.0 x.0 keeps (own_cover o) is ∙ was.2.1))

-- ---- what a sync makes of it

-- the log is there that is to be synced
pub has_log : (l : Ledger) (state : State) (s : IsSoundFor l state) (number : ℕ) (o : Own) → 1 ≤ logged o.entries → StandsInRoom state number (HasFirst o.host o.writer o.entries) → StandsInRoom state number (HasDropping o.host o.writer true)
has_log l state s number o some first tree told =
    let x = first tree told in
    let there : slice_get s.shape.tree.rooms number ≡ Some x.0 = ap (λ (t : Tree). slice_get t.rooms number) (one_tree s.shape.tree tree state.store.tree s.shape.told told) ∙ x.1 in
    let log = log_there l state s number x.0 there o.host o.writer o.entries x.2 some in
    (x.0, x.1, (log.0, record { is_item = is_log o.host o.writer x.2.stands.is_item.widths.0 x.2.stands.is_item.widths.1; there = log.1 }))

pub has_index : (state : State) (number : ℕ) (o : Own) → HasLogged number o state → StandsInRoom state number (HasDropping o.host o.writer false)
has_index state number o logs tree told = let x = logs tree told in (x.0, x.1, (x.2.has.content, x.2.has.stands))

-- two things of one room
both_stand : (state : State) (number : ℕ) (one two : Room → Type 0) → StandsInRoom state number one → StandsInRoom state number two → StandsInRoom state number (λ room. one room × two room)
both_stand state number one two a b tree told =
    let x = a tree told in
    let y = b tree told in
    (x.0, x.1, (x.2, subst two (some_room y.0 x.0 (slice_get tree.rooms number) y.1 x.1) y.2))

module _ (number : ℕ) (o : Own) (l : Ledger) (old new : State) (caller : ℕ) (s : IsSoundFor l old) where
  module _ (may : May old caller (unbroken (SyncDropping number o.host o.writer true))) (step : IsStep old caller (unbroken (SyncDropping number o.host o.writer true)) Done new) where
    abbrev its_log : Ask
    its_log = unbroken (SyncDropping number o.host o.writer true)

    pub logged_then : StandsInRoom old number (HasFirst o.host o.writer o.entries) → HasLogged number o new
    logged_then first =
        let s' : IsSoundFor (issued_after l old its_log.call Done) new = later l old new caller its_log Done may step s in
        let now = first_stays l old new caller its_log Done may step s number o.host o.writer o.entries first in
        let synced : StandsInRoom new number (IsSyncedWhole o.host o.writer true) = has_recovered l old new caller its_log s may step in
        let x = both_stand new number (HasFirst o.host o.writer o.entries) (IsSyncedWhole o.host o.writer true) now synced s'.shape.tree s'.shape.told in
        in_later l old new caller its_log Done may step s s' number (AreLogged o.host o.writer o.entries) (
          x.0,
          x.1,
          record {
            has = x.2.0;
            kept = omega (arith, x.2.1.kept, in_log (issued_after l old its_log.call Done) new s' number x.0 x.1 o.host o.writer o.entries x.2.0, ap (λ f. length (bytes_of f)) x.2.1.stands.there);
          },
        )

-- what landed first, of which the droppings are kept
module _ (l : Ledger) (state : State) (s : IsSoundFor l state) (number : ℕ) (room : Room) (there : slice_get s.shape.tree.rooms number ≡ Some room) (o : Own) (logs : AreLogged o.host o.writer o.entries room) (synced : IsSyncedWhole o.host o.writer false room) where
  abbrev its : IsWriter room o.writer (l number o.writer)
  its = (s.sound.rooms number room there).writers o.writer logs.has.stands.is_item.widths.1

  same_host : its.host ≡ o.host
  same_host = sym (its.one_host o.host (inl (logs.has.content, logs.has.stands)))

  landed_so : landed_entries room o.host o.writer ≡ take its.landed (entries_in (l number o.writer))
  landed_so = ap (λ h. landed_entries room h o.writer) (sym same_host) ∙ writer_told room o.writer (l number o.writer) its logs.has.stands.is_item.widths.1 (s.sound.writes number o.writer)

  few_landed : length o.entries ≤ its.landed
  few_landed = omega (arith, logs.has.many, ap length landed_so, few its.landed (entries_in (l number o.writer)))

  first_issued : take (length o.entries) (entries_in (l number o.writer)) ≡ o.entries
  first_issued = sym (take_less (length o.entries) its.landed (entries_in (l number o.writer)) few_landed) ∙ ap (take (length o.entries)) (sym landed_so) ∙ logs.has.first

  whole_long : (n k len : ℕ) → k ≤ n → n ≤ len / 40 → 40 * k ≤ len
  whole_long n k len a b = omega (arith, a, b)

  index_long : 40 * length o.entries ≤ length synced.content
  index_long =
      let number_is : landed_in room o.host o.writer ≡ min (whole synced.content) (length (l number o.writer)) = landed_number room o.host o.writer (l number o.writer) its (s.sound.writes number o.writer) synced.content synced.stands in
      whole_long (landed_in room o.host o.writer) (length o.entries) (length synced.content) logs.has.many (omega (arith, number_is))

  pub kept_enough : length o.entries ≤ kept_in room o.host o.writer
  kept_enough = kept_most room o.host o.writer (l number o.writer) its (s.sound.writes number o.writer) synced.content synced.stands (length o.entries)
      (omega (arith, few_landed, its.within)) index_long (omega (arith, index_long, synced.kept)) (omega (arith, ap logged first_issued, logs.kept))

  from_none : (n : ℕ) → 0 + n ≡ n
  from_none n = omega arith

  pub covered_here : IsCoveredSo o room
  covered_here =
      let same : covered_entries room o.host (own_cover o) ≡ o.entries = ap (λ n. take n (landed_entries room o.host o.writer)) (from_none (length o.entries)) ∙ logs.has.first in (
        record {
          host = o.host;
          content = logs.has.content;
          stands = logs.has.stands;
          kept = omega (arith, kept_enough);
          sum = from_none (logged o.entries) ∙ ap logged (sym same);
          latest = ap (last_stamp 0) (sym same);
        },
        same,
      )

module _ (number : ℕ) (o : Own) (l : Ledger) (old new : State) (caller : ℕ) (s : IsSoundFor l old) (may : May old caller (unbroken (SyncDropping number o.host o.writer false))) (step : IsStep old caller (unbroken (SyncDropping number o.host o.writer false)) Done new) where
  abbrev its_index : Ask
  its_index = unbroken (SyncDropping number o.host o.writer false)

  pub covered_then : HasLogged number o old → HasCovered number o new
  covered_then logs =
      let s' : IsSoundFor (issued_after l old its_index.call Done) new = later l old new caller its_index Done may step s in
      let now : HasLogged number o new = logged_stays_so number o l old new caller its_index Done may step s logs in
      let synced : StandsInRoom new number (IsSyncedWhole o.host o.writer false) = has_recovered l old new caller its_index s may step in
      let x = both_stand new number (AreLogged o.host o.writer o.entries) (IsSyncedWhole o.host o.writer false) now synced s'.shape.tree s'.shape.told in
      in_later l old new caller its_index Done may step s s' number (IsCoveredSo o) (x.0, x.1, covered_here (issued_after l old its_index.call Done) new s' number x.0 x.1 o x.2.0 x.2.1)

-- ---- all of them

abbrev pub EachCovered : ℕ → List Own → State → Type 0
EachCovered number [] state = Unit {0}
EachCovered number (o ∷ owns) state = HasCovered number o state × EachCovered number owns state
