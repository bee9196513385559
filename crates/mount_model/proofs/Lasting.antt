-- Each step keeps the table regular.
use Rattle.std.proofs.Common.{◌≡◌, ◌≢◌, ℕ, ◌≤◌, ◌<◌, List, [], ◌∷◌, length, map, Bool, true, false, nat_eq, not, ◌==◌, Option, Some, None, refl, sym, ◌∙◌, inl, inr, subst, arith, Ok, Err}
use Rattle.std.specs.Prelude.{if◌then◌else◌}
use Rattle.std.specs.List.{All}
use Rattle.std.proofs.lemmas.List.Elements.{All-nil, All-cons, All-head, All-tail}
use Rattle.store_api.specs.declared.step.Answer.TheVariants.{Made, NoFolder, NotEmpty, Names}
use Rattle.store_api.specs.declared.store.Trouble.TheVariants as trouble
use Rattle.store_api.specs.Step.{Step}
use Rattle.store_api.specs.Acts.{Stored}
use Rattle.plfs_types.specs.declared.entries.Entry.{Entry}
use Rattle.mount_model.specs.declared.row.Row.{Row}
use Rattle.mount_model.specs.declared.row.Holder.{Holder}
use Rattle.mount_model.specs.declared.row.Flattening.{Flattening}
use Rattle.mount_model.specs.declared.row.Making.{Making}
use Rattle.mount_model.specs.declared.row.Making.TheVariants as making
use Rattle.mount_model.specs.declared.row.FlatStage.{FlatStage}
use Rattle.mount_model.specs.declared.row.FlatStage.TheVariants.{Begun, Put, Synced}
use Rattle.mount_model.specs.declared.row.Stage.{Stage}
use Rattle.mount_model.specs.declared.row.Stage.TheVariants as stage
use Rattle.mount_model.specs.declared.call.Call.{Call}
use Rattle.mount_model.specs.declared.call.Call.TheVariants.{Greet, Find, MakeContainer, Rooms, Look, Enter, Floor, MakeHostdir, MakeIndex, MakeLog, Write, Flush, SyncLog, SyncIndex, PutMeta, Exit, Hold, Mark, Move, Release, StartFlat, PutFlat, SyncFlat, InstallFlat, StartPack, SyncDropping, Inspect, Mend, MendMeta, Bury, MendHold}
use Rattle.mount_model.specs.declared.call.Ask.{Ask}
use Rattle.mount_model.specs.declared.reply.Refusal.{Refusal}
use Rattle.mount_model.specs.declared.reply.Reply.{Reply}
use Rattle.mount_model.specs.declared.reply.Reply.TheVariants.{Done}
use Rattle.mount_model.specs.Paths.{Name}
use Rattle.mount_model.specs.Table.{at_stage}
use Rattle.mount_model.specs.State.{State, Table, put, drawn, timed}
use Rattle.mount_model.specs.Making.{Told, CallOutcome, MakesAct, OnWriter, UnlessRefused}
use Rattle.mount_model.specs.Finding.{NamesRooms}
use Rattle.mount_model.specs.Entering.{EntersAs, draw_check, entered}
use Rattle.mount_model.specs.Flooring.{FloorsRow, FloorOutcome, floored}
use Rattle.mount_model.specs.Writing.{WritesAt, write_check, wrote, stamp_at}
use Rattle.mount_model.specs.Building.{build_outcome}
use Rattle.mount_model.specs.Flushing.{FlushesRow, flushed, log_synced, index_synced}
use Rattle.mount_model.specs.Leaving.{closed, closing}
use Rattle.mount_model.specs.Holding.{holding, HoldOutcome, HoldsRoom, OnHolder, TruncatesAt, RenamesRoom, let_go}
use Rattle.mount_model.specs.Flattening.{OnFlattening, begun_flat, Starts, StartsPackOf, come_to, drop_flat}
use Rattle.mount_model.specs.Recovering.{SyncsIt, alive_check, MendsIt, MendsItsMeta, BuriesIt}
use Rattle.mount_model.specs.Step.{Answers, IsStep, OwedBy, IsOwed}
use Rattle.mount_model.specs.Stopping.{row_ended, without_caller, drawn_unless, begun, IsEndedBy}
use Rattle.mount_model.specs.Regular.{IsCounted, AreAscending, IsDrawn, IsRegular}
use Rattle.mount_model.proofs.Deciding.{IsHeld, IsHolding, IsUnderway, on_flattening, on_holder, on_writer, unless_refused, may_enter, may_write, step_cases}
use Rattle.mount_model.proofs.Ranges.{counted_entered, counted_staged, counted_log_synced, counted_index_synced, counted_closed, counted_floored, counted_flushed, counted_wrote, floor_fits}
use Rattle.mount_model.proofs.Rows.{AreRegularFor, rows_of, regular_of, regular_for, regular_row, regular_put, regular_taken, regular_drawn, regular_pushed, drawn_later, holders_pushed, holders_without, flattenings_pushed, flattenings_with, flattenings_without, flattening_apart, some_drawn}
use Rattle.mount_model.proofs.Outcomes as table

regular_as : (old new : State) → IsRegular old → new ≡ old → IsRegular new
regular_as old new r e = subst IsRegular (sym e) r

-- a call that makes an act keeps the table regular if it does so whatever the act tells
makes_regular : (step : Step) (outcome : Told → CallOutcome) (old : State) (reply : Reply) (new : State) → IsRegular old
    → ((told : Told) → AreRegularFor old (outcome told).table) → MakesAct step outcome old reply new → IsRegular new
makes_regular step outcome old reply new r keeps m =
    subst IsRegular (sym m.after)
    (regular_of (record old { store = new.store; table = (outcome m.told).table }) r.mount_fits r.serial_fits
    (regular_for old (record old { store = new.store; table = (outcome m.told).table }) (outcome m.told).table refl refl refl (keeps m.told)))

-- the writer's row with other numbers
put_regular : (old : State) (id : ℕ) (row new : Row) → IsRegular old → (caller : ℕ) (stages : Stage → Bool) → IsHeld caller stages id old.table.writers row
    → new.id ≡ row.id → new.room ≡ row.room → (IsCounted row → IsCounted new) → AreRegularFor old (put new old.table)
put_regular old id row new r caller stages held same_id same_room counted =
    let rows = (rows_of old r).writers in
    let was = regular_row old.mount old.serial old.marks id old.table.writers row rows held.found in
    record {
      writers = regular_put old.mount old.serial old.marks old.table.writers new
          (record {
            counted = counted was.counted;
            drawn = (was.drawn.0, was.drawn.1, was.drawn.2, same_id ∙ was.drawn.3);
            apart = λ same. was.apart (sym same_room ∙ same);
          })
          rows;
      holders = r.holders;
      flattenings = r.flattenings;
    }

-- a serial is drawn
next_regular : (old : State) (room : ℕ) → draw_check old room ≡ None → IsRegular old → IsRegular (drawn old)
next_regular old room none r =
    let may = may_enter old room none in
    regular_of (drawn old) r.mount_fits (omega (arith, may.1)) (record {
      writers = regular_drawn old.mount old.serial old.marks old.table.writers (rows_of old r).writers;
      holders = drawn_later old.mount old.serial old.marks _ _ r.holders;
      flattenings = drawn_later old.mount old.serial old.marks _ _ r.flattenings;
    })

module _ (old : State) (regular : IsRegular old) (reply : Reply) (new : State) where
  kept : AreRegularFor old old.table
  kept = rows_of old regular

  by_writer : (caller : ℕ) (stages : Stage → Bool) (id : ℕ) (does : Row → Type 0) → OnWriter caller stages id old reply new does
      → ((row : Row) → IsHeld caller stages id old.table.writers row → does row → IsRegular new) → IsRegular new
  by_writer caller stages id does on keeps = on_writer caller stages id old reply new does (IsRegular new) on (regular_as old new regular) keeps

  by_check : (check : Option Refusal) (does : Type 0) → UnlessRefused check old reply new does → (check ≡ None → does → IsRegular new) → IsRegular new
  by_check check does on keeps = unless_refused check old reply new does (IsRegular new) on (regular_as old new regular) keeps

  rooms_regular : NamesRooms old reply new → IsRegular new
  rooms_regular n = subst IsRegular (sym n.after) (regular_of (record old { store = new.store }) regular.mount_fits regular.serial_fits (regular_for old (record old { store = new.store }) old.table refl refl refl kept))

  enter_regular : (caller room host most : ℕ) → 1 ≤ most → most ≤ 4096 → draw_check old room ≡ None → EntersAs caller room host most old reply new → IsRegular new
  enter_regular caller room host most some few none e =
      let may = may_enter old room none in
      let next : IsRegular (drawn old) = next_regular old room none regular in
      let row : Row = entered old caller room host most in
      makes_regular _ _ (drawn old) reply new next
      (table.enter_table (AreRegularFor (drawn old)) old.table (rows_of (drawn old) next) row
      (record {
        writers = regular_pushed old.mount old.serial old.marks old.table.writers row refl (counted_entered old caller room host most e.host_fits some few) may.0 kept.writers;
        holders = next.holders;
        flattenings = next.flattenings;
      }))
      e.makes

  floor_told : (caller writer : ℕ) (stages : Stage → Bool) (row : Row) → IsHeld caller stages writer old.table.writers row → (after : Table) (told : Told)
      → FloorOutcome row old.table told reply after → AreRegularFor old after
  floor_told caller writer stages row held after (Ok (Names names)) o = elim o as (λ _. AreRegularFor old after) [
    | inl (floor, is, answered, same) ↦ subst (AreRegularFor old) (sym same)
        (put_regular old writer row (floored floor row) regular caller stages held refl refl (counted_floored floor row (floor_fits names floor is)))
    | inr (name, foreign, answered, same) ↦ subst (AreRegularFor old) (sym same) kept
  ]
  floor_told caller writer stages row held after told o = subst (AreRegularFor old) (sym o.1) kept

  floor_regular : (caller writer : ℕ) (stages : Stage → Bool) (row : Row) → IsHeld caller stages writer old.table.writers row → FloorsRow row old reply new → IsRegular new
  floor_regular caller writer stages row held f =
      subst IsRegular (sym f.after)
      (regular_of (record old { store = new.store; table = new.table }) regular.mount_fits regular.serial_fits
      (regular_for old (record old { store = new.store; table = new.table }) new.table refl refl refl (floor_told caller writer stages row held new.table f.told f.outcome)))

  build_regular : (caller writer : ℕ) (stages : Stage → Bool) (to : Stage) (folder file : Name) (step : Step) (row : Row) → IsHeld caller stages writer old.table.writers row
      → MakesAct step (build_outcome to folder file row old.table) old reply new → IsRegular new
  build_regular caller writer stages to folder file step row held m =
      makes_regular step _ old reply new regular
      (table.build_table (AreRegularFor old) old.table kept to folder file row
      (put_regular old writer row (at_stage to row) regular caller stages held refl refl (counted_staged to row)))
      m

  write_regular : (caller writer at : ℕ) (bytes : List ℕ) (stages : Stage → Bool) (row : Row) → IsHeld caller stages writer old.table.writers row
      → write_check row at (length bytes) ≡ None → WritesAt row at bytes old reply new → IsRegular new
  write_regular caller writer at bytes stages row held none w =
      let later : IsRegular (timed w.times old) = regular_of (timed w.times old) regular.mount_fits regular.serial_fits (regular_for old (timed w.times old) old.table refl refl refl kept) in
      makes_regular _ _ (timed w.times old) reply new later
      (table.write_table (AreRegularFor (timed w.times old)) old.table (rows_of (timed w.times old) later) (stamp_at w.time row) row at (length bytes)
      (regular_for old (timed w.times old) (put (wrote (stamp_at w.time row) row at (length bytes)) old.table) refl refl refl
      (put_regular old writer row (wrote (stamp_at w.time row) row at (length bytes)) regular caller stages held refl refl
      (counted_wrote w.time row at (length bytes) w.some (may_write row at (length bytes) none)))))
      w.makes

  flush_regular : (caller writer : ℕ) (stages : Stage → Bool) (row : Row) → IsHeld caller stages writer old.table.writers row → (pending : List Entry) → FlushesRow row pending old reply new → IsRegular new
  flush_regular caller writer stages row held [] f = regular_as old new regular f.1
  flush_regular caller writer stages row held (first ∷ rest) f =
      makes_regular _ _ old reply new regular
      (table.flush_table (AreRegularFor old) old.table kept row (put_regular old writer row (flushed row) regular caller stages held refl refl (counted_flushed row)))
      f

  by_holder : (caller number : ℕ) (does : Holder → Type 0) → OnHolder caller number old reply new does
      → ((h : Holder) → IsHolding caller number old.table.holders h → does h → IsRegular new) → IsRegular new
  by_holder caller number does on keeps = on_holder caller number old reply new does (IsRegular new) on (regular_as old new regular) keeps

  by_flattening : (caller : ℕ) (stage : FlatStage) (id : ℕ) (does : Flattening → Type 0) → OnFlattening caller stage id old reply new does
      → ((f : Flattening) → IsUnderway caller stage id old.table.flattenings f → does f → IsRegular new) → IsRegular new
  by_flattening caller stage id does on keeps = on_flattening caller stage id old reply new does (IsRegular new) on (regular_as old new regular) keeps

  hold_told : (caller room : ℕ) → draw_check old room ≡ None → (after : Table) (told : Told)
      → HoldOutcome (holding old caller room) old.table told reply after → AreRegularFor (drawn old) after
  hold_told caller room none after (Ok Made) o =
      let may = may_enter old room none in
      let next : IsRegular (drawn old) = next_regular old room none regular in
      subst (AreRegularFor (drawn old)) (sym o.1) (record {
        writers = (rows_of (drawn old) next).writers;
        holders = holders_pushed old.mount old.serial old.marks old.table.holders (holding old caller room) refl may.0 kept.holders;
        flattenings = next.flattenings;
      })
  hold_told caller room none after (Ok NoFolder) o = subst (AreRegularFor (drawn old)) (sym o.1) (rows_of (drawn old) (next_regular old room none regular))
  hold_told caller room none after (Ok (NotEmpty least)) o = subst (AreRegularFor (drawn old)) (sym o.1) (rows_of (drawn old) (next_regular old room none regular))
  hold_told caller room none after told o = subst (AreRegularFor (drawn old)) (sym o.1) (rows_of (drawn old) (next_regular old room none regular))

  hold_regular : (caller room : ℕ) → draw_check old room ≡ None → HoldsRoom caller room old reply new → IsRegular new
  hold_regular caller room none h =
      let next : IsRegular (drawn old) = next_regular old room none regular in
      subst IsRegular (sym h.after)
      (regular_of (record (drawn old) { store = new.store; table = new.table }) next.mount_fits next.serial_fits
      (regular_for (drawn old) (record (drawn old) { store = new.store; table = new.table }) new.table refl refl refl (hold_told caller room none new.table h.told h.outcome)))

  truncate_regular : (h : Holder) (size top : ℕ) → TruncatesAt h size top old reply new → IsRegular new
  truncate_regular h size top t =
      let later : IsRegular (timed t.times old) = regular_of (timed t.times old) regular.mount_fits regular.serial_fits (regular_for old (timed t.times old) old.table refl refl refl kept) in
      makes_regular _ _ (timed t.times old) reply new later (table.truncate_table (AreRegularFor (timed t.times old)) old.table (rows_of (timed t.times old) later) _ size) t.makes

  start_regular : (caller room : ℕ) (makes : Making) → draw_check old room ≡ None → Starts caller room makes old reply new → IsRegular new
  start_regular caller room makes none m =
      let may = may_enter old room none in
      let next : IsRegular (drawn old) = next_regular old room none regular in
      makes_regular _ _ (drawn old) reply new next
      (table.start_table (AreRegularFor (drawn old)) old.table (rows_of (drawn old) next) (begun_flat old caller room makes)
      (record {
        writers = (rows_of (drawn old) next).writers;
        holders = next.holders;
        flattenings = flattenings_pushed old.mount old.serial old.marks old.table.flattenings (begun_flat old caller room makes) refl may.0 kept.flattenings;
      }))
      m

  come_regular : (caller : ℕ) (from to : FlatStage) (id : ℕ) (f : Flattening) → IsUnderway caller from id old.table.flattenings f → AreRegularFor old (come_to to f old.table)
  come_regular caller from to id f is = record {
    writers = kept.writers;
    holders = kept.holders;
    flattenings = flattenings_with old.mount old.serial old.marks old.table.flattenings (record f { stage = to })
        (flattening_apart old.mount old.serial old.marks old.table.flattenings id f kept.flattenings is.found) kept.flattenings;
  }

  let_go_regular : (number : ℕ) → AreRegularFor old (let_go number old.table)
  let_go_regular number = record { writers = kept.writers; holders = holders_without old.mount old.serial old.marks old.table.holders number kept.holders; flattenings = kept.flattenings }

  drop_regular : (id : ℕ) → AreRegularFor old (drop_flat id old.table)
  drop_regular id = record { writers = kept.writers; holders = kept.holders; flattenings = flattenings_without old.mount old.serial old.marks old.table.flattenings id kept.flattenings }

  answers_regular : (caller : ℕ) (call : Call) → OwedBy call → Answers old caller call reply new → IsRegular new
  answers_regular caller Greet owed a = regular_as old new regular a.1
  answers_regular caller (Find name) owed a = makes_regular _ _ old reply new regular (table.find_table (AreRegularFor old) old.table kept) a.makes
  answers_regular caller (MakeContainer name) owed a = makes_regular _ _ old reply new regular (table.make_table (AreRegularFor old) old.table kept) a.makes
  answers_regular caller Rooms owed a = rooms_regular a
  answers_regular caller (Look room look) owed a = by_check _ _ a (λ none m. makes_regular _ _ old reply new regular (λ told. rows_of old regular) m)
  answers_regular caller (Enter room host most) owed a = by_check _ _ a (enter_regular caller room host most owed.0 owed.1)
  answers_regular caller (Floor writer) owed a = by_writer caller _ writer _ a (λ row held. floor_regular caller writer _ row held)
  answers_regular caller (MakeHostdir writer) owed a = by_writer caller _ writer _ a (λ row held. build_regular caller writer _ _ _ _ _ row held)
  answers_regular caller (MakeIndex writer) owed a = by_writer caller _ writer _ a (λ row held. build_regular caller writer _ _ _ _ _ row held)
  answers_regular caller (MakeLog writer) owed a = by_writer caller _ writer _ a (λ row held. build_regular caller writer _ _ _ _ _ row held)
  answers_regular caller (Write writer at block) owed a = by_writer caller _ writer _ a (λ row held u. by_check _ _ u (write_regular caller writer at block _ row held))
  answers_regular caller (Flush writer) owed a = by_writer caller _ writer _ a (λ row held. flush_regular caller writer _ row held row.pending.entries)
  answers_regular caller (SyncLog writer) owed a = by_writer caller _ writer _ a (λ row held m. makes_regular _ _ old reply new regular (table.sync_log_table (AreRegularFor old) old.table kept row (put_regular old writer row (log_synced row) regular caller _ held refl refl (counted_log_synced row))) m)
  answers_regular caller (SyncIndex writer) owed a = by_writer caller _ writer _ a (λ row held m. makes_regular _ _ old reply new regular (table.sync_index_table (AreRegularFor old) old.table kept row (put_regular old writer row (index_synced row) regular caller _ held refl refl (counted_index_synced row))) m)
  answers_regular caller (PutMeta writer) owed a = by_writer caller _ writer _ a (λ row held u. by_check _ _ u (λ none m. makes_regular _ _ old reply new regular
      (table.put_meta_table (AreRegularFor old) old.table kept row
      (put_regular old writer row (closed row) regular caller _ held refl refl (counted_closed row))
      (put_regular old writer row (closing row) regular caller _ held refl refl (counted_staged stage.Closing row)))
      m))
  answers_regular caller (Exit writer) owed a = by_writer caller _ writer _ a (λ row held u. by_check _ _ u (λ none m. makes_regular _ _ old reply new regular
      (table.exit_table (AreRegularFor old) old.table kept row
      (record { writers = regular_taken old.mount old.serial old.marks row.id old.table.writers kept.writers; holders = kept.holders; flattenings = kept.flattenings })
      (put_regular old writer row (at_stage stage.Dead row) regular caller _ held refl refl (counted_staged stage.Dead row)))
      m))
  answers_regular caller (Hold room) owed a = by_check _ _ a (hold_regular caller room)
  answers_regular caller (Mark holder size top) owed a = by_holder caller holder _ a (λ h is u. by_check _ _ u (λ none. truncate_regular h size top))
  answers_regular caller (Move holder to) owed a = by_holder caller holder _ a (λ h is. λ (x : RenamesRoom h to old reply new). makes_regular _ _ old reply new regular (table.rename_table (AreRegularFor old) old.table kept) x.makes)
  answers_regular caller (Release holder) owed a = by_holder caller holder _ a (λ h is m. makes_regular _ _ old reply new regular (table.release_table (AreRegularFor old) old.table kept h (let_go_regular h.number)) m)
  answers_regular caller (StartFlat room) owed a = by_check _ _ a (start_regular caller room making.Flat)
  answers_regular caller (PutFlat flat bytes) owed a = by_flattening caller Begun flat _ a (λ f is m. makes_regular _ _ old reply new regular (table.put_flat_table (AreRegularFor old) old.table kept f (come_regular caller _ _ flat f is)) m)
  answers_regular caller (SyncFlat flat) owed a = by_flattening caller Put flat _ a (λ f is m. makes_regular _ _ old reply new regular (table.sync_flat_table (AreRegularFor old) old.table kept f (come_regular caller _ _ flat f is)) m)
  answers_regular caller (InstallFlat flat) owed a = by_flattening caller Synced flat _ a (λ f is m. makes_regular _ _ old reply new regular (table.install_table (AreRegularFor old) old.table kept f (drop_regular f.id)) m)
  answers_regular caller (StartPack room host writer) owed a = by_check _ _ a (λ none. λ (x : StartsPackOf caller room host writer old reply new). start_regular caller room (making.Pack host writer) none x.makes)
  answers_regular caller (SyncDropping room host writer is_log) owed a = by_check _ _ a (λ none. λ (x : SyncsIt room host writer is_log old reply new). makes_regular _ _ old reply new regular (table.done_table (AreRegularFor old) old.table kept _ _) x.makes)
  answers_regular caller (Inspect writer) owed a = by_check (alive_check old writer) ((reply ≡ Done) × (new ≡ old)) a (λ none x. regular_as old new regular x.1)
  answers_regular caller (Mend room host writer count) owed a = by_check _ _ a (λ none. λ (x : MendsIt room host writer count old reply new). makes_regular _ _ old reply new regular (table.done_table (AreRegularFor old) old.table kept _ _) x.makes)
  answers_regular caller (MendMeta room host cover last) owed a = by_check _ _ a (λ none. λ (x : MendsItsMeta room host cover last old reply new). makes_regular _ _ old reply new regular (table.mend_meta_table (AreRegularFor old) old.table kept _) x.makes)
  answers_regular caller (Bury room host writer) owed a = by_check _ _ a (λ none. λ (x : BuriesIt room host writer old reply new). makes_regular _ _ old reply new regular (table.bury_table (AreRegularFor old) old.table kept _) x.makes)
  answers_regular caller (MendHold room) owed a = by_check _ _ a (λ none. makes_regular _ _ old reply new regular (table.mend_hold_table (AreRegularFor old) old.table kept))

-- ---- a caller that is at its end

counted_ended : (caller : ℕ) (row : Row) → IsCounted row → IsCounted (row_ended caller row)
counted_ended caller row c = elim (nat_eq row.owner caller) as (λ b. IsCounted (if b then at_stage stage.Dead row else row)) [
  | true ↦ counted_staged stage.Dead row c
  | false ↦ c
]

ended_id : (caller : ℕ) (row : Row) → (row_ended caller row).id ≡ row.id
ended_id caller row = elim (nat_eq row.owner caller) as (λ b. (if b then at_stage stage.Dead row else row).id ≡ row.id) [ true ↦ refl | false ↦ refl ]

ended_room : (caller : ℕ) (row : Row) → (row_ended caller row).room ≡ row.room
ended_room caller row = elim (nat_eq row.owner caller) as (λ b. (if b then at_stage stage.Dead row else row).room ≡ row.room) [ true ↦ refl | false ↦ refl ]

all_ended : (P : Row → Type 0) (caller : ℕ) → ((row : Row) → P row → P (row_ended caller row)) → (rows : List Row) → All P rows → All P (map (row_ended caller) rows)
all_ended P caller turns [] all = All-nil P
all_ended P caller turns (x ∷ rows) all = All-cons P (row_ended caller x) (map (row_ended caller) rows) (turns x (All-head P x rows all)) (all_ended P caller turns rows (All-tail P x rows all))

ascending_ended : (caller : ℕ) (rows : List Row) → AreAscending rows → AreAscending (map (row_ended caller) rows)
ascending_ended caller [] a = tt
ascending_ended caller (x ∷ rows) a = (
  subst (λ id. All (λ (later : Row). id < later.id) (map (row_ended caller) rows)) (sym (ended_id caller x))
      (all_ended (λ (later : Row). x.id < later.id) caller (λ row less. subst (λ id. x.id < id) (sym (ended_id caller row)) less) rows a.0),
  ascending_ended caller rows a.1,
)

pub ended_regular : (caller : ℕ) (state : State) → IsRegular state → IsRegular (record state { table = without_caller caller state.table })
ended_regular caller state r = record {
  mount_fits = r.mount_fits;
  serial_fits = r.serial_fits;
  counted = all_ended IsCounted caller (counted_ended caller) state.table.writers r.counted;
  ascending = ascending_ended caller state.table.writers r.ascending;
  drawn = all_ended (λ (row : Row). IsDrawn state row.id) caller (λ row d. (d.0, d.1, d.2, ended_id caller row ∙ d.3)) state.table.writers r.drawn;
  apart = all_ended (λ (row : Row). row.room ≢ state.marks) caller (λ row a same. a (sym (ended_room caller row) ∙ same)) state.table.writers r.apart;
  holders = some_drawn (λ (h : Holder). h.number) (λ (h : Holder). h.room) (λ (h : Holder). not (h.owner == caller)) state.mount state.serial state.marks state.table.holders r.holders;
  flattenings = some_drawn (λ (f : Flattening). f.id) (λ (f : Flattening). f.room) (λ (f : Flattening). not (f.owner == caller)) state.mount state.serial state.marks state.table.flattenings r.flattenings;
}

-- the state in which a call's act is made
drawn_regular : (old : State) (room : ℕ) (check : Option Refusal) → (check ≡ None → draw_check old room ≡ None) → IsRegular old → IsRegular (drawn_unless check old)
drawn_regular old room None is r = next_regular old room (is refl) r
drawn_regular old room (Some why) is r = r

pub begun_regular : (old : State) (call : Call) → IsRegular old → IsRegular (begun old call)
begun_regular old (Enter room host most) r = drawn_regular old room (draw_check old room) (λ e. e) r
begun_regular old (Hold room) r = drawn_regular old room (draw_check old room) (λ e. e) r
begun_regular old (StartFlat room) r = drawn_regular old room (draw_check old room) (λ e. e) r
begun_regular old (StartPack room host writer) r = drawn_regular old room (draw_check old room) (λ e. e) r
begun_regular old call r = r

stored_regular : (state : State) (store : Stored) (times : Option (List ℕ)) → IsRegular state → IsRegular (record state { store = store; times = times })
stored_regular state store times r = record {
  mount_fits = r.mount_fits;
  serial_fits = r.serial_fits;
  counted = r.counted;
  ascending = r.ascending;
  drawn = r.drawn;
  apart = r.apart;
  holders = r.holders;
  flattenings = r.flattenings;
}

by_end : (told : Told) (reply : Reply) (at : State) (caller : ℕ) (new : State) → IsEndedBy told reply at caller new → IsRegular at → IsRegular new
by_end (Err trouble.NoMemory) reply at caller new e r = subst IsRegular (sym e.1) r
by_end (Err trouble.Fault) reply at caller new e r = subst IsRegular (sym e.1) (ended_regular caller at r)
by_end (Ok answer) reply at caller new e r = subst IsRegular (sym e.1) (ended_regular caller at r)

-- Each step whose caller owes no more keeps the table regular.
pub step_regular : (old new : State) (caller : ℕ) (ask : Ask) (reply : Reply) → IsOwed ask → IsStep old caller ask reply new → IsRegular old → IsRegular new
step_regular old new caller ask reply owed s r = step_cases old caller ask reply new (IsRegular new) s
    (λ none a. answers_regular old r reply new caller ask.call owed a)
    (λ k some x. by_end x.told reply _ caller new x.after (stored_regular (begun old ask.call) x.store x.times (begun_regular old ask.call r)))
