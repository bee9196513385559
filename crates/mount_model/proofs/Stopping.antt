-- What a stopped call leaves of the store, its own fault may leave, and then its caller is at its end.
use Rattle.std.proofs.Common.{◌≡◌, ℕ, ◌≤◌, ◌<◌, ◌^◌, List, [], ◌∷◌, length, map, filter, not, ◌==◌, true, false, nat_eq, Bool, Option, Some, None, refl, sym, ap, ◌∙◌, ◌⊎◌, inl, inr, subst, arith, Ok, Err, if◌then◌else◌, option_and_then}
use Rattle.std.specs.Prelude.{MatchOption}
use Rattle.plfs_types.specs.declared.entries.Entry.{Entry}
use Rattle.edge_io.specs.Clock.{Ticks}
use Rattle.store_api.specs.declared.store.Trouble.TheVariants as trouble
use Rattle.store_api.specs.Step.{Step, rooms as all_rooms, find_room, make_room, list_folder}
use Rattle.store_api.specs.Acts.{Stored, Acts}
use Rattle.mount_model.specs.declared.call.Call.{Call}
use Rattle.mount_model.specs.declared.call.Call.TheVariants.{Greet, Find, MakeContainer, Rooms, Look, Enter, Floor, MakeHostdir, MakeIndex, MakeLog, Write, Flush, SyncLog, SyncIndex, PutMeta, Exit, Hold, Mark, Move, Release, StartFlat, PutFlat, SyncFlat, InstallFlat, StartPack, SyncDropping, Inspect, Mend, MendMeta, Bury, MendHold}
use Rattle.mount_model.specs.declared.call.Look.{Look as Sight}
use Rattle.mount_model.specs.declared.call.Look.TheVariants as sight
use Rattle.mount_model.specs.declared.row.Row.{Row}
use Rattle.mount_model.specs.declared.row.Stage.{Stage}
use Rattle.mount_model.specs.declared.row.Stage.TheVariants as stage
use Rattle.mount_model.specs.declared.row.Holder.{Holder}
use Rattle.mount_model.specs.declared.row.Flattening.{Flattening}
use Rattle.mount_model.specs.declared.row.Making.TheVariants as making
use Rattle.mount_model.specs.declared.row.FlatStage.TheVariants as flat_stage
use Rattle.mount_model.specs.declared.reply.Refusal.{Refusal}
use Rattle.mount_model.specs.declared.reply.Refusal.TheVariants.{NotOpen}
use Rattle.mount_model.specs.declared.reply.Reply.{Reply}
use Rattle.mount_model.specs.declared.reply.Reply.TheVariants.{Fault, NoMemory}
use Rattle.mount_model.specs.Table.{row_of, writer_of, only, may_close, is_live, at_stage, with_row, holder_at, without_holder, holder_of, flattening_at, without_flattening, flattening_of}
use Rattle.mount_model.specs.State.{State, Table, put, drawn, timed}
use Rattle.mount_model.specs.Making.{Told, CallOutcome, MakesAct, Refuses, room_check, OnWriter, UnlessRefused}
use Rattle.mount_model.specs.Finding.{find_outcome, make_outcome}
use Rattle.mount_model.specs.Looking.{look_outcome, look_step}
use Rattle.mount_model.specs.Building.{build_outcome, hostdir_step, index_step, log_step}
use Rattle.mount_model.specs.Writing.{write_check, write_step, write_outcome, stamp_at}
use Rattle.mount_model.specs.Flushing.{FlushesRow, flush_step, flush_outcome, sync_log_step, sync_log_outcome, sync_index_step, sync_index_outcome}
use Rattle.mount_model.specs.Entering.{EntersAs, draw_check, enter_step, enter_outcome, entered}
use Rattle.mount_model.specs.Leaving.{closing, put_meta_check, put_meta_step, put_meta_outcome, exit_check, exit_step, exit_outcome}
use Rattle.mount_model.specs.Holding.{hold_step, HoldsRoom, truncate_check, truncate_stamp, truncate_step, truncate_outcome, rename_step, rename_outcome, release_step, release_outcome, let_go}
use Rattle.mount_model.specs.Flattening.{begun_flat, start_step, start_outcome, StartsPackOf, put_flat_step, put_flat_outcome, sync_flat_step, sync_flat_outcome, install_step, install_outcome, drop_flat}
use Rattle.mount_model.specs.Recovering.{IsHostAndWriter, done_outcome, sync_dropping_step, mend_check, mend_step, mended_file, mend_meta_step, mend_meta_outcome, bury_step, bury_outcome, mend_hold_check, mend_hold_step, mend_hold_outcome}
use Rattle.mount_model.specs.Paths.{truncs, new_folders, new_files, dropping_path, index_path, log_path, open_path}
use Rattle.container_layout.specs.Paths.{hostdir_of}
use Rattle.mount_model.specs.Acting.{unless, flush_act, act_of}
use Rattle.mount_model.specs.Stopping.{part_of, row_ended, without_caller, drawn_unless, begun, MakesPart, IsEndedBy, IsWellTyped, TicksFor, Stops}
use Rattle.mount_model.specs.Step.{Answers}
use Rattle.mount_model.specs.Stopped.{IsCutShort, StopsShort, IsLeftBy}
use Rattle.mount_model.proofs.Deciding.{IsHeld, is_held, is_holding, is_underway}
use Rattle.mount_model.proofs.Tables.{itself}
use Rattle.mount_model.proofs.Broken.{failed, part_fails}

-- ---- the table of a caller at its end

own_tested : (owner caller : ℕ) → owner ≡ caller → nat_eq owner caller ≡ true
own_tested owner caller own = subst (λ c. nat_eq owner c ≡ true) own (itself owner)

abbrev holders_ended : ℕ → List Holder → List Holder
holders_ended caller holders = filter (λ (h : Holder). not (h.owner == caller)) holders

abbrev flattenings_ended : ℕ → List Flattening → List Flattening
flattenings_ended caller flattenings = filter (λ (f : Flattening). not (f.owner == caller)) flattenings

ended_own : (caller : ℕ) (s : Stage) (row : Row) → row.owner ≡ caller → row_ended caller (at_stage s row) ≡ row_ended caller row
ended_own caller s row own =
    let t : nat_eq row.owner caller ≡ true = own_tested row.owner caller own in
    rw t refl

ended_rows : (caller : ℕ) (new row : Row) (rows : List Row) → row_of new.id rows ≡ Some row → row_ended caller new ≡ row_ended caller row → map (row_ended caller) (with_row new rows) ≡ map (row_ended caller) rows
ended_rows caller new row [] found same = refl
ended_rows caller new row (x ∷ rows) found same = elim (nat_eq x.id new.id) as (λ b. (if b then Some x else row_of new.id rows) ≡ Some row → map (row_ended caller) (if b then new ∷ rows else x ∷ with_row new rows) ≡ map (row_ended caller) (x ∷ rows)) [
  | true ↦ λ f. let is : row ≡ x = cc in ap (λ (r : Row). r ∷ map (row_ended caller) rows) (same ∙ ap (row_ended caller) is)
  | false ↦ λ f. ap (λ (rs : List Row). row_ended caller x ∷ rs) (ended_rows caller new row rows f same)
] found

-- its writer's stage is told no more
put_ended : (caller id : ℕ) (stages : Stage → Bool) (s : Stage) (row : Row) (table : Table) → IsHeld caller stages id table.writers row → without_caller caller (put (at_stage s row) table) ≡ without_caller caller table
put_ended caller id stages s row table held =
    let found : row_of row.id table.writers ≡ Some row = subst (λ i. row_of i table.writers ≡ Some row) (sym held.is) held.found in
    let same = ended_rows caller (at_stage s row) row table.writers found (ended_own caller s row held.owned) in
    ap (λ (rows : List Row). without_rows rows) same
  where
    without_rows : List Row → Table
    without_rows rows = record { writers = rows; holders = (without_caller caller table).holders; flattenings = (without_caller caller table).flattenings }

-- its holder is gone
ended_holders : (caller number : ℕ) (holders : List Holder) (h : Holder) → holder_at number holders ≡ Some h → h.owner ≡ caller → holders_ended caller (without_holder number holders) ≡ holders_ended caller holders
ended_holders caller number [] h found own = refl
ended_holders caller number (x ∷ holders) h found own = elim (nat_eq x.number number) as (λ b. (if b then Some x else holder_at number holders) ≡ Some h → holders_ended caller (if b then holders else x ∷ without_holder number holders) ≡ holders_ended caller (x ∷ holders)) [
  | true ↦ λ f.
      let is : x ≡ h = cc in
      let its : nat_eq x.owner caller ≡ true = own_tested x.owner caller (ap (λ (y : Holder). y.owner) is ∙ own) in
      rw its refl
  | false ↦ λ f. ap (λ (hs : List Holder). if not (nat_eq x.owner caller) then x ∷ hs else hs) (ended_holders caller number holders h f own)
] found

release_ended : (caller number : ℕ) (table : Table) (h : Holder) → holder_at number table.holders ≡ Some h → h.owner ≡ caller → without_caller caller (let_go number table) ≡ without_caller caller table
release_ended caller number table h found own = ap (λ (hs : List Holder). with_holders hs) (ended_holders caller number table.holders h found own)
  where
    with_holders : List Holder → Table
    with_holders hs = record { writers = (without_caller caller table).writers; holders = hs; flattenings = (without_caller caller table).flattenings }

-- its flattening is gone
ended_flattenings : (caller id : ℕ) (flattenings : List Flattening) (f : Flattening) → flattening_at id flattenings ≡ Some f → f.owner ≡ caller → flattenings_ended caller (without_flattening id flattenings) ≡ flattenings_ended caller flattenings
ended_flattenings caller id [] f found own = refl
ended_flattenings caller id (x ∷ flattenings) f found own = elim (nat_eq x.id id) as (λ b. (if b then Some x else flattening_at id flattenings) ≡ Some f → flattenings_ended caller (if b then flattenings else x ∷ without_flattening id flattenings) ≡ flattenings_ended caller (x ∷ flattenings)) [
  | true ↦ λ e.
      let is : x ≡ f = cc in
      let its : nat_eq x.owner caller ≡ true = own_tested x.owner caller (ap (λ (y : Flattening). y.owner) is ∙ own) in
      rw its refl
  | false ↦ λ e. ap (λ (fs : List Flattening). if not (nat_eq x.owner caller) then x ∷ fs else fs) (ended_flattenings caller id flattenings f e own)
] found

install_ended : (caller id : ℕ) (table : Table) (f : Flattening) → flattening_at id table.flattenings ≡ Some f → f.owner ≡ caller → without_caller caller (drop_flat id table) ≡ without_caller caller table
install_ended caller id table f found own = ap (λ (fs : List Flattening). with_flattenings fs) (ended_flattenings caller id table.flattenings f found own)
  where
    with_flattenings : List Flattening → Table
    with_flattenings fs = record { writers = (without_caller caller table).writers; holders = (without_caller caller table).holders; flattenings = fs }

-- ---- the call's own fault

-- the state of a call that a fault was answered to
abbrev struck : State → Stored → Option (List ℕ) → Table → State
struck from store times table = record from { store = store; times = times; table = table }

-- the call is answered a fault, and its caller's end leaves the same table as without it
record Strikes (old : State) (caller : ℕ) (call : Call) (store : Stored) : Type 0 where
  times : Option (List ℕ)
  table : Table
  answers : Answers old caller call Fault (struck (begun old call) store times table)
  same : without_caller caller table ≡ without_caller caller old.table

act_cases : {A : Type 0} (o : Option A) (act : A → Option Step) (step : Step) → option_and_then act o ≡ Some step → (its : A) × (o ≡ Some its) × (act its ≡ Some step)
act_cases None act step e = absurd (cc)
act_cases (Some its) act step e = (its, refl, e)

unless_cases : (check : Option Refusal) (made step : Step) → unless check made ≡ Some step → (check ≡ None) × (made ≡ step)
unless_cases None made step e = (refl, cc)
unless_cases (Some why) made step e = absurd (cc)

made_is : (made step : Step) → Some made ≡ Some step → made ≡ step
made_is made step e = cc

-- a call whose act was answered a fault
struck_by : (step : Step) (outcome : Told → CallOutcome) (from : State) (store : Stored) → Acts step from.store store (Err trouble.Fault) → (outcome (Err trouble.Fault)).reply ≡ Fault
    → MakesAct step outcome from Fault (record from { store = store; table = (outcome (Err trouble.Fault)).table })
struck_by step outcome from store made is = record { told = Err trouble.Fault; made = made; answered = sym is; after = refl }

-- what is done with what is found
found_does : {A : Type 0} (o : Option A) (P : Type 0) (does : A → Type 0) (its : A) → o ≡ Some its → does its → MatchOption o P does
found_does o P does its found d = subst (λ (x : Option _). MatchOption x P does) (sym found) d

on_row : (caller : ℕ) (stages : Stage → Bool) (id : ℕ) (old : State) (reply : Reply) (new : State) (does : Row → Type 0) (row : Row) → writer_of caller stages id old.table.writers ≡ Some row → does row → OnWriter caller stages id old reply new does
on_row caller stages id old reply new does row found d = found_does (writer_of caller stages id old.table.writers) (Refuses NotOpen old reply new) does row found d

on_none : (check : Option Refusal) (old : State) (reply : Reply) (new : State) (does : Type 0) → check ≡ None → does → UnlessRefused check old reply new does
on_none check old reply new does none d = subst (λ (o : Option Refusal). MatchOption o does (λ why. Refuses why old reply new)) (sym none) d

-- the time at which a truncate's dropping is made is one of the clock's
abbrev IsTimeOf : Call → ℕ → Type 0
IsTimeOf (Mark holder size top) time = time < 2 ^ 64
IsTimeOf call time = Unit {0}

time_of : (call : Call) (step : Step) (times left : Option (List ℕ)) (time : ℕ) → TicksFor call (Some step) times left time → IsTimeOf call time
time_of (Mark holder size top) step times left time t = t.0
time_of call step times left time t = tt

look_struck : (look : Sight) (old : State) → (look_outcome look old (Err trouble.Fault)).reply ≡ Fault
look_struck sight.Top old = refl
look_struck (sight.List folder) old = refl
look_struck (sight.Length path) old = refl
look_struck (sight.Read path at len) old = refl

module _ (old : State) (caller : ℕ) (step : Step) (store : Stored) (made : Acts step old.store store (Err trouble.Fault)) (untold : old.times ≡ None) where
  made_as : (its : Step) → its ≡ step → Acts its old.store store (Err trouble.Fault)
  made_as its is = subst (λ s. Acts s old.store store (Err trouble.Fault)) (sym is) made

  -- a call with one line for a fault, after which its writer's stage may be another
  row_strikes : (stages : Stage → Bool) (id : ℕ) (its : Row → Step) (outcome : Row → Told → CallOutcome) (call : Call) → (begun old call ≡ old)
      → ((row : Row) → (outcome row (Err trouble.Fault)).reply ≡ Fault)
      → ((row : Row) → IsHeld caller stages id old.table.writers row → without_caller caller (outcome row (Err trouble.Fault)).table ≡ without_caller caller old.table)
      → ((row : Row) → writer_of caller stages id old.table.writers ≡ Some row → MakesAct (its row) (outcome row) old Fault (record old { store = store; table = (outcome row (Err trouble.Fault)).table }) → Answers old caller call Fault (record old { store = store; table = (outcome row (Err trouble.Fault)).table }))
      → (row : Row) → writer_of caller stages id old.table.writers ≡ Some row → its row ≡ step → Strikes old caller call store
  row_strikes stages id its outcome call whole faults ends answers row found is = record {
    times = old.times;
    table = (outcome row (Err trouble.Fault)).table;
    answers = subst (λ (from : State). Answers old caller call Fault (struck from store old.times (outcome row (Err trouble.Fault)).table)) (sym whole)
        (answers row found (struck_by (its row) (outcome row) old store (made_as (its row) is) (faults row)));
    same = ends row (is_held caller stages id old.table.writers row found);
  }

  enter_strikes : (room host most : ℕ) → host < 2 ^ 32 → unless (draw_check old room) (enter_step old room host) ≡ Some step → Strikes old caller (Enter room host most) store
  enter_strikes room host most fits e =
      let (none, is) = unless_cases (draw_check old room) (enter_step old room host) step e in
      record {
        times = old.times;
        table = old.table;
        answers = subst (λ (check : Option Refusal). MatchOption check (EntersAs caller room host most old Fault (struck (drawn_unless check old) store old.times old.table)) (λ why. Refuses why old Fault (struck (drawn_unless check old) store old.times old.table))) (sym none)
            (record { host_fits = fits; makes = struck_by (enter_step old room host) (enter_outcome (entered old caller room host most) old.table) (drawn old) store (made_as (enter_step old room host) is) refl });
        same = refl;
      }

  write_strikes : (writer at : ℕ) (block : List ℕ) → 1 ≤ length block → (row : Row) → writer_of caller (only stage.Open) writer old.table.writers ≡ Some row → unless (write_check row at (length block)) (write_step row block) ≡ Some step → Strikes old caller (Write writer at block) store
  write_strikes writer at block some row found e =
      let (none, is) = unless_cases (write_check row at (length block)) (write_step row block) step e in
      record {
        times = None;
        table = old.table;
        answers = on_row caller (only stage.Open) writer old Fault _ _ row found (on_none (write_check row at (length block)) old Fault _ _ none (record {
          some = some;
          time = 0;
          times = None;
          in_range = omega arith;
          ticks = subst (λ (times : Option (List ℕ)). Ticks times None 0) (sym untold) refl;
          makes = struck_by (write_step row block) (write_outcome (stamp_at 0 row) row at (length block) old.table) (timed None old) store (made_as (write_step row block) is) refl;
        }));
        same = refl;
      }

  flush_strikes : (writer : ℕ) (row : Row) → writer_of caller (only stage.Open) writer old.table.writers ≡ Some row → (pending : List Entry) → pending ≡ row.pending.entries → flush_act row pending ≡ Some step → Strikes old caller (Flush writer) store
  flush_strikes writer row found [] are e = absurd (cc)
  flush_strikes writer row found (first ∷ rest) are e = record {
    times = old.times;
    table = old.table;
    answers = on_row caller (only stage.Open) writer old Fault _ _ row found
        (subst (λ (es : List Entry). FlushesRow row es old Fault (struck old store old.times old.table)) are
        (struck_by (flush_step row) (flush_outcome row old.table) old store (made_as (flush_step row) (made_is (flush_step row) step e)) refl));
    same = refl;
  }

  hold_strikes : (room : ℕ) → unless (draw_check old room) (hold_step room) ≡ Some step → Strikes old caller (Hold room) store
  hold_strikes room e =
      let (none, is) = unless_cases (draw_check old room) (hold_step room) step e in
      record {
        times = old.times;
        table = old.table;
        answers = subst (λ (check : Option Refusal). MatchOption check (HoldsRoom caller room old Fault (struck (drawn_unless check old) store old.times old.table)) (λ why. Refuses why old Fault (struck (drawn_unless check old) store old.times old.table))) (sym none)
            (record { told = Err trouble.Fault; made = made_as (hold_step room) is; outcome = (refl, refl); after = refl });
        same = refl;
      }

  mark_strikes : (time number size top : ℕ) → time < 2 ^ 64 → (h : Holder) → holder_of caller number old.table.holders ≡ Some h → unless (truncate_check size top) (truncate_step h (truncate_stamp time top) size) ≡ Some step → Strikes old caller (Mark number size top) store
  mark_strikes time number size top fits h found e =
      let (none, is) = unless_cases (truncate_check size top) (truncate_step h (truncate_stamp time top) size) step e in
      record {
        times = None;
        table = old.table;
        answers = found_does (holder_of caller number old.table.holders) _ _ h found (on_none (truncate_check size top) old Fault _ _ none (record {
          time = time;
          times = None;
          in_range = fits;
          ticks = subst (λ (times : Option (List ℕ)). Ticks times None time) (sym untold) refl;
          makes = struck_by (truncate_step h (truncate_stamp time top) size) (truncate_outcome (truncate_stamp time top) size old.table) (timed None old) store (made_as (truncate_step h (truncate_stamp time top) size) is) refl;
        }));
        same = refl;
      }

  start_strikes : (room : ℕ) → unless (draw_check old room) (start_step (begun_flat old caller room making.Flat)) ≡ Some step → Strikes old caller (StartFlat room) store
  start_strikes room e =
      let f = begun_flat old caller room making.Flat in
      let (none, is) = unless_cases (draw_check old room) (start_step f) step e in
      record {
        times = old.times;
        table = old.table;
        answers = subst (λ (check : Option Refusal). MatchOption check (MakesAct (start_step f) (start_outcome f old.table) (drawn old) Fault (struck (drawn_unless check old) store old.times old.table)) (λ why. Refuses why old Fault (struck (drawn_unless check old) store old.times old.table))) (sym none)
            (struck_by (start_step f) (start_outcome f old.table) (drawn old) store (made_as (start_step f) is) refl);
        same = refl;
      }

  pack_strikes : (room host writer : ℕ) → IsHostAndWriter host writer → unless (draw_check old room) (start_step (begun_flat old caller room (making.Pack host writer))) ≡ Some step → Strikes old caller (StartPack room host writer) store
  pack_strikes room host writer named e =
      let f = begun_flat old caller room (making.Pack host writer) in
      let (none, is) = unless_cases (draw_check old room) (start_step f) step e in
      record {
        times = old.times;
        table = old.table;
        answers = subst (λ (check : Option Refusal). MatchOption check (StartsPackOf caller room host writer old Fault (struck (drawn_unless check old) store old.times old.table)) (λ why. Refuses why old Fault (struck (drawn_unless check old) store old.times old.table))) (sym none)
            (record { named = named; makes = struck_by (start_step f) (start_outcome f old.table) (drawn old) store (made_as (start_step f) is) refl });
        same = refl;
      }

  strikes : (time : ℕ) (call : Call) → IsWellTyped call → IsTimeOf call time → act_of time old caller call ≡ Some step → Strikes old caller call store
  strikes time Greet typed fits e = absurd (cc)
  strikes time (Find name) typed fits e = record { times = old.times; table = old.table; answers = record { named = typed; makes = struck_by (find_room name) (find_outcome old.table) old store (made_as (find_room name) (made_is _ step e)) refl }; same = refl }
  strikes time (MakeContainer name) typed fits e = record { times = old.times; table = old.table; answers = record { named = typed; makes = struck_by _ (make_outcome old.table) old store (made_as (make_room name new_folders new_files) (made_is _ step e)) refl }; same = refl }
  strikes time Rooms typed fits e = record { times = old.times; table = old.table; answers = record { told = Err trouble.Fault; made = made_as all_rooms (made_is _ step e); answered = refl; after = refl }; same = refl }
  strikes time (Look room look) typed fits e =
      let (none, is) = unless_cases (room_check old room) (look_step room look) step e in
      record { times = old.times; table = old.table; answers = on_none (room_check old room) old Fault _ _ none (struck_by (look_step room look) (look_outcome look old) old store (made_as (look_step room look) is) (look_struck look old)); same = refl }
  strikes time (Enter room host most) typed fits e = enter_strikes room host most typed e
  strikes time (Floor writer) typed fits e =
      let (row, found, is) = act_cases _ _ step e in
      record { times = old.times; table = old.table; answers = on_row caller (only stage.Entered) writer old Fault _ _ row found (record { told = Err trouble.Fault; made = made_as (list_folder row.room truncs) (made_is _ step is); outcome = (refl, refl); after = refl }); same = refl }
  strikes time (MakeHostdir writer) typed fits e =
      let (row, found, is) = act_cases _ _ step e in
      row_strikes (only stage.Floored) writer hostdir_step (λ r. build_outcome stage.Housed (hostdir_of r.host) [] r old.table) (MakeHostdir writer) refl (λ r. refl) (λ r held. refl) (λ r f m. on_row caller (only stage.Floored) writer old Fault _ _ r f m) row found (made_is _ step is)
  strikes time (MakeIndex writer) typed fits e =
      let (row, found, is) = act_cases _ _ step e in
      row_strikes (only stage.Housed) writer index_step (λ r. build_outcome stage.Indexed (hostdir_of r.host) (index_path r.host r.id).file r old.table) (MakeIndex writer) refl (λ r. refl) (λ r held. refl) (λ r f m. on_row caller (only stage.Housed) writer old Fault _ _ r f m) row found (made_is _ step is)
  strikes time (MakeLog writer) typed fits e =
      let (row, found, is) = act_cases _ _ step e in
      row_strikes (only stage.Indexed) writer log_step (λ r. build_outcome stage.Open (hostdir_of r.host) (log_path r.host r.id).file r old.table) (MakeLog writer) refl (λ r. refl) (λ r held. refl) (λ r f m. on_row caller (only stage.Indexed) writer old Fault _ _ r f m) row found (made_is _ step is)
  strikes time (Write writer at block) typed fits e =
      let (row, found, is) = act_cases _ _ step e in
      write_strikes writer at block typed row found is
  strikes time (Flush writer) typed fits e =
      let (row, found, is) = act_cases _ _ step e in
      flush_strikes writer row found row.pending.entries refl is
  strikes time (SyncLog writer) typed fits e =
      let (row, found, is) = act_cases _ _ step e in
      row_strikes (only stage.Open) writer sync_log_step (λ r. sync_log_outcome r old.table) (SyncLog writer) refl (λ r. refl) (λ r held. refl) (λ r f m. on_row caller (only stage.Open) writer old Fault _ _ r f m) row found (made_is _ step is)
  strikes time (SyncIndex writer) typed fits e =
      let (row, found, is) = act_cases _ _ step e in
      row_strikes (only stage.Open) writer sync_index_step (λ r. sync_index_outcome r old.table) (SyncIndex writer) refl (λ r. refl) (λ r held. refl) (λ r f m. on_row caller (only stage.Open) writer old Fault _ _ r f m) row found (made_is _ step is)
  strikes time (PutMeta writer) typed fits e =
      let (row, found, is) = act_cases _ _ step e in
      let (none, its) = unless_cases (put_meta_check row) (put_meta_step row) step is in
      record {
        times = old.times;
        table = put (closing row) old.table;
        answers = on_row caller may_close writer old Fault _ _ row found (on_none (put_meta_check row) old Fault _ _ none (struck_by (put_meta_step row) (put_meta_outcome row old.table) old store (made_as (put_meta_step row) its) refl));
        same = put_ended caller writer may_close stage.Closing row old.table (is_held caller may_close writer old.table.writers row found);
      }
  strikes time (Exit writer) typed fits e =
      let (row, found, is) = act_cases _ _ step e in
      let (none, its) = unless_cases (exit_check row) (exit_step row) step is in
      record {
        times = old.times;
        table = put (at_stage stage.Dead row) old.table;
        answers = on_row caller is_live writer old Fault _ _ row found (on_none (exit_check row) old Fault _ _ none (struck_by (exit_step row) (exit_outcome row old.table) old store (made_as (exit_step row) its) refl));
        same = put_ended caller writer is_live stage.Dead row old.table (is_held caller is_live writer old.table.writers row found);
      }
  strikes time (Hold room) typed fits e = hold_strikes room e
  strikes time (Mark number size top) typed fits e =
      let (h, found, is) = act_cases _ _ step e in
      mark_strikes time number size top fits h found is
  strikes time (Move number to) typed fits e =
      let (h, found, is) = act_cases _ _ step e in
      record { times = old.times; table = old.table; answers = found_does (holder_of caller number old.table.holders) _ _ h found (record { named = typed; makes = struck_by (rename_step h to) (rename_outcome old.table) old store (made_as (rename_step h to) (made_is _ step is)) refl }); same = refl }
  strikes time (Release number) typed fits e =
      let (h, found, is) = act_cases _ _ step e in
      let its = is_holding caller number old.table.holders h found in
      record {
        times = old.times;
        table = let_go h.number old.table;
        answers = found_does (holder_of caller number old.table.holders) _ _ h found (struck_by (release_step h) (release_outcome h old.table) old store (made_as (release_step h) (made_is _ step is)) refl);
        same = release_ended caller h.number old.table h (subst (λ n. holder_at n old.table.holders ≡ Some h) (sym its.is) its.found) its.owned;
      }
  strikes time (StartFlat room) typed fits e = start_strikes room e
  strikes time (PutFlat flat bytes) typed fits e =
      let (f, found, is) = act_cases _ _ step e in
      record { times = old.times; table = old.table; answers = found_does (flattening_of caller flat_stage.Begun flat old.table.flattenings) _ _ f found (struck_by (put_flat_step f bytes) (put_flat_outcome f old.table) old store (made_as (put_flat_step f bytes) (made_is _ step is)) refl); same = refl }
  strikes time (SyncFlat flat) typed fits e =
      let (f, found, is) = act_cases _ _ step e in
      record { times = old.times; table = old.table; answers = found_does (flattening_of caller flat_stage.Put flat old.table.flattenings) _ _ f found (struck_by (sync_flat_step f) (sync_flat_outcome f old.table) old store (made_as (sync_flat_step f) (made_is _ step is)) refl); same = refl }
  strikes time (InstallFlat flat) typed fits e =
      let (f, found, is) = act_cases _ _ step e in
      let its = is_underway caller flat_stage.Synced flat old.table.flattenings f found in
      record {
        times = old.times;
        table = drop_flat f.id old.table;
        answers = found_does (flattening_of caller flat_stage.Synced flat old.table.flattenings) _ _ f found (struck_by (install_step f) (install_outcome f old.table) old store (made_as (install_step f) (made_is _ step is)) refl);
        same = install_ended caller f.id old.table f (subst (λ n. flattening_at n old.table.flattenings ≡ Some f) (sym its.is) its.found) its.owned;
      }
  strikes time (StartPack room host writer) typed fits e = pack_strikes room host writer typed e
  strikes time (SyncDropping room host writer is_log) typed fits e =
      let (none, is) = unless_cases (room_check old room) (sync_dropping_step room host writer is_log) step e in
      record { times = old.times; table = old.table; answers = on_none (room_check old room) old Fault _ _ none (record { named = typed; makes = struck_by _ (done_outcome (dropping_path is_log host writer).folder (dropping_path is_log host writer).file old.table) old store (made_as (sync_dropping_step room host writer is_log) is) refl }); same = refl }
  strikes time (Inspect writer) typed fits e = absurd (cc)
  strikes time (Mend room host writer count) typed fits e =
      let (none, is) = unless_cases (mend_check old room writer) (mend_step room host writer count) step e in
      record { times = old.times; table = old.table; answers = on_none (mend_check old room writer) old Fault _ _ none (record { named = typed; makes = struck_by _ (done_outcome (index_path host writer).folder (index_path host writer).file old.table) old store (made_as (mend_step room host writer count) is) refl }); same = refl }
  strikes time (MendMeta room host cover last) typed fits e =
      let (none, is) = unless_cases (mend_check old room cover.writer) (mend_meta_step room host cover last) step e in
      record { times = old.times; table = old.table; answers = on_none (mend_check old room cover.writer) old Fault _ _ none (record { named = typed; makes = struck_by _ (mend_meta_outcome (mended_file host cover last) old.table) old store (made_as (mend_meta_step room host cover last) is) refl }); same = refl }
  strikes time (Bury room host writer) typed fits e =
      let (none, is) = unless_cases (mend_check old room writer) (bury_step room host writer) step e in
      record { times = old.times; table = old.table; answers = on_none (mend_check old room writer) old Fault _ _ none (record { named = typed; makes = struck_by _ (bury_outcome (open_path host writer).file old.table) old store (made_as (bury_step room host writer) is) refl }); same = refl }
  strikes time (MendHold room) typed fits e =
      let (none, is) = unless_cases (mend_hold_check old room) (mend_hold_step room) step e in
      record { times = old.times; table = old.table; answers = on_none (mend_hold_check old room) old Fault _ _ none (struck_by (mend_hold_step room) (mend_hold_outcome old.table) old store (made_as (mend_hold_step room) is) refl); same = refl }

-- ---- what a stop leaves

-- a call that made no act, or none that was told
enter_begins : (old : State) (caller room host most : ℕ) → host < 2 ^ 32 → (check : Option Refusal) → check ≡ draw_check old room → IsCutShort old caller (Enter room host most) (drawn_unless check old)
enter_begins old caller room host most fits None is = inr (NoMemory, inr refl, on_none (draw_check old room) old NoMemory (drawn old) _ (sym is) (record { host_fits = fits; makes = record { told = Err trouble.NoMemory; made = refl; answered = refl; after = refl } }))
enter_begins old caller room host most fits (Some why) is = inl refl

hold_begins : (old : State) (caller room : ℕ) (check : Option Refusal) → check ≡ draw_check old room → IsCutShort old caller (Hold room) (drawn_unless check old)
hold_begins old caller room None is = inr (NoMemory, inr refl, on_none (draw_check old room) old NoMemory (drawn old) _ (sym is) (record { told = Err trouble.NoMemory; made = refl; outcome = (refl, refl); after = refl }))
hold_begins old caller room (Some why) is = inl refl

start_begins : (old : State) (caller room : ℕ) (check : Option Refusal) → check ≡ draw_check old room → IsCutShort old caller (StartFlat room) (drawn_unless check old)
start_begins old caller room None is = inr (NoMemory, inr refl, on_none (draw_check old room) old NoMemory (drawn old) _ (sym is) (record { told = Err trouble.NoMemory; made = refl; answered = refl; after = refl }))
start_begins old caller room (Some why) is = inl refl

pack_begins : (old : State) (caller room host writer : ℕ) → IsHostAndWriter host writer → (check : Option Refusal) → check ≡ draw_check old room → IsCutShort old caller (StartPack room host writer) (drawn_unless check old)
pack_begins old caller room host writer named None is = inr (NoMemory, inr refl, on_none (draw_check old room) old NoMemory (drawn old) _ (sym is) (record { named = named; makes = record { told = Err trouble.NoMemory; made = refl; answered = refl; after = refl } }))
pack_begins old caller room host writer named (Some why) is = inl refl

begins : (old : State) (caller : ℕ) (call : Call) → IsWellTyped call → IsCutShort old caller call (begun old call)
begins old caller (Enter room host most) typed = enter_begins old caller room host most typed (draw_check old room) refl
begins old caller (Hold room) typed = hold_begins old caller room (draw_check old room) refl
begins old caller (StartFlat room) typed = start_begins old caller room (draw_check old room) refl
begins old caller (StartPack room host writer) typed = pack_begins old caller room host writer typed (draw_check old room) refl
begins old caller call typed = inl refl

drawn_store : (check : Option Refusal) (old : State) → (drawn_unless check old).store ≡ old.store
drawn_store None old = refl
drawn_store (Some why) old = refl

drawn_table : (check : Option Refusal) (old : State) → (drawn_unless check old).table ≡ old.table
drawn_table None old = refl
drawn_table (Some why) old = refl

pub begun_store : (old : State) (call : Call) → (begun old call).store ≡ old.store
begun_store old (Enter room host most) = drawn_store (draw_check old room) old
begun_store old (Hold room) = drawn_store (draw_check old room) old
begun_store old (StartFlat room) = drawn_store (draw_check old room) old
begun_store old (StartPack room host writer) = drawn_store (draw_check old room) old
begun_store old call = refl

pub begun_table : (old : State) (call : Call) → (begun old call).table ≡ old.table
begun_table old (Enter room host most) = drawn_table (draw_check old room) old
begun_table old (Hold room) = drawn_table (draw_check old room) old
begun_table old (StartFlat room) = drawn_table (draw_check old room) old
begun_table old (StartPack room host writer) = drawn_table (draw_check old room) old
begun_table old call = refl

like_of : (from new : State) (store : Stored) (times : Option (List ℕ)) (table : Table) (cut : State) → new ≡ struck from store times table → store.tree ≡ cut.store.tree → cut.opened ≡ from.opened → cut.marks ≡ from.marks → cut.mount ≡ from.mount → cut.serial ≡ from.serial → StopsShort cut new
like_of from new store times table cut e tree opened marks mount serial = record {
  tree = ap (λ (s : State). s.store.tree) e ∙ tree;
  opened = ap (λ (s : State). s.opened) e ∙ sym opened;
  marks = ap (λ (s : State). s.marks) e ∙ sym marks;
  mount = ap (λ (s : State). s.mount) e ∙ sym mount;
  serial = ap (λ (s : State). s.serial) e ∙ sym serial;
}

-- the same without what its clock tells
act_untimed : (time : ℕ) (old : State) (caller : ℕ) (call : Call) → act_of time (timed None old) caller call ≡ act_of time old caller call
act_untimed time old caller Greet = refl
act_untimed time old caller call = refl

unless_untimed : (check : Option Refusal) (old : State) → drawn_unless check (timed None old) ≡ timed None (drawn_unless check old)
unless_untimed None old = refl
unless_untimed (Some why) old = refl

begun_untimed : (old : State) (call : Call) → begun (timed None old) call ≡ timed None (begun old call)
begun_untimed old (Enter room host most) = unless_untimed (draw_check old room) old
begun_untimed old (Hold room) = unless_untimed (draw_check old room) old
begun_untimed old (StartFlat room) = unless_untimed (draw_check old room) old
begun_untimed old (StartPack room host writer) = unless_untimed (draw_check old room) old
begun_untimed old call = refl

-- the table that is left is one or the other
end_is : (told : Told) (reply : Reply) (at : State) (caller : ℕ) (new : State) → IsEndedBy told reply at caller new → (table : Table) × (new ≡ record at { table = table }) × ((table ≡ at.table) ⊎ (table ≡ without_caller caller at.table))
end_is (Err trouble.NoMemory) reply at caller new e = (at.table, e.1, inl refl)
end_is (Err trouble.Fault) reply at caller new e = (without_caller caller at.table, e.1, inr refl)
end_is (Ok answer) reply at caller new e = (without_caller caller at.table, e.1, inr refl)

-- the state in which a call's act was made, and its times were asked
abbrev made_at : State → Call → Stored → Option (List ℕ) → State
made_at old call store times = record (begun old call) { store = store; times = times }

-- the store was let be
quiet : (old : State) (caller : ℕ) (call : Call) (told : Told) (store : Stored) (times : Option (List ℕ)) (reply : Reply) (new : State) → IsWellTyped call → store ≡ old.store → IsEndedBy told reply (made_at old call store times) caller new → IsLeftBy old caller call new
quiet old caller call told store times reply new typed same e =
    let (table, is, one) = end_is told reply (made_at old call store times) caller new e in
    record {
      cut = timed None (begun old call);
      short = subst (IsCutShort (timed None old) caller call) (begun_untimed old call) (begins (timed None old) caller call typed);
      like = like_of (begun old call) new store times table (timed None (begun old call)) is (ap (λ (s : Stored). s.tree) (same ∙ sym (begun_store old call))) refl refl refl refl;
      table = elim one as (λ _. (new.table ≡ (begun old call).table) ⊎ (new.table ≡ without_caller caller (begun old call).table)) [
        | inl t ↦ inl (ap (λ (s : State). s.table) is ∙ t)
        | inr t ↦ inr (ap (λ (s : State). s.table) is ∙ t)
      ];
    }

ending : (told : Told) (reply : Reply) (at : State) (caller : ℕ) (new : State) → (told ≡ Err trouble.NoMemory → ⊥) → IsEndedBy told reply at caller new → new ≡ record at { table = without_caller caller at.table }
ending (Err trouble.NoMemory) reply at caller new other e = absurd (other refl)
ending (Err trouble.Fault) reply at caller new other e = e.1
ending (Ok answer) reply at caller new other e = e.1

module _ (old : State) (caller k time : ℕ) (call : Call) (store : Stored) (times : Option (List ℕ)) (reply : Reply) (new : State) (typed : IsWellTyped call) where
  -- a part was made, and told
  told_left : (step part : Step) (told : Told) → IsTimeOf call time → act_of time old caller call ≡ Some step → part_of k step ≡ Some part → (told ≡ Err trouble.NoMemory → ⊥) → Acts part old.store store told
      → IsEndedBy told reply (made_at old call store times) caller new → IsLeftBy old caller call new
  told_left step part told fits act parts other made e =
      let s = strikes (timed None old) caller step (failed old.store store) (part_fails k step part parts old.store store told other made) refl time call typed fits (act_untimed time old caller call ∙ act) in
      let is = ending told reply (made_at old call store times) caller new other e in
      record {
        cut = struck (begun old call) (failed old.store store) s.times s.table;
        short = inr (Fault, inl refl, subst (λ (from : State). Answers (timed None old) caller call Fault (struck from (failed old.store store) s.times s.table)) (begun_untimed old call) s.answers);
        like = like_of (begun old call) new store times (without_caller caller (begun old call).table) _ is refl refl refl refl refl;
        table = inr (ap (λ (x : State). x.table) is ∙ ap (without_caller caller) (begun_table old call) ∙ sym s.same);
      }

  part_told : (step part : Step) (told : Told) → IsTimeOf call time → act_of time old caller call ≡ Some step → part_of k step ≡ Some part → Acts part old.store store told
      → IsEndedBy told reply (made_at old call store times) caller new → IsLeftBy old caller call new
  part_told step part (Err trouble.NoMemory) fits act parts made e = quiet old caller call (Err trouble.NoMemory) store times reply new typed made e
  part_told step part (Err trouble.Fault) fits act parts made e = told_left step part (Err trouble.Fault) fits act parts (λ f. absurd (cc)) made e
  part_told step part (Ok answer) fits act parts made e = told_left step part (Ok answer) fits act parts (λ f. absurd (cc)) made e

  part_left : (step : Step) (told : Told) → act_of time old caller call ≡ Some step → (part : Option Step) → part_of k step ≡ part → TicksFor call part old.times times time → MakesPart part old.store store told
      → IsEndedBy told reply (made_at old call store times) caller new → IsLeftBy old caller call new
  part_left step told act None parts ticks made e = quiet old caller call told store times reply new typed made.1 e
  part_left step told act (Some part) parts ticks made e = part_told step part told (time_of call part old.times times time ticks) act parts made e

  act_left : (act : Option Step) (told : Told) → act_of time old caller call ≡ act → TicksFor call (option_and_then (part_of k) act) old.times times time → MakesPart (option_and_then (part_of k) act) old.store store told
      → IsEndedBy told reply (made_at old call store times) caller new → IsLeftBy old caller call new
  act_left None told act ticks made e = quiet old caller call told store times reply new typed made.1 e
  act_left (Some step) told act ticks made e = part_left step told act (part_of k step) refl ticks made e

-- What a stop leaves, the call's own fault could leave, or want of memory, or nothing did, with its caller's end.
pub stop_left : (old : State) (caller k : ℕ) (call : Call) (reply : Reply) (new : State) → Stops caller k call old reply new → IsLeftBy old caller call new
stop_left old caller k call reply new x = act_left old caller k x.time call x.store x.times reply new x.typed (act_of x.time old caller call) x.told refl x.ticks x.made x.after
