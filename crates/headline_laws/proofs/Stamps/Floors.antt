-- The floor of each writer in the table is the stamp of a truncate that stood in its container, or 0.
use Rattle.std.proofs.Common.{◌≡◌, ◌⊎◌, inl, inr, ℕ, Bool, true, false, nat_eq, List, [], ◌∷◌, ◌++◌, map, Option, Some, Ok, Err, refl, sym, ap, ◌∙◌, subst, if◌then◌else◌}
use Rattle.std.specs.List.{AllByRecursion, Any}
use Rattle.plfs_types.specs.declared.entries.Entry.{Entry}
use Rattle.plfs_types.specs.declared.names.Path.{Path}
use Rattle.container_layout.specs.declared.items.Item.TheVariants.{Trunc}
use Rattle.container_layout.specs.Paths.{path_of}
use Rattle.store_api.specs.Acts.{Acts, Stored}
use Rattle.store_api.specs.Room.{is_top}
use Rattle.store_api.specs.Step.{Step, list_folder}
use Rattle.store_api.specs.declared.step.Answer.TheVariants.{Made, Names, Old}
use Rattle.store_api.specs.declared.store.Trouble.TheVariants as trouble
use Rattle.store_laws.specs.Files.{file_at}
use Rattle.store_laws.specs.Says.{ListTells}
use Rattle.store_laws.specs.There.{ListsFolder}
use Rattle.store_laws.proofs.Facts.{acts_told, list_tells, look_answered}
use Rattle.mount_model.specs.declared.row.Row.{Row}
use Rattle.mount_model.specs.declared.row.Stage.{Stage}
use Rattle.mount_model.specs.declared.row.Stage.TheVariants as stage
use Rattle.mount_model.specs.declared.call.Ask.{Ask}
use Rattle.mount_model.specs.declared.call.Call.{Call}
use Rattle.mount_model.specs.declared.call.Call.TheVariants.{Enter, Exit, Floor, Flush, MakeHostdir, MakeIndex, MakeLog, PutMeta, SyncIndex, SyncLog, Write}
use Rattle.mount_model.specs.declared.reply.Refusal.{Refusal}
use Rattle.mount_model.specs.declared.reply.Reply.{Reply}
use Rattle.mount_model.specs.Building.{build_outcome}
use Rattle.mount_model.specs.Entering.{EntersAs, enter_outcome, entered}
use Rattle.mount_model.specs.Flooring.{FloorOutcome, FloorsRow, floored}
use Rattle.mount_model.specs.Flushing.{FlushesRow, flush_outcome, flushed, index_synced, log_synced, sync_index_outcome, sync_log_outcome}
use Rattle.mount_model.specs.History.{Event}
use Rattle.mount_model.specs.Leaving.{closed, closing, exit_outcome, put_meta_outcome}
use Rattle.mount_model.specs.Listed.{HasStamp, IsGreatest}
use Rattle.mount_model.specs.Making.{CallOutcome, MakesAct, OnWriter, Told, UnlessRefused}
use Rattle.mount_model.specs.Paths.{Name, truncs}
use Rattle.mount_model.specs.State.{State, Table, drawn, put, timed}
use Rattle.mount_model.specs.Step.{Answers, IsStep}
use Rattle.mount_model.specs.Stopping.{IsEndedBy, begun, row_ended}
use Rattle.mount_model.specs.Table.{at_stage, row_of, with_row, without_row}
use Rattle.mount_model.specs.Writing.{WritesAt, stamp_at, write_outcome, wrote}
use Rattle.mount_model.proofs.Facts.{IsOnNoWriter, begun_table, on_writer, step_cases, unless_refused, writers_spared}
use Rattle.mount_sound.specs.Owed.{IsLawful}
use Rattle.reader_laws.specs.Moments.{HadItem, IsSoundAt, Moment, file_in_room, file_told, moment_after, next_moment}
use Rattle.reader_laws.proofs.Gathered.Facts.{any_found, grows_after, legal_first, named_file}
use Rattle.reader_laws.proofs.Gathered.Moments.Stepping.{sound_next}

-- ---- rows, whatever is asked of the room and of the floor

module _ (F : ℕ → ℕ → Type 0) where
  abbrev pub AreFloored : List Row → Type 0
  AreFloored rows = AllByRecursion (λ (row : Row). F row.room row.floor) rows

  found_floored : (id : ℕ) (rows : List Row) (row : Row) → row_of id rows ≡ Some row → AreFloored rows → F row.room row.floor
  found_floored id [] row is all = absurd (cc)
  found_floored id (x ∷ rows) row is all = elim (nat_eq x.id id) as (λ b. (if b then Some x else row_of id rows) ≡ Some row → F row.room row.floor) [
    | true ↦ λ f. let same : x ≡ row = cc in subst (λ (r : Row). F r.room r.floor) same all.0
    | false ↦ λ f. found_floored id rows row f all.1
  ] is

  put_floored : (new : Row) (rows : List Row) → F new.room new.floor → AreFloored rows → AreFloored (with_row new rows)
  put_floored new [] its all = tt
  put_floored new (x ∷ rows) its all = elim (nat_eq x.id new.id) as (λ b. AreFloored (if b then new ∷ rows else x ∷ with_row new rows)) [
    | true ↦ (its, all.1)
    | false ↦ (all.0, put_floored new rows its all.1)
  ]

  out_floored : (id : ℕ) (rows : List Row) → AreFloored rows → AreFloored (without_row id rows)
  out_floored id [] all = tt
  out_floored id (x ∷ rows) all = elim (nat_eq x.id id) as (λ b. AreFloored (if b then rows else x ∷ without_row id rows)) [
    | true ↦ all.1
    | false ↦ (all.0, out_floored id rows all.1)
  ]

  added_floored : (rows : List Row) (new : Row) → F new.room new.floor → AreFloored rows → AreFloored (rows ++ new ∷ [])
  added_floored [] new its all = (its, tt)
  added_floored (x ∷ rows) new its all = (all.0, added_floored rows new its all.1)

  ended_one : (caller : ℕ) (row : Row) → F row.room row.floor → F (row_ended caller row).room (row_ended caller row).floor
  ended_one caller row its = elim (nat_eq row.owner caller) as (λ b. F (if b then at_stage stage.Dead row else row).room (if b then at_stage stage.Dead row else row).floor) [ true ↦ its | false ↦ its ]

  ended_floored : (caller : ℕ) (rows : List Row) → AreFloored rows → AreFloored (map (row_ended caller) rows)
  ended_floored caller [] all = tt
  ended_floored caller (x ∷ rows) all = (ended_one caller x all.0, ended_floored caller rows all.1)

  -- ---- a call

  -- a floor that was told is one
  abbrev pub TellsFloors : State → Reply → State → Type 0
  TellsFloors old reply new = (row : Row) (f : FloorsRow row old reply new) (names : List Name) (floor : ℕ) → f.told ≡ Ok (Names names) → IsGreatest HasStamp names floor → F row.room floor

  module _ (old : State) (reply : Reply) (new : State) (all : AreFloored old.table.writers) (fresh : (room : ℕ) → F room 0) (floors : TellsFloors old reply new) where
    abbrev Stays : Table → Type 0
    Stays t = AreFloored t.writers

    as_before : new ≡ old → Stays new.table
    as_before e = subst (λ (s : State). Stays s.table) (sym e) all

    with_writers : (rows : List Row) → rows ≡ old.table.writers → AreFloored rows
    with_writers rows e = subst AreFloored (sym e) all

    by_act : (step : Step) (outcome : Told → CallOutcome) (from : State) → ((told : Told) → Stays (outcome told).table) → MakesAct step outcome from reply new → Stays new.table
    by_act step outcome from stays m = subst Stays (sym (ap (λ (s : State). s.table) m.after)) (stays m.told)

    by_writer : (caller : ℕ) (stages : Stage → Bool) (id : ℕ) (does : Row → Type 0) → OnWriter caller stages id old reply new does → ((row : Row) → F row.room row.floor → does row → Stays new.table) → Stays new.table
    by_writer caller stages id does on keeps = on_writer caller stages id old reply new does (Stays new.table) on as_before (λ row held. keeps row (found_floored id old.table.writers row held.found all))

    by_check : (check : Option Refusal) (does : Type 0) → UnlessRefused check old reply new does → (does → Stays new.table) → Stays new.table
    by_check check does on keeps = unless_refused check old reply new does (Stays new.table) on as_before (λ none. keeps)

    its_put : (row : Row) → F row.room row.floor → Stays (put row old.table)
    its_put row its = put_floored row old.table.writers its all

    entering : (row : Row) → F row.room row.floor → (told : Told) → Stays (enter_outcome row old.table told).table
    entering row its (Ok Made) = added_floored old.table.writers row its all
    entering row its told = all

    floor_told : (row : Row) (f : FloorsRow row old reply new) (told : Told) → f.told ≡ told → FloorOutcome row old.table told reply new.table → Stays new.table
    floor_told row f (Ok (Names names)) is o = elim o as (λ _. Stays new.table) [
      | inl (floor, greatest, answered, e) ↦ subst Stays (sym e) (put_floored (floored floor row) old.table.writers (floors row f names floor is greatest) all)
      | inr (name, foreign, answered, e) ↦ subst Stays (sym e) all
    ]
    floor_told row f told is o = subst Stays (sym o.1) all

    building : (s : Stage) (folder file : Name) (row : Row) → F row.room row.floor → (told : Told) → Stays (build_outcome s folder file row old.table told).table
    building s folder file row its (Ok Made) = its_put (at_stage s row) its
    building s folder file row its (Ok (Old room)) = its_put (at_stage s row) its
    building s folder file row its told = all

    writing : (stamp : ℕ) (row : Row) (at len : ℕ) → F row.room row.floor → (told : Told) → Stays (write_outcome stamp row at len old.table told).table
    writing stamp row at len its (Ok Made) = its_put (wrote stamp row at len) its
    writing stamp row at len its told = all

    flushing : (row : Row) (pending : List Entry) → F row.room row.floor → FlushesRow row pending old reply new → Stays new.table
    flushing row [] its f = as_before f.1
    flushing row (first ∷ rest) its f = by_act _ _ old (landing row its) f
      where
        landing : (row : Row) → F row.room row.floor → (told : Told) → Stays (flush_outcome row old.table told).table
        landing row its (Ok Made) = its_put (flushed row) its
        landing row its told = all

    log_syncing : (row : Row) → F row.room row.floor → (told : Told) → Stays (sync_log_outcome row old.table told).table
    log_syncing row its (Ok Made) = its_put (log_synced row) its
    log_syncing row its told = all

    index_syncing : (row : Row) → F row.room row.floor → (told : Told) → Stays (sync_index_outcome row old.table told).table
    index_syncing row its (Ok Made) = its_put (index_synced row) its
    index_syncing row its told = all

    meta_making : (row : Row) → F row.room row.floor → (told : Told) → Stays (put_meta_outcome row old.table told).table
    meta_making row its (Ok Made) = its_put (closed row) its
    meta_making row its (Ok (Old room)) = its_put (closed row) its
    meta_making row its (Err trouble.NoMemory) = all
    meta_making row its told = its_put (closing row) its

    leaving : (row : Row) → F row.room row.floor → (told : Told) → Stays (exit_outcome row old.table told).table
    leaving row its (Ok Made) = out_floored row.id old.table.writers all
    leaving row its (Err trouble.Fault) = its_put (at_stage stage.Dead row) its
    leaving row its told = all

    spared : (caller : ℕ) (call : Call) → IsOnNoWriter call → Answers old caller call reply new → Stays new.table
    spared caller call none a = with_writers new.table.writers (writers_spared old caller call reply new none a)

    answers_floored : (caller : ℕ) (call : Call) → Answers old caller call reply new → Stays new.table
    answers_floored caller (Enter room host most) a = by_check _ _ a (λ (e : EntersAs caller room host most old reply new). by_act _ _ (drawn old) (entering (entered old caller room host most) (fresh room)) e.makes)
    answers_floored caller (Floor w) a = by_writer caller _ w _ a (λ row its (f : FloorsRow row old reply new). floor_told row f f.told refl f.outcome)
    answers_floored caller (MakeHostdir w) a = by_writer caller _ w _ a (λ row its m. by_act _ _ old (building _ _ _ row its) m)
    answers_floored caller (MakeIndex w) a = by_writer caller _ w _ a (λ row its m. by_act _ _ old (building _ _ _ row its) m)
    answers_floored caller (MakeLog w) a = by_writer caller _ w _ a (λ row its m. by_act _ _ old (building _ _ _ row its) m)
    answers_floored caller (Write w at block) a = by_writer caller _ w _ a (λ row its u. by_check _ _ u (λ (x : WritesAt row at block old reply new). by_act _ _ (timed x.times old) (writing (stamp_at x.time row) row at _ its) x.makes))
    answers_floored caller (Flush w) a = by_writer caller _ w _ a (λ row its. flushing row row.pending.entries its)
    answers_floored caller (SyncLog w) a = by_writer caller _ w _ a (λ row its m. by_act _ _ old (log_syncing row its) m)
    answers_floored caller (SyncIndex w) a = by_writer caller _ w _ a (λ row its m. by_act _ _ old (index_syncing row its) m)
    answers_floored caller (PutMeta w) a = by_writer caller _ w _ a (λ row its u. by_check _ _ u (λ m. by_act _ _ old (meta_making row its) m))
    answers_floored caller (Exit w) a = by_writer caller _ w _ a (λ row its u. by_check _ _ u (λ m. by_act _ _ old (leaving row its) m))
    answers_floored caller call a = spared caller call tt a

  end_floored : (told : Told) (reply : Reply) (at : State) (caller : ℕ) (new : State) → IsEndedBy told reply at caller new → AreFloored at.table.writers → AreFloored new.table.writers
  end_floored (Err trouble.NoMemory) reply at caller new e all = subst (λ (s : State). AreFloored s.table.writers) (sym e.1) all
  end_floored (Err trouble.Fault) reply at caller new e all = subst (λ (s : State). AreFloored s.table.writers) (sym e.1) (ended_floored caller at.table.writers all)
  end_floored (Ok answer) reply at caller new e all = subst (λ (s : State). AreFloored s.table.writers) (sym e.1) (ended_floored caller at.table.writers all)

  step_floored : (old new : State) (caller : ℕ) (ask : Ask) (reply : Reply) → AreFloored old.table.writers → ((room : ℕ) → F room 0) → TellsFloors old reply new → IsStep old caller ask reply new → AreFloored new.table.writers
  step_floored old new caller ask reply all fresh floors s = step_cases old caller ask reply new (AreFloored new.table.writers) s
      (λ none a. answers_floored old reply new all fresh floors caller ask.call a)
      (λ k some x. end_floored x.told reply (record (begun old ask.call) { store = x.store; times = x.times }) caller new x.after (subst (λ (t : Table). AreFloored t.writers) (sym (begun_table old ask.call)) all))

-- ---- in a history

-- a truncate of this stamp stands in the container, or the stamp is 0
abbrev pub IsStandingStamp : Moment → ℕ → ℕ → Type 0
IsStandingStamp m room stamp = (stamp ≡ 0) ⊎ ((size : ℕ) × HadItem m room (Trunc stamp size))

below_top : is_top truncs ≡ false
below_top = refl

floor_stands : (m : Moment) → IsSoundAt m → (room : ℕ) (names : List Name) (floor : ℕ) (after : Stored) → Acts (list_folder room truncs) m.state.store after (Ok (Names names)) → IsGreatest HasStamp names floor → IsStandingStamp m room floor
floor_stands m s room names floor after acts greatest = elim greatest.reached as (λ _. IsStandingStamp m room floor) [
  | inl (none, zero_is) ↦ inl zero_is
  | inr any ↦ inr (its any)
]
  where
    lists : ListsFolder s.shape.tree room truncs names
    lists =
        let t = acts_told (list_folder room truncs) m.state.store after s.shape.tree (Ok (Names names)) s.shape.told acts in
        (look_answered (list_folder room truncs) s.shape.tree (ListTells s.shape.tree room truncs) (list_tells s.shape.tree room truncs) (Names names) t.0 t.2).1

    its : Any (λ name. HasStamp name floor) names → (size : ℕ) × HadItem m room (Trunc floor size)
    its any =
        let f = any_found (λ name. HasStamp name floor) names any in
        let size : ℕ = f.2.0 in
        let file = named_file lists.room truncs f.0 names below_top lists.entries f.1 in (
          size,
          record {
            is_item = f.2.1.is_item;
            bytes = file.0;
            there = ap (λ o. file_told o room (path_of (Trunc floor size))) s.shape.told ∙ ap (λ r. file_in_room r (path_of (Trunc floor size))) lists.has_room ∙ subst (λ (p : Path). file_at lists.room p ≡ Some file.0) f.2.1.printed file.1;
          },
        )

-- it stands from then on
stamp_next : (m : Moment) (e : Event) (rest : List Event) → IsSoundAt m → IsLawful m.state (e ∷ rest) → (room stamp : ℕ) → IsStandingStamp m room stamp → IsStandingStamp (next_moment m e) room stamp
stamp_next m e rest s lawful room stamp (inl zero_is) = inl zero_is
stamp_next m e rest s lawful room stamp (inr (size, had)) = inr (size, (grows_after m (e ∷ []) (legal_first m (e ∷ []) rest lawful) s).stands room (Trunc stamp size) tt had)

all_next : (m : Moment) (e : Event) (rest : List Event) → IsSoundAt m → IsLawful m.state (e ∷ rest) → (rows : List Row) → AreFloored (IsStandingStamp m) rows → AreFloored (IsStandingStamp (next_moment m e)) rows
all_next m e rest s lawful [] all = tt
all_next m e rest s lawful (row ∷ rows) all = (stamp_next m e rest s lawful row.room row.floor all.0, all_next m e rest s lawful rows all.1)

pub floored_after : (m : Moment) (events : List Event) → IsSoundAt m → IsLawful m.state events → AreFloored (IsStandingStamp m) m.state.table.writers → AreFloored (IsStandingStamp (moment_after m events)) (moment_after m events).state.table.writers
floored_after m [] s lawful all = all
floored_after m (e ∷ events) s lawful all =
    floored_after (next_moment m e) events (sound_next m e events lawful s) lawful.2
    (step_floored (IsStandingStamp (next_moment m e)) m.state e.after e.caller e.ask e.reply (all_next m e events s lawful m.state.table.writers all) (λ room. inl refl)
    (λ row f names floor is greatest. stamp_next m e events s lawful row.room floor (floor_stands m s row.room names floor e.after.store (subst (Acts (list_folder row.room truncs) m.state.store e.after.store) is f.made) greatest)) lawful.1)

-- of a writer that the table has
pub floor_of : (m : Moment) (id : ℕ) (row : Row) → row_of id m.state.table.writers ≡ Some row → AreFloored (IsStandingStamp m) m.state.table.writers → IsStandingStamp m row.room row.floor
floor_of m id row is all = found_floored (IsStandingStamp m) id m.state.table.writers row is all
