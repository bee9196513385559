-- A writer that isn't live stays so, unless it has yet to enter.
use Rattle.std.proofs.Common.{◌≡◌, ◌<◌, ℕ, List, [], ◌∷◌, map, Bool, true, false, nat_eq, Option, Some, refl, sym, ap, ◌∙◌, subst, inl, inr, arith, Ok}
use Rattle.std.specs.Prelude.{nat_lt, if◌then◌else◌, ◌||◌}
use Rattle.std.proofs.lemmas.Bool.Decides.{nat_tests}
use Rattle.plfs_types.specs.declared.entries.Entry.{Entry}
use Rattle.store_api.specs.declared.step.Answer.TheVariants.{Made, NoFolder, NotEmpty, Names}
use Rattle.store_api.specs.Step.{Step}
use Rattle.mount_model.specs.declared.row.Row.{Row}
use Rattle.mount_model.specs.declared.row.Stage.{Stage}
use Rattle.mount_model.specs.declared.row.Stage.TheVariants as stage
use Rattle.mount_model.specs.declared.row.Holder.{Holder}
use Rattle.mount_model.specs.declared.row.Flattening.{Flattening}
use Rattle.mount_model.specs.declared.row.Making.TheVariants as making
use Rattle.mount_model.specs.declared.row.FlatStage.{FlatStage}
use Rattle.mount_model.specs.declared.row.FlatStage.TheVariants.{Begun, Put, Synced}
use Rattle.mount_model.specs.declared.call.Call.{Call}
use Rattle.mount_model.specs.declared.call.Call.TheVariants.{Greet, Find, MakeContainer, Rooms, Look, Enter, Floor, MakeHostdir, MakeIndex, MakeLog, Write, Flush, SyncLog, SyncIndex, PutMeta, Exit, Hold, Mark, Move, Release, StartFlat, PutFlat, SyncFlat, InstallFlat, StartPack, SyncDropping, Inspect, Mend, MendMeta, Bury, MendHold}
use Rattle.mount_model.specs.declared.call.Ask.{Ask}
use Rattle.mount_model.specs.declared.reply.Refusal.{Refusal}
use Rattle.mount_model.specs.declared.reply.Reply.{Reply}
use Rattle.mount_model.specs.declared.reply.Reply.TheVariants.{Done}
use Rattle.mount_model.specs.Table.{row_of, with_row, rank, only, may_close, is_live, at_stage}
use Rattle.mount_model.specs.State.{State, Table, put, take_out, drawn, timed}
use Rattle.mount_model.specs.Making.{Told, CallOutcome, MakesAct, OnWriter, UnlessRefused}
use Rattle.mount_model.specs.Entering.{EntersAs, entered, next_id}
use Rattle.mount_model.specs.Flooring.{FloorOutcome, FloorsRow}
use Rattle.mount_model.specs.Writing.{WritesAt, stamp_at}
use Rattle.mount_model.specs.Flushing.{FlushesRow}
use Rattle.mount_model.specs.Holding.{holding, HoldOutcome, HoldsRoom, OnHolder, TruncatesAt, RenamesRoom}
use Rattle.mount_model.specs.Flattening.{OnFlattening, begun_flat, StartsPackOf}
use Rattle.mount_model.specs.Recovering.{SyncsIt, alive_check, MendsIt, MendsItsMeta, BuriesIt}
use Rattle.mount_model.specs.Stopping.{row_ended, begun}
use Rattle.mount_model.specs.Step.{Answers, IsStep}
use Rattle.mount_model.proofs.Deciding.{at_only, on_writer, on_holder, on_flattening, unless_refused, step_cases}
use Rattle.mount_model.proofs.Holding.{by_end}
use Rattle.mount_model.proofs.Stopping.{begun_table}
use Rattle.mount_model.proofs.Tables.{row_of_other-push, row_of_other-with_row, row_of_other-without_row}
use Rattle.mount_model.proofs.Outcomes as table

-- the writer has no row here, or it is dead
abbrev pub IsDeadIn : ℕ → List Row → Type 0
IsDeadIn writer rows = (row : Row) → row_of writer rows ≡ Some row → is_live row.stage ≡ false

-- ---- stages of live writers

below_six : (a : ℕ) → a < 6 → nat_lt a 6 ≡ true
below_six a l = grind (arith, nat_tests)

pub only_live : (wanted at : Stage) → rank wanted < 6 → only wanted at ≡ true → is_live at ≡ true
only_live wanted at l e = below_six (rank at) (omega (arith, l, at_only wanted at e))

may_close_live : (at : Stage) → may_close at ≡ true → is_live at ≡ true
may_close_live at e = below_six (rank at) (closing (rank at) e)
  where
    closing : (a : ℕ) → (nat_eq a 4 || nat_eq a 5) ≡ true → a < 6
    closing a e = grind (arith, nat_tests)

-- ---- rows

-- a live writer is another
another : (writer : ℕ) (rows : List Row) (row : Row) → IsDeadIn writer rows → row_of row.id rows ≡ Some row → is_live row.stage ≡ true → writer ≡ row.id → ⊥
another writer rows row dead found live same = let both : is_live row.stage ≡ false = dead row (ap (λ w. row_of w rows) same ∙ found) in cc

dead_put : (writer : ℕ) (rows : List Row) (new : Row) → (writer ≡ new.id → ⊥) → IsDeadIn writer rows → IsDeadIn writer (with_row new rows)
dead_put writer rows new other dead row e = dead row (sym (row_of_other-with_row new rows writer other) ∙ e)

ended_id : (caller : ℕ) (row : Row) → (row_ended caller row).id ≡ row.id
ended_id caller row = elim (nat_eq row.owner caller) as (λ b. (if b then at_stage stage.Dead row else row).id ≡ row.id) [ true ↦ refl | false ↦ refl ]

ended_dead : (caller : ℕ) (row : Row) → is_live row.stage ≡ false → is_live (row_ended caller row).stage ≡ false
ended_dead caller row dead = elim (nat_eq row.owner caller) as (λ b. is_live (if b then at_stage stage.Dead row else row).stage ≡ false) [ true ↦ refl | false ↦ dead ]

dead_ended : (caller writer : ℕ) (rows : List Row) → IsDeadIn writer rows → IsDeadIn writer (map (row_ended caller) rows)
dead_ended caller writer [] dead row e = dead row e
dead_ended caller writer (x ∷ rows) dead row e =
    elim (nat_eq x.id writer) as (λ b. ((r : Row) → (if b then Some x else row_of writer rows) ≡ Some r → is_live r.stage ≡ false) → (if b then Some (row_ended caller x) else row_of writer (map (row_ended caller) rows)) ≡ Some row → is_live row.stage ≡ false) [
      | true ↦ λ d f. let same : row_ended caller x ≡ row = cc in subst (λ (r : Row). is_live r.stage ≡ false) same (ended_dead caller x (d x refl))
      | false ↦ λ d f. dead_ended caller writer rows d row f
    ] dead (subst (λ n. (if nat_eq n writer then Some (row_ended caller x) else row_of writer (map (row_ended caller) rows)) ≡ Some row) (ended_id caller x) e)

-- ---- each call

module _ (writer : ℕ) (old : State) (dead : IsDeadIn writer old.table.writers) (reply : Reply) (new : State) where
  Stays : Table → Type 0
  Stays t = IsDeadIn writer t.writers

  same : Stays old.table
  unfolding Stays
  same = dead

  as_before : new ≡ old → Stays new.table
  as_before e = subst (λ (s : State). Stays s.table) (sym e) same

  with_writers : (t : Table) → t.writers ≡ old.table.writers → Stays t
  unfolding Stays
  with_writers t e = subst (IsDeadIn writer) (sym e) dead

  by_act : (step : Step) (outcome : Told → CallOutcome) (from : State) → ((told : Told) → Stays (outcome told).table) → MakesAct step outcome from reply new → Stays new.table
  by_act step outcome from stays m = subst Stays (sym (ap (λ (s : State). s.table) m.after)) (stays m.told)

  -- the row of another writer is put in place
  put_other : (row changed : Row) → is_live row.stage ≡ true → row_of row.id old.table.writers ≡ Some row → changed.id ≡ row.id → Stays (put changed old.table)
  unfolding Stays
  put_other row changed live found of = dead_put writer old.table.writers changed (λ e. another writer old.table.writers row dead found live (e ∙ of)) dead

  by_writer : (caller : ℕ) (stages : Stage → Bool) (id : ℕ) (does : Row → Type 0) → ((at : Stage) → stages at ≡ true → is_live at ≡ true) → OnWriter caller stages id old reply new does
      → ((row : Row) → is_live row.stage ≡ true → row_of row.id old.table.writers ≡ Some row → does row → Stays new.table) → Stays new.table
  by_writer caller stages id does live on keeps = on_writer caller stages id old reply new does (Stays new.table) on as_before
      (λ row held. keeps row (live row.stage held.staged) (ap (λ w. row_of w old.table.writers) held.is ∙ held.found))

  by_holder : (caller number : ℕ) (does : Holder → Type 0) → OnHolder caller number old reply new does → ((h : Holder) → does h → Stays new.table) → Stays new.table
  by_holder caller number does on keeps = on_holder caller number old reply new does (Stays new.table) on as_before (λ h is. keeps h)

  by_flattening : (caller : ℕ) (at : FlatStage) (id : ℕ) (does : Flattening → Type 0) → OnFlattening caller at id old reply new does → ((f : Flattening) → does f → Stays new.table) → Stays new.table
  by_flattening caller at id does on keeps = on_flattening caller at id old reply new does (Stays new.table) on as_before (λ f is. keeps f)

  by_check : (check : Option Refusal) (does : Type 0) → UnlessRefused check old reply new does → (does → Stays new.table) → Stays new.table
  by_check check does on keeps = unless_refused check old reply new does (Stays new.table) on as_before (λ none. keeps)

  entering : (caller room host most : ℕ) → (writer ≡ next_id old → ⊥) → EntersAs caller room host most old reply new → Stays new.table
  unfolding Stays
  entering caller room host most other e = by_act _ _ (drawn old) (table.enter_table Stays old.table same (entered old caller room host most) (λ row found. dead row (sym (row_of_other-push old.table.writers (entered old caller room host most) writer other) ∙ found))) e.makes

  floor_told : (row : Row) (after : Table) (told : Told) → is_live row.stage ≡ true → row_of row.id old.table.writers ≡ Some row → FloorOutcome row old.table told reply after → Stays after
  floor_told row after (Ok (Names names)) live found o = elim o as (λ _. Stays after) [
    | inl (floor, is, answered, e) ↦ subst Stays (sym e) (put_other row _ live found refl)
    | inr (name, foreign, answered, e) ↦ subst Stays (sym e) same
  ]
  floor_told row after told live found o = subst Stays (sym o.1) same

  flushing : (row : Row) (pending : List Entry) → is_live row.stage ≡ true → row_of row.id old.table.writers ≡ Some row → FlushesRow row pending old reply new → Stays new.table
  flushing row [] live found f = as_before f.1
  flushing row (first ∷ rest) live found f = by_act _ _ old (table.flush_table Stays old.table same row (put_other row _ live found refl)) f

  hold_told : (h : Holder) (after : Table) (told : Told) → HoldOutcome h old.table told reply after → after.writers ≡ old.table.writers
  hold_told h after (Ok Made) o = ap (λ (t : Table). t.writers) o.1
  hold_told h after (Ok NoFolder) o = ap (λ (t : Table). t.writers) o.1
  hold_told h after (Ok (NotEmpty least)) o = ap (λ (t : Table). t.writers) o.1
  hold_told h after told o = ap (λ (t : Table). t.writers) o.1

  taken_out : (row : Row) → is_live row.stage ≡ true → row_of row.id old.table.writers ≡ Some row → Stays (take_out row.id old.table)
  unfolding Stays
  taken_out row live found r e = dead r (sym (row_of_other-without_row row.id old.table.writers writer (another writer old.table.writers row dead found live)) ∙ e)

  answers_stay_dead : (caller : ℕ) (call : Call) → (writer ≡ next_id old → ⊥) → Answers old caller call reply new → Stays new.table
  answers_stay_dead caller Greet other a = as_before a.1
  answers_stay_dead caller (Find name) other a = by_act _ _ old (table.find_table Stays old.table same) a.makes
  answers_stay_dead caller (MakeContainer name) other a = by_act _ _ old (table.make_table Stays old.table same) a.makes
  answers_stay_dead caller Rooms other a = subst (λ (s : State). Stays s.table) (sym a.after) same
  answers_stay_dead caller (Look room look) other a = by_check _ _ a (by_act _ _ old (λ told. same))
  answers_stay_dead caller (Enter room host most) other a = by_check _ _ a (entering caller room host most other)
  answers_stay_dead caller (Floor w) other a = by_writer caller _ w _ (λ at e. only_live stage.Entered at (omega arith) e) a (λ row live found (f : FloorsRow row old reply new). floor_told row new.table f.told live found f.outcome)
  answers_stay_dead caller (MakeHostdir w) other a = by_writer caller _ w _ (λ at e. only_live stage.Floored at (omega arith) e) a (λ row live found. by_act _ _ old (table.build_table Stays old.table same _ _ _ row (put_other row _ live found refl)))
  answers_stay_dead caller (MakeIndex w) other a = by_writer caller _ w _ (λ at e. only_live stage.Housed at (omega arith) e) a (λ row live found. by_act _ _ old (table.build_table Stays old.table same _ _ _ row (put_other row _ live found refl)))
  answers_stay_dead caller (MakeLog w) other a = by_writer caller _ w _ (λ at e. only_live stage.Indexed at (omega arith) e) a (λ row live found. by_act _ _ old (table.build_table Stays old.table same _ _ _ row (put_other row _ live found refl)))
  answers_stay_dead caller (Write w at block) other a = by_writer caller _ w _ (λ s e. only_live stage.Open s (omega arith) e) a (λ row live found u. by_check _ _ u (λ (x : WritesAt row at block old reply new).
      by_act _ _ (timed x.times old) (table.write_table Stays old.table same (stamp_at x.time row) row at _ (put_other row _ live found refl)) x.makes))
  answers_stay_dead caller (Flush w) other a = by_writer caller _ w _ (λ at e. only_live stage.Open at (omega arith) e) a (λ row live found. flushing row row.pending.entries live found)
  answers_stay_dead caller (SyncLog w) other a = by_writer caller _ w _ (λ at e. only_live stage.Open at (omega arith) e) a (λ row live found. by_act _ _ old (table.sync_log_table Stays old.table same row (put_other row _ live found refl)))
  answers_stay_dead caller (SyncIndex w) other a = by_writer caller _ w _ (λ at e. only_live stage.Open at (omega arith) e) a (λ row live found. by_act _ _ old (table.sync_index_table Stays old.table same row (put_other row _ live found refl)))
  answers_stay_dead caller (PutMeta w) other a = by_writer caller _ w _ may_close_live a (λ row live found u. by_check _ _ u
      (by_act _ _ old (table.put_meta_table Stays old.table same row (put_other row _ live found refl) (put_other row _ live found refl))))
  answers_stay_dead caller (Exit w) other a = by_writer caller _ w _ (λ at e. e) a (λ row live found u. by_check _ _ u
      (by_act _ _ old (table.exit_table Stays old.table same row (taken_out row live found) (put_other row _ live found refl))))
  answers_stay_dead caller (Hold room) other a = by_check _ _ a (λ (h : HoldsRoom caller room old reply new). with_writers new.table (hold_told (holding old caller room) new.table h.told h.outcome))
  answers_stay_dead caller (Mark holder size top) other a = by_holder caller holder _ a (λ h u. by_check _ _ u (λ (t : TruncatesAt h size top old reply new).
      by_act _ _ (timed t.times old) (table.truncate_table Stays old.table same _ size) t.makes))
  answers_stay_dead caller (Move holder to) other a = by_holder caller holder _ a (λ h. λ (x : RenamesRoom h to old reply new). by_act _ _ old (table.rename_table Stays old.table same) x.makes)
  answers_stay_dead caller (Release holder) other a = by_holder caller holder _ a (λ h. by_act _ _ old (table.release_table Stays old.table same h (with_writers _ refl)))
  answers_stay_dead caller (StartFlat room) other a = by_check _ _ a (by_act _ _ (drawn old) (table.start_table Stays old.table same (begun_flat old caller room making.Flat) (with_writers _ refl)))
  answers_stay_dead caller (PutFlat flat bytes) other a = by_flattening caller Begun flat _ a (λ f. by_act _ _ old (table.put_flat_table Stays old.table same f (with_writers _ refl)))
  answers_stay_dead caller (SyncFlat flat) other a = by_flattening caller Put flat _ a (λ f. by_act _ _ old (table.sync_flat_table Stays old.table same f (with_writers _ refl)))
  answers_stay_dead caller (InstallFlat flat) other a = by_flattening caller Synced flat _ a (λ f. by_act _ _ old (table.install_table Stays old.table same f (with_writers _ refl)))
  answers_stay_dead caller (StartPack room host w) other a = by_check _ _ a (λ (x : StartsPackOf caller room host w old reply new).
      by_act _ _ (drawn old) (table.start_table Stays old.table same (begun_flat old caller room (making.Pack host w)) (with_writers _ refl)) x.makes)
  answers_stay_dead caller (SyncDropping room host w is_log) other a = by_check _ _ a (λ (x : SyncsIt room host w is_log old reply new). by_act _ _ old (table.done_table Stays old.table same _ _) x.makes)
  answers_stay_dead caller (Inspect w) other a = by_check (alive_check old w) ((reply ≡ Done) × (new ≡ old)) a (λ x. as_before x.1)
  answers_stay_dead caller (Mend room host w count) other a = by_check _ _ a (λ (x : MendsIt room host w count old reply new). by_act _ _ old (table.done_table Stays old.table same _ _) x.makes)
  answers_stay_dead caller (MendMeta room host cover last) other a = by_check _ _ a (λ (x : MendsItsMeta room host cover last old reply new). by_act _ _ old (table.mend_meta_table Stays old.table same _) x.makes)
  answers_stay_dead caller (Bury room host w) other a = by_check _ _ a (λ (x : BuriesIt room host w old reply new). by_act _ _ old (table.bury_table Stays old.table same _) x.makes)
  answers_stay_dead caller (MendHold room) other a = by_check _ _ a (by_act _ _ old (table.mend_hold_table Stays old.table same))

-- A writer that isn't live isn't live after a step either, unless the step could draw its id.
pub step_stays_dead : (old new : State) (caller : ℕ) (ask : Ask) (reply : Reply) (writer : ℕ) → IsStep old caller ask reply new → (writer ≡ next_id old → ⊥) → IsDeadIn writer old.table.writers → IsDeadIn writer new.table.writers
unfolding Stays
step_stays_dead old new caller ask reply writer s other dead = step_cases old caller ask reply new (IsDeadIn writer new.table.writers) s
    (λ whole a. answers_stay_dead writer old dead reply new caller ask.call other a)
    (λ k some x. by_end (λ t. IsDeadIn writer t.writers) x.told reply _ caller new x.after
    (subst (λ (t : Table). IsDeadIn writer t.writers) (sym (begun_table old ask.call)) dead)
    (dead_ended caller writer (begun old ask.call).table.writers (subst (λ (t : Table). IsDeadIn writer t.writers) (sym (begun_table old ask.call)) dead)))
