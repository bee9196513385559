-- Which refusals the program of an opening ends in, whatever is answered: the container lets nobody in, or no id is left.
use Rattle.std.proofs.Common.{◌≡◌, inl, inr, ℕ, nat_eq, nat_le, Bool, true, false, List, [], Some, None, Result, Ok, Err, refl, sym, ap, ◌∙◌, subst, arith, if◌then◌else◌}
use Rattle.std.specs.Prelude.{◌==◌, ◌&&◌, ◌-◌, ◌^◌}
use Rattle.std.proofs.lemmas.Bool.Decides.{nat_tests}
use Rattle.container_layout.specs.Paths.{hostdir_of}
use Rattle.store_api.specs.declared.step.Answer.TheVariants as answer
use Rattle.store_api.specs.declared.store.Trouble.TheVariants as trouble_is
use Rattle.mount_model.specs.declared.call.Call.TheVariants.{Enter, Floor, MakeContainer, MakeHostdir, MakeIndex}
use Rattle.mount_model.specs.declared.reply.Refusal.{Refusal}
use Rattle.mount_model.specs.declared.reply.Refusal.TheVariants as refusal
use Rattle.mount_model.specs.declared.reply.Reply.{Reply}
use Rattle.mount_model.specs.declared.reply.Reply.TheVariants as reply
use Rattle.mount_model.specs.declared.row.Row.{Row}
use Rattle.mount_model.specs.declared.row.Stage.{Stage}
use Rattle.mount_model.specs.declared.row.Stage.TheVariants as stage
use Rattle.mount_model.specs.Flooring.{FloorOutcome, FloorsRow, floored}
use Rattle.mount_model.specs.Building.{build_outcome, hostdir_step}
use Rattle.mount_model.specs.Making.{MakesAct, Refuses, Told, or_reason, otherwise}
use Rattle.mount_model.specs.Paths.{Name, truncs}
use Rattle.mount_model.specs.State.{State, Table, put}
use Rattle.mount_model.specs.Table.{at_stage, held_by, only, row_of, writer_of}
use Rattle.mount_model.proofs.Facts.{IsHeld, is_held, match_cases, row_of-with_row}
use Rattle.mount_model.specs.declared.stuck.Stuck.{Stuck}
use Rattle.mount_model.specs.declared.stuck.Stuck.TheVariants as stuck
use Rattle.mount_model.specs.Program.{done}
use Rattle.writer_flow.specs.declared.handle.WriterHandle.{WriterHandle}
use Rattle.writer_flow.specs.Ending.{trouble}
use Rattle.writer_flow.specs.Handle.{opened_of}
use Rattle.writer_flow.specs.Opening.{finds_floor, if_done, if_entered, if_floored, if_made, leaves, makes_hostdir, makes_index, makes_log, open_program}
use Rattle.reader_laws.specs.Moments.{Moment}
use Rattle.headline_laws.proofs.Makers.Rows.{built, entered_so, indexed_so}
use Rattle.headline_laws.proofs.Reasons.Containers.{has_room, made_there, not_marks}
use Rattle.headline_laws.proofs.Reasons.Goes.{EndsSo, Fact, Goes, IsSo, Stepped, anything, goes_more, staged, stands}
use Rattle.headline_laws.proofs.Reasons.Looks.{never_refused}
use Rattle.headline_laws.proofs.Reasons.Writers.{trouble_so}

abbrev pub MayRefuseOpen : Refusal → Type 0
MayRefuseOpen refusal.Held = Unit {0}
MayRefuseOpen refusal.IdsSpent = Unit {0}
MayRefuseOpen other = ⊥

-- it ended so, or with such a refusal
abbrev pub OpenedSo : Result WriterHandle Stuck → Type 0
OpenedSo = EndsSo (λ (handle : WriterHandle). Unit {0}) MayRefuseOpen

-- of who entered as this writer nothing is refused, and what it opens is this writer
abbrev pub EntersSo : ℕ → Result WriterHandle Stuck → Type 0
EntersSo w = EndsSo (λ (handle : WriterHandle). handle.writer ≡ w) never_refused

opens_more : (w : ℕ) (result : Result WriterHandle Stuck) → EntersSo w result → OpenedSo result
opens_more w (Ok handle) is = tt
opens_more w (Err stuck.Fault) is = tt
opens_more w (Err (stuck.Damaged folder file place)) is = tt
opens_more w (Err (stuck.Refused why)) is = absurd is

module _ (n : ℕ) where
  -- ---- the writer at each stage

  held_at : (w : ℕ) (at : Stage) (row : Row) (rows : List Row) → only at at ≡ true → row_of w rows ≡ Some row → row.owner ≡ n → row.stage ≡ at → writer_of n (only at) w rows ≡ Some row
  held_at w at row rows same there owned here =
      let is : nat_eq row.owner n ≡ true = grind (arith, nat_tests) in
      ap (held_by n (only at)) there ∙ ap (λ b. if b && only at row.stage then Some row else None) is ∙ ap (λ (s : Stage). if only at s then Some row else None) here ∙ ap (λ b. if b then Some row else None) same

  -- so it isn't refused since it isn't at this stage
  at_it : (w : ℕ) (at : Stage) (m : Moment) → only at at ≡ true → IsSo n (staged w at) m → writer_of n (only at) w m.state.table.writers ≡ None → ⊥
  at_it w at m same (row, has, here) none = let clash : Some row ≡ None = sym (held_at w at row m.state.table.writers same has.there has.owned here) ∙ none in cc

  put_row : (stages : Stage → Bool) (w : ℕ) (at : Stage) (row new_row : Row) (m next : Moment) → IsHeld n stages w m.state.table.writers row → new_row.id ≡ row.id → new_row.owner ≡ row.owner → new_row.stage ≡ at → next.state.table ≡ put new_row m.state.table → IsSo n (staged w at) next
  put_row stages w at row new_row m next h same_id same_owner is table = (
    new_row,
    record {
      there = ap (λ (t : Table). row_of w t.writers) table ∙ ap (λ k. row_of k (put new_row m.state.table).writers) (sym (same_id ∙ h.is)) ∙ row_of-with_row new_row m.state.table.writers row (ap (λ k. row_of k m.state.table.writers) (same_id ∙ h.is) ∙ h.found);
      owned = same_owner ∙ h.owned;
    },
    is,
  )

  not_floored : (told : Told) (floor : ℕ) → reply.Floored floor ≡ otherwise truncs [] told → ⊥
  not_floored (Ok answer.NoRoom) floor e = cc
  not_floored (Ok answer.NoFolder) floor e = cc
  not_floored (Ok x) floor e = cc
  not_floored (Err trouble_is.Fault) floor e = cc
  not_floored (Err trouble_is.NoMemory) floor e = cc

  -- its floor was found
  floors_put : (row : Row) (table : Table) (told : Told) (floor : ℕ) (after : Table) → FloorOutcome row table told (reply.Floored floor) after → (x : ℕ) × (after ≡ put (floored x row) table)
  floors_put row table (Ok (answer.Names names)) floor after o = elim o as (λ _. (x : ℕ) × (after ≡ put (floored x row) table)) [
    | inl put_so ↦ (put_so.0, put_so.3)
    | inr other ↦ absurd (let clash : reply.Floored floor ≡ reply.Damaged truncs other.0 = other.2 in cc)
  ]
  floors_put row table told floor after o = absurd (not_floored told floor o.0)

  floored_then : (w floor : ℕ) (m next : Moment) → Stepped n m (Floor w) (reply.Floored floor) next → IsSo n (staged w stage.Floored) next
  floored_then w floor m next s = elim (match_cases (writer_of n (only stage.Entered) w m.state.table.writers) (Refuses refusal.NotOpen m.state (reply.Floored floor) next.state) (λ row. FloorsRow row m.state (reply.Floored floor) next.state) s.answers) as (λ _. IsSo n (staged w stage.Floored) next) [
    | inl (none, refused) ↦ absurd (let clash : reply.Floored floor ≡ reply.Refused refusal.NotOpen = refused.0 in cc)
    | inr (row, has, does) ↦
        let p = floors_put row m.state.table does.told floor next.state.table does.outcome in
        put_row (only stage.Entered) w stage.Floored row (floored p.0 row) m next (is_held n (only stage.Entered) w m.state.table.writers row has) refl refl refl p.1
  ]

  housed_then : (w : ℕ) (m next : Moment) → Stepped n m (MakeHostdir w) reply.Done next → IsSo n (staged w stage.Housed) next
  housed_then w m next s = elim (match_cases (writer_of n (only stage.Floored) w m.state.table.writers) (Refuses refusal.NotOpen m.state reply.Done next.state) (λ row. MakesAct (hostdir_step row) (build_outcome stage.Housed (hostdir_of row.host) [] row m.state.table) m.state reply.Done next.state) s.answers) as (λ _. IsSo n (staged w stage.Housed) next) [
    | inl (none, refused) ↦ absurd (let clash : reply.Done ≡ reply.Refused refusal.NotOpen = refused.0 in cc)
    | inr (row, has, does) ↦
        let table : next.state.table ≡ put (at_stage stage.Housed row) m.state.table = ap (λ (x : State). x.table) does.after ∙ built stage.Housed (hostdir_of row.host) [] row m.state.table does.told does.answered in
        put_row (only stage.Floored) w stage.Housed row (at_stage stage.Housed row) m next (is_held n (only stage.Floored) w m.state.table.writers row has) refl refl refl table
  ]

  indexed_then : (w : ℕ) (m next : Moment) → Stepped n m (MakeIndex w) reply.Done next → IsSo n (staged w stage.Indexed) next
  indexed_then w m next s = let i = indexed_so n w m.state next.state s.answers in (i.row, i.has, i.staged)

  -- ---- the calls

  -- after a trouble it leaves, whatever is answered then
  leave_goes : (w : ℕ) (rep : Reply) → ((why : Refusal) → rep ≡ reply.Refused why → ⊥) → Goes n (EntersSo w) anything (leaves w (trouble rep))
  leave_goes w rep never = λ at next other s so. (anything, tt, trouble_so never_refused rep never)

  logged : (w cap : ℕ) (rep : Reply) → ((why : Refusal) → rep ≡ reply.Refused why → ⊥) → Goes n (EntersSo w) anything (if_done w (done (Ok (opened_of w cap))) rep)
  logged w cap reply.Done never = refl
  logged w cap rep never = leave_goes w rep never

  log_goes : (w cap : ℕ) → Goes n (EntersSo w) (staged w stage.Indexed) (makes_log w cap)
  log_goes w cap = λ m next rep s so. (anything, tt, logged w cap rep (λ why is. at_it w stage.Indexed m refl so (s.reason why is).1))

  indexed : (w cap : ℕ) (rep : Reply) (m next : Moment) → Stepped n m (MakeIndex w) rep next → ((why : Refusal) → rep ≡ reply.Refused why → ⊥) → (after : Fact) × IsSo n after next × Goes n (EntersSo w) after (if_done w (makes_log w cap) rep)
  indexed w cap reply.Done m next s never = (staged w stage.Indexed, indexed_then w m next s, log_goes w cap)
  indexed w cap rep m next s never = (anything, tt, leave_goes w rep never)

  index_goes : (w cap : ℕ) → Goes n (EntersSo w) (staged w stage.Housed) (makes_index w cap)
  index_goes w cap = λ m next rep s so. indexed w cap rep m next s (λ why is. at_it w stage.Housed m refl so (s.reason why is).1)

  housed : (w cap : ℕ) (rep : Reply) (m next : Moment) → Stepped n m (MakeHostdir w) rep next → ((why : Refusal) → rep ≡ reply.Refused why → ⊥) → (after : Fact) × IsSo n after next × Goes n (EntersSo w) after (if_done w (makes_index w cap) rep)
  housed w cap reply.Done m next s never = (staged w stage.Housed, housed_then w m next s, index_goes w cap)
  housed w cap rep m next s never = (anything, tt, leave_goes w rep never)

  hostdir_goes : (w cap : ℕ) → Goes n (EntersSo w) (staged w stage.Floored) (makes_hostdir w cap)
  hostdir_goes w cap = λ m next rep s so. housed w cap rep m next s (λ why is. at_it w stage.Floored m refl so (s.reason why is).1)

  floor_found : (w cap : ℕ) (rep : Reply) (m next : Moment) → Stepped n m (Floor w) rep next → ((why : Refusal) → rep ≡ reply.Refused why → ⊥) → (after : Fact) × IsSo n after next × Goes n (EntersSo w) after (if_floored w cap rep)
  floor_found w cap (reply.Floored floor) m next s never = (staged w stage.Floored, floored_then w floor m next s, hostdir_goes w cap)
  floor_found w cap rep m next s never = (anything, tt, leave_goes w rep never)

  pub floor_goes : (w cap : ℕ) → Goes n (EntersSo w) (staged w stage.Entered) (finds_floor w cap)
  floor_goes w cap = λ m next rep s so. floor_found w cap rep m next s (λ why is. at_it w stage.Entered m refl so (s.reason why is).1)

  enter_fine : (room host cap : ℕ) (m next : Moment) (rep : Reply) (why : Refusal) → Stepped n m (Enter room host cap) rep next → IsSo n (stands room) m → rep ≡ reply.Refused why → MayRefuseOpen why
  enter_fine room host cap m next rep why s so is = elim (s.reason why is) as (λ _. MayRefuseOpen why) [
    | inl check ↦ drawn (not_marks m s.sound room so) (room == m.state.marks) refl check
    | inr (inl lacks) ↦ absurd (has_room m s.sound room so (lacks.1 s.sound.shape.tree s.sound.shape.told))
    | inr (inr shut) ↦ subst MayRefuseOpen (sym shut.0) tt
  ]
    where
      spent : (b : Bool) → (if b then Some refusal.IdsSpent else None) ≡ Some why → MayRefuseOpen why
      spent true check = (let same : refusal.IdsSpent ≡ why = cc in subst MayRefuseOpen same tt)
      spent false check = absurd (cc)

      drawn : (room ≡ m.state.marks → ⊥) → (b : Bool) → (room == m.state.marks) ≡ b → or_reason (if b then Some refusal.NoRoom else None) (if nat_le (2 ^ 32 - 1) m.state.serial then Some refusal.IdsSpent else None) ≡ Some why → MayRefuseOpen why
      drawn other true is_marks check = absurd (other (grind (arith, nat_tests)))
      drawn other false is_marks check = spent (nat_le (2 ^ 32 - 1) m.state.serial) check

  entered_then : (room host cap : ℕ) (rep : Reply) (m next : Moment) → Stepped n m (Enter room host cap) rep next → ((why : Refusal) → rep ≡ reply.Refused why → MayRefuseOpen why) → (after : Fact) × IsSo n after next × Goes n OpenedSo after (if_entered cap rep)
  entered_then room host cap (reply.Entered w) m next s fine = let e = entered_so n room host cap w m.state next.state s.sound.regular s.answers in (staged w stage.Entered, (e.row, e.has, e.begun), goes_more n (EntersSo w) OpenedSo (opens_more w) (staged w stage.Entered) (finds_floor w cap) (floor_goes w cap))
  entered_then room host cap rep m next s fine = (anything, tt, trouble_so MayRefuseOpen rep fine)

  made_then : (name : Name) (host cap : ℕ) (rep : Reply) (m next : Moment) → Stepped n m (MakeContainer name) rep next → (after : Fact) × IsSo n after next × Goes n OpenedSo after (if_made host cap rep)
  made_then name host cap (reply.Room room) m next s = (stands room, made_there m next n name room s.sound s.sound_then s.answers, λ at then_at other t so. entered_then room host cap other at then_at t (λ why is. enter_fine room host cap at then_at other why t so is))
  made_then name host cap (reply.Refused why) m next s = absurd (s.reason why refl)
  made_then name host cap rep m next s = (anything, tt, trouble_so MayRefuseOpen rep (λ why is. absurd (s.reason why is)))

  -- the whole program
  pub open_goes : (name : Name) (host cap : ℕ) → Goes n OpenedSo anything (open_program name host cap)
  open_goes name host cap = λ m next rep s so. made_then name host cap rep m next s
