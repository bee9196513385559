-- The buffer of a writer holds as many entries as it was given when it entered, whoever calls what.
use Rattle.std.proofs.Common.{◌≡◌, ◌≤◌, ◌⊎◌, inl, inr, ℕ, Bool, true, false, nat_eq, List, [], ◌∷◌, ◌++◌, length, map, Option, Some, None, Ok, Err, refl, sym, ap, ◌∙◌, subst, arith, if◌then◌else◌}
use Rattle.std.proofs.lemmas.Bool.Decides.{nat_tests}
use Rattle.plfs_types.specs.declared.entries.Entry.{Entry}
use Rattle.store_api.specs.declared.step.Answer.TheVariants.{Made, Names, NoFolder, Old}
use Rattle.store_api.specs.declared.store.Trouble.TheVariants as trouble
use Rattle.store_api.specs.Step.{Step}
use Rattle.mount_model.specs.declared.call.Call.{Call}
use Rattle.mount_model.specs.declared.call.Call.TheVariants as call
use Rattle.mount_model.specs.declared.reply.Reply.{Reply}
use Rattle.mount_model.specs.declared.row.Row.{Row}
use Rattle.mount_model.specs.declared.row.Stage.{Stage}
use Rattle.mount_model.specs.declared.row.Stage.TheVariants as stage
use Rattle.container_layout.specs.Paths.{hostdir_of}
use Rattle.mount_model.specs.Building.{build_outcome, hostdir_step, index_step, log_step}
use Rattle.mount_model.specs.Entering.{EntersAs, draw_check, enter_outcome, entered, next_id}
use Rattle.mount_model.specs.Flooring.{FloorOutcome, FloorsRow, floored}
use Rattle.mount_model.specs.Flushing.{FlushesRow, flushed, index_synced, log_synced, sync_index_outcome, sync_index_step, sync_log_outcome, sync_log_step}
use Rattle.mount_model.specs.History.{Event}
use Rattle.mount_model.specs.Leaving.{closed, closing, exit_check, exit_outcome, exit_step, put_meta_check, put_meta_outcome, put_meta_step}
use Rattle.mount_model.specs.Making.{MakesAct, OnWriter, Told, UnlessRefused}
use Rattle.mount_model.specs.Paths.{Name, index_path, log_path}
use Rattle.mount_model.specs.Regular.{AreAscending, IsRegular}
use Rattle.mount_model.specs.State.{State, Table, last_id, put, take_out}
use Rattle.mount_model.specs.Step.{Answers, IsStep}
use Rattle.mount_model.specs.Stopping.{IsEndedBy, Stops, row_ended, without_caller}
use Rattle.mount_model.specs.Table.{at_stage, is_live, may_close, only, row_of, with_row, without_row}
use Rattle.mount_model.specs.Writing.{WritesAt, stamp_at, write_check, wrote as with_write}
use Rattle.mount_model.proofs.Facts.{IsHeld, begun_table, on_writer, row_of-with_row, row_of-without_row, row_of_other-push, row_of_other-with_row, row_of_other-without_row, step_cases, writers_spared}
use Rattle.mount_sound.specs.Owed.{IsLawful}
use Rattle.reader_laws.specs.Moments.{IsSoundAt, Moment, moment_after, next_moment}
use Rattle.reader_laws.proofs.Gathered.Moments.Stepping.{sound_next}
use Rattle.headline_laws.proofs.Landed.Leaving.{drawn_next}
use Rattle.headline_laws.proofs.Statements.Living.{flush_leaves, index_leaves, log_leaves, unless_so, write_leaves}

one_row : (a b : Row) (o : Option Row) → o ≡ Some a → o ≡ Some b → a ≡ b
one_row a b o p q = cc

alike : (a b : ℕ) → nat_eq a b ≡ true → a ≡ b
alike a b is = grind (arith, nat_tests)

apart : (a b : ℕ) → nat_eq a b ≡ false → b ≡ a → ⊥
apart a b off same = let on : nat_eq a b ≡ true = grind (arith, nat_tests) in let clash : true ≡ false = sym on ∙ off in cc

-- where the table has the writer, its buffer holds so many entries
abbrev pub HasCap : ℕ → ℕ → List Row → Type 0
HasCap w cap rows = (row : Row) → row_of w rows ≡ Some row → row.pending.capacity ≡ cap

pub row_has_cap : (w cap : ℕ) (row : Row) (rows : List Row) → row_of w rows ≡ Some row → row.pending.capacity ≡ cap → HasCap w cap rows
row_has_cap w cap row rows found is other at = ap (λ (r : Row). r.pending.capacity) (one_row other row (row_of w rows) at found) ∙ is

-- ---- tables

module _ (w cap : ℕ) (rows : List Row) (caps : HasCap w cap rows) where
  put_caps : (r x : Row) → row_of x.id rows ≡ Some r → x.pending.capacity ≡ r.pending.capacity → HasCap w cap (with_row x rows)
  put_caps r x found same row at = by (nat_eq x.id w) refl
    where
      by : (b : Bool) → nat_eq x.id w ≡ b → row.pending.capacity ≡ cap
      by true is =
          let id : x.id ≡ w = alike x.id w is in
          let there : row_of w (with_row x rows) ≡ Some x = subst (λ k. row_of k (with_row x rows) ≡ Some x) id (row_of-with_row x rows r found) in
          ap (λ (z : Row). z.pending.capacity) (one_row row x (row_of w (with_row x rows)) at there) ∙ same ∙ caps r (subst (λ k. row_of k rows ≡ Some r) id found)
      by false off = caps row (sym (row_of_other-with_row x rows w (apart x.id w off)) ∙ at)

  out_caps : (id : ℕ) → AreAscending rows → HasCap w cap (without_row id rows)
  out_caps id ascending row at = by (nat_eq id w) refl
    where
      by : (b : Bool) → nat_eq id w ≡ b → row.pending.capacity ≡ cap
      by true is =
          let none : row_of w (without_row id rows) ≡ None = subst (λ k. row_of k (without_row id rows) ≡ None) (alike id w is) (row_of-without_row id rows ascending) in
          absurd (let clash : None ≡ Some row = sym none ∙ at in cc)
      by false off = caps row (sym (row_of_other-without_row id rows w (apart id w off)) ∙ at)

  push_caps : (x : Row) → (w ≡ x.id → ⊥) → HasCap w cap (rows ++ x ∷ [])
  push_caps x other row at = caps row (sym (row_of_other-push rows x w other) ∙ at)

-- ---- a stop

ended_id : (caller : ℕ) (r : Row) → (row_ended caller r).id ≡ r.id
ended_id caller r = elim (nat_eq r.owner caller) as (λ b. (if b then at_stage stage.Dead r else r).id ≡ r.id) [ true ↦ refl | false ↦ refl ]

ended_cap : (caller : ℕ) (r : Row) → (row_ended caller r).pending.capacity ≡ r.pending.capacity
ended_cap caller r = elim (nat_eq r.owner caller) as (λ b. (if b then at_stage stage.Dead r else r).pending.capacity ≡ r.pending.capacity) [ true ↦ refl | false ↦ refl ]

some_row : (a b : Row) → Some a ≡ Some b → a ≡ b
some_row a b is = cc

ended_back : (caller w : ℕ) (rows : List Row) (row : Row) → row_of w (map (row_ended caller) rows) ≡ Some row → (r : Row) × (row_of w rows ≡ Some r) × (row.pending.capacity ≡ r.pending.capacity)
ended_back caller w [] row at = absurd (cc)
ended_back caller w (x ∷ rows) row at =
    elim (nat_eq x.id w) as (λ b. (if b then Some (row_ended caller x) else row_of w (map (row_ended caller) rows)) ≡ Some row → (r : Row) × ((if b then Some x else row_of w rows) ≡ Some r) × (row.pending.capacity ≡ r.pending.capacity)) [
      | true ↦ λ f. (x, refl, ap (λ (z : Row). z.pending.capacity) (sym (some_row (row_ended caller x) row f)) ∙ ended_cap caller x)
      | false ↦ λ f. ended_back caller w rows row f
    ] (subst (λ k. (if nat_eq k w then Some (row_ended caller x) else row_of w (map (row_ended caller) rows)) ≡ Some row) (ended_id caller x) at)

after_stop : (told : Told) (rep : Reply) (at : State) (caller : ℕ) (new : State) → IsEndedBy told rep at caller new → (new.table ≡ at.table) ⊎ (new.table ≡ without_caller caller at.table)
after_stop (Err trouble.NoMemory) rep at caller new e = inl (ap (λ (s : State). s.table) e.1)
after_stop (Err trouble.Fault) rep at caller new e = inr (ap (λ (s : State). s.table) e.1)
after_stop (Ok answer) rep at caller new e = inr (ap (λ (s : State). s.table) e.1)

-- ---- what acts leave of the table

build_leaves : (at : Stage) (folder file : Name) (row : Row) (table : Table) (told : Told) → ((build_outcome at folder file row table told).table ≡ put (at_stage at row) table) ⊎ ((build_outcome at folder file row table told).table ≡ table)
build_leaves at folder file row table (Ok Made) = inl refl
build_leaves at folder file row table (Ok (Old room)) = inl refl
build_leaves at folder file row table told = inr refl

floor_leaves : (row : Row) (table : Table) (told : Told) (rep : Reply) (after : Table) → FloorOutcome row table told rep after → ((floor : ℕ) × (after ≡ put (floored floor row) table)) ⊎ (after ≡ table)
floor_leaves row table (Ok (Names names)) rep after (inl (floor, is, said, t)) = inl (floor, t)
floor_leaves row table (Ok (Names names)) rep after (inr (name, least, said, t)) = inr t
floor_leaves row table told rep after o = inr o.1

enter_leaves : (row : Row) (table : Table) (told : Told) → ((enter_outcome row table told).table.writers ≡ table.writers ++ row ∷ []) ⊎ ((enter_outcome row table told).table ≡ table)
enter_leaves row table (Ok Made) = inl refl
enter_leaves row table (Ok NoFolder) = inr refl
enter_leaves row table told = inr refl

meta_leaves : (row : Row) (table : Table) (told : Told) → ((put_meta_outcome row table told).table ≡ put (closed row) table) ⊎ ((put_meta_outcome row table told).table ≡ put (closing row) table) ⊎ ((put_meta_outcome row table told).table ≡ table)
meta_leaves row table (Ok Made) = inl refl
meta_leaves row table (Ok (Old room)) = inl refl
meta_leaves row table (Err trouble.NoMemory) = inr (inr refl)
meta_leaves row table told = inr (inl refl)

exit_leaves : (row : Row) (table : Table) (told : Told) → ((exit_outcome row table told).table ≡ take_out row.id table) ⊎ ((exit_outcome row table told).table ≡ put (at_stage stage.Dead row) table) ⊎ ((exit_outcome row table told).table ≡ table)
exit_leaves row table (Ok Made) = inl refl
exit_leaves row table (Err trouble.Fault) = inr (inl refl)
exit_leaves row table told = inr (inr refl)

-- ---- calls

module _ (w cap : ℕ) (old new : State) (regular : IsRegular old) (drawn : w ≤ last_id old) (caps : HasCap w cap old.table.writers) where
  abbrev Then : Type 0
  Then = HasCap w cap new.table.writers

  same_writers : new.table.writers ≡ old.table.writers → Then
  same_writers is = subst (HasCap w cap) (sym is) caps

  same_table : new.table ≡ old.table → Then
  same_table is = same_writers (ap (λ (t : Table). t.writers) is)

  as_before : new ≡ old → Then
  as_before is = same_table (ap (λ (s : State). s.table) is)

  put_then : (caller : ℕ) (stages : Stage → Bool) (id : ℕ) (r x : Row) → IsHeld caller stages id old.table.writers r → x.id ≡ r.id → x.pending.capacity ≡ r.pending.capacity → new.table ≡ put x old.table → Then
  put_then caller stages id r x h same_id same is = subst (HasCap w cap) (sym (ap (λ (t : Table). t.writers) is)) (put_caps w cap old.table.writers caps r x (ap (λ k. row_of k old.table.writers) (same_id ∙ h.is) ∙ h.found) same)

  either_then : (caller : ℕ) (stages : Stage → Bool) (id : ℕ) (r x : Row) (t : Table) → IsHeld caller stages id old.table.writers r → x.id ≡ r.id → x.pending.capacity ≡ r.pending.capacity → new.table ≡ t → (t ≡ put x old.table) ⊎ (t ≡ old.table) → Then
  either_then caller stages id r x t h same_id same is (inl p) = put_then caller stages id r x h same_id same (is ∙ p)
  either_then caller stages id r x t h same_id same is (inr p) = same_table (is ∙ p)

  enters : (caller room host most : ℕ) (rep : Reply) → UnlessRefused (draw_check old room) old rep new (EntersAs caller room host most old rep new) → Then
  enters caller room host most rep u = by (unless_so (draw_check old room) old rep new (EntersAs caller room host most old rep new) u)
    where
      row : Row
      row = entered old caller room host most

      other : w ≡ next_id old → ⊥
      other same = omega (arith, drawn, same)

      by : (new ≡ old) ⊎ EntersAs caller room host most old rep new → Then
      by (inl same) = as_before same
      by (inr f) = elim (enter_leaves row old.table f.makes.told) as (λ _. Then) [
        | inl is ↦ subst (HasCap w cap) (sym (ap (λ (s : State). s.table.writers) f.makes.after ∙ is)) (push_caps w cap old.table.writers caps row other)
        | inr is ↦ same_table (ap (λ (s : State). s.table) f.makes.after ∙ is)
      ]

  floors : (caller id : ℕ) (rep : Reply) → OnWriter caller (only stage.Entered) id old rep new (λ row. FloorsRow row old rep new) → Then
  floors caller id rep a = on_writer caller (only stage.Entered) id old rep new (λ row. FloorsRow row old rep new) Then a as_before (λ r h f. elim (floor_leaves r old.table f.told rep new.table f.outcome) as (λ _. Then) [
    | inl (floor, is) ↦ put_then caller (only stage.Entered) id r (floored floor r) h refl refl is
    | inr is ↦ same_table is
  ])

  builds : (caller id : ℕ) (rep : Reply) (stages : Stage → Bool) (step : Row → Step) (at : Stage) (folder file : Row → Name) → OnWriter caller stages id old rep new (λ r. MakesAct (step r) (build_outcome at (folder r) (file r) r old.table) old rep new) → Then
  builds caller id rep stages step at folder file a = on_writer caller stages id old rep new (λ r. MakesAct (step r) (build_outcome at (folder r) (file r) r old.table) old rep new) Then a as_before
      (λ r h f. either_then caller stages id r (at_stage at r) _ h refl refl (ap (λ (s : State). s.table) f.after) (build_leaves at (folder r) (file r) r old.table f.told))

  writes : (caller id at : ℕ) (block : List ℕ) (rep : Reply) → Answers old caller (call.Write id at block) rep new → Then
  writes caller id at block rep a = on_writer caller (only stage.Open) id old rep new (λ r. UnlessRefused (write_check r at (length block)) old rep new (WritesAt r at block old rep new)) Then a as_before
      (λ r h u. by r h (unless_so (write_check r at (length block)) old rep new (WritesAt r at block old rep new) u))
    where
      by : (r : Row) → IsHeld caller (only stage.Open) id old.table.writers r → (new ≡ old) ⊎ WritesAt r at block old rep new → Then
      by r h (inl same) = as_before same
      by r h (inr f) = either_then caller (only stage.Open) id r (with_write (stamp_at f.time r) r at (length block)) _ h refl refl (ap (λ (s : State). s.table) f.makes.after) (write_leaves (stamp_at f.time r) r at (length block) old.table f.makes.told)

  flushes : (caller id : ℕ) (rep : Reply) → Answers old caller (call.Flush id) rep new → Then
  flushes caller id rep a = on_writer caller (only stage.Open) id old rep new (λ r. FlushesRow r r.pending.entries old rep new) Then a as_before (λ r h f. by r h r.pending.entries f)
    where
      by : (r : Row) → IsHeld caller (only stage.Open) id old.table.writers r → (entries : List Entry) → FlushesRow r entries old rep new → Then
      by r h [] f = as_before f.1
      by r h (x ∷ xs) f = either_then caller (only stage.Open) id r (flushed r) _ h refl refl (ap (λ (s : State). s.table) f.after) (flush_leaves r old.table f.told)

  puts : (caller id : ℕ) (rep : Reply) → Answers old caller (call.PutMeta id) rep new → Then
  puts caller id rep a = on_writer caller may_close id old rep new (λ r. UnlessRefused (put_meta_check r) old rep new (MakesAct (put_meta_step r) (put_meta_outcome r old.table) old rep new)) Then a as_before
      (λ r h u. by r h (unless_so (put_meta_check r) old rep new (MakesAct (put_meta_step r) (put_meta_outcome r old.table) old rep new) u))
    where
      by : (r : Row) → IsHeld caller may_close id old.table.writers r → (new ≡ old) ⊎ MakesAct (put_meta_step r) (put_meta_outcome r old.table) old rep new → Then
      by r h (inl same) = as_before same
      by r h (inr f) = told (meta_leaves r old.table f.told)
        where
          t : new.table ≡ (put_meta_outcome r old.table f.told).table
          t = ap (λ (s : State). s.table) f.after

          told : ((put_meta_outcome r old.table f.told).table ≡ put (closed r) old.table) ⊎ ((put_meta_outcome r old.table f.told).table ≡ put (closing r) old.table) ⊎ ((put_meta_outcome r old.table f.told).table ≡ old.table) → Then
          told (inl is) = put_then caller may_close id r (closed r) h refl refl (t ∙ is)
          told (inr (inl is)) = put_then caller may_close id r (closing r) h refl refl (t ∙ is)
          told (inr (inr is)) = same_table (t ∙ is)

  exits : (caller id : ℕ) (rep : Reply) → Answers old caller (call.Exit id) rep new → Then
  exits caller id rep a = on_writer caller is_live id old rep new (λ r. UnlessRefused (exit_check r) old rep new (MakesAct (exit_step r) (exit_outcome r old.table) old rep new)) Then a as_before
      (λ r h u. by r h (unless_so (exit_check r) old rep new (MakesAct (exit_step r) (exit_outcome r old.table) old rep new) u))
    where
      by : (r : Row) → IsHeld caller is_live id old.table.writers r → (new ≡ old) ⊎ MakesAct (exit_step r) (exit_outcome r old.table) old rep new → Then
      by r h (inl same) = as_before same
      by r h (inr f) = told (exit_leaves r old.table f.told)
        where
          t : new.table ≡ (exit_outcome r old.table f.told).table
          t = ap (λ (s : State). s.table) f.after

          told : ((exit_outcome r old.table f.told).table ≡ take_out r.id old.table) ⊎ ((exit_outcome r old.table f.told).table ≡ put (at_stage stage.Dead r) old.table) ⊎ ((exit_outcome r old.table f.told).table ≡ old.table) → Then
          told (inl is) = subst (HasCap w cap) (sym (ap (λ (s : Table). s.writers) (t ∙ is))) (out_caps w cap old.table.writers caps r.id regular.ascending)
          told (inr (inl is)) = put_then caller is_live id r (at_stage stage.Dead r) h refl refl (t ∙ is)
          told (inr (inr is)) = same_table (t ∙ is)

  -- each call
  answered : (caller : ℕ) (c : Call) (rep : Reply) → Answers old caller c rep new → Then
  answered caller (call.Enter room host most) rep a = enters caller room host most rep a
  answered caller (call.Floor id) rep a = floors caller id rep a
  answered caller (call.MakeHostdir id) rep a = builds caller id rep (only stage.Floored) hostdir_step stage.Housed (λ r. hostdir_of r.host) (λ r. []) a
  answered caller (call.MakeIndex id) rep a = builds caller id rep (only stage.Housed) index_step stage.Indexed (λ r. hostdir_of r.host) (λ r. (index_path r.host r.id).file) a
  answered caller (call.MakeLog id) rep a = builds caller id rep (only stage.Indexed) log_step stage.Open (λ r. hostdir_of r.host) (λ r. (log_path r.host r.id).file) a
  answered caller (call.Write id at block) rep a = writes caller id at block rep a
  answered caller (call.Flush id) rep a = flushes caller id rep a
  answered caller (call.SyncLog id) rep a = on_writer caller (only stage.Open) id old rep new (λ r. MakesAct (sync_log_step r) (sync_log_outcome r old.table) old rep new) Then a as_before
      (λ r h f. either_then caller (only stage.Open) id r (log_synced r) _ h refl refl (ap (λ (s : State). s.table) f.after) (log_leaves r old.table f.told))
  answered caller (call.SyncIndex id) rep a = on_writer caller (only stage.Open) id old rep new (λ r. MakesAct (sync_index_step r) (sync_index_outcome r old.table) old rep new) Then a as_before
      (λ r h f. either_then caller (only stage.Open) id r (index_synced r) _ h refl refl (ap (λ (s : State). s.table) f.after) (index_leaves r old.table f.told))
  answered caller (call.PutMeta id) rep a = puts caller id rep a
  answered caller (call.Exit id) rep a = exits caller id rep a
  answered caller c rep a = same_writers (writers_spared old caller c rep new tt a)

  stopped : (caller k : ℕ) (c : Call) (rep : Reply) → Stops caller k c old rep new → Then
  stopped caller k c rep x = elim (after_stop x.told rep _ caller new x.after) as (λ _. Then) [
    | inl same ↦ same_table (same ∙ begun_table old c)
    | inr without ↦ subst (λ (t : Table). HasCap w cap t.writers) (sym (without ∙ ap (without_caller caller) (begun_table old c))) (λ row at. let b = ended_back caller w old.table.writers row at in b.2 ∙ caps b.0 b.1)
  ]

pub step_caps : (w cap : ℕ) (m : Moment) (e : Event) → IsSoundAt m → w ≤ last_id m.state → HasCap w cap m.state.table.writers → IsStep m.state e.caller e.ask e.reply e.after → HasCap w cap e.after.table.writers
step_caps w cap m e sound drawn caps step = step_cases m.state e.caller e.ask e.reply e.after (HasCap w cap e.after.table.writers) step
    (λ none a. answered w cap m.state e.after sound.regular drawn caps e.caller e.ask.call e.reply a)
    (λ k some x. stopped w cap m.state e.after sound.regular drawn caps e.caller k e.ask.call e.reply x)

-- So it is later, of a writer that was drawn.
pub caps_later : (w cap : ℕ) (m : Moment) (events : List Event) → IsSoundAt m → IsLawful m.state events → w ≤ last_id m.state → HasCap w cap m.state.table.writers → HasCap w cap (moment_after m events).state.table.writers
caps_later w cap m [] sound lawful drawn caps = caps
caps_later w cap m (e ∷ events) sound lawful drawn caps =
    let more = drawn_next m e events lawful in
    caps_later w cap (next_moment m e) events (sound_next m e events lawful sound) lawful.2 (omega (arith, drawn, more)) (step_caps w cap m e sound drawn caps lawful.1)
