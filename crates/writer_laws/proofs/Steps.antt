-- What any call leaves of a caller's writer.
use Rattle.std.proofs.Common.{◌≡◌, ◌≢◌, ℕ, ◌+◌, List, [], ◌∷◌, ◌++◌, length, Option, Some, None, refl, sym, ap, ◌∙◌, ◌⊎◌, inl, inr, subst, arith, true, false, nat_eq, Bool, length-append}
use Rattle.std.specs.Prelude.{if◌then◌else◌, Ok, Err}
use Rattle.std.proofs.lemmas.Bool.{cases_eq}
use Rattle.std.proofs.lemmas.Bool.Decides.{nat_tests}
use Rattle.store_api.specs.declared.step.Answer.TheVariants.{Made, Old, Names}
use Rattle.store_api.specs.declared.store.Trouble.TheVariants.{Fault, NoMemory}
use Rattle.store_api.specs.Step.{Step}
use Rattle.container_layout.specs.Paths.{hostdir_of}
use Rattle.mount_model.specs.declared.call.Call.{Call}
use Rattle.mount_model.specs.declared.call.Call.TheVariants as call
use Rattle.mount_model.specs.declared.reply.Reply.{Reply}
use Rattle.mount_model.specs.declared.reply.Reply.TheVariants as reply
use Rattle.mount_model.specs.declared.reply.Refusal.{Refusal}
use Rattle.mount_model.specs.declared.reply.Refusal.TheVariants.{NotOpen}
use Rattle.mount_model.specs.declared.row.Row.{Row}
use Rattle.mount_model.specs.declared.row.Stage.{Stage}
use Rattle.mount_model.specs.declared.row.Stage.TheVariants as stage
use Rattle.mount_model.specs.Paths.{Name, index_path, log_path}
use Rattle.mount_model.specs.Table.{row_of, with_row, without_row, writer_of, only, may_close, is_live, at_stage}
use Rattle.mount_model.specs.State.{State, Table, put, take_out}
use Rattle.mount_model.specs.Making.{Told, CallOutcome, Refuses, MakesAct, OnWriter, UnlessRefused}
use Rattle.mount_model.specs.Entering.{entered, enter_outcome, draw_check, EntersAs}
use Rattle.mount_model.specs.Flooring.{floored, FloorOutcome, FloorsRow}
use Rattle.mount_model.specs.Building.{build_outcome, hostdir_step, index_step, log_step}
use Rattle.mount_model.specs.Writing.{write_check, write_outcome, entry_of, stamp_at, wrote as with_write, WritesAt}
use Rattle.mount_model.specs.Flushing.{log_synced, index_synced, flushed, flush_step, flush_outcome, FlushesRow, sync_log_step, sync_log_outcome, sync_index_step, sync_index_outcome}
use Rattle.mount_model.specs.Leaving.{closing, closed, put_meta_check, put_meta_step, put_meta_outcome, exit_check, exit_step, exit_outcome}
use Rattle.mount_model.specs.Step.{Answers}
use Rattle.mount_model.proofs.Facts.{writers_spared}
use Rattle.plfs_types.specs.declared.entries.Entry.{Entry}
use Rattle.writer_laws.specs.Counting.{wrote_count, wrote_by, entry_count, StaysInAt}
use Rattle.writer_laws.specs.Knowing.{HasRow}
use Rattle.writer_laws.specs.Waiting.{IsOn}
use Rattle.writer_laws.proofs.Rows.{row_of_id, row_of_other-with_row, row_of-put, row_of_other-without_row, row_of-added, held_row, match_cases, some_eq}

-- whose row it is, and where its entries go
abbrev place_of : Row → ℕ × (ℕ × ℕ)
place_of row = (row.owner, (row.room, row.host))

-- their entries go to one place
abbrev pub AtOnePlace : Row → Row → Type 0
AtOnePlace row other = (row.room ≡ other.room) × (row.host ≡ other.host)

-- the writer's row after a call, which is on the writer where `on` holds: so many entries more, and the very row where it
-- isn't its caller's call on it
pub record Kept (me w : ℕ) (row : Row) (caller told : ℕ) (on : Type 0) (new : State) : Type 0 where
  pub after : Row
  pub has : HasRow me w after new
  pub total : entry_count after ≡ entry_count row + told
  pub placed : AtOnePlace after row
  pub spared : (caller ≡ me → on → ⊥) → after ≡ row

-- the table's writers are as they were
kept_writers : {on : Type 0} (me w : ℕ) (row : Row) (caller told : ℕ) (old new : State) → HasRow me w row old → new.table.writers ≡ old.table.writers → told ≡ 0 → Kept me w row caller told on new
kept_writers me w row caller told old new h e t = record {
  after = row;
  has = record { there = subst (λ rows. row_of w rows ≡ Some row) (sym e) h.there; owned = h.owned };
  total = omega arith;
  placed = (refl, refl);
  spared = λ apart. refl;
}

-- the table is as it was
pub kept_same : {on : Type 0} (me w : ℕ) (row : Row) (caller told : ℕ) (old new : State) → HasRow me w row old → new.table ≡ old.table → told ≡ 0 → Kept me w row caller told on new
kept_same me w row caller told old new h e t = kept_writers me w row caller told old new h (ap (λ (s : Table). s.writers) e) t

-- a row was put in place of the caller's writer's
pub kept_put : (me w : ℕ) (row : Row) (caller told : ℕ) (old new : State) (stages : Stage → Bool) (id : ℕ) (r x : Row) → HasRow me w row old → writer_of caller stages id old.table.writers ≡ Some r → x.id ≡ r.id → place_of x ≡ place_of r → new.table ≡ put x old.table
    → (id ≡ w → entry_count x ≡ entry_count r + told) → (id ≢ w → told ≡ 0) → Kept me w row caller told (id ≡ w) new
kept_put me w row caller told old new stages id r x h e same_id same_place t own other =
    let f = held_row caller stages (row_of id old.table.writers) r e in
    let x_id : x.id ≡ id = same_id ∙ row_of_id id old.table.writers r f.0 in
    let rows : new.table.writers ≡ with_row x old.table.writers = ap (λ (s : Table). s.writers) t in
    elim (cases_eq id w) as (λ _. Kept me w row caller told (id ≡ w) new) [
      | inl is ↦
          let same : r ≡ row = some_eq r row (row_of w old.table.writers) (subst (λ i. row_of i old.table.writers ≡ Some r) is f.0) h.there in
          let at : row_of x.id old.table.writers ≡ Some r = subst (λ i. row_of i old.table.writers ≡ Some r) (sym x_id) f.0 in
          let stands : row_of w new.table.writers ≡ Some x = subst (λ rs. row_of w rs ≡ Some x) (sym rows) (subst (λ i. row_of i (with_row x old.table.writers) ≡ Some x) (x_id ∙ is) (row_of-put x old.table.writers r at)) in
          let mine : r.owner ≡ me = subst (λ (y : Row). y.owner ≡ me) (sym same) h.owned in
          record {
            after = x;
            has = record { there = stands; owned = ap (λ (p : ℕ × (ℕ × ℕ)). p.0) same_place ∙ mine };
            total = own is ∙ ap (λ (y : Row). entry_count y + told) same;
            placed = (ap (λ (p : ℕ × (ℕ × ℕ)). p.1.0) same_place ∙ ap (λ (y : Row). y.room) same, ap (λ (p : ℕ × (ℕ × ℕ)). p.1.1) same_place ∙ ap (λ (y : Row). y.host) same);
            spared = λ apart. absurd (apart (sym f.1 ∙ mine) is);
          }
      | inr away ↦ record {
        after = row;
        has = record { there = subst (λ rs. row_of w rs ≡ Some row) (sym rows) (row_of_other-with_row x old.table.writers w (λ s. away (sym (s ∙ x_id))) ∙ h.there); owned = h.owned };
        total = let none : told ≡ 0 = other away in omega arith;
        placed = (refl, refl);
        spared = λ apart. refl;
      }
    ]

-- a call on a writer is refused, or found the caller's writer
pub on_writer : (caller : ℕ) (stages : Stage → Bool) (id : ℕ) (old : State) (reply : Reply) (new : State) (does : Row → Type 0) → OnWriter caller stages id old reply new does → Refuses NotOpen old reply new ⊎ ((r : Row) × (writer_of caller stages id old.table.writers ≡ Some r) × does r)
on_writer caller stages id old reply new does o = elim (match_cases (writer_of caller stages id old.table.writers) _ _ o) as (λ _. Refuses NotOpen old reply new ⊎ ((r : Row) × (writer_of caller stages id old.table.writers ≡ Some r) × does r)) [
  | inl (none, refused) ↦ inl refused
  | inr (r, some, d) ↦ inr (r, some, d)
]

-- a call is refused, or goes on
pub unless_refused : (check : Option Refusal) (old : State) (reply : Reply) (new : State) (does : Type 0) → UnlessRefused check old reply new does → ((why : Refusal) × Refuses why old reply new) ⊎ does
unless_refused None old reply new does u = inr u
unless_refused (Some why) old reply new does u = inl (why, u)

table_of : (old new : State) → new ≡ old → new.table ≡ old.table
table_of old new e = ap (λ (s : State). s.table) e

pub made_table : (step : Step) (outcome : Told → CallOutcome) (old : State) (reply : Reply) (new : State) (m : MakesAct step outcome old reply new) → new.table ≡ (outcome m.told).table
made_table step outcome old reply new m = ap (λ (s : State). s.table) m.after

-- ---- the tables that acts leave

pub enter_table : (row : Row) (table : Table) (told : Told) → (((enter_outcome row table told).reply ≡ reply.Entered row.id) × ((enter_outcome row table told).table.writers ≡ table.writers ++ row ∷ [])) ⊎ (((n : ℕ) → (enter_outcome row table told).reply ≡ reply.Entered n → ⊥) × ((enter_outcome row table told).table ≡ table))
enter_table row table (Ok Made) = inl (refl, refl)
enter_table row table (Err Fault) = inr (λ n e. cc, refl)
enter_table row table (Err NoMemory) = inr (λ n e. cc, refl)
enter_table row table told = inr (λ n e. cc, refl)

build_table : (s : Stage) (folder file : Name) (row : Row) (table : Table) (told : Told) → ((build_outcome s folder file row table told).table ≡ put (at_stage s row) table) ⊎ ((build_outcome s folder file row table told).table ≡ table)
build_table s folder file row table (Ok Made) = inl refl
build_table s folder file row table (Ok (Old room)) = inl refl
build_table s folder file row table told = inr refl

pub flush_table : (row : Row) (table : Table) (told : Told) → (((flush_outcome row table told).reply ≡ reply.Flushed (flushed row).landed) × ((flush_outcome row table told).table ≡ put (flushed row) table)) ⊎ (((n : ℕ) → (flush_outcome row table told).reply ≡ reply.Flushed n → ⊥) × ((flush_outcome row table told).table ≡ table))
flush_table row table (Ok Made) = inl (refl, refl)
flush_table row table (Err Fault) = inr (λ n e. cc, refl)
flush_table row table (Err NoMemory) = inr (λ n e. cc, refl)
flush_table row table told = inr (λ n e. cc, refl)

pub sync_log_table : (row : Row) (table : Table) (told : Told) → (((sync_log_outcome row table told).reply ≡ reply.Done) × ((sync_log_outcome row table told).table ≡ put (log_synced row) table)) ⊎ (((sync_log_outcome row table told).reply ≡ reply.Done → ⊥) × ((sync_log_outcome row table told).table ≡ table))
sync_log_table row table (Ok Made) = inl (refl, refl)
sync_log_table row table (Err Fault) = inr (λ e. cc, refl)
sync_log_table row table (Err NoMemory) = inr (λ e. cc, refl)
sync_log_table row table told = inr (λ e. cc, refl)

pub sync_index_table : (row : Row) (table : Table) (told : Told) → (((sync_index_outcome row table told).reply ≡ reply.Synced row.landed) × ((sync_index_outcome row table told).table ≡ put (index_synced row) table)) ⊎ (((n : ℕ) → (sync_index_outcome row table told).reply ≡ reply.Synced n → ⊥) × ((sync_index_outcome row table told).table ≡ table))
sync_index_table row table (Ok Made) = inl (refl, refl)
sync_index_table row table (Err Fault) = inr (λ n e. cc, refl)
sync_index_table row table (Err NoMemory) = inr (λ n e. cc, refl)
sync_index_table row table told = inr (λ n e. cc, refl)

pub write_table : (stamp : ℕ) (row : Row) (at len : ℕ) (table : Table) (told : Told) → (((write_outcome stamp row at len table told).reply ≡ reply.Wrote stamp) × ((write_outcome stamp row at len table told).table ≡ put (with_write stamp row at len) table)) ⊎ ((wrote_count (write_outcome stamp row at len table told).reply ≡ 0) × ((write_outcome stamp row at len table told).table ≡ table))
write_table stamp row at len table (Ok Made) = inl (refl, refl)
write_table stamp row at len table (Err Fault) = inr (refl, refl)
write_table stamp row at len table (Err NoMemory) = inr (refl, refl)
write_table stamp row at len table told = inr (refl, refl)

pub meta_table : (row : Row) (table : Table) (told : Told) → ((put_meta_outcome row table told).table ≡ put (closed row) table) ⊎ (((put_meta_outcome row table told).table ≡ put (closing row) table) ⊎ ((put_meta_outcome row table told).table ≡ table))
meta_table row table (Ok Made) = inl refl
meta_table row table (Ok (Old room)) = inl refl
meta_table row table (Err NoMemory) = inr (inr refl)
meta_table row table told = inr (inl refl)

pub exit_table : (row : Row) (table : Table) (told : Told) → (((exit_outcome row table told).reply ≡ reply.Done) × ((exit_outcome row table told).table ≡ take_out row.id table)) ⊎ ((((exit_outcome row table told).reply ≡ reply.Fault) × ((exit_outcome row table told).table ≡ put (at_stage stage.Dead row) table)) ⊎ ((exit_outcome row table told).table ≡ table))
exit_table row table (Ok Made) = inl (refl, refl)
exit_table row table (Err Fault) = inr (inl (refl, refl))
exit_table row table told = inr (inr refl)

-- ---- calls

kept_plain : (me w : ℕ) (row : Row) (caller : ℕ) (old new : State) (stages : Stage → Bool) (id : ℕ) (r x : Row) → HasRow me w row old → writer_of caller stages id old.table.writers ≡ Some r → x.id ≡ r.id → place_of x ≡ place_of r → entry_count x ≡ entry_count r → (new.table ≡ put x old.table) ⊎ (new.table ≡ old.table) → Kept me w row caller 0 (id ≡ w) new
kept_plain me w row caller old new stages id r x h e same_id same_place same_entries turned = elim turned as (λ _. Kept me w row caller 0 (id ≡ w) new) [
  | inl t ↦ kept_put me w row caller 0 old new stages id r x h e same_id same_place t (λ is. omega arith) (λ away. refl)
  | inr t ↦ kept_same me w row caller 0 old new h t refl
]

floor_table : (r : Row) (table : Table) (told : Told) (rep : Reply) (after : Table) → FloorOutcome r table told rep after → ((floor : ℕ) × (after ≡ put (floored floor r) table)) ⊎ (after ≡ table)
floor_table r table (Ok (Names names)) rep after o = elim o as (λ _. ((floor : ℕ) × (after ≡ put (floored floor r) table)) ⊎ (after ≡ table)) [
  | inl (floor, is, said, put_is) ↦ inl (floor, put_is)
  | inr (name, least, said, same) ↦ inr same
]
floor_table r table told rep after o = inr o.1

floors_kept : (me w : ℕ) (row : Row) (caller id : ℕ) (old : State) (rep : Reply) (new : State) (r : Row) → HasRow me w row old → writer_of caller (only stage.Entered) id old.table.writers ≡ Some r → FloorsRow r old rep new → Kept me w row caller 0 (id ≡ w) new
floors_kept me w row caller id old rep new r h e f = elim (floor_table r old.table f.told rep new.table f.outcome) as (λ _. Kept me w row caller 0 (id ≡ w) new) [
  | inl (floor, t) ↦ kept_plain me w row caller old new (only stage.Entered) id r (floored floor r) h e refl refl refl (inl t)
  | inr t ↦ kept_same me w row caller 0 old new h t refl
]

builds_kept : (me w : ℕ) (row : Row) (caller id : ℕ) (old : State) (rep : Reply) (new : State) (stages : Stage → Bool) (step : Row → Step) (s : Stage) (folder file : Row → Name) → HasRow me w row old → OnWriter caller stages id old rep new (λ r. MakesAct (step r) (build_outcome s (folder r) (file r) r old.table) old rep new) → Kept me w row caller 0 (id ≡ w) new
builds_kept me w row caller id old rep new stages step s folder file h o = elim (on_writer caller stages id old rep new (λ r. MakesAct (step r) (build_outcome s (folder r) (file r) r old.table) old rep new) o) as (λ _. Kept me w row caller 0 (id ≡ w) new) [
  | inl refused ↦ kept_same me w row caller 0 old new h (table_of old new refused.1) refl
  | inr (r, e, m) ↦
      let t = made_table (step r) (build_outcome s (folder r) (file r) r old.table) old rep new m in
      kept_plain me w row caller old new stages id r (at_stage s r) h e refl refl refl
      (elim (build_table s (folder r) (file r) r old.table m.told) as (λ _. (new.table ≡ put (at_stage s r) old.table) ⊎ (new.table ≡ old.table)) [ inl is ↦ inl (t ∙ is) | inr is ↦ inr (t ∙ is) ])
]

refused_nothing : (why : Refusal) (old new : State) (rep : Reply) → Refuses why old rep new → wrote_count rep ≡ 0
refused_nothing why old new rep r = subst (λ x. wrote_count x ≡ 0) (sym r.0) refl

none_by : (id w : ℕ) (n : ℕ) → n ≡ 0 → (if nat_eq id w then n else 0) ≡ 0
none_by id w n e = elim (nat_eq id w) as (λ b. (if b then n else 0) ≡ 0) [ true ↦ e | false ↦ refl ]

own_by : (id w n : ℕ) → id ≡ w → (if nat_eq id w then n else 0) ≡ n
own_by id w n e = let t : nat_eq id w ≡ true = grind (arith, nat_tests) in rw t refl

other_by : (id w n : ℕ) → (id ≡ w → ⊥) → (if nat_eq id w then n else 0) ≡ 0
other_by id w n o = let t : nat_eq id w ≡ false = grind (arith, nat_tests) in rw t refl

length_more : (xs : List Entry) (x : Entry) → length (xs ++ x ∷ []) ≡ length xs + 1
length_more xs x = length-append xs (x ∷ [])

writes_row_kept : (me w : ℕ) (row : Row) (caller id at : ℕ) (bytes : List ℕ) (old : State) (rep : Reply) (new : State) (r : Row) → HasRow me w row old → writer_of caller (only stage.Open) id old.table.writers ≡ Some r → WritesAt r at bytes old rep new → Kept me w row caller (if nat_eq id w then wrote_count rep else 0) (id ≡ w) new
writes_row_kept me w row caller id at bytes old rep new r h e f =
    let stamp : ℕ = stamp_at f.time r in
    let t : new.table ≡ (write_outcome stamp r at (length bytes) old.table f.makes.told).table = ap (λ (s : State). s.table) f.makes.after in
    elim (write_table stamp r at (length bytes) old.table f.makes.told) as (λ _. Kept me w row caller (if nat_eq id w then wrote_count rep else 0) (id ≡ w) new) [
      | inl (said, is) ↦
          let one : wrote_count rep ≡ 1 = subst (λ x. wrote_count x ≡ 1) (sym (f.makes.answered ∙ said)) refl in
          kept_put me w row caller (if nat_eq id w then wrote_count rep else 0) old new (only stage.Open) id r (with_write stamp r at (length bytes)) h e refl refl (t ∙ is)
          (λ mine. let a : (if nat_eq id w then wrote_count rep else 0) ≡ 1 = own_by id w (wrote_count rep) mine ∙ one in omega (arith, length_more r.pending.entries (entry_of stamp r at (length bytes))))
          (λ away. other_by id w (wrote_count rep) away)
      | inr (said, is) ↦
          let none : wrote_count rep ≡ 0 = subst (λ x. wrote_count x ≡ 0) (sym f.makes.answered) said in
          kept_same me w row caller (if nat_eq id w then wrote_count rep else 0) old new h (t ∙ is) (none_by id w (wrote_count rep) none)
    ]

flushes_row_kept : (me w : ℕ) (row : Row) (caller id : ℕ) (old : State) (rep : Reply) (new : State) (r : Row) → HasRow me w row old → writer_of caller (only stage.Open) id old.table.writers ≡ Some r → (entries : List Entry) → FlushesRow r entries old rep new → Kept me w row caller 0 (id ≡ w) new
flushes_row_kept me w row caller id old rep new r h e [] f = kept_same me w row caller 0 old new h (table_of old new f.1) refl
flushes_row_kept me w row caller id old rep new r h e (x ∷ xs) f =
    let t = made_table (flush_step r) (flush_outcome r old.table) old rep new f in
    elim (flush_table r old.table f.told) as (λ _. Kept me w row caller 0 (id ≡ w) new) [
      | inl (said, is) ↦ kept_plain me w row caller old new (only stage.Open) id r (flushed r) h e refl refl (omega arith) (inl (t ∙ is))
      | inr (said, is) ↦ kept_same me w row caller 0 old new h (t ∙ is) refl
    ]

puts_row_kept : (me w : ℕ) (row : Row) (caller id : ℕ) (old : State) (rep : Reply) (new : State) (r : Row) (step : Step) → HasRow me w row old → writer_of caller may_close id old.table.writers ≡ Some r → MakesAct step (put_meta_outcome r old.table) old rep new → Kept me w row caller 0 (id ≡ w) new
puts_row_kept me w row caller id old rep new r step h e m =
    let t = made_table step (put_meta_outcome r old.table) old rep new m in
    elim (meta_table r old.table m.told) as (λ _. Kept me w row caller 0 (id ≡ w) new) [
      | inl is ↦ kept_plain me w row caller old new may_close id r (closed r) h e refl refl refl (inl (t ∙ is))
      | inr rest ↦ elim rest as (λ _. Kept me w row caller 0 (id ≡ w) new) [
        | inl is ↦ kept_plain me w row caller old new may_close id r (closing r) h e refl refl refl (inl (t ∙ is))
        | inr is ↦ kept_same me w row caller 0 old new h (t ∙ is) refl
      ]
    ]

left_other : (id w : ℕ) (rep : Reply) → rep ≡ reply.Done → StaysInAt w (call.Exit id) rep → id ≢ w
left_other id w rep e s = subst (λ x. StaysInAt w (call.Exit id) x) e s

exits_row_kept : (me w : ℕ) (row : Row) (caller id : ℕ) (old : State) (rep : Reply) (new : State) (r : Row) (step : Step) → HasRow me w row old → writer_of caller is_live id old.table.writers ≡ Some r → MakesAct step (exit_outcome r old.table) old rep new → StaysInAt w (call.Exit id) rep → Kept me w row caller 0 (id ≡ w) new
exits_row_kept me w row caller id old rep new r step h e m stays =
    let t = made_table step (exit_outcome r old.table) old rep new m in
    elim (exit_table r old.table m.told) as (λ _. Kept me w row caller 0 (id ≡ w) new) [
      | inl (said, is) ↦
          let away : id ≢ w = left_other id w rep (m.answered ∙ said) stays in
          let r_id : r.id ≡ id = row_of_id id old.table.writers r (held_row caller is_live (row_of id old.table.writers) r e).0 in
          let rows : new.table.writers ≡ without_row r.id old.table.writers = ap (λ (s : Table). s.writers) (t ∙ is) in
          record {
            after = row;
            has = record { there = subst (λ rs. row_of w rs ≡ Some row) (sym rows) (row_of_other-without_row r.id old.table.writers w (λ s. away (sym (s ∙ r_id))) ∙ h.there); owned = h.owned };
            total = omega arith;
            placed = (refl, refl);
            spared = λ apart. refl;
          }
      | inr rest ↦ elim rest as (λ _. Kept me w row caller 0 (id ≡ w) new) [
        | inl (failed, is) ↦ kept_plain me w row caller old new is_live id r (at_stage stage.Dead r) h e refl refl refl (inl (t ∙ is))
        | inr is ↦ kept_same me w row caller 0 old new h (t ∙ is) refl
      ]
    ]

enters_kept : (me w : ℕ) (row : Row) (caller room host most : ℕ) (old : State) (rep : Reply) (new : State) → HasRow me w row old → EntersAs caller room host most old rep new → Kept me w row caller 0 ⊥ new
enters_kept me w row caller room host most old rep new h f =
    let mine : Row = entered old caller room host most in
    let t : new.table ≡ (enter_outcome mine old.table f.makes.told).table = ap (λ (s : State). s.table) f.makes.after in
    elim (enter_table mine old.table f.makes.told) as (λ _. Kept me w row caller 0 ⊥ new) [
      | inl (said, is) ↦
          let rows : new.table.writers ≡ old.table.writers ++ mine ∷ [] = ap (λ (s : Table). s.writers) t ∙ is in
          record {
            after = row;
            has = record { there = subst (λ rs. row_of w rs ≡ Some row) (sym rows) (row_of-added w old.table.writers mine row h.there); owned = h.owned };
            total = omega arith;
            placed = (refl, refl);
            spared = λ apart. refl;
          }
      | inr (said, is) ↦ kept_same me w row caller 0 old new h (t ∙ is) refl
    ]

-- Whoever calls what, the caller's writer stays, with one entry more exactly where a write of it was answered Wrote.
pub step_kept : (me w : ℕ) (row : Row) (old : State) (caller : ℕ) (c : Call) (rep : Reply) (new : State) → HasRow me w row old → Answers old caller c rep new → StaysInAt w c rep → Kept me w row caller (wrote_by w c rep) (IsOn w c) new
step_kept me w row old caller (call.Enter room host most) rep new h a s = elim (unless_refused (draw_check old room) old rep new (EntersAs caller room host most old rep new) a) as (λ _. Kept me w row caller 0 ⊥ new) [
  | inl (why, refused) ↦ kept_same me w row caller 0 old new h (table_of old new refused.1) refl
  | inr f ↦ enters_kept me w row caller room host most old rep new h f
]
step_kept me w row old caller (call.Floor id) rep new h a s = elim (on_writer caller (only stage.Entered) id old rep new (λ r. FloorsRow r old rep new) a) as (λ _. Kept me w row caller 0 (id ≡ w) new) [
  | inl refused ↦ kept_same me w row caller 0 old new h (table_of old new refused.1) refl
  | inr (r, e, f) ↦ floors_kept me w row caller id old rep new r h e f
]
step_kept me w row old caller (call.MakeHostdir id) rep new h a s = builds_kept me w row caller id old rep new (only stage.Floored) hostdir_step stage.Housed (λ r. hostdir_of r.host) (λ r. []) h a
step_kept me w row old caller (call.MakeIndex id) rep new h a s = builds_kept me w row caller id old rep new (only stage.Housed) index_step stage.Indexed (λ r. hostdir_of r.host) (λ r. (index_path r.host r.id).file) h a
step_kept me w row old caller (call.MakeLog id) rep new h a s = builds_kept me w row caller id old rep new (only stage.Indexed) log_step stage.Open (λ r. hostdir_of r.host) (λ r. (log_path r.host r.id).file) h a
step_kept me w row old caller (call.Write id at block) rep new h a s = elim (on_writer caller (only stage.Open) id old rep new (λ r. UnlessRefused (write_check r at (length block)) old rep new (WritesAt r at block old rep new)) a) as (λ _. Kept me w row caller (if nat_eq id w then wrote_count rep else 0) (id ≡ w) new) [
  | inl refused ↦ kept_same me w row caller _ old new h (table_of old new refused.1) (none_by id w (wrote_count rep) (refused_nothing NotOpen old new rep refused))
  | inr (r, e, u) ↦ elim (unless_refused (write_check r at (length block)) old rep new (WritesAt r at block old rep new) u) as (λ _. Kept me w row caller (if nat_eq id w then wrote_count rep else 0) (id ≡ w) new) [
    | inl (why, refused) ↦ kept_same me w row caller _ old new h (table_of old new refused.1) (none_by id w (wrote_count rep) (refused_nothing why old new rep refused))
    | inr f ↦ writes_row_kept me w row caller id at block old rep new r h e f
  ]
]
step_kept me w row old caller (call.Flush id) rep new h a s = elim (on_writer caller (only stage.Open) id old rep new (λ r. FlushesRow r r.pending.entries old rep new) a) as (λ _. Kept me w row caller 0 (id ≡ w) new) [
  | inl refused ↦ kept_same me w row caller 0 old new h (table_of old new refused.1) refl
  | inr (r, e, f) ↦ flushes_row_kept me w row caller id old rep new r h e r.pending.entries f
]
step_kept me w row old caller (call.SyncLog id) rep new h a s = elim (on_writer caller (only stage.Open) id old rep new (λ r. MakesAct (sync_log_step r) (sync_log_outcome r old.table) old rep new) a) as (λ _. Kept me w row caller 0 (id ≡ w) new) [
  | inl refused ↦ kept_same me w row caller 0 old new h (table_of old new refused.1) refl
  | inr (r, e, m) ↦ elim (sync_log_table r old.table m.told) as (λ _. Kept me w row caller 0 (id ≡ w) new) [
    | inl is ↦ kept_plain me w row caller old new (only stage.Open) id r (log_synced r) h e refl refl refl (inl (ap (λ (x : State). x.table) m.after ∙ is.1))
    | inr is ↦ kept_same me w row caller 0 old new h (ap (λ (x : State). x.table) m.after ∙ is.1) refl
  ]
]
step_kept me w row old caller (call.SyncIndex id) rep new h a s = elim (on_writer caller (only stage.Open) id old rep new (λ r. MakesAct (sync_index_step r) (sync_index_outcome r old.table) old rep new) a) as (λ _. Kept me w row caller 0 (id ≡ w) new) [
  | inl refused ↦ kept_same me w row caller 0 old new h (table_of old new refused.1) refl
  | inr (r, e, m) ↦ elim (sync_index_table r old.table m.told) as (λ _. Kept me w row caller 0 (id ≡ w) new) [
    | inl is ↦ kept_plain me w row caller old new (only stage.Open) id r (index_synced r) h e refl refl refl (inl (ap (λ (x : State). x.table) m.after ∙ is.1))
    | inr is ↦ kept_same me w row caller 0 old new h (ap (λ (x : State). x.table) m.after ∙ is.1) refl
  ]
]
step_kept me w row old caller (call.PutMeta id) rep new h a s = elim (on_writer caller may_close id old rep new (λ r. UnlessRefused (put_meta_check r) old rep new (MakesAct (put_meta_step r) (put_meta_outcome r old.table) old rep new)) a) as (λ _. Kept me w row caller 0 (id ≡ w) new) [
  | inl refused ↦ kept_same me w row caller 0 old new h (table_of old new refused.1) refl
  | inr (r, e, u) ↦ elim (unless_refused (put_meta_check r) old rep new (MakesAct (put_meta_step r) (put_meta_outcome r old.table) old rep new) u) as (λ _. Kept me w row caller 0 (id ≡ w) new) [
    | inl (why, refused) ↦ kept_same me w row caller 0 old new h (table_of old new refused.1) refl
    | inr m ↦ puts_row_kept me w row caller id old rep new r (put_meta_step r) h e m
  ]
]
step_kept me w row old caller (call.Exit id) rep new h a s = elim (on_writer caller is_live id old rep new (λ r. UnlessRefused (exit_check r) old rep new (MakesAct (exit_step r) (exit_outcome r old.table) old rep new)) a) as (λ _. Kept me w row caller 0 (id ≡ w) new) [
  | inl refused ↦ kept_same me w row caller 0 old new h (table_of old new refused.1) refl
  | inr (r, e, u) ↦ elim (unless_refused (exit_check r) old rep new (MakesAct (exit_step r) (exit_outcome r old.table) old rep new) u) as (λ _. Kept me w row caller 0 (id ≡ w) new) [
    | inl (why, refused) ↦ kept_same me w row caller 0 old new h (table_of old new refused.1) refl
    | inr m ↦ exits_row_kept me w row caller id old rep new r (exit_step r) h e m s
  ]
]
step_kept me w row old caller c rep new h a s = kept_writers me w row caller 0 old new h (writers_spared old caller c rep new tt a) refl
