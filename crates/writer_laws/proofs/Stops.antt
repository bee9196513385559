-- A call that is broken off takes no writer out of the table, and issues nothing.
use Rattle.std.proofs.Common.{◌≡◌, ℕ, ◌+◌, List, [], ◌∷◌, map, true, false, nat_eq, Some, None, refl, sym, ap, ◌∙◌, ◌⊎◌, inl, inr, subst, arith, Ok, Err, if◌then◌else◌}
use Rattle.std.proofs.lemmas.Bool.Decides.{nat_tests}
use mathlib.Core.Logic.{dite}
use native.Mathlib.Decide.{ℕ_discrete}
use Rattle.store_api.specs.declared.store.Trouble.TheVariants as trouble
use Rattle.mount_model.specs.declared.call.Ask.{Ask}
use Rattle.mount_model.specs.declared.call.Call.{Call}
use Rattle.mount_model.specs.declared.call.Call.TheVariants as call
use Rattle.mount_model.specs.declared.reply.Reply.{Reply}
use Rattle.mount_model.specs.declared.reply.Reply.TheVariants.{Done, Stopped, NoMemory}
use Rattle.mount_model.specs.declared.row.Row.{Row}
use Rattle.mount_model.specs.declared.row.Stage.TheVariants as stage
use Rattle.mount_model.specs.Table.{row_of, at_stage}
use Rattle.mount_model.specs.State.{State, Table}
use Rattle.mount_model.specs.Making.{Told}
use Rattle.mount_model.specs.Stopping.{row_ended, without_caller, IsEndedBy, Stops}
use Rattle.mount_model.specs.Step.{Answers, IsStep}
use Rattle.mount_model.proofs.Facts.{begun_table, step_cases, stop_replies}
use Rattle.writer_laws.specs.Counting.{wrote_count, wrote_by, entry_count, StaysInAt}
use Rattle.writer_laws.specs.Knowing.{HasRow}
use Rattle.writer_laws.specs.Waiting.{IsOn, LeavesAlone}
use Rattle.writer_laws.proofs.Steps.{AtOnePlace, step_kept}
use Rattle.writer_laws.proofs.Own.{stays_spared}

-- ---- a call that is not broken off

pub whole_answers : (old : State) (caller : ℕ) (ask : Ask) (reply : Reply) (new : State) → ask.stop ≡ None → IsStep old caller ask reply new → Answers old caller ask.call reply new
whole_answers old caller ask reply new whole step = step_cases old caller ask reply new (Answers old caller ask.call reply new) step
    (λ none a. a)
    (λ k some x. let both : None ≡ Some k = sym whole ∙ some in absurd (cc))

-- ---- the table that a stop leaves

ended_table : (told : Told) (reply : Reply) (at : State) (caller : ℕ) (new : State) → IsEndedBy told reply at caller new → (new.table ≡ at.table) ⊎ (new.table ≡ without_caller caller at.table)
ended_table (Err trouble.NoMemory) reply at caller new e = inl (ap (λ (s : State). s.table) e.1)
ended_table (Err trouble.Fault) reply at caller new e = inr (ap (λ (s : State). s.table) e.1)
ended_table (Ok answer) reply at caller new e = inr (ap (λ (s : State). s.table) e.1)

stop_table : (old : State) (caller k : ℕ) (c : Call) (reply : Reply) (new : State) → Stops caller k c old reply new → (new.table ≡ old.table) ⊎ (new.table ≡ without_caller caller old.table)
stop_table old caller k c reply new x = elim (ended_table x.told reply _ caller new x.after) as (λ _. (new.table ≡ old.table) ⊎ (new.table ≡ without_caller caller old.table)) [
  | inl same ↦ inl (same ∙ begun_table old c)
  | inr without ↦ inr (without ∙ ap (without_caller caller) (begun_table old c))
]

ended_found : (caller w : ℕ) (rows : List Row) (row : Row) → row_of w rows ≡ Some row → row_of w (map (row_ended caller) rows) ≡ Some (row_ended caller row)
ended_found caller w [] row e = absurd (cc)
ended_found caller w (x ∷ rows) row e =
    subst (λ n. (if nat_eq n w then Some (row_ended caller x) else row_of w (map (row_ended caller) rows)) ≡ Some (row_ended caller row)) (sym (ended_id caller x))
    (elim (nat_eq x.id w) as (λ b. (if b then Some x else row_of w rows) ≡ Some row → (if b then Some (row_ended caller x) else row_of w (map (row_ended caller) rows)) ≡ Some (row_ended caller row)) [
      | true ↦ λ f. let is : x ≡ row = cc in ap (λ (r : Row). Some (row_ended caller r)) is
      | false ↦ λ f. ended_found caller w rows row f
    ] e)
  where
    ended_id : (caller : ℕ) (r : Row) → (row_ended caller r).id ≡ r.id
    ended_id caller r = elim (nat_eq r.owner caller) as (λ b. (if b then at_stage stage.Dead r else r).id ≡ r.id) [ true ↦ refl | false ↦ refl ]

ended_owner : (caller : ℕ) (row : Row) → (row_ended caller row).owner ≡ row.owner
ended_owner caller row = elim (nat_eq row.owner caller) as (λ b. (if b then at_stage stage.Dead row else row).owner ≡ row.owner) [ true ↦ refl | false ↦ refl ]

ended_entries : (caller : ℕ) (row : Row) → entry_count (row_ended caller row) ≡ entry_count row
ended_entries caller row = elim (nat_eq row.owner caller) as (λ b. entry_count (if b then at_stage stage.Dead row else row) ≡ entry_count row) [ true ↦ refl | false ↦ refl ]

ended_place : (caller : ℕ) (row : Row) → AtOnePlace (row_ended caller row) row
ended_place caller row = elim (nat_eq row.owner caller) as (λ b. AtOnePlace (if b then at_stage stage.Dead row else row) row) [ true ↦ (refl, refl) | false ↦ (refl, refl) ]

others_stay : (caller me : ℕ) (row : Row) → row.owner ≡ me → (caller ≡ me → ⊥) → row_ended caller row ≡ row
others_stay caller me row owned other =
    let differ : row.owner ≡ caller → ⊥ = λ e. other (sym e ∙ owned) in
    let t : nat_eq row.owner caller ≡ false = grind (arith, nat_tests) in
    rw t refl

-- ---- what a step leaves of a caller's writer

no_write : (w : ℕ) (c : Call) (reply : Reply) → (reply ≡ Stopped) ⊎ (reply ≡ NoMemory) → wrote_by w c reply ≡ 0
no_write w (call.Write id at block) reply none =
    let nothing : wrote_count reply ≡ 0 = elim none as (λ _. wrote_count reply ≡ 0) [ inl e ↦ ap wrote_count e | inr e ↦ ap wrote_count e ] in
    elim (nat_eq id w) as (λ b. (if b then wrote_count reply else 0) ≡ 0) [ true ↦ nothing | false ↦ refl ]
no_write w c reply none = refl

-- The writer stays the caller's, with one entry more exactly where a write of it was told; and its very row stays, where
-- the caller lets it be.
pub record StepKept (me w : ℕ) (row : Row) (caller : ℕ) (ask : Ask) (reply : Reply) (new : State) : Type 0 where
  pub after : Row
  pub has : HasRow me w after new
  pub total : entry_count after ≡ entry_count row + wrote_by w ask.call reply
  pub placed : AtOnePlace after row
  pub spared : (caller ≡ me → LeavesAlone w ask) → after ≡ row

stop_kept : (me w : ℕ) (row : Row) (old : State) (caller k : ℕ) (ask : Ask) (reply : Reply) (new : State) → HasRow me w row old → ask.stop ≡ Some k → Stops caller k ask.call old reply new → StepKept me w row caller ask reply new
stop_kept me w row old caller k ask reply new h some x =
    let nothing = no_write w ask.call reply (stop_replies old caller k ask.call reply new x) in
    elim (stop_table old caller k ask.call reply new x) as (λ _. StepKept me w row caller ask reply new) [
      | inl same ↦ record {
        after = row;
        has = record { there = subst (λ (t : Table). row_of w t.writers ≡ Some row) (sym same) h.there; owned = h.owned };
        total = omega (arith, nothing);
        placed = (refl, refl);
        spared = λ spares. refl;
      }
      | inr without ↦ record {
        after = row_ended caller row;
        has = record {
          there = subst (λ (t : Table). row_of w t.writers ≡ Some (row_ended caller row)) (sym without) (ended_found caller w old.table.writers row h.there);
          owned = ended_owner caller row ∙ h.owned;
        };
        total = omega (arith, nothing, ended_entries caller row);
        placed = ended_place caller row;
        spared = λ spares. others_stay caller me row h.owned (λ mine. let both : None ≡ Some k = sym (spares mine).0 ∙ some in cc);
      }
    ]

whole_kept : (me w : ℕ) (row : Row) (old : State) (caller : ℕ) (ask : Ask) (reply : Reply) (new : State) → HasRow me w row old → Answers old caller ask.call reply new → StaysInAt w ask.call reply → StepKept me w row caller ask reply new
whole_kept me w row old caller ask reply new h a s =
    let k = step_kept me w row old caller ask.call reply new h a s in
    record { after = k.after; has = k.has; total = k.total; placed = k.placed; spared = λ spares. k.spared (λ mine. (spares mine).1) }

-- Whoever calls what, broken off or not, where it takes not this writer out.
pub any_kept : (me w : ℕ) (row : Row) (old : State) (caller : ℕ) (ask : Ask) (reply : Reply) (new : State) → HasRow me w row old → IsStep old caller ask reply new → StaysInAt w ask.call reply → StepKept me w row caller ask reply new
any_kept me w row old caller ask reply new h step s = step_cases old caller ask reply new (StepKept me w row caller ask reply new) step
    (λ none a. whole_kept me w row old caller ask reply new h a s)
    (λ k some x. stop_kept me w row old caller k ask reply new h some x)

-- Where its caller doesn't take it out, nobody does.
pub own_kept : (me w : ℕ) (row : Row) (old : State) (caller : ℕ) (ask : Ask) (reply : Reply) (new : State) → (caller ≡ me → StaysInAt w ask.call reply) → HasRow me w row old → IsStep old caller ask reply new → StepKept me w row caller ask reply new
own_kept me w row old caller ask reply new stays h step = step_cases old caller ask reply new (StepKept me w row caller ask reply new) step
    (λ none a. whole_kept me w row old caller ask reply new h a (dite (ℕ_discrete caller me) stays (λ other. stays_spared me w row old caller ask.call reply new (λ mine. absurd (other mine)) h a)))
    (λ n some x. stop_kept me w row old caller n ask reply new h some x)

not_on_stays : (w : ℕ) (c : Call) (reply : Reply) → (IsOn w c → ⊥) → StaysInAt w c reply
not_on_stays w (call.Exit id) Done apart = apart
not_on_stays w (call.Exit id) rep apart = tt
not_on_stays w c rep apart = tt

-- The caller's writer is as before after each step in which its caller lets it be, and no write of it was answered.
pub spared_kept : (me w : ℕ) (row : Row) (old : State) (caller : ℕ) (ask : Ask) (reply : Reply) (new : State) → (caller ≡ me → LeavesAlone w ask) → HasRow me w row old → IsStep old caller ask reply new → HasRow me w row new × (wrote_by w ask.call reply ≡ 0)
spared_kept me w row old caller ask reply new spares h step =
    let k = own_kept me w row old caller ask reply new (λ mine. not_on_stays w ask.call reply (spares mine).1) h step in
    let same : k.after ≡ row = k.spared spares in
    (subst (λ (r : Row). HasRow me w r new) same k.has, omega (arith, k.total, ap (λ (r : Row). entry_count r) same))

pub spared_row : (me w : ℕ) (row : Row) (old : State) (caller : ℕ) (ask : Ask) (reply : Reply) (new : State) → (caller ≡ me → LeavesAlone w ask) → HasRow me w row old → IsStep old caller ask reply new → HasRow me w row new
spared_row me w row old caller ask reply new spares h step = (spared_kept me w row old caller ask reply new spares h step).0
