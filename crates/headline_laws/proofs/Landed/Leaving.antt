-- Writers that are no longer live: after a stop of their caller, and after they left. Ids that were drawn.
use Rattle.std.proofs.Common.{◌≡◌, ◌⊎◌, ◌≤◌, inl, inr, ℕ, true, false, nat_eq, List, [], ◌∷◌, map, Option, Some, None, refl, ap, sym, ◌∙◌, subst, arith}
use Rattle.std.specs.Prelude.{Ok, Err, if◌then◌else◌}
use Rattle.std.proofs.lemmas.Bool.Decides.{nat_tests}
use Rattle.store_api.specs.declared.step.Answer.TheVariants.{Made, NoFolder, NoRoom}
use Rattle.store_api.specs.declared.store.Trouble.TheVariants as trouble
use Rattle.mount_model.specs.declared.call.Ask.{Ask}
use Rattle.mount_model.specs.declared.call.Call.TheVariants.{Exit}
use Rattle.mount_model.specs.declared.reply.Refusal.{Refusal}
use Rattle.mount_model.specs.declared.reply.Refusal.TheVariants.{NotOpen}
use Rattle.mount_model.specs.declared.reply.Reply.{Reply}
use Rattle.mount_model.specs.declared.reply.Reply.TheVariants.{Done, Fault, NoMemory, Refused}
use Rattle.mount_model.specs.declared.row.Row.{Row}
use Rattle.mount_model.specs.declared.row.Stage.TheVariants as stage
use Rattle.mount_model.specs.History.{Event}
use Rattle.mount_model.specs.Leaving.{exit_check, exit_outcome}
use Rattle.mount_model.specs.Making.{Told}
use Rattle.mount_model.specs.Regular.{IsDrawn, IsRegular}
use Rattle.mount_model.specs.State.{State, Table, last_id}
use Rattle.mount_model.specs.Step.{Answers, IsStep}
use Rattle.mount_model.specs.Stopping.{IsEndedBy, row_ended, without_caller}
use Rattle.mount_model.specs.Table.{at_stage, is_live, row_of, with_row, without_row, writer_of}
use Rattle.mount_model.proofs.Facts.{IsHeld, begun_table, is_held, match_cases, row_of-with_row, row_of-without_row, row_of_all, row_of_id, step_cases, step_place}
use Rattle.mount_sound.specs.Owed.{IsLawful, IsNotLive}
use Rattle.reader_laws.specs.Moments.{Moment}
use Rattle.writer_laws.specs.Knowing.{HasRow}

-- ---- ids

pub drawn_next : (m : Moment) (e : Event) (rest : List Event) → IsLawful m.state (e ∷ rest) → last_id m.state ≤ last_id e.after
drawn_next m e rest lawful = omega (arith, (step_place m.state e.after e.caller e.ask e.reply lawful.1).serial, (step_place m.state e.after e.caller e.ask e.reply lawful.1).mount)

pub row_drawn : (w : ℕ) (row : Row) (state : State) → IsRegular state → row_of w state.table.writers ≡ Some row → w ≤ last_id state
row_drawn w row state regular held =
    let d = row_of_all (λ (r : Row). IsDrawn state r.id) w state.table.writers row regular.drawn held in
    omega (arith, d.2, d.3, row_of_id w state.table.writers row held)

-- ---- a stop

one_found : (a b : Row) (o : Option Row) → o ≡ Some a → o ≡ Some b → a ≡ b
one_found a b o p q = cc

ended_id : (caller : ℕ) (r : Row) → (row_ended caller r).id ≡ r.id
ended_id caller r = elim (nat_eq r.owner caller) as (λ b. (if b then at_stage stage.Dead r else r).id ≡ r.id) [ true ↦ refl | false ↦ refl ]

ended_found : (caller w : ℕ) (rows : List Row) (row : Row) → row_of w rows ≡ Some row → row_of w (map (row_ended caller) rows) ≡ Some (row_ended caller row)
ended_found caller w [] row e = absurd (cc)
ended_found caller w (x ∷ rows) row e =
    subst (λ n. (if nat_eq n w then Some (row_ended caller x) else row_of w (map (row_ended caller) rows)) ≡ Some (row_ended caller row)) (sym (ended_id caller x))
    (elim (nat_eq x.id w) as (λ b. (if b then Some x else row_of w rows) ≡ Some row → (if b then Some (row_ended caller x) else row_of w (map (row_ended caller) rows)) ≡ Some (row_ended caller row)) [
      | true ↦ λ f. let is : x ≡ row = cc in ap (λ (r : Row). Some (row_ended caller r)) is
      | false ↦ λ f. ended_found caller w rows row f
    ] e)

dead_row : (caller : ℕ) (row : Row) → row.owner ≡ caller → is_live (row_ended caller row).stage ≡ false
dead_row caller row owned =
    let t : nat_eq row.owner caller ≡ true = grind (arith, nat_tests) in
    rw t refl

after_stop : (told : Told) (rep : Reply) (at : State) (caller : ℕ) (new : State) → (rep ≡ NoMemory → ⊥) → IsEndedBy told rep at caller new → new.table ≡ without_caller caller at.table
after_stop (Err trouble.NoMemory) rep at caller new had e = absurd (had e.0)
after_stop (Err trouble.Fault) rep at caller new had e = ap (λ (s : State). s.table) e.1
after_stop (Ok answer) rep at caller new had e = ap (λ (s : State). s.table) e.1

-- after a stop the caller's writers are dead
pub stop_kills : (me w : ℕ) (row : Row) (old : State) (bytes : ℕ) (asked : Ask) (rep : Reply) (new : State) → HasRow me w row old → asked.stop ≡ Some bytes → IsStep old me asked rep new → (rep ≡ NoMemory → ⊥) → IsNotLive new w
stop_kills me w row old bytes asked rep new has broken step had =
    step_cases old me asked rep new (IsNotLive new w) step
    (λ none a. absurd (let both : None ≡ Some bytes = sym none ∙ broken in cc))
    (λ k some x.
    let t : new.table ≡ without_caller me old.table = after_stop x.told rep _ me new had x.after ∙ ap (without_caller me) (begun_table old asked.call) in
    λ r found.
    let there : row_of w new.table.writers ≡ Some (row_ended me row) = subst (λ (b : Table). row_of w b.writers ≡ Some (row_ended me row)) (sym t) (ended_found me w old.table.writers row has.there) in
    let same : row_ended me row ≡ r = one_found (row_ended me row) r (row_of w new.table.writers) there found in
    subst (λ (y : Row). is_live y.stage ≡ false) same (dead_row me row has.owned))

-- ---- leaving

never_refused : (why : Refusal) (rep : Reply) → rep ≡ Refused why → (rep ≡ Done) ⊎ (rep ≡ Fault) → ⊥
never_refused why rep refused (inl is) = cc
never_refused why rep refused (inr is) = cc

exit_told : (w : ℕ) (r : Row) (old new : State) (rep : Reply) (told : Told) → IsRegular old → row_of w old.table.writers ≡ Some r → r.id ≡ w → rep ≡ (exit_outcome r old.table told).reply → new.table ≡ (exit_outcome r old.table told).table → (rep ≡ Done) ⊎ (rep ≡ Fault) → IsNotLive new w
exit_told w r old new rep (Ok Made) regular held id said t out =
    let none : row_of w new.table.writers ≡ None = ap (λ (b : Table). row_of w b.writers) t ∙ ap (λ n. row_of w (without_row n old.table.writers)) id ∙ row_of-without_row w old.table.writers regular.ascending in
    λ x found. absurd (let both : None ≡ Some x = sym none ∙ found in cc)
exit_told w r old new rep (Ok NoRoom) regular held id said t (inl is) = absurd (cc)
exit_told w r old new rep (Ok NoRoom) regular held id said t (inr is) = absurd (cc)
exit_told w r old new rep (Ok NoFolder) regular held id said t (inl is) = absurd (cc)
exit_told w r old new rep (Ok NoFolder) regular held id said t (inr is) = absurd (cc)
exit_told w r old new rep (Err trouble.Fault) regular held id said t out =
    let at : row_of r.id old.table.writers ≡ Some r = subst (λ n. row_of n old.table.writers ≡ Some r) (sym id) held in
    let dead : row_of w new.table.writers ≡ Some (at_stage stage.Dead r) = ap (λ (b : Table). row_of w b.writers) t ∙ subst (λ n. row_of n (with_row (at_stage stage.Dead r) old.table.writers) ≡ Some (at_stage stage.Dead r)) id (row_of-with_row (at_stage stage.Dead r) old.table.writers r at) in
    λ x found. subst (λ (y : Row). is_live y.stage ≡ false) (one_found (at_stage stage.Dead r) x (row_of w new.table.writers) dead found) refl
exit_told w r old new rep (Err trouble.NoMemory) regular held id said t (inl is) = absurd (cc)
exit_told w r old new rep (Err trouble.NoMemory) regular held id said t (inr is) = absurd (cc)
exit_told w r old new rep (Ok answer) regular held id said t (inl is) = absurd (cc)
exit_told w r old new rep (Ok answer) regular held id said t (inr is) = absurd (cc)

-- a writer that left, or failed to, is no longer live
pub exit_dead : (me w : ℕ) (row : Row) (old : State) (rep : Reply) (new : State) → IsRegular old → HasRow me w row old → Answers old me (Exit w) rep new → (rep ≡ Done) ⊎ (rep ≡ Fault) → IsNotLive new w
exit_dead me w row old rep new regular has answers out =
    elim (match_cases (writer_of me is_live w old.table.writers) _ _ answers) as (λ _. IsNotLive new w) [
      | inl (none, refused) ↦ absurd (never_refused NotOpen rep refused.0 out)
      | inr (r, some, u) ↦ elim (match_cases (exit_check r) _ _ u) as (λ _. IsNotLive new w) [
        | inl (fine, m) ↦
            let h : IsHeld me is_live w old.table.writers r = is_held me is_live w old.table.writers r some in
            exit_told w r old new rep m.told regular h.found h.is m.answered (ap (λ (s : State). s.table) m.after) out
        | inr (why, is, refused) ↦ absurd (never_refused why rep refused.0 out)
      ]
    ]
