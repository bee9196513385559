-- Whoever calls what, nothing of the caller's writer lands but by the caller's own flush.
use Rattle.std.proofs.Common.{◌≡◌, ◌⊎◌, inl, inr, ℕ, Bool, false, List, ◌∷◌, nat_eq, Option, Some, None, refl, ap, sym, ◌∙◌, subst, arith}
use Rattle.std.specs.Prelude.{Ok, Err, option_and_then}
use Rattle.std.proofs.lemmas.Bool.Decides.{nat_tests}
use mathlib.Core.Logic.{dite}
use native.Mathlib.Decide.{ℕ_discrete}
use Rattle.store_api.specs.Acts.{Stored}
use Rattle.store_api.specs.Step.{Step}
use Rattle.store_api.specs.declared.store.Trouble.TheVariants as trouble
use Rattle.mount_model.specs.declared.call.Ask.{Ask}
use Rattle.mount_model.specs.declared.call.Call.{Call}
use Rattle.mount_model.specs.declared.call.Call.TheVariants.{Flush}
use Rattle.mount_model.specs.declared.reply.Reply.{Reply}
use Rattle.mount_model.specs.declared.row.Row.{Row}
use Rattle.mount_model.specs.declared.row.Stage.{Stage}
use Rattle.mount_model.specs.declared.row.Stage.TheVariants as stage
use Rattle.mount_model.specs.Acting.{flush_act}
use Rattle.mount_model.specs.Flushing.{FlushesRow}
use Rattle.mount_model.specs.History.{Event}
use Rattle.mount_model.specs.Making.{Told}
use Rattle.mount_model.specs.State.{State}
use Rattle.mount_model.specs.Step.{Answers, IsStep}
use Rattle.mount_model.specs.Stopping.{IsEndedBy, MakesPart, part_made, part_of}
use Rattle.mount_model.specs.Table.{held_by, only, row_of, writer_of}
use Rattle.mount_model.proofs.Facts.{on_writer, step_cases}
use Rattle.mount_sound.specs.Owed.{IsLawful}
use Rattle.reader_laws.specs.Bounds.{SparesIndex}
use Rattle.reader_laws.specs.Moments.{Dropping, IsNamed, IsSoundAt, Moment, landed, next_moment}
use Rattle.reader_laws.proofs.Gathered.Moments.Stepping.{lands_none_next}
use Rattle.writer_laws.specs.Knowing.{HasRow}

-- ---- another caller's flush of the writer makes nothing

same_row : (a b : Row) (o : Option Row) → o ≡ Some a → o ≡ Some b → a ≡ b
same_row a b o p q = cc

not_held : (caller : ℕ) (stages : Stage → Bool) (o : Option Row) (row : Row) → o ≡ Some row → (row.owner ≡ caller → ⊥) → held_by caller stages o ≡ None
not_held caller stages None row e other = refl
not_held caller stages (Some x) row e other =
    let same : x ≡ row = cc in
    let differ : x.owner ≡ caller → ⊥ = λ is. other (subst (λ (r : Row). r.owner ≡ caller) same is) in
    let t : nat_eq x.owner caller ≡ false = grind (arith, nat_tests) in
    rw t refl

pub none_made : (k : ℕ) (o : Option Row) (act : Row → Option Step) → o ≡ None → option_and_then (part_of k) (option_and_then act o) ≡ None
none_made k None act e = refl
none_made k (Some row) act e = absurd (cc)

pub part_store : (part : Option Step) (old new : Stored) (told : Told) → part ≡ None → MakesPart part old new told → new ≡ old
part_store None old new told e m = m.1
part_store (Some step) old new told e m = absurd (cc)

pub ended_store : (told : Told) (reply : Reply) (at : State) (caller : ℕ) (new : State) → IsEndedBy told reply at caller new → new.store ≡ at.store
ended_store (Err trouble.NoMemory) reply at caller new e = ap (λ (s : State). s.store) e.1
ended_store (Err trouble.Fault) reply at caller new e = ap (λ (s : State). s.store) e.1
ended_store (Ok answer) reply at caller new e = ap (λ (s : State). s.store) e.1

others_flush : (me w : ℕ) (row : Row) (old new : State) (caller : ℕ) (ask : Ask) (reply : Reply) → HasRow me w row old → (caller ≡ me → ⊥) → ask.call ≡ Flush w → IsStep old caller ask reply new → new.store ≡ old.store
others_flush me w row old new caller ask reply has other is step =
    let mine : row.owner ≡ caller → ⊥ = λ e. other (sym e ∙ has.owned) in
    step_cases old caller ask reply new (new.store ≡ old.store) step
    (λ none a.
    on_writer caller (only stage.Open) w old reply new (λ r. FlushesRow r r.pending.entries old reply new) (new.store ≡ old.store) (subst (λ c. Answers old caller c reply new) is a)
    (λ same. ap (λ (s : State). s.store) same)
    (λ r h f. absurd (mine (ap (λ (x : Row). x.owner) (same_row row r (row_of w old.table.writers) has.there h.found) ∙ h.owned))))
    (λ k some x.
    let none : part_made k x.time old caller (Flush w) ≡ None = none_made k (writer_of caller (only stage.Open) w old.table.writers) (λ r. flush_act r r.pending.entries) (not_held caller (only stage.Open) (row_of w old.table.writers) row has.there mine) in
    let made : part_made k x.time old caller ask.call ≡ None = ap (part_made k x.time old caller) is ∙ none in
    ended_store x.told reply _ caller new x.after ∙ part_store (part_made k x.time old caller ask.call) old.store x.store x.told made x.made)

-- ---- what a step lands

pub either_spares : (d : Dropping) (call : Call) → SparesIndex call d ⊎ (call ≡ Flush d.writer)
either_spares d (Flush writer) = dite (ℕ_discrete writer d.writer) (λ same. inr (ap Flush same)) (λ other. inl other)
either_spares d call = inl tt

pub same_landed : (a b : Moment) (d : Dropping) → a.state.store ≡ b.state.store → landed a d ≡ landed b d
same_landed a b d e = ap (λ (s : Stored). landed (record { state = record a.state { store = s }; issued = a.issued }) d) e

-- Nothing of the caller's writer lands in another caller's call, nor in one of its own that flushes it not.
pub lands_nothing : (m : Moment) (e : Event) (rest : List Event) (me : ℕ) (d : Dropping) (row : Row) → IsNamed d → IsSoundAt m → HasRow me d.writer row m.state → IsLawful m.state (e ∷ rest) → (e.caller ≡ me → SparesIndex e.ask.call d) → landed (next_moment m e) d ≡ landed m d
lands_nothing m e rest me d row named sound has lawful spares =
    let by_sparing : SparesIndex e.ask.call d → landed (next_moment m e) d ≡ landed m d = λ spared. lands_none_next m e rest d named lawful sound spared in
    elim (either_spares d e.ask.call) as (λ _. landed (next_moment m e) d ≡ landed m d) [
      | inl spared ↦ by_sparing spared
      | inr flushes ↦ dite (ℕ_discrete e.caller me) (λ mine. by_sparing (spares mine)) (λ other. same_landed (next_moment m e) m d (others_flush me d.writer row m.state e.after e.caller e.ask e.reply has other flushes lawful.1))
    ]
