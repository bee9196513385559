-- Two runs of one program that a caller made by itself from one state, by one plan of faults, are one.
use Rattle.std.proofs.Common.{◌≡◌, ℕ, ◌-◌, ◌<◌, ◌^◌, List, [], ◌∷◌, None, refl, sym, ap, ◌∙◌, subst}
use Rattle.std.specs.List.{AllByRecursion}
use Rattle.turn_object.specs.Callers.{made_by}
use Rattle.mount_model.specs.Program.{Program, done, ask}
use Rattle.mount_model.specs.Calls.{AreCallsOf}
use Rattle.mount_model.proofs.Stories.Facts.{entries_first}
use Rattle.mount_model.specs.Running.{asking}
use Rattle.mount_model.specs.declared.call.Ask.{Ask}
use Rattle.mount_model.specs.declared.call.Call.{Call}
use Rattle.mount_model.specs.declared.reply.Reply.{Reply}
use Rattle.mount_model.specs.State.{State}
use Rattle.mount_model.specs.Step.{IsStep}
use Rattle.mount_model.specs.History.{Event, state_after}
use Rattle.mount_sound.specs.Owed.{IsLawful}
use Rattle.mount_core.specs.Memory.{HadMemory}
use Rattle.lone_flow.specs.Driving.{Makes, greets_first}
use Rattle.step_laws.specs.Alike.{TellsAll}
use Rattle.step_laws.proofs.Facts.{AreOne, steps_one}
use Rattle.plfs_program.specs.Planned.{FaultPlan, KeepsTo}
use Rattle.plfs_program.proofs.Replays.Replaying.{CountsOn, alike_of, faultless_keeps, few_now, none_counts}

-- these calls had memory, and went as planned
pub record AreAsPlanned (plan : FaultPlan) (old : State) (events : List Event) : Type 0 where
  pub lawful : IsLawful old events
  pub memory : HadMemory events
  pub keeps : KeepsTo plan old events

-- so it is behind the first one
pub planned_after : (plan : FaultPlan) (old : State) (e : Event) (events : List Event) → AreAsPlanned plan old (e ∷ events) → AreAsPlanned plan e.after events
planned_after plan old e events q = record { lawful = q.lawful.2; memory = q.memory.1; keeps = q.keeps.1 }

abbrev Own : List Event → Type 0
Own events = AllByRecursion (λ (e : Event). e.caller ≡ 0) events

all_own : (events : List Event) → AllByRecursion (λ (e : Event). e.caller ≡ 0) events → made_by 0 events ≡ events
all_own [] own = refl
all_own (e ∷ events) own = entries_first 0 e events own.0 ∙ ap (λ z. e ∷ z) (all_own events own.1)

module _ (plan : FaultPlan) (counts : CountsOn plan) where
  -- the first calls of both are one
  pub first_one : (old : State) (e f : Event) (es fs : List Event) → TellsAll old → old.store.faults < 2 ^ 64 - 1 → AreAsPlanned plan old (e ∷ es) → AreAsPlanned plan old (f ∷ fs) → f.caller ≡ e.caller → f.ask ≡ e.ask
      → AreOne old e.reply f.reply e.after f.after
  first_one old e f es fs told room a b caller asked =
      let step : IsStep old e.caller e.ask f.reply f.after = subst (λ (z : ℕ × Ask). IsStep old z.0 z.1 f.reply f.after) (λ i. (caller i, asked i)) b.lawful.1 in
      let alike = alike_of plan old.store e.after.store f.after.store (λ left planned. (counts old.store.acts left planned).0) a.keeps.0 b.keeps.0 in
      steps_one old e.reply f.reply e.after f.after (record { told = told; room = room; alike = alike; memory = a.memory.0; too = b.memory.0 }) e.caller e.ask a.lawful.1 step

  pub room_after : (old : State) (e : Event) (events : List Event) → old.store.faults < 2 ^ 64 - 1 → AreAsPlanned plan old (e ∷ events) → e.after.store.faults < 2 ^ 64 - 1
  room_after old e events room q = few_now plan counts old.store e.after.store room q.keeps.0

  calls_one : {R : Type 0} (p : Program Call Reply R) (old : State) (es fs : List Event) (r s : R) → TellsAll old → old.store.faults < 2 ^ 64 - 1 → AreAsPlanned plan old es → AreAsPlanned plan old fs → Own es → Own fs
      → AreCallsOf (asking p) es r → AreCallsOf (asking p) fs s → (r ≡ s) × (state_after old es ≡ state_after old fs)
  calls_one (done x) old es fs r s told room a b own too m n = (sym m.1 ∙ n.1, ap (λ z. state_after old z) (m.0 ∙ sym n.0))
  calls_one (ask call k) old [] fs r s told room a b own too m n = absurd m
  calls_one (ask call k) old (e ∷ es) [] r s told room a b own too m n = absurd n
  calls_one (ask call k) old (e ∷ es) (f ∷ fs) r s told room a b own too m n =
      let one = first_one old e f es fs told room a b (too.0 ∙ sym own.0) (n.0 ∙ sym m.0) in
      let less = room_after old e es room a in
      let after_it : AreAsPlanned plan e.after fs = subst (λ z. AreAsPlanned plan z fs) (sym one.left_is) (planned_after plan old f fs b) in
      let goes : AreCallsOf (asking (k e.reply)) fs s = subst (λ z. AreCallsOf (asking (k z)) fs s) (sym one.replied) n.1 in
      let rest = calls_one (k e.reply) e.after es fs r s one.tells less (planned_after plan old e es a) after_it own.1 too.1 m.1 goes in
      (rest.0, rest.1 ∙ ap (λ z. state_after z fs) one.left_is)

  -- behind such calls the store and the clock still tell
  pub calls_tell : (old : State) (events : List Event) → TellsAll old → old.store.faults < 2 ^ 64 - 1 → AreAsPlanned plan old events → TellsAll (state_after old events)
  calls_tell old [] told room q = told
  calls_tell old (e ∷ events) told room q =
      let one = first_one old e e events events told room q q refl refl in
      calls_tell e.after events one.tells (room_after old e events room q) (planned_after plan old e events q)

  -- the calls of both go as planned
  pub planned_lone : {R : Type 0} (program : Program Call Reply R) (start end other : State) (result told : R) → TellsAll start → start.store.faults < 2 ^ 64 - 1 → (m : Makes program start result end) → (n : Makes program start told other)
      → KeepsTo plan start m.events → KeepsTo plan start n.events → (result ≡ told) × (end ≡ other)
  planned_lone {R} program start end other result told tells room m n keeps too =
      let one = calls_one (greets_first program) start m.events n.events result told tells room (as_planned end result m keeps) (as_planned other told n too) m.made.own n.made.own (calls_of end result m) (calls_of other told n) in
      (one.0, sym m.made.ends ∙ one.1 ∙ n.made.ends)
    where
      as_planned : (end : State) (result : R) (m : Makes program start result end) → KeepsTo plan start m.events → AreAsPlanned plan start m.events
      as_planned end result m keeps = record { lawful = m.made.lawful; memory = m.had_memory; keeps = keeps }

      calls_of : (end : State) (result : R) (m : Makes program start result end) → AreCallsOf (asking (greets_first program)) m.events result
      calls_of end result m = subst (λ (z : List Event). AreCallsOf (asking (greets_first program)) z result) (all_own m.events m.made.own) m.runs

-- neither had a fault
pub lone_one : {R : Type 0} (program : Program Call Reply R) (start end other : State) (result told : R) → TellsAll start → start.store.faults < 2 ^ 64 - 1 → Makes program start result end → Makes program start told other
    → end.store.faults ≡ start.store.faults → other.store.faults ≡ start.store.faults → (result ≡ told) × (end ≡ other)
lone_one {R} program start end other result told tells room m n none too =
    planned_lone (λ number. None) none_counts program start end other result told tells room m n (quiet end result m none) (quiet other told n too)
  where
    quiet : (end : State) (result : R) (m : Makes program start result end) → end.store.faults ≡ start.store.faults → KeepsTo (λ number. None) start m.events
    quiet end result m none = faultless_keeps start m.events m.made.lawful (ap (λ (s : State). s.store.faults) m.made.ends ∙ none)
