-- What a caller by itself makes of a program, from a moment on, where no call met a fault.
use Rattle.std.proofs.Common.{◌≡◌, ◌≤◌, ◌<◌, ◌-◌, ◌^◌, inl, inr, List, [], ◌∷◌, sym, subst, arith}
use Rattle.mount_model.specs.declared.call.Call.{Call}
use Rattle.mount_model.specs.declared.call.Call.TheVariants.{Greet}
use Rattle.mount_model.specs.declared.reply.Reply.{Reply}
use Rattle.mount_model.specs.History.{AreBy, Event, state_after}
use Rattle.mount_model.specs.Program.{Program}
use Rattle.mount_model.specs.Running.{Runs}
use Rattle.mount_model.specs.State.{State}
use Rattle.mount_model.proofs.Flows.Facts.{runs_next}
use Rattle.mount_sound.specs.Owed.{IsLawful}
use Rattle.reader_laws.specs.Moments.{Moment, moment_after, next_moment}
use Rattle.lone_flow.specs.Driving.{Makes, greets_first}
use Rattle.plain_plays.specs.Served.{GoesWell}
use Rattle.plain_plays.proofs.Plays.{all_well, faults_rise, state_of}
use Rattle.plain_plays.proofs.Statements.{same_moment}
use Rattle.plain_plays.proofs.Written.{AllWell, goes_well}

-- the count of faults is no greater at the end, and could have risen
pub record MeetsNoFault (start end : State) : Type 0 where
  pub none : end.store.faults ≤ start.store.faults
  pub counted : start.store.faults < 2 ^ 64 - 1

-- the two parts of what is quiet are so, where each of them doesn't lower the count
pub quiet_first : (start mid end : State) → mid.store.faults ≤ end.store.faults → MeetsNoFault start end → MeetsNoFault start mid
quiet_first start mid end later q = let n = q.none in record { none = omega (arith, later, n); counted = q.counted }

pub quiet_rest : (start mid end : State) → start.store.faults ≤ mid.store.faults → mid.store.faults ≤ end.store.faults → MeetsNoFault start end → MeetsNoFault mid end
quiet_rest start mid end before later q =
    let n = q.none in
    let c = q.counted in
    record { none = omega (arith, before, n); counted = omega (arith, later, n, c) }

pub makes_rise : {R : Type 0} (program : Program Call Reply R) (start : State) (result : R) (end : State) → Makes program start result end → start.store.faults ≤ end.store.faults
makes_rise program start result end m = subst (λ (s : State). start.store.faults ≤ s.store.faults) m.made.ends (faults_rise start m.events m.made.lawful)

-- The calls of the program behind the greeting, which changes nothing.
pub record CallsBehindGreeting {R : Type 0} (m : Moment) (program : Program Call Reply R) (result : R) (end : State) : Type 0 where
  pub events : List Event
  pub lawful : IsLawful m.state events
  pub well : GoesWell 0 events
  pub by : AreBy 0 events
  pub runs : Runs 0 program events result
  pub ends : (moment_after m events).state ≡ end

behind_greeting : {R : Type 0} (m : Moment) (program : Program Call Reply R) (events : List Event) (result : R) → IsLawful m.state events → AllWell events → AreBy 0 events → Runs 0 (greets_first program) events result → CallsBehindGreeting m program result (state_after m.state events)
behind_greeting m program [] result lawful well by runs = absurd runs
behind_greeting m program (e ∷ es) result lawful well by runs = elim (runs_next 0 Greet (λ reply. program) e es result runs) as (λ _. CallsBehindGreeting m program result (state_after e.after es)) [
  | inl (other, on) ↦ absurd (other by.0)
  | inr (mine, asked, on) ↦
      let same : next_moment m e ≡ m = same_moment m e es lawful asked in
      record {
        events = es;
        lawful = subst (λ (x : Moment). IsLawful x.state es) same lawful.2;
        well = goes_well 0 es well.1;
        by = by.1;
        runs = on;
        ends = subst (λ (x : Moment). (moment_after x es).state ≡ state_after e.after es) same (state_of (next_moment m e) es);
      }
]

pub called : {R : Type 0} (m : Moment) (program : Program Call Reply R) (start : State) (result : R) (end : State) → m.state ≡ start → Makes program start result end → MeetsNoFault start end → CallsBehindGreeting m program result end
called {R} m program start result end at makes quiet =
    let here : Makes program m.state result end = subst (λ (s : State). Makes program s result end) (sym at) makes in
    let q : MeetsNoFault m.state end = subst (λ (s : State). MeetsNoFault s end) (sym at) quiet in
    let none : (state_after m.state here.events).store.faults ≤ m.state.store.faults = subst (λ (s : State). s.store.faults ≤ m.state.store.faults) (sym here.made.ends) q.none in
    let well = all_well m.state here.events here.made.lawful here.had_memory none q.counted in
    subst (λ (s : State). CallsBehindGreeting m program result s) here.made.ends (behind_greeting m program here.events result here.made.lawful well here.made.own here.runs)
