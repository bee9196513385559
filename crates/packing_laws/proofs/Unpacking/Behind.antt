-- Programs that one caller by itself makes, each behind a greeting, in one history.
use Rattle.std.proofs.Common.{◌≡◌, List, [], ◌∷◌, ◌++◌, refl, sym, ap, subst, ◌∙◌, inl, inr, append_assoc}
use Rattle.std.specs.List.{AllByRecursion}
use Rattle.turn_object.proofs.Facts.{state_append}
use Rattle.mount_model.specs.declared.call.Call.{Call}
use Rattle.mount_model.specs.declared.call.Call.TheVariants.{Greet}
use Rattle.mount_model.specs.declared.reply.Reply.{Reply}
use Rattle.mount_model.specs.History.{Event, state_after}
use Rattle.mount_model.specs.State.{State}
use Rattle.mount_sound.specs.Owed.{IsLawful}
use Rattle.mount_model.specs.Program.{Program}
use Rattle.mount_model.specs.Running.{Runs}
use Rattle.mount_model.proofs.Flows.Facts.{runs_next}
use Rattle.lone_flow.specs.Driving.{Makes, greets_first}

-- its calls behind the greeting
pub record IsBehind {R : Type 0} (program : Program Call Reply R) (start : State) (result : R) (end : State) : Type 0 where
  pub greeting : Event
  pub events : List Event
  pub lawful : IsLawful start (greeting ∷ events)
  pub runs : Runs 0 program events result
  pub ends : state_after start (greeting ∷ events) ≡ end

behind_greeting : {R : Type 0} (program : Program Call Reply R) (start : State) (events : List Event) (result : R) → IsLawful start events → AllByRecursion (λ (e : Event). e.caller ≡ 0) events → Runs 0 (greets_first program) events result
    → IsBehind program start result (state_after start events)
behind_greeting program start [] result lawful own runs = absurd runs
behind_greeting program start (e ∷ es) result lawful own runs = elim (runs_next 0 Greet (λ reply. program) e es result runs) as (λ _. IsBehind program start result (state_after e.after es)) [
  | inl (other, on) ↦ absurd (other own.0)
  | inr (mine, asked, on) ↦ record { greeting = e; events = es; lawful = lawful; runs = on; ends = refl }
]

pub behind : {R : Type 0} (program : Program Call Reply R) (start : State) (result : R) (end : State) → Makes program start result end → IsBehind program start result end
behind program start result end m = subst (λ (s : State). IsBehind program start result s) m.made.ends (behind_greeting program start m.events result m.made.lawful m.made.own m.runs)

-- ---- what was called since a state

pub record HasReached (from now : State) : Type 0 where
  pub events : List Event
  pub lawful : IsLawful from events
  pub ends : state_after from events ≡ now

-- behind some calls, the calls of the program
pub record Follows {R : Type 0} (from : State) (program : Program Call Reply R) (result : R) (end : State) : Type 0 where
  pub waited : List Event
  pub mine : List Event
  pub lawful : IsLawful from (waited ++ mine)
  pub runs : Runs 0 program mine result
  pub ends : state_after from (waited ++ mine) ≡ end

lawful_both : (start : State) (first rest : List Event) → IsLawful start first → IsLawful (state_after start first) rest → IsLawful start (first ++ rest)
lawful_both start [] rest one other = other
lawful_both start (e ∷ first) rest one other = (one.0, one.1, lawful_both e.after first rest one.2 other)

pub follows : {R : Type 0} (from now end : State) (program : Program Call Reply R) (result : R) → HasReached from now → Makes program now result end → Follows from program result end
follows {R} from now end program result reached makes =
    let b : IsBehind program now result end = behind program now result end makes in
    let all : (reached.events ++ b.greeting ∷ []) ++ b.events ≡ reached.events ++ b.greeting ∷ b.events = append_assoc reached.events (b.greeting ∷ []) b.events in
    let on : IsLawful (state_after from reached.events) (b.greeting ∷ b.events) = subst (λ (s : State). IsLawful s (b.greeting ∷ b.events)) (sym reached.ends) b.lawful in
    record {
      waited = reached.events ++ b.greeting ∷ [];
      mine = b.events;
      lawful = subst (λ (es : List Event). IsLawful from es) (sym all) (lawful_both from reached.events (b.greeting ∷ b.events) reached.lawful on);
      runs = b.runs;
      ends = ap (λ (es : List Event). state_after from es) all ∙ state_append from reached.events (b.greeting ∷ b.events) ∙ ap (λ (s : State). state_after s (b.greeting ∷ b.events)) reached.ends ∙ b.ends;
    }

pub reached_by : {R : Type 0} (from end : State) (program : Program Call Reply R) (result : R) → Follows from program result end → HasReached from end
reached_by from end program result f = record { events = f.waited ++ f.mine; lawful = f.lawful; ends = f.ends }
