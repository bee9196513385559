-- Programs that a caller by itself makes, as events behind a moment.
use Rattle.std.proofs.Common.{◌≡◌, ℕ, List, [], ◌∷◌, ◌++◌, refl, sym, ap, ◌∙◌, subst, inl, inr}
use Rattle.std.specs.List.{AllByRecursion}
use Rattle.mount_model.specs.declared.call.Ask.{Ask}
use Rattle.mount_model.specs.declared.call.Call.{Call}
use Rattle.mount_model.specs.declared.call.Call.TheVariants.{Greet}
use Rattle.mount_model.specs.declared.reply.Reply.{Reply}
use Rattle.mount_model.specs.History.{Event, state_after}
use Rattle.mount_model.specs.State.{State}
use Rattle.mount_sound.specs.Issued.{issued_after}
use Rattle.mount_sound.specs.Owed.{IsLawful}
use Rattle.mount_model.specs.Program.{Program}
use Rattle.mount_model.specs.Running.{Runs, unbroken}
use Rattle.mount_model.proofs.Flows.Facts.{runs_next}
use Rattle.lone_flow.specs.Driving.{Makes, greets_first}
use Rattle.reader_laws.specs.Moments.{Moment, moment_after, next_moment}
use Rattle.reader_laws.proofs.Gathered.Facts.{follows, moment-append}

-- ---- from one moment to another

pub record Comes (m to : Moment) : Type 0 where
  pub events : List Event
  pub lawful : IsLawful m.state events
  pub ends : moment_after m events ≡ to

abbrev pub comes_none : (m : Moment) → Comes m m
comes_none m = record { events = []; lawful = tt; ends = refl }

pub lawful_both : (m : Moment) (first rest : List Event) → IsLawful m.state first → IsLawful (moment_after m first).state rest → IsLawful m.state (first ++ rest)
lawful_both m [] rest one other = other
lawful_both m (e ∷ first) rest one other = (one.0, one.1, lawful_both (next_moment m e) first rest one.2 other)

abbrev pub comes_both : (a b c : Moment) → Comes a b → Comes b c → Comes a c
comes_both a b c one other = record {
  events = one.events ++ other.events;
  lawful = lawful_both a one.events other.events one.lawful (subst (λ (x : Moment). IsLawful x.state other.events) (sym one.ends) other.lawful);
  ends = moment-append a one.events other.events ∙ ap (λ (x : Moment). moment_after x other.events) one.ends ∙ other.ends;
}

-- a moment that events led to, in this state
pub record Reaches (m : Moment) (end : State) : Type 0 where
  pub to : Moment
  pub comes : Comes m to
  pub at : to.state ≡ end

-- ---- a program behind a greeting

pub record IsMade {R : Type 0} (program : Program Call Reply R) (m : Moment) (result : R) (end : State) : Type 0 where
  pub greeting : Event
  pub events : List Event
  pub lawful : IsLawful m.state (greeting ∷ events)
  pub own : greeting.caller ≡ 0
  pub asks : greeting.ask ≡ unbroken Greet
  pub alone : AllByRecursion (λ (e : Event). e.caller ≡ 0) events
  pub runs : Runs 0 program events result
  pub ends : state_after m.state (greeting ∷ events) ≡ end

made_from : {R : Type 0} (program : Program Call Reply R) (m : Moment) (events : List Event) (result : R) → IsLawful m.state events → AllByRecursion (λ (e : Event). e.caller ≡ 0) events → Runs 0 (greets_first program) events result
    → IsMade program m result (state_after m.state events)
made_from program m [] result lawful own runs = absurd runs
made_from program m (e ∷ es) result lawful own runs = elim (runs_next 0 Greet (λ reply. program) e es result runs) as (λ _. IsMade program m result (state_after e.after es)) [
  | inl (other, on) ↦ absurd (other own.0)
  | inr (mine, asked, on) ↦ record { greeting = e; events = es; lawful = lawful; own = mine; asks = asked; alone = own.1; runs = on; ends = refl }
]

pub is_made : {R : Type 0} (program : Program Call Reply R) (m : Moment) (start : State) (result : R) (end : State) → m.state ≡ start → Makes program start result end → IsMade program m result end
is_made {R} program m start result end here makes =
    let all : Makes program m.state result end = subst (λ (s : State). Makes program s result end) (sym here) makes in
    subst (λ (s : State). IsMade program m result s) all.made.ends (made_from program m all.events result all.made.lawful all.made.own all.runs)

-- the moment behind the greeting, and that behind all calls
abbrev pub greeted : {R : Type 0} (program : Program Call Reply R) (m : Moment) (result : R) (end : State) → IsMade program m result end → Moment
greeted program m result end b = next_moment m b.greeting

abbrev pub behind : {R : Type 0} (program : Program Call Reply R) (m : Moment) (result : R) (end : State) → IsMade program m result end → Moment
behind program m result end b = moment_after (next_moment m b.greeting) b.events

abbrev pub made_reaches : {R : Type 0} (program : Program Call Reply R) (m : Moment) (result : R) (end : State) → IsMade program m result end → Reaches m end
made_reaches program m result end b = record {
  to = behind program m result end b;
  comes = record { events = b.greeting ∷ b.events; lawful = b.lawful; ends = refl };
  at = (follows m (b.greeting ∷ b.events)).0 ∙ b.ends;
}

abbrev pub reaches_on : (a b : Moment) (end : State) → Comes a b → Reaches b end → Reaches a end
reaches_on a b end comes r = record { to = r.to; comes = comes_both a b r.to comes r.comes; at = r.at }

-- a greeting issues nothing
pub greeting_issues : {R : Type 0} (program : Program Call Reply R) (m : Moment) (result : R) (end : State) (b : IsMade program m result end) (room writer : ℕ) → (next_moment m b.greeting).issued room writer ≡ m.issued room writer
greeting_issues program m result end b room writer = ap (λ (a : Ask). issued_after m.issued m.state a.call b.greeting.reply room writer) b.asks
