-- What calls leave of a container where nothing lands and no truncate comes.
use Rattle.std.proofs.Common.{◌≡◌, ℕ, suc, inl, inr, List, [], ◌∷◌, ◌++◌, refl, sym, ap, ◌∙◌, subst, arith, append-nil}
use Rattle.std.specs.List.{AllByRecursion}
use Rattle.mount_model.specs.Program.{Program, ask, done}
use Rattle.mount_model.specs.declared.call.Ask.{Ask}
use Rattle.mount_model.specs.declared.call.Call.{Call}
use Rattle.mount_model.specs.declared.call.Call.TheVariants as call
use Rattle.mount_model.specs.declared.reply.Reply.{Reply}
use Rattle.mount_model.specs.History.{Event, state_after}
use Rattle.mount_model.specs.Paths.{Name}
use Rattle.mount_model.specs.State.{State}
use Rattle.mount_sound.specs.Owed.{IsLawful}
use Rattle.mount_model.specs.Running.{Runs}
use Rattle.mount_model.proofs.Flows.Facts.{runs_done, runs_next}
use Rattle.lone_flow.specs.Driving.{BeginsToMake, Makes, greets_first}
use Rattle.writer_flow.specs.Opening.{if_made, open_program}
use Rattle.reader_laws.specs.Moments.{Dropping, HadTrunc, IsNamed, IsSoundAt, Moment, landed_by, moment_after}
use Rattle.reader_laws.proofs.Gathered.Facts.{follows, sound_after}
use Rattle.packing_laws.proofs.Facts.{Comes, comes_both, comes_none}
use Rattle.copy_core.specs.Clearing.{free_program}
use Rattle.put_program.proofs.Copyings.Asked.{Asks, Enters, Spares, asks_weaker, made_asks}
use Rattle.put_program.proofs.Copyings.Spared.{AllSpare, HasContainer, lets_events}

-- ---- a container that stays as it is

-- From the one moment to the other nothing has landed in the container of this number, and no truncate has come. It is there, with its name.
pub record Stays (m to : Moment) (number : ℕ) (name : Name) : Type 0 where
  pub landed : (d : Dropping) → IsNamed d → d.room ≡ number → landed_by to d ≡ landed_by m d
  pub truncates : (stamp size : ℕ) → HadTrunc to number stamp size → HadTrunc m number stamp size
  pub container : HasContainer to number name

-- so it is along some events, which lead to this state
pub record Stretch (m : Moment) (number : ℕ) (name : Name) (end : State) : Type 0 where
  pub to : Moment
  pub comes : Comes m to
  pub at : to.state ≡ end
  pub stays : Stays m to number name

pub stays_both : (a b c : Moment) (number : ℕ) (name : Name) → Stays a b number name → Stays b c number name → Stays a c number name
stays_both a b c number name one other = record {
  landed = λ d named its. other.landed d named its ∙ one.landed d named its;
  truncates = λ stamp size had. one.truncates stamp size (other.truncates stamp size had);
  container = other.container;
}

pub stretch_none : (m : Moment) (number : ℕ) (name : Name) (end : State) → HasContainer m number name → m.state ≡ end → Stretch m number name end
stretch_none m number name end c here = record { to = m; comes = comes_none m; at = here; stays = record { landed = λ d named its. refl; truncates = λ stamp size had. had; container = c } }

pub stretch_both : (m : Moment) (number : ℕ) (name : Name) (mid end : State) → (a : Stretch m number name mid) → Stretch a.to number name end → Stretch m number name end
stretch_both m number name mid end a b = record {
  to = b.to;
  comes = comes_both m a.to b.to a.comes b.comes;
  at = b.at;
  stays = stays_both m a.to b.to number name a.stays b.stays;
}

pub sound_there : (m : Moment) (number : ℕ) (name : Name) (end : State) → IsSoundAt m → (s : Stretch m number name end) → IsSoundAt s.to
sound_there m number name end sound s = subst (λ x. IsSoundAt x) s.comes.ends (sound_after m s.comes.events s.comes.lawful sound)

-- ---- the calls of a program, to its end or not

pub record Front (P : Call → Type 0) (m : Moment) (end : State) : Type 0 where
  pub events : List Event
  pub lawful : IsLawful m.state events
  pub own : AllByRecursion (λ (e : Event). e.caller ≡ 0) events
  pub ends : state_after m.state events ≡ end
  pub asks : AllByRecursion (λ (e : Event). P e.ask.call) events

pub asked_front : {R : Type 0} (P : Call → Type 0) (program : Program Call Reply R) (events more : List Event) (result : R) → Asks P program → AllByRecursion (λ (e : Event). e.caller ≡ 0) events → Runs 0 program (events ++ more) result → AllByRecursion (λ (e : Event). P e.ask.call) events
asked_front P program [] more result asks own runs = tt
asked_front P (done out) (e ∷ events) more result asks own runs = absurd ((runs_done 0 out e (events ++ more) result runs).0 own.0)
asked_front P (ask q k) (e ∷ events) more result asks own runs = elim (runs_next 0 q k e (events ++ more) result runs) as (λ _. AllByRecursion (λ (x : Event). P x.ask.call) (e ∷ events)) [
  | inl (other, r) ↦ absurd (other own.0)
  | inr (mine, asked, r) ↦ (subst (λ (a : Ask). P a.call) (sym asked) asks.0, asked_front P (k e.reply) events more result (asks.1 e.reply) own.1 r)
]

pub front_begun : {R : Type 0} (P : Call → Type 0) (program : Program Call Reply R) → P call.Greet → Asks P program → (m : Moment) (start end : State) → m.state ≡ start → BeginsToMake program start end → Front P m end
front_begun P program greets asks m start end here b = record {
  events = b.events;
  lawful = subst (λ (s : State). IsLawful s b.events) (sym here) b.made.lawful;
  own = b.made.own;
  ends = ap (λ (s : State). state_after s b.events) here ∙ b.made.ends;
  asks = asked_front P (greets_first program) b.events b.more b.result (greets, λ reply. asks) b.made.own b.front_of;
}

pub front_whole : {R : Type 0} (P : Call → Type 0) (program : Program Call Reply R) → P call.Greet → Asks P program → (m : Moment) (start : State) (result : R) (end : State) → m.state ≡ start → Makes program start result end → Front P m end
front_whole P program greets asks m start result end here b = record {
  events = b.events;
  lawful = subst (λ (s : State). IsLawful s b.events) (sym here) b.made.lawful;
  own = b.made.own;
  ends = ap (λ (s : State). state_after s b.events) here ∙ b.made.ends;
  asks = asked_front P (greets_first program) b.events [] result (greets, λ reply. asks) b.made.own (subst (λ (es : List Event). Runs 0 (greets_first program) es result) (sym (append-nil b.events)) b.runs);
}

-- ---- calls that land nothing

-- it lands nothing of any writer, puts no truncate, and gives no container another name
abbrev pub SparesAll : Call → Type 0
SparesAll q = (w : ℕ) → Spares w q

all_writers : {R : Type 0} (program : Program Call Reply R) → ((w : ℕ) → Asks (Spares w) program) → Asks SparesAll program
all_writers (done r) asks = tt
all_writers (ask q k) asks = (λ w. (asks w).0, λ reply. all_writers (k reply) (λ w. (asks w).1 reply))

for_one : (w : ℕ) (events : List Event) → AllByRecursion (λ (e : Event). SparesAll e.ask.call) events → AllSpare w events
for_one w [] all = tt
for_one w (e ∷ events) all = (all.0 w, for_one w events all.1)

pub lands_none_events : (m : Moment) (number : ℕ) (name : Name) (events : List Event) → IsSoundAt m → HasContainer m number name → IsLawful m.state events → AllByRecursion (λ (e : Event). SparesAll e.ask.call) events → Stays m (moment_after m events) number name
lands_none_events m number name events sound c lawful asks = record {
  landed = λ d named its. (lets_events m events number (suc d.writer) name sound lawful (for_one (suc d.writer) events asks) c).0.landed d named its (λ same. omega (arith, same));
  truncates = (lets_events m events number 0 name sound lawful (for_one 0 events asks) c).0.truncates;
  container = (lets_events m events number 0 name sound lawful (for_one 0 events asks) c).1;
}

pub lands_none : (m : Moment) (number : ℕ) (name : Name) (end : State) → IsSoundAt m → HasContainer m number name → Front SparesAll m end → Stretch m number name end
lands_none m number name end sound c f = record {
  to = moment_after m f.events;
  comes = record { events = f.events; lawful = f.lawful; ends = refl };
  at = (follows m f.events).0 ∙ f.ends;
  stays = lands_none_events m number name f.events sound c f.lawful f.asks;
}

pub free_spares : (name : Name) → Asks SparesAll (free_program name)
free_spares name = (λ w. (tt, tt, tt), λ reply. tt)

pub open_spares : (name : Name) (host : ℕ) → Asks SparesAll (open_program name host 1)
open_spares name host = all_writers (open_program name host 1) (λ w. ((tt, tt, tt), λ rep. asks_weaker (Enters w) (Spares w) (if_made host 1 rep) (λ q enters. enters.0) (made_asks w host 1 rep)))
