-- How a drain comes to its end, question by question.
use Rattle.std.proofs.Common.{◌≡◌, ◌≢◌, ℕ, Bool, true, false, List, [], ◌∷◌, ◌++◌, refl, ap, sym, ◌∙◌, inl, inr, subst}
use Rattle.std.specs.Prelude.{IsErr, OnErr, OnOk, Result, Ok, Err}
use Rattle.std.specs.List.{AllByRecursion}
use Rattle.store_api.specs.declared.store.Trouble.TheVariants.{NoMemory as ToldNoMemory}
use Rattle.store_api.specs.declared.owned.OwnedStep.{OwnedStep}
use Rattle.store_api.specs.Acts.{Acts, Stored}
use Rattle.store_api.specs.Owned.{step_given}
use Rattle.store_api.specs.Step.{Step}
use Rattle.mount_model.specs.declared.call.Call.{Call}
use Rattle.mount_model.specs.declared.reply.Reply.{Reply}
use Rattle.mount_model.specs.declared.reply.Reply.TheVariants.{NoMemory}
use Rattle.mount_model.specs.History.{Event}
use Rattle.mount_model.specs.Paths.{Name}
use Rattle.mount_model.specs.State.{State}
use Rattle.mount_model.specs.Step.{IsStep}
use Rattle.mount_sound.specs.Owed.{IsLawful, May}
use Rattle.mount_sound.specs.Sound.{IsFine}
use Rattle.mount_model.specs.Running.{unbroken}
use Rattle.reader_laws.specs.Moments.{Moment, next_moment}
use Rattle.drain_copy.specs.Asking.{acts, calls, ends}
use Rattle.mount_model.specs.Making.{Told}
use Rattle.drain_copy.specs.Draining.{drain_program}
use Rattle.drain_copy.specs.declared.points.DrainNext.TheVariants.{Source, Target, End}
use Rattle.drain_copy.specs.Standing.{GoesOnAfter, HasEnded, IsGiven, IsReady, Standing, awaits_answer, awaits_reply, ended, ready}
use Rattle.drain_copy.specs.Telling.{DrainsOn, Outcome}
use Rattle.drain_sound.specs.Draining.{Act, Happening, at_source, at_target, source_after, target_after}
use Rattle.drain_laws.specs.Allowed.{MayDrain}
use Rattle.drain_laws.specs.Driving.{AreMade, Drives}
use Rattle.drain_laws.specs.Faults.{WasServed}
use Rattle.drain_program.specs.Driven.{BeginsToDrain, DrainsTo, IsDriven, IsOwn, WereServedBeforeLast, moment_of}
use Rattle.drain_program.specs.Stepping.{BreaksOff, GoesOnOrEnds, IsActed, IsAsked, IsCalled, Nears, NearsBy, WasActed, WasCalled}

-- ---- what happened, and more

made_both : (m : Moment) (store : Stored) (first rest : List Happening) → AreMade m store first → AreMade (source_after m first) (target_after store first) rest → AreMade m store (first ++ rest)
made_both m store [] rest a b = b
made_both m store (at_source e ∷ first) rest a b = (a.0, made_both (next_moment m e) store first rest a.1 b)
made_both m store (at_target t ∷ first) rest a b = (a.0, made_both m t.after first rest a.1 b)

source_both : (m : Moment) (first rest : List Happening) → source_after m (first ++ rest) ≡ source_after (source_after m first) rest
source_both m [] rest = refl
source_both m (at_source e ∷ first) rest = source_both (next_moment m e) first rest
source_both m (at_target t ∷ first) rest = source_both m first rest

target_both : (store : Stored) (first rest : List Happening) → target_after store (first ++ rest) ≡ target_after (target_after store first) rest
target_both store [] rest = refl
target_both store (at_source e ∷ first) rest = target_both store first rest
target_both store (at_target t ∷ first) rest = target_both t.after first rest

drives_both : (caller : ℕ) (p mid left : DrainsOn) (first rest : List Happening) → Drives caller p first mid → Drives caller mid rest left → Drives caller p (first ++ rest) left
drives_both caller p mid left [] rest a b = subst (λ q. Drives caller q rest left) a b
drives_both caller p mid left (at_source e ∷ first) rest (inl (other, a)) b = inl (other, drives_both caller p mid left first rest a b)
drives_both caller p mid left (at_source e ∷ first) rest (inr (own, (next, is, a))) b = inr (own, (next, is, drives_both caller next mid left first rest a b))
drives_both caller p mid left (at_target t ∷ first) rest (next, is, a) b = (next, is, drives_both caller next mid left first rest a b)

all_both : (P : Happening → Type 0) (first rest : List Happening) → AllByRecursion P first → AllByRecursion P rest → AllByRecursion P (first ++ rest)
all_both P [] rest a b = b
all_both P (h ∷ first) rest a b = (a.0, all_both P first rest a.1 b)

before_last : (first : List Happening) (last : Happening) → AllByRecursion (WasServed 0) first → WereServedBeforeLast (first ++ last ∷ [])
before_last [] last had = tt
before_last (h ∷ []) last had = (had.0, tt)
before_last (h ∷ g ∷ first) last had = (had.0, before_last (g ∷ first) last had.1)

pub all_had : (all : List Happening) → AllByRecursion (WasServed 0) all → WereServedBeforeLast all
all_had [] had = tt
all_had (h ∷ []) had = tt
all_had (h ∷ g ∷ rest) had = (had.0, all_had (g ∷ rest) had.1)

-- ---- what a call or a step came to

never_true : false ≡ true → ⊥
never_true e = absurd (cc)

pub called_so : {A E : Type 0} (call : Call) (old new : Standing) (state now : State) (reply : Reply) (result : Result A E) → OnOk result (GoesOnAfter old reply new) → (reply ≡ NoMemory → IsErr result) → IsStep state 0 (unbroken call) reply now → OnOk result (IsCalled call old state new now)
called_so call old new state now reply (Ok done_) goes none step = record { reply = reply; had_memory = λ bad. never_true (none bad); step = step; goes_on = goes }
called_so call old new state now reply (Err why) goes none step = tt

pub was_called : {A E : Type 0} (call : Call) (state now : State) (reply : Reply) (result : Result A E) → IsStep state 0 (unbroken call) reply now → OnErr result (WasCalled call state now)
was_called call state now reply (Ok done_) step = tt
was_called call state now reply (Err why) step = (reply, step)

-- whichever way it ended
pub on_err : {A E X : Type 0} (result : Result A E) → X → OnErr result X
on_err (Ok done_) x = tt
on_err (Err why) x = x

-- ---- what was asked

pub given_called : (old mid new : Standing) (call : Call) (state now : State) (store left : Stored) → IsGiven old (Source call) mid → IsCalled call mid state new now → left ≡ store → IsAsked old state store new now left
given_called (ready (ends outcome)) mid new call state now store left given c kept = absurd given
given_called (ready (calls q k)) mid new call state now store left given c kept =
    (subst (λ x. IsCalled x (awaits_reply k) state new now) given.0 (subst (λ m. IsCalled call m state new now) given.1 c), kept)
given_called (ready (acts step k)) mid new call state now store left given c kept = absurd given
given_called (awaits_reply k) mid new call state now store left given c kept = absurd given
given_called (awaits_answer k) mid new call state now store left given c kept = absurd given

pub given_acted : (old mid new : Standing) (step : OwnedStep) (state now : State) (store left : Stored) → IsGiven old (Target step) mid → IsActed (step_given step) mid store new left → now ≡ state → IsAsked old state store new now left
given_acted (ready (ends outcome)) mid new step state now store left given a kept = absurd given
given_acted (ready (calls q k)) mid new step state now store left given a kept = absurd given
given_acted (ready (acts q k)) mid new step state now store left given a kept =
    (subst (λ x. IsActed x (awaits_answer k) store new left) given.0 (subst (λ m. IsActed (step_given step) m store new left) given.1 a), kept)
given_acted (awaits_reply k) mid new step state now store left given a kept = absurd given
given_acted (awaits_answer k) mid new step state now store left given a kept = absurd given

pub given_over : (old new : Standing) (state now : State) (store left : Stored) → IsGiven old End new → now ≡ state → left ≡ store → GoesOnOrEnds false old state store new now left
given_over (ready (ends outcome)) new state now store left given same kept = (subst HasEnded (sym given) tt, given, same, kept)
given_over (ready (calls q k)) new state now store left given same kept = absurd given
given_over (ready (acts q k)) new state now store left given same kept = absurd given
given_over (awaits_reply k) new state now store left given same kept = absurd given
given_over (awaits_answer k) new state now store left given same kept = absurd given

pub broken_call : (old mid : Standing) (call : Call) (state now : State) (store left : Stored) → IsGiven old (Source call) mid → WasCalled call state now → left ≡ store → BreaksOff old state store now left
broken_call (ready (ends outcome)) mid call state now store left given c kept = absurd given
broken_call (ready (calls q k)) mid call state now store left given c kept = (subst (λ x. WasCalled x state now) given.0 c, kept)
broken_call (ready (acts step k)) mid call state now store left given c kept = absurd given
broken_call (awaits_reply k) mid call state now store left given c kept = absurd given
broken_call (awaits_answer k) mid call state now store left given c kept = absurd given

pub broken_act : (old mid : Standing) (step : OwnedStep) (state now : State) (store left : Stored) → IsGiven old (Target step) mid → WasActed (step_given step) store left → now ≡ state → BreaksOff old state store now left
broken_act (ready (ends outcome)) mid step state now store left given a kept = absurd given
broken_act (ready (calls q k)) mid step state now store left given a kept = absurd given
broken_act (ready (acts q k)) mid step state now store left given a kept = (subst (λ x. WasActed x store left) given.0 a, kept)
broken_act (awaits_reply k) mid step state now store left given a kept = absurd given
broken_act (awaits_answer k) mid step state now store left given a kept = absurd given

-- ---- one question more

module _ (name : Name) (start : State) (target : Stored) where
  abbrev call_of : Call → Reply → State → Event
  call_of call reply now = record { caller = 0; ask = unbroken call; reply = reply; after = now }

  abbrev act_of : Step → Told → Stored → Act
  act_of step told left = record { step = step; answer = told; after = left }

  driven_call : (happened : List Happening) (call : Call) (k : Reply → DrainsOn) (state now : State) (store : Stored) (reply : Reply) → IsDriven name start target happened (calls call k) state store → May state 0 (unbroken call) → IsStep state 0 (unbroken call) reply now
      → IsDriven name start target (happened ++ at_source (call_of call reply now) ∷ []) (k reply) now store
  driven_call happened call k state now store reply d may step =
      let e : Event = call_of call reply now in
      record {
        own = all_both IsOwn happened (at_source e ∷ []) d.own (refl, tt);
        made = λ issued. made_both (moment_of issued start) target happened (at_source e ∷ []) (d.made issued) (subst (λ s. IsLawful s (e ∷ [])) (sym (d.ends_source issued)) (may, step, tt), tt);
        drives = drives_both 0 (drain_program name) (calls call k) (k reply) happened (at_source e ∷ []) d.drives (inr (refl, (k reply, (refl, refl), refl)));
        ends_source = λ issued. ap (λ (m : Moment). m.state) (source_both (moment_of issued start) happened (at_source e ∷ []));
        ends_target = target_both target happened (at_source e ∷ []) ∙ d.ends_target;
      }

  driven_act : (happened : List Happening) (step : Step) (k : Told → DrainsOn) (state : State) (store left : Stored) (told : Told) → IsDriven name start target happened (acts step k) state store → Acts step store left told
      → IsDriven name start target (happened ++ at_target (act_of step told left) ∷ []) (k told) state left
  driven_act happened step k state store left told d acted =
      let a : Act = act_of step told left in
      record {
        own = all_both IsOwn happened (at_target a ∷ []) d.own (tt, tt);
        made = λ issued. made_both (moment_of issued start) target happened (at_target a ∷ []) (d.made issued) (subst (λ s. Acts step s left told) (sym d.ends_target) acted, tt);
        drives = drives_both 0 (drain_program name) (acts step k) (k told) happened (at_target a ∷ []) d.drives (k told, (refl, refl), refl);
        ends_source = λ issued. ap (λ (m : Moment). m.state) (source_both (moment_of issued start) happened (at_target a ∷ [])) ∙ d.ends_source issued;
        ends_target = target_both target happened (at_target a ∷ []);
      }

  call_made : (call : Call) (k : Reply → DrainsOn) (state now : State) (store : Stored) (reply : Reply) → Nears name start target (calls call k) state store → reply ≢ NoMemory → IsStep state 0 (unbroken call) reply now → Nears name start target (k reply) now store
  call_made call k state now store reply n had step =
      let m = n.may [] refl tt in
      record {
        may = m.1 reply now step;
        happened = n.happened ++ at_source (call_of call reply now) ∷ [];
        driven = driven_call n.happened call k state now store reply n.driven m.0 step;
        had_memory = all_both (WasServed 0) n.happened (at_source (call_of call reply now) ∷ []) n.had_memory ((λ own. had), tt);
      }

  act_made : (step : Step) (k : Told → DrainsOn) (state : State) (store left : Stored) (told : Told) → Nears name start target (acts step k) state store → told ≢ Err ToldNoMemory → Acts step store left told → Nears name start target (k told) state left
  act_made step k state store left told n had acted = record {
    may = n.may told;
    happened = n.happened ++ at_target (act_of step told left) ∷ [];
    driven = driven_act n.happened step k state store left told n.driven acted;
    had_memory = all_both (WasServed 0) n.happened (at_target (act_of step told left) ∷ []) n.had_memory (had, tt);
  }

  asked_on : (old new : Standing) (state now : State) (store left : Stored) → NearsBy name start target old state store → IsAsked old state store new now left → NearsBy name start target new now left
  asked_on (ready (ends outcome)) new state now store left n asked = absurd asked
  asked_on (ready (calls call k)) new state now store left n (c, same) =
      subst (λ x. NearsBy name start target new now x) (sym same) (subst (λ s. NearsBy name start target s now store) (sym c.goes_on) (call_made call k state now store c.reply n c.had_memory c.step))
  asked_on (ready (acts step k)) new state now store left n (a, same) =
      subst (λ x. NearsBy name start target new x left) (sym same) (subst (λ s. NearsBy name start target s state left) (sym a.goes_on) (act_made step k state store left a.told n a.had_memory a.acted))
  asked_on (awaits_reply k) new state now store left n asked = absurd n
  asked_on (awaits_answer k) new state now store left n asked = absurd n

  pub goes_nearer : (more : Bool) (old new : Standing) (state now : State) (store left : Stored) → NearsBy name start target old state store → GoesOnOrEnds more old state store new now left → NearsBy name start target new now left
  goes_nearer true old new state now store left n asked = asked_on old new state now store left n asked
  goes_nearer false old new state now store left n (over, same, still, kept) =
      subst (λ x. NearsBy name start target new now x) (sym kept) (subst (λ x. NearsBy name start target new x store) (sym still) (subst (λ s. NearsBy name start target s state store) (sym same) n))

  pub ready_on : (more : Bool) (old new : Standing) (state now : State) (store left : Stored) → more ≡ true → GoesOnOrEnds more old state store new now left → IsReady new
  ready_on false old new state now store left so asked = absurd (cc)
  ready_on true (ready (ends outcome)) new state now store left so asked = absurd asked
  ready_on true (ready (calls call k)) new state now store left so (c, same) = subst IsReady (sym c.goes_on) tt
  ready_on true (ready (acts step k)) new state now store left so (a, same) = subst IsReady (sym a.goes_on) tt
  ready_on true (awaits_reply k) new state now store left so asked = absurd asked
  ready_on true (awaits_answer k) new state now store left so asked = absurd asked

  pub has_ended : (more : Bool) (old new : Standing) (state now : State) (store left : Stored) → more ≡ false → GoesOnOrEnds more old state store new now left → HasEnded new
  has_ended true old new state now store left no_more asked = absurd (cc)
  has_ended false old new state now store left no_more asked = asked.0

  pub nears_first : (standing : Standing) → ((state : State) → IsFine state → MayDrain 0 (drain_program name) state) → IsFine start → standing ≡ ready (drain_program name) → NearsBy name start target standing start target
  nears_first standing law fine is = subst (λ s. NearsBy name start target s start target) (sym is) (record {
    may = law start fine;
    happened = [];
    driven = record { own = tt; made = λ issued. tt; drives = refl; ends_source = λ issued. refl; ends_target = refl };
    had_memory = tt;
  })

  pub drained_to : (standing : Standing) (state : State) (store : Stored) (outcome : Outcome) → NearsBy name start target standing state store → standing ≡ ended outcome → DrainsTo name start target outcome state store
  drained_to standing state store outcome n is =
      let e : Nears name start target (ends outcome) state store = subst (λ s. NearsBy name start target s state store) is n in
      record { happened = e.happened; driven = e.driven; had_memory = e.had_memory }

  pub began_to : (old : Standing) (state now : State) (store left : Stored) → NearsBy name start target old state store → BreaksOff old state store now left → BeginsToDrain name start target now left
  began_to (ready (ends outcome)) state now store left n broken = absurd broken
  began_to (ready (calls call k)) state now store left n ((reply, step), same) = subst (λ x. BeginsToDrain name start target now x) (sym same) (record {
    happened = n.happened ++ at_source (call_of call reply now) ∷ [];
    left = k reply;
    driven = driven_call n.happened call k state now store reply n.driven (n.may [] refl tt).0 step;
    had_memory = before_last n.happened (at_source (call_of call reply now)) n.had_memory;
  })
  began_to (ready (acts step k)) state now store left n ((told, acted), same) = subst (λ x. BeginsToDrain name start target x left) (sym same) (record {
    happened = n.happened ++ at_target (act_of step told left) ∷ [];
    left = k told;
    driven = driven_act n.happened step k state store left told n.driven acted;
    had_memory = before_last n.happened (at_target (act_of step told left)) n.had_memory;
  })
  began_to (awaits_reply k) state now store left n broken = absurd n
  began_to (awaits_answer k) state now store left n broken = absurd n
