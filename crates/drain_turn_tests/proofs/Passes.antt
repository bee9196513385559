-- A pass of a mount's turn may make all calls of a drain, and each call for which nothing is owed of the state.
use Rattle.std.proofs.Common.{◌≡◌, ◌≢◌, ℕ, List, [], ◌∷◌, refl, sym, ◌∙◌, subst}
use Rattle.turn_object.specs.Callers.{MayCallAs, made_by}
use Rattle.turn_object.specs.Calls.{IsCalled, MayAsk}
use Rattle.turn_object.specs.Front.{IsHistory, IsLegalFront}
use Rattle.turn_object.specs.History.{Happens, state_after}
use Rattle.turn_object.specs.Pass.{ended_of, front, mine_of, seen_of, start_of, IsPassOf}
use Rattle.turn_object.proofs.Facts.{legal_given, legal_kept, legal_new}
use Rattle.mount_model.specs.declared.call.Call.{Call}
use Rattle.mount_model.specs.declared.reply.Reply.{Reply}
use Rattle.mount_model.specs.History.{Event}
use Rattle.mount_model.specs.Paths.{Name}
use Rattle.mount_model.specs.State.{State}
use Rattle.mount_model.specs.Step.{IsStep, OwedBy}
use Rattle.mount_sound.specs.Owed.{IsLawful, May, OwesNothing, Permits}
use Rattle.mount_sound.specs.Sound.{IsFine}
use Rattle.mount_sound.proofs.Facts.{owes_nothing, step_fine}
use Rattle.store_api.specs.declared.owned.OwnedStep.{OwnedStep}
use Rattle.mount_model.specs.Running.{unbroken}
use Rattle.mount_model.specs.Program.{ask, done}
use Rattle.mount_model.specs.Safe.{AreOthers, IsSafe, PassSafe}
use Rattle.mount_model.proofs.Stories.Facts.{entries_not_first, pass_goes, pass_may}
use Rattle.share_workers.specs.Passes.{ThePass, TheTurn, View}
use Rattle.mount_model.specs.Making.{Told}
use Rattle.drain_copy.specs.Asking.{acts, calls, ends}
use Rattle.drain_copy.specs.Draining.{drain_program}
use Rattle.drain_copy.specs.Standing.{GoesOnAfter, GoesOnTold, IsGiven, IsReady, Standing, awaits_answer, awaits_reply, ready}
use Rattle.drain_copy.specs.Telling.{DrainsOn}
use Rattle.drain_copy.specs.declared.points.DrainNext.TheVariants.{End, Source, Target}
use Rattle.drain_laws.specs.Allowed.{MayDrain}
use Rattle.drain_turn_tests.specs.Passing.{CanCall, MayDrainBy, calls_when}

-- ---- what others did

none_of : (caller : ℕ) (state : State) (others : List Event) → AreOthers IsStep Permits caller state others → made_by caller others ≡ []
none_of caller state [] o = refl
none_of caller state (e ∷ es) o = entries_not_first caller e es o.0 ∙ none_of caller e.after es o.3

lawful_of : (caller : ℕ) (state : State) (others : List Event) → AreOthers IsStep Permits caller state others → IsLawful state others
lawful_of caller state [] o = tt
lawful_of caller state (e ∷ es) o = (o.1.1, o.2, lawful_of caller e.after es o.3)

fine_behind : (caller : ℕ) (state : State) (others : List Event) → AreOthers IsStep Permits caller state others → IsFine state → IsFine (state_after state others)
fine_behind caller state [] o fine = fine
fine_behind caller state (e ∷ es) o fine = fine_behind caller e.after es o.3 (step_fine state e.after e.caller e.ask e.reply o.1.1 o.2 fine)

fine_along : (state : State) (events : List Event) → Happens IsStep Permits state events → IsFine state → IsFine (state_after state events)
fine_along state [] happens fine = fine
fine_along state (e ∷ es) happens fine = fine_along e.after es happens.2 (step_fine state e.after e.caller e.ask e.reply happens.0.1 happens.1 fine)

-- ---- a drain

safe_so : (caller : ℕ) (p : DrainsOn) (state : State) (told : List Told) → IsFine state → MayDrain caller p state → IsSafe IsStep Permits caller (calls_when p told) state
safe_so caller (ends outcome) state told fine may = tt
safe_so caller (calls call k) state told fine may = λ others o.
    let m = may others (none_of caller state others o) (lawful_of caller state others o) in
    let now : IsFine (state_after state others) = fine_behind caller state others o fine in
    ((now, m.0), λ reply after st. safe_so caller (k reply) after told (step_fine (state_after state others) after caller (unbroken call) reply m.0 st now) (m.1 reply after st))
safe_so caller (acts step k) state [] fine may = tt
safe_so caller (acts step k) state (answer ∷ told) fine may = safe_so caller (k answer) state told fine (may answer)

pub may_begin : {P : Type 0} (turn : TheTurn P) (pass : ThePass) (name : Name) (s : Standing) → ((caller : ℕ) (name : Name) (state : State) → IsFine state → MayDrain caller (drain_program name) state) → CanCall turn pass → s ≡ ready (drain_program name)
    → MayDrainBy (start_of turn) (front pass) s
may_begin turn pass name s law can is =
    let fine : IsFine (state_after (start_of turn) (seen_of pass)) = fine_along (start_of turn) (seen_of pass) can.known.legal.happens can.fine in
    let Q : Standing → Type 0 = λ x. MayDrainBy (start_of turn) (front pass) x in
    subst Q (sym is) (λ told caller may. safe_so caller (drain_program name) (state_after (start_of turn) (seen_of pass)) told fine (law caller name (state_after (start_of turn) (seen_of pass)) fine))

pub is_ready : (start : State) (v : View) (s : Standing) → MayDrainBy start v s → IsReady s
is_ready start v (ready p) may = tt
is_ready start v (awaits_reply k) may = absurd may
is_ready start v (awaits_answer k) may = absurd may

pub may_call : (start : State) (v : View) (old mid : Standing) (call : Call) → MayDrainBy start v old → IsGiven old (Source call) mid → MayAsk Permits start v (unbroken call)
may_call start v (ready (ends outcome)) mid call may given = absurd given
may_call start v (ready (calls question k)) mid call may given =
    let Q : Call → Type 0 = λ q. MayAsk Permits start v (unbroken q) in
    subst Q (sym given.0) (pass_may IsStep Permits start v (unbroken question) (λ reply. calls_when (k reply) []) (may []))
may_call start v (ready (acts step k)) mid call may given = absurd given
may_call start v (awaits_reply k) mid call may given = absurd may
may_call start v (awaits_answer k) mid call may given = absurd may

pub may_go_on : (start : State) (v w : View) (old mid new : Standing) (call : Call) (reply : Reply) → MayDrainBy start v old → IsGiven old (Source call) mid → IsLegalFront IsStep Permits start v → IsLegalFront IsStep Permits start w
    → IsCalled IsStep Permits start v (unbroken call) reply w → GoesOnAfter mid reply new → MayDrainBy start w new
may_go_on start v w (ready (ends outcome)) mid new call reply may given known knows called goes = absurd given
may_go_on start v w (ready (calls question k)) mid new call reply may given known knows called goes =
    let C : Call → Type 0 = λ q. IsCalled IsStep Permits start v (unbroken q) reply w in
    let G : Standing → Type 0 = λ s. GoesOnAfter s reply new in
    let Q : Standing → Type 0 = λ s. MayDrainBy start w s in
    let here = subst C given.0 called in
    let on : new ≡ ready (k reply) = subst G given.1 goes in
    subst Q (sym on) (λ told. pass_goes IsStep Permits start v w (unbroken question) (λ r. calls_when (k r) told) reply known.own here knows (may told))
may_go_on start v w (ready (acts step k)) mid new call reply may given known knows called goes = absurd given
may_go_on start v w (awaits_reply k) mid new call reply may given known knows called goes = absurd may
may_go_on start v w (awaits_answer k) mid new call reply may given known knows called goes = absurd may

pub may_go_on_told : (start : State) (v : View) (old mid new : Standing) (step : OwnedStep) (told : Told) → MayDrainBy start v old → IsGiven old (Target step) mid → GoesOnTold mid told new → MayDrainBy start v new
may_go_on_told start v (ready (ends outcome)) mid new step told may given goes = absurd given
may_go_on_told start v (ready (calls question k)) mid new step told may given goes = absurd given
may_go_on_told start v (ready (acts question k)) mid new step told may given goes =
    let G : Standing → Type 0 = λ s. GoesOnTold s told new in
    let Q : Standing → Type 0 = λ s. MayDrainBy start v s in
    let on : new ≡ ready (k told) = subst G given.1 goes in
    subst Q (sym on) (λ rest. may (told ∷ rest))
may_go_on_told start v (awaits_reply k) mid new step told may given goes = absurd may
may_go_on_told start v (awaits_answer k) mid new step told may given goes = absurd may

pub may_end : (start : State) (v : View) (old new : Standing) → MayDrainBy start v old → IsGiven old End new → MayDrainBy start v new
may_end start v (ready (ends outcome)) new may given =
    let Q : Standing → Type 0 = λ s. MayDrainBy start v s in
    subst Q (sym given) may
may_end start v (ready (calls question k)) new may given = absurd given
may_end start v (ready (acts question k)) new may given = absurd given
may_end start v (awaits_reply k) new may given = absurd may
may_end start v (awaits_answer k) new may given = absurd may

-- ---- calls for which nothing is owed, and passes that are divided

module _ {P : Type 0} (turn : TheTurn P) where
  pub may_make : (pass : ThePass) (call : Call) → CanCall turn pass → OwesNothing call → OwedBy call → MayAsk Permits (start_of turn) (front pass) (unbroken call)
  may_make pass call can nothing numbers caller may =
      let state : State = state_after (start_of turn) (seen_of pass) in
      (fine_along (start_of turn) (seen_of pass) can.known.legal.happens can.fine, record { numbers = numbers; owes = λ clean. owes_nothing state caller call nothing })

  pub can_more : (old new : ThePass) → CanCall turn old → IsPassOf turn new → IsLegalFront IsStep Permits (start_of turn) (front new) → CanCall turn new
  can_more old new can pass known = record { of_turn = pass; known = known; fine = can.fine }

  pub can_first : (pass : ThePass) → IsFine (start_of turn) → IsPassOf turn pass → seen_of pass ≡ [] → mine_of pass ≡ [] → ended_of pass ≡ [] → CanCall turn pass
  can_first pass fine of_turn seen mine ended = record {
    of_turn = of_turn;
    known = legal_new IsStep Permits (start_of turn) (front pass) (subst (λ (z : List Event). IsHistory IsStep Permits (start_of turn) z) (sym seen) (record { happens = tt; numbered = tt })) mine ended;
    fine = fine;
  }

  pub can_given : (old new : ThePass) → CanCall turn old → IsPassOf turn new → seen_of new ≡ seen_of old → mine_of new ≡ [] → ended_of new ≡ [] → CanCall turn new
  can_given old new can of_turn seen mine ended = record { of_turn = of_turn; known = legal_given IsStep Permits (start_of turn) (front old) (front new) can.known seen mine ended; fine = can.fine }

  pub can_kept : (old new : ThePass) → CanCall turn old → IsPassOf turn new → seen_of new ≡ seen_of old → mine_of new ≡ mine_of old → ended_of new ≡ ended_of old → CanCall turn new
  can_kept old new can of_turn seen mine ended = record { of_turn = of_turn; known = legal_kept IsStep Permits (start_of turn) (front old) (front new) can.known seen mine ended; fine = can.fine }
