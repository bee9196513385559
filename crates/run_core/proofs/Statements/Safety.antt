-- What an actor may do for a statement that owes nothing, or that is made of a program of which each call may be made.
use Rattle.std.proofs.Common.{◌≡◌, ℕ, Bool, true, false, List, [], ◌∷◌, Option, Some, None, refl, ap, subst}
use Rattle.std.specs.Prelude.{if◌then◌else◌, Result}
use Rattle.std.proofs.lemmas.List.Elements.{All-nil, All-cons}
use Rattle.turn_object.specs.declared.history.Entry.{Entry}
use Rattle.turn_object.specs.History.{state_after}
use Rattle.mount_model.specs.Program.{Program, AsksOnly, done, ask}
use Rattle.mount_model.specs.Process.{ends, pauses, tells, asks, shares}
use Rattle.mount_model.specs.Safe.{AreOthers, IsSafe, AreFree, IsSafeProcess}
use Rattle.mount_model.specs.declared.stuck.Stuck.{Stuck}
use Rattle.mount_model.specs.Running.{asking, unbroken}
use Rattle.index_reader.specs.declared.sharing.Share.{Share}
use Rattle.mount_model.specs.declared.call.Ask.{Ask}
use Rattle.mount_model.specs.declared.call.Call.{Call}
use Rattle.mount_model.specs.declared.reply.Reply.{Reply}
use Rattle.mount_model.specs.State.{State}
use Rattle.mount_model.specs.Step.{IsStep}
use Rattle.mount_sound.specs.Owed.{Permits}
use Rattle.mount_sound.specs.Sound.{IsFine}
use Rattle.mount_sound.proofs.Facts.{owes_nothing, step_fine}
use Rattle.recovery_laws.proofs.Holds.Facts.{fine_lasts, lasts_all}
use Rattle.actor_core.specs.declared.kept.Stop.{Stop}
use Rattle.actor_core.specs.Owed.{IsHarmless, EachAsksOnly, WorkAsksOnly}
use Rattle.actor_core.specs.Stopping.{carried, is_due, due_bytes, one_nearer, stoppable}
use Rattle.actor_core.specs.Work.{Work}

-- the caller may make each call of the work, whatever others call before it
abbrev pub MayMake : ℕ → Work → State → Type 0
MayMake caller work state = IsSafeProcess IsStep Permits caller work state

fine_now : (caller : ℕ) (state : State) (others : List (Entry Ask Reply State)) → AreOthers IsStep Permits caller state others → IsFine state → IsFine (state_after state others)
fine_now caller state others o fine = lasts_all caller IsFine (fine_lasts caller) state others o fine

-- after the caller's own call
fine_then : (state after : State) (caller : ℕ) (question : Ask) (reply : Reply) → Permits state caller question → IsStep state caller question reply after → IsFine after
fine_then state after caller question reply may step = step_fine state after caller question reply may.1 step may.0

-- ---- nothing is owed

may_harmless : (state : State) (caller : ℕ) (question : Ask) → IsHarmless question → IsFine state → Permits state caller question
may_harmless state caller question harmless fine = (fine, record { numbers = harmless.0; owes = λ clean. owes_nothing state caller question.call harmless.1 })

program_safe : {R : Type 0} (caller : ℕ) (p : Program Ask Reply R) → AsksOnly IsHarmless p → (state : State) → IsFine state → IsSafe IsStep Permits caller p state
program_safe caller (done result) harmless state fine = tt
program_safe caller (ask question k) harmless state fine = λ others o.
    let now = state_after state others in
    let may = may_harmless now caller question harmless.0 (fine_now caller state others o fine) in
    (may, λ reply after step. program_safe caller (k reply) (harmless.1 reply) after (fine_then now after caller question reply may step))

each_free : {R : Type 0} (programs : List (Program Ask Reply R)) → EachAsksOnly IsHarmless programs → (state : State) → IsFine state → AreFree IsStep Permits programs state
each_free {R} [] harmless state fine = All-nil (λ (p : Program Ask Reply R). (caller : ℕ) → IsSafe IsStep Permits caller p state)
each_free {R} (program ∷ programs) harmless state fine =
    All-cons (λ (p : Program Ask Reply R). (caller : ℕ) → IsSafe IsStep Permits caller p state) program programs (λ caller. program_safe caller program harmless.0 state fine) (each_free programs harmless.1 state fine)

-- a call for which nothing is owed, after which the rest may be made
pub asks_safe : (caller : ℕ) (question : Ask) (k : Reply → Work) → IsHarmless question → ((reply : Reply) (after : State) → IsFine after → MayMake caller (k reply) after) → (state : State) → IsFine state → MayMake caller (asks question k) state
asks_safe caller question k harmless goes state fine = λ others o.
    let now = state_after state others in
    let may = may_harmless now caller question harmless (fine_now caller state others o fine) in
    (may, λ reply after step. goes reply after (fine_then now after caller question reply may step))

pub harmless_safe : (caller : ℕ) (work : Work) → WorkAsksOnly IsHarmless work → (state : State) → IsFine state → MayMake caller work state
harmless_safe caller ends harmless state fine = tt
harmless_safe caller (pauses work) harmless state fine = harmless_safe caller work harmless state fine
harmless_safe caller (tells ending work) harmless state fine = harmless_safe caller work harmless state fine
harmless_safe caller (asks question k) harmless state fine = λ others o.
    let now = state_after state others in
    let may = may_harmless now caller question harmless.0 (fine_now caller state others o fine) in
    (may, λ reply after step. harmless_safe caller (k reply) (harmless.1 reply) after (fine_then now after caller question reply may step))
harmless_safe caller (shares programs k alone) harmless state fine = (
  (λ others o.
      let now = state_after state others in
      let here = fine_now caller state others o fine in
      (each_free programs harmless.0 now here, λ calls results made. harmless_safe caller (k results) (harmless.1 results) now here)),
  harmless_safe caller alone harmless.2 state fine,
)

-- ---- a program of which each call may be made

pub either_way : {X : Type 0} (P : X → Type 0) (b : Bool) (x y : X) → (b ≡ true → P x) → (b ≡ false → P y) → P (if b then x else y)
either_way P true x y one other = one refl
either_way P false x y one other = other refl

not_broken : (stop : Option Stop) → is_due stop ≡ false → due_bytes stop ≡ None
not_broken None later = refl
not_broken (Some stop) later = ap (λ b. if b then Some stop.bytes else None) later

-- a call that the stop isn't within is not broken off
whole_step : (stop : Option Stop) (call : Call) (state : State) (caller : ℕ) (reply : Reply) (after : State) → is_due stop ≡ false → IsStep state caller (stoppable stop call) reply after → IsStep state caller (unbroken call) reply after
whole_step stop call state caller reply after later step =
    let S : Option ℕ → Type 0 = λ bytes. IsStep state caller (record { call = call; stop = bytes }) reply after in
    subst S (not_broken stop later) step

-- With a stop among its calls: one that is broken off is owed as before, and then the actor does what it does stopped.
pub carried_safe : {R : Type 0} (caller : ℕ) (p : Program Call Reply R) (stop : Option Stop) (next : Option Stop → R → Work) (halted : Work)
    → ((left : Option Stop) (result : R) (state : State) → IsFine state → MayMake caller (next left result) state)
    → ((state : State) → IsFine state → MayMake caller halted state)
    → (state : State) → IsFine state → IsSafe IsStep Permits caller (asking p) state → MayMake caller (carried p stop next halted) state
carried_safe caller (done result) stop next halted goes stops state fine safe = goes stop result state fine
carried_safe caller (ask call k) stop next halted goes stops state fine safe = λ others o.
    let now = state_after state others in
    let here = safe others o in
    let may : Permits now caller (stoppable stop call) = (here.0.0, record { numbers = here.0.1.numbers; owes = here.0.1.owes }) in (
      may,
      λ reply after step.
          let later : IsFine after = fine_then now after caller (stoppable stop call) reply may step in
          either_way (λ (work : Work). MayMake caller work after) (is_due stop) halted (carried (k reply) (one_nearer stop) next halted)
          (λ due. stops after later)
          (λ due. carried_safe caller (k reply) (one_nearer stop) next halted goes stops after later (here.1 reply after (whole_step stop call now caller reply after due step))),
    )
