-- What stays so while others call, and how a program is shown to be safe.
use Rattle.std.proofs.Common.{ℕ, List, [], ◌∷◌}
use Rattle.std.specs.Prelude.{◌≢◌}
use Rattle.turn_object.specs.declared.history.Entry.{Entry}
use Rattle.turn_object.specs.History.{state_after}
use Rattle.mount_model.specs.Program.{Program, ask}
use Rattle.mount_model.specs.Safe.{AreOthers, IsSafe}
use Rattle.mount_model.specs.Running.{asking, unbroken}
use Rattle.mount_model.specs.declared.call.Ask.{Ask}
use Rattle.mount_model.specs.declared.call.Call.{Call}
use Rattle.mount_model.specs.declared.reply.Reply.{Reply}
use Rattle.mount_model.specs.State.{State}
use Rattle.mount_model.specs.Step.{OwedBy, IsStep}
use Rattle.mount_sound.specs.Owed.{OwesNothing, Permits}
use Rattle.mount_sound.specs.Sound.{IsFine}
use Rattle.mount_sound.proofs.Facts.{may_last, owes_nothing, step_fine}

-- what holds before a step of another caller holds after it
abbrev pub LastsOne : ℕ → (State → Type 0) → Type 0
LastsOne caller fact = (old new : State) (other : ℕ) (asked : Ask) (reply : Reply) → other ≢ caller → Permits old other asked → IsStep old other asked reply new → fact old → fact new

pub lasts_all : (caller : ℕ) (fact : State → Type 0) → LastsOne caller fact → (state : State) (others : List (Entry Ask Reply State)) → AreOthers IsStep Permits caller state others → fact state → fact (state_after state others)
lasts_all caller fact one state [] o f = f
lasts_all caller fact one state (e ∷ es) o f = lasts_all caller fact one e.after es o.3 (one state e.after e.caller e.ask e.reply o.0 o.1 o.2 f)

pub fine_lasts : (caller : ℕ) → LastsOne caller IsFine
fine_lasts caller old new other asked reply differ may step fine = step_fine old new other asked reply may.1 step fine

pub may_lasts : (caller : ℕ) (mine : Ask) → LastsOne caller (λ state. Permits state caller mine)
may_lasts caller mine old new other asked reply differ may step m =
    (step_fine old new other asked reply may.1 step m.0, may_last old new caller other mine asked reply differ m.0 m.1 may.1 step)

-- a call for which nothing is owed
abbrev pub IsFree : Call → Type 0
IsFree call = OwedBy call × OwesNothing call

pub may_free : (state : State) (caller : ℕ) (call : Call) → IsFree call → IsFine state → Permits state caller (unbroken call)
may_free state caller call free fine = (fine, record { numbers = free.0; owes = λ clean. owes_nothing state caller call free.1 })

-- A caller may ask where a fact that lasts allows it, and the reply leads on.
pub safe_ask : {R : Type 0} (caller : ℕ) (fact : State → Type 0) (call : Call) (k : Reply → Program Call Reply R) → LastsOne caller fact
    → ((state : State) → fact state → Permits state caller (unbroken call))
    → ((state : State) (reply : Reply) (after : State) → fact state → Permits state caller (unbroken call) → IsStep state caller (unbroken call) reply after → IsSafe IsStep Permits caller (asking (k reply)) after)
    → (state : State) → fact state → IsSafe IsStep Permits caller (asking (ask call k)) state
safe_ask caller fact call k one allows leads state f = λ others o.
    let now = lasts_all caller fact one state others o f in
    let may = allows (state_after state others) now in
    (may, λ reply after step. leads (state_after state others) reply after now may step)

-- the same of a call for which nothing is owed, where the state is fine
pub safe_free : {R : Type 0} (caller : ℕ) (call : Call) (k : Reply → Program Call Reply R) → IsFree call
    → ((reply : Reply) (after : State) → IsFine after → IsSafe IsStep Permits caller (asking (k reply)) after)
    → (state : State) → IsFine state → IsSafe IsStep Permits caller (asking (ask call k)) state
safe_free caller call k free leads =
    safe_ask caller IsFine call k (fine_lasts caller) (λ state fine. may_free state caller call free fine)
    (λ state reply after fine may step. leads reply after (step_fine state after caller (unbroken call) reply may.1 step fine))
