-- What holds of a clean state stays so, whoever makes a call, and how programs are shown to be safe by it.
use Rattle.std.proofs.Common.{ℕ, Option, Some, None, ◌⊎◌, inl, inr}
use Rattle.std.specs.Prelude.{Result, Ok, Err}
use Rattle.mount_model.specs.declared.stuck.Stuck.{Stuck}
use Rattle.mount_model.specs.Running.{asking, unbroken}
use Rattle.mount_model.specs.Program.{Program, ask}
use Rattle.mount_model.specs.Safe.{IsSafe}
use Rattle.mount_model.specs.declared.call.Ask.{Ask}
use Rattle.mount_model.specs.declared.call.Call.{Call}
use Rattle.mount_model.specs.declared.reply.Reply.{Reply}
use Rattle.mount_model.specs.State.{State}
use Rattle.mount_model.specs.Step.{IsStep}
use Rattle.mount_sound.specs.Ledger.{Ledger}
use Rattle.mount_sound.specs.Owed.{May, Permits}
use Rattle.mount_sound.specs.Sound.{IsClean, IsFine, IsSoundFor}
use Rattle.mount_sound.proofs.Facts.{step_fine, was_clean}
use Rattle.recovery_laws.proofs.Holds.Facts.{LastsOne, safe_ask}
use Rattle.mount_model.specs.FlowReplies.{Tries, given, on_ok}

-- the state is fine, and this holds of it where it is clean
abbrev pub Cleanly : (State → Type 0) → State → Type 0
Cleanly fact state = IsFine state × (IsClean state → fact state)

-- what holds of a sound state holds after each step, whoever makes it
abbrev pub Stays : (State → Type 0) → Type 0
Stays fact = (l : Ledger) (old new : State) (other : ℕ) (asked : Ask) (reply : Reply) → May old other asked → IsStep old other asked reply new → IsSoundFor l old → fact old → fact new

pub stays_both : (one two : State → Type 0) → Stays one → Stays two → Stays (λ state. one state × two state)
stays_both one two a b l old new other asked reply may step s f = (a l old new other asked reply may step s f.0, b l old new other asked reply may step s f.1)

pub stays_either : (one two : State → Type 0) → Stays one → Stays two → Stays (λ state. one state ⊎ two state)
stays_either one two a b l old new other asked reply may step s (inl f) = inl (a l old new other asked reply may step s f)
stays_either one two a b l old new other asked reply may step s (inr f) = inr (b l old new other asked reply may step s f)

-- what is so whatever the state
pub stays_so : (fact : Type 0) → Stays (λ state. fact)
stays_so fact l old new other asked reply may step s f = f

-- of some of many
pub stays_some : {A : Type 0} (fact : A → State → Type 0) → ((a : A) → Stays (fact a)) → Stays (λ state. (a : A) × fact a state)
stays_some fact each l old new other asked reply may step s f = (f.0, each f.0 l old new other asked reply may step s f.1)

-- what follows in a clean state after a step
pub cleanly_then : (fact now : State → Type 0) (old new : State) (other : ℕ) (asked : Ask) (reply : Reply) → Permits old other asked → IsStep old other asked reply new → Cleanly fact old → ((l : Ledger) → IsSoundFor l old → fact old → now new) → Cleanly now new
cleanly_then fact now old new other asked reply may step f follows = (
  step_fine old new other asked reply may.1 step f.0,
  λ clean.
      let was : IsClean old = was_clean old new other asked reply step clean in
      let s = f.0.sound was in
      follows s.0 s.1 (f.1 was),
)

pub cleanly_stays : (fact : State → Type 0) → Stays fact → (old new : State) (other : ℕ) (asked : Ask) (reply : Reply) → Permits old other asked → IsStep old other asked reply new → Cleanly fact old → Cleanly fact new
cleanly_stays fact stays old new other asked reply may step f = cleanly_then fact fact old new other asked reply may step f (λ l s holds. stays l old new other asked reply may.1 step s holds)

pub cleanly_lasts : (caller : ℕ) (fact : State → Type 0) → Stays fact → LastsOne caller (Cleanly fact)
cleanly_lasts caller fact stays old new other asked reply differ may step f = cleanly_stays fact stays old new other asked reply may step f

-- what holds of a clean state by another that does
pub cleanly_so : (fact now : State → Type 0) (state : State) → ((l : Ledger) → IsSoundFor l state → fact state → now state) → Cleanly fact state → Cleanly now state
cleanly_so fact now state follows f = (f.0, λ clean. let s = f.0.sound clean in follows s.0 s.1 (f.1 clean))

-- A caller may ask where what stays allows it, and it goes on after its own step.
pub asks_safe : {R : Type 0} (caller : ℕ) (fact : State → Type 0) → Stays fact → (call : Call) (k : Reply → Program Call Reply R)
    → ((state : State) → Cleanly fact state → Permits state caller (unbroken call))
    → ((state : State) (reply : Reply) (after : State) → IsStep state caller (unbroken call) reply after → Permits state caller (unbroken call) → Cleanly fact state → IsSafe IsStep Permits caller (asking (k reply)) after)
    → (state : State) → Cleanly fact state → IsSafe IsStep Permits caller (asking (ask call k)) state
asks_safe caller fact stays call k allows leads = safe_ask caller (Cleanly fact) call k (cleanly_lasts caller fact stays) allows (λ state reply after f may step. leads state reply after step may f)

pub safe_given : {A R : Type 0} (caller : ℕ) (o : Option A) (why : Stuck) (next : A → Tries R) (state : State) → ((a : A) → IsSafe IsStep Permits caller (asking (next a)) state) → IsSafe IsStep Permits caller (asking (given o why next)) state
safe_given caller None why next state safe = tt
safe_given caller (Some a) why next state safe = safe a

pub safe_on_ok : {A R : Type 0} (caller : ℕ) (r : Result A Stuck) (next : A → Tries R) (state : State) → ((a : A) → IsSafe IsStep Permits caller (asking (next a)) state) → IsSafe IsStep Permits caller (asking (on_ok next r)) state
safe_on_ok caller (Ok a) next state safe = safe a
safe_on_ok caller (Err why) next state safe = tt
