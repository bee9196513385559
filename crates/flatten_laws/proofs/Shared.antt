-- Calls that are the same whoever makes them, and a program that only looks: what follows it goes by the history that it was made in.
use Rattle.std.proofs.Common.{◌≡◌, ◌+◌, ℕ, suc, List, [], ◌∷◌, ◌++◌, refl, ap, sym, ◌∙◌, subst, arith}
use Rattle.std.specs.Prelude.{◌≢◌}
use Rattle.turn_object.specs.History.{state_after}
use Rattle.mount_model.specs.Program.{Program, done, ask, followed_by}
use Rattle.mount_model.specs.Safe.{AreOthers, IsSafe}
use Rattle.mount_model.proofs.Stories.Facts.{after_another, after_own}
use Rattle.mount_model.specs.Running.{asking, unbroken, Runs}
use Rattle.mount_model.specs.declared.call.Ask.{Ask}
use Rattle.mount_model.specs.declared.call.Call.{Call}
use Rattle.mount_model.specs.declared.call.Call.TheVariants.{Find, Look, SyncDropping}
use Rattle.mount_model.specs.declared.reply.Reply.{Reply}
use Rattle.mount_model.specs.History.{Event}
use Rattle.mount_model.specs.State.{State}
use Rattle.mount_model.specs.Step.{IsStep}
use Rattle.mount_sound.specs.Owed.{IsLawful, Permits}
use Rattle.mount_sound.specs.Sound.{IsFine}
use Rattle.index_reader.proofs.Facts.{IsLook, OnlyLooks}
use Rattle.recovery_laws.proofs.Holds.Facts.{LastsOne, lasts_all, may_free}

-- ---- whoever makes them

-- the call is answered, and owes, the same whoever makes it
abbrev pub IsAnybodys : Call → Type 0
IsAnybodys (Find name) = Unit {0}
IsAnybodys (Look room look) = Unit {0}
IsAnybodys (SyncDropping room host writer is_log) = Unit {0}
IsAnybodys call = ⊥

step_by : (caller other : ℕ) (old new : State) (call : Call) (reply : Reply) → IsAnybodys call → IsStep old caller (unbroken call) reply new → IsStep old other (unbroken call) reply new
step_by caller other old new (Find name) reply is step = record { does = step.does }
step_by caller other old new (Look room look) reply is step = record { does = step.does }
step_by caller other old new (SyncDropping room host writer is_log) reply is step = record { does = step.does }
step_by caller other old new call reply is step = absurd is

permits_by : (caller other : ℕ) (state : State) (call : Call) → IsAnybodys call → Permits state caller (unbroken call) → Permits state other (unbroken call)
permits_by caller other state (Find name) is may = (may.0, record { numbers = may.1.numbers; owes = may.1.owes })
permits_by caller other state (Look room look) is may = (may.0, record { numbers = may.1.numbers; owes = may.1.owes })
permits_by caller other state (SyncDropping room host writer is_log) is may = (may.0, record { numbers = may.1.numbers; owes = may.1.owes })
permits_by caller other state call is may = absurd is

another : (caller : ℕ) → suc caller ≢ caller
another caller e = omega (arith, e)

-- so what lasts while others call lasts through the caller's own
pub own_lasts : (caller : ℕ) (fact : State → Type 0) → LastsOne caller fact → (old new : State) (call : Call) (reply : Reply) → IsAnybodys call → Permits old caller (unbroken call) → IsStep old caller (unbroken call) reply new → fact old → fact new
own_lasts caller fact one old new call reply is may step f =
    one old new (suc caller) (unbroken call) reply (another caller) (permits_by caller (suc caller) old call is may) (step_by caller (suc caller) old new call reply is step) f

look_is : (call : Call) → IsLook call → IsAnybodys call
look_is (Find name) is = tt
look_is (Look room look) is = tt
look_is call is = absurd is

look_permits : (state : State) (caller : ℕ) (call : Call) → IsLook call → IsFine state → Permits state caller (unbroken call)
look_permits state caller (Find name) is fine = may_free state caller (Find name) (tt, tt) fine
look_permits state caller (Look room look) is fine = may_free state caller (Look room look) (tt, tt) fine
look_permits state caller call is fine = absurd is

-- ---- histories

after_both : (state : State) (xs ys : List Event) → state_after state (xs ++ ys) ≡ state_after (state_after state xs) ys
after_both state [] ys = refl
after_both state (x ∷ xs) ys = after_both x.after xs ys

others_lawful : (caller : ℕ) (state : State) (others rest : List Event) → AreOthers IsStep Permits caller state others → IsLawful (state_after state others) rest → IsLawful state (others ++ rest)
others_lawful caller state [] rest o l = l
others_lawful caller state (x ∷ others) rest o l = (o.1.1, o.2, others_lawful caller x.after others rest o.3 l)

runs_behind : {X : Type 0} (caller : ℕ) (p : Program Call Reply X) (state : State) (others rest : List Event) (x : X) → AreOthers IsStep Permits caller state others → Runs caller p rest x → Runs caller p (others ++ rest) x
runs_behind caller p state [] rest x o runs = runs
runs_behind caller p state (e ∷ others) rest x o runs = after_another caller (asking p) e (others ++ rest) x o.0 (runs_behind caller p e.after others rest x o.3 runs)

-- ---- a program, and what follows it

-- It is safe to look while a fact lasts. What follows may be made after each history in which the program was.
pub safe_looks : {X Y : Type 0} (caller : ℕ) (fact : State → Type 0) → LastsOne caller fact → ((state : State) → fact state → IsFine state) → (p : Program Call Reply X) → OnlyLooks p → (next : X → Program Call Reply Y) (state : State) → fact state
    → ((events : List Event) (x : X) → IsLawful state events → Runs caller p events x → fact (state_after state events) → IsSafe IsStep Permits caller (asking (next x)) (state_after state events))
    → IsSafe IsStep Permits caller (asking (followed_by p next)) state
safe_looks caller fact one fine (done x) looks next state f goes = goes [] x tt (refl, refl) f
safe_looks {X} {Y} caller fact one fine (ask q k) looks next state f goes = λ others o.
    let now : State = state_after state others in
    let here : fact now = lasts_all caller fact one state others o f in
    let may : Permits now caller (unbroken q) = look_permits now caller q looks.0 (fine now here) in (
      may,
      λ reply after step.
          let e : Event = record { caller = caller; ask = unbroken q; reply = reply; after = after } in
          safe_looks caller fact one fine (k reply) (looks.1 reply) next after (own_lasts caller fact one now after q reply (look_is q looks.0) may step here)
          (λ events x lawful runs holds.
          let same : state_after state (others ++ e ∷ events) ≡ state_after after events = after_both state others (e ∷ events) in
          subst (λ s. IsSafe IsStep Permits caller (asking (next x)) s) same
          (goes (others ++ e ∷ events) x (others_lawful caller state others (e ∷ events) o (may.1, step, lawful))
          (runs_behind caller (ask q k) state others (e ∷ events) x o (after_own caller (unbroken q) (λ r. asking (k r)) e events x refl refl runs))
          (subst fact (sym same) holds))),
    )

-- ---- programs in threes

pub grouped : {A B C : Type 0} (p : Program Call Reply A) (next : A → Program Call Reply B) (last : B → Program Call Reply C)
    → followed_by (followed_by p next) last ≡ followed_by p (λ a. followed_by (next a) last)
grouped (done a) next last = refl
grouped (ask call k) next last = λ i. ask call (λ reply. grouped (k reply) next last i)
