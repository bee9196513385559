-- Programs that end in a fault only where one was answered.
use Rattle.std.proofs.Common.{◌≡◌, ◌≢◌, ◌∙◌, inl, inr, ℕ, Bool, true, false, Result, Ok, Err, Option, Some, None, refl, sym, ap, subst}
use Rattle.std.specs.Prelude.{if◌then◌else◌}
use Rattle.plfs_types.specs.declared.names.Path.{Path}
use Rattle.store_api.specs.declared.step.Answer.{Answer}
use Rattle.store_api.specs.declared.step.Answer.TheVariants as answer
use Rattle.mount_model.specs.declared.stuck.Stuck.{Stuck}
use Rattle.mount_model.specs.declared.stuck.Stuck.TheVariants as stuck
use Rattle.mount_model.specs.FlowReplies.{Tries, given, on_ok, room_in, trouble}
use Rattle.mount_model.specs.Program.{Program, done, ask, followed_by}
use Rattle.mount_model.specs.declared.call.Call.{Call}
use Rattle.mount_model.specs.declared.call.Call.TheVariants.{Find, Look}
use Rattle.mount_model.specs.declared.call.Look.{Look as Looking}
use Rattle.mount_model.specs.declared.reply.Refusal.{Refusal}
use Rattle.mount_model.specs.declared.reply.Reply.{Reply}
use Rattle.mount_model.specs.declared.reply.Reply.TheVariants.{Fault, NoMemory, Looked}
use Rattle.mount_model.specs.Paths.{Name}
use Rattle.mount_model.specs.Replies.{FitsCall, IsTrouble, refused, damaged, fault, no_memory}
use Rattle.run_core.proofs.Faults.EndsWell.{is_no_fault}

-- the result is no fault
abbrev pub IsFine : {A : Type 0} → Result A Stuck → Type 0
IsFine result = is_no_fault result ≡ true

-- the reply fits, is no fault, and was not for want of memory
pub record IsAnswered (call : Call) (reply : Reply) : Type 0 where
  pub fits : FitsCall call reply
  pub has_memory : reply ≢ NoMemory
  pub is_good : reply ≢ Fault

-- Where this holds, and each call is answered so, its result is no fault.
abbrev pub Looks : {R : Type 0} → Type 0 → Program Call Reply (Result R Stuck) → Type 0
Looks well (done result) = well → IsFine result
Looks well (ask call k) = (reply : Reply) → Looks (well × IsAnswered call reply) (k reply)

-- ---- one program after another

pub either_of : {X : Type 0} (P : X → Type 0) (b : Bool) (x y : X) → P x → P y → P (if b then x else y)
either_of P true x y one other = one
either_of P false x y one other = other

pub either_looks : {R : Type 0} (well : Type 0) (b : Bool) (p q : Tries R) → Looks well p → Looks well q → Looks well (if b then p else q)
either_looks well true p q one other = one
either_looks well false p q one other = other

-- of whatever type the result is
pub same_fine : (A R : Type 0) (why : Stuck) → IsFine {A = A} (Err why) → IsFine {A = R} (Err why)
same_fine A R stuck.Fault fine = fine
same_fine A R (stuck.Damaged folder file place) fine = fine
same_fine A R (stuck.Refused why) fine = fine

pub on_ok_looks : {A R : Type 0} (well : Type 0) (next : A → Tries R) (result : Result A Stuck) → IsFine result → ((a : A) → Looks well (next a)) → Looks well (on_ok next result)
on_ok_looks {A} {R} well next (Ok a) fine goes = goes a
on_ok_looks {A} {R} well next (Err why) fine goes = λ w. same_fine A R why fine

pub then_looks : {A R : Type 0} (well : Type 0) (p : Tries A) (next : A → Tries R) → Looks well p → ((more : Type 0) (a : A) → Looks more (next a)) → Looks well (followed_by p (on_ok next))
then_looks {A} {R} well (done (Ok a)) next looks goes = goes well a
then_looks {A} {R} well (done (Err why)) next looks goes = λ w. same_fine A R why (looks w)
then_looks {A} {R} well (ask call k) next looks goes = λ reply. then_looks (well × IsAnswered call reply) (k reply) next (looks reply) goes

-- ---- replies

given_looks : {A R : Type 0} (well : Type 0) (found : Option A) (why : Stuck) (next : A → Tries R) → (well → found ≡ None → IsFine {A = R} (Err why)) → ((a : A) → Looks well (next a)) → Looks well (given found why next)
given_looks well None why next fine goes = λ w. fine w refl
given_looks well (Some a) why next fine goes = goes a

looked_fine : (R : Type 0) (path : Path) (told : Answer) → IsFine {A = R} (Err (trouble path (Looked told)))
looked_fine R path answer.NoFolder = refl
looked_fine R path answer.Made = refl
looked_fine R path (answer.Old room) = refl
looked_fine R path answer.Absent = refl
looked_fine R path answer.NoRoom = refl
looked_fine R path (answer.NotEmpty least) = refl
looked_fine R path answer.TargetThere = refl
looked_fine R path (answer.Names names) = refl
looked_fine R path (answer.Number value) = refl
looked_fine R path (answer.Bytes bytes) = refl
looked_fine R path answer.Beyond = refl

troubled_fine : (R : Type 0) {may : Refusal → Type 0} (path : Path) (reply : Reply) → reply ≢ NoMemory → reply ≢ Fault → IsTrouble may reply → IsFine {A = R} (Err (trouble path reply))
troubled_fine R path reply had good (refused why may e) = subst (λ r. IsFine {A = R} (Err (trouble path r))) (sym e) refl
troubled_fine R path reply had good (damaged folder file e) = subst (λ r. IsFine {A = R} (Err (trouble path r))) (sym e) refl
troubled_fine R path reply had good (fault e) = absurd (good e)
troubled_fine R path reply had good (no_memory e) = absurd (had e)

look_fine : (R : Type 0) (room : ℕ) (look : Looking) (path : Path) (reply : Reply) → IsAnswered (Look room look) reply → IsFine {A = R} (Err (trouble path reply))
look_fine R room look path reply answered = elim answered.fits as (λ _. IsFine {A = R} (Err (trouble path reply))) [
  | inl p ↦ subst (λ r. IsFine {A = R} (Err (trouble path r))) (sym p.2) (looked_fine R path p.0)
  | inr t ↦ troubled_fine R path reply answered.has_memory answered.is_good t
]

find_fine : (R : Type 0) (name : Name) (path : Path) (reply : Reply) → IsAnswered (Find name) reply → room_in reply ≡ None → IsFine {A = R} (Err (trouble path reply))
find_fine R name path reply answered none = elim answered.fits as (λ _. IsFine {A = R} (Err (trouble path reply))) [
  | inl p ↦ absurd (let bad : Some p.0 ≡ None = sym (ap room_in p.1) ∙ none in cc)
  | inr t ↦ troubled_fine R path reply answered.has_memory answered.is_good t
]

-- a look, and what it gives leads on
pub look_looks : {A R : Type 0} (well : Type 0) (room : ℕ) (look : Looking) (f : Reply → Option A) (path : Path) (next : A → Tries R) → ((more : Type 0) (a : A) → Looks more (next a)) → Looks well (ask (Look room look) (λ reply. given (f reply) (trouble path reply) next))
look_looks {A} {R} well room look f path next goes =
    λ reply. given_looks (well × IsAnswered (Look room look) reply) (f reply) (trouble path reply) next (λ w none. look_fine R room look path reply w.1) (goes (well × IsAnswered (Look room look) reply))

pub find_looks : {R : Type 0} (well : Type 0) (name : Name) (path : Path) (next : ℕ → Tries R) → ((more : Type 0) (room : ℕ) → Looks more (next room)) → Looks well (ask (Find name) (λ reply. given (room_in reply) (trouble path reply) next))
find_looks {R} well name path next goes =
    λ reply. given_looks (well × IsAnswered (Find name) reply) (room_in reply) (trouble path reply) next (λ w none. find_fine R name path reply w.1 none) (goes (well × IsAnswered (Find name) reply))
