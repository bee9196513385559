-- Programs that look at a container: where each look is answered, they end well or in damage.
use Rattle.std.proofs.Common.{◌≡◌, ◌-◌, ℕ, zero, suc, Bool, true, false, nat_eq, nat_le, List, [], ◌∷◌, ◌++◌, length, Option, Some, None, Result, Ok, Err, sym, ap, ◌∙◌, inl, inr, subst, arith, refl, if◌then◌else◌}
use Rattle.std.proofs.lemmas.Bool.Decides.{nat_tests}
use Rattle.plfs_types.specs.declared.names.Path.{Path}
use Rattle.store_api.specs.declared.step.Answer.{Answer}
use Rattle.store_api.specs.declared.step.Answer.TheVariants as answer
use Rattle.mount_model.specs.declared.call.Ask.{Ask}
use Rattle.mount_model.specs.declared.call.Call.{Call}
use Rattle.mount_model.specs.declared.call.Call.TheVariants.{Look}
use Rattle.mount_model.specs.declared.call.Look.{Look as Sight}
use Rattle.mount_model.specs.declared.reply.Refusal.{Refusal}
use Rattle.mount_model.specs.declared.reply.Refusal.TheVariants as refusal
use Rattle.mount_model.specs.declared.reply.Reply.{Reply}
use Rattle.mount_model.specs.declared.reply.Reply.TheVariants.{Looked}
use Rattle.mount_model.specs.History.{AreBy, Event}
use Rattle.mount_model.specs.Making.{room_check}
use Rattle.mount_model.specs.Paths.{access_path}
use Rattle.mount_sound.specs.Owed.{IsLawful}
use Rattle.refusal_laws.specs.Reasons.{IsChecked}
use Rattle.refusal_laws.proofs.Facts.{does_work}
use Rattle.mount_model.specs.Program.{Program, ask, done, followed_by}
use Rattle.mount_model.specs.declared.stuck.Stuck.{Stuck}
use Rattle.mount_model.specs.declared.stuck.Stuck.TheVariants as stuck
use Rattle.mount_model.specs.FlowReplies.{Tries, bytes_in, given, on_ok, trouble}
use Rattle.mount_model.specs.Running.{Runs, unbroken}
use Rattle.mount_model.proofs.Flows.Facts.{runs_next}
use Rattle.reader_laws.specs.Moments.{IsSoundAt, Moment, file_told, moment_after, next_moment}
use Rattle.reader_laws.proofs.Gathered.Facts.{sound_after}
use Rattle.index_reader.specs.FileReads.{next_part, parts}
use Rattle.plain_plays.specs.Served.{GoesWell}
use Rattle.plain_plays.proofs.PlainSteps.Entering.{IsContainerAt, has_room, not_marks}
use Rattle.plain_plays.proofs.PlainSteps.Reaching.{IsServed, ended, over_alone}
use Rattle.plain_plays.proofs.PlainSteps.ByName.Looking.{IsAlike, IsSight, alike_both, alike_same, event_alike}

-- ---- a look at a container

-- The caller's look was answered.
pub record IsAnswered (m : Moment) (n : ℕ) (e : Event) : Type 0 where
  pub found : Answer
  pub told : e.reply ≡ Looked found
  pub alike : IsAlike m (next_moment m e)
  pub sound : IsSoundAt (next_moment m e)
  pub had : IsContainerAt n (next_moment m e)

module _ (m : Moment) (s : IsSoundAt m) (n : ℕ) (had : IsContainerAt n m) where
  pub unchecked : (why : Refusal) → IsChecked (room_check m.state n) why → ⊥
  unchecked why check =
      let apart : nat_eq n m.state.marks ≡ false = let other : n ≡ m.state.marks → ⊥ = not_marks m s n had in grind (arith, nat_tests) in
      let clash : None ≡ Some why = sym (ap (λ b. if b then Some refusal.NoRoom else None) apart) ∙ check in
      (let bad : None ≡ Some why = clash in cc)

  pub had_alike : (next : Moment) → IsAlike m next → IsContainerAt n next
  had_alike next l = record { is_item = had.is_item; bytes = had.bytes; there = ap (λ t. file_told t n access_path) l.tree ∙ had.there }

  -- a look leaves all as it was
  pub alike_next : (e : Event) → IsLawful m.state (e ∷ []) → (look : Sight) → e.ask ≡ unbroken (Look n look) → IsAlike m (next_moment m e) × IsContainerAt n (next_moment m e)
  alike_next e lawful look asked =
      let alike : IsAlike m (next_moment m e) = event_alike m s e lawful (ap (λ (a : Ask). a.stop) asked) (subst IsSight (sym (ap (λ (a : Ask). a.call) asked)) tt) in
      (alike, had_alike (next_moment m e) alike)

  pub look_answered : (me : ℕ) (look : Sight) (e : Event) (events : List Event) → IsLawful m.state (e ∷ events) → GoesWell me (e ∷ events) → e.caller ≡ me → e.ask ≡ unbroken (Look n look) → IsAnswered m n e
  look_answered me look e events lawful well own asked =
      let whole : e.ask.stop ≡ None = ap (λ (a : Ask). a.stop) asked in
      let is : e.ask.call ≡ Look n look = ap (λ (a : Ask). a.call) asked in
      let served : IsServed me m.state (Look n look) e.reply = subst (λ c. IsServed me m.state c e.reply) is (subst (λ k. IsServed k m.state e.ask.call e.reply) own (does_work m.issued m.state e.after e.caller e.ask e.reply lawful.0 lawful.1 s whole (well.0 own).0 (well.0 own).1)) in
      let alike = alike_next e (lawful.0, lawful.1, tt) look asked in
      elim served as (λ _. IsAnswered m n e) [
        | inl (found, may, told) ↦ record { found = found; told = told; alike = alike.0; sound = sound_after m (e ∷ []) (lawful.0, lawful.1, tt) s; had = alike.1 }
        | inr (why, told, reason) ↦ absurd (elim reason as (λ _. ⊥) [
          | inl check ↦ unchecked why check
          | inr lacks ↦ has_room m s n had (lacks.1 s.shape.tree s.shape.told)
        ])
      ]

-- ---- programs that look at one room

-- it ends so, or in damage
abbrev pub EndsSo : {R : Type 0} → (R → Type 0) → Result R Stuck → Type 0
EndsSo good (Ok result) = good result
EndsSo good (Err (stuck.Damaged folder file place)) = Unit {0}
EndsSo good (Err other) = ⊥

-- it looks at the room of this number, and where each look is answered, its result is such
abbrev pub LooksAt : {R : Type 0} → ℕ → (R → Type 0) → Program Call Reply R → Type 0
LooksAt n ends (done result) = ends result
LooksAt n ends (ask q k) = ((look : Sight) × (q ≡ Look n look)) × ((found : Answer) → LooksAt n ends (k (Looked found)))

-- the same of a program that may end in a trouble
abbrev pub LooksOn : {R : Type 0} → ℕ → (R → Type 0) → Tries R → Type 0
LooksOn n good p = LooksAt n (EndsSo good) p

-- Whoever makes it, where nobody else calls and nothing fails, ends so, and all is as it was.
pub looked : {R : Type 0} (n me : ℕ) (ends : R → Type 0) (events : List Event) (p : Program Call Reply R) (m : Moment) (out : R) → IsSoundAt m → IsContainerAt n m → IsLawful m.state events → GoesWell me events → AreBy me events → LooksAt n ends p → Runs me p events out → ends out × IsAlike m (moment_after m events)
looked n me ends events (done r) m out s had lawful well by looks runs = (subst ends (ended me r events out runs) looks, subst (λ es. IsAlike m (moment_after m es)) (sym (over_alone me r events out by runs)) (alike_same m))
looked n me ends [] (ask q k) m out s had lawful well by looks runs = absurd runs
looked n me ends (e ∷ events) (ask q k) m out s had lawful well by looks runs = elim (runs_next me q k e events out runs) as (λ _. ends out × IsAlike m (moment_after m (e ∷ events))) [
  | inl (other, on) ↦ absurd (other by.0)
  | inr (own, asked, on) ↦
      let a = look_answered m s n had me looks.0.0 e events lawful well own (asked ∙ ap unbroken looks.0.1) in
      let rest = looked n me ends events (k (Looked a.found)) (next_moment m e) out a.sound a.had lawful.2 well.1 by.1 (looks.1 a.found) (subst (λ reply. Runs me (k reply) events out) a.told on) in
      (rest.0, alike_both m (next_moment m e) (moment_after m (e ∷ events)) a.alike rest.1)
]

-- what ends so isn't a fault
pub no_fault : {R : Type 0} (good : R → Type 0) (why : Stuck) → EndsSo {R = R} good (Err why) → why ≡ stuck.Fault → ⊥
no_fault good (stuck.Damaged folder file place) ends is = cc
no_fault good stuck.Fault ends is = ends
no_fault good (stuck.Refused why) ends is = ends

-- nor a refusal
pub no_refusal : {R : Type 0} (good : R → Type 0) (why : Stuck) (reason : Refusal) → EndsSo {R = R} good (Err why) → why ≡ stuck.Refused reason → ⊥
no_refusal good (stuck.Damaged folder file place) reason ends is = cc
no_refusal good stuck.Fault reason ends is = ends
no_refusal good (stuck.Refused why) reason ends is = ends

-- ---- how programs are made

abbrev pub Anything : {R : Type 0} → R → Type 0
Anything result = Unit {0}

pub no_good : {R S : Type 0} (good : R → Type 0) (other : S → Type 0) (why : Stuck) → EndsSo {R = R} good (Err why) → EndsSo {R = S} other (Err why)
no_good good other (stuck.Damaged folder file place) ends = tt
no_good good other stuck.Fault ends = absurd ends
no_good good other (stuck.Refused why) ends = absurd ends

look_trouble : {R : Type 0} (good : R → Type 0) (path : Path) (found : Answer) → EndsSo {R = R} good (Err (trouble path (Looked found)))
look_trouble good path answer.NoFolder = tt
look_trouble good path other = tt

module _ (n : ℕ) where
  pub on_given : {A R : Type 0} (good : R → Type 0) (o : Option A) (path : Path) (found : Answer) (next : A → Tries R) → ((a : A) → LooksOn n good (next a)) → LooksOn n good (given o (trouble path (Looked found)) next)
  on_given good None path found next goes = look_trouble good path found
  on_given good (Some a) path found next goes = goes a

  pub on_result : {A R : Type 0} (its : A → Type 0) (good : R → Type 0) (next : A → Tries R) (result : Result A Stuck) → EndsSo its result → ((a : A) → its a → LooksOn n good (next a)) → LooksOn n good (on_ok next result)
  on_result its good next (Ok a) ends goes = goes a ends
  on_result its good next (Err why) ends goes = no_good its good why ends

  pub at_then : {A R : Type 0} (its : A → Type 0) (ends : R → Type 0) (p : Tries A) (next : Result A Stuck → Program Call Reply R) → LooksOn n its p → ((result : Result A Stuck) → EndsSo its result → LooksAt n ends (next result)) → LooksAt n ends (followed_by p next)
  at_then its ends (done result) next looks goes = goes result looks
  at_then its ends (ask q k) next looks goes = (looks.0, λ found. at_then its ends (k (Looked found)) next (looks.1 found) goes)

  pub on_then : {A R : Type 0} (its : A → Type 0) (good : R → Type 0) (p : Tries A) (next : A → Tries R) → LooksOn n its p → ((a : A) → its a → LooksOn n good (next a)) → LooksOn n good (followed_by p (on_ok next))
  on_then its good p next looks goes = at_then its (EndsSo good) p (on_ok next) looks (λ result ends. on_result its good next result ends goes)

  pub on_either : {R : Type 0} (good : R → Type 0) (b : Bool) (p q : Tries R) → LooksOn n good p → LooksOn n good q → LooksOn n good (if b then p else q)
  on_either good true p q one other = one
  on_either good false p q one other = other

  -- ---- a file

  pub parts_on : (k : ℕ) (path : Path) (told left : ℕ) (sofar : List ℕ) → LooksOn n Anything (parts k n path told left sofar)
  parts_on zero path told left sofar = tt
  parts_on (suc k) path told left sofar = (
    (_, refl),
    λ found. on_given Anything (bytes_in (Looked found)) path found _
        (λ bytes. on_either Anything (nat_le (next_part left) (length bytes)) _ _ (parts_on k path told (left - next_part left) (sofar ++ bytes)) tt),
  )
