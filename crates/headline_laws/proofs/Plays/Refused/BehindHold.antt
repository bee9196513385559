-- What only the change of a container is refused for, and no call before it or behind it.
use Rattle.std.proofs.Common.{◌≡◌, ℕ, List, ◌∷◌, Some, Result, Ok, Err, sym, ap, ◌∙◌, inl, inr, subst}
use Rattle.mount_model.specs.declared.call.Ask.{Ask}
use Rattle.mount_model.specs.declared.call.Call.{Call}
use Rattle.mount_model.specs.declared.call.Call.TheVariants.{Find, Hold, Look, Release}
use Rattle.mount_model.specs.declared.call.Look.{Look as Sight}
use Rattle.mount_model.specs.declared.reply.Refusal.{Refusal}
use Rattle.mount_model.specs.declared.reply.Refusal.TheVariants as refusal
use Rattle.mount_model.specs.declared.reply.Reply.{Reply}
use Rattle.mount_model.specs.declared.reply.Reply.TheVariants.{Done, Refused}
use Rattle.mount_model.specs.History.{Event}
use Rattle.mount_model.specs.Paths.{Name}
use Rattle.mount_model.specs.Refusals.{MayRefuse}
use Rattle.mount_model.specs.Replies.{FitsAsk, FitsCall, IsTrouble, refused, damaged, fault, no_memory}
use Rattle.mount_model.proofs.Facts.{step_fits}
use Rattle.mount_sound.specs.Owed.{IsLawful}
use Rattle.mount_model.specs.declared.stuck.Stuck.{Stuck}
use Rattle.mount_model.specs.declared.stuck.Stuck.TheVariants as stuck
use Rattle.mount_model.specs.Running.{Runs}
use Rattle.mount_model.specs.Program.{Program, ask, done}
use Rattle.mount_model.specs.FlowReplies.{Tries, failure, room_in}
use Rattle.trunc_rename.specs.Holding.{holder_in, holds, lets_go, released}
use Rattle.reader_laws.specs.Moments.{IsSoundAt, Moment, moment_after, next_moment}
use Rattle.reader_laws.proofs.Gathered.Facts.{legal_rest}
use Rattle.reader_laws.proofs.Facts.{IsFirstOf, first_of}
use Rattle.headline_laws.proofs.Plays.Holds.Held.{HasHeld, OnFind, OnHold, held_so}
use Rattle.headline_laws.proofs.Plays.Refused.Unheld.{given_or_not, refused_so}

-- that another container has the name, or that no stamp is left
abbrev pub IsOfChange : Refusal → Type 0
IsOfChange refusal.Exists = Unit {0}
IsOfChange refusal.StampsSpent = Unit {0}
IsOfChange other = ⊥

may_refuse : (may : Refusal → Type 0) (reply : Reply) (why : Refusal) → IsTrouble may reply → reply ≡ Refused why → may why
may_refuse may reply why (refused other is e) told = let both : Refused other ≡ Refused why = sym e ∙ told in let same : other ≡ why = cc in subst may same is
may_refuse may reply why (damaged folder file e) told = absurd (cc)
may_refuse may reply why (fault e) told = absurd (cc)
may_refuse may reply why (no_memory e) told = absurd (cc)

-- the first call of these fits its reply
fits_first : {X : Type 0} (n : ℕ) (m : Moment) (call : Call) (k : Reply → Program Call Reply X) (events : List Event) (out : X) → IsLawful m.state events → (f : IsFirstOf n call k events out) → FitsCall call f.event.reply
fits_first n m call k events out lawful f =
    let on : IsLawful (moment_after m f.before).state (f.event ∷ f.later) = legal_rest m f.before (f.event ∷ f.later) (subst (IsLawful m.state) f.split lawful) in
    subst (λ (a : Ask). FitsAsk a f.event.reply) f.asked (step_fits (moment_after m f.before).state f.event.after f.event.caller f.event.ask f.event.reply on.1)

module _ (why : Refusal) (of : IsOfChange why) where
  find_other : (name : Name) (reply : Reply) → FitsCall (Find name) reply → reply ≡ Refused why → ⊥
  find_other name reply (inl a) told = absurd (let clash = sym told ∙ a.1 in cc)
  find_other name reply (inr t) told = elim (may_refuse (MayRefuse (Find name)) reply why t told) as (λ _. ⊥) [
    | inl e ↦ subst IsOfChange e of
    | inr none ↦ none
  ]

  hold_other : (room : ℕ) (reply : Reply) → FitsCall (Hold room) reply → reply ≡ Refused why → ⊥
  hold_other room reply (inl a) told = absurd (let clash = sym told ∙ a.1 in cc)
  hold_other room reply (inr t) told = elim (may_refuse (MayRefuse (Hold room)) reply why t told) as (λ _. ⊥) [
    | inl (inl e) ↦ subst IsOfChange e of
    | inl (inr (inl e)) ↦ subst IsOfChange e of
    | inl (inr (inr (inl e))) ↦ subst IsOfChange e of
    | inl (inr (inr (inr none))) ↦ none
    | inr busy ↦ subst IsOfChange busy.2 of
  ]

  release_other : (holder : ℕ) (reply : Reply) → FitsCall (Release holder) reply → reply ≡ Refused why → ⊥
  release_other holder reply (inl is) told = absurd (let clash : Done ≡ Refused why = sym is ∙ told in cc)
  release_other holder reply (inr t) told = elim (may_refuse (MayRefuse (Release holder)) reply why t told) as (λ _. ⊥) [
    | inl e ↦ subst IsOfChange e of
    | inr (inl e) ↦ subst IsOfChange e of
    | inr (inr none) ↦ none
  ]

  -- nor is a look
  pub look_other : (room : ℕ) (look : Sight) (reply : Reply) → FitsCall (Look room look) reply → reply ≡ Refused why → ⊥
  look_other room look reply (inl a) told = absurd (let clash = sym told ∙ a.2 in cc)
  look_other room look reply (inr t) told = elim (may_refuse (MayRefuse (Look room look)) reply why t told) as (λ _. ⊥) [
    | inl e ↦ subst IsOfChange e of
    | inr none ↦ none
  ]

  -- ---- a container that was held

  module _ {R : Type 0} (n : ℕ) (name : Name) (next : ℕ → ℕ → Tries R) (m : Moment) (events : List Event) (lawful : IsLawful m.state events) (sound : IsSoundAt m) where
    abbrev Why : Result R Stuck
    Why = Err (stuck.Refused why)

    held_then : (f : IsFirstOf n (Find name) (OnFind next) events Why) (room : ℕ) → room_in f.event.reply ≡ Some room → Runs n (holds room (next room)) f.later Why → HasHeld n m name next events Why
    held_then f room found on =
        let from : IsLawful (moment_after m f.before).state (f.event ∷ f.later) = legal_rest m f.before (f.event ∷ f.later) (subst (IsLawful m.state) f.split lawful) in
        let g = first_of n (Hold room) (OnHold next room) f.later Why on in
        elim (given_or_not n (holder_in g.event.reply) (failure g.event.reply) (next room) g.later (stuck.Refused why) g.rest) as (λ _. HasHeld n m name next events Why) [
          | inl fails ↦ absurd (hold_other room g.event.reply (fits_first n (next_moment (moment_after m f.before) f.event) (Hold room) (OnHold next room) f.later Why from.2 g) (refused_so g.event.reply why fails))
          | inr (holder, held, more) ↦ held_so n m name next events Why lawful sound f room found g holder held more
        ]

    pub held_first : Runs n (ask (Find name) (λ reply. OnFind next reply)) events Why → HasHeld n m name next events Why
    held_first runs =
        let f = first_of n (Find name) (OnFind next) events Why runs in
        elim (given_or_not n (room_in f.event.reply) (failure f.event.reply) (λ room. holds room (next room)) f.later (stuck.Refused why) f.rest) as (λ _. HasHeld n m name next events Why) [
          | inl fails ↦ absurd (find_other name f.event.reply (fits_first n m (Find name) (OnFind next) events Why lawful f) (refused_so f.event.reply why fails))
          | inr (room, found, on) ↦ held_then f room found on
        ]

  -- ---- it is let go

  released_err : {R : Type 0} (result : Result R Stuck) (later : Reply) → (later ≡ Refused why → ⊥) → released result later ≡ Err (stuck.Refused why) → result ≡ Err (stuck.Refused why)
  released_err (Err w) later other e = e
  released_err (Ok r) Done other e = absurd (cc)
  released_err (Ok r) (Refused w) other e = absurd (let same : w ≡ why = cc in other (ap Refused same))
  released_err (Ok r) later other e = absurd (cc)

  -- what came before was refused so
  pub let_go_err : {R : Type 0} (n holder : ℕ) (m : Moment) (result : Result R Stuck) (events : List Event) → IsLawful m.state events → Runs n (lets_go holder result) events (Err (stuck.Refused why)) → result ≡ Err (stuck.Refused why)
  let_go_err n holder m result events lawful runs =
      let f = first_of n (Release holder) (λ reply. done (released result reply)) events (Err (stuck.Refused why)) runs in
      released_err result f.event.reply (release_other holder f.event.reply (fits_first n m (Release holder) (λ reply. done (released result reply)) events (Err (stuck.Refused why)) lawful f)) f.rest.1
