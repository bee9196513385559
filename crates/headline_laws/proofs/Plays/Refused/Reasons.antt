-- What the calls of a truncate and of a rename, behind a hold, are never refused for.
use Rattle.std.proofs.Common.{ℕ, max, List, [], ◌∷◌, Option, Some, None, Result, Ok, Err, refl, inl, inr, subst}
use Rattle.plfs_types.specs.declared.entries.Trunc.{Trunc}
use Rattle.store_api.specs.declared.step.Answer.TheVariants.{Names}
use Rattle.mount_model.specs.declared.call.Call.{Call}
use Rattle.mount_model.specs.declared.call.Call.TheVariants.{Look, Mark, Move, Release}
use Rattle.mount_model.specs.declared.call.Look.TheVariants.{List as ListFolder}
use Rattle.mount_model.specs.declared.reply.Refusal.{Refusal}
use Rattle.mount_model.specs.declared.reply.Refusal.TheVariants as refusal
use Rattle.mount_model.specs.declared.reply.Reply.{Reply}
use Rattle.mount_model.specs.declared.reply.Reply.TheVariants.{Done, Looked, Marked, Refused}
use Rattle.mount_model.specs.History.{Event}
use Rattle.mount_model.specs.Paths.{Name, metadata, truncs}
use Rattle.mount_model.specs.State.{State}
use Rattle.mount_model.specs.Step.{Answers}
use Rattle.mount_sound.specs.Owed.{IsLawful}
use Rattle.mount_model.specs.declared.stuck.Stuck.{Stuck}
use Rattle.mount_model.specs.declared.stuck.Stuck.TheVariants as stuck
use Rattle.mount_model.specs.Running.{Runs, unbroken}
use Rattle.mount_model.proofs.Flows.Facts.{runs_next}
use Rattle.mount_model.specs.Program.{ask, done}
use Rattle.mount_model.specs.declared.names.Metadata.{Metadata}
use Rattle.mount_model.specs.FlowListed.{known, told_by}
use Rattle.mount_model.specs.Names.{meta_in, trunc_in}
use Rattle.mount_model.specs.FlowReplies.{Tries, failure, given}
use Rattle.trunc_rename.specs.Holding.{lets_go, or_lets_go, released}
use Rattle.trunc_rename.specs.Renaming.{moved, moves}
use Rattle.trunc_rename.specs.Tops.{metadata_top, truncs_top}
use Rattle.trunc_rename.specs.Truncating.{lists_metadata, lists_truncs, marked, marks}
use Rattle.reader_laws.specs.Moments.{IsSoundAt, Moment, next_moment}
use Rattle.reader_laws.proofs.Gathered.Facts.{sound_after}
use Rattle.reader_laws.proofs.Facts.{answered}
use Rattle.headline_laws.proofs.Plays.Holds.Held.{its_step}

-- ---- reasons

-- where it is a refusal, it is for such a reason
abbrev pub IsReplyFor : (Refusal → Type 0) → Reply → Type 0
IsReplyFor fine (Refused why) = fine why
IsReplyFor fine reply = Unit {0}

abbrev pub IsTroubleFor : (Refusal → Type 0) → Stuck → Type 0
IsTroubleFor fine (stuck.Refused why) = fine why
IsTroubleFor fine other = Unit {0}

abbrev pub EndsFor : {R : Type 0} → (Refusal → Type 0) → Result R Stuck → Type 0
EndsFor fine (Ok result) = Unit {0}
EndsFor fine (Err why) = IsTroubleFor fine why

-- it is not that no stamp is left
abbrev pub IsNoStamp : Refusal → Type 0
IsNoStamp refusal.StampsSpent = ⊥
IsNoStamp other = Unit {0}

-- what holds on, whatever is called
abbrev pub Lasts : (Moment → Type 0) → Type 0
Lasts fact = (m : Moment) (event : Event) (later : List Event) → IsSoundAt m → IsLawful m.state (event ∷ later) → fact m → fact (next_moment m event)

-- where this holds, the call is refused for such a reason alone
abbrev pub RefusesFor : (Refusal → Type 0) → (Moment → Type 0) → ℕ → Call → Type 0
RefusesFor fine fact n call = (m : Moment) → IsSoundAt m → fact m → (reply : Reply) (after : State) → Answers m.state n call reply after → IsReplyFor fine reply

-- and so does the caller end that makes these calls
abbrev pub GoesFor : {R : Type 0} → (Refusal → Type 0) → (Moment → Type 0) → ℕ → Tries R → Type 0
GoesFor {R} fine fact n program = (m : Moment) (events : List Event) (result : Result R Stuck) → IsSoundAt m → fact m → IsLawful m.state events → Runs n program events result → EndsFor fine result

module _ (fine : Refusal → Type 0) where
  pub failure_for : (reply : Reply) → IsReplyFor fine reply → IsTroubleFor fine (failure reply)
  failure_for (Refused why) is = is
  failure_for reply is = tt

  -- ---- what names tell

  known_for : {A B : Type 0} (folder name : Name) (item : Option A) (next : A → Result B Stuck) → ((a : A) → EndsFor fine (next a)) → EndsFor fine (known folder name item next)
  known_for folder name None next each = tt
  known_for folder name (Some a) next each = each a

  pub metadata_for : (names : List Name) (top : ℕ) → EndsFor fine (metadata_top names top)
  metadata_for [] top = tt
  metadata_for (name ∷ names) top = known_for metadata name (meta_in name) (λ (m : Metadata). metadata_top names (max top m.stamp)) (λ (m : Metadata). metadata_for names (max top m.stamp))

  pub truncs_for : (names : List Name) (top : ℕ) → EndsFor fine (truncs_top names top)
  truncs_for [] top = tt
  truncs_for (name ∷ names) top = known_for truncs name (trunc_in name) (λ (t : Trunc). truncs_top names (max top t.stamp)) (λ (t : Trunc). truncs_for names (max top t.stamp))

  pub told_for : {A : Type 0} (folder : Name) (tells : List Name → Result A Stuck) (reply : Reply) → ((names : List Name) → EndsFor fine (tells names)) → IsReplyFor fine reply → EndsFor fine (told_by folder tells reply)
  told_for folder tells (Looked (Names names)) each is = each names
  told_for folder tells (Looked answer) each is = tt
  told_for folder tells (Refused why) each is = is
  told_for folder tells reply each is = tt

  released_for : {R : Type 0} (result : Result R Stuck) (reply : Reply) → EndsFor fine result → IsReplyFor fine reply → EndsFor fine (released result reply)
  released_for (Err why) reply was is = was
  released_for (Ok result) Done was is = tt
  released_for (Ok result) reply was is = failure_for reply is

  moved_for : (reply : Reply) → IsReplyFor fine reply → EndsFor fine (moved reply)
  moved_for Done is = tt
  moved_for reply is = failure_for reply is

  marked_for : (reply : Reply) → IsReplyFor fine reply → EndsFor fine (marked reply)
  marked_for (Marked stamp) is = tt
  marked_for reply is = failure_for reply is

  -- ---- programs

  module _ (fact : Moment → Type 0) (lasts : Lasts fact) (n : ℕ) where
    module _ {R : Type 0} where
      done_goes : (result : Result R Stuck) → EndsFor fine result → GoesFor fine fact n (done result)
      done_goes result is m events out sound holds lawful runs = subst (λ (r : Result R Stuck). EndsFor fine r) runs.1 is

      pub call_goes : (call : Call) (k : Reply → Tries R) → RefusesFor fine fact n call → ((reply : Reply) → IsReplyFor fine reply → GoesFor fine fact n (k reply)) → GoesFor fine fact n (ask call k)
      call_goes call k refuses on m [] out sound holds lawful runs = absurd runs
      call_goes call k refuses on m (e ∷ events) out sound holds lawful runs =
          let later : IsSoundAt (next_moment m e) = sound_after m (e ∷ []) (lawful.0, lawful.1, tt) sound in
          let still : fact (next_moment m e) = lasts m e events sound lawful holds in
          elim (runs_next n call k e events out runs) as (λ _. EndsFor fine out) [
            | inl (other, rest) ↦ call_goes call k refuses on (next_moment m e) events out later still lawful.2 rest
            | inr (own, asked, rest) ↦
                let is = refuses m sound holds e.reply e.after (answered m.state n call (unbroken call) e.reply e.after refl (its_step n call e.reply m.state e own asked refl lawful.1)) in
                on e.reply is (next_moment m e) events out later still lawful.2 rest
          ]

      pub given_goes : {A : Type 0} (found : Option A) (why : Stuck) (next : A → Tries R) → IsTroubleFor fine why → ((a : A) → GoesFor fine fact n (next a)) → GoesFor fine fact n (given found why next)
      given_goes None why next is on = done_goes (Err why) is
      given_goes (Some a) why next is on = on a

    module _ (releases : (holder : ℕ) → RefusesFor fine fact n (Release holder)) where
      lets_go_goes : {R : Type 0} (holder : ℕ) (result : Result R Stuck) → EndsFor fine result → GoesFor fine fact n (lets_go holder result)
      lets_go_goes holder result was = call_goes (Release holder) (λ reply. done (released result reply)) (releases holder) (λ reply is. done_goes (released result reply) (released_for result reply was is))

      or_lets_go_goes : {A R : Type 0} (holder : ℕ) (next : A → Tries R) (result : Result A Stuck) → EndsFor fine result → ((a : A) → GoesFor fine fact n (next a)) → GoesFor fine fact n (or_lets_go holder next result)
      or_lets_go_goes holder next (Ok a) was on = on a
      or_lets_go_goes holder next (Err why) was on = lets_go_goes holder (Err why) was

      pub moves_go : (to : Name) (holder : ℕ) → RefusesFor fine fact n (Move holder to) → GoesFor fine fact n (moves to holder)
      moves_go to holder refuses = call_goes (Move holder to) (λ reply. lets_go holder (moved reply)) refuses (λ reply is. lets_go_goes holder (moved reply) (moved_for reply is))

      marks_go : (size holder top : ℕ) → RefusesFor fine fact n (Mark holder size top) → GoesFor fine fact n (marks size holder top)
      marks_go size holder top refuses = call_goes (Mark holder size top) (λ reply. lets_go holder (marked reply)) refuses (λ reply is. lets_go_goes holder (marked reply) (marked_for reply is))

      module _ (size room holder : ℕ) (looks : (folder : Name) → RefusesFor fine fact n (Look room (ListFolder folder))) (refuses : (top : ℕ) → RefusesFor fine fact n (Mark holder size top)) where
        truncs_go : (top : ℕ) → GoesFor fine fact n (lists_truncs size room holder top)
        truncs_go top = call_goes (Look room (ListFolder truncs)) (λ reply. or_lets_go holder (marks size holder) (told_by truncs (λ names. truncs_top names top) reply)) (looks truncs)
            (λ reply is. or_lets_go_goes holder (marks size holder) (told_by truncs (λ names. truncs_top names top) reply) (told_for truncs (λ names. truncs_top names top) reply (λ names. truncs_for names top) is) (λ a. marks_go size holder a (refuses a)))

        pub metadata_goes : GoesFor fine fact n (lists_metadata size room holder)
        metadata_goes = call_goes (Look room (ListFolder metadata)) (λ reply. or_lets_go holder (lists_truncs size room holder) (told_by metadata (λ names. metadata_top names 0) reply)) (looks metadata)
            (λ reply is. or_lets_go_goes holder (lists_truncs size room holder) (told_by metadata (λ names. metadata_top names 0) reply) (told_for metadata (λ names. metadata_top names 0) reply (λ names. metadata_for names 0) is) truncs_go)
