-- A machine's program that meets a call that failed ends by the store.
use Rattle.std.proofs.Common.{◌≡◌, ℕ, List, ◌∷◌, ◌++◌, Option, None, sym, inl, inr, subst}
use Rattle.std.specs.Prelude.{Result, Err}
use Rattle.plfs_types.specs.Counts.{HasRisen}
use Rattle.plfs_types.specs.declared.names.Path.{Path}
use Rattle.mount_model.specs.declared.reply.Reply.{Reply}
use Rattle.mount_model.specs.declared.reply.Reply.TheVariants.{Fault, NoMemory}
use Rattle.mount_model.specs.State.{State}
use Rattle.mount_model.specs.History.{Event}
use Rattle.mount_sound.specs.Owed.{IsLawful}
use Rattle.mount_model.specs.declared.stuck.Stuck.{Stuck}
use Rattle.mount_model.specs.declared.stuck.Stuck.TheVariants as stuck
use Rattle.mount_model.specs.Running.{Runs}
use Rattle.mount_model.specs.FlowReplies.{Tries, given, trouble}
use Rattle.reader_laws.specs.Moments.{Moment, moment_after}
use Rattle.reader_laws.proofs.Gathered.Facts.{follows}
use Rattle.reader_laws.specs.Failing.{FailsByStore}
use Rattle.reader_laws.proofs.Soundness.LookEnds.{Fails}
use Rattle.reader_laws.proofs.Calls.Troubles.{fails_there, fails_later}

pub same_trouble : {R : Type 0} (a b : Stuck) → ◌≡◌ {A = Result R Stuck} (Err a) (Err b) → a ≡ b
same_trouble a b e = cc

module _ (caller : ℕ) (start : Moment) (events before : List Event) (e : Event) (later : List Event) (why : Stuck) (split : events ≡ before ++ e ∷ later) (lawful : IsLawful start.state events) where
  all_of_it : IsLawful start.state (before ++ e ∷ later)
  all_of_it = subst (IsLawful start.state) split lawful

  -- what follows the call failed
  pub later_fails : FailsByStore caller e.after later why → FailsByStore caller start.state events why
  later_fails fails = subst (λ es. FailsByStore caller start.state es why) (sym split) (fails_later caller start.state before e later why all_of_it fails)

  -- the call itself failed
  pub here_fails : {A R : Type 0} (found : Reply → Option A) (path : Path) (next : A → Tries R) → e.caller ≡ caller → found Fault ≡ None → found NoMemory ≡ None → Fails (moment_after start before).state e.reply e.after → Runs caller (given (found e.reply) (trouble path e.reply) next) later (Err why)
      → FailsByStore caller start.state events why
  here_fails {A} {R} found path next own no_fault no_memory (inl (fault, risen)) runs =
      let is : Runs caller (given (found Fault) (trouble path Fault) next) later (Err why) = subst (λ reply. Runs caller (given (found reply) (trouble path reply) next) later (Err why)) fault runs in
      let ends : Runs caller (given {A = A} {R = R} None stuck.Fault next) later (Err why) = subst (λ o. Runs caller (given o stuck.Fault next) later (Err why)) no_fault is in
      subst (λ es. FailsByStore caller start.state es why) (sym split)
      (fails_there caller start.state before e later why all_of_it own (inl (fault, subst (λ (st : State). HasRisen st.store.faults e.after.store.faults) (follows start before).0 risen)) (sym (same_trouble {R = R} stuck.Fault why ends.1)))
  here_fails {A} {R} found path next own no_fault no_memory (inr memory) runs =
      let is : Runs caller (given (found NoMemory) (trouble path NoMemory) next) later (Err why) = subst (λ reply. Runs caller (given (found reply) (trouble path reply) next) later (Err why)) memory runs in
      let ends : Runs caller (given {A = A} {R = R} None stuck.Fault next) later (Err why) = subst (λ o. Runs caller (given o stuck.Fault next) later (Err why)) no_memory is in
      subst (λ es. FailsByStore caller start.state es why) (sym split) (fails_there caller start.state before e later why all_of_it own (inr memory) (sym (same_trouble {R = R} stuck.Fault why ends.1)))
