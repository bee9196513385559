-- What was told of a step, and the syncs that failed in it.
use Rattle.std.proofs.Common.{◌≡◌, ◌<◌, ◌-◌, ◌^◌, min, ℕ, inl, inr, false, Option, Some, None, Result, Ok, Err, refl, sym, subst, arith}
use Rattle.std.proofs.lemmas.Bool.{cases_lt}
use Rattle.std.specs.Prelude.{IfOk, IfSome, is_some, unwrap_or, count_by}
use Rattle.std.specs.Option.{option_or}
use Rattle.plfs_types.specs.Counts.{HasRisen}
use Rattle.store_api.specs.declared.step.Answer.{Answer}
use Rattle.store_api.specs.declared.store.Trouble.{Trouble}
use Rattle.folder_calls.specs.declared.failure.Failure.{Failure}
use Rattle.folder_calls.specs.declared.failure.Failure.TheVariants.{Failed, NoMemory}
use Rattle.folder_calls.specs.declared.reason.Doubt.{Doubt}
use Rattle.folder_calls.specs.Calls.{Log}
use Rattle.folder_calls.specs.Syncs.{is_failed_sync, IsCountOf, HasFailedSync}
use Rattle.store_folder.specs.Ends.{told_of}

-- what follows of each answer is so of what is told
pub if_told : (end : Result Answer Failure) (told : Result Answer Trouble) (P Q : Answer → Type 0) → told ≡ told_of end → ((answer : Answer) → P answer → Q answer) → IfOk end P → IfOk told Q
if_told end told P Q is follows holds =
    let Holds : Result Answer Trouble → Type 0 = λ told. IfOk told Q in
    subst Holds (sym is) (of_end end holds)
  where
    of_end : (end : Result Answer Failure) → IfOk end P → IfOk (told_of end) Q
    of_end (Ok answer) holds = follows answer holds
    of_end (Err Failed) holds = tt
    of_end (Err NoMemory) holds = tt

-- what follows where there is one
pub if_some : {A : Type 0} (found : Option A) (P Q : A → Type 0) → ((one : A) → P one → Q one) → IfSome found P → IfSome found Q
if_some None P Q follows holds = tt
if_some (Some one) P Q follows holds = follows one holds

-- a greater count is greater up to its end
counted_more : (before after count later : ℕ) → count ≡ min before (2 ^ 64 - 1) → later ≡ min after (2 ^ 64 - 1) → before < after → HasRisen count later
counted_more before after count later is are more = elim (cases_lt after (2 ^ 64 - 1)) [
  | inl within ↦ inl (omega (arith, is, are, more, within))
  | inr past ↦ inr (omega (arith, is, are, more, past))
]

-- what is not refused was not in doubt, so that the first cause is the new one
pub first_cause : (synced renamed : Option Doubt) (doubt : Doubt) → is_some (option_or synced renamed) ≡ false → unwrap_or synced doubt ≡ doubt
first_cause None renamed doubt is = refl
first_cause (Some first) renamed doubt is = cc

module _ {F : Type 0} where
  -- where a sync failed in a told log, more are counted
  pub counts_more : (log later : Log F) (before after : ℕ) → IsCountOf log before → IsCountOf later after → HasFailedSync log later → HasRisen before after
  counts_more None later before after is are more = absurd more
  counts_more (Some log) None before after is are more = absurd more
  counts_more (Some log) (Some later) before after is are more = counted_more (count_by is_failed_sync log) (count_by is_failed_sync later) before after is are more

  -- no sync failed where no call was made
  none_failed : (log : Log F) → HasFailedSync log log → ⊥
  none_failed None more = more
  none_failed (Some log) more = omega (arith, more)

  -- a step in which a sync failed was not refused
  pub not_refused : (refusal : Option Doubt) (log later : Log F) (Still Told : Doubt → Type 0) (D : Type 0) → IfSome refusal (λ doubt. Still doubt × (later ≡ log) × Told doubt) → (is_some refusal ≡ false → D) → HasFailedSync log later → D
  not_refused None log later Still Told D still doubted more = doubted refl
  not_refused (Some doubt) log later Still Told D (same, uncalled, told) doubted more =
      let Fails : Log F → Type 0 = λ later. HasFailedSync log later in
      absurd (none_failed log (subst Fails uncalled more))
