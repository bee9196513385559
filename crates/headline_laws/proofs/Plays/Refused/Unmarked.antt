-- A container is found by its name and held, and is not truncated, since the last stamp of all stands there.
use Rattle.std.proofs.Common.{◌≡◌, ◌≤◌, ℕ, Bool, true, false, nat_le, nat_lt, List, Some, None, Result, Ok, Err, refl, sym, ap, inl, inr, subst, arith, if◌then◌else◌}
use Rattle.std.proofs.lemmas.Bool.Decides.{nat_tests}
use Rattle.plfs_types.specs.declared.limits.TheConstants.{MAX_SIZE, MAX_STAMP}
use Rattle.store_api.specs.declared.step.Answer.TheVariants.{Made, NoFolder, NoRoom}
use Rattle.store_api.specs.declared.store.Trouble.TheVariants.{Fault, NoMemory}
use Rattle.mount_model.specs.declared.call.Call.TheVariants.{Mark}
use Rattle.mount_model.specs.declared.call.Look.TheVariants.{List as ListFolder}
use Rattle.mount_model.specs.declared.reply.Refusal.{Refusal}
use Rattle.mount_model.specs.declared.reply.Refusal.TheVariants as refusal
use Rattle.mount_model.specs.declared.reply.Reply.{Reply}
use Rattle.mount_model.specs.declared.reply.Reply.TheVariants.{Marked, Refused}
use Rattle.mount_model.specs.declared.row.Holder.{Holder}
use Rattle.mount_model.specs.History.{Event}
use Rattle.mount_model.specs.Holding.{TruncatesAt, truncate_check, truncate_outcome, truncate_stamp}
use Rattle.mount_model.specs.Making.{Refuses, Told}
use Rattle.mount_model.specs.Paths.{Name}
use Rattle.mount_model.specs.State.{State, Table}
use Rattle.mount_model.specs.Step.{Answers}
use Rattle.mount_model.specs.Table.{holder_of}
use Rattle.mount_model.proofs.Facts.{is_holding, match_cases}
use Rattle.mount_sound.specs.Owed.{IsLawful}
use Rattle.mount_model.specs.declared.stuck.Stuck.{Stuck}
use Rattle.mount_model.specs.declared.stuck.Stuck.TheVariants as stuck
use Rattle.mount_model.specs.Running.{Runs, unbroken}
use Rattle.mount_model.specs.FlowListed.{told_by}
use Rattle.mount_model.specs.FlowReplies.{Tries}
use Rattle.trunc_rename.specs.Holding.{or_lets_go}
use Rattle.trunc_rename.specs.Truncating.{lists_metadata, marked, truncate_program}
use Rattle.reader_laws.specs.Moments.{IsSoundAt, Moment, moment_after}
use Rattle.reader_laws.proofs.Facts.{answered}
use Rattle.headline_laws.specs.Changing.{IsHolderOf, IsTopIn}
use Rattle.headline_laws.specs.Refusing.{FindsSpent}
use Rattle.headline_laws.proofs.Plays.Holds.Held.{alone, answered_so, change_of, changed, its_step}
use Rattle.headline_laws.proofs.Plays.Holds.Truncated.{ComesBy, metadata_so}
use Rattle.headline_laws.proofs.Plays.Refused.BehindHold.{held_first, let_go_err, look_other}
use Rattle.headline_laws.proofs.Plays.Refused.Reasons.{EndsFor, IsNoStamp, IsReplyFor, IsTroubleFor, told_for}

abbrev WhySpent : Result ℕ Stuck
WhySpent = Err (stuck.Refused refusal.StampsSpent)

-- ---- the call that was refused

top_spent : (size top : ℕ) → truncate_check size top ≡ Some refusal.StampsSpent → MAX_STAMP ≤ top
top_spent size top check = by (nat_lt MAX_SIZE size) (nat_le MAX_STAMP top) refl check
  where
    at_most : (most n : ℕ) → nat_le most n ≡ true → most ≤ n
    at_most most n is = grind (arith, nat_tests)

    by : (far spent : Bool) → nat_le MAX_STAMP top ≡ spent → (if far then Some refusal.TooFar else if spent then Some refusal.StampsSpent else None) ≡ Some refusal.StampsSpent → MAX_STAMP ≤ top
    by true spent is found = absurd (cc)
    by false true is found = at_most MAX_STAMP top is
    by false false is found = absurd (cc)

told_not : (stamp size : ℕ) (table : Table) (told : Told) → Refused refusal.StampsSpent ≡ (truncate_outcome stamp size table told).reply → ⊥
told_not stamp size table (Ok Made) e = cc
told_not stamp size table (Ok NoRoom) e = cc
told_not stamp size table (Ok NoFolder) e = cc
told_not stamp size table (Ok other) e = cc
told_not stamp size table (Err Fault) e = cc
told_not stamp size table (Err NoMemory) e = cc

-- its caller has the hold
record IsUnmarked (n holder top : ℕ) (m : Moment) : Type 0 where
  pub h : Holder
  pub held : holder_of n holder m.state.table.holders ≡ Some h
  pub spent : MAX_STAMP ≤ top

is_unmarked : (n holder size top : ℕ) (m : Moment) (after : State) → Answers m.state n (Mark holder size top) (Refused refusal.StampsSpent) after → IsUnmarked n holder top m
is_unmarked n holder size top m after a = elim (match_cases (holder_of n holder m.state.table.holders) _ _ a) as (λ _. IsUnmarked n holder top m) [
  | inl (none, unheld) ↦ absurd (let e : Refused refusal.StampsSpent ≡ Refused refusal.NotHolder = unheld.0 in cc)
  | inr (h, held, does) ↦ elim (match_cases (truncate_check size top) (TruncatesAt h size top m.state (Refused refusal.StampsSpent) after) (λ why. Refuses why m.state (Refused refusal.StampsSpent) after) does) as (λ _. IsUnmarked n holder top m) [
    | inr (why, some, so) ↦ (let e : Refused refusal.StampsSpent ≡ Refused why = so.0 in let same : why ≡ refusal.StampsSpent = cc in record { h = h; held = held; spent = top_spent size top (subst (λ w. truncate_check size top ≡ Some w) same some) })
    | inl (passed, t) ↦ absurd (told_not (truncate_stamp t.time top) size m.state.table t.makes.told t.makes.answered)
  ]
]

-- ---- the calls before and behind it

marked_err : (reply : Reply) → marked reply ≡ WhySpent → reply ≡ Refused refusal.StampsSpent
marked_err (Refused why) e = (let same : why ≡ refusal.StampsSpent = cc in ap Refused same)
marked_err (Marked stamp) e = absurd (cc)
marked_err reply e = absurd (cc)

reply_fine : (reply : Reply) → (reply ≡ Refused refusal.StampsSpent → ⊥) → IsReplyFor IsNoStamp reply
reply_fine (Refused why) never = by why refl
  where
    by : (w : Refusal) → why ≡ w → IsNoStamp why
    by refusal.StampsSpent is = absurd (never (ap Refused is))
    by w is = subst IsNoStamp (sym is) tt
reply_fine reply never = tt

past_so : (n holder : ℕ) (m : Moment) (next : ℕ → Tries ℕ) (result : Result ℕ Stuck) (events : List Event) → EndsFor IsNoStamp result → IsLawful m.state events → Runs n (or_lets_go holder next result) events WhySpent → (a : ℕ) × Runs n (next a) events WhySpent × (result ≡ Ok a)
past_so n holder m next (Ok a) events fine lawful runs = (a, runs, refl)
past_so n holder m next (Err why) events fine lawful runs =
    let is : ◌≡◌ {A = Result ℕ Stuck} (Err why) WhySpent = let_go_err refusal.StampsSpent tt n holder m (Err why) events lawful runs in
    let same : why ≡ stuck.Refused refusal.StampsSpent = cc in
    absurd (subst (IsTroubleFor IsNoStamp) same fine)

by_refusal : (n holder room : ℕ) → ComesBy n holder room WhySpent (Refused refusal.StampsSpent)
by_refusal n holder room = record {
  ends = λ r m events lawful runs. marked_err r (let_go_err refusal.StampsSpent tt n holder m (marked r) events lawful runs);
  past = λ folder tells next r m events fits told lawful runs. past_so n holder m next (told_by folder tells r) events (told_for IsNoStamp folder tells r told (reply_fine r (look_other refusal.StampsSpent tt room (ListFolder folder) r fits))) lawful runs;
}

-- ---- the truncate

pub finds_spent : (n : ℕ) (m : Moment) (name : Name) (size : ℕ) (events : List Event) → IsLawful m.state events → IsSoundAt m → Runs n (truncate_program name size) events WhySpent → FindsSpent m n (alone events) name size
finds_spent n m name size events lawful sound runs =
    let h = held_first refusal.StampsSpent tt n name (lists_metadata size) m events lawful sound runs in
    let k = metadata_so n h.holder h.room size WhySpent (Refused refusal.StampsSpent) (by_refusal n h.holder h.room) h.now h.rest h.lawful h.sound h.only h.runs in
    let there : Moment = moment_after h.now k.more in
    let a = answered there.state n (Mark h.holder size k.top) (unbroken (Mark h.holder size k.top)) (Refused refusal.StampsSpent) k.event.after refl (its_step n (Mark h.holder size k.top) (Refused refusal.StampsSpent) there.state k.event k.own k.asked k.told k.lawful.1) in
    let i = is_unmarked n h.holder size k.top there k.event.after a in
    let held : IsHolderOf there n h.holder h.room = (i.h, i.held, k.only i.h (is_holding n h.holder there.state.table.holders i.h i.held)) in
    record {
      top = k.top;
      change = change_of n m name (lists_metadata size) events WhySpent h k.more k.event k.later;
      made = changed n m name (lists_metadata size) events WhySpent (λ holder. Mark holder size k.top) (Refused refusal.StampsSpent) h k.more k.event k.later k.split (answered_so n (Mark h.holder size k.top) (Refused refusal.StampsSpent) k.event k.own k.asked k.told) held;
      stood = subst (λ (x : Moment). IsTopIn x h.room k.top) (sym (h.is_now k.more)) k.stood;
      spent = i.spent;
    }
