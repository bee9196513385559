-- Each refusal has its reason, and each other call does its work.
use Rattle.std.proofs.Common.{◌≡◌, ◌≢◌, ◌⊎◌, ℕ, None, refl, inl, inr, subst}
use Rattle.std.specs.Prelude.{MatchOption}
use Rattle.mount_model.specs.declared.call.Ask.{Ask}
use Rattle.mount_model.specs.declared.call.Call.{Call}
use Rattle.mount_model.specs.declared.call.Call.TheVariants.{Greet, Find, MakeContainer, Rooms, Look, Enter, Floor, MakeHostdir, MakeIndex, MakeLog, Write, Flush, SyncLog, SyncIndex, PutMeta, Exit, Hold, Mark, Move, Release, StartFlat, PutFlat, SyncFlat, InstallFlat, StartPack, SyncDropping, Inspect, Mend, MendMeta, Bury, MendHold}
use Rattle.mount_model.specs.declared.reply.Refusal.{Refusal}
use Rattle.mount_model.specs.declared.reply.Reply.{Reply}
use Rattle.mount_model.specs.declared.reply.Reply.TheVariants.{Fault, NoMemory, Refused, Stopped}
use Rattle.mount_model.specs.Refusals.{MayRefuse}
use Rattle.mount_model.specs.Replies.{FitsAsk, FitsCall, IsAnswerTo, IsTrouble, damaged, fault, no_memory, refused}
use Rattle.mount_model.specs.State.{State}
use Rattle.mount_model.specs.Step.{Answers, IsStep}
use Rattle.mount_model.proofs.Facts.{step_cases, step_fits, stop_replies}
use Rattle.mount_sound.specs.Ledger.{Ledger}
use Rattle.mount_sound.specs.Owed.{May, Owes}
use Rattle.mount_sound.specs.Sound.{IsSoundFor}
use Rattle.mount_undamaged.specs.Damage.{ShowsNoDamage}
use Rattle.mount_undamaged.proofs.Facts.{step_shows}
use Rattle.refusal_laws.specs.Reasons.{HasReason}
use Rattle.refusal_laws.proofs.Holds.{enter_reason, find_reason, hold_reason, make_reason, mark_reason, move_reason, release_reason, rooms_reason}
use Rattle.refusal_laws.proofs.Others.{bury_reason, dropping_reason, inspect_reason, install_reason, look_reason, mend_hold_reason, mend_meta_reason, mend_reason, put_reason, start_pack_reason, start_reason, sync_reason}
use Rattle.refusal_laws.proofs.Writers.{exit_reason, floor_reason, flush_reason, hostdir_reason, index_reason, log_reason, meta_reason, sync_index_reason, sync_log_reason, write_reason}

module _ (issued : Ledger) (old new : State) (s : IsSoundFor issued old) (caller : ℕ) (why : Refusal) where
  answer_reason : (call : Call) → Owes old caller call → Answers old caller call (Refused why) new → HasReason old caller call why
  answer_reason Greet owes a = (let other = a.0 in cc)
  answer_reason (Find name) owes a = find_reason issued old new s caller why name a
  answer_reason (MakeContainer name) owes a = make_reason issued old new s caller why name a
  answer_reason Rooms owes a = rooms_reason issued old new s caller why a
  answer_reason (Look room look) owes a = look_reason issued old new s caller why room look a
  answer_reason (Enter room host cap) owes a = enter_reason issued old new s caller why room host cap a
  answer_reason (Floor writer) owes a = floor_reason issued old new s caller writer why a
  answer_reason (MakeHostdir writer) owes a = hostdir_reason issued old new s caller writer why a
  answer_reason (MakeIndex writer) owes a = index_reason issued old new s caller writer why a
  answer_reason (MakeLog writer) owes a = log_reason issued old new s caller writer why a
  answer_reason (Write writer at block) owes a = write_reason issued old new s caller writer why at block a
  answer_reason (Flush writer) owes a = flush_reason issued old new s caller writer why a
  answer_reason (SyncLog writer) owes a = sync_log_reason issued old new s caller writer why a
  answer_reason (SyncIndex writer) owes a = sync_index_reason issued old new s caller writer why a
  answer_reason (PutMeta writer) owes a = meta_reason issued old new s caller writer why a
  answer_reason (Exit writer) owes a = exit_reason issued old new s caller writer why a
  answer_reason (Hold room) owes a = hold_reason issued old new s caller why room a
  answer_reason (Mark holder size top) owes a = mark_reason issued old new s caller why holder size top a
  answer_reason (Move holder to) owes a = move_reason issued old new s caller why holder to a
  answer_reason (Release holder) owes a = release_reason issued old new s caller why holder a
  answer_reason (StartFlat room) owes a = start_reason issued old new s caller why room a
  answer_reason (PutFlat flat bytes) owes a = put_reason issued old new s caller why flat bytes a
  answer_reason (SyncFlat flat) owes a = sync_reason issued old new s caller why flat a
  answer_reason (InstallFlat flat) owes a = install_reason issued old new s caller why flat a
  answer_reason (StartPack room host writer) owes a = start_pack_reason issued old new s caller why room host writer owes a
  answer_reason (SyncDropping room host writer is_log) owes a = dropping_reason issued old new s caller why room host writer is_log owes a
  answer_reason (Inspect writer) owes a = inspect_reason issued old new s caller why writer a
  answer_reason (Mend room host writer count) owes a = mend_reason issued old new s caller why room host writer count _ owes.1 a
  answer_reason (MendMeta room host cover last) owes a = mend_meta_reason issued old new s caller why room host cover last _ owes.1 a
  answer_reason (Bury room host writer) owes a = bury_reason issued old new s caller why room host writer a
  answer_reason (MendHold room) owes a = mend_hold_reason issued old new s caller why room a

-- Where a sound mount refuses a call, it has the reason.
pub has_reason : (issued : Ledger) (old new : State) (caller : ℕ) (ask : Ask) (why : Refusal) → May old caller ask → IsStep old caller ask (Refused why) new → IsSoundFor issued old → HasReason old caller ask.call why
has_reason issued old new caller ask why may step s = step_cases old caller ask (Refused why) new (HasReason old caller ask.call why) step
    (λ none a. answer_reason issued old new s caller why ask.call (may.owes s.clean) a)
    (λ k some x. absurd (elim (stop_replies old caller k ask.call (Refused why) new x) as (λ _. ⊥) [ inl other ↦ (cc) | inr other ↦ (cc) ]))

call_fits : (ask : Ask) (reply : Reply) → ask.stop ≡ None → FitsAsk ask reply → FitsCall ask.call reply
call_fits ask reply none fits = subst (λ stop. MatchOption stop (FitsCall ask.call reply) (λ k. (reply ≡ Stopped) ⊎ (reply ≡ NoMemory))) none fits

module _ (issued : Ledger) (old new : State) (caller : ℕ) (ask : Ask) (reply : Reply) (may : May old caller ask) (step : IsStep old caller ask reply new) (s : IsSoundFor issued old) (no_fault : reply ≢ Fault) (memory : reply ≢ NoMemory) where
  abbrev Works : Call → Type 0
  Works call = IsAnswerTo call reply ⊎ ((why : Refusal) × (reply ≡ Refused why) × HasReason old caller call why)

  trouble : (call : Call) → ask.call ≡ call → (fine : Refusal → Type 0) → IsTrouble fine reply → Works call
  trouble call is fine (refused why may_be told) = inr (why, told, subst (λ c. HasReason old caller c why) is (has_reason issued old new caller ask why may (subst (λ r. IsStep old caller ask r new) told step) s))
  trouble call is fine (damaged folder file told) = absurd (subst ShowsNoDamage told (step_shows issued old new caller ask reply may step s))
  trouble call is fine (fault told) = absurd (no_fault told)
  trouble call is fine (no_memory told) = absurd (memory told)

  either : (call : Call) → ask.call ≡ call → (fine : Refusal → Type 0) → IsAnswerTo call reply ⊎ IsTrouble fine reply → Works call
  either call is fine (inl answer) = inl answer
  either call is fine (inr t) = trouble call is fine t

  works : (call : Call) → ask.call ≡ call → FitsCall call reply → Works call
  works Greet is f = inl f
  works call is f = either call is (MayRefuse call) f

-- Each other call does its work.
pub does_work : (issued : Ledger) (old new : State) (caller : ℕ) (ask : Ask) (reply : Reply) → May old caller ask → IsStep old caller ask reply new → IsSoundFor issued old → ask.stop ≡ None → reply ≢ Fault → reply ≢ NoMemory
    → IsAnswerTo ask.call reply ⊎ ((why : Refusal) × (reply ≡ Refused why) × HasReason old caller ask.call why)
does_work issued old new caller ask reply may step s none no_fault memory = works issued old new caller ask reply may step s no_fault memory ask.call refl (call_fits ask reply none (step_fits old new caller ask reply step))
