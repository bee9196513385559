-- A reply that no broken off call has is that of an answered one.
use Rattle.std.proofs.Common.{◌≡◌, ℕ, Bool, true, false, ap, sym, ◌∙◌, ◌⊎◌, inl, inr, subst}
use Rattle.mount_model.specs.declared.call.Ask.{Ask}
use Rattle.mount_model.specs.declared.call.Call.{Call}
use Rattle.mount_model.specs.declared.reply.Reply.{Reply}
use Rattle.mount_model.specs.declared.reply.Reply.TheVariants.{Stopped, NoMemory}
use Rattle.mount_model.specs.State.{State}
use Rattle.mount_model.specs.Step.{Answers, IsStep}
use Rattle.mount_model.proofs.Facts.{step_cases, stop_replies}

-- the reply is one of a call that is broken off, or of want of memory
abbrev pub is_cut : Reply → Bool
is_cut Stopped = true
is_cut NoMemory = true
is_cut reply = false

not_cut : (reply : Reply) → is_cut reply ≡ false → (reply ≡ Stopped) ⊎ (reply ≡ NoMemory) → ⊥
not_cut reply whole (inl stopped) = let both : true ≡ false = sym (ap is_cut stopped) ∙ whole in cc
not_cut reply whole (inr memory) = let both : true ≡ false = sym (ap is_cut memory) ∙ whole in cc

-- a call with another reply was answered
pub answered_whole : (old : State) (caller : ℕ) (ask : Ask) (reply : Reply) (new : State) → is_cut reply ≡ false → IsStep old caller ask reply new → Answers old caller ask.call reply new
answered_whole old caller ask reply new whole step = step_cases old caller ask reply new (Answers old caller ask.call reply new) step
    (λ none a. a)
    (λ k some x. absurd (not_cut reply whole (stop_replies old caller k ask.call reply new x)))

pub answers_as : (old : State) (caller : ℕ) (ask : Ask) (asked : Call) (reply told : Reply) (new : State) → ask.call ≡ asked → reply ≡ told → is_cut told ≡ false → IsStep old caller ask reply new → Answers old caller asked told new
answers_as old caller ask asked reply told new c r whole s =
    subst (λ x. Answers old caller x told new) c (answered_whole old caller ask told new whole (subst (λ y. IsStep old caller ask y new) r s))
