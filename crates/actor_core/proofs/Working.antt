-- A statement at work, whose machine is asked and replied to where it is.
use Rattle.std.proofs.Common.{◌≡◌, ◌<◌, ℕ, true, false, Option, Some, None, sym, ap, ◌∙◌, subst}
use Rattle.std.specs.Prelude.{Bool, IfSome}
use Rattle.mount_model.specs.declared.reply.Reply.{Reply}
use Rattle.actor_core.specs.declared.kept.Stop.{Stop}
use Rattle.actor_core.specs.declared.kept.Kept.{Kept}
use Rattle.actor_core.specs.declared.doing.Doing.{Doing}
use Rattle.actor_core.specs.declared.actor.State.{State}
use Rattle.actor_core.specs.declared.actor.State.TheVariants.{Working}
use Rattle.actor_core.specs.Stopping.{is_due, one_nearer}
use Rattle.actor_core.specs.declared.machines.Written.{Written}
use Rattle.actor_core.specs.Endings.{stopped, wrote}
use Rattle.actor_core.specs.Work.{finishes}
use Rattle.actor_core.specs.Progress.{IsReady, IsAsked, going, with_reply}
use Rattle.actor_core.specs.Standings.{busy, doing_ready, doing_asked, state_progress, state_left}
use Rattle.actor_core.specs.Machines.{IsOneReady, IsOneOver, WorkGoesOn}
use Rattle.actor_core.specs.Taking.{IsWorking, HasCallOut, GoesOnWith}
use Rattle.actor_core.proofs.Carrying.{asked_along}
use Rattle.actor_core.proofs.Doings.{has_call_out, stops_there, some_left, same_out}

-- ---- a reply

module _ (number : ℕ) (kept : Kept) (stop : Option Stop) where
  -- a statement that was taken for one without a call, and has one out
  out_still : (doing : Doing) → IsAsked (busy number (doing_ready kept stop doing)) → IsAsked (busy number (doing_asked kept stop doing))
  out_still doing asked = asked_along (busy number (doing_ready kept stop doing)) (busy number (doing_asked kept stop doing)) (same_out number kept stop doing asked) asked

  pub call_out : (state : State) → IsWorking state → IsAsked (state_progress number kept stop state) → HasCallOut state
  call_out (Working doing true) working asked = has_call_out number kept stop doing asked
  call_out (Working doing false) working asked = has_call_out number kept stop doing (out_still doing asked)
  call_out other working asked = absurd working

  pub goes_with : (old new : State) (reply : Reply) → IsWorking old → IsAsked (state_progress number kept stop old) → GoesOnWith reply old new → is_due stop ≡ false
      → state_progress number kept (one_nearer stop) new ≡ with_reply (state_progress number kept stop old) reply
  goes_with (Working doing true) new reply working asked holds not_due = holds number kept stop not_due
  goes_with (Working doing false) new reply working asked holds not_due = holds number kept stop not_due ∙ sym (ap (λ p. with_reply p reply) (same_out number kept stop doing asked))
  goes_with other new reply working asked holds not_due = absurd working

  pub stops_working : (state : State) (reply : Reply) → IsWorking state → IsAsked (state_progress number kept stop state) → is_due stop ≡ true
      → going number (finishes (stopped kept)) ≡ with_reply (state_progress number kept stop state) reply
  stops_working (Working doing true) reply working asked due = stops_there number kept stop doing reply asked due
  stops_working (Working doing false) reply working asked due =
      stops_there number kept stop doing reply (out_still doing asked) due ∙ sym (ap (λ p. with_reply p reply) (same_out number kept stop doing asked))
  stops_working other reply working asked due = absurd working

pub some_left_at : (state : State) → HasCallOut state → 0 < state_left state
some_left_at (Working doing is_out) out = some_left doing out
some_left_at other out = absurd out

-- ---- an end

module _ (number : ℕ) (kept : Kept) (stop : Option Stop) where
  pub ends_at : (old new : State) → IsOneReady old → IsReady (state_progress number kept stop old) → WorkGoesOn old None new
      → IsOneOver new × (state_progress number kept stop new ≡ state_progress number kept stop old)
  ends_at (Working doing false) (Working after false) one is_ready holds = let made = holds number kept stop is_ready in (made.0, ap (busy number) made.1)
  ends_at (Working doing false) other one is_ready holds = absurd holds
  ends_at other new one is_ready holds = absurd one

  -- a statement whose machine is at its end makes no call meanwhile
  pub over_so : (state : State) (doing : Doing) (is_out : Bool) → state ≡ Working doing is_out → IsOneOver state → state_progress number kept stop state ≡ busy number (doing_ready kept stop doing)
  over_so state doing true is ends = let P : State → Type 0 = λ s. IsOneOver s in absurd (subst P is ends)
  over_so state doing false is ends = ap (state_progress number kept stop) is

  pub written_at : (state : State) (doing : Doing) (written : Option Written)
      → IfSome written (λ w. (n : ℕ) (k : Kept) (s : Option Stop) → busy n (doing_ready k s doing) ≡ going n (finishes (wrote k w.at w.len w.out)))
      → state_progress number kept stop state ≡ busy number (doing_ready kept stop doing)
      → IfSome written (λ w. state_progress number kept stop state ≡ going number (finishes (wrote kept w.at w.len w.out)))
  written_at state doing None comes same = tt
  written_at state doing (Some w) comes same = same ∙ comes number kept stop
