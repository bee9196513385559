-- The reply that a statement at work takes.
use Rattle.std.specs.Prelude.{◌≡◌, ℕ, Option, false}
use Rattle.mount_model.specs.declared.reply.Reply.{Reply}
use Rattle.actor_core.specs.declared.kept.Stop.{Stop}
use Rattle.actor_core.specs.declared.kept.Kept.{Kept}
use Rattle.actor_core.specs.declared.actor.State.{State}
use Rattle.actor_core.specs.declared.actor.State.TheVariants.{Working}
use Rattle.actor_core.specs.Stopping.{is_due, one_nearer}
use Rattle.actor_core.specs.Progress.{with_reply}
use Rattle.actor_core.specs.Standings.{AwaitsReply, busy, doing_asked, state_progress}

abbrev pub IsWorking : State → Type 0
IsWorking (Working doing is_out) = Unit {0}
IsWorking _ = ⊥

-- a call of the statement at work is out
abbrev pub HasCallOut : State → Type 0
HasCallOut (Working doing is_out) = AwaitsReply doing
HasCallOut _ = ⊥

-- it goes on so with the reply, where the actor does not stop within that call
abbrev pub GoesOnWith : Reply → State → State → Type 0
GoesOnWith reply (Working doing is_out) new =
    (number : ℕ) (kept : Kept) (stop : Option Stop) → is_due stop ≡ false
    → state_progress number kept (one_nearer stop) new ≡ with_reply (busy number (doing_asked kept stop doing)) reply
GoesOnWith reply _ new = ⊥
