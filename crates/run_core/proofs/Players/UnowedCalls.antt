-- A call for which nothing is owed leads on.
use Rattle.std.proofs.Common.{ℕ, refl}
use Rattle.mount_model.specs.declared.call.Ask.{Ask}
use Rattle.mount_model.specs.declared.reply.Reply.{Reply}
use Rattle.mount_model.specs.State.{State}
use Rattle.mount_model.specs.Step.{IsStep, IsOwed}
use Rattle.mount_sound.specs.Owed.{OwesNothing}
use Rattle.mount_sound.proofs.Facts.{owes_nothing}
use Rattle.run_core.specs.Leading.{MadeCall}

pub unowed_called : (old : State) (caller : ℕ) (ask : Ask) (reply : Reply) (new : State) → IsOwed ask → OwesNothing ask.call → IsStep old caller ask reply new → MadeCall old caller ask reply new
unowed_called old caller ask reply new owed none step = record {
  lawful = (record { numbers = owed; owes = λ clean. owes_nothing old caller ask.call none }, step, tt);
  ends = refl;
}
