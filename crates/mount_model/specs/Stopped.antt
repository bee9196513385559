-- What is left of a call that was broken off.
use Rattle.std.specs.Prelude.{◌≡◌, ◌⊎◌, ℕ, None}
use Rattle.mount_model.specs.declared.call.Call.{Call}
use Rattle.mount_model.specs.declared.reply.Reply.{Reply}
use Rattle.mount_model.specs.declared.reply.Reply.TheVariants.{Fault, NoMemory}
use Rattle.mount_model.specs.State.{State, timed}
use Rattle.mount_model.specs.Step.{Answers}
use Rattle.mount_model.specs.Stopping.{without_caller}

-- nothing was done, or the call was answered by a fault, or by want of memory
abbrev pub IsCutShort : State → ℕ → Call → State → Type 0
IsCutShort old caller call new =
    (new ≡ old) ⊎ ((reply : Reply) × ((reply ≡ Fault) ⊎ (reply ≡ NoMemory)) × Answers old caller call reply new)

-- one state has the tree, the place and the serials of the other
pub record StopsShort (cut new : State) : Type 0 where
  pub tree : new.store.tree ≡ cut.store.tree
  pub opened : new.opened ≡ cut.opened
  pub marks : new.marks ≡ cut.marks
  pub mount : new.mount ≡ cut.mount
  pub serial : new.serial ≡ cut.serial

-- A call that was cut short could have left this tree, whatever the clock tells, and then its caller is at its end, or
-- memory was wanted.
pub record IsLeftBy (old : State) (caller : ℕ) (call : Call) (new : State) : Type 0 where
  pub cut : State
  pub short : IsCutShort (timed None old) caller call cut
  pub like : StopsShort cut new
  pub table : (new.table ≡ cut.table) ⊎ (new.table ≡ without_caller caller cut.table)
