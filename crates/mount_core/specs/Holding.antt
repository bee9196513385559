-- A container is held by a holder that stands in the table before its act.
use Rattle.std.specs.Prelude.{◌≡◌}
use Rattle.store_api.specs.Acts.{Acts}
use Rattle.mount_model.specs.declared.row.Holder.{Holder}
use Rattle.mount_model.specs.declared.reply.Reply.{Reply}
use Rattle.mount_model.specs.State.{State, Table}
use Rattle.mount_model.specs.Making.{Told}
use Rattle.mount_model.specs.Holding.{hold_step, HoldOutcome}

-- the act is made from this state, and without the holder this was the table
pub record HoldsAs (h : Holder) (without : Table) (from : State) (reply : Reply) (new : State) : Type 0 where
  pub told : Told
  pub made : Acts (hold_step h.room) from.store new.store told
  pub outcome : HoldOutcome h without told reply new.table
  pub after : new ≡ record from { store = new.store; table = new.table }
