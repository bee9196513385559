-- What a call answers and leaves, once its act was told.
use Rattle.std.specs.Prelude.{◌≡◌}
use Rattle.mount_model.specs.declared.reply.Reply.{Reply}
use Rattle.mount_model.specs.Making.{CallOutcome}
use Rattle.mount_table.specs.Roll.{Roll, with_table}

-- the reply is the outcome's, and so is the table
pub record IsSettled (outcome : CallOutcome) (old : Roll) (reply : Reply) (new : Roll) : Type 0 where
  pub answered : reply ≡ outcome.reply
  pub left : new ≡ with_table outcome.table old
