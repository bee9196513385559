-- A writer's floor is found: its stamps will be above those of the truncates that are there.
use Rattle.std.specs.Prelude.{◌≡◌, ◌⊎◌, ℕ, [], Ok}
use Rattle.store_api.specs.declared.step.Answer.TheVariants.{Names}
use Rattle.store_api.specs.Step.{list_folder}
use Rattle.store_api.specs.Acts.{Acts}
use Rattle.mount_model.specs.declared.row.Row.{Row}
use Rattle.mount_model.specs.declared.row.Stage.TheVariants as stage
use Rattle.mount_model.specs.declared.reply.Reply.{Reply}
use Rattle.mount_model.specs.declared.reply.Reply.TheVariants.{Floored, Damaged}
use Rattle.mount_model.specs.Paths.{Name, truncs}
use Rattle.mount_model.specs.Listed.{IsGreatest, IsLeastOther, HasStamp}
use Rattle.mount_model.specs.Table.{only}
use Rattle.mount_model.specs.State.{State, Table, put}
use Rattle.mount_model.specs.Making.{Told, otherwise, OnWriter}

abbrev pub floored : ℕ → Row → Row
floored floor row = record row { floor = floor; stage = stage.Floored }

-- what is answered to what the store told of the truncates, and the table then
abbrev pub FloorOutcome : Row → Table → Told → Reply → Table → Type 0
FloorOutcome row table (Ok (Names names)) reply after =
    ((floor : ℕ) × IsGreatest HasStamp names floor × (reply ≡ Floored floor) × (after ≡ put (floored floor row) table))
    ⊎ ((name : Name) × IsLeastOther HasStamp names name × (reply ≡ Damaged truncs name) × (after ≡ table))
FloorOutcome row table told reply after = (reply ≡ otherwise truncs [] told) × (after ≡ table)

pub record FloorsRow (row : Row) (old : State) (reply : Reply) (new : State) : Type 0 where
  pub told : Told
  pub made : Acts (list_folder row.room truncs) old.store new.store told
  pub outcome : FloorOutcome row old.table told reply new.table
  pub after : new ≡ record old { store = new.store; table = new.table }

abbrev pub Floors : ℕ → ℕ → State → Reply → State → Type 0
Floors caller writer old reply new = OnWriter caller (only stage.Entered) writer old reply new (λ row. FloorsRow row old reply new)
