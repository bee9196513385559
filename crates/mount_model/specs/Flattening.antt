-- A container is flattened, or a writer's index dropping is packed: a temporary file is made, written and synced, and then
-- gets the name of a flattened index, or of the writer's packed index.
use Rattle.std.specs.Prelude.{ℕ, List, [], ◌∷◌, ◌++◌, Ok, Err, MatchOption}
use Rattle.store_api.specs.declared.step.Answer.TheVariants.{Made}
use Rattle.store_api.specs.declared.store.Trouble.TheVariants as trouble
use Rattle.store_api.specs.Step.{Step, create, write_at, sync, replace}
use Rattle.mount_model.specs.declared.row.Flattening.{Flattening}
use Rattle.mount_model.specs.declared.row.FlatStage.{FlatStage}
use Rattle.mount_model.specs.declared.row.FlatStage.TheVariants.{Begun, Put, Synced}
use Rattle.mount_model.specs.declared.row.Making.{Making}
use Rattle.mount_model.specs.declared.row.Making.TheVariants as making
use Rattle.mount_model.specs.declared.reply.Reply.{Reply}
use Rattle.mount_model.specs.declared.reply.Reply.TheVariants.{Started, Done, Fault}
use Rattle.mount_model.specs.declared.reply.Refusal.TheVariants.{NotOpen}
use Rattle.mount_model.specs.Paths.{temporary, installed}
use Rattle.mount_model.specs.Table.{flattening_of, with_flattening, without_flattening}
use Rattle.mount_model.specs.State.{State, Table, drawn}
use Rattle.mount_model.specs.Making.{Told, CallOutcome, says, otherwise, MakesAct, Refuses, UnlessRefused}
use Rattle.mount_model.specs.Entering.{draw_check, next_id}
use Rattle.mount_model.specs.Recovering.{IsHostAndWriter}

-- the flattening that begins once the next serial is drawn
abbrev pub begun_flat : State → ℕ → ℕ → Making → Flattening
begun_flat old caller room makes = record { id = next_id old; owner = caller; room = room; makes = makes; stage = Begun }

abbrev pub start_step : Flattening → Step
start_step f = create f.room (temporary f).folder (temporary f).file

abbrev pub start_outcome : Flattening → Table → Told → CallOutcome
start_outcome f table (Ok Made) = says (Started f.id) (record table { flattenings = table.flattenings ++ f ∷ [] })
start_outcome f table told = says (otherwise (temporary f).folder (temporary f).file told) table

-- The next serial is drawn, whatever the act tells.
abbrev pub Starts : ℕ → ℕ → Making → State → Reply → State → Type 0
Starts caller room makes old reply new =
    MakesAct (start_step (begun_flat old caller room makes)) (start_outcome (begun_flat old caller room makes) old.table) (drawn old) reply new

abbrev pub StartsFlat : ℕ → ℕ → State → Reply → State → Type 0
StartsFlat caller room old reply new = UnlessRefused (draw_check old room) old reply new (Starts caller room making.Flat old reply new)

pub record StartsPackOf (caller room host writer : ℕ) (old : State) (reply : Reply) (new : State) : Type 0 where
  pub named : IsHostAndWriter host writer
  pub makes : Starts caller room (making.Pack host writer) old reply new

abbrev pub StartsPack : ℕ → ℕ → ℕ → ℕ → State → Reply → State → Type 0
StartsPack caller room host writer old reply new = UnlessRefused (draw_check old room) old reply new (StartsPackOf caller room host writer old reply new)

-- The call is refused where the caller has no flattening of this id in this stage.
abbrev pub OnFlattening : ℕ → FlatStage → ℕ → State → Reply → State → (Flattening → Type 0) → Type 0
OnFlattening caller stage id old reply new does = MatchOption (flattening_of caller stage id old.table.flattenings)
    (Refuses NotOpen old reply new)
    does

-- the flattening in another stage, in place of itself
abbrev pub come_to : FlatStage → Flattening → Table → Table
come_to stage f table = record table { flattenings = with_flattening (record f { stage = stage }) table.flattenings }

-- the table without this flattening
abbrev pub drop_flat : ℕ → Table → Table
drop_flat id table = record table { flattenings = without_flattening id table.flattenings }

abbrev pub put_flat_step : Flattening → List ℕ → Step
put_flat_step f bytes = write_at f.room (temporary f).folder (temporary f).file 0 bytes

abbrev pub put_flat_outcome : Flattening → Table → Told → CallOutcome
put_flat_outcome f table (Ok Made) = says Done (come_to Put f table)
put_flat_outcome f table told = says (otherwise (temporary f).folder (temporary f).file told) table

abbrev pub PutsFlat : ℕ → ℕ → List ℕ → State → Reply → State → Type 0
PutsFlat caller flat bytes old reply new = OnFlattening caller Begun flat old reply new (λ f.
    MakesAct (put_flat_step f bytes) (put_flat_outcome f old.table) old reply new)

abbrev pub sync_flat_step : Flattening → Step
sync_flat_step f = sync f.room (temporary f).folder (temporary f).file

abbrev pub sync_flat_outcome : Flattening → Table → Told → CallOutcome
sync_flat_outcome f table (Ok Made) = says Done (come_to Synced f table)
sync_flat_outcome f table told = says (otherwise (temporary f).folder (temporary f).file told) table

abbrev pub SyncsFlat : ℕ → ℕ → State → Reply → State → Type 0
SyncsFlat caller flat old reply new = OnFlattening caller Put flat old reply new (λ f.
    MakesAct (sync_flat_step f) (sync_flat_outcome f old.table) old reply new)

abbrev pub install_step : Flattening → Step
install_step f = replace f.room (temporary f).folder (temporary f).file (installed f).file

-- after a fault too the flattening is at its end
abbrev pub install_outcome : Flattening → Table → Told → CallOutcome
install_outcome f table (Ok Made) = says Done (drop_flat f.id table)
install_outcome f table (Err trouble.Fault) = says Fault (drop_flat f.id table)
install_outcome f table told = says (otherwise (temporary f).folder (temporary f).file told) table

abbrev pub InstallsFlat : ℕ → ℕ → State → Reply → State → Type 0
InstallsFlat caller flat old reply new = OnFlattening caller Synced flat old reply new (λ f.
    MakesAct (install_step f) (install_outcome f old.table) old reply new)
