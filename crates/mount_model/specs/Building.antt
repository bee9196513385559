-- The folder of a writer's droppings is made, then its index dropping and its log.
use Rattle.std.specs.Prelude.{ℕ, [], Ok}
use Rattle.container_layout.specs.Paths.{hostdir_of}
use Rattle.store_api.specs.declared.step.Answer.TheVariants.{Made, Old}
use Rattle.store_api.specs.Step.{Step, make_folder, create}
use Rattle.mount_model.specs.declared.row.Row.{Row}
use Rattle.mount_model.specs.declared.row.Stage.{Stage}
use Rattle.mount_model.specs.declared.row.Stage.TheVariants as stage
use Rattle.mount_model.specs.declared.reply.Reply.{Reply}
use Rattle.mount_model.specs.declared.reply.Reply.TheVariants.{Done}
use Rattle.mount_model.specs.Paths.{Name, index_path, log_path}
use Rattle.mount_model.specs.Table.{only, at_stage}
use Rattle.mount_model.specs.State.{State, Table, put}
use Rattle.mount_model.specs.Making.{Told, CallOutcome, says, otherwise, MakesAct, OnWriter}

-- the writer comes to this stage, also where what was to be made was there
abbrev pub build_outcome : Stage → Name → Name → Row → Table → Told → CallOutcome
build_outcome stage folder file row table (Ok Made) = says Done (put (at_stage stage row) table)
build_outcome stage folder file row table (Ok (Old room)) = says Done (put (at_stage stage row) table)
build_outcome stage folder file row table told = says (otherwise folder file told) table

abbrev pub hostdir_step : Row → Step
hostdir_step row = make_folder row.room (hostdir_of row.host)

abbrev pub MakesHostdir : ℕ → ℕ → State → Reply → State → Type 0
MakesHostdir caller writer old reply new = OnWriter caller (only stage.Floored) writer old reply new (λ row.
    MakesAct (hostdir_step row) (build_outcome stage.Housed (hostdir_of row.host) [] row old.table) old reply new)

abbrev pub index_step : Row → Step
index_step row = create row.room (hostdir_of row.host) (index_path row.host row.id).file

abbrev pub MakesIndex : ℕ → ℕ → State → Reply → State → Type 0
MakesIndex caller writer old reply new = OnWriter caller (only stage.Housed) writer old reply new (λ row.
    MakesAct (index_step row) (build_outcome stage.Indexed (hostdir_of row.host) (index_path row.host row.id).file row old.table) old reply new)

abbrev pub log_step : Row → Step
log_step row = create row.room (hostdir_of row.host) (log_path row.host row.id).file

abbrev pub MakesLog : ℕ → ℕ → State → Reply → State → Type 0
MakesLog caller writer old reply new = OnWriter caller (only stage.Indexed) writer old reply new (λ row.
    MakesAct (log_step row) (build_outcome stage.Open (hostdir_of row.host) (log_path row.host row.id).file row old.table) old reply new)
