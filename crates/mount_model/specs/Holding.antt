-- A caller holds a container, so that no writer enters it: for a truncate, or for another name.
use Rattle.std.specs.Prelude.{◌≡◌, ◌⊎◌, ℕ, ◌^◌, ◌<◌, List, [], ◌∷◌, ◌++◌, nat_le, nat_lt, Option, Some, None, Ok, Err, MatchOption, if◌then◌else◌}
use Rattle.plfs_types.specs.declared.limits.TheConstants.{MAX_SIZE, MAX_STAMP}
use Rattle.plfs_types.specs.Names.{IsLogicalName}
use Rattle.plfs_types.specs.Stamps.{next_stamp}
use Rattle.container_layout.specs.declared.items.Item.TheVariants.{OpenHost}
use Rattle.container_layout.specs.Paths.{IsIn}
use Rattle.edge_io.specs.Clock.{Ticks}
use Rattle.store_api.specs.declared.step.Answer.TheVariants.{Made, Old, NoFolder, NotEmpty, TargetThere}
use Rattle.store_api.specs.declared.store.Trouble.TheVariants as trouble
use Rattle.store_api.specs.Step.{Step, create, make_folder, remove_folder, rename_room}
use Rattle.store_api.specs.Acts.{Acts}
use Rattle.mount_model.specs.declared.row.Holder.{Holder}
use Rattle.mount_model.specs.declared.reply.Reply.{Reply}
use Rattle.mount_model.specs.declared.reply.Reply.TheVariants.{Holding, Marked, Done, Refused, Damaged, Fault}
use Rattle.mount_model.specs.declared.reply.Refusal.{Refusal}
use Rattle.mount_model.specs.declared.reply.Refusal.TheVariants.{Held, Busy, Exists, NotHolder, TooFar, StampsSpent}
use Rattle.mount_model.specs.Paths.{Name, truncs, trunc_path}
use Rattle.container_layout.specs.Paths.{openhosts}
use Rattle.mount_model.specs.Table.{holder_of, without_holder}
use Rattle.mount_model.specs.State.{State, Table, drawn, timed}
use Rattle.mount_model.specs.Making.{Told, CallOutcome, says, otherwise, MakesAct, Refuses, UnlessRefused}
use Rattle.mount_model.specs.Entering.{draw_check, next_id}

-- ---- a container is held

abbrev pub hold_step : ℕ → Step
hold_step room = remove_folder room openhosts

-- who holds the room once the next serial is drawn
abbrev pub holding : State → ℕ → ℕ → Holder
holding old caller room = record { number = next_id old; owner = caller; room = room }

-- the name is no writer's entry
abbrev pub IsNoWriters : Name → Type 0
IsNoWriters name = (host writer : ℕ) → IsIn openhosts name (OpenHost host writer) → ⊥

-- what is answered where this name is the least one in the folder of who has the container open
abbrev pub NotEmptyReply : Name → Reply → Type 0
NotEmptyReply least reply =
    ((host : ℕ) × (writer : ℕ) × IsIn openhosts least (OpenHost host writer) × (reply ≡ Refused (Busy host writer)))
    ⊎ (IsNoWriters least × (reply ≡ Damaged openhosts least))

-- what is answered to what the store told of the folder, and the table then
abbrev pub HoldOutcome : Holder → Table → Told → Reply → Table → Type 0
HoldOutcome h table (Ok Made) reply after = (reply ≡ Holding h.number) × (after ≡ record table { holders = table.holders ++ h ∷ [] })
HoldOutcome h table (Ok NoFolder) reply after = (reply ≡ Refused Held) × (after ≡ table)
HoldOutcome h table (Ok (NotEmpty least)) reply after = NotEmptyReply least reply × (after ≡ table)
HoldOutcome h table told reply after = (reply ≡ otherwise openhosts [] told) × (after ≡ table)

-- Where it isn't refused, the next serial is drawn, whatever the act tells.
pub record HoldsRoom (caller room : ℕ) (old : State) (reply : Reply) (new : State) : Type 0 where
  pub told : Told
  pub made : Acts (hold_step room) old.store new.store told
  pub outcome : HoldOutcome (holding old caller room) old.table told reply new.table
  pub after : new ≡ record (drawn old) { store = new.store; table = new.table }

abbrev pub HoldsContainer : ℕ → ℕ → State → Reply → State → Type 0
HoldsContainer caller room old reply new = UnlessRefused (draw_check old room) old reply new (HoldsRoom caller room old reply new)

-- The call is refused where the caller has no hold of this number.
abbrev pub OnHolder : ℕ → ℕ → State → Reply → State → (Holder → Type 0) → Type 0
OnHolder caller number old reply new does = MatchOption (holder_of caller number old.table.holders)
    (Refuses NotHolder old reply new)
    does

-- ---- a truncate

abbrev pub truncate_check : ℕ → ℕ → Option Refusal
truncate_check size top =
    if nat_lt MAX_SIZE size then Some TooFar
    else if nat_le MAX_STAMP top then Some StampsSpent
    else None

-- the truncate's stamp at this time
abbrev pub truncate_stamp : ℕ → ℕ → ℕ
truncate_stamp time top = next_stamp time top top

abbrev pub truncate_step : Holder → ℕ → ℕ → Step
truncate_step h stamp size = create h.room truncs (trunc_path stamp size).file

abbrev pub truncate_outcome : ℕ → ℕ → Table → Told → CallOutcome
truncate_outcome stamp size table (Ok Made) = says (Marked stamp) table
truncate_outcome stamp size table told = says (otherwise truncs (trunc_path stamp size).file told) table

-- The clock is asked, and then the act is made.
pub record TruncatesAt (h : Holder) (size top : ℕ) (old : State) (reply : Reply) (new : State) : Type 0 where
  pub time : ℕ
  pub times : Option (List ℕ)
  pub in_range : time < 2 ^ 64
  pub ticks : Ticks old.times times time
  pub makes : MakesAct (truncate_step h (truncate_stamp time top) size) (truncate_outcome (truncate_stamp time top) size old.table) (timed times old) reply new

abbrev pub Truncates : ℕ → ℕ → ℕ → ℕ → State → Reply → State → Type 0
Truncates caller holder size top old reply new = OnHolder caller holder old reply new (λ h.
    UnlessRefused (truncate_check size top) old reply new (TruncatesAt h size top old reply new))

-- ---- another name

abbrev pub rename_step : Holder → Name → Step
rename_step h to = rename_room h.room to

abbrev pub rename_outcome : Table → Told → CallOutcome
rename_outcome table (Ok Made) = says Done table
rename_outcome table (Ok TargetThere) = says (Refused Exists) table
rename_outcome table told = says (otherwise [] [] told) table

pub record RenamesRoom (h : Holder) (to : Name) (old : State) (reply : Reply) (new : State) : Type 0 where
  pub named : IsLogicalName to
  pub makes : MakesAct (rename_step h to) (rename_outcome old.table) old reply new

abbrev pub Renames : ℕ → ℕ → Name → State → Reply → State → Type 0
Renames caller holder to old reply new = OnHolder caller holder old reply new (λ h. RenamesRoom h to old reply new)

-- ---- it is let go

abbrev pub release_step : Holder → Step
release_step h = make_folder h.room openhosts

-- the table without this holder
abbrev pub let_go : ℕ → Table → Table
let_go number table = record table { holders = without_holder number table.holders }

-- after a fault too nobody holds the room by this number any more
abbrev pub release_outcome : Holder → Table → Told → CallOutcome
release_outcome h table (Ok Made) = says Done (let_go h.number table)
release_outcome h table (Ok (Old room)) = says Done (let_go h.number table)
release_outcome h table (Err trouble.Fault) = says Fault (let_go h.number table)
release_outcome h table told = says (otherwise openhosts [] told) table

abbrev pub Releases : ℕ → ℕ → State → Reply → State → Type 0
Releases caller holder old reply new = OnHolder caller holder old reply new (λ h.
    MakesAct (release_step h) (release_outcome h old.table) old reply new)
