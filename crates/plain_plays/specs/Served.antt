-- How statements on a writer end where nothing fails: each is served, or refused for its reason.
use Rattle.std.specs.Prelude.{◌≡◌, ◌≢◌, ◌+◌, ℕ, ◌||◌, nat_le, nat_lt, true, List, [], ◌∷◌, Option, Some, None, Result, Ok, Err, MatchOption, if◌then◌else◌}
use Rattle.plfs_types.specs.declared.limits.TheConstants.{MAX_LOG, MAX_SIZE, MAX_STAMP}
use Rattle.mount_model.specs.declared.call.Call.TheVariants.{Exit, PutMeta}
use Rattle.mount_model.specs.declared.reply.Refusal.{Refusal}
use Rattle.mount_model.specs.declared.reply.Refusal.TheVariants.{StampsSpent, TooFar}
use Rattle.mount_model.specs.declared.reply.Reply.TheVariants.{Done, Fault, NoMemory}
use Rattle.mount_model.specs.declared.row.Row.{Row}
use Rattle.mount_model.specs.declared.row.Stage.TheVariants as stage
use Rattle.mount_model.specs.History.{Event}
use Rattle.mount_model.specs.State.{State}
use Rattle.mount_model.specs.Table.{only}
use Rattle.mount_model.specs.declared.stuck.Stuck.{Stuck}
use Rattle.mount_model.specs.declared.stuck.Stuck.TheVariants as stuck
use Rattle.plain_plays.specs.Calls.{HasCalled}
use Rattle.writer_flow.specs.declared.handle.WriterOut.{WriterOut}
use Rattle.writer_flow.specs.Ending.{gone_with}
use Rattle.writer_laws.specs.Knowing.{HasRow}

-- no call of this caller met a fault, and none was refused memory
abbrev pub GoesWell : ℕ → List Event → Type 0
GoesWell caller [] = Unit {0}
GoesWell caller (event ∷ events) = (event.caller ≡ caller → (event.reply ≢ Fault) × (event.reply ≢ NoMemory)) × GoesWell caller events

-- the caller has this writer open
pub record HasOpen (caller writer : ℕ) (row : Row) (state : State) : Type 0 where
  pub has : HasRow caller writer row state
  pub is_open : only stage.Open row.stage ≡ true

-- a machine on a writer ended well, and told a number
abbrev pub EndsWell : Result ℕ Stuck → Type 0
EndsWell result = (number : ℕ) × (result ≡ Ok number)

-- Why a write of so many bytes at this place is refused. It would end too far, in the file or in the writer's log; or else no stamp is left.
abbrev pub write_reason : Row → ℕ → ℕ → Option Refusal
write_reason row at len =
    if nat_lt MAX_SIZE (at + len) || nat_lt MAX_LOG (row.stored + len) then Some TooFar
    else if nat_le MAX_STAMP row.last || nat_le MAX_STAMP row.floor then Some StampsSpent
    else None

-- the write is made where there is no reason against it, and else refused for that
abbrev pub EndsAsItMay : Row → ℕ → ℕ → Result ℕ Stuck → Type 0
EndsAsItMay row at len result = MatchOption (write_reason row at len) (EndsWell result) (λ why. result ≡ Err (stuck.Refused why))

-- A close ended well: its metadata dropping was made, and the writer left the open ones. It tells how much has landed.
pub record ClosesWell (caller writer : ℕ) (events : List Event) (out : WriterOut) : Type 0 where
  pub landed : ℕ
  pub is : out ≡ gone_with (Ok landed)
  pub told_of : HasCalled caller (PutMeta writer) Done events
  pub left : HasCalled caller (Exit writer) Done events
