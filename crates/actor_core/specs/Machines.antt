-- The one machine of a statement, which makes all of its calls.
use Rattle.std.specs.Prelude.{◌≡◌, ℕ, Option, Some, None, true, false}
use Rattle.mount_model.specs.Standing.{rest_of, IsOver}
use Rattle.mount_model.specs.declared.call.Call.{Call}
use Rattle.writer_flow.specs.OpeningStages.{open_standing}
use Rattle.writer_flow.specs.WritingStages.{write_standing}
use Rattle.writer_flow.specs.SyncingStages.{sync_standing}
use Rattle.writer_flow.specs.ClosingStages.{close_standing}
use Rattle.index_reader.specs.ReadingStages.{read_standing}
use Rattle.trunc_rename.specs.TruncateStages.{truncate_standing}
use Rattle.trunc_rename.specs.RenameStages.{rename_standing}
use Rattle.flatten_core.specs.FlattenStages.{flatten_standing}
use Rattle.torn_tail.specs.Stages.{recover_standing}
use Rattle.refresh_index.specs.RefreshStages.{refresh_standing}
use Rattle.actor_core.specs.declared.kept.Stop.{Stop}
use Rattle.actor_core.specs.declared.kept.Kept.{Kept}
use Rattle.actor_core.specs.declared.doing.Doing.{Doing}
use Rattle.actor_core.specs.declared.doing.Doing.TheVariants.{Known, Opening, Writing, Syncing, Closing, Listing, Gathering, Reading, Verifying, Telling, Truncating, Renaming, Recovering, Refreshing, Naming, Flattening}
use Rattle.actor_core.specs.declared.actor.State.{State}
use Rattle.actor_core.specs.declared.actor.State.TheVariants.{Working}
use Rattle.actor_core.specs.Stopping.{stoppable}
use Rattle.actor_core.specs.Naming.{names_standing}
use Rattle.actor_core.specs.Progress.{IsReady, ask_of, given}
use Rattle.actor_core.specs.Standings.{busy, doing_ready, doing_asked}

-- the statement is at its end with this machine, unlike one that is gathered
abbrev pub IsOneMachine : Doing → Type 0
IsOneMachine (Known outcome) = ⊥
IsOneMachine (Listing flow purpose) = ⊥
IsOneMachine (Gathering flow purpose) = ⊥
IsOneMachine (Telling flow) = ⊥
IsOneMachine _ = Unit {0}

-- it is, and its machine is at its own end
abbrev pub IsAtEnd : Doing → Type 0
IsAtEnd (Opening flow) = IsOver (rest_of (open_standing flow))
IsAtEnd (Writing flow at len) = IsOver (rest_of (write_standing flow))
IsAtEnd (Syncing flow) = IsOver (rest_of (sync_standing flow))
IsAtEnd (Closing flow) = IsOver (rest_of (close_standing flow))
IsAtEnd (Reading flow at) = IsOver (rest_of (read_standing flow))
IsAtEnd (Verifying flow at content) = IsOver (rest_of (read_standing flow))
IsAtEnd (Truncating flow) = IsOver (rest_of (truncate_standing flow))
IsAtEnd (Flattening flow) = IsOver (rest_of (flatten_standing flow.value))
IsAtEnd (Renaming flow) = IsOver (rest_of (rename_standing flow))
IsAtEnd (Recovering flow) = IsOver (rest_of (recover_standing flow))
IsAtEnd (Refreshing flow) = IsOver (rest_of (refresh_standing flow.value))
IsAtEnd (Naming flow) = IsOver (rest_of (names_standing flow))
IsAtEnd _ = ⊥

-- Its next call is the actor's, and is out then; or without one it is as it was, and at its end.
abbrev pub GoesOn : Doing → Option Call → Doing → Type 0
GoesOn old (Some call) new =
    (number : ℕ) (kept : Kept) (stop : Option Stop) → IsReady (busy number (doing_ready kept stop old))
    → (Some (stoppable stop call) ≡ ask_of (busy number (doing_ready kept stop old)))
    × (busy number (doing_asked kept stop new) ≡ given (busy number (doing_ready kept stop old)))
GoesOn old None new =
    (number : ℕ) (kept : Kept) (stop : Option Stop) → IsReady (busy number (doing_ready kept stop old))
    → IsAtEnd new × (doing_ready kept stop new ≡ doing_ready kept stop old)

-- a statement with one machine is at work, and its next call is to be made
abbrev pub IsOneReady : State → Type 0
IsOneReady (Working doing false) = IsOneMachine doing
IsOneReady _ = ⊥

-- it is, and its machine is at its own end
abbrev pub IsOneOver : State → Type 0
IsOneOver (Working doing false) = IsAtEnd doing
IsOneOver _ = ⊥

-- Its machine goes on so, and its call is out exactly where there is one.
abbrev pub WorkGoesOn : State → Option Call → State → Type 0
WorkGoesOn (Working old _) (Some call) (Working new true) = GoesOn old (Some call) new
WorkGoesOn (Working old _) None (Working new false) = GoesOn old None new
WorkGoesOn _ _ _ = ⊥
