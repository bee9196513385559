-- Why a step failed, of all that its calls told.
use Rattle.std.specs.Prelude.{◌≡◌, ◌⊎◌, Option, Some, None, Result, Ok, Err}
use Rattle.std.specs.declared.io.Error.{Error}
use Rattle.folder_calls.specs.declared.failure.Failure.{Failure}
use Rattle.folder_calls.specs.declared.failure.Failure.TheVariants.{Failed, NoMemory}
use Rattle.folder_calls.specs.declared.reason.Asked.{Asked}
use Rattle.folder_calls.specs.declared.reason.Asked.TheVariants.{Look, List as Listing, Open}
use Rattle.folder_calls.specs.declared.reason.Doubt.{Doubt}
use Rattle.folder_calls.specs.declared.reason.Kind.{Kind}
use Rattle.folder_calls.specs.declared.reason.Reason.{Reason}
use Rattle.folder_calls.specs.declared.reason.Reason.TheVariants.{System, Found, Unnameable, Unsynced, Overwrites}

-- the first failure of the system, or what was told last where there is none
abbrev pub noted : Option Reason → Reason → Option Reason
noted (Some (System asked error)) reason = Some (System asked error)
noted (Some (Found kind)) reason = Some reason
noted (Some Unnameable) reason = Some reason
noted (Some (Unsynced doubt)) reason = Some reason
noted (Some Overwrites) reason = Some reason
noted None reason = Some reason

-- the system failed what it was asked for, and that is told behind what was told before
abbrev pub IsBlamed : Asked → Option Reason → Option Reason → Type 0
IsBlamed asked before after = (error : Error) × (after ≡ noted before (System asked error))

-- a call tells why it failed, and nothing where it succeeded
abbrev pub Tells : {A : Type 0} → Asked → Option Reason → Option Reason → Result A Failure → Type 0
Tells asked before after (Ok value) = after ≡ before
Tells asked before after (Err failure) = IsBlamed asked before after

-- a look tells also what it found
abbrev pub TellsLook : Option Reason → Option Reason → Result Kind Failure → Type 0
TellsLook before after (Ok kind) = after ≡ noted before (Found kind)
TellsLook before after (Err failure) = IsBlamed Look before after

-- a listing tells nothing of want of memory
abbrev pub TellsFailedList : Option Reason → Option Reason → Failure → Type 0
TellsFailedList before after Failed = IsBlamed Listing before after
TellsFailedList before after NoMemory = after ≡ before

abbrev pub TellsList : {A : Type 0} → Option Reason → Option Reason → Result A Failure → Type 0
TellsList before after (Ok names) = after ≡ before
TellsList before after (Err failure) = TellsFailedList before after failure

-- an opening tells also what it found in place of a plain file
abbrev pub TellsOpening : {A : Type 0} → Option Reason → Option Reason → Result A Failure → Type 0
TellsOpening before after (Ok found) = after ≡ before
TellsOpening before after (Err failure) = IsBlamed Open before after ⊎ ((kind : Kind) × (after ≡ noted before (Found kind)))

-- why a sync failed, of what was told in its step
abbrev pub doubt_by : Option Reason → Doubt
doubt_by (Some (System asked error)) = record { error = Some error }
doubt_by (Some (Found kind)) = record { error = None }
doubt_by (Some Unnameable) = record { error = None }
doubt_by (Some (Unsynced doubt)) = doubt
doubt_by (Some Overwrites) = record { error = None }
doubt_by None = record { error = None }
