-- A caller lets its writer be.
use Rattle.std.specs.Prelude.{◌≡◌, ℕ, List, None}
use Rattle.std.specs.List.{All}
use Rattle.mount_model.specs.declared.call.Ask.{Ask}
use Rattle.mount_model.specs.declared.call.Call.{Call}
use Rattle.mount_model.specs.declared.call.Call.TheVariants.{Floor, MakeHostdir, MakeIndex, MakeLog, Write, Flush, SyncLog, SyncIndex, PutMeta, Exit}
use Rattle.mount_model.specs.History.{Event}

-- the call is on this writer
abbrev pub IsOn : ℕ → Call → Type 0
IsOn writer (Floor other) = other ≡ writer
IsOn writer (MakeHostdir other) = other ≡ writer
IsOn writer (MakeIndex other) = other ≡ writer
IsOn writer (MakeLog other) = other ≡ writer
IsOn writer (Write other at block) = other ≡ writer
IsOn writer (Flush other) = other ≡ writer
IsOn writer (SyncLog other) = other ≡ writer
IsOn writer (SyncIndex other) = other ≡ writer
IsOn writer (PutMeta other) = other ≡ writer
IsOn writer (Exit other) = other ≡ writer
IsOn writer call = ⊥

-- the call is not on this writer, and is not broken off
abbrev pub LeavesAlone : ℕ → Ask → Type 0
LeavesAlone writer ask = (ask.stop ≡ None) × (IsOn writer ask.call → ⊥)

-- in these events the caller makes no call on this writer, and none that is broken off
abbrev pub LetsBe : ℕ → ℕ → List Event → Type 0
LetsBe caller writer events = All (λ (event : Event). event.caller ≡ caller → LeavesAlone writer event.ask) events
