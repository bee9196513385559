-- How many of a writer's writes were answered Wrote.
use Rattle.std.specs.Prelude.{◌≢◌, ℕ, ◌+◌, List, [], ◌∷◌, length, ◌==◌, if◌then◌else◌}
use Rattle.mount_model.specs.declared.call.Call.{Call}
use Rattle.mount_model.specs.declared.call.Call.TheVariants.{Write, Exit}
use Rattle.mount_model.specs.declared.reply.Reply.{Reply}
use Rattle.mount_model.specs.declared.reply.Reply.TheVariants.{Wrote, Done}
use Rattle.mount_model.specs.declared.row.Row.{Row}
use Rattle.mount_model.specs.History.{Event}

-- one write, if the reply tells of one
abbrev pub wrote_count : Reply → ℕ
wrote_count (Wrote stamp) = 1
wrote_count reply = 0

-- the same of a call, if it is a write of this writer
abbrev pub wrote_by : ℕ → Call → Reply → ℕ
wrote_by writer (Write other at block) reply = if other == writer then wrote_count reply else 0
wrote_by writer call reply = 0

-- in these events
abbrev pub writes_told : ℕ → List Event → ℕ
writes_told writer [] = 0
writes_told writer (event ∷ events) = wrote_by writer event.ask.call event.reply + writes_told writer events

-- a writer's entries, landed or in its buffer
abbrev pub entry_count : Row → ℕ
entry_count row = row.landed + length row.pending.entries

-- the call does not take the writer out of the table
abbrev pub StaysInAt : ℕ → Call → Reply → Type 0
StaysInAt writer (Exit other) Done = other ≢ writer
StaysInAt writer call reply = Unit {0}

-- nor does one of these
abbrev pub StaysIn : ℕ → List Event → Type 0
StaysIn writer [] = Unit {0}
StaysIn writer (event ∷ events) = StaysInAt writer event.ask.call event.reply × StaysIn writer events
