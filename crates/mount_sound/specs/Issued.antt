-- How the ledger grows along a history.
use Rattle.std.specs.Prelude.{ℕ, List, [], ◌∷◌, ◌++◌, length, Option, Some, None, ◌==◌, ◌&&◌, if◌then◌else◌}
use Rattle.mount_model.specs.declared.row.Row.{Row}
use Rattle.mount_model.specs.declared.call.Call.{Call}
use Rattle.mount_model.specs.declared.call.Call.TheVariants.{Write}
use Rattle.mount_model.specs.declared.reply.Reply.{Reply}
use Rattle.mount_model.specs.declared.reply.Reply.TheVariants.{Wrote}
use Rattle.mount_model.specs.State.{State}
use Rattle.mount_model.specs.Table.{row_of}
use Rattle.mount_model.specs.Writing.{entry_of}
use Rattle.mount_model.specs.History.{Event}
use Rattle.mount_sound.specs.Ledger.{Written, Ledger}

-- the ledger with one more write of that writer
abbrev pub with_write : Ledger → Row → Written → Ledger
with_write issued row w room writer = if room == row.room && writer == row.id then issued room writer ++ w ∷ [] else issued room writer

abbrev pub written_by : Row → ℕ → ℕ → List ℕ → Written
written_by row stamp at bytes = record { entry = entry_of stamp row at (length bytes); bytes = bytes }

abbrev pub noted_by : Ledger → Option Row → ℕ → ℕ → List ℕ → Ledger
noted_by issued None stamp at bytes = issued
noted_by issued (Some row) stamp at bytes = with_write issued row (written_by row stamp at bytes)

abbrev pub noted : Ledger → Option Row → ℕ → List ℕ → Reply → Ledger
noted issued row at bytes (Wrote stamp) = noted_by issued row stamp at bytes
noted issued row at bytes reply = issued

-- the ledger after a call: a write that was answered so is issued
abbrev pub issued_after : Ledger → State → Call → Reply → Ledger
issued_after issued before (Write writer at block) reply = noted issued (row_of writer before.table.writers) at block reply
issued_after issued before call reply = issued

-- the writes that were issued before the events or in them
abbrev pub issued : Ledger → State → List Event → Ledger
issued before start [] = before
issued before start (event ∷ events) = issued (issued_after before start event.ask.call event.reply) event.after events
