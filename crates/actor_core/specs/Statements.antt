-- What each statement does.
use Rattle.std.specs.Prelude.{Bool, true, false, if◌then◌else◌, Option, None}
use Rattle.mount_model.specs.Process.{asks}
use Rattle.mount_model.specs.Running.{unbroken}
use Rattle.mount_model.specs.declared.call.Call.TheVariants.{Greet}
use Rattle.script_lang.specs.declared.script.Statement.{Statement}
use Rattle.script_lang.specs.declared.script.Statement.TheVariants.{Open, Write, Sync, Close, Ropen, Read, Verify, Map, Refresh, Rclose, Stat, Flatten, Recover, Trunc, Rename, Ls, Stop as Arms}
use Rattle.actor_core.specs.declared.kept.Stop.{Stop}
use Rattle.actor_core.specs.declared.kept.Kept.{Kept}
use Rattle.outcomes.specs.Data.{bytes_of}
use Rattle.actor_core.specs.Endings.{gone, armed}
use Rattle.actor_core.specs.Work.{Work, finishes}
use Rattle.actor_core.specs.Writers.{opens, writes, syncs, closes}
use Rattle.actor_core.specs.Readers.{opens_reader, reads, verifies, maps, refreshes, closes_reader}
use Rattle.actor_core.specs.Telling.{tells_of_file}
use Rattle.actor_core.specs.ByName.{truncates_file, renames_file, recovers_file, flattens_file, lists_names}

-- the statements whose calls owe nothing of the mount's state
abbrev pub is_harmless_statement : Statement → Bool
is_harmless_statement (Flatten name) = false
is_harmless_statement (Recover name) = false
is_harmless_statement (Trunc name size) = false
is_harmless_statement other = true

-- the statement of an actor that keeps this, where a stop may be armed for it
abbrev pub does : Kept → Option Stop → Statement → Work
does kept stop (Open name) = opens kept stop name kept.writer
does kept stop (Write at content) = writes kept stop at (bytes_of content) kept.writer
does kept stop Sync = syncs kept stop kept.writer
does kept stop Close = closes kept stop kept.writer
does kept stop (Ropen name workers) = opens_reader kept stop name workers kept.reader
does kept stop (Read at len) = reads kept stop at len kept.reader
does kept stop (Verify at content) = verifies kept stop at content kept.reader
does kept stop Map = maps kept kept.reader
does kept stop Refresh = refreshes kept stop kept.reader
does kept stop Rclose = closes_reader kept kept.reader
does kept stop (Stat name) = tells_of_file kept stop name
does kept stop (Trunc name size) = truncates_file kept stop name size
does kept stop (Rename name to) = renames_file kept stop name to
does kept stop (Recover name) = recovers_file kept stop name
does kept stop Ls = lists_names kept stop
does kept stop (Arms call bytes) = finishes (armed kept (record { call = call; bytes = bytes }))
does kept stop (Flatten name) = flattens_file kept stop name

-- an armed stop serves one statement
abbrev pub disarmed : Kept → Kept
disarmed kept = record kept { armed = None }

-- a statement of an actor that has greeted: one that was stopped makes no call
abbrev pub greeted_work : Kept → Statement → Work
greeted_work kept statement = if kept.gone then finishes (gone kept) else does (disarmed kept) kept.armed statement

abbrev pub greeted : Kept → Kept
greeted kept = record kept { greeted = true }

-- an actor greets before its first statement
abbrev pub work_of : Kept → Statement → Work
work_of kept statement =
    if kept.greeted
    then greeted_work kept statement
    else asks (unbroken Greet) (λ reply. greeted_work (greeted kept) statement)
