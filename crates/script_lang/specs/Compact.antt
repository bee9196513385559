-- What lists keep of statements and lines.
use Rattle.std.specs.Prelude.{Option, Some, None}
use Rattle.script_lang.specs.declared.line.Outcome.{Outcome}
use Rattle.script_lang.specs.declared.line.Outcome.TheVariants as outcome
use Rattle.script_lang.specs.declared.line.Mishap.{Mishap}
use Rattle.script_lang.specs.declared.line.Mishap.TheVariants as mishap
use Rattle.script_lang.specs.declared.line.MadeWrite.{MadeWrite}
use Rattle.script_lang.specs.declared.line_list.Brief.{Brief}
use Rattle.script_lang.specs.declared.line_list.Brief.TheVariants as brief
use Rattle.script_lang.specs.declared.line_list.KeptOutcome.{KeptOutcome}
use Rattle.script_lang.specs.declared.line_list.KeptOutcome.TheVariants.{Brief as Short, Apart as Long}
use Rattle.script_lang.specs.declared.line_list.Seen.{Seen}
use Rattle.script_lang.specs.declared.line_list.Seen.TheVariants.{Made, Lent}
use Rattle.script_lang.specs.declared.script.Statement.{Statement}
use Rattle.script_lang.specs.declared.script.Statement.TheVariants as statement
use Rattle.script_lang.specs.declared.statement_list.KeptStatement.{KeptStatement}
use Rattle.script_lang.specs.declared.statement_list.KeptStatement.TheVariants as compact

-- the statement that a list keeps so
abbrev pub statement_kept : KeptStatement → Statement
statement_kept (compact.Write at content) = statement.Write at content
statement_kept compact.Sync = statement.Sync
statement_kept compact.Close = statement.Close
statement_kept (compact.Read at len) = statement.Read at len
statement_kept (compact.Verify at content) = statement.Verify at content
statement_kept compact.Map = statement.Map
statement_kept compact.Refresh = statement.Refresh
statement_kept compact.Rclose = statement.Rclose
statement_kept compact.Ls = statement.Ls
statement_kept (compact.Stop call bytes) = statement.Stop call bytes
statement_kept (compact.Apart kept) = kept.value

abbrev pub brief_outcome : Brief → Outcome
brief_outcome (brief.Opened writer) = outcome.Opened writer
brief_outcome (brief.Wrote at len stamp) = outcome.Wrote at len (Some stamp)
brief_outcome (brief.Synced landed) = outcome.Synced landed
brief_outcome (brief.Closed landed) = outcome.Closed landed
brief_outcome brief.Same = outcome.Same
brief_outcome (brief.Differs place) = outcome.Differs place
brief_outcome brief.ReaderClosed = outcome.ReaderClosed
brief_outcome (brief.Truncated stamp) = outcome.Truncated stamp
brief_outcome brief.Renamed = outcome.Renamed
brief_outcome brief.Armed = outcome.Armed
brief_outcome brief.Stopped = outcome.Stopped
brief_outcome brief.Gone = outcome.Gone
brief_outcome (brief.Refused why) = outcome.Refused why
brief_outcome brief.Fault = outcome.Fault

-- the outcome that a list keeps so
abbrev pub outcome_kept : KeptOutcome → Outcome
outcome_kept (Short kept) = brief_outcome kept
outcome_kept (Long kept) = kept.value

-- the outcome that is looked at
abbrev pub outcome_seen : Seen → Outcome
outcome_seen (Made made) = made
outcome_seen (Lent lent) = lent.now

-- what went wrong with a statement, if anything did
abbrev pub mishap_of : Outcome → Option Mishap
mishap_of (outcome.Refused why) = Some mishap.Refused
mishap_of outcome.Fault = Some mishap.Fault
mishap_of (outcome.Damaged folder file place) = Some mishap.Damaged
mishap_of _ = None

-- the write that was made, if it was one and it has a stamp
abbrev pub made_write_of : Outcome → Option MadeWrite
made_write_of (outcome.Wrote at len (Some stamp)) = Some (record { at = at; len = len; stamp = stamp })
made_write_of _ = None
