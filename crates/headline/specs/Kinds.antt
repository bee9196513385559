-- Which lines a statement can have.
use Rattle.std.specs.Prelude.{⊤}
use Rattle.script_lang.specs.declared.line.Outcome.{Outcome}
use Rattle.script_lang.specs.declared.line.Outcome.TheVariants as line
use Rattle.script_lang.specs.declared.script.Statement.{Statement}
use Rattle.script_lang.specs.declared.script.Statement.TheVariants.{Close, Flatten, Ls, Map, Open, Read, Recover, Refresh, Rename, Rclose, Ropen, Stat, Stop, Sync, Trunc, Verify, Write}

-- the line of one that was carried out, but for a stop, a fault and a refusal; none tells of damage
abbrev pub IsOfKind : Statement → Outcome → Type 0
IsOfKind (Open name) (line.Opened id) = ⊤
IsOfKind (Write at content) (line.Wrote place len stamp) = ⊤
IsOfKind Sync (line.Synced count) = ⊤
IsOfKind Close (line.Closed count) = ⊤
IsOfKind (Ropen name workers) (line.Reader size cut truncs) = ⊤
IsOfKind (Read at len) (line.Read place content) = ⊤
IsOfKind (Verify at content) line.Same = ⊤
IsOfKind (Verify at content) (line.Differs place) = ⊤
IsOfKind Map (line.Map pieces) = ⊤
IsOfKind Refresh (line.Reader size cut truncs) = ⊤
IsOfKind Rclose line.ReaderClosed = ⊤
IsOfKind (Stat name) (line.Stat size stored shares truncs) = ⊤
IsOfKind (Flatten name) (line.Flattened id many cut) = ⊤
IsOfKind (Recover name) (line.Recovered buried alive hold) = ⊤
IsOfKind (Trunc name size) (line.Truncated stamp) = ⊤
IsOfKind (Rename name to) line.Renamed = ⊤
IsOfKind Ls (line.Listed names) = ⊤
IsOfKind (Stop call bytes) line.Armed = ⊤
IsOfKind statement line.Stopped = ⊤
IsOfKind statement line.Gone = ⊤
IsOfKind statement line.Fault = ⊤
IsOfKind statement (line.Refused because) = ⊤
IsOfKind statement outcome = ⊥
