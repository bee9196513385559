-- The ranges of the numbers of a line.
use Rattle.std.specs.Prelude.{ℕ, ◌≤◌, ◌<◌, ◌^◌, List, length, IfSome}
use Rattle.std.specs.List.{AllByRecursion}
use Rattle.plfs_types.specs.declared.entries.Entry.{Entry}
use Rattle.plfs_types.specs.declared.entries.Trunc.{Trunc}
use Rattle.plfs_types.specs.declared.entries.WriterCount.{WriterCount}
use Rattle.plfs_types.specs.declared.entries.ShareBytes.{ShareBytes}
use Rattle.script_lang.specs.declared.line.Line.{Line}
use Rattle.script_lang.specs.declared.line.Outcome.{Outcome}
use Rattle.script_lang.specs.declared.line.Outcome.TheVariants.{Opened, Wrote, Synced, Closed, Reader, Read, Same, Differs, Map, ReaderClosed, Stat, Truncated, Renamed, Flattened, Recovered, Listed, Armed, Stopped, Gone, Refused, Fault, Damaged}
use Rattle.script_lang.specs.declared.line.Why.{Why}
use Rattle.script_lang.specs.declared.line.Why.TheVariants.{Busy}
use Rattle.report_text.specs.Text.{ListsLogicalNames}

-- a number of 64 bits
abbrev pub Is64 : ℕ → Type 0
Is64 n = n < 2 ^ 64

abbrev pub IsCount : WriterCount → Type 0
IsCount c = Is64 c.writer × Is64 c.count

abbrev pub IsShare : ShareBytes → Type 0
IsShare s = Is64 s.writer × Is64 s.bytes

abbrev pub IsTrunc : Trunc → Type 0
IsTrunc t = Is64 t.stamp × Is64 t.size

abbrev pub EntryFits : Entry → Type 0
EntryFits e = Is64 e.at × Is64 e.len × Is64 e.physical × Is64 e.stamp × Is64 e.writer

-- bytes, each below 256
abbrev pub AreBytes : List ℕ → Type 0
AreBytes bytes = AllByRecursion (λ b. b < 256) bytes

abbrev pub IsShortName : List ℕ → Type 0
IsShortName name = AreBytes name × (length name ≤ 96)

abbrev pub WhyHasWidths : Why → Type 0
WhyHasWidths (Busy host writer) = (host < 2 ^ 32) × Is64 writer
WhyHasWidths _ = Unit {0}

abbrev pub OutcomeFits : Outcome → Type 0
OutcomeFits (Opened writer) = Is64 writer
OutcomeFits (Wrote at len stamp) = Is64 at × Is64 len × IfSome stamp Is64
OutcomeFits (Synced landed) = Is64 landed
OutcomeFits (Closed landed) = Is64 landed
OutcomeFits (Reader size cut truncs) = Is64 size × AllByRecursion IsCount cut × AllByRecursion IsTrunc truncs
OutcomeFits (Read at content) = Is64 at × AreBytes content
OutcomeFits Same = Unit {0}
OutcomeFits (Differs place) = Is64 place
OutcomeFits (Map pieces) = AllByRecursion EntryFits pieces
OutcomeFits ReaderClosed = Unit {0}
OutcomeFits (Stat size stored shares truncs) = Is64 size × (stored < 2 ^ 128) × AllByRecursion IsShare shares × AllByRecursion IsTrunc truncs
OutcomeFits (Truncated stamp) = Is64 stamp
OutcomeFits Renamed = Unit {0}
OutcomeFits (Flattened flat pieces cut) = Is64 flat × Is64 pieces × AllByRecursion IsCount cut
OutcomeFits (Recovered buried alive hold) = AllByRecursion IsCount buried × AllByRecursion Is64 alive
OutcomeFits (Listed names) = Unit {0}
OutcomeFits Armed = Unit {0}
OutcomeFits Stopped = Unit {0}
OutcomeFits Gone = Unit {0}
OutcomeFits (Refused why) = WhyHasWidths why
OutcomeFits Fault = Unit {0}
OutcomeFits (Damaged folder file place) = IsShortName folder × IsShortName file × Is64 place

-- a line as the program has it, whose listed names are logical names
pub record IsLine (line : Line) : Type 0 where
  pub number_fits : Is64 line.number
  pub widths : OutcomeFits line.outcome
  pub logical : ListsLogicalNames line.outcome
