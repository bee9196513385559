-- What reading an outcome gives.
use Rattle.std.specs.Prelude.{ℕ, ◌^◌, nat_lt, List, codes, if◌then◌else◌, Option, Some, None}
use Rattle.std.specs.Str.{bytes_eq}
use Rattle.script_lang.specs.declared.line.Line.{Line}
use Rattle.script_lang.specs.declared.line.Outcome.{Outcome}
use Rattle.script_lang.specs.declared.line.Outcome.TheVariants.{Opened, Wrote, Synced, Closed, Reader, Read, Same, Differs, Map, ReaderClosed, Stat, Truncated, Renamed, Flattened, Recovered, Listed, Armed, Stopped, Gone, Refused, Fault, Damaged}
use Rattle.script_lang.specs.declared.line.Why.{Why}
use Rattle.script_lang.specs.declared.line.Why.TheVariants.{NoFile, Held, Busy, Exists, TooFar, StampsSpent, IdsSpent, NotOpen, AlreadyOpen, MountsSpent}
use Rattle.report_text.specs.Reading.{◌>>=◌, cut, number_spelled, wide_at, number_field, behind_word, count_at, share_at, trunc_at, piece_at, short_at, list_at, list_field, stamp_spelled, content_at, yes_at, place_at}

unfoldable pub wrote_at : List ℕ → Option Outcome
wrote_at bytes = do
  at ← number_field bytes
  len ← number_field at.1
  stamp ← stamp_spelled len.1
  Some (Wrote at.0 len.0 stamp)

unfoldable pub reader_at : List ℕ → Option Outcome
reader_at bytes = do
  size ← number_field bytes
  behind_cut ← behind_word (codes "cut") size.1
  counts ← list_field count_at behind_cut
  behind_trunc ← behind_word (codes "trunc") counts.1
  truncs ← list_at 44 trunc_at behind_trunc
  Some (Reader size.0 counts.0 truncs)

unfoldable pub read_at : List ℕ → Option Outcome
read_at bytes = do
  at ← number_field bytes
  content ← content_at at.1
  Some (Read at.0 content)

unfoldable pub map_at : List ℕ → Option Outcome
map_at bytes = do
  pieces ← list_at 32 piece_at bytes
  Some (Map pieces)

unfoldable pub stat_at : List ℕ → Option Outcome
stat_at bytes = do
  size ← number_field bytes
  parts ← cut 32 size.1
  stored ← wide_at parts.0
  behind_by ← behind_word (codes "by") parts.1
  shares ← list_field share_at behind_by
  behind_trunc ← behind_word (codes "trunc") shares.1
  truncs ← list_at 44 trunc_at behind_trunc
  Some (Stat size.0 stored shares.0 truncs)

unfoldable pub flattened_at : List ℕ → Option Outcome
flattened_at bytes = do
  flat ← number_field bytes
  pieces ← number_field flat.1
  behind_cut ← behind_word (codes "cut") pieces.1
  counts ← list_at 44 count_at behind_cut
  Some (Flattened flat.0 pieces.0 counts)

unfoldable pub recovered_at : List ℕ → Option Outcome
recovered_at bytes = do
  buried ← list_field count_at bytes
  behind_alive ← behind_word (codes "alive") buried.1
  alive ← list_field number_spelled behind_alive
  behind_hold ← behind_word (codes "hold") alive.1
  hold ← yes_at behind_hold
  Some (Recovered buried.0 alive.0 hold)

unfoldable pub names_spelled : List ℕ → Option Outcome
names_spelled bytes = do
  names ← list_at 44 short_at bytes
  Some (Listed names)

unfoldable pub damaged_at : List ℕ → Option Outcome
damaged_at bytes = do
  parts ← cut 32 bytes
  place ← place_at parts.0
  number ← number_spelled parts.1
  Some (Damaged place.0 place.1 number)

unfoldable pub busy_at : List ℕ → Option Why
busy_at bytes = do
  rest ← behind_word (codes "busy") bytes
  host ← number_field rest
  writer ← number_spelled host.1
  if nat_lt host.0 (2 ^ 32) then Some (Busy host.0 writer) else None

unfoldable pub why_at : List ℕ → Option Why
why_at word =
    if bytes_eq word (codes "no-file") then Some NoFile
    else if bytes_eq word (codes "held") then Some Held
    else if bytes_eq word (codes "exists") then Some Exists
    else if bytes_eq word (codes "too-far") then Some TooFar
    else if bytes_eq word (codes "stamps-spent") then Some StampsSpent
    else if bytes_eq word (codes "ids-spent") then Some IdsSpent
    else if bytes_eq word (codes "not-open") then Some NotOpen
    else if bytes_eq word (codes "already-open") then Some AlreadyOpen
    else if bytes_eq word (codes "mounts-spent") then Some MountsSpent
    else busy_at word

-- an outcome of one word
unfoldable pub plain_at : List ℕ → Option Outcome
plain_at word =
    if bytes_eq word (codes "same") then Some Same
    else if bytes_eq word (codes "rclosed") then Some ReaderClosed
    else if bytes_eq word (codes "renamed") then Some Renamed
    else if bytes_eq word (codes "armed") then Some Armed
    else if bytes_eq word (codes "stopped") then Some Stopped
    else if bytes_eq word (codes "gone") then Some Gone
    else if bytes_eq word (codes "fault") then Some Fault
    else None

-- an outcome of a word and a number
unfoldable pub counted_at : List ℕ → List ℕ → Option Outcome
counted_at word bytes = do
  number ← number_spelled bytes
  if bytes_eq word (codes "open") then Some (Opened number)
      else if bytes_eq word (codes "synced") then Some (Synced number)
      else if bytes_eq word (codes "closed") then Some (Closed number)
      else if bytes_eq word (codes "differs") then Some (Differs number)
      else if bytes_eq word (codes "truncated") then Some (Truncated number)
      else None

-- an outcome of several words, by its first
unfoldable pub told_at : List ℕ → List ℕ → Option Outcome
told_at word bytes =
    if bytes_eq word (codes "wrote") then wrote_at bytes
    else if bytes_eq word (codes "reader") then reader_at bytes
    else if bytes_eq word (codes "read") then read_at bytes
    else if bytes_eq word (codes "map") then map_at bytes
    else if bytes_eq word (codes "stat") then stat_at bytes
    else if bytes_eq word (codes "flattened") then flattened_at bytes
    else if bytes_eq word (codes "recovered") then recovered_at bytes
    else if bytes_eq word (codes "ls") then names_spelled bytes
    else if bytes_eq word (codes "damaged") then damaged_at bytes
    else if bytes_eq word (codes "refused") then (why_at bytes >>= λ why. Some (Refused why))
    else counted_at word bytes

unfoldable pub by_words : List ℕ → Option (List ℕ × List ℕ) → Option Outcome
by_words bytes None = plain_at bytes
by_words bytes (Some parts) = told_at parts.0 parts.1

unfoldable pub outcome_at : List ℕ → Option Outcome
outcome_at bytes = by_words bytes (cut 32 bytes)

-- a line without its line feed
unfoldable pub line_at : List ℕ → Option Line
line_at bytes = do
  number ← number_field bytes
  outcome ← outcome_at number.1
  Some (record { number = number.0; outcome = outcome })
