-- Answers: what each tells of its request's line, and its bytes.
use Rattle.std.specs.Prelude.{ℕ, ◌<◌, ◌^◌, List, [], ◌∷◌, ◌++◌, Option, Some, None, length}
use Rattle.std.specs.Int.{w64, to_le_bytes}
use Rattle.std.specs.List.{flat_map}
use Rattle.script_lang.specs.declared.line.Line.{Line}
use Rattle.script_lang.specs.declared.line.Outcome.{Outcome}
use Rattle.script_lang.specs.declared.line.Outcome.TheVariants as outcomes
use Rattle.script_lang.specs.declared.line.Why.{Why}
use Rattle.script_lang.specs.declared.line.Why.TheVariants as whys
use Rattle.frame_format.specs.declared.answering.Answer.{Answer}

-- ---- how it went

abbrev pub status_of : Outcome → ℕ
status_of (outcomes.Refused why) = 1
status_of outcomes.Fault = 4
status_of outcomes.Stopped = 5
status_of outcomes.Gone = 5
status_of (outcomes.Damaged folder file place) = 7
status_of other = 0

-- ---- one number that it came to

abbrev pub why_code : Why → ℕ
why_code whys.NoFile = 1
why_code whys.Held = 2
why_code (whys.Busy host writer) = 3
why_code whys.Exists = 4
why_code whys.TooFar = 5
why_code whys.StampsSpent = 6
why_code whys.IdsSpent = 7
why_code whys.NotOpen = 8
why_code whys.AlreadyOpen = 9
why_code whys.MountsSpent = 10

-- an empty block has no stamp, and stamps begin at 1
abbrev pub stamp_or_none : Option ℕ → ℕ
stamp_or_none (Some stamp) = stamp
stamp_or_none None = 0

abbrev pub value_of : Outcome → ℕ
value_of (outcomes.Opened writer) = writer
value_of (outcomes.Wrote at len stamp) = stamp_or_none stamp
value_of (outcomes.Synced landed) = landed
value_of (outcomes.Closed landed) = landed
value_of (outcomes.Reader size cut truncs) = size
value_of (outcomes.Read at content) = length content
value_of (outcomes.Differs place) = place
value_of (outcomes.Map pieces) = length pieces
value_of (outcomes.Stat size stored shares truncs) = size
value_of (outcomes.Truncated stamp) = stamp
value_of (outcomes.Flattened flat pieces cut) = flat
value_of (outcomes.Recovered buried alive hold) = length buried
value_of (outcomes.Listed names) = length names
value_of (outcomes.Refused why) = why_code why
value_of (outcomes.Damaged folder file place) = place
value_of other = 0

-- ---- the bytes behind the head

-- each name with a line feed
abbrev pub names_text : List (List ℕ) → List ℕ
names_text names = flat_map (λ name. name ++ 10 ∷ []) names

-- a folder and a file with a slash between them
abbrev pub path_text : List ℕ → List ℕ → List ℕ
path_text folder file = folder ++ 47 ∷ file

abbrev pub payload_of : Outcome → List ℕ
payload_of (outcomes.Read at content) = content
payload_of (outcomes.Listed names) = names_text names
payload_of (outcomes.Damaged folder file place) = path_text folder file
payload_of other = []

-- ---- the answer

abbrev pub answer_of : Line → Answer
answer_of line = record { number = line.number; status = status_of line.outcome; value = value_of line.outcome; payload = payload_of line.outcome }

abbrev pub no_request : ℕ → Answer
no_request number = record { number = number; status = 2; value = 0; payload = [] }

abbrev pub no_memory : ℕ → Answer
no_memory number = record { number = number; status = 3; value = 0; payload = [] }

-- four numbers of 8 bytes, the lowest byte first
unfoldable pub answer_head : Answer → List ℕ
answer_head answer =
    to_le_bytes w64 answer.number
    ++ to_le_bytes w64 answer.status
    ++ to_le_bytes w64 answer.value
    ++ to_le_bytes w64 (length answer.payload)

-- an answer's bytes
abbrev pub answer_bytes : Answer → List ℕ
answer_bytes answer = answer_head answer ++ answer.payload

-- its numbers have places of 8 bytes
pub record FitsAnswer (answer : Answer) : Type 0 where
  pub number_fits : answer.number < 2 ^ 64
  pub status_fits : answer.status < 2 ^ 64
  pub value_fits : answer.value < 2 ^ 64
