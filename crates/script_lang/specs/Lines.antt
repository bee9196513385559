-- What a line says, or the first of its faults.
use Rattle.std.specs.Prelude.{◌≡◌, ℕ, ◌+◌, ◌≤◌, ◌<◌, false, ◌-◌, ◌^◌, ◌==◌, ◌||◌, nat_le, nat_lt, not, Bool, List, length, Option, Some, None, is_some, Result, Ok, Err, if◌then◌else◌, codes}
use Rattle.std.specs.List.{list_any}
use Rattle.script_lang.specs.declared.meaning.Meaning.{Meaning}
use Rattle.script_lang.specs.declared.meaning.Meaning.TheVariants as meaning
use Rattle.script_lang.specs.declared.script.ActorDecl.{ActorDecl}
use Rattle.script_lang.specs.declared.script.Statement.{Statement}
use Rattle.script_lang.specs.declared.trouble.Kind.{Kind}
use Rattle.script_lang.specs.declared.trouble.Kind.TheVariants as kinds
use Rattle.script_lang.specs.declared.verb.Verb.{Verb}
use Rattle.script_lang.specs.Grammar.{read_length}
use Rattle.script_lang.specs.Names.{is_word, is_actor_name, actor_place}
use Rattle.script_lang.specs.Numbers.{number_within, number_or}
use Rattle.script_lang.specs.Ranges.{FitsActor, FitsTurned, FitsStatement}
use Rattle.script_lang.specs.Reading.{◌>>=◌}
use Rattle.script_lang.specs.Spoken.{Spoken, spoken}
use Rattle.script_lang.specs.Statements.{statement_of}
use Rattle.script_lang.specs.Verbs.{verb_of, has_words}
use Rattle.script_lang.specs.Words.{is_passed}
use Rattle.plfs_types.specs.Parts.{words_of, is_empty}

-- an actor may not be declared here by this name: the declaration comes late, is the 257th, or is malformed or doubled
abbrev pub is_refused : List ActorDecl → Bool → List ℕ → Bool
is_refused actors begun name = begun || nat_le 256 (length actors) || not (is_actor_name name) || is_some (actor_place actors name)

-- the actor of a declaration: host 0 and capacity 64 where they are left out
abbrev pub declared : Spoken → Result Meaning Kind
declared line = do
  host ← number_or 0 0 (2 ^ 32 - 1) line.third
  cap ← number_or 64 1 4096 line.fourth
  Ok (meaning.Declares (record { host = host; cap = cap; name = line.second }))

-- `actor A [HOST [CAP]]`
abbrev pub declaration : List ActorDecl → Bool → Spoken → Result Meaning Kind
declaration actors begun line =
    if line.count == 1 then Err kinds.Count
    else if is_refused actors begun line.second then Err kinds.Actor
    else if nat_lt 4 line.count then Err kinds.Count
    else declared line

-- `phase`
abbrev pub beginning : Spoken → Result Meaning Kind
beginning line = if line.count == 1 then Ok meaning.Begins else Err kinds.Count

abbrev pub turns_at : Option ℕ → Spoken → Result Meaning Kind
turns_at None line = Err kinds.Actor
turns_at (Some place) line = if line.count == 3 then (do
  count ← number_within 1 (2 ^ 32 - 1) line.third
  Ok (meaning.Turns (record { actor = place; count = count }))) else Err kinds.Count

-- `turn A N`
abbrev pub turning : List ActorDecl → Spoken → Result Meaning Kind
turning actors line = if line.count == 1 then Err kinds.Count else turns_at (actor_place actors line.second) line

-- a statement, where the `read` lines so far ask for so many bytes
abbrev pub within_reads : ℕ → Statement → ℕ → Result Meaning Kind
within_reads place made sum = if nat_le sum (2 ^ 28) then Ok (meaning.Says place made sum) else Err kinds.Reads

abbrev pub says_by : ℕ → Option Verb → ℕ → Spoken → Result Meaning Kind
says_by place None reads line = Err kinds.Word
says_by place (Some verb) reads line = if has_words verb line.count then (do
  made ← statement_of verb line.third line.fourth
  within_reads place made (reads + read_length made)) else Err kinds.Count

abbrev pub says_at : Option ℕ → ℕ → Spoken → Result Meaning Kind
says_at None reads line = Err kinds.Actor
says_at (Some place) reads line = if line.count == 1 then Err kinds.Count else says_by place (verb_of line.second) reads line

-- `A STATEMENT`
abbrev pub saying : List ActorDecl → ℕ → Spoken → Result Meaning Kind
saying actors reads line = says_at (actor_place actors line.first) reads line

-- what the words of a line say, where these actors are declared, other lines have begun or not, and the `read`
-- lines so far ask for so many bytes
abbrev pub meaning_of : List ActorDecl → Bool → ℕ → Spoken → Result Meaning Kind
meaning_of actors begun reads line =
    if is_word line.first (codes "actor") then declaration actors begun line
    else if is_word line.first (codes "phase") then beginning line
    else if is_word line.first (codes "turn") then turning actors line
    else saying actors reads line

-- what a line says
abbrev pub line_meaning : List ActorDecl → Bool → ℕ → List ℕ → Result Meaning Kind
line_meaning actors begun reads line =
    if is_passed line then Ok meaning.Passed
    else if list_any is_empty (words_of line) then Err kinds.Spaces
    else meaning_of actors begun reads (spoken (words_of line))

-- what is said may be taken: actors are declared once, in time and at most 256 times, all is in its ranges, and the
-- `read` lines stay within their limit
abbrev pub IsFit : List ActorDecl → Bool → Meaning → Type 0
IsFit actors begun (meaning.Declares actor) = (actor_place actors actor.name ≡ None) × (begun ≡ false) × (length actors < 256) × FitsActor actor
IsFit actors begun (meaning.Turns turned) = FitsTurned (length actors) turned
IsFit actors begun (meaning.Says place made reads) = (place < length actors) × FitsStatement made × (reads ≤ 2 ^ 28)
IsFit actors begun other = Unit {0}

-- what is said declares an actor of this name, if any, in its ranges
abbrev pub Names : List ℕ → Meaning → Type 0
Names name (meaning.Declares actor) = (actor.name ≡ name) × FitsActor actor
Names name other = Unit {0}
