-- Scripts: what their lines say, one after the other, or the first fault.
use Rattle.std.specs.Prelude.{◌≡◌, ℕ, ◌+◌, ◌^◌, nat_lt, List, [], ◌∷◌, length, Result, Ok, Err, if◌then◌else◌}
use Rattle.script_lang.specs.declared.draft.Draft.{Draft}
use Rattle.script_lang.specs.declared.flaw.Flaw.{Flaw}
use Rattle.script_lang.specs.declared.flaw.Flaw.TheVariants as flaws
use Rattle.script_lang.specs.declared.script.Script.{Script}
use Rattle.script_lang.specs.declared.trouble.Kind.{Kind}
use Rattle.script_lang.specs.declared.trouble.Kind.TheVariants.{Long}
use Rattle.script_lang.specs.declared.trouble.ScriptTrouble.{ScriptTrouble}
use Rattle.script_lang.specs.declared.trouble.ScriptTrouble.TheVariants as trouble
use Rattle.script_lang.specs.Drafts.{empty_draft, line_draft, script_in}
pub use Rattle.script_lang.specs.Faults.{Fault}
use Rattle.script_lang.specs.Words.{lines_of}

-- what comes behind a line, or its fault
abbrev pub go_on : ℕ → (Draft → Result Draft Fault) → Result Draft Kind → Result Draft Fault
go_on number later (Ok d) = later d
go_on number later (Err kind) = Err (record { line = number; kind = kind })

-- what these lines make of the draft before them, the first of which has this number
abbrev pub lines_draft : ℕ → List (List ℕ) → Draft → Result Draft Fault
lines_draft number [] d = Ok d
lines_draft number (line ∷ lines) d = go_on number (lines_draft (number + 1) lines) (line_draft number line d)

-- the script whose lines are read to their end
abbrev pub finished : Result Draft Fault → Result Script Fault
finished (Ok d) = Ok (script_in d)
finished (Err fault) = Err fault

-- the script that the bytes are, or their first fault
abbrev pub script_of : List ℕ → Result Script Fault
script_of bytes = if nat_lt (2 ^ 20) (length bytes) then Err (record { line = 0; kind = Long }) else finished (lines_draft 1 (lines_of bytes) empty_draft)

-- an answer is what reading gives, but for want of memory
abbrev pub FailsWith : {A : Type 0} → ScriptTrouble → Result A Fault → Type 0
FailsWith (trouble.Fault line kind) read = read ≡ Err (record { line = line; kind = kind })
FailsWith trouble.NoMemory read = Unit {0}

abbrev pub AnswersAsRead : {A : Type 0} → Result A ScriptTrouble → Result A Fault → Type 0
AnswersAsRead (Ok x) read = read ≡ Ok x
AnswersAsRead (Err failed) read = FailsWith failed read

-- what is told of the flaw of a line
abbrev pub trouble_at : ℕ → Flaw → ScriptTrouble
trouble_at number (flaws.Kind kind) = trouble.Fault number kind
trouble_at number flaws.NoMemory = trouble.NoMemory
