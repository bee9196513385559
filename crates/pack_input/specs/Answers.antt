-- Answers that are what reading gives, but for want of memory.
use Rattle.std.specs.Prelude.{◌≡◌, ◌⊎◌, ⊤, ℕ, List, [], ◌∷◌, ◌++◌, Result, Ok, Err}
use Rattle.pack_input.specs.declared.files.NamedFile.{NamedFile}
use Rattle.pack_input.specs.declared.trouble.InputTrouble.{InputTrouble}
use Rattle.pack_input.specs.declared.trouble.InputTrouble.TheVariants as trouble
use Rattle.pack_input.specs.declared.trouble.Kind.{Kind}
use Rattle.pack_input.specs.Input.{Fault, HasFault}

-- a trouble is the first fault of these bytes, or want of memory
abbrev pub IsTrouble : List ℕ → InputTrouble → Type 0
IsTrouble bytes (trouble.Fault line kind) = HasFault bytes (record { line = line; kind = kind })
IsTrouble bytes trouble.NoMemory = ⊤

-- this is answered, or memory was refused
abbrev pub IsAnswered : Result (List NamedFile) InputTrouble → Result (List NamedFile) InputTrouble → Type 0
IsAnswered result wanted = (result ≡ wanted) ⊎ (result ≡ Err trouble.NoMemory)

abbrev pub FailsAsRead : InputTrouble → Result (List NamedFile) Fault → Type 0
FailsAsRead (trouble.Fault line kind) read = read ≡ Err (record { line = line; kind = kind })
FailsAsRead trouble.NoMemory read = ⊤

abbrev pub AnswersAsRead : Result (List NamedFile) InputTrouble → Result (List NamedFile) Fault → Type 0
AnswersAsRead (Ok files) read = read ≡ Ok files
AnswersAsRead (Err why) read = FailsAsRead why read

abbrev pub FailsInLine : InputTrouble → ℕ → Result NamedFile Kind → Type 0
FailsInLine (trouble.Fault line kind) number read = (line ≡ number) × (read ≡ Err kind)
FailsInLine trouble.NoMemory number read = ⊤

-- the file of a line is added, or its fault is told
abbrev pub AddsAsRead : Result (Unit {0}) InputTrouble → ℕ → List NamedFile → List NamedFile → Result NamedFile Kind → Type 0
AddsAsRead (Ok done) number old new read = (f : NamedFile) × (read ≡ Ok f) × (new ≡ old ++ f ∷ [])
AddsAsRead (Err why) number old new read = FailsInLine why number read
