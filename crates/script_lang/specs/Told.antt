-- What is answered to bytes that are to be a script.
use Rattle.std.specs.Prelude.{◌≡◌, ◌⊎◌, ℕ, List, Result, Err}
use Rattle.script_lang.specs.declared.trouble.ScriptTrouble.{ScriptTrouble}
use Rattle.script_lang.specs.declared.trouble.ScriptTrouble.TheVariants as trouble
use Rattle.script_lang.specs.Faults.{HasFault}

-- the trouble is the first fault of the bytes, or want of memory
abbrev pub IsScriptTrouble : List ℕ → ScriptTrouble → Type 0
IsScriptTrouble bytes (trouble.Fault line kind) = HasFault bytes (record { line = line; kind = kind })
IsScriptTrouble bytes trouble.NoMemory = Unit {0}

-- this is answered, unless memory is refused
abbrev pub IsAnswered : {A : Type 0} → Result A ScriptTrouble → Result A ScriptTrouble → Type 0
IsAnswered answered answer = (answered ≡ answer) ⊎ (answered ≡ Err trouble.NoMemory)
