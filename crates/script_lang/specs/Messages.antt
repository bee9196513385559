-- What is printed of a fault of a script.
use Rattle.std.specs.Prelude.{ℕ, List, ◌++◌, codes}
use Rattle.std.specs.Fmt.{decimal}
use Rattle.script_lang.specs.declared.trouble.Kind.{Kind}
use Rattle.script_lang.specs.declared.trouble.Kind.TheVariants as kinds
use Rattle.script_lang.specs.declared.trouble.ScriptTrouble.{ScriptTrouble}
use Rattle.script_lang.specs.declared.trouble.ScriptTrouble.TheVariants.{Fault, NoMemory}

abbrev pub kind_text : Kind → List ℕ
kind_text kinds.Spaces = codes "a word is empty"
kind_text kinds.Actor = codes "the actor isn't declared, or its declaration is malformed, doubled, late or one too many"
kind_text kinds.Word = codes "there is no such statement"
kind_text kinds.Count = codes "the number of words is wrong"
kind_text kinds.Number = codes "a number is malformed or out of range"
kind_text kinds.Name = codes "a file's name is malformed"
kind_text kinds.Data = codes "data is malformed"
kind_text kinds.Reads = codes "the reads so far ask for more than 2^28 bytes"
kind_text kinds.Long = codes "the script has more than 2^20 bytes"

-- the line, from 1, and what is wrong there; a script that is too long has line 0
abbrev pub trouble_text : ScriptTrouble → List ℕ
trouble_text (Fault line kind) = codes "line " ++ decimal line ++ codes ": " ++ kind_text kind
trouble_text NoMemory = codes "memory was refused"
