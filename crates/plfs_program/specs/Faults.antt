-- The line of a script that has a fault.
use Rattle.std.specs.Prelude.{ℕ, List, ◌++◌, codes}
use Rattle.std.specs.Fmt.{decimal}
use Rattle.script_lang.specs.declared.trouble.Kind.{Kind}
use Rattle.script_lang.specs.declared.trouble.Kind.TheVariants as kinds

-- the word of a kind of fault
abbrev pub kind_word : Kind → List ℕ
kind_word kinds.Spaces = codes "spaces"
kind_word kinds.Actor = codes "actor"
kind_word kinds.Word = codes "word"
kind_word kinds.Count = codes "count"
kind_word kinds.Number = codes "number"
kind_word kinds.Name = codes "name"
kind_word kinds.Data = codes "data"
kind_word kinds.Reads = codes "reads"
kind_word kinds.Long = codes "long"

-- the number of the script's line, and the kind of its fault
abbrev pub fault_line : ℕ → Kind → List ℕ
fault_line line kind = codes "script " ++ (decimal line ++ (codes " " ++ (kind_word kind ++ codes "\n")))
