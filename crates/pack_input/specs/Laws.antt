-- Laws of the grammar: files and first faults are told apart.
use Rattle.std.specs.Prelude.{◌≡◌, ℕ, List}
use Rattle.pack_input.specs.declared.files.NamedFile.{NamedFile}
use Rattle.pack_input.specs.Input.{Fault, HasFault, IsInput}

-- no bytes are the input of two lists of files
abbrev pub OneInput : Type 0
OneInput = (bytes : List ℕ) (a b : List NamedFile) → IsInput bytes a → IsInput bytes b → a ≡ b

-- or have two first faults
abbrev pub OneFault : Type 0
OneFault = (bytes : List ℕ) (a b : Fault) → HasFault bytes a → HasFault bytes b → a ≡ b

-- an input has no fault
abbrev pub NeverBoth : Type 0
NeverBoth = (bytes : List ℕ) (files : List NamedFile) (fault : Fault) → IsInput bytes files → HasFault bytes fault → ⊥
