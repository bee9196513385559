-- Laws of the grammar: statements, scripts and first faults are told apart.
use Rattle.std.specs.Prelude.{◌≡◌, ◌⊎◌, ℕ, List}
use Rattle.script_lang.specs.declared.script.Script.{Script}
use Rattle.script_lang.specs.declared.script.Statement.{Statement}
use Rattle.script_lang.specs.Faults.{Fault, HasFault}
use Rattle.script_lang.specs.Grammar.{IsScript}
use Rattle.script_lang.specs.Spelling.{SpellsStatement}

-- ---- statements

-- no words are two statements
abbrev pub OneStatement : Type 0
OneStatement = (words : List (List ℕ)) (a b : Statement) → SpellsStatement a words → SpellsStatement b words → a ≡ b

-- ---- scripts

-- no bytes are two scripts
abbrev pub OneScript : Type 0
OneScript = (bytes : List ℕ) (a b : Script) → IsScript bytes a → IsScript bytes b → a ≡ b

-- or have two first faults
abbrev pub OneFault : Type 0
OneFault = (bytes : List ℕ) (a b : Fault) → HasFault bytes a → HasFault bytes b → a ≡ b

-- a script has no fault
abbrev pub NeverBoth : Type 0
NeverBoth = (bytes : List ℕ) (script : Script) (fault : Fault) → IsScript bytes script → HasFault bytes fault → ⊥

-- and bytes that are none have one
abbrev pub AlwaysOne : Type 0
AlwaysOne = (bytes : List ℕ) → ((script : Script) × IsScript bytes script) ⊎ ((fault : Fault) × HasFault bytes fault)
