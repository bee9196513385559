-- The arguments of each statement.
use Rattle.std.specs.Prelude.{◌≡◌, ℕ, ◌-◌, ◌≤◌, ◌^◌, List, [], ◌∷◌, codes}
use Rattle.std.specs.Fmt.{decimal}
use Rattle.plfs_types.specs.Names.{IsLogicalName}
use Rattle.script_lang.specs.declared.script.Data.{Data}
use Rattle.script_lang.specs.declared.trouble.Kind.{Kind}
use Rattle.script_lang.specs.declared.trouble.Kind.TheVariants as kinds
use Rattle.script_lang.specs.Spelling.{data_word, IsData}

-- what a word is to be: a number between these two, the name of a file, or data
pub data Rule : Type 0 where
  number : ℕ → ℕ → Rule
  file : Rule
  content : Rule

-- a place or a size
abbrev pub place : Rule
place = number 0 (2 ^ 64 - 1)

-- the word is what the rule says
abbrev pub Keeps : Rule → List ℕ → Type 0
Keeps (number least most) word = (n : ℕ) × (least ≤ n) × (n ≤ most) × (word ≡ decimal n)
Keeps file word = IsLogicalName word
Keeps content word = (written : Data) × IsData written × (word ≡ data_word written)

-- the kind of a fault in it
abbrev pub kind_of : Rule → Kind
kind_of (number least most) = kinds.Number
kind_of file = kinds.Name
kind_of content = kinds.Data

-- a statement: its word, the rules of its arguments from left to right, and how many of these must be there
pub data Form : List ℕ → List Rule → ℕ → Type 0 where
  opens : Form (codes "open") (file ∷ []) 1
  writes : Form (codes "write") (place ∷ content ∷ []) 2
  syncs : Form (codes "sync") [] 0
  closes : Form (codes "close") [] 0
  ropens : Form (codes "ropen") (file ∷ number 1 16 ∷ []) 1
  reads : Form (codes "read") (place ∷ number 0 (2 ^ 24) ∷ []) 2
  verifies : Form (codes "verify") (place ∷ content ∷ []) 2
  maps : Form (codes "map") [] 0
  refreshes : Form (codes "refresh") [] 0
  rcloses : Form (codes "rclose") [] 0
  stats : Form (codes "stat") (file ∷ []) 1
  flattens : Form (codes "flatten") (file ∷ []) 1
  recovers : Form (codes "recover") (file ∷ []) 1
  truncates : Form (codes "trunc") (file ∷ place ∷ []) 2
  renames : Form (codes "rename") (file ∷ file ∷ []) 2
  lists : Form (codes "ls") [] 0
  stops : Form (codes "stop") (number 1 (2 ^ 64 - 1) ∷ place ∷ []) 2
