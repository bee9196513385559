-- What is a script: its declarations, and behind them the lines of its phases.
use Rattle.std.specs.Prelude.{◌≡◌, ◌≢◌, ℕ, ◌+◌, ◌≤◌, ◌^◌, AllPairs, List, ◌++◌, length, sum_by}
use Rattle.script_lang.specs.declared.script.Numbered.{Numbered}
use Rattle.script_lang.specs.declared.script.Phase.{Phase}
use Rattle.script_lang.specs.declared.script.Script.{Script}
use Rattle.script_lang.specs.declared.script.Statement.{Statement}
use Rattle.script_lang.specs.declared.script.Statement.TheVariants as statement
use Rattle.script_lang.specs.Declarations.{DeclareAll}
use Rattle.script_lang.specs.Layout.{AreLines}
use Rattle.script_lang.specs.Phases.{MakeAll}

-- how many bytes a `read` line asks for
abbrev pub read_length : Statement → ℕ
read_length (statement.Read at len) = len
read_length other = 0

-- how many bytes the `read` lines of these phases ask for
abbrev pub asked : List Phase → ℕ
asked phases = sum_by (λ (phase : Phase). sum_by (λ (numbered : Numbered). read_length numbered.statement) phase.statements) phases

-- the lines are this script: at most 256 declarations, of differing names, before any other line, and the lines of phases behind
-- them, which ask for at most 2^28 bytes
pub record AreScript (lines : List (List ℕ)) (script : Script) : Type 0 where
  pub declaring : List (List ℕ)
  pub working : List (List ℕ)
  pub parted : lines ≡ declaring ++ working
  pub declared : DeclareAll declaring script.actors
  pub distinct : AllPairs (λ a b. a.name ≢ b.name) script.actors
  pub few : length script.actors ≤ 256
  pub made : MakeAll script.actors (length declaring + 1) working script.phases
  pub limited : asked script.phases ≤ 2 ^ 28

-- the bytes are this script, cut into its lines
pub record IsScript (bytes : List ℕ) (script : Script) : Type 0 where
  pub lines : List (List ℕ)
  pub short : length bytes ≤ 2 ^ 20
  pub cut : AreLines bytes lines
  pub are : AreScript lines script
