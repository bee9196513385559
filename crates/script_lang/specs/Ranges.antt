-- The ranges of what a script has, as far as its types don't give them.
use Rattle.std.specs.Prelude.{ℕ, ◌≤◌, ◌<◌, ◌^◌, length, All}
use Rattle.script_lang.specs.declared.script.ActorDecl.{ActorDecl}
use Rattle.script_lang.specs.declared.script.Data.{Data}
use Rattle.script_lang.specs.declared.script.Data.TheVariants as data_of
use Rattle.script_lang.specs.declared.script.Numbered.{Numbered}
use Rattle.script_lang.specs.declared.script.Phase.{Phase}
use Rattle.script_lang.specs.declared.script.Script.{Script}
use Rattle.script_lang.specs.declared.script.Statement.{Statement}
use Rattle.script_lang.specs.declared.script.Statement.TheVariants as statement
use Rattle.script_lang.specs.declared.script.Turned.{Turned}

-- at most 2^24 bytes
abbrev pub FitsData : Data → Type 0
FitsData (data_of.Hex bytes) = length bytes ≤ 2 ^ 24
FitsData (data_of.Text bytes) = length bytes ≤ 2 ^ 24
FitsData (data_of.Fill len byte) = len ≤ 2 ^ 24
FitsData (data_of.Ramp len first) = len ≤ 2 ^ 24

-- a statement in its ranges
abbrev pub FitsStatement : Statement → Type 0
FitsStatement (statement.Write at content) = FitsData content
FitsStatement (statement.Ropen name workers) = (1 ≤ workers) × (workers ≤ 16)
FitsStatement (statement.Read at len) = len ≤ 2 ^ 24
FitsStatement (statement.Verify at content) = FitsData content
FitsStatement (statement.Stop call bytes) = 1 ≤ call
FitsStatement other = Unit {0}

abbrev pub FitsActor : ActorDecl → Type 0
FitsActor actor = (1 ≤ actor.cap) × (actor.cap ≤ 4096)

-- turns of one of so many actors
abbrev pub FitsTurned : ℕ → Turned → Type 0
FitsTurned count turned = (turned.actor < count) × (1 ≤ turned.count) × (turned.count < 2 ^ 32)

-- a statement of one of so many actors
abbrev pub FitsNumbered : ℕ → Numbered → Type 0
FitsNumbered count numbered = (numbered.actor < count) × FitsStatement numbered.statement

pub record FitsPhase (count : ℕ) (phase : Phase) : Type 0 where
  pub turned : All (FitsTurned count) phase.turns
  pub numbered : All (FitsNumbered count) phase.statements

-- a script in its ranges: at most 256 actors, at least one phase
pub record FitsScript (script : Script) : Type 0 where
  pub few : length script.actors ≤ 256
  pub declared : All FitsActor script.actors
  pub begun : 1 ≤ length script.phases
  pub phased : All (FitsPhase (length script.actors)) script.phases
