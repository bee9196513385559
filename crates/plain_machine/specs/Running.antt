-- A script on a plain machine: its statements one after the other, as they are written.
use Rattle.std.specs.Prelude.{◌≡◌, List, [], ◌∷◌, Some, None, slice_get}
use Rattle.std.specs.List.{All}
use Rattle.script_lang.specs.declared.line.Line.{Line}
use Rattle.script_lang.specs.declared.script.ActorDecl.{ActorDecl}
use Rattle.script_lang.specs.declared.script.Numbered.{Numbered}
use Rattle.script_lang.specs.declared.script.Phase.{Phase}
use Rattle.script_lang.specs.declared.script.Script.{Script}
use Rattle.script_lang.specs.declared.script.Statement.{Statement}
use Rattle.script_lang.specs.declared.script.Statement.TheVariants.{Stop as Arms}
use Rattle.plain_machine.specs.Machine.{Plain, PlainActor}
use Rattle.plain_machine.specs.Statements.{Takes}

-- a statement, with its line
abbrev pub TakesLine : List ActorDecl → Plain → Numbered → Line → Plain → Type 0
TakesLine actors p s line new =
    (declared : ActorDecl) × (actor : PlainActor) × (slice_get actors s.actor ≡ Some declared) × (slice_get p.actors s.actor ≡ Some actor)
    × (line.number ≡ s.line) × Takes s.actor declared actor p s.statement line.outcome new

-- statements, with their lines
abbrev pub TakesAll : List ActorDecl → Plain → List Numbered → List Line → Plain → Type 0
TakesAll actors p [] [] new = new ≡ p
TakesAll actors p (s ∷ statements) (line ∷ lines) new = (next : Plain) × TakesLine actors p s line next × TakesAll actors next statements lines new
TakesAll actors p _ _ new = ⊥

-- an actor that has no writer and no reader
abbrev pub nobody : ActorDecl → PlainActor
nobody declared = record { writer = None; reader = None }

-- no `stop` line
abbrev pub IsNoStop : Statement → Type 0
IsNoStop (Arms call bytes) = ⊥
IsNoStop other = Unit {0}

-- no `turn` line in a phase, and no `stop` line
pub record IsPlainPhase (phase : Phase) : Type 0 where
  pub no_turns : phase.turns ≡ []
  pub no_stops : All (λ (s : Numbered). IsNoStop s.statement) phase.statements

abbrev pub IsPlainScript : Script → Type 0
IsPlainScript script = All IsPlainPhase script.phases
