-- The lines of phases: turns and statements.
use Rattle.std.specs.Prelude.{◌≡◌, ℕ, ◌+◌, ◌≤◌, ◌<◌, ◌^◌, List, [], ◌∷◌, Some, codes}
use Rattle.std.specs.Fmt.{decimal}
use Rattle.script_lang.specs.declared.script.ActorDecl.{ActorDecl}
use Rattle.script_lang.specs.declared.script.Numbered.{Numbered}
use Rattle.script_lang.specs.declared.script.Phase.{Phase}
use Rattle.script_lang.specs.declared.script.Statement.{Statement}
use Rattle.script_lang.specs.declared.script.Turned.{Turned}
use Rattle.script_lang.specs.ActorNames.{IsKeyword, actor_place}
use Rattle.script_lang.specs.Layout.{HasWords, IsPassed}
use Rattle.script_lang.specs.Spelling.{SpellsStatement}

-- `turn A N`, of these actors
pub record Turns (actors : List ActorDecl) (words : List (List ℕ)) (turned : Turned) : Type 0 where
  pub whose : List ℕ
  pub declared : actor_place actors whose ≡ Some turned.actor
  pub least : 1 ≤ turned.count
  pub most : turned.count < 2 ^ 32
  pub spelled : words ≡ codes "turn" ∷ whose ∷ decimal turned.count ∷ []

-- `A STATEMENT`, of these actors; a keyword begins a line of its own kind
pub record States (actors : List ActorDecl) (words : List (List ℕ)) (actor : ℕ) (made : Statement) : Type 0 where
  pub whose : List ℕ
  pub behind : List (List ℕ)
  pub free : IsKeyword whose → ⊥
  pub declared : actor_place actors whose ≡ Some actor
  pub split : words ≡ whose ∷ behind
  pub spelled : SpellsStatement made behind

-- a phase without lines
abbrev pub empty_phase : Phase
empty_phase = record { turns = []; statements = [] }

-- the phase with one turn line more, in front of its others
abbrev pub with_turn : Turned → Phase → Phase
with_turn turned phase = record { turns = turned ∷ phase.turns; statements = phase.statements }

-- and with one statement more
abbrev pub with_statement : Numbered → Phase → Phase
with_statement numbered phase = record { turns = phase.turns; statements = numbered ∷ phase.statements }

-- a line of this number, before lines that make the later phases, makes these phases with them
pub data MakesPhases (actors : List ActorDecl) (number : ℕ) (line : List ℕ) (later phases : List Phase) : Type 0 where
  passes : IsPassed line → phases ≡ later → MakesPhases actors number line later phases
  begins : HasWords line (codes "phase" ∷ []) → phases ≡ empty_phase ∷ later → MakesPhases actors number line later phases
  turns : (words : List (List ℕ)) (turned : Turned) (first : Phase) (others : List Phase) → HasWords line words → Turns actors words turned → later ≡ first ∷ others → phases ≡ with_turn turned first ∷ others
      → MakesPhases actors number line later phases
  states : (words : List (List ℕ)) (actor : ℕ) (made : Statement) (first : Phase) (others : List Phase) → HasWords line words → States actors words actor made → later ≡ first ∷ others
      → phases ≡ with_statement (record { line = number; actor = actor; statement = made }) first ∷ others
      → MakesPhases actors number line later phases

-- the lines from this number on make these phases, the first of which has begun
abbrev pub MakeAll : List ActorDecl → ℕ → List (List ℕ) → List Phase → Type 0
MakeAll actors number [] phases = phases ≡ empty_phase ∷ []
MakeAll actors number (line ∷ lines) phases = (later : List Phase) × MakesPhases actors number line later phases × MakeAll actors (number + 1) lines later
