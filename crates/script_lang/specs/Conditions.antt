-- The condition of each kind of fault, on the words of a line behind lines that are a script.
use Rattle.std.specs.Prelude.{◌≡◌, ◌≢◌, ℕ, ◌+◌, ◌-◌, ◌≤◌, ◌<◌, ◌^◌, ◌⊎◌, List, [], ◌∷◌, length, None, codes}
use Rattle.script_lang.specs.declared.script.Script.{Script}
use Rattle.script_lang.specs.declared.script.Statement.TheVariants as statement
use Rattle.script_lang.specs.declared.trouble.Kind.{Kind}
use Rattle.script_lang.specs.ActorNames.{IsKeyword, IsActorName, actor_place}
use Rattle.script_lang.specs.Forms.{Rule, number, Keeps, kind_of, Form}
use Rattle.script_lang.specs.Grammar.{asked}
use Rattle.script_lang.specs.Phases.{empty_phase}
use Rattle.script_lang.specs.Spelling.{SpellsStatement}

-- no actor of this name may be declared here: the name is malformed or taken, a line of another kind came before, or there are 256 actors
pub data IsRefused (before : Script) (name : List ℕ) : Type 0 where
  malformed : (IsActorName name → ⊥) → IsRefused before name
  doubled : actor_place before.actors name ≢ None → IsRefused before name
  late : before.phases ≢ empty_phase ∷ [] → IsRefused before name
  too_many : 256 ≤ length before.actors → IsRefused before name

-- the first word is neither a keyword nor an actor's name, or an `actor` or `turn` line has a second word that it may not have
pub data HasNoActor (before : Script) (words : List (List ℕ)) : Type 0 where
  unknown : (whose : List ℕ) (behind : List (List ℕ)) → words ≡ whose ∷ behind → (IsKeyword whose → ⊥) → actor_place before.actors whose ≡ None → HasNoActor before words
  refused : (name : List ℕ) (behind : List (List ℕ)) → words ≡ codes "actor" ∷ name ∷ behind → IsRefused before name → HasNoActor before words
  undeclared : (whose : List ℕ) (behind : List (List ℕ)) → words ≡ codes "turn" ∷ whose ∷ behind → actor_place before.actors whose ≡ None → HasNoActor before words

-- the line of an actor, with the word of its statement
pub record IsActorLine (words : List (List ℕ)) (word : List ℕ) (arguments : List (List ℕ)) : Type 0 where
  pub whose : List ℕ
  pub free : IsKeyword whose → ⊥
  pub split : words ≡ whose ∷ word ∷ arguments

-- no statement has this word
abbrev pub IsNoStatement : List ℕ → Type 0
IsNoStatement word = (rules : List Rule) (least : ℕ) → Form word rules least → ⊥

-- the number of words is wrong
pub data IsMiscounted (words : List (List ℕ)) : Type 0 where
  actor_words : (behind : List (List ℕ)) → words ≡ codes "actor" ∷ behind → (length behind < 1) ⊎ (3 < length behind) → IsMiscounted words
  phase_words : (behind : List (List ℕ)) → words ≡ codes "phase" ∷ behind → length behind ≢ 0 → IsMiscounted words
  turn_words : (behind : List (List ℕ)) → words ≡ codes "turn" ∷ behind → length behind ≢ 2 → IsMiscounted words
  lone_name : (whose : List ℕ) → words ≡ whose ∷ [] → (IsKeyword whose → ⊥) → IsMiscounted words
  statement_words : (word : List ℕ) (arguments : List (List ℕ)) (rules : List Rule) (least : ℕ) → IsActorLine words word arguments → Form word rules least
      → (length arguments < least) ⊎ (length rules < length arguments)
      → IsMiscounted words

-- the arguments of a line, and their rules
pub data HasArguments (words arguments : List (List ℕ)) (rules : List Rule) : Type 0 where
  of_actor : (name : List ℕ) → words ≡ codes "actor" ∷ name ∷ arguments → rules ≡ number 0 (2 ^ 32 - 1) ∷ number 1 4096 ∷ [] → HasArguments words arguments rules
  of_turn : (whose : List ℕ) → words ≡ codes "turn" ∷ whose ∷ arguments → rules ≡ number 1 (2 ^ 32 - 1) ∷ [] → HasArguments words arguments rules
  of_statement : (word : List ℕ) (least : ℕ) → IsActorLine words word arguments → Form word rules least → HasArguments words arguments rules

-- from left to right, the first argument that is outside its rule is of this kind
abbrev pub BreaksRule : List Rule → List (List ℕ) → Kind → Type 0
BreaksRule [] arguments kind = ⊥
BreaksRule (rule ∷ rules) [] kind = ⊥
BreaksRule (rule ∷ rules) (argument ∷ arguments) kind = ((Keeps rule argument → ⊥) × (kind ≡ kind_of rule)) ⊎ (Keeps rule argument × BreaksRule rules arguments kind)

-- an argument of the words is outside its rule, and the first such one is of this kind
abbrev pub HasBreach : List (List ℕ) → Kind → Type 0
HasBreach words kind = (arguments : List (List ℕ)) × (rules : List Rule) × HasArguments words arguments rules × BreaksRule rules arguments kind

-- with this `read` line the lengths sum to more than 2^28
pub record AsksTooMuch (before : Script) (words : List (List ℕ)) : Type 0 where
  pub whose : List ℕ
  pub behind : List (List ℕ)
  pub free : IsKeyword whose → ⊥
  pub at : ℕ
  pub len : ℕ
  pub split : words ≡ whose ∷ behind
  pub spelled : SpellsStatement (statement.Read at len) behind
  pub much : 2 ^ 28 < asked before.phases + len
