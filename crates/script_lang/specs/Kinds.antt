-- The kinds of fault that the words of a line have, and the first of them.
use Rattle.std.specs.Prelude.{ℕ, ◌<◌, Contains, List, []}
use Rattle.script_lang.specs.declared.script.Script.{Script}
use Rattle.script_lang.specs.declared.trouble.Kind.{Kind}
use Rattle.script_lang.specs.declared.trouble.Kind.TheVariants as kinds
use Rattle.script_lang.specs.Conditions.{HasNoActor, IsActorLine, IsNoStatement, IsMiscounted, HasBreach, AsksTooMuch}

-- the words have a fault of this kind, behind the lines of this script
abbrev pub HasKind : Script → List (List ℕ) → Kind → Type 0
HasKind before words kinds.Spaces = Contains words []
HasKind before words kinds.Actor = HasNoActor before words
HasKind before words kinds.Word = (word : List ℕ) × (arguments : List (List ℕ)) × IsActorLine words word arguments × IsNoStatement word
HasKind before words kinds.Count = IsMiscounted words
HasKind before words kinds.Number = HasBreach words kinds.Number
HasKind before words kinds.Name = HasBreach words kinds.Name
HasKind before words kinds.Data = HasBreach words kinds.Data
HasKind before words kinds.Reads = AsksTooMuch before words
HasKind before words kinds.Long = ⊥

-- the order of the kinds in a line; one place is that of the arguments
abbrev pub order : Kind → ℕ
order kinds.Long = 0
order kinds.Spaces = 1
order kinds.Actor = 2
order kinds.Word = 3
order kinds.Count = 4
order kinds.Number = 5
order kinds.Name = 5
order kinds.Data = 5
order kinds.Reads = 6

-- this is the first of the kinds of fault that the words have
pub record IsFirst (before : Script) (words : List (List ℕ)) (kind : Kind) : Type 0 where
  pub has : HasKind before words kind
  pub first : (other : Kind) → order other < order kind → HasKind before words other → ⊥
