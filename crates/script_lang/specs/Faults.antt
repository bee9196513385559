-- The first fault of bytes that are no script.
use Rattle.std.specs.Prelude.{◌≡◌, ℕ, ◌+◌, ◌≤◌, ◌<◌, ◌^◌, List, ◌∷◌, ◌++◌, length}
use Rattle.script_lang.specs.declared.script.Script.{Script}
use Rattle.script_lang.specs.declared.trouble.Kind.{Kind}
use Rattle.script_lang.specs.declared.trouble.Kind.TheVariants.{Long}
use Rattle.script_lang.specs.Grammar.{AreScript}
use Rattle.script_lang.specs.Kinds.{IsFirst}
use Rattle.script_lang.specs.Layout.{AreLines, IsPassed}
use Rattle.plfs_types.specs.Parts.{AreWords}

-- the line of a fault, from 1, and its kind
pub record Fault : Type 0 where
  pub line : ℕ
  pub kind : Kind

-- the line of this number has a fault of this kind, and no line before it has one: those are a script
pub record HasFaultyLine (bytes : List ℕ) (number : ℕ) (kind : Kind) : Type 0 where
  pub before : List (List ℕ)
  pub line : List ℕ
  pub behind : List (List ℕ)
  pub cut : AreLines bytes (before ++ line ∷ behind)
  pub counted : number ≡ length before + 1
  pub so_far : Script
  pub sound : AreScript before so_far
  pub said : IsPassed line → ⊥
  pub words : List (List ℕ)
  pub are : AreWords line words
  pub faulty : IsFirst so_far words kind

-- the first fault: that of more than 2^20 bytes is before all others, and has line 0
pub data HasFault (bytes : List ℕ) (fault : Fault) : Type 0 where
  long : 2 ^ 20 < length bytes → fault ≡ record { line = 0; kind = Long } → HasFault bytes fault
  faulty : length bytes ≤ 2 ^ 20 → HasFaultyLine bytes fault.line fault.kind → HasFault bytes fault
