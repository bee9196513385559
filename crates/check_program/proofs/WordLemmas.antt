-- Words that are a command, and words that are none.
use Rattle.std.proofs.Common.{◌≡◌, ℕ, ◌≤◌, List, [], ◌∷◌, length, get_or, Option, sym, ap, subst, arith}
use Rattle.std.specs.Prelude.{IfNone, IfSome}
use Rattle.plfs_types.specs.Names.{IsLogicalName}
use Rattle.check_program.specs.declared.words.CheckCommand.{CheckCommand}
use Rattle.check_program.specs.declared.words.CheckCommand.TheVariants.{All, One}
use Rattle.check_program.specs.Words.{IsCheckCommand}

pub one_word : (words : List (List ℕ)) (word : List ℕ) → 1 ≤ length words → length words ≤ 1 → word ≡ get_or words 0 word → words ≡ word ∷ []
one_word [] word some few is = absurd (omega (arith, some))
one_word (w ∷ []) word some few is = ap (λ (x : List ℕ). x ∷ []) (sym is)
one_word (w ∷ v ∷ words) word some few is = absurd (omega (arith, few))

pub command_so : (o : Option CheckCommand) (words shown : List (List ℕ)) → words ≡ shown → IfSome o (IsCheckCommand shown) → IfSome o (IsCheckCommand words)
command_so o words shown same found = subst (λ (ws : List (List ℕ)). IfSome o (IsCheckCommand ws)) (sym same) found

pub no_command_so : (o : Option CheckCommand) (words shown : List (List ℕ)) → words ≡ shown → IfNone o ((command : CheckCommand) → IsCheckCommand shown command → ⊥) → IfNone o ((command : CheckCommand) → IsCheckCommand words command → ⊥)
no_command_so o words shown same none = subst (λ (ws : List (List ℕ)). IfNone o ((command : CheckCommand) → IsCheckCommand ws command → ⊥)) (sym same) none

-- the word is no name
pub no_name : (word : List ℕ) → (IsLogicalName word → ⊥) → (command : CheckCommand) → IsCheckCommand (word ∷ []) command → ⊥
no_name word other All is = absurd (cc)
no_name word other (One name) is = (let same : word ≡ name = first_is word name is.0 in other (subst IsLogicalName (sym same) is.1))
  where
    first_is : (a b : List ℕ) → a ∷ [] ≡ b ∷ [] → a ≡ b
    first_is a b e = cc

-- there are several
pub too_many : (words : List (List ℕ)) → 2 ≤ length words → (command : CheckCommand) → IsCheckCommand words command → ⊥
too_many words many All is = (let none : length words ≡ 0 = ap (λ (ws : List (List ℕ)). length ws) is in omega (arith, many, none))
too_many words many (One name) is = (let one : length words ≡ 1 = ap (λ (ws : List (List ℕ)). length ws) is.0 in omega (arith, many, one))
