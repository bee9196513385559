-- Words that are a drain, and words that are none.
use Rattle.std.proofs.Common.{◌≡◌, ℕ, ◌≤◌, List, [], ◌∷◌, length, get_or, Option, Some, None, sym, ap, ◌∙◌, inl, inr, subst, arith, codes}
use Rattle.std.specs.Prelude.{IfNone, IfSome}
use Rattle.plfs_types.specs.Names.{IsLogicalName}
use Rattle.drain_program.specs.declared.words.DrainCommand.{DrainCommand}
use Rattle.drain_program.specs.Words.{IsDrainCommand}

-- ---- so many words

pub two_words : (words : List (List ℕ)) (first second : List ℕ) → 2 ≤ length words → length words ≤ 2 → first ≡ get_or words 0 first → second ≡ get_or words 1 second → words ≡ first ∷ second ∷ []
two_words [] first second some few is other = absurd (omega (arith, some))
two_words (w ∷ []) first second some few is other = absurd (omega (arith, some))
two_words (w ∷ v ∷ []) first second some few is other = ap (λ (x : List ℕ). x ∷ v ∷ []) (sym is) ∙ ap (λ (y : List ℕ). first ∷ y ∷ []) (sym other)
two_words (w ∷ v ∷ u ∷ words) first second some few is other = absurd (omega (arith, few))

pub three_words : (words : List (List ℕ)) (first second third : List ℕ) → 3 ≤ length words → length words ≤ 3 → first ≡ get_or words 0 first → second ≡ get_or words 1 second → third ≡ get_or words 2 third → words ≡ first ∷ second ∷ third ∷ []
three_words [] first second third some few is other last = absurd (omega (arith, some))
three_words (w ∷ []) first second third some few is other last = absurd (omega (arith, some))
three_words (w ∷ v ∷ []) first second third some few is other last = absurd (omega (arith, some))
three_words (w ∷ v ∷ u ∷ []) first second third some few is other last = ap (λ (x : List ℕ). x ∷ v ∷ u ∷ []) (sym is) ∙ ap (λ (y : List ℕ). first ∷ y ∷ u ∷ []) (sym other) ∙ ap (λ (z : List ℕ). first ∷ second ∷ z ∷ []) (sym last)
three_words (w ∷ v ∷ u ∷ t ∷ words) first second third some few is other last = absurd (omega (arith, few))

-- ---- one name

behind_verb : (a b c d : List ℕ) (rest other : List (List ℕ)) → a ∷ b ∷ rest ≡ c ∷ d ∷ other → b ≡ d
behind_verb a b c d rest other e = cc

second_of : (words : List (List ℕ)) (name : List ℕ) → IsDrainCommand words name → (rest : List (List ℕ)) × (words ≡ codes "drain" ∷ name ∷ rest)
second_of words name is = elim is.spelled as (λ _. (rest : List (List ℕ)) × (words ≡ codes "drain" ∷ name ∷ rest)) [
  | inl alone ↦ ([], alone)
  | inr (folder, behind) ↦ (folder ∷ [], behind)
]

pub one_name : (words : List (List ℕ)) (name other : List ℕ) → IsDrainCommand words name → IsDrainCommand words other → name ≡ other
one_name words name other a b =
    let x = second_of words name a in
    let y = second_of words other b in
    behind_verb (codes "drain") name (codes "drain") other x.0 y.0 (sym x.1 ∙ y.1)

-- ---- words that are none

first_of : (verb other : List ℕ) (rest behind : List (List ℕ)) → verb ∷ rest ≡ other ∷ behind → verb ≡ other
first_of verb other rest behind e = cc

-- what is said of two words is said of those with others behind them
abbrev IsOfTwo : List ℕ → List ℕ → DrainCommand → Type 0
IsOfTwo verb word command = (verb ≡ codes "drain") × (word ≡ command.name) × IsLogicalName command.name

no_drain : (words : List (List ℕ)) (verb word : List ℕ) (rest : List (List ℕ)) → words ≡ verb ∷ word ∷ rest → (verb ≡ codes "drain" → IsLogicalName word → ⊥) → (name : List ℕ) → IsDrainCommand words name → ⊥
no_drain words verb word rest are none name is =
    let x = second_of words name is in
    let both : verb ∷ word ∷ rest ≡ codes "drain" ∷ name ∷ x.0 = sym are ∙ x.1 in
    let same : word ≡ name = behind_verb verb word (codes "drain") name rest x.0 both in
    none (first_of verb (codes "drain") (word ∷ rest) (name ∷ x.0) both) (subst IsLogicalName (sym same) is.logical)

pub two_none : (o : Option DrainCommand) (words : List (List ℕ)) (verb word : List ℕ) → words ≡ verb ∷ word ∷ [] → IfNone o (verb ≡ codes "drain" → IsLogicalName word → ⊥) → IfNone o ((name : List ℕ) → IsDrainCommand words name → ⊥)
two_none None words verb word are none = no_drain words verb word [] are none
two_none (Some command) words verb word are none = tt

pub three_none : (o : Option DrainCommand) (words : List (List ℕ)) (verb word third : List ℕ) → words ≡ verb ∷ word ∷ third ∷ [] → IfNone o (verb ≡ codes "drain" → IsLogicalName word → ⊥) → IfNone o ((name : List ℕ) → IsDrainCommand words name → ⊥)
three_none None words verb word third are none = no_drain words verb word (third ∷ []) are none
three_none (Some command) words verb word third are none = tt

pub two_found : (o : Option DrainCommand) (words : List (List ℕ)) (verb word : List ℕ) → words ≡ verb ∷ word ∷ [] → IfSome o (IsOfTwo verb word) → IfSome o (λ (command : DrainCommand). IsDrainCommand words command.name)
two_found None words verb word are found = tt
two_found (Some command) words verb word are found = record {
  logical = found.2;
  spelled = inl (are ∙ ap (λ (v : List ℕ). v ∷ word ∷ []) found.0 ∙ ap (λ (n : List ℕ). codes "drain" ∷ n ∷ []) found.1);
}

pub three_found : (o : Option DrainCommand) (words : List (List ℕ)) (verb word third : List ℕ) → words ≡ verb ∷ word ∷ third ∷ [] → IfSome o (IsOfTwo verb word) → IfSome o (λ (command : DrainCommand). IsDrainCommand words command.name)
three_found None words verb word third are found = tt
three_found (Some command) words verb word third are found = record {
  logical = found.2;
  spelled = inr (third, are ∙ ap (λ (v : List ℕ). v ∷ word ∷ third ∷ []) found.0 ∙ ap (λ (n : List ℕ). codes "drain" ∷ n ∷ third ∷ []) found.1);
}
