-- Words that are a command, and words that are none.
use Rattle.std.proofs.Common.{◌≡◌, ℕ, ◌+◌, ◌≤◌, ◌-◌, Bool, List, [], ◌∷◌, length, take, drop, get_or, Option, refl, sym, ap, ◌∙◌, subst, arith, codes}
use Rattle.std.proofs.lemmas.List.{take_all}
use Rattle.std.specs.Prelude.{IfNone, IfSome}
use Rattle.store_api.specs.Acts.{Stored}
use Rattle.plfs_program.specs.UnitTrees.{AskForUnits}
use Rattle.command_line.specs.declared.commands.Command.TheVariants as asked
use Rattle.copy_program.specs.declared.words.CopyCommand.{CopyCommand}
use Rattle.copy_program.specs.declared.words.CopyCommand.TheVariants.{Put, Get}
use Rattle.copy_program.specs.Words.{AreOptions, IsCopyCommand}

-- ---- a list of so many words

pub one_word : (words : List (List ℕ)) (word : List ℕ) → 1 ≤ length words → length words ≤ 1 → word ≡ get_or words 0 word → words ≡ word ∷ []
one_word [] word some few is = absurd (omega (arith, some))
one_word (w ∷ []) word some few is = ap (λ (x : List ℕ). x ∷ []) (sym is)
one_word (w ∷ v ∷ words) word some few is = absurd (omega (arith, few))

pub two_words : (words : List (List ℕ)) (first second : List ℕ) → 2 ≤ length words → length words ≤ 2 → first ≡ get_or words 0 first → second ≡ get_or words 1 second → words ≡ first ∷ second ∷ []
two_words [] first second some few is other = absurd (omega (arith, some))
two_words (w ∷ []) first second some few is other = absurd (omega (arith, some))
two_words (w ∷ v ∷ []) first second some few is other = ap (λ (x : List ℕ). x ∷ v ∷ []) (sym is) ∙ ap (λ (y : List ℕ). first ∷ y ∷ []) (sym other)
two_words (w ∷ v ∷ u ∷ words) first second some few is other = absurd (omega (arith, few))

pub words_behind : (words : List (List ℕ)) (first second : List ℕ) → 2 ≤ length words → first ≡ get_or words 0 first → second ≡ get_or words 1 second → words ≡ first ∷ second ∷ drop 2 words
words_behind [] first second some is other = absurd (omega (arith, some))
words_behind (w ∷ []) first second some is other = absurd (omega (arith, some))
words_behind (w ∷ v ∷ words) first second some is other = ap (λ (x : List ℕ). x ∷ v ∷ words) (sym is) ∙ ap (λ (y : List ℕ). first ∷ y ∷ words) (sym other)

-- what stands behind two words
pub rest_words : (words : List (List ℕ)) (first second : List ℕ) (rest : List (List ℕ)) → words ≡ first ∷ second ∷ rest → take (length words - 2) (drop 2 words) ≡ rest
rest_words words first second rest is =
    let count : length (first ∷ second ∷ rest) - 2 ≡ length rest = omega arith in
    ap (λ (ws : List (List ℕ)). take (length ws - 2) (drop 2 ws)) is ∙ ap (λ (n : ℕ). take n rest) count ∙ take_all (length rest) rest (omega arith)

-- ---- the same words by another name

pub none_so : {X : Type 0} (o : Option X) (words shown : List (List ℕ)) → words ≡ shown → IfNone o ((host : ℕ) (over : Bool) → AreOptions shown host over → ⊥) → IfNone o ((host : ℕ) (over : Bool) → AreOptions words host over → ⊥)
none_so {X} o words shown same none = subst (λ (ws : List (List ℕ)). IfNone o ((host : ℕ) (over : Bool) → AreOptions ws host over → ⊥)) (sym same) none

pub command_so : (o : Option CopyCommand) (words shown : List (List ℕ)) → words ≡ shown → IfSome o (IsCopyCommand shown) → IfSome o (IsCopyCommand words)
command_so o words shown same found = subst (λ (ws : List (List ℕ)). IfSome o (IsCopyCommand ws)) (sym same) found

pub no_command_so : (o : Option CopyCommand) (words shown : List (List ℕ)) → words ≡ shown → IfNone o ((command : CopyCommand) → IsCopyCommand shown command → ⊥) → IfNone o ((command : CopyCommand) → IsCopyCommand words command → ⊥)
no_command_so o words shown same none = subst (λ (ws : List (List ℕ)). IfNone o ((command : CopyCommand) → IsCopyCommand ws command → ⊥)) (sym same) none

-- ---- words that are none

abbrev first_byte : List ℕ → ℕ
first_byte [] = 0
first_byte (b ∷ bytes) = b

differ : (a b : ℕ) → a ≡ 112 → b ≡ 103 → a ≡ b → ⊥
differ a b put get same = omega (arith, put, get, same)

verbs_differ : codes "put" ≡ codes "get" → ⊥
verbs_differ same = differ (first_byte (codes "put")) (first_byte (codes "get")) refl refl (ap first_byte same)

first_of : (verb name other from : List ℕ) (options rest : List (List ℕ)) → verb ∷ name ∷ options ≡ other ∷ from ∷ rest → verb ≡ other
first_of verb name other from options rest is = cc

behind_of : (verb name other from : List ℕ) (options rest : List (List ℕ)) → verb ∷ name ∷ options ≡ other ∷ from ∷ rest → options ≡ rest
behind_of verb name other from options rest is = cc

pub no_put : (name : List ℕ) (options : List (List ℕ)) → ((host : ℕ) (over : Bool) → AreOptions options host over → ⊥) → (command : CopyCommand) → IsCopyCommand (codes "put" ∷ name ∷ options) command → ⊥
no_put name options none (Put n host over) (rest, is, logical, are) = none host over (subst (λ (ws : List (List ℕ)). AreOptions ws host over) (sym (behind_of (codes "put") name (codes "put") n options rest is)) are)
no_put name options none (Get n) (is, logical) = verbs_differ (first_of (codes "put") name (codes "get") n options [] is)

pub no_get : (name : List ℕ) (options : List (List ℕ)) → 1 ≤ length options → (command : CopyCommand) → IsCopyCommand (codes "get" ∷ name ∷ options) command → ⊥
no_get name options some (Put n host over) (rest, is, logical, are) = verbs_differ (sym (first_of (codes "get") name (codes "put") n options rest is))
no_get name options some (Get n) (is, logical) = (let none : length options ≡ 0 = ap (λ (ws : List (List ℕ)). length ws) (behind_of (codes "get") name (codes "get") n options [] is) in omega (arith, some, none))

pub no_verb : (verb name : List ℕ) (options : List (List ℕ)) → (verb ≡ codes "put" → ⊥) → (verb ≡ codes "get" → ⊥) → (command : CopyCommand) → IsCopyCommand (verb ∷ name ∷ options) command → ⊥
no_verb verb name options no_put no_get (Put n host over) (rest, is, logical, are) = no_put (first_of verb name (codes "put") n options rest is)
no_verb verb name options no_put no_get (Get n) (is, logical) = no_get (first_of verb name (codes "get") n options [] is)

-- ---- a file that is written out

first_word : List (List ℕ) → List ℕ
first_word [] = []
first_word (word ∷ words) = word

first_length : (words : List (List ℕ)) (word : List ℕ) (more : List (List ℕ)) → words ≡ word ∷ more → length (first_word words) ≡ length word
unfolding first_word
first_length words word more is = ap (λ (ws : List (List ℕ)). length (first_word ws)) is

apart : {X : Type 0} (n a b : ℕ) → n ≡ a → n ≡ b → 1 + a ≤ b → X
apart n a b is other less = absurd (omega (arith, is, other, less))

-- the words of `cat` ask for no small file
pub cat_asks_for_none : (name : List ℕ) (words : List (List ℕ)) (stored : Stored) → words ≡ codes "cat" ∷ name ∷ [] → AskForUnits words stored
cat_asks_for_none name words stored is (asked.Pack container region) file spelled of = apart (length (first_word words)) 3 4 (first_length words (codes "cat") _ is) (first_length words (codes "pack") _ spelled.0) (omega arith)
cat_asks_for_none name words stored is (asked.Unpack container small) file spelled of = apart (length (first_word words)) 3 6 (first_length words (codes "cat") _ is) (first_length words (codes "unpack") _ spelled.0) (omega arith)
cat_asks_for_none name words stored is (asked.Names container) file spelled of = apart (length (first_word words)) 3 5 (first_length words (codes "cat") _ is) (first_length words (codes "names") _ spelled.0) (omega arith)
cat_asks_for_none name words stored is other file spelled of = absurd (cc)
