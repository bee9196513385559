-- What is a command is taken, and has no option in it.
use Rattle.std.proofs.Common.{◌≡◌, ◌≢◌, ◌∙◌, ◌<◌, ◌||◌, ◌^◌, ℕ, Bool, true, false, arith, refl, sym, ap, subst, inl, inr, List, [], ◌∷◌, slice_index, codes}
use Rattle.std.specs.List.{list_any}
use Rattle.std.specs.Fmt.{decimal}
use Rattle.std.proofs.lemmas.Bool.Decides.{eqb_tells}
use Rattle.std.proofs.lemmas.Fmt.{decimal_is_IsNumeral}
use Rattle.std.proofs.lemmas.Str.Parse.{digit_at}
use Rattle.plfs_types.specs.Names.{IsLogicalName}
use Rattle.clap.specs.Words.{Text, fault_of}
use Rattle.command_line.specs.Commands.{IsCommand}
use Rattle.command_line.specs.Options.{is_option}
use Rattle.command_line.specs.Parser.{parser}
use Rattle.command_line.specs.declared.commands.Command.{Command}
use Rattle.command_line.specs.declared.commands.Command.TheVariants as command
use Rattle.command_line.proofs.Leaves.{AreOperands, bare, one, two}
use Rattle.command_line.proofs.Parsing.{takes_verb}

-- ---- words that are no options

plain_by_first : (word : Text) → slice_index word 0 ≢ 45 → is_option word ≡ false
plain_by_first [] other = refl
plain_by_first (x ∷ xs) other = elim (eqb_tells x 45) [ inl same ↦ absurd (other same.1) | inr other ↦ other.0 ]

name_plain : (name : Text) → IsLogicalName name → is_option name ≡ false
name_plain name rule = plain_by_first name rule.no_dash

number_plain : (n : ℕ) → n < 2 ^ 64 → is_option (decimal n) ≡ false
number_plain n small =
    let numeral = (decimal_is_IsNumeral n small).0 in
    let digit = digit_at (decimal n) 0 numeral.1 numeral.0 in
    plain_by_first (decimal n) (λ same. omega (arith, digit, same))

-- ---- commands

-- the words are taken, and none of them is an option
abbrev pub IsTaken : List Text → Type 0
IsTaken words = (fault_of parser words ≡ []) × AreOperands words

one_taken : (verb word : Text) (words : List Text) → words ≡ verb ∷ word ∷ [] → is_option verb ≡ false → is_option word ≡ false
    → (AreOperands (word ∷ []) → fault_of parser (verb ∷ word ∷ []) ≡ []) → IsTaken words
one_taken verb word words same plain_verb plain takes = subst IsTaken (sym same) (takes (plain, tt), (plain_verb, (plain, tt)))

two_taken : (verb word more : Text) (words : List Text) → words ≡ verb ∷ word ∷ more ∷ [] → is_option verb ≡ false → is_option word ≡ false → is_option more ≡ false
    → (AreOperands (word ∷ more ∷ []) → fault_of parser (verb ∷ word ∷ more ∷ []) ≡ []) → IsTaken words
two_taken verb word more words same plain_verb plain plain_more takes =
    subst IsTaken (sym same) (takes (plain, (plain_more, tt)), (plain_verb, (plain, (plain_more, tt))))

pub command_taken : (words : List Text) (given : Command) → IsCommand words given → IsTaken words
command_taken words command.Run is = subst IsTaken (sym is) (takes_verb (codes "run", bare) [] refl tt tt, (refl, tt))
command_taken words command.Play is = subst IsTaken (sym is) (takes_verb (codes "play", bare) [] refl tt tt, (refl, tt))
command_taken words command.Ls is = subst IsTaken (sym is) (takes_verb (codes "ls", bare) [] refl tt tt, (refl, tt))
command_taken words (command.Gen n) is =
    one_taken (codes "gen") (decimal n) words is.0 refl (number_plain n (omega (arith, is.2))) (λ plain. takes_verb (codes "gen", one) (decimal n ∷ []) refl plain tt)
command_taken words (command.Cat name) is = one_taken (codes "cat") name words is.0 refl (name_plain name is.1) (λ plain. takes_verb (codes "cat", one) (name ∷ []) refl plain tt)
command_taken words (command.Stat name) is = one_taken (codes "stat") name words is.0 refl (name_plain name is.1) (λ plain. takes_verb (codes "stat", one) (name ∷ []) refl plain tt)
command_taken words (command.Map name) is = one_taken (codes "map") name words is.0 refl (name_plain name is.1) (λ plain. takes_verb (codes "map", one) (name ∷ []) refl plain tt)
command_taken words (command.Flatten name) is = one_taken (codes "flatten") name words is.0 refl (name_plain name is.1) (λ plain. takes_verb (codes "flatten", one) (name ∷ []) refl plain tt)
command_taken words (command.Recover name) is = one_taken (codes "recover") name words is.0 refl (name_plain name is.1) (λ plain. takes_verb (codes "recover", one) (name ∷ []) refl plain tt)
command_taken words (command.Migrate name) is = one_taken (codes "migrate") name words is.0 refl (name_plain name is.1) (λ plain. takes_verb (codes "migrate", one) (name ∷ []) refl plain tt)
command_taken words (command.Names name) is = one_taken (codes "names") name words is.0 refl (name_plain name is.1) (λ plain. takes_verb (codes "names", one) (name ∷ []) refl plain tt)
command_taken words (command.Pack name region) is =
    two_taken (codes "pack") name (decimal region) words is.0 refl (name_plain name is.1) (number_plain region (omega (arith, is.2))) (λ plain. takes_verb (codes "pack", two) (name ∷ decimal region ∷ []) refl plain tt)
command_taken words (command.Unpack name file) is =
    two_taken (codes "unpack") name file words is.0 refl (name_plain name is.1) (name_plain file is.2) (λ plain. takes_verb (codes "unpack", two) (name ∷ file ∷ []) refl plain tt)
command_taken words (command.Trunc name size) is =
    two_taken (codes "trunc") name (decimal size) words is.0 refl (name_plain name is.1) (number_plain size is.2) (λ plain. takes_verb (codes "trunc", two) (name ∷ decimal size ∷ []) refl plain tt)
command_taken words (command.Rename name to) is =
    two_taken (codes "rename") name to words is.0 refl (name_plain name is.1) (name_plain to is.2) (λ plain. takes_verb (codes "rename", two) (name ∷ to ∷ []) refl plain tt)

-- ---- the test for options

-- no word is an option where the test finds none
pub no_options : (words : List Text) → list_any is_option words ≡ false → AreOperands words
no_options [] none = tt
no_options (word ∷ words) none = go (is_option word) (no_options words) refl none
  where
    go : (b : Bool) (behind : list_any is_option words ≡ false → AreOperands words) → is_option word ≡ b → (b || list_any is_option words) ≡ false → AreOperands (word ∷ words)
    go true behind is e = cc
    go false behind is e = (is, behind e)

some_option : (words : List Text) → AreOperands words → list_any is_option words ≡ false
some_option [] none = refl
some_option (word ∷ words) none = ap (λ b. b || list_any is_option words) none.0 ∙ some_option words none.1

-- a list with an option is no command
pub no_command : (words : List Text) (given : Command) → list_any is_option words ≡ true → IsCommand words given → ⊥
no_command words given some is = let none = some_option words (command_taken words given is).1 in cc
