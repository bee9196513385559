-- What the parser's answer says of the words.
use Rattle.std.proofs.Common.{◌≡◌, ◌≢◌, ◌∙◌, true, false, refl, ap, subst, inl, inr, List, [], Some, None}
use Rattle.std.specs.List.{list_any}
use Rattle.clap.specs.Words.{App, HasKind, HasMatchesOf, IsAmong, Text, fault_of, is_simple, is_simple_and_free, kind_of, subcommand_rows_of}
use Rattle.clap.specs.declared.error.Error.{Error}
use Rattle.clap.specs.declared.error.kind.ErrorKind.TheVariants as kind
use Rattle.clap.specs.declared.parser.matches.ArgMatches.{ArgMatches}
use Rattle.command_line.specs.Commands.{IsCommand}
use Rattle.command_line.specs.Options.{is_option}
use Rattle.command_line.specs.Parser.{AreParsed, parser, spelled}
use Rattle.command_line.specs.declared.commands.Command.{Command}
use Rattle.command_line.proofs.Parsing.{spells_taken}
use Rattle.command_line.proofs.Taking.{command_taken, no_options}

parser_is_simple : is_simple parser ≡ true
unfolding parser
parser_is_simple = refl

parser_is_free : is_simple_and_free parser ≡ true
unfolding parser
parser_is_free = refl

pub are_parsed : (app : App) (words : List Text) (matches : ArgMatches) → app ≡ parser → (is_simple_and_free app ≡ true → fault_of app words ≡ []) → HasMatchesOf app words matches
    → AreParsed words (Some matches)
are_parsed app words matches is free has =
    let P : App → Type 0 = λ a. (is_simple_and_free a ≡ true → fault_of a words ≡ []) × HasMatchesOf a words matches in
    let all = subst P is (free, has) in
    (all.0 parser_is_free, (all.1 parser_is_simple).1)

pub are_refused : (app : App) (words : List Text) (error : Error) → app ≡ parser → (is_simple_and_free app ≡ true → HasKind (fault_of app words) error) → kind_of error ≢ kind.OutOfMemory
    → AreParsed words None
are_refused app words error is free other none =
    let P : App → Type 0 = λ a. is_simple_and_free a ≡ true → HasKind (fault_of a words) error in
    elim (subst P is free parser_is_free) [
      | inl memory ↦ other memory
      | inr among ↦ subst (λ kinds. IsAmong (kind_of error) kinds) none among
    ]

-- the matches spell the words
pub spells_words : (words given : List Text) (matches : ArgMatches) → list_any is_option words ≡ false → given ≡ words → AreParsed given (Some matches)
    → spelled (subcommand_rows_of matches) ≡ words
spells_words words given matches none same parsed =
    let P : List Text → Type 0 = λ ws. AreParsed ws (Some matches) in
    let own = subst P same parsed in
    ap spelled own.1 ∙ spells_taken words (no_options words none) own.0

-- refused words are no command
pub none_refused : (words given : List Text) (command : Command) → given ≡ words → AreParsed given None → IsCommand words command → ⊥
none_refused words given command same refused is =
    let P : List Text → Type 0 = λ ws. AreParsed ws None in
    subst P same refused (command_taken words command is).0
