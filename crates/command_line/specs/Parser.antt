-- What the words are parsed by: one command with one level of subcommands, each with its operands.
use Rattle.std.specs.Prelude.{◌≡◌, ◌≢◌, true, List, [], ◌∷◌, Option, Some, None, codes}
use Rattle.clap.specs.Words.{App, Row, Rule, Text, fault_of, first_of, new_app, new_rule, subcommand_of, subcommand_rows_of, with_rule, with_subcommand}
use Rattle.clap.specs.Simple.{on_top}
use Rattle.clap.specs.declared.parser.matches.ArgMatches.{ArgMatches}

-- an operand, which has to be there
abbrev pub operand : Text → Rule
operand id = record (new_rule id) { required = true }

-- a command with one operand
abbrev pub with_one : Text → App
with_one name = with_rule (new_app name) (operand (codes "first"))

-- a command with two
abbrev pub with_two : Text → App
with_two name = with_rule (with_one name) (operand (codes "second"))

-- this command and a subcommand
abbrev pub ◌or◌ : App → App → App
all or sub = with_subcommand all sub.top

infixl 30 ◌or◌
-- the commands that take a script or nothing
abbrev pub with_scripts : App → App
with_scripts all = all or new_app (codes "run") or new_app (codes "play") or new_app (codes "ls") or with_one (codes "gen")

-- the commands of one file
abbrev pub with_files : App → App
with_files all =
    all or with_one (codes "cat") or with_one (codes "stat") or with_one (codes "map") or with_one (codes "flatten") or with_one (codes "recover") or with_one (codes "migrate") or with_one (codes "names")

-- the commands of a file and what it becomes
abbrev pub with_changes : App → App
with_changes all = all or with_two (codes "trunc") or with_two (codes "rename")

-- the commands of a file and a region of it, or a small file in it
abbrev pub with_units : App → App
with_units all = all or with_two (codes "pack") or with_two (codes "unpack")

-- the program: words are its own from the first on, and there is no help
abbrev pub program : App
program = on_top (λ top. record top { no_binary_name = true; disable_help_flag = true; disable_help_subcommand = true }) (new_app (codes "plfs"))

-- the program with all commands
unfoldable pub parser : App
parser = with_units (with_changes (with_files (with_scripts program)))

-- a verb with its operands
abbrev pub listed : Text → Option Text → Option Text → List Text
listed verb None second = verb ∷ []
listed verb (Some first) None = verb ∷ first ∷ []
listed verb (Some first) (Some second) = verb ∷ first ∷ second ∷ []

-- the words that the parsed subcommand spells
abbrev pub spelled : Option (Text × List Row) → List Text
spelled None = []
spelled (Some found) = listed found.0 (first_of (codes "first") found.1) (first_of (codes "second") found.1)

-- the parser found these matches in the words, or refused them
abbrev pub AreParsed : List Text → Option ArgMatches → Type 0
AreParsed words (Some matches) = (fault_of parser words ≡ []) × (subcommand_rows_of matches ≡ subcommand_of parser words)
AreParsed words None = fault_of parser words ≢ []
