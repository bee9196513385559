use Rattle.std.proofs.Common.{◌≡◌, sym, subst, rules, map, true, false}
use Rattle.std.specs.Prelude.{IfSome}
use Rattle.std.specs.List.{list_any}
use Rattle.command_line.specs.Commands.{IsCommand}
use Rattle.command_line.specs.Options.{is_option}
use Rattle.command_line.proofs.Answering.{none_refused, spells_words}
use Rattle.command_line.proofs.Taking.{no_command}
use Rattle.command_line.proofs.commands.Command.read.Goals as goal

pub returns-then-has_option-clause-exact : goal.returns-then-has_option-clause-exact
returns-then-has_option-clause-exact c =
    let some : list_any is_option c.args.words.now ≡ true = search rules in
    λ command is. absurd (no_command c.args.words.now command some is)

pub returns-in-Some-clause-found : goal.returns-in-Some-clause-found
returns-in-Some-clause-found c =
    let none : list_any is_option c.args.words.now ≡ false = search rules in
    let same : map (λ t. t.now) c.as_slice.result.now ≡ c.args.words.now = search rules in
    let spells = spells_words c.args.words.now (map (λ t. t.now) c.as_slice.result.now) c.in-Some.matches none same (search rules) in
    subst (λ ws. IfSome c.command_of.result (IsCommand ws)) spells c.command_of.ensures.found

pub returns-in-Some-clause-exact : goal.returns-in-Some-clause-exact
returns-in-Some-clause-exact c =
    let none : list_any is_option c.args.words.now ≡ false = search rules in
    let same : map (λ t. t.now) c.as_slice.result.now ≡ c.args.words.now = search rules in
    let spells = spells_words c.args.words.now (map (λ t. t.now) c.as_slice.result.now) c.in-Some.matches none same (search rules) in
    λ command is. c.command_of.ensures.exact command (subst (λ ws. IsCommand ws command) (sym spells) is)

pub returns-clause-exact : goal.returns-clause-exact
returns-clause-exact c =
    let same : map (λ t. t.now) c.as_slice.result.now ≡ c.args.words.now = search rules in
    λ command is. absurd (none_refused c.args.words.now (map (λ t. t.now) c.as_slice.result.now) command same (search rules) is)
