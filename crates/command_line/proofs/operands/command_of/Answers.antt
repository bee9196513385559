use Rattle.std.proofs.Common.{sym, subst, Some, None}
use Rattle.std.specs.Prelude.{IfSome}
use Rattle.clap.specs.Words.{found_of}
use Rattle.command_line.specs.Commands.{IsCommand}
use Rattle.command_line.proofs.Spelling.{spelled_as}
use Rattle.command_line.proofs.operands.command_of.Goals as goal

pub returns-in-None-default-clause-found : goal.returns-in-None-default-clause-found
returns-in-None-default-clause-found c =
    let spells = spelled_as c.args.matches.now c.in_ok-verb.verb.now (found_of c.in_ok-verb.operands.now) None c.get_str-2.result c.in_ok-verb.ensures.name c.in_ok-verb.ensures.rows c.in-None-default.ensures c.get_str-2.ensures in
    subst (λ ws. IfSome c.bare.result (IsCommand ws)) (sym spells) c.bare.ensures.found

pub returns-in-None-default-clause-exact : goal.returns-in-None-default-clause-exact
returns-in-None-default-clause-exact c =
    let spells = spelled_as c.args.matches.now c.in_ok-verb.verb.now (found_of c.in_ok-verb.operands.now) None c.get_str-2.result c.in_ok-verb.ensures.name c.in_ok-verb.ensures.rows c.in-None-default.ensures c.get_str-2.ensures in
    λ command is. c.bare.ensures.exact command (subst (λ ws. IsCommand ws command) spells is)

pub returns-in-Some-None-clause-found : goal.returns-in-Some-None-clause-found
returns-in-Some-None-clause-found c =
    let spells = spelled_as c.args.matches.now c.in_ok-verb.verb.now (found_of c.in_ok-verb.operands.now) (Some c.in-Some-None.first) None c.in_ok-verb.ensures.name c.in_ok-verb.ensures.rows c.in-Some-None.ensures c.in-Some-None.ensures' in
    subst (λ ws. IfSome c.with_one.result (IsCommand ws)) (sym spells) c.with_one.ensures.found

pub returns-in-Some-None-clause-exact : goal.returns-in-Some-None-clause-exact
returns-in-Some-None-clause-exact c =
    let spells = spelled_as c.args.matches.now c.in_ok-verb.verb.now (found_of c.in_ok-verb.operands.now) (Some c.in-Some-None.first) None c.in_ok-verb.ensures.name c.in_ok-verb.ensures.rows c.in-Some-None.ensures c.in-Some-None.ensures' in
    λ command is. c.with_one.ensures.exact command (subst (λ ws. IsCommand ws command) spells is)

pub returns-in-Some-Some-clause-found : goal.returns-in-Some-Some-clause-found
returns-in-Some-Some-clause-found c =
    let spells = spelled_as c.args.matches.now c.in_ok-verb.verb.now (found_of c.in_ok-verb.operands.now) (Some c.in-Some-Some.first) (Some c.in-Some-Some.second) c.in_ok-verb.ensures.name c.in_ok-verb.ensures.rows c.in-Some-Some.ensures c.in-Some-Some.ensures' in
    subst (λ ws. IfSome c.with_two.result (IsCommand ws)) (sym spells) c.with_two.ensures.found

pub returns-in-Some-Some-clause-exact : goal.returns-in-Some-Some-clause-exact
returns-in-Some-Some-clause-exact c =
    let spells = spelled_as c.args.matches.now c.in_ok-verb.verb.now (found_of c.in_ok-verb.operands.now) (Some c.in-Some-Some.first) (Some c.in-Some-Some.second) c.in_ok-verb.ensures.name c.in_ok-verb.ensures.rows c.in-Some-Some.ensures c.in-Some-Some.ensures' in
    λ command is. c.with_two.ensures.exact command (subst (λ ws. IsCommand ws command) spells is)
