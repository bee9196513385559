use Rattle.std.proofs.Common.{◌≢◌, rules, map}
use Rattle.clap.specs.Words.{app_of, kind_of}
use Rattle.clap.specs.declared.error.kind.ErrorKind.TheVariants as kind
use Rattle.command_line.proofs.Answering.{are_parsed, are_refused}
use Rattle.command_line.proofs.parser.parse.Goals as goal

pub returns-in-Ok : goal.returns-in-Ok
returns-in-Ok c =
    are_parsed (app_of c.in_ok-parser.field-0) (map (λ w. w.now) c.args.words.now) c.in-Ok.matches (search rules) c.in-Ok.ensures.kinds c.in-Ok.ensures.matches

pub returns : goal.returns
returns c =
    let other : kind_of c.in-Err-2.field-0 ≢ kind.OutOfMemory = search rules in
    are_refused (app_of c.in_ok-parser.field-0) (map (λ w. w.now) c.args.words.now) c.in-Err-2.field-0 (search rules) c.in-Err-2.ensures.kinds other
