use Rattle.std.proofs.Common.{◌∙◌, ap, true}
use Rattle.clap.specs.Simple.{app_of_fields, on_top}
use Rattle.command_line.proofs.parser.program.Goals as goal

pub returns : goal.returns
returns c =
    ap app_of_fields c.disable_help_subcommand.ensures
    ∙ ap (λ fields. app_of_fields (record fields { disable_help_subcommand = true })) c.disable_help_flag.ensures
    ∙ ap (λ fields. app_of_fields (record fields { disable_help_flag = true; disable_help_subcommand = true })) c.no_binary_name.ensures
    ∙ ap (on_top (λ top. record top { no_binary_name = true; disable_help_flag = true; disable_help_subcommand = true })) c.new.ensures.app
