use Rattle.serve_program.proofs.Commands.{no_host_behind, too_few}
use Rattle.serve_program.proofs.words.ServeCommand.read.Goals as goal

pub returns-in-None-clause-none : goal.returns-in-None-clause-none
returns-in-None-clause-none c = too_few c.args.words.now c.in_default.len_below c.in-None.ensures.none

pub returns-in-None-host_said-clause-none : goal.returns-in-None-host_said-clause-none
returns-in-None-host_said-clause-none c = no_host_behind c.args.words.now c.in-len2-up.len_at_least c.in-None-host_said.ensures.none
