use Rattle.copy_program.proofs.Commands.{no_put}
use Rattle.copy_program.proofs.words.put_of.Goals as goal

pub returns-in-None-clause-none : goal.returns-in-None-clause-none
returns-in-None-clause-none c command is = no_put c.args.name c.args.options.now c.in-None.ensures.none command is
