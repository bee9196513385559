use Rattle.check_program.proofs.top.run.Goals as goal

pub returns-in_default : goal.returns-in_default
returns-in_default g c times = c.refuse.ensures c.args.words.now times c.in_default.ensures.none

pub returns : goal.returns
returns g c times = c.follow.ensures c.args.words.now times c.in-Some.ensures.found
