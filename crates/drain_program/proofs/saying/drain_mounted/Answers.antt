use Rattle.drain_program.specs.Course.{ended_so}
use Rattle.drain_program.proofs.saying.drain_mounted.Goals as goal

pub returns : goal.returns
returns g c = ended_so c.in-Ok.ended c.in-Ok.ensures.drained c.say_ended.ensures
