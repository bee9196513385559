use Rattle.drain_copy.specs.Machine.{drain_standing}
use Rattle.drain_program.proofs.StepLemmas.{called_so, was_called}
use Rattle.drain_program.proofs.driving.call_source.Goals as goal

pub returns-clause-called : goal.returns-clause-called
returns-clause-called g c = called_so c.args.call (drain_standing c.args.drain.now) (drain_standing c.take_source.new.self) c.args.mount.now c.apply-reply.new.self c.apply-reply.result c.take_source.result c.take_source.ensures.goes_on c.take_source.ensures.no_memory c.apply-reply.ensures.step

pub returns-clause-broken_off : goal.returns-clause-broken_off
returns-clause-broken_off g c = was_called c.args.call c.args.mount.now c.apply-reply.new.self c.apply-reply.result c.take_source.result c.apply-reply.ensures.step
