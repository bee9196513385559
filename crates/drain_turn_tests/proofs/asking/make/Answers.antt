use Rattle.drain_turn_tests.proofs.Passes.{may_make}
use Rattle.drain_turn_tests.proofs.asking.make.Goals as goal

pub call-reply-requires-clause-may : goal.call-reply-requires-clause-may
call-reply-requires-clause-may g c = may_make c.args.turn.now c.args.pass.now c.args.call c.requires.can c.requires.nothing c.requires.numbers
