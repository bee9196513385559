use Rattle.std.proofs.Common.{refl}
use Rattle.drain_copy.specs.Machine.{drain_standing}
use Rattle.drain_turn_tests.proofs.Passes.{may_begin}
use Rattle.drain_turn_tests.proofs.asking.drain_by.Goals as goal

pub loop-init : goal.loop-init
loop-init g c = (c.requires, refl, may_begin c.args.turn.now c.args.pass.now c.args.name (drain_standing c.new-drain.result) c.a_drain_is_always_allowed.ensures c.requires c.new-drain.ensures)
