use Rattle.drain_copy.specs.Machine.{drain_standing}
use Rattle.drain_program.proofs.StepLemmas.{drained_to, nears_first}
use Rattle.drain_program.proofs.driving.drive.Goals as goal

pub returns-in-Ok-clause-drained : goal.returns-in-Ok-clause-drained
returns-in-Ok-clause-drained g c =
    drained_to c.args.name c.args.mount.now (g.D.Store.stored c.args.target.now) (drain_standing c.ask_all.new.drain) c.ask_all.new.mount (g.D.Store.stored c.ask_all.new.target) c.out.result
    (c.in-Ok.ensures.nearer c.args.name c.args.mount.now (g.D.Store.stored c.args.target.now)
    (nears_first c.args.name c.args.mount.now (g.D.Store.stored c.args.target.now) (drain_standing c.new-drain.result) (c.a_drain_is_always_allowed.ensures 0 c.args.name) c.requires c.new-drain.ensures)) c.out.ensures

pub returns-in-Err-clause-broken_off : goal.returns-in-Err-clause-broken_off
returns-in-Err-clause-broken_off g c =
    c.in-Err.ensures.broken_off c.args.name c.args.mount.now (g.D.Store.stored c.args.target.now)
    (nears_first c.args.name c.args.mount.now (g.D.Store.stored c.args.target.now) (drain_standing c.new-drain.result) (c.a_drain_is_always_allowed.ensures 0 c.args.name) c.requires c.new-drain.ensures)
