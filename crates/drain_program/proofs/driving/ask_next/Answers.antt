use Rattle.std.proofs.Common.{refl}
use Rattle.drain_copy.specs.Machine.{drain_standing}
use Rattle.drain_program.proofs.StepLemmas.{broken_call, on_err}
use Rattle.drain_program.proofs.driving.ask_next.Goals as goal

pub returns-in_err-call_source-in-Source-clause-broken_off : goal.returns-in_err-call_source-in-Source-clause-broken_off
returns-in_err-call_source-in-Source-clause-broken_off g c =
    on_err c.from_residual-in_err-call_source-in-Source.result
    (broken_call (drain_standing c.args.drain.now) (drain_standing c.next.new.self) c.in-Source.call c.args.mount.now c.call_source.new.mount (g.D.Store.stored c.args.target.now) (g.D.Store.stored c.args.target.now)
    (rw c.in-Source.is at c.in_ok-call.ensures.given) c.in_err-call_source-in-Source.ensures.broken_off refl)
