use Rattle.std.proofs.Common.{◌+◌, ℕ, sym, subst}
use Rattle.mount_core.proofs.Memory.{on_err}
use Rattle.serve_program.specs.Closing.{HaveClosed}
use Rattle.serve_program.proofs.Closings.{closing_breaks, none_closed, one_closed}
use Rattle.serve_program.proofs.closing.close_all.Goals as goal

pub loop-place-init : goal.loop-place-init
loop-place-init g c = record { closed = none_closed c.args.clients.now c.args.mount.now c.requires.rest; fine = c.requires.fine }

pub returns-in_err-trouble-clause-broken : goal.returns-in_err-trouble-clause-broken
returns-in_err-trouble-clause-broken g c = on_err c.from_residual.result _ (
    closing_breaks c.loop-place.place c.args.clients.now c.loop-place.clients c.args.mount.now c.loop-place.mount c.close.new.mount c.loop-place.worst c.loop-place.invariant.closed c.in_err-trouble.ensures.broken)

pub loop-place-preserved : goal.loop-place-preserved
loop-place-preserved g c =
    let H : ℕ → Type 0 = λ z. HaveClosed (c.loop-place.place + 1) c.args.clients.now c.args.mount.now z c.close.new.clients c.close.new.mount in
    record {
      closed = subst H (sym c.worse-worst.ensures)
          (one_closed c.loop-place.place c.args.clients.now c.loop-place.clients c.close.new.clients c.args.mount.now c.loop-place.mount c.close.new.mount c.loop-place.worst c.in_ok-trouble.trouble c.loop-place.invariant.closed c.in_ok-trouble.ensures.closes);
      fine = c.close.ensures.fine;
    }
