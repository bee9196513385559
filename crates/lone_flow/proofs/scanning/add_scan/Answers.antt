use Rattle.std.proofs.Common.{inl, inr}
use Rattle.mount_core.proofs.Memory.{on_err}
use Rattle.lone_flow.proofs.scanning.add_scan.Goals as goal

pub returns-in_err-found-clause-broken_off : goal.returns-in_err-found-clause-broken_off
returns-in_err-found-clause-broken_off g c = on_err c.from_residual.result _ (inl c.in_err-found.ensures.broken_off)
