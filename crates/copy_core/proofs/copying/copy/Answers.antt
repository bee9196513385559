use Rattle.std.proofs.Common.{Ok, Err, refl}
use Rattle.mount_core.proofs.Memory.{on_err}
use Rattle.copy_core.specs.Copying.{clears_none, to_clear}
use Rattle.copy_core.proofs.Copies.{cleared_value, copy_broken, copy_so}
use Rattle.copy_core.proofs.copying.copy.Goals as goal

pub returns-in-Ok-clause-copies : goal.returns-in-Ok-clause-copies
returns-in-Ok-clause-copies g c =
    let given = g.I.Source.given in
    copy_so c.args.name c.args.host c.args.over c.args.mount.now (given c.args.input.now) c.clear.new.mount c.copy_into.new.mount (given c.copy_into.new.input) c.copy_into.result
    (cleared_value c.args.over c.args.name c.args.mount.now c.in_ok-cleared.cleared (Ok tt) c.clear.new.mount c.in-Ok.is c.in_ok-cleared.ensures.clears) c.copy_into.ensures.copies

pub returns-in-Ok-clause-broken_off : goal.returns-in-Ok-clause-broken_off
returns-in-Ok-clause-broken_off g c =
    let given = g.I.Source.given in
    copy_broken c.args.name c.args.host c.args.over c.args.mount.now (given c.args.input.now) c.clear.new.mount c.copy_into.new.mount (given c.copy_into.new.input) c.copy_into.result
    (cleared_value c.args.over c.args.name c.args.mount.now c.in_ok-cleared.cleared (Ok tt) c.clear.new.mount c.in-Ok.is c.in_ok-cleared.ensures.clears) c.copy_into.ensures.broken_off

pub returns-in-Err-clause-copies : goal.returns-in-Err-clause-copies
returns-in-Err-clause-copies g c =
    clears_none c.in-Err.why (cleared_value c.args.over c.args.name c.args.mount.now c.in_ok-cleared.cleared (Err c.in-Err.why) c.clear.new.mount c.in-Err.is c.in_ok-cleared.ensures.clears) refl refl

pub returns-in_err-cleared-clause-broken_off : goal.returns-in_err-cleared-clause-broken_off
returns-in_err-cleared-clause-broken_off g c = on_err c.from_residual.result _ (to_clear c.in_err-cleared.ensures.broken_off refl)
