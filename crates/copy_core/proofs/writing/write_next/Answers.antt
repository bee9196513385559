use Rattle.std.proofs.Common.{sym, subst}
use Rattle.mount_core.proofs.Memory.{on_err}
use Rattle.copy_core.specs.declared.writing.Step.{Step}
use Rattle.copy_core.specs.Writing.{Steps, to_write}
use Rattle.copy_core.proofs.Writings.{no_longer, steps_so}
use Rattle.copy_core.proofs.writing.write_next.Goals as goal

pub returns-in_err-wrote-clause-broken_off : goal.returns-in_err-wrote-clause-broken_off
returns-in_err-wrote-clause-broken_off g c =
    let given = g.I.Source.given in
    on_err c.from_residual-in_err-wrote.result _
    (to_write c.in_ok-piece.piece.bytes c.in_ok-piece.piece.ending (c.in_err-wrote.ensures.some, no_longer c.in_ok-piece.piece.bytes c.in_ok-piece.piece.ending (given c.args.input.now) (given c.read_block.new.input) c.in_ok-piece.ensures.filled) c.in_ok-piece.ensures.filled c.in_err-wrote.ensures.broken_off)

pub returns-clause-steps : goal.returns-clause-steps
returns-clause-steps g c =
    let given = g.I.Source.given in
    subst (λ (s : Step). Steps c.args.placing c.args.mount.now (given c.args.input.now) s c.write_bytes.new.mount (given c.read_block.new.input)) (sym c.step_of.ensures)
    (steps_so c.args.placing c.in_ok-piece.piece.bytes c.in_ok-piece.piece.ending c.in_ok-wrote.wrote c.args.mount.now (given c.args.input.now) c.write_bytes.new.mount (given c.read_block.new.input) c.in_ok-piece.ensures.filled c.in_ok-wrote.ensures.writes)
