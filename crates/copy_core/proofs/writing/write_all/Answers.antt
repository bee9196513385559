use Rattle.std.proofs.Common.{◌+◌, ◌≡◌, refl, arith}
use Rattle.plfs_types.specs.declared.bytes.TheConstants.{MAX_BLOCK}
use Rattle.mount_core.proofs.Memory.{on_err}
use Rattle.copy_core.specs.declared.writing.Step.TheVariants.{Last, More, Stopped}
use Rattle.copy_core.specs.Writing.{stuck, too_far}
use Rattle.copy_core.proofs.Writings.{goes_on, step_value, written_more, written_none, written_whole}
use Rattle.copy_core.proofs.writing.write_all.Goals as goal

pub returns-in-Last-clause-writes : goal.returns-in-Last-clause-writes
returns-in-Last-clause-writes g c =
    let given = g.I.Source.given in
    written_whole c.args.handle c.in-Last.is_whole c.args.mount.now (given c.args.input.now) c.loop-placing.placing c.loop-placing.mount (given c.loop-placing.input) c.in-Last.last c.write_next.new.mount (given c.write_next.new.input) c.loop-placing.invariant.written
    (step_value c.loop-placing.placing c.loop-placing.mount (given c.loop-placing.input) c.in_ok-step.step (Last c.in-Last.last c.in-Last.is_whole) c.write_next.new.mount (given c.write_next.new.input) c.in-Last.is c.in_ok-step.ensures.steps)

pub returns-in-Stopped-clause-writes : goal.returns-in-Stopped-clause-writes
returns-in-Stopped-clause-writes g c =
    let given = g.I.Source.given in
    stuck c.loop-placing.placing c.loop-placing.mount (given c.loop-placing.input) c.loop-placing.invariant.written
    (step_value c.loop-placing.placing c.loop-placing.mount (given c.loop-placing.input) c.in_ok-step.step (Stopped c.in-Stopped.why) c.write_next.new.mount (given c.write_next.new.input) c.in-Stopped.is c.in_ok-step.ensures.steps)

pub loop-placing-preserved : goal.loop-placing-preserved
loop-placing-preserved g c =
    let given = g.I.Source.given in
    record {
      written = written_more c.args.handle c.args.mount.now (given c.args.input.now) c.loop-placing.placing c.loop-placing.mount (given c.loop-placing.input) c.in-More.next c.write_next.new.mount (given c.write_next.new.input) c.loop-placing.invariant.written
          (step_value c.loop-placing.placing c.loop-placing.mount (given c.loop-placing.input) c.in_ok-step.step (More c.in-More.next) c.write_next.new.mount (given c.write_next.new.input) c.in-More.is c.in_ok-step.ensures.steps);
      fine = c.in_ok-step.ensures.fine;
    }

pub loop-placing-smaller : goal.loop-placing-smaller
loop-placing-smaller g c =
    let given = g.I.Source.given in
    let further : c.in-More.next.at ≡ c.loop-placing.placing.at + MAX_BLOCK = goes_on c.loop-placing.placing c.loop-placing.mount (given c.loop-placing.input) c.in-More.next c.write_next.new.mount (given c.write_next.new.input)
    (step_value c.loop-placing.placing c.loop-placing.mount (given c.loop-placing.input) c.in_ok-step.step (More c.in-More.next) c.write_next.new.mount (given c.write_next.new.input) c.in-More.is c.in_ok-step.ensures.steps) in
    omega (arith, further, c.loop-placing-test.true)

pub returns-in_err-step-clause-broken_off : goal.returns-in_err-step-clause-broken_off
returns-in_err-step-clause-broken_off g c =
    on_err c.from_residual.result _
    (record { last = c.loop-placing.placing; between = c.loop-placing.mount; mid = g.I.Source.given c.loop-placing.input; written = c.loop-placing.invariant.written; next = c.in_err-step.ensures.broken_off })

pub returns-clause-writes : goal.returns-clause-writes
returns-clause-writes g c = too_far c.loop-placing.placing c.loop-placing.invariant.written (omega (arith, c.loop-placing-test.false)) refl

pub loop-placing-init : goal.loop-placing-init
loop-placing-init g c = record { written = written_none c.args.handle c.args.mount.now (g.I.Source.given c.args.input.now); fine = c.requires }
