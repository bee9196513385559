use Rattle.std.proofs.Common.{rules, ◌≡◌, ◌∙◌, ap}
use Rattle.std.specs.Prelude.{◌≢◌}
use Rattle.check_program.specs.Course.{halted, unsaid}
use Rattle.check_program.specs.Lines.{are_some, complaint_lines}
use Rattle.check_program.proofs.Printing.{printed_of, unsaid_of}
use Rattle.check_program.proofs.rooms.say_room.Goals as goal

pub returns-in-Err-clause-err : goal.returns-in-Err-clause-err
returns-in-Err-clause-err g c = halted (record { halt = c.in-Err.halt; why = c.in-Err.ensures.err; reported = c.say_halt.ensures })

pub returns-then-status-ne0-clause-err : goal.returns-then-status-ne0-clause-err
returns-then-status-ne0-clause-err g c =
    let other : c.say_complaints-status.result ≢ 0 = search rules in
    unsaid c.in-Ok.found c.in-Ok.ensures.ok
    (unsaid_of (complaint_lines c.in-Ok.found) (g.O.Sink.taking c.args.out.now) (g.O.Sink.taking c.say_complaints-status.new.out) c.say_complaints-status.result (rw c.as_slice.ensures at c.say_complaints-status.ensures) other)

pub returns-clause-ok : goal.returns-clause-ok
returns-clause-ok g c =
    let all : c.say_complaints-status.result ≡ 0 = search rules in
    record {
      found = c.in-Ok.found;
      told = c.in-Ok.ensures.ok;
      printed = printed_of (complaint_lines c.in-Ok.found) (g.O.Sink.taking c.args.out.now) (g.O.Sink.taking c.say_complaints-status.new.out) c.say_complaints-status.result (rw c.as_slice.ensures at c.say_complaints-status.ensures) all;
      any = c.are_some.ensures ∙ ap are_some c.as_slice-2.ensures;
    }
