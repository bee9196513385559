use Rattle.std.proofs.Common.{Err, subst, sym}
use Rattle.program_ends.specs.Reported.{IsReported}
use Rattle.drain_copy.specs.declared.outcome.DrainStuck.{DrainStuck}
use Rattle.drain_program.specs.Reporting.{drain_status, drain_text, report_of}
use Rattle.drain_program.proofs.saying.say_stuck.Goals as goal

pub returns-in-Taken : goal.returns-in-Taken
returns-in-Taken g c = subst (λ (why : DrainStuck). IsReported (drain_text (report_of (Err why))) (drain_status (report_of (Err why))) (g.O.Sink.taking c.args.out.now) (g.O.Sink.taking c.say_taken.new.out) c.say_taken.result) (sym c.in-Taken.is) c.say_taken.ensures
