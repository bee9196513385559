use Rattle.std.proofs.Common.{sym, subst}
use Rattle.tree_check.specs.declared.halting.Halt.{Halt}
use Rattle.program_ends.specs.Reported.{IsReported}
use Rattle.check_program.specs.Lines.{halt_status, halt_text}
use Rattle.check_program.proofs.saying.say_halt.Goals as goal

pub returns-in-Untold : goal.returns-in-Untold
returns-in-Untold g c =
    subst (λ (halt : Halt). IsReported (halt_text c.args.room halt) (halt_status halt) (g.O.Sink.taking c.args.out.now) (g.O.Sink.taking c.say_unreadable.new.out) c.say_unreadable.result) (sym c.in-Untold.is) c.say_unreadable.ensures
