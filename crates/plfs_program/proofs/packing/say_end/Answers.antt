use Rattle.std.proofs.Common.{Ok, sym, subst}
use Rattle.lone_flow.specs.declared.packing.Packed.{Packed}
use Rattle.program_ends.specs.Reported.{IsReported}
use Rattle.plfs_program.specs.Packing.{packed_status, packed_text}
use Rattle.plfs_program.proofs.packing.say_end.Goals as goal

pub returns-in-Full : goal.returns-in-Full
returns-in-Full g c =
    subst (λ (packed : Packed). IsReported (packed_text c.args.files.now (Ok packed)) (packed_status (Ok packed)) (g.O.Sink.taking c.args.out.now) (g.O.Sink.taking c.say_text.new.out) c.say_text.result) (sym c.in-Full.is)
    c.say_text.ensures.reported
