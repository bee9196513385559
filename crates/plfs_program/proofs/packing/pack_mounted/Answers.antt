use Rattle.std.proofs.Common.{List, refl, subst}
use Rattle.pack_input.specs.declared.files.NamedFile.{NamedFile}
use Rattle.program_ends.specs.Reported.{IsReported}
use Rattle.plfs_program.specs.Packing.{broke_off, end_of, ended_so, packed_status, packed_text}
use Rattle.plfs_program.proofs.packing.pack_mounted.Goals as goal

pub returns : goal.returns
returns g c =
    ended_so c.in-Ok.told c.in-Ok.ensures.packs
    (subst (λ (files : List NamedFile). IsReported (packed_text files (end_of c.in-Ok.told)) (packed_status (end_of c.in-Ok.told)) (g.O.Sink.taking c.args.out.now) (g.O.Sink.taking c.say_packed.new.out) c.say_packed.result) c.as_slice.ensures
    c.say_packed.ensures)

pub returns-in_default : goal.returns-in_default
returns-in_default g c = broke_off c.in_default.ensures.broken_off refl refl
