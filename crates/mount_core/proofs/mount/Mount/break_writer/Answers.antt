use Rattle.std.proofs.Common.{◌≡◌, ◌<◌, length, subst}
use Rattle.std.specs.Prelude.{slice_get}
use Rattle.mount_model.specs.State.{State}
use Rattle.mount_model.specs.Table.{writer_of}
use Rattle.mount_table.specs.Stages.{allowed}
use Rattle.mount_core.specs.Breaking.{all_or_none}
use Rattle.mount_core.specs.WholeCalls.{row_act}
use Rattle.mount_core.proofs.WholeCalls.{part_at, part_is}
use Rattle.mount_core.proofs.mount.Mount.break_writer.Goals as goal

pub returns-in-Some : goal.returns-in-Some
returns-in-Some g c =
    let same = subst (λ (s : State). slice_get s.table.writers c.in-Some.place ≡ writer_of c.args.caller (allowed c.args.stages) c.args.writer s.table.writers) c.self.view_is c.in-Some.ensures.some in
    let within = subst (λ (s : State). c.in-Some.place < length s.table.writers) c.self.view_is c.in-Some.ensures.within in
    part_is c.args.k c.args.caller c.args.writer c.args.self.now c.args.call c.args.stages c.break_row.result c.break_row.new.self c.requires
    (part_at (all_or_none c.args.k) (row_act c.args.call) c.args.self.now.table.writers c.in-Some.place _ c.args.self.now c.break_row.result c.break_row.new.self within same c.break_row.ensures)
