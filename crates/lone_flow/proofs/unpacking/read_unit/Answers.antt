use Rattle.std.proofs.Common.{ℕ, min, ap, ◌∙◌}
use Rattle.mount_model.specs.Standing.{ready}
use Rattle.read_plan.specs.Plan.{plan_of}
use Rattle.index_reader.specs.Reading.{read_program}
use Rattle.unit_format.specs.declared.units.TheConstants.{MAX_CONTENT}
use Rattle.lone_flow.proofs.SmallReads.Broken.{begins_so}
use Rattle.lone_flow.proofs.SmallReads.Freely.{asks_so, makes_so}
use Rattle.lone_flow.proofs.SmallReads.Looked.{looked_so}
use Rattle.lone_flow.proofs.SmallReads.Looks.{read_free, read_looks}
use Rattle.lone_flow.proofs.unpacking.read_unit.Goals as goal

pub drive_freely-requires : goal.drive_freely-requires
drive_freely-requires g c = record { free = asks_so _ _ c.in_ok-machine.ensures.standing (read_free c.args.reader.now.room c.args.reader.now.hosts (plan_of c.args.reader.now.pieces c.args.reader.now.size c.args.unit.now.at c.min.result)); fine = c.requires }

pub returns-clause-reads : goal.returns-clause-reads
returns-clause-reads g c =
    makes_so c.drive_freely.result _ (read_program c.args.reader.now.room c.args.reader.now.hosts (plan_of c.args.reader.now.pieces c.args.reader.now.size c.args.unit.now.at (min c.args.unit.now.len MAX_CONTENT)))
    c.args.mount.now c.drive_freely.new.mount
    (c.in_ok-machine.ensures.standing ∙ ap (λ (n : ℕ). ready (read_program c.args.reader.now.room c.args.reader.now.hosts (plan_of c.args.reader.now.pieces c.args.reader.now.size c.args.unit.now.at n))) c.min.ensures)
    c.drive_freely.ensures.drives

pub returns-clause-looks : goal.returns-clause-looks
returns-clause-looks g c =
    looked_so c.drive_freely.result _ (read_program c.args.reader.now.room c.args.reader.now.hosts (plan_of c.args.reader.now.pieces c.args.reader.now.size c.args.unit.now.at (min c.args.unit.now.len MAX_CONTENT)))
    c.args.mount.now c.drive_freely.new.mount
    (c.in_ok-machine.ensures.standing ∙ ap (λ (n : ℕ). ready (read_program c.args.reader.now.room c.args.reader.now.hosts (plan_of c.args.reader.now.pieces c.args.reader.now.size c.args.unit.now.at n))) c.min.ensures)
    (read_looks c.args.reader.now.room c.args.reader.now.hosts (plan_of c.args.reader.now.pieces c.args.reader.now.size c.args.unit.now.at (min c.args.unit.now.len MAX_CONTENT)))
    c.drive_freely.ensures.drives c.drive_freely.ensures.broken_off

pub returns-clause-broken_off : goal.returns-clause-broken_off
returns-clause-broken_off g c =
    begins_so c.drive_freely.result _ (read_program c.args.reader.now.room c.args.reader.now.hosts (plan_of c.args.reader.now.pieces c.args.reader.now.size c.args.unit.now.at (min c.args.unit.now.len MAX_CONTENT)))
    c.args.mount.now c.drive_freely.new.mount
    (c.in_ok-machine.ensures.standing ∙ ap (λ (n : ℕ). ready (read_program c.args.reader.now.room c.args.reader.now.hosts (plan_of c.args.reader.now.pieces c.args.reader.now.size c.args.unit.now.at n))) c.min.ensures)
    c.drive_freely.ensures.broken_off
