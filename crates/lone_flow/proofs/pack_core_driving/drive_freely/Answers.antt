use Rattle.lone_flow.proofs.SmallReads.Freely.{fine_still, may_drive}
use Rattle.lone_flow.proofs.pack_core_driving.drive_freely.Goals as goal

pub drive-requires : goal.drive-requires
drive-requires g c = record { may = may_drive (g.F.Flow.standing c.args.machine) c.args.mount.now c.requires.free c.requires.fine }

pub returns-clause-fine : goal.returns-clause-fine
returns-clause-fine g c = fine_still (g.F.Flow.standing c.args.machine) c.args.mount.now c.drive.new.mount c.drive.result c.drive.ensures.drives c.drive.ensures.broken_off c.requires.fine
