use Rattle.trunc_rename.specs.TruncateStages.{truncate_standing}
use Rattle.trunc_rename.specs.Truncating.{truncate_program}
use Rattle.lone_flow.proofs.SmallReads.Broken.{begins_so}
use Rattle.lone_flow.proofs.SmallReads.Freely.{fine_still, makes_so}
use Rattle.copy_core.proofs.Clearings.{may_cut}
use Rattle.copy_core.proofs.clearing.cut_to_nothing.Goals as goal

pub drive-requires : goal.drive-requires
drive-requires g c = record { may = may_cut _ c.args.name c.args.mount.now c.new.ensures c.a_truncate_is_always_allowed.ensures c.requires }

pub returns-clause-makes : goal.returns-clause-makes
returns-clause-makes g c = makes_so c.drive.result _ (truncate_program c.args.name 0) c.args.mount.now c.drive.new.mount c.new.ensures c.drive.ensures.drives

pub returns-clause-broken_off : goal.returns-clause-broken_off
returns-clause-broken_off g c = begins_so c.drive.result _ (truncate_program c.args.name 0) c.args.mount.now c.drive.new.mount c.new.ensures c.drive.ensures.broken_off

pub returns-clause-fine : goal.returns-clause-fine
returns-clause-fine g c = fine_still (truncate_standing c.new.result) c.args.mount.now c.drive.new.mount c.drive.result c.drive.ensures.drives c.drive.ensures.broken_off c.requires
