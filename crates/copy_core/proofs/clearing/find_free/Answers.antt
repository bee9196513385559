use Rattle.lone_flow.proofs.SmallReads.Broken.{begins_so}
use Rattle.lone_flow.proofs.SmallReads.Freely.{asks_so, makes_so}
use Rattle.copy_core.specs.Clearing.{free_program}
use Rattle.copy_core.proofs.Clearings.{free_free}
use Rattle.copy_core.proofs.clearing.find_free.Goals as goal

pub drive_freely-requires : goal.drive_freely-requires
drive_freely-requires g c = record { free = asks_so _ _ c.new.ensures (free_free c.args.name); fine = c.requires }

pub returns-clause-makes : goal.returns-clause-makes
returns-clause-makes g c = makes_so c.drive_freely.result _ (free_program c.args.name) c.args.mount.now c.drive_freely.new.mount c.new.ensures c.drive_freely.ensures.drives

pub returns-clause-broken_off : goal.returns-clause-broken_off
returns-clause-broken_off g c = begins_so c.drive_freely.result _ (free_program c.args.name) c.args.mount.now c.drive_freely.new.mount c.new.ensures c.drive_freely.ensures.broken_off
