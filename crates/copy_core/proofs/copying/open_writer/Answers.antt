use Rattle.std.proofs.Common.{arith}
use Rattle.writer_flow.specs.Opening.{open_program}
use Rattle.lone_flow.proofs.SmallReads.Broken.{begins_so}
use Rattle.lone_flow.proofs.SmallReads.Freely.{asks_so, makes_so}
use Rattle.lone_flow.proofs.SmallPuts.Facts.{open_free}
use Rattle.copy_core.proofs.copying.open_writer.Goals as goal

pub drive_freely-requires : goal.drive_freely-requires
drive_freely-requires g c = record { free = asks_so _ _ c.new.ensures (open_free c.args.name c.args.host 1 (omega arith) (omega arith)); fine = c.requires }

pub returns-clause-makes : goal.returns-clause-makes
returns-clause-makes g c = makes_so c.drive_freely.result _ (open_program c.args.name c.args.host 1) c.args.mount.now c.drive_freely.new.mount c.new.ensures c.drive_freely.ensures.drives

pub returns-clause-broken_off : goal.returns-clause-broken_off
returns-clause-broken_off g c = begins_so c.drive_freely.result _ (open_program c.args.name c.args.host 1) c.args.mount.now c.drive_freely.new.mount c.new.ensures c.drive_freely.ensures.broken_off
