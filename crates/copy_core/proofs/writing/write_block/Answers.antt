use Rattle.lone_flow.proofs.SmallReads.Freely.{asks_so}
use Rattle.lone_flow.proofs.SmallPuts.Facts.{write_free}
use Rattle.copy_core.proofs.writing.write_block.Goals as goal

pub drive_freely-requires : goal.drive_freely-requires
drive_freely-requires g c = record { free = asks_so _ _ c.new.ensures (write_free c.args.placing.handle c.args.placing.at c.args.block); fine = c.requires.fine }
