use Rattle.lone_flow.proofs.SmallReads.Freely.{asks_so}
use Rattle.lone_flow.proofs.SmallPuts.Writers.{close_free}
use Rattle.lone_flow.proofs.settling.close.Goals as goal

pub drive_freely-requires : goal.drive_freely-requires
drive_freely-requires g c = record { free = asks_so _ _ c.new.ensures (close_free c.in-Some.handle); fine = c.requires }
