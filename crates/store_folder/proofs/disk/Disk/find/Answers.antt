use Rattle.store_folder.specs.Places.{IsNamed}
use Rattle.store_folder.proofs.disk.Disk.find.Goals as goal

-- the files that are open don't tell how the room is named
pub returns-in-None-clause-fails : goal.returns-in-None-clause-fails
unfolding IsNamed
returns-in-None-clause-fails g c = c.open_file.ensures.fails
