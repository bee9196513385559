use Rattle.container_layout.proofs.Places.{item_found}
use Rattle.container_layout.proofs.reading.read.Goals as goal

pub returns-clause-only : goal.returns-clause-only
returns-clause-only c = item_found c.args.path.now c.by_folder.result c.by_folder.ensures.found c.by_folder.ensures.none
