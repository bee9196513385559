use Rattle.container_layout.proofs.Short.{short_file, short_folder}
use Rattle.container_layout.proofs.laws.short_names.Goals as goal

pub returns : goal.returns
returns c = λ item is. (short_folder item, short_file item is)
