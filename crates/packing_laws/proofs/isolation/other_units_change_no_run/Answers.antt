use Rattle.packing_laws.proofs.SmallFiles.Answering.{runs_same}
use Rattle.packing_laws.proofs.isolation.other_units_change_no_run.Goals as goal

pub returns : goal.returns
returns c = runs_same c.who_unpacks_sees_one_file.ensures c.the_units_of_a_region_stand_apart.ensures c.others_change_nothing.ensures
