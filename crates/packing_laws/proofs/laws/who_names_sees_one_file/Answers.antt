use Rattle.packing_laws.proofs.Unpacking.OneFile.{named}
use Rattle.packing_laws.proofs.laws.who_names_sees_one_file.Goals as goal

pub returns : goal.returns
returns c = named c.an_opening_opens_a_reader.ensures c.a_scan_tells_the_units_of_its_region.ensures
