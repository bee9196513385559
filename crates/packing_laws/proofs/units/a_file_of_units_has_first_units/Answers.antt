use Rattle.packing_laws.proofs.SmallFiles.FirstUnits.{first_units, view_bytes}
use Rattle.packing_laws.proofs.units.a_file_of_units_has_first_units.Goals as goal

pub returns-clause-bytes : goal.returns-clause-bytes
returns-clause-bytes c = view_bytes

pub returns-clause-units : goal.returns-clause-units
returns-clause-units c = first_units
