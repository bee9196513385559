use Rattle.packing_laws.proofs.SmallFiles.FirstUnits.{scan_good, scan_told}
use Rattle.packing_laws.proofs.units.a_scan_of_units_finds_none_bad.Goals as goal

pub returns-clause-scan : goal.returns-clause-scan
returns-clause-scan c = scan_told c.a_scan_tells_the_units_of_its_region.ensures

pub returns-clause-good : goal.returns-clause-good
returns-clause-good c = scan_good c.a_scan_tells_the_units_of_its_region.ensures
