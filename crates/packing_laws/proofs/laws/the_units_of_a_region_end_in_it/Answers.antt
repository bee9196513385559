use Rattle.packing_laws.proofs.Unpacking.Ends.{ends_from, ends_until}
use Rattle.packing_laws.proofs.laws.the_units_of_a_region_end_in_it.Goals as goal

pub returns-clause-from : goal.returns-clause-from
returns-clause-from c = ends_from

pub returns-clause-until : goal.returns-clause-until
returns-clause-until c = ends_until
