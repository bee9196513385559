use Rattle.packing_laws.proofs.Unpacking.OneFile.{unpacked}
use Rattle.packing_laws.proofs.laws.who_unpacks_sees_one_file.Goals as goal

pub returns : goal.returns
returns c =
    unpacked c.an_opening_opens_a_reader.ensures c.a_scan_tells_the_units_of_its_region.ensures c.an_open_reader_reads_its_file.ensures.bytes c.an_open_reader_reads_its_file.ensures.trouble
