use Rattle.packing_laws.proofs.Endings.Undamaged.{Writers, named_undamaged, packed_undamaged, unpacked_undamaged}
use Rattle.packing_laws.proofs.units.a_container_of_units_shows_no_damage.Goals as goal

pub returns-clause-unpack : goal.returns-clause-unpack
returns-clause-unpack c =
    unpacked_undamaged c.an_opening_opens_a_reader.ensures c.a_scan_tells_the_units_of_its_region.ensures c.an_open_reader_reads_its_file.ensures.bytes c.an_open_reader_reads_its_file.ensures.trouble

pub returns-clause-names : goal.returns-clause-names
returns-clause-names c =
    named_undamaged c.an_opening_opens_a_reader.ensures c.a_scan_tells_the_units_of_its_region.ensures c.an_open_reader_reads_its_file.ensures.bytes c.an_open_reader_reads_its_file.ensures.trouble

pub returns-clause-pack : goal.returns-clause-pack
returns-clause-pack c =
    let writers : Writers = record {
      opening = λ name. c.a_statement_shows_no_damage.ensures.open name 0 64;
      writing = c.a_statement_shows_no_damage.ensures.write;
      syncing = c.a_statement_shows_no_damage.ensures.sync;
      closing = c.a_statement_shows_no_damage.ensures.close;
    } in
    packed_undamaged c.an_opening_opens_a_reader.ensures c.a_scan_tells_the_units_of_its_region.ensures c.an_open_reader_reads_its_file.ensures.bytes c.an_open_reader_reads_its_file.ensures.trouble writers
