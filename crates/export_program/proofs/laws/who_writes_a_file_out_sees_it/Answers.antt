use Rattle.export_program.proofs.Seeing.{seen_whole}
use Rattle.export_program.proofs.laws.who_writes_a_file_out_sees_it.Goals as goal

pub returns : goal.returns
returns c = seen_whole c.an_opening_opens_a_reader.ensures c.an_open_reader_reads_its_file.ensures.bytes
