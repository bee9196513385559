use Rattle.reader_laws.proofs.Calls.LogReads.{reads_bytes, reads_trouble}
use Rattle.reader_laws.proofs.laws.an_open_reader_reads_its_file.Goals as goal

pub returns-clause-bytes : goal.returns-clause-bytes
returns-clause-bytes c = reads_bytes

pub returns-clause-trouble : goal.returns-clause-trouble
returns-clause-trouble c = reads_trouble
