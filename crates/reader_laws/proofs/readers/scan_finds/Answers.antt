use Rattle.reader_laws.proofs.Gathered.Containers.Scans.{scan_finds}
use Rattle.reader_laws.proofs.readers.scan_finds.Goals as goal

pub returns : goal.returns
returns c = scan_finds
