-- Where the stages of a scan stand in its program.
use Rattle.std.specs.Prelude.{ℕ, ◌+◌, Bool, true, Result}
use Rattle.mount_model.specs.declared.call.Call.{Call}
use Rattle.mount_model.specs.declared.reply.Reply.{Reply}
use Rattle.mount_model.specs.Program.{done}
use Rattle.mount_model.specs.Standing.{Standing, ready, rest_of}
use Rattle.mount_model.specs.Composed.{is_awaiting, then_on}
use Rattle.index_reader.specs.declared.opened.OpenReader.{OpenReader}
use Rattle.index_reader.specs.ReadingStages.{read_standing, read_left}
use Rattle.unit_format.specs.declared.finding.Region.{Region}
use Rattle.pack_files.specs.declared.scan.ScanStuck.{ScanStuck}
use Rattle.pack_files.specs.declared.reading.Stage.{Stage}
use Rattle.pack_files.specs.declared.reading.Stage.TheVariants.{Reading, Ended}
use Rattle.pack_files.specs.Scanning.{after_read, calls_in}

abbrev pub stage_standing : OpenReader → Stage → Standing Call Reply (Result Region ScanStuck)
stage_standing r (Reading reading chunks next scanner) = then_on (read_standing reading) (after_read r chunks next scanner)
stage_standing r (Ended result) = ready (done result)

-- a bound on the calls that are left
abbrev pub stage_left : OpenReader → Stage → ℕ
stage_left r (Reading reading chunks next scanner) = read_left reading + calls_in r chunks next
stage_left r (Ended result) = 0

-- how many chunks are left, with the one that is read
abbrev pub chunks_left : Stage → ℕ
chunks_left (Reading reading chunks next scanner) = chunks + 1
chunks_left (Ended result) = 0

-- a chunk has a further call, or the scan has ended
abbrev pub is_underway : Stage → Bool
is_underway (Reading reading chunks next scanner) = is_awaiting (rest_of (read_standing reading))
is_underway (Ended result) = true
