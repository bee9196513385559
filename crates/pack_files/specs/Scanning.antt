-- The calls of a scan: those of a read of each chunk of the region, up to the end of its units.
use Rattle.std.specs.Prelude.{ℕ, zero, suc, ◌+◌, ◌-◌, ◌*◌, ◌^◌, min, max, if◌then◌else◌, List, [], length, map, Option, Some, None, Result, Ok, Err}
use Rattle.std.specs.Int.{div_ceil}
use Rattle.plfs_types.specs.declared.entries.Key.{Key}
use Rattle.plain_file.specs.declared.pieces.Piece.{Piece}
use Rattle.plain_file.specs.Sources.{Source, source_at}
use Rattle.read_plan.specs.Plan.{plan_of}
use Rattle.mount_model.specs.declared.call.Call.{Call}
use Rattle.mount_model.specs.declared.reply.Reply.{Reply}
use Rattle.mount_model.specs.declared.stuck.Stuck.{Stuck as Trouble}
use Rattle.mount_model.specs.Program.{Program, done, followed_by}
use Rattle.index_reader.specs.declared.opened.OpenReader.{OpenReader}
use Rattle.index_reader.specs.Reading.{read_program}
use Rattle.unit_format.specs.declared.units.TheConstants.{REGION_SIZE}
use Rattle.unit_format.specs.declared.scanner.Scanner.{Scanner}
use Rattle.unit_format.specs.declared.finding.Unit.{Unit as Found}
use Rattle.unit_format.specs.declared.finding.Region.{Region}
use Rattle.unit_format.specs.Scanning.{begins_at, eaten, finished, is_settled}
use Rattle.pack_files.specs.declared.scan.ScanStuck.{ScanStuck}
use Rattle.pack_files.specs.declared.scan.ScanStuck.TheVariants.{Stuck, Bad}

-- ---- the units

-- the key of a source, or zeros where there is none
abbrev pub key_of : Option Source → Key
key_of None = record { stamp = 0; writer = 0 }
key_of (Some s) = record { stamp = s.stamp; writer = s.writer }

-- the key of the piece that has this byte
abbrev pub key_at : List Piece → ℕ → Key
key_at pieces place = key_of (source_at pieces place)

-- the unit with the key of its first byte
abbrev pub unit_of : List Piece → Found → Found
unit_of pieces u = record { name = u.name; at = u.at; len = u.len; key = key_at pieces (u.at - (16 + length u.name)) }

abbrev pub units_of : List Piece → List Found → List Found
units_of pieces units = map (unit_of pieces) units

-- ---- the calls

abbrev pub chunk_size : ℕ
chunk_size = 2 ^ 20

abbrev pub further : ℕ → ℕ
further here = min (here + chunk_size) (2 ^ 64 - 1)

abbrev pub Scans : Type 0
Scans = Program Call Reply (Result Region ScanStuck)

abbrev pub told_as : List Piece → Result Region ℕ → Result Region ScanStuck
told_as pieces (Ok r) = Ok (record { units = units_of pieces r.units; end = r.end })
told_as pieces (Err place) = Err (Bad place)

-- what a scan comes to
abbrev pub told : List Piece → Scanner → Result Region ScanStuck
told pieces s = told_as pieces (finished s)

-- behind a read the scan goes on, or ends with its trouble
abbrev pub read_then : (List ℕ → Scans) → Result (List ℕ) Trouble → Scans
read_then next (Ok bytes) = next bytes
read_then next (Err why) = done (Err (Stuck why))

-- so many chunks are left, the first one at this place
abbrev pub scans : OpenReader → ℕ → ℕ → Scanner → Scans
scans r zero here s = done (told r.pieces s)
scans r (suc k) here s =
    if is_settled s.part
    then done (told r.pieces s)
    else followed_by (read_program r.room r.hosts (plan_of r.pieces r.size here chunk_size)) (read_then (λ bytes. scans r k (further here) (eaten s bytes)))

-- what follows the read of a chunk
abbrev pub after_read : OpenReader → ℕ → ℕ → Scanner → Result (List ℕ) Trouble → Scans
after_read r k next s = read_then (λ bytes. scans r k next (eaten s bytes))

-- where the bytes of a region end that a file of this size has
abbrev pub region_end : ℕ → ℕ → ℕ → ℕ
region_end size start stop = max (min stop size) start

abbrev pub scan_program : OpenReader → ℕ → Scans
scan_program r region =
    let start = region * REGION_SIZE in
    let stop = region * REGION_SIZE + REGION_SIZE in
    let end = region_end r.size start stop in
    scans r (div_ceil (end - start) chunk_size) start (begins_at stop end start [])

-- how many parts the reads of so many chunks have
abbrev pub calls_in : OpenReader → ℕ → ℕ → ℕ
calls_in r zero here = 0
calls_in r (suc k) here = length (plan_of r.pieces r.size here chunk_size) + calls_in r k (further here)
