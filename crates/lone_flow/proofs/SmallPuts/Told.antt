-- What is told of the whole by what each part told.
use Rattle.std.proofs.Common.{◌≡◌, ℕ, Result, Ok, Err, subst}
use Rattle.std.specs.Prelude.{IfOk}
use Rattle.plfs_types.specs.declared.memory.NoMemory.{NoMemory}
use Rattle.mount_model.specs.declared.stuck.Stuck.{Stuck as Trouble}
use Rattle.mount_model.specs.Standing.{Standing, ready}
use Rattle.mount_model.specs.Program.{Program}
use Rattle.mount_model.specs.declared.call.Call.{Call}
use Rattle.mount_model.specs.declared.reply.Reply.{Reply}
use Rattle.mount_model.specs.State.{State}
use Rattle.mount_model.specs.Paths.{Name}
use Rattle.lone_flow.specs.Driving.{Drives, Makes}
use Rattle.index_reader.specs.declared.opened.OpenReader.{OpenReader}
use Rattle.opening_flow.specs.Opening.{opening_program}
use Rattle.writer_flow.specs.declared.handle.WriterHandle.{WriterHandle}
use Rattle.writer_flow.specs.declared.handle.WriterOut.{WriterOut}
use Rattle.writer_flow.specs.Syncing.{sync_program}
use Rattle.pack_files.specs.declared.scan.ScanStuck.{ScanStuck}
use Rattle.lone_flow.specs.Beginning.{BeginsAt, ScansFor, opens}
use Rattle.lone_flow.specs.Settling.{Closes, Settles}

-- ---- what was told, by another name

pub makes_value : {R : Type 0} (program : Program Call Reply R) (start : State) (told other : R) (end : State) → told ≡ other → Makes program start told end → Makes program start other end
makes_value {R} program start told other end same makes = subst (λ (r : R). Makes program start r end) same makes

-- a machine before its first call
pub made_so : {R : Type 0} (standing : Standing Call Reply R) (program : Program Call Reply R) (start : State) (out : R) (end : State) → standing ≡ ready program → Drives standing start out end → Makes program start out end
made_so {R} standing program start out end is drives = subst (λ (s : Standing Call Reply R). Drives s start out end) is drives

-- ---- one part after the other

pub begun : (name : Name) (region : ℕ) (reader : OpenReader) (start opened end : State) (result : Result (Result ℕ ScanStuck) NoMemory)
    → Makes (opening_program name 1) start (Ok reader) opened → IfOk result (λ told. ScansFor reader region opened told end) → IfOk result (λ told. BeginsAt name region start told end)
begun name region reader start opened end (Ok told) makes scans = opens reader opened makes scans
begun name region reader start opened end (Err why) makes scans = tt

pub settled : (handle : WriterHandle) (start between end : State) (synced : WriterOut) (result : Result (Result (Unit {0}) Trouble) NoMemory)
    → Makes (sync_program handle) start synced between → IfOk result (λ told. Closes synced.handle synced.result between told end) → IfOk result (λ told. Settles handle start told end)
settled handle start between end synced (Ok told) makes closes = record { synced = synced; between = between; syncs = makes; closes = closes }
settled handle start between end synced (Err why) makes closes = tt
