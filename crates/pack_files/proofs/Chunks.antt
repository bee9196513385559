-- The chunks of a scan.
use Rattle.std.proofs.Common.{◌≡◌, ℕ, suc, false, Result, Ok, Err, refl, ◌∙◌}
use Rattle.std.specs.Prelude.{IfOk}
use Rattle.plfs_types.specs.declared.memory.NoMemory.{NoMemory}
use Rattle.mount_model.specs.declared.call.Call.{Call}
use Rattle.mount_model.specs.declared.reply.Reply.{Reply}
use Rattle.mount_model.specs.Program.{followed_by}
use Rattle.mount_model.specs.Standing.{Standing}
use Rattle.read_plan.specs.Plan.{plan_of}
use Rattle.index_reader.specs.declared.opened.OpenReader.{OpenReader}
use Rattle.index_reader.specs.Reading.{read_program}
use Rattle.unit_format.specs.declared.finding.Region.{Region}
use Rattle.unit_format.specs.declared.scanner.Scanner.{Scanner}
use Rattle.unit_format.specs.Scanning.{is_settled}
use Rattle.pack_files.specs.declared.scan.ScanStuck.{ScanStuck}
use Rattle.pack_files.specs.declared.reading.Stage.{Stage}
use Rattle.pack_files.specs.Scanning.{scans, after_read, chunk_size, further}
use Rattle.pack_files.specs.Stages.{stage_standing}

-- a scan that goes on reads the next chunk
pub scans_on : (r : OpenReader) (k here : ℕ) (s : Scanner) → is_settled s.part ≡ false
    → followed_by (read_program r.room r.hosts (plan_of r.pieces r.size here chunk_size)) (after_read r k (further here) s) ≡ scans r (suc k) here s
scans_on r k here s going = rw going refl

-- where it stands, said otherwise
pub stands_so : (r : OpenReader) (made : Result Stage NoMemory) (a b : Standing Call Reply (Result Region ScanStuck)) → a ≡ b
    → IfOk made (λ stage. stage_standing r stage ≡ a) → IfOk made (λ stage. stage_standing r stage ≡ b)
stands_so r (Ok stage) a b e is = is ∙ e
stands_so r (Err why) a b e is = tt
