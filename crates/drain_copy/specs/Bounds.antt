-- Bounds on the questions that are left, with the one that is out or to be given.
use Rattle.std.specs.Prelude.{ℕ, ◌+◌, ◌*◌, ◌^◌, List, length}
use Rattle.plfs_types.specs.declared.entries.Trunc.{Trunc}
use Rattle.drain_read.specs.Stages.{container_bound, container_left, held_bound, held_left}
use Rattle.drain_copy.specs.declared.plan.Due.{Due}
use Rattle.drain_copy.specs.declared.plan.Job.{Job}
use Rattle.drain_copy.specs.declared.stages.Making.{Making}
use Rattle.drain_copy.specs.declared.stages.Making.TheVariants.{Entry, Hostdir, Index, Log, LogKept, IndexKept}
use Rattle.drain_copy.specs.declared.stages.SourceStage.{SourceStage}
use Rattle.drain_copy.specs.declared.stages.SourceStage.TheVariants as source
use Rattle.drain_copy.specs.declared.stages.Syncing.{Syncing}
use Rattle.drain_copy.specs.declared.stages.TargetStage.{TargetStage}
use Rattle.drain_copy.specs.declared.stages.TargetStage.TheVariants as target
use Rattle.drain_copy.specs.declared.stages.Turn.{Turn}
use Rattle.drain_copy.specs.declared.stages.Turn.TheVariants.{Acts, Calls, Over}
use Rattle.drain_copy.specs.declared.work.EntriesPart.{EntriesPart}
use Rattle.drain_copy.specs.declared.work.LogPart.{LogPart}
use Rattle.drain_copy.specs.declared.work.Work.{Work}

-- the writers that are left, and the truncates
abbrev pub ahead_left : List Due → List Trunc → ℕ
ahead_left dues truncs = length dues * 2 ^ 66 + length truncs

abbrev pub work_left : Work → ℕ
work_left w = ahead_left w.ahead.rest w.ahead.truncs

-- one writer, from this step on
abbrev pub making_left : Making → ℕ
making_left Entry = 3 * 2 ^ 64 + 9
making_left Hostdir = 3 * 2 ^ 64 + 8
making_left Index = 3 * 2 ^ 64 + 7
making_left Log = 3 * 2 ^ 64 + 6
making_left LogKept = 2 ^ 64 + 3
making_left IndexKept = 1

abbrev pub log_left : LogPart → ℕ
log_left p = 2 * p.parts + (2 ^ 64 + 3) + work_left p.work

abbrev pub entries_left : EntriesPart → ℕ
entries_left p = p.parts + 1 + work_left p.work

abbrev pub job_left : Job → ℕ
job_left job = ahead_left job.dues job.truncs

abbrev pub syncing_left : Syncing → ℕ
syncing_left s = 2 * length s.rest + (2 + length s.mounts + job_left s.job)

-- whatever is gathered
abbrev pub job_bound : ℕ
job_bound = 2 * 2 ^ 64 + (2 + 2 ^ 64 + (2 ^ 64 * 2 ^ 66 + 2 ^ 64))

abbrev pub source_bound : ℕ
source_bound = 1 + (container_bound + job_bound)

abbrev pub source_left : SourceStage → ℕ
source_left (source.Finding name held) = source_bound
source_left (source.Gathering name held read) = container_left read + job_bound
source_left (source.SyncingLog s) = 2 + syncing_left s
source_left (source.SyncingIndex s) = 1 + syncing_left s
source_left (source.ReadingLog p) = 2 + log_left p

abbrev pub target_left : TargetStage → ℕ
target_left (target.Finding name) = 1 + (held_bound + source_bound)
target_left (target.Holding name read) = held_left read + source_bound
target_left (target.MarksRoom job mounts) = 2 + length mounts + job_left job
target_left (target.Mark job marks mount rest) = 2 + length rest + job_left job
target_left (target.Container job) = 1 + job_left job
target_left (target.Making making work) = making_left making + work_left work
target_left (target.WritingLog p) = 1 + log_left p
target_left (target.WritingEntries p) = 1 + entries_left p
target_left (target.Trunc to trunc rest drained) = 1 + length rest

abbrev pub turn_left : Turn → ℕ
turn_left (Calls call stage) = source_left stage
turn_left (Acts step stage) = target_left stage
turn_left (Over outcome) = 0
