-- Where the stages of a drain stand in its program: what follows the reply or the answer that is to come.
use Rattle.std.specs.Prelude.{ℕ, ◌-◌, min, List, [], Result}
use Rattle.plfs_types.specs.declared.limits.TheConstants.{ENTRIES_A_READ}
use Rattle.container_layout.specs.Paths.{hostdir_of}
use Rattle.index_entry.specs.Spelling.{spelling_all}
use Rattle.store_api.specs.Step.{Step, create, make_folder, sync, write_at}
use Rattle.store_api.specs.Owned.{step_given}
use Rattle.mount_model.specs.declared.reply.Reply.{Reply}
use Rattle.mount_model.specs.Paths.{mark_path}
use Rattle.mount_model.specs.Step.{OwedBy}
use Rattle.drain_read.specs.Stages.{container_rest, held_rest}
use Rattle.drain_copy.specs.declared.plan.Copying.{Copying}
use Rattle.drain_copy.specs.declared.outcome.DrainStuck.{DrainStuck}
use Rattle.drain_copy.specs.declared.parts.TheConstants.{LOG_PART}
use Rattle.drain_copy.specs.declared.plan.Due.{Due}
use Rattle.drain_copy.specs.declared.stages.Making.{Making}
use Rattle.drain_copy.specs.declared.stages.Making.TheVariants.{Entry, Hostdir, Index, Log, LogKept, IndexKept}
use Rattle.drain_copy.specs.declared.stages.SourceStage.{SourceStage}
use Rattle.drain_copy.specs.declared.stages.SourceStage.TheVariants as source
use Rattle.drain_copy.specs.declared.stages.Syncing.{Syncing}
use Rattle.drain_copy.specs.declared.stages.TargetStage.{TargetStage}
use Rattle.drain_copy.specs.declared.stages.TargetStage.TheVariants as target
use Rattle.drain_copy.specs.declared.stages.Turn.{Turn}
use Rattle.drain_copy.specs.declared.stages.Turn.TheVariants.{Acts, Calls, Over}
use Rattle.drain_copy.specs.declared.work.EntriesPart.{EntriesPart}
use Rattle.drain_copy.specs.declared.work.LogPart.{LogPart}
use Rattle.drain_copy.specs.declared.work.Work.{Work}
use Rattle.drain_copy.specs.Asking.{acts, at_source, at_target, calls, ends, look_reply}
use Rattle.mount_model.specs.Making.{Told}
use Rattle.drain_copy.specs.Telling.{DrainsOn, entry_made, folder_alone, found_room, kept, made_now, made_or_old, on_good, roomed, sought, told_well}
use Rattle.drain_copy.specs.Copying.{copies, copies_bytes, entries_part, copies_log, copies_writer, entry_of, index_of, log_of, makes_hostdir, makes_index, makes_log, part_told, puts_truncs, syncs_index, syncs_log, trunc_file, writes_entries, writes_index}
use Rattle.drain_copy.specs.Draining.{copies_to, gathers, if_gathered, if_held, makes_all_marks, makes_marks, makes_marks_room, reads_target, syncs, syncs_second}

-- ---- what comes after a writer

abbrev pub goes_ahead : Work → DrainsOn
goes_ahead w = copies w.copying.from w.copying.to w.ahead.truncs w.ahead.drained w.ahead.rest

-- what is made of a writer, and all that follows
abbrev pub making_program : Making → Work → DrainsOn
making_program Entry w = copies_writer (goes_ahead w) w.copying
making_program Hostdir w = makes_hostdir (goes_ahead w) w.copying
making_program Index w = makes_index (goes_ahead w) w.copying
making_program Log w = makes_log (goes_ahead w) w.copying
making_program LogKept w = syncs_log (goes_ahead w) w.copying
making_program IndexKept w = syncs_index (goes_ahead w) w.copying

-- the step
abbrev pub making_step : Making → Copying → Step
making_step Entry c = create c.to (entry_of c.due).folder (entry_of c.due).file
making_step Hostdir c = make_folder c.to (hostdir_of c.due.host)
making_step Index c = create c.to (index_of c.due).folder (index_of c.due).file
making_step Log c = create c.to (log_of c.due).folder (log_of c.due).file
making_step LogKept c = sync c.to (log_of c.due).folder (log_of c.due).file
making_step IndexKept c = sync c.to (index_of c.due).folder (index_of c.due).file

-- what its answer tells
abbrev pub making_told : Making → Due → Told → Result (Unit {0}) DrainStuck
making_told Entry due told = entry_made (entry_of due) told
making_told Hostdir due told = told_well (folder_alone (hostdir_of due.host)) made_or_old told
making_told Index due told = told_well (index_of due) made_or_old told
making_told Log due told = told_well (log_of due) made_or_old told
making_told LogKept due told = told_well (log_of due) made_now told
making_told IndexKept due told = told_well (index_of due) made_now told

-- what comes after it
abbrev pub making_next : Making → Work → DrainsOn
making_next Entry w = makes_hostdir (goes_ahead w) w.copying
making_next Hostdir w = makes_index (goes_ahead w) w.copying
making_next Index w = makes_log (goes_ahead w) w.copying
making_next Log w = copies_bytes (goes_ahead w) w.copying
making_next LogKept w = writes_entries (goes_ahead w) w.copying
making_next IndexKept w = goes_ahead w

abbrev pub making_rest : Making → Work → Told → DrainsOn
making_rest making w told = on_good (λ made. making_next making w) (making_told making w.copying.due told)

-- so many parts of its log, and all that follows
abbrev pub log_program : LogPart → DrainsOn
log_program p = copies_log (goes_ahead p.work) p.parts p.work.copying p.left

-- what follows a part of its log
abbrev pub log_behind : LogPart → DrainsOn
log_behind p = copies_log (goes_ahead p.work) p.parts p.work.copying (p.left - min p.left LOG_PART)

abbrev pub log_written : LogPart → Told → DrainsOn
log_written p told = on_good (λ made. log_behind p) (told_well (log_of p.work.copying.due) made_now told)

abbrev pub log_writes : LogPart → List ℕ → DrainsOn
log_writes p bytes = acts (write_at p.work.copying.to (log_of p.work.copying.due).folder (log_of p.work.copying.due).file (p.work.copying.due.bytes - p.left) bytes) (log_written p)

-- the bytes of the next part of its entries
abbrev pub part_spelling : Due → ℕ → List ℕ
part_spelling due left = spelling_all (entries_part due.entries left)

abbrev pub entries_program : EntriesPart → DrainsOn
entries_program p = writes_index (goes_ahead p.work) p.parts p.work.copying p.left

abbrev pub entries_behind : EntriesPart → DrainsOn
entries_behind p = writes_index (goes_ahead p.work) p.parts p.work.copying (p.left - min p.left ENTRIES_A_READ)

-- ---- the stages

abbrev pub job_after : Syncing → DrainsOn
job_after s = syncs s.job.from s.rest (makes_marks_room s.job s.mounts)

abbrev pub source_rest : SourceStage → Reply → DrainsOn
source_rest (source.Finding name held) reply = on_good (gathers name held) (found_room reply)
source_rest (source.Gathering name held read) reply = at_source (container_rest read reply) (if_gathered name held)
source_rest (source.SyncingLog s) reply = on_good (λ done. syncs_second s.job.from s.owner (job_after s)) (kept reply)
source_rest (source.SyncingIndex s) reply = on_good (λ done. job_after s) (kept reply)
source_rest (source.ReadingLog p) reply = on_good (log_writes p) (part_told (log_of p.work.copying.due) (p.work.copying.due.bytes - p.left) (min p.left LOG_PART) reply)

abbrev pub target_rest : TargetStage → Told → DrainsOn
target_rest (target.Finding name) told = on_good (reads_target name) (told_well (folder_alone []) sought told)
target_rest (target.Holding name read) told = at_target (held_rest read (look_reply told)) (if_held name)
target_rest (target.MarksRoom job mounts) told = on_good (makes_all_marks job mounts) (told_well (folder_alone []) roomed told)
target_rest (target.Mark job marks mount rest) told = on_good (λ made. makes_marks job marks rest) (told_well (mark_path mount) made_or_old told)
target_rest (target.Container job) told = on_good (copies_to job) (told_well (folder_alone []) roomed told)
target_rest (target.Making making work) told = making_rest making work told
target_rest (target.WritingLog p) told = log_written p told
target_rest (target.WritingEntries p) told = on_good (λ made. entries_behind p) (told_well (index_of p.work.copying.due) made_now told)
target_rest (target.Trunc to trunc rest drained) told = on_good (λ made. puts_truncs to rest drained) (told_well (trunc_file trunc) made_or_old told)

abbrev pub turn_program : Turn → DrainsOn
turn_program (Calls call stage) = calls call (source_rest stage)
turn_program (Acts step stage) = acts (step_given step) (target_rest stage)
turn_program (Over outcome) = ends outcome

-- the caller may make its call
abbrev pub IsOwedTurn : Turn → Type 0
IsOwedTurn (Calls call stage) = OwedBy call
IsOwedTurn (Acts step stage) = Unit {0}
IsOwedTurn (Over outcome) = Unit {0}
