-- The questions of a drain, in their order: what the target has; what the source has past it, and its syncs; at the target the
-- room of marks, the marks, the container, the writers by ascending id, and last the truncates.
use Rattle.std.specs.Prelude.{ℕ, true, false, List, [], ◌∷◌, Option, Some, None, Result, Err}
use Rattle.store_api.specs.Step.{create, find_room, make_room}
use Rattle.mount_model.specs.declared.stuck.Stuck.{Stuck}
use Rattle.mount_model.specs.declared.call.Call.TheVariants.{Find, SyncDropping}
use Rattle.mount_model.specs.Paths.{Name, mark_path, new_files, new_folders}
use Rattle.store_api.specs.Names.{marks_folder}
use Rattle.store_api.specs.Names.{marks_name}
use Rattle.drain_read.specs.declared.held.Held.{Held}
use Rattle.drain_read.specs.declared.read.Contained.{Contained}
use Rattle.drain_read.specs.declared.read.Known.{Known}
use Rattle.drain_read.specs.Holding.{held_program}
use Rattle.drain_read.specs.Reading.{contained_program}
use Rattle.drain_copy.specs.declared.outcome.DrainStuck.{DrainStuck}
use Rattle.drain_copy.specs.declared.plan.Job.{Job}
use Rattle.drain_copy.specs.declared.plan.Owner.{Owner}
use Rattle.drain_copy.specs.Asking.{acts, at_source, at_target, calls, ends}
use Rattle.drain_copy.specs.Telling.{DrainsOn, folder_alone, found_room, kept, made_or_old, of_source, of_target, on_good, roomed, sought, told_well}
use Rattle.drain_copy.specs.Planning.{covers_of, drained_of, dues_of, mounts_of, nothing_held, owners_of, taken}
use Rattle.drain_copy.specs.Copying.{copies}

-- ---- what is copied

abbrev pub copies_to : Job → ℕ → DrainsOn
copies_to job to = copies job.from to job.truncs job.drained job.dues

-- the container is made, or is there
abbrev pub makes_container : Job → DrainsOn
makes_container job = acts (make_room job.name new_folders new_files) (λ told. on_good (copies_to job) (told_well (folder_alone []) roomed told))

-- the marks of the mounts that are left, in this room
abbrev pub makes_marks : Job → ℕ → List ℕ → DrainsOn
makes_marks job marks [] = makes_container job
makes_marks job marks (m ∷ ms) = acts
    (create marks (mark_path m).folder (mark_path m).file)
    (λ told. on_good (λ made. makes_marks job marks ms) (told_well (mark_path m) made_or_old told))

abbrev pub makes_all_marks : Job → List ℕ → ℕ → DrainsOn
makes_all_marks job mounts marks = makes_marks job marks mounts

-- the room of marks is made, or is there
abbrev pub makes_marks_room : Job → List ℕ → DrainsOn
makes_marks_room job mounts = acts
    (make_room marks_name (marks_folder ∷ []) [])
    (λ told. on_good (makes_all_marks job mounts) (told_well (folder_alone []) roomed told))

-- ---- what is synced at the source before

-- its index dropping
abbrev pub syncs_second : ℕ → Owner → DrainsOn → DrainsOn
syncs_second from o next = calls (SyncDropping from o.host o.writer false) (λ reply. on_good (λ done. next) (kept reply))

-- its log, and then its index dropping
abbrev pub syncs_first : ℕ → Owner → DrainsOn → DrainsOn
syncs_first from o next = calls (SyncDropping from o.host o.writer true) (λ reply. on_good (λ done. syncs_second from o next) (kept reply))

-- the droppings of the writers that are left
abbrev pub syncs : ℕ → List Owner → DrainsOn → DrainsOn
syncs from [] next = next
syncs from (o ∷ os) next = syncs_first from o (syncs from os next)

-- ---- what is gathered

abbrev pub job_of : Name → Held → Contained → Job
job_of name held contained = record {
  name = name;
  from = contained.room;
  dues = dues_of held contained.writers;
  truncs = contained.truncs;
  drained = drained_of (dues_of held contained.writers);
}

-- a writer that was settled there and went on at the source ends it
abbrev pub unless_taken : Option DrainStuck → DrainsOn → DrainsOn
unless_taken None next = next
unless_taken (Some why) next = ends (Err why)

abbrev pub works_on : Name → Held → Contained → DrainsOn
works_on name held contained = unless_taken (taken held contained.writers)
    (syncs contained.room (owners_of contained.writers) (makes_marks_room (job_of name held contained) (mounts_of contained.writers)))

abbrev pub if_gathered : Name → Held → Result Contained Stuck → DrainsOn
if_gathered name held read = on_good (works_on name held) (of_source read)

-- past what the target has
abbrev pub known_at : Held → ℕ → Known
known_at held room = record { room = room; keeps = true; covers = covers_of held.mirrors }

abbrev pub gathers : Name → Held → ℕ → DrainsOn
gathers name held room = at_source (contained_program (known_at held room)) (if_gathered name held)

abbrev pub finds_source : Name → Held → DrainsOn
finds_source name held = calls (Find name) (λ reply. on_good (gathers name held) (found_room reply))

-- ---- what the target has

abbrev pub if_held : Name → Result Held Stuck → DrainsOn
if_held name held = on_good (finds_source name) (of_target held)

abbrev pub reads_target : Name → Option ℕ → DrainsOn
reads_target name None = finds_source name nothing_held
reads_target name (Some room) = at_target (held_program room) (if_held name)

abbrev pub drain_program : Name → DrainsOn
drain_program name = acts (find_room name) (λ told. on_good (reads_target name) (told_well (folder_alone []) sought told))
