-- What the acts of a run left that faulted, in their order. Of a run that was refused memory it is not told.
use Rattle.std.specs.Prelude.{ℕ, List, [], Option, Some, None, Result}
use Rattle.edge_io.specs.Source.{Given}
use Rattle.store_api.specs.Acts.{Stored}
use Rattle.command_line.specs.declared.commands.Command.{Command}
use Rattle.mount_model.specs.History.{Event}
use Rattle.mount_model.specs.Paths.{Name}
use Rattle.mount_model.specs.State.{State}
use Rattle.pack_files.specs.declared.scan.ScanStuck.{ScanStuck}
use Rattle.pack_input.specs.declared.files.NamedFile.{NamedFile}
use Rattle.program_ends.specs.Ends.{Ends}
use Rattle.script_lang.specs.declared.line.Line.{Line}
use Rattle.script_lang.specs.declared.script.Script.{Script}
use Rattle.plfs_program.specs.Cat as cat
use Rattle.plfs_program.specs.Catting.{CatCourse}
use Rattle.plfs_program.specs.Course.{Course, InputCourse, faulty, played, starved, usage, unread, read, planned, cats, migrates, packs_unread, packs, unpacks, names_all, hungry}
use Rattle.plfs_program.specs.FaultedActs.{left_by_faulted, left_where_faulted}
use Rattle.plfs_program.specs.Lines.{AreLinesOf, unmounted, mounted}
use Rattle.plfs_program.specs.LoneCalls.{naming_calls, packing_calls, unpacking_calls}
use Rattle.plfs_program.specs.Migrating.{IsSaidOf, MigrateCourse, Said}
use Rattle.plfs_program.specs.Migrating as migrating
use Rattle.plfs_program.specs.Packing.{IsEndOf, PackCourse, PackEnd, PackInputCourse}
use Rattle.plfs_program.specs.Packing as packing
use Rattle.plfs_program.specs.Playing.{PlayCourse, printed, cut_off, exhausted}
use Rattle.plfs_program.specs.Showing.{Shows}
use Rattle.plfs_program.specs.SmallFiles.{Begins, Claims, Does, IsToldOf, ReadCourse, Told}
use Rattle.plfs_program.specs.SmallFiles as small
use Rattle.plfs_program.specs.Ways.{Way, HasLines, by_turns, on_threads}

-- ---- what is played

-- the calls that have these lines
abbrev pub calls_of : (way : Way) (script : Script) (start : State) (lines : List Line) (end : State) → HasLines way script start lines end → List Event
calls_of by_turns script start lines end play = play.history
calls_of on_threads script start lines end right = right.history

-- A mounting breaks off behind an act that fails, so it has one at most. A mount that was made has none in its mounting.
abbrev pub lines_failures : {way : Way} {times : Option (List ℕ)} {before after : Stored} {script : Script} {lines : List Line} → AreLinesOf way times before after script lines → List Stored
lines_failures {way} {times} {before} {after} {script} {lines} (unmounted trouble failed says) = left_where_faulted before after
lines_failures {way} {times} {before} {after} {script} {lines} (mounted on) = left_by_faulted on.start.store (calls_of way script on.start lines on.end on.play)

abbrev pub play_failures : {way : Way} {script : Script} {shows : Shows} {e : Ends} {status : ℕ} → PlayCourse way script shows e status → Option (List Stored)
play_failures (printed lines are text is) = Some (lines_failures are.in_turn)
play_failures (cut_off lines are part is) = Some (lines_failures are.in_turn)
play_failures (exhausted left same is) = None

abbrev pub input_failures : {way : Way} {bytes : List ℕ} {e : Ends} {status : ℕ} → InputCourse way bytes e status → Option (List Stored)
input_failures (faulty fault has same says is) = Some []
input_failures (played script spelled course) = play_failures course
input_failures (starved same kept is) = None

abbrev pub cat_failures : {name : List ℕ} {e : Ends} {status : ℕ} → CatCourse name e status → Option (List Stored)
cat_failures (cat.unopened line out none text is) = Some (lines_failures out.played.in_turn)
cat_failures (cat.unsaid line out none part is) = Some (lines_failures out.played.in_turn)
cat_failures (cat.whole opened reads size has out all text is) = Some (lines_failures out.played.in_turn)
cat_failures (cat.stuck opened reads last size has few out all other text is) = Some (lines_failures out.played.in_turn)
cat_failures (cat.broken opened reads last size mid has few out all read_too text part is) = Some (lines_failures out.played.in_turn)
cat_failures (cat.starved opened reads went all text is) = None
cat_failures (cat.hungry left same is) = None

-- ---- what a caller by itself does

abbrev pub said_failures : {times : Option (List ℕ)} {before after : Stored} {name : List ℕ} {said : Said} → IsSaidOf times before after name said → List Stored
said_failures {times} {before} {after} {name} {said} (migrating.unmounted trouble outcome failed told is) = left_where_faulted before after
said_failures {times} {before} {after} {name} {said} (migrating.mounted ended on is) = left_by_faulted on.start.store on.made.events

abbrev pub migrate_failures : {name : List ℕ} {e : Ends} {status : ℕ} → MigrateCourse name e status → Option (List Stored)
migrate_failures (migrating.printed said it text is) = Some (said_failures it.came)
migrate_failures (migrating.cut_off said it part is) = Some (said_failures it.came)
migrate_failures (migrating.exhausted left same is) = None

abbrev pub end_failures : {times : Option (List ℕ)} {before after : Stored} {name : List ℕ} {region : ℕ} {files : List NamedFile} {ended : PackEnd} → IsEndOf times before after name region files ended → List Stored
end_failures {times} {before} {after} {name} {region} {files} {ended} (packing.unmounted trouble outcome failed told is) = left_where_faulted before after
end_failures {times} {before} {after} {name} {region} {files} {ended} (packing.mounted result on is) = left_by_faulted on.start.store (packing_calls name region files on.start result on.end on.packs)

abbrev pub pack_failures : {name : List ℕ} {region : ℕ} {files : List NamedFile} {e : Ends} {status : ℕ} → PackCourse name region files e status → Option (List Stored)
pack_failures (packing.printed ended it text is) = Some (end_failures it.came)
pack_failures (packing.cut_off ended it part is) = Some (end_failures it.came)
pack_failures (packing.exhausted left same is) = None

abbrev pub pack_input_failures : {name : List ℕ} {region : ℕ} {bytes : List ℕ} {e : Ends} {status : ℕ} → PackInputCourse name region bytes e status → Option (List Stored)
pack_input_failures (packing.faulty fault has same says is) = Some []
pack_input_failures (packing.packed files input course) = pack_failures course
pack_input_failures (packing.starved same kept is) = None

-- the calls of a reading from one state to another
abbrev pub CallsOf : {R : Type 0} → Does R → Type 0
CallsOf {R} Reads = (start : State) (result : Result R ScanStuck) (end : State) → Reads start result end → List Event

abbrev pub told_failures : {R : Type 0} {Reads : Does R} {Holds : Claims R} {tells : Result R ScanStuck → Told} {times : Option (List ℕ)} {before after : Stored} {told : Told} → CallsOf Reads → IsToldOf Reads Holds tells times before after told → List Stored
told_failures {R} {Reads} {Holds} {tells} {times} {before} {after} {told} calls (small.unmounted trouble outcome failed says is) = left_where_faulted before after
told_failures {R} {Reads} {Holds} {tells} {times} {before} {after} {told} calls (small.mounted result on is) = left_by_faulted on.start.store (calls on.start result on.end on.reads)

abbrev pub read_failures : {R : Type 0} {name : Name} {Reads : Does R} {Broken : Begins} {Holds : Claims R} {tells : Result R ScanStuck → Told} {e : Ends} {status : ℕ} → CallsOf Reads → ReadCourse name Reads Broken Holds tells e status → Option (List Stored)
read_failures calls (small.printed told it text is) = Some (told_failures calls it.came)
read_failures calls (small.cut_off told it part is) = Some (told_failures calls it.came)
read_failures calls (small.exhausted left same is) = None

-- ---- the whole run

-- A run that mounts nothing makes no act.
abbrev pub failures_of : {Serves : Command → Type 0} {words : List (List ℕ)} {given after : Given} {e : Ends} {status : ℕ} → Course Serves words given after e status → Option (List Stored)
failures_of (usage missing same kept says is) = Some []
failures_of (unread way served spelled risen same kept is) = Some []
failures_of (read way bytes served spelled input course) = input_failures course
failures_of (planned command plan spelled has same course) = play_failures course
failures_of (cats name spelled same course) = cat_failures course
failures_of (migrates name spelled same course) = migrate_failures course
failures_of (packs_unread name region spelled risen same kept is) = Some []
failures_of (packs name region bytes spelled input course) = pack_input_failures course
failures_of (unpacks name file spelled same course) = read_failures (unpacking_calls name file) course
failures_of (names_all name spelled same course) = read_failures (naming_calls name) course
failures_of (hungry well same kept is) = None
