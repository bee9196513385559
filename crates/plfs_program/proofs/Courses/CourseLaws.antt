-- What a run over a sound tree leaves, and which status it never has.
use Rattle.std.proofs.Common.{inl, inr, ℕ, ◌≡◌, ◌≢◌, Bool, true, false, ◌||◌, if◌then◌else◌, List, [], ◌∷◌, ◌++◌, Result, Ok, Err, Option, Some, refl, sym, ap, ◌∙◌, subst}
use Rattle.std.specs.Prelude.{◌==◌}
use Rattle.std.proofs.lemmas.List.Folds.{list_any-append}
use Rattle.plfs_types.specs.Names.{IsLogicalName}
use Rattle.edge_io.specs.Source.{Given}
use Rattle.store_api.specs.Acts.{Stored}
use Rattle.command_line.specs.Commands.{IsCommand}
use Rattle.command_line.specs.declared.commands.Command.{Command}
use Rattle.command_line.specs.declared.commands.Command.TheVariants.{Names, Pack, Run, Unpack}
use Rattle.script_lang.specs.declared.line.Line.{Line}
use Rattle.script_lang.specs.declared.line.Outcome.{Outcome}
use Rattle.script_lang.specs.declared.script.Script.{Script}
use Rattle.mount_model.specs.Paths.{Name}
use Rattle.mount_model.specs.State.{State}
use Rattle.pack_files.specs.declared.scan.ScanStuck.{ScanStuck}
use Rattle.pack_input.specs.declared.files.NamedFile.{NamedFile}
use Rattle.lone_flow.specs.declared.packing.Packed.TheVariants.{All, Full}
use Rattle.run_core.specs.Leading.{GoesOn}
use Rattle.program_ends.specs.Leaving.{Leaves, broke_off, ran, IsStoreLeft}
use Rattle.plfs_program.specs.Cat.{cat_script, unopened, unsaid, whole, stuck, broken, starved, hungry as wants}
use Rattle.plfs_program.specs.Catting.{CatCourse, IsLeftBehind}
use Rattle.plfs_program.specs.Commands.{IsBuiltCommand, IsServed}
use Rattle.plfs_program.specs.Course.{Course, InputCourse, faulty, played, starved as unplayed, usage, unread, read, planned, cats, migrates, packs_unread, packs, unpacks, names_all, hungry}
use Rattle.program_ends.specs.Ends.{Ends, IsUntouched}
use Rattle.plfs_program.specs.Lines.{AreLinesOf, unmounted, mounted}
use Rattle.plfs_program.specs.Migrating.{HasBegunIt, IsMigratedAs, IsSaidOf, MigrateCourse, Said, said_status, printed as said, cut_off as unsaid_whole, exhausted as starved_so, unmounted as not_mounted, mounted as on_mount}
use Rattle.program_ends.specs.Outcomes.{is_broken_by}
use Rattle.program_ends.specs.Reported.{line_zero}
use Rattle.program_ends.specs.Outcomes.{has_line, is_damage, is_fault, is_refusal, status_of}
use Rattle.plfs_program.specs.Packing.{HasBegunToPack, IsEndOf, IsPackedAs, PackCourse, PackEnd, PackInputCourse, packed_status, printed as told_of_packing, cut_off as told_in_part, exhausted as broken_packing, faulty as faulty_input, packed as packed_input, starved as unpacked, unmounted as no_packing, mounted as packing}
use Rattle.plfs_program.specs.Playing.{IsPlayedAs, PlayCourse, printed, cut_off, exhausted}
use Rattle.plfs_program.specs.Showing.{Shows, all_lines, behind_opening, is_reader, shows_of}
use Rattle.plfs_program.specs.SmallFiles.{Begins, Claims, Does, HasBegunToRead, IsToldAs, IsToldOf, ReadCourse, Told, told_status, printed as read_whole, cut_off as read_part, exhausted as unread_so, unmounted as none_mounted, mounted as on_its_mount}
use Rattle.program_ends.specs.SoundTrees.{TellsSoundTree, LeavesSoundTree}
use Rattle.plfs_program.specs.UnitTrees.{AskForUnits, TellsUnitsOf}
use Rattle.plfs_program.specs.Ways.{Way, HasBegun, by_turns}
use Rattle.plfs_program.specs.declared.showing.Shown.{Shown}
use Rattle.plfs_program.specs.declared.showing.Shown.TheVariants as shown
use Rattle.program_ends.proofs.Facts.{FailingLeavesSound, all_leave_sound}
use Rattle.plfs_program.proofs.Courses.Calls.{begun_leads, looked_leads, migration_leads, packing_leads, play_runs, reading_leads, went_runs}

-- ---- a sound tree is left

lines_leave : (way : Way) (times : Option (List ℕ)) (before after : Stored) (script : Script) (lines : List Line) → AreLinesOf way times before after script lines → Leaves GoesOn times before after
lines_leave way times before after script lines (unmounted trouble failed says) = broke_off trouble failed
lines_leave way times before after script lines (mounted on) = ran (play_runs way times before after script lines on)

module _ (failing : FailingLeavesSound) where
  left_so : (Calls : State → State → Type 0) → ((start end : State) → Calls start end → GoesOn start end) → (e : Ends) (after : Stored) → e.stored_after ≡ Some after → Leaves Calls e.times e.stored after → TellsSoundTree e.stored → LeavesSoundTree e.stored_after
  left_so Calls lead e after is left told = (after, is, all_leave_sound Calls lead e.times e.stored after failing left told)

  lawful_so : (e : Ends) (after : Stored) → e.stored_after ≡ Some after → Leaves GoesOn e.times e.stored after → TellsSoundTree e.stored → LeavesSoundTree e.stored_after
  lawful_so e after is left told = left_so GoesOn (λ start end calls. calls) e after is left told

  played_leaves : (way : Way) (script : Script) (lines : List Line) (e : Ends) → IsPlayedAs way script lines e → TellsSoundTree e.stored → LeavesSoundTree e.stored_after
  played_leaves way script lines e p told = lawful_so e p.after p.left (lines_leave way e.times e.stored p.after script lines p.in_turn) told

  store_leaves : (way : Way) (script : Script) (e : Ends) → IsStoreLeft (HasBegun way script) e → TellsSoundTree e.stored → LeavesSoundTree e.stored_after
  store_leaves way script e left told = left_so (HasBegun way script) (begun_leads way script) e left.after left.left left.lawful told

  untouched_leaves : (e : Ends) → IsUntouched e → TellsSoundTree e.stored → LeavesSoundTree e.stored_after
  untouched_leaves e same told = (e.stored, same, told)

  play_leaves : (way : Way) (script : Script) (shows : Shows) (e : Ends) (status : ℕ) → PlayCourse way script shows e status → TellsSoundTree e.stored → LeavesSoundTree e.stored_after
  play_leaves way script shows e status (printed lines p all is) told = played_leaves way script lines e p told
  play_leaves way script shows e status (cut_off lines p part is) told = played_leaves way script lines e p told
  play_leaves way script shows e status (exhausted left same is) told = store_leaves way script e left told

  behind_leaves : (name : List ℕ) (lines : List Line) (e : Ends) → IsLeftBehind name lines e → TellsSoundTree e.stored → LeavesSoundTree e.stored_after
  behind_leaves name lines e b told = lawful_so e b.after b.left (ran (went_runs name e.times e.stored b.after lines b.start b.end b.mounted b.went b.is)) told

  cat_leaves : (name : List ℕ) (e : Ends) (status : ℕ) → CatCourse name e status → TellsSoundTree e.stored → LeavesSoundTree e.stored_after
  cat_leaves name e status (unopened line p none all is) told = played_leaves by_turns _ _ e p.played told
  cat_leaves name e status (unsaid line p none part is) told = played_leaves by_turns _ _ e p.played told
  cat_leaves name e status (whole opened reads size tells p all out is) told = played_leaves by_turns _ _ e p.played told
  cat_leaves name e status (stuck opened reads last size tells within p all not_read out is) told = played_leaves by_turns _ _ e p.played told
  cat_leaves name e status (broken opened reads last size mid tells within p all last_read out part is) told = played_leaves by_turns _ _ e p.played told
  cat_leaves name e status (starved opened reads b all out is) told = behind_leaves name (opened ∷ reads) e b told
  cat_leaves name e status (wants left same is) told = store_leaves by_turns (cat_script name 0) e left told

  said_leaves : (name : List ℕ) (times : Option (List ℕ)) (before after : Stored) (s : Said) → IsSaidOf times before after name s → Leaves GoesOn times before after
  said_leaves name times before after s (not_mounted trouble outcome failed told is) = broke_off trouble failed
  said_leaves name times before after s (on_mount ended m is) = ran (record { start = m.start; end = m.end; mounted = m.mounted; called = migration_leads name m.start m.end (inl (ended, m.made)); left = m.left })

  migrated_leaves : (name : List ℕ) (s : Said) (e : Ends) → IsMigratedAs name s e → TellsSoundTree e.stored → LeavesSoundTree e.stored_after
  migrated_leaves name s e m told = lawful_so e m.after m.left (said_leaves name e.times e.stored m.after s m.came) told

  migrate_leaves : (name : List ℕ) (e : Ends) (status : ℕ) → MigrateCourse name e status → TellsSoundTree e.stored → LeavesSoundTree e.stored_after
  migrate_leaves name e status (said s m all is) told = migrated_leaves name s e m told
  migrate_leaves name e status (unsaid_whole s m part is) told = migrated_leaves name s e m told
  migrate_leaves name e status (starved_so left same is) told = left_so (HasBegunIt name) (migration_leads name) e left.after left.left left.lawful told

  read_leaves : {R : Type 0} (Reads : Does R) (Holds : Claims R) (tells : Result R ScanStuck → Told) (times : Option (List ℕ)) (before after : Stored) (t : Told) → IsToldOf Reads Holds tells times before after t → Leaves GoesOn times before after
  read_leaves Reads Holds tells times before after t (none_mounted trouble outcome failed told is) = broke_off trouble failed
  read_leaves Reads Holds tells times before after t (on_its_mount result r is) = ran (record { start = r.start; end = r.end; mounted = r.mounted; called = looked_leads r.start r.end r.looked; left = r.left })

  told_leaves : {R : Type 0} (name : Name) (Reads : Does R) (Holds : Claims R) (tells : Result R ScanStuck → Told) (t : Told) (e : Ends) → IsToldAs name Reads Holds tells t e → TellsSoundTree e.stored → LeavesSoundTree e.stored_after
  told_leaves name Reads Holds tells t e a told = lawful_so e a.after a.left (read_leaves Reads Holds tells e.times e.stored a.after t a.came) told

  small_leaves : {R : Type 0} (name : Name) (Reads : Does R) (Broken : Begins) (Holds : Claims R) (tells : Result R ScanStuck → Told) (e : Ends) (status : ℕ) → ReadCourse name Reads Broken Holds tells e status → TellsSoundTree e.stored → LeavesSoundTree e.stored_after
  small_leaves name Reads Broken Holds tells e status (read_whole t a all is) told = told_leaves name Reads Holds tells t e a told
  small_leaves name Reads Broken Holds tells e status (read_part t a part is) told = told_leaves name Reads Holds tells t e a told
  small_leaves name Reads Broken Holds tells e status (unread_so left same is) told = left_so (HasBegunToRead Reads Broken) (reading_leads Reads Broken) e left.after left.left left.lawful told

  end_leaves : (name : List ℕ) (region : ℕ) (files : List NamedFile) (times : Option (List ℕ)) (before after : Stored) (ended : PackEnd) → IsEndOf times before after name region files ended → Leaves GoesOn times before after
  end_leaves name region files times before after ended (no_packing trouble outcome failed told is) = broke_off trouble failed
  end_leaves name region files times before after ended (packing result p is) = ran (record { start = p.start; end = p.end; mounted = p.mounted; called = packing_leads name region files p.start p.end (inl (result, p.packs)); left = p.left })

  packed_leaves : (name : List ℕ) (region : ℕ) (files : List NamedFile) (ended : PackEnd) (e : Ends) → IsPackedAs name region files ended e → TellsSoundTree e.stored → LeavesSoundTree e.stored_after
  packed_leaves name region files ended e p told = lawful_so e p.after p.left (end_leaves name region files e.times e.stored p.after ended p.came) told

  pack_leaves : (name : List ℕ) (region : ℕ) (files : List NamedFile) (e : Ends) (status : ℕ) → PackCourse name region files e status → TellsSoundTree e.stored → LeavesSoundTree e.stored_after
  pack_leaves name region files e status (told_of_packing ended p all is) told = packed_leaves name region files ended e p told
  pack_leaves name region files e status (told_in_part ended p part is) told = packed_leaves name region files ended e p told
  pack_leaves name region files e status (broken_packing left same is) told = left_so (HasBegunToPack name region files) (packing_leads name region files) e left.after left.left left.lawful told

  pack_input_leaves : (name : List ℕ) (region : ℕ) (bytes : List ℕ) (e : Ends) (status : ℕ) → PackInputCourse name region bytes e status → TellsSoundTree e.stored → LeavesSoundTree e.stored_after
  pack_input_leaves name region bytes e status (faulty_input fault has same says is) told = untouched_leaves e same told
  pack_input_leaves name region bytes e status (packed_input files input course) told = pack_leaves name region files e status course told
  pack_input_leaves name region bytes e status (unpacked same none is) told = untouched_leaves e same told

  input_leaves : (way : Way) (bytes : List ℕ) (e : Ends) (status : ℕ) → InputCourse way bytes e status → TellsSoundTree e.stored → LeavesSoundTree e.stored_after
  input_leaves way bytes e status (faulty fault has same says is) told = untouched_leaves e same told
  input_leaves way bytes e status (played script reads play) told = play_leaves way script all_lines e status play told
  input_leaves way bytes e status (unplayed same none is) told = untouched_leaves e same told

  pub course_leaves : (Serves : Command → Type 0) (words : List (List ℕ)) (given after : Given) (e : Ends) (status : ℕ) → Course Serves words given after e status → TellsSoundTree e.stored → LeavesSoundTree e.stored_after
  course_leaves Serves words given after e status (usage none same untouched says is) told = untouched_leaves e untouched told
  course_leaves Serves words given after e status (unread way served command risen untouched none is) told = untouched_leaves e untouched told
  course_leaves Serves words given after e status (read way bytes served command input course) told = input_leaves way bytes e status course told
  course_leaves Serves words given after e status (planned command plan spelled plans same play) told = play_leaves by_turns plan.script (shows_of plan.shown) e status play told
  course_leaves Serves words given after e status (cats name command same cat) told = cat_leaves name e status cat told
  course_leaves Serves words given after e status (migrates name command same m) told = migrate_leaves name e status m told
  course_leaves Serves words given after e status (packs_unread name region command risen untouched none is) told = untouched_leaves e untouched told
  course_leaves Serves words given after e status (packs name region bytes command input course) told = pack_input_leaves name region bytes e status course told
  course_leaves Serves words given after e status (unpacks name file command same u) told = small_leaves _ _ _ _ _ e status u told
  course_leaves Serves words given after e status (names_all name command same n) told = small_leaves _ _ _ _ _ e status n told
  course_leaves Serves words given after e status (hungry well untouched none is) told = untouched_leaves e untouched told

-- ---- no status tells of damage

apart : (status other : ℕ) → status ≡ other → (other == 7) ≡ false → status ≢ 7
apart status other is differs same = let bad : true ≡ false = ap (λ n. n == 7) (sym same ∙ is) ∙ differs in cc

lesser : (d f r : Bool) → d ≡ false → ((if d then 7 else if f then 4 else if r then 1 else 0) == 7) ≡ false
lesser true f r none = cc
lesser false true r none = refl
lesser false false true none = refl
lesser false false false none = refl

none_damaged : (lines : List Line) (status : ℕ) → has_line is_damage lines ≡ false → status ≡ status_of lines → status ≢ 7
none_damaged lines status none is = apart status (status_of lines) is (lesser (has_line is_damage lines) (has_line is_fault lines) (has_line is_refusal lines) none)

both_false : (a b : Bool) → (a || b) ≡ false → (a ≡ false) × (b ≡ false)
both_false true b is = cc
both_false false b is = (refl, is)

behind_undamaged : (lines : List Line) → has_line is_damage lines ≡ false → has_line is_damage (behind_opening lines) ≡ false
behind_undamaged [] none = none
behind_undamaged (line ∷ lines) none =
    let both = both_false (is_damage line.outcome) (has_line is_damage lines) none in
    elim (is_reader line.outcome) as (λ b. has_line is_damage (if b then lines else line ∷ []) ≡ false) [
      | true ↦ both.1
      | false ↦ ap (λ b. b || false) both.0
    ]

-- what is shown of lines without damage shows none
abbrev pub ShowsNone : Shows → Type 0
ShowsNone shows = (lines : List Line) → has_line is_damage lines ≡ false → has_line is_damage (shows.decide lines) ≡ false

pub shown_none : (s : Shown) → ShowsNone (shows_of s)
shown_none shown.All = λ lines none. none
shown_none shown.PastOpening = behind_undamaged
shown_none shown.Summed = λ lines none. none

play_undamaged : (way : Way) (script : Script) (shows : Shows) (e : Ends) (status : ℕ) → ShowsNone shows → PlayCourse way script shows e status → TellsSoundTree e.stored → status ≢ 7
play_undamaged way script shows e status keeps (printed lines p all is) told = none_damaged (shows.decide lines) status (keeps lines (p.undamaged told)) is
play_undamaged way script shows e status keeps (cut_off lines p part is) told = apart status 6 is refl
play_undamaged way script shows e status keeps (exhausted left same is) told = apart status 3 is refl

pub last_undamaged : (lines : List Line) (last : Line) → has_line is_damage (lines ++ last ∷ []) ≡ false → has_line is_damage (last ∷ []) ≡ false
last_undamaged lines last none = (both_false (has_line is_damage lines) (has_line is_damage (last ∷ [])) (sym (list_any-append (λ (line : Line). is_damage line.outcome) lines (last ∷ [])) ∙ none)).1

cat_undamaged : (name : List ℕ) (e : Ends) (status : ℕ) → CatCourse name e status → TellsSoundTree e.stored → status ≢ 7
cat_undamaged name e status (unopened line p none all is) told = none_damaged (line ∷ []) status (p.played.undamaged told) is
cat_undamaged name e status (unsaid line p none part is) told = apart status 6 is refl
cat_undamaged name e status (whole opened reads size tells p all out is) told = apart status 0 is refl
cat_undamaged name e status (stuck opened reads last size tells within p all not_read out is) told = none_damaged (last ∷ []) status (last_undamaged (opened ∷ reads) last (p.played.undamaged told)) is
cat_undamaged name e status (broken opened reads last size mid tells within p all last_read out part is) told = apart status 6 is refl
cat_undamaged name e status (starved opened reads b all out is) told = apart status 3 is refl
cat_undamaged name e status (wants left same is) told = apart status 3 is refl

zero_undamaged : (outcome : Outcome) (status : ℕ) → is_damage outcome ≡ false → status ≡ status_of (line_zero outcome ∷ []) → status ≢ 7
zero_undamaged outcome status none is = none_damaged (line_zero outcome ∷ []) status (ap (λ b. b || false) none) is

said_undamaged : (s : Said) (status : ℕ) → is_broken_by is_damage s ≡ false → status ≡ said_status s → status ≢ 7
said_undamaged (Ok out) status none is = apart status 0 is refl
said_undamaged (Err outcome) status none is = zero_undamaged outcome status none is

migrate_undamaged : (name : List ℕ) (e : Ends) (status : ℕ) → MigrateCourse name e status → TellsSoundTree e.stored → status ≢ 7
migrate_undamaged name e status (said s m all is) told = said_undamaged s status (m.undamaged told) is
migrate_undamaged name e status (unsaid_whole s m part is) told = apart status 6 is refl
migrate_undamaged name e status (starved_so left same is) told = apart status 3 is refl

told_undamaged : (t : Told) (status : ℕ) → is_broken_by is_damage t ≡ false → status ≡ told_status t → status ≢ 7
told_undamaged (Ok text) status none is = apart status 0 is refl
told_undamaged (Err outcome) status none is = zero_undamaged outcome status none is

small_undamaged : {R : Type 0} (name : Name) (Reads : Does R) (Broken : Begins) (Holds : Claims R) (tells : Result R ScanStuck → Told) (e : Ends) (status : ℕ) → IsLogicalName name → TellsUnitsOf e.stored name → ReadCourse name Reads Broken Holds tells e status → status ≢ 7
small_undamaged name Reads Broken Holds tells e status logical units (read_whole t a all is) = told_undamaged t status (a.undamaged logical units) is
small_undamaged name Reads Broken Holds tells e status logical units (read_part t a part is) = apart status 6 is refl
small_undamaged name Reads Broken Holds tells e status logical units (unread_so left same is) = apart status 3 is refl

packed_undamaged : (ended : PackEnd) (status : ℕ) → is_broken_by is_damage ended ≡ false → status ≡ packed_status ended → status ≢ 7
packed_undamaged (Ok (All end)) status none is = apart status 0 is refl
packed_undamaged (Ok Full) status none is = apart status 1 is refl
packed_undamaged (Err outcome) status none is = zero_undamaged outcome status none is

pack_undamaged : (name : List ℕ) (region : ℕ) (files : List NamedFile) (e : Ends) (status : ℕ) → IsLogicalName name → TellsUnitsOf e.stored name → PackCourse name region files e status → status ≢ 7
pack_undamaged name region files e status logical units (told_of_packing ended p all is) = packed_undamaged ended status (p.undamaged logical units) is
pack_undamaged name region files e status logical units (told_in_part ended p part is) = apart status 6 is refl
pack_undamaged name region files e status logical units (broken_packing left same is) = apart status 3 is refl

pack_input_undamaged : (name : List ℕ) (region : ℕ) (bytes : List ℕ) (e : Ends) (status : ℕ) → IsLogicalName name → TellsUnitsOf e.stored name → PackInputCourse name region bytes e status → status ≢ 7
pack_input_undamaged name region bytes e status logical units (faulty_input fault has same says is) = apart status 2 is refl
pack_input_undamaged name region bytes e status logical units (packed_input files input course) = pack_undamaged name region files e status logical units course
pack_input_undamaged name region bytes e status logical units (unpacked same none is) = apart status 3 is refl

input_undamaged : (way : Way) (bytes : List ℕ) (e : Ends) (status : ℕ) → InputCourse way bytes e status → TellsSoundTree e.stored → status ≢ 7
input_undamaged way bytes e status (faulty fault has same says is) told = apart status 2 is refl
input_undamaged way bytes e status (played script reads play) told = play_undamaged way script all_lines e status (shown_none shown.All) play told
input_undamaged way bytes e status (unplayed same none is) told = apart status 3 is refl

pub course_undamaged : (Serves : Command → Type 0) (words : List (List ℕ)) (given after : Given) (e : Ends) (status : ℕ) → Course Serves words given after e status → TellsSoundTree e.stored → AskForUnits words e.stored → status ≢ 7
course_undamaged Serves words given after e status (usage none same untouched says is) told units = apart status 2 is refl
course_undamaged Serves words given after e status (unread way served command risen untouched none is) told units = apart status 5 is refl
course_undamaged Serves words given after e status (read way bytes served command input course) told units = input_undamaged way bytes e status course told
course_undamaged Serves words given after e status (planned command plan spelled plans same play) told units = play_undamaged by_turns plan.script (shows_of plan.shown) e status (shown_none plan.shown) play told
course_undamaged Serves words given after e status (cats name command same cat) told units = cat_undamaged name e status cat told
course_undamaged Serves words given after e status (migrates name command same m) told units = migrate_undamaged name e status m told
course_undamaged Serves words given after e status (packs_unread name region command risen untouched none is) told units = apart status 5 is refl
course_undamaged Serves words given after e status (packs name region bytes command input course) told units = pack_input_undamaged name region bytes e status command.1 (units (Pack name region) name command refl) course
course_undamaged Serves words given after e status (unpacks name file command same u) told units = small_undamaged _ _ _ _ _ e status command.1 (units (Unpack name file) name command refl) u
course_undamaged Serves words given after e status (names_all name command same n) told units = small_undamaged _ _ _ _ _ e status command.1 (units (Names name) name command refl) n
course_undamaged Serves words given after e status (hungry well untouched none is) told units = apart status 3 is refl

-- ---- with threads

none_served : (words : List (List ℕ)) (command : Command) → ((other : Command) → IsBuiltCommand other → IsCommand words other → ⊥) → (IsCommand words Run → ⊥) → IsServed command → IsCommand words command → ⊥
none_served words command none not_run (inl built) spelled = none command built spelled
none_served words command none not_run (inr run) spelled = let P : Command → Type 0 = λ c. IsCommand words c in not_run (subst P run spelled)

pub same_command : (a b : Command) → Some a ≡ Some b → a ≡ b
same_command a b same = cc

-- other words go the same way where `run` is served
pub goes_as_before : (words : List (List ℕ)) (given after : Given) (e : Ends) (status : ℕ) → (IsCommand words Run → ⊥) → Course IsBuiltCommand words given after e status → Course IsServed words given after e status
goes_as_before words given after e status not_run (usage none same untouched says is) = usage (λ command served spelled. none_served words command none not_run served spelled) same untouched says is
goes_as_before words given after e status not_run (unread way built command risen untouched none is) = unread way (inl built) command risen untouched none is
goes_as_before words given after e status not_run (read way bytes built command input course) = read way bytes (inl built) command input course
goes_as_before words given after e status not_run (planned command plan spelled plans same play) = planned command plan spelled plans same play
goes_as_before words given after e status not_run (cats name command same cat) = cats name command same cat
goes_as_before words given after e status not_run (migrates name command same m) = migrates name command same m
goes_as_before words given after e status not_run (packs_unread name region command risen untouched none is) = packs_unread name region command risen untouched none is
goes_as_before words given after e status not_run (packs name region bytes command input course) = packs name region bytes command input course
goes_as_before words given after e status not_run (unpacks name file command same u) = unpacks name file command same u
goes_as_before words given after e status not_run (names_all name command same n) = names_all name command same n
goes_as_before words given after e status not_run (hungry well untouched none is) = hungry well untouched none is
