-- What a run over a sound tree comes to where nothing breaks.
use Rattle.std.proofs.Common.{ℕ, ◌≡◌, ◌⊎◌, inl, inr, Bool, true, false, ◌||◌, if◌then◌else◌, List, [], ◌∷◌, ◌++◌, Result, Ok, Err, refl, ◌∙◌, arith}
use Rattle.std.proofs.lemmas.List.Folds.{list_any-append}
use Rattle.plfs_types.specs.Names.{IsLogicalName}
use Rattle.edge_io.specs.Sink.{Taking}
use Rattle.edge_io.specs.Source.{Given}
use Rattle.mount_model.specs.Paths.{Name}
use Rattle.pack_files.specs.declared.scan.ScanStuck.{ScanStuck}
use Rattle.pack_input.specs.Input.{Fault as InputFault, HasFault as HasInputFault}
use Rattle.pack_input.specs.declared.files.NamedFile.{NamedFile}
use Rattle.lone_flow.specs.declared.packing.Packed.TheVariants.{All, Full}
use Rattle.script_lang.specs.Faults.{Fault, HasFault}
use Rattle.script_lang.specs.declared.line.Line.{Line}
use Rattle.script_lang.specs.declared.line.Outcome.{Outcome}
use Rattle.script_lang.specs.declared.script.Script.{Script}
use Rattle.command_line.specs.declared.commands.Command.{Command}
use Rattle.command_line.specs.declared.commands.Command.TheVariants.{Names, Pack, Unpack}
use Rattle.report_text.specs.Text.{text_of}
use Rattle.plfs_program.specs.Cat.{content_of, unopened, unsaid, whole, stuck, broken, starved, hungry as wants}
use Rattle.plfs_program.specs.Catting.{CatCourse}
use Rattle.plfs_program.specs.Complete.{IsAsked, HadNoTrouble}
use Rattle.program_ends.specs.Outcomes.{IsDone, has_line, is_damage, is_fault, is_refusal, status_of}
use Rattle.plfs_program.specs.Course.{Course, InputCourse, faulty, played, starved as unplayed, usage, unread, read, planned, cats, migrates, packs_unread, packs, unpacks, names_all, hungry}
use Rattle.program_ends.specs.Ends.{Ends}
use Rattle.plfs_program.specs.Migrating.{MigrateCourse, Said, said_status, said_text, printed as told_whole, cut_off as told_part, exhausted as untold}
use Rattle.program_ends.specs.Outcomes.{is_broken_by}
use Rattle.program_ends.specs.Reported.{line_zero}
use Rattle.program_ends.specs.Output.{IsCutOff}
use Rattle.plfs_program.specs.Packing.{PackCourse, PackEnd, PackInputCourse, packed_status, packed_text, printed as told_of_packing, cut_off as told_in_part, exhausted as broken_packing, faulty as faulty_input, packed as packed_input, starved as unpacked}
use Rattle.plfs_program.specs.Playing.{IsPlayedAs, PlayCourse, printed, cut_off, exhausted}
use Rattle.plfs_program.specs.Showing.{Shows, all_lines, is_reader, shows_of}
use Rattle.plfs_program.specs.SmallFiles.{Begins, Claims, Does, ReadCourse, Told, told_status, told_text, printed as read_whole, cut_off as read_part, exhausted as unread_so}
use Rattle.program_ends.specs.SoundTrees.{TellsSoundTree}
use Rattle.plfs_program.specs.UnitTrees.{AskForUnits, TellsUnitsOf}
use Rattle.plfs_program.specs.Ways.{Way, by_turns}
use Rattle.plfs_program.specs.declared.showing.Shown.{Shown}
use Rattle.plfs_program.specs.declared.showing.Shown.TheVariants as shown
use Rattle.plfs_program.proofs.Courses.CourseLaws.{ShowsNone, last_undamaged, shown_none}
use Rattle.plfs_program.proofs.Courses.Lines.{risen_since}

-- ---- statuses

chosen : (d f r : Bool) (status : ℕ) → d ≡ false → (f ≡ true → ⊥) → status ≡ (if d then 7 else if f then 4 else if r then 1 else 0) → IsDone status
chosen true f r status undamaged quiet is = cc
chosen false true r status undamaged quiet is = absurd (quiet refl)
chosen false false true status undamaged quiet is = inr (inl is)
chosen false false false status undamaged quiet is = inl is

done_so : (lines : List Line) (status : ℕ) → has_line is_damage lines ≡ false → (has_line is_fault lines ≡ true → ⊥) → status ≡ status_of lines → IsDone status
done_so lines status undamaged quiet is = chosen (has_line is_damage lines) (has_line is_fault lines) (has_line is_refusal lines) status undamaged quiet is

first_false : (a : Bool) → a ≡ false → (a || false) ≡ false
first_false false is = refl
first_false true is = cc

alone : (a : Bool) → (a || false) ≡ true → a ≡ true
alone true is = refl
alone false is = cc

zero_done : (outcome : Outcome) (status : ℕ) → is_damage outcome ≡ false → (is_fault outcome ≡ true → ⊥) → status ≡ status_of (line_zero outcome ∷ []) → IsDone status
zero_done outcome status undamaged quiet is = done_so (line_zero outcome ∷ []) status (first_false (is_damage outcome) undamaged) (λ bad. quiet (alone (is_fault outcome) bad)) is

said_done : (said : Said) (status : ℕ) → is_broken_by is_damage said ≡ false → (is_broken_by is_fault said ≡ true → ⊥) → status ≡ said_status said → IsDone status
said_done (Ok out) status undamaged quiet is = inl is
said_done (Err outcome) status undamaged quiet is = zero_done outcome status undamaged quiet is

told_done : (told : Told) (status : ℕ) → is_broken_by is_damage told ≡ false → (is_broken_by is_fault told ≡ true → ⊥) → status ≡ told_status told → IsDone status
told_done (Ok text) status undamaged quiet is = inl is
told_done (Err outcome) status undamaged quiet is = zero_done outcome status undamaged quiet is

packed_done : (ended : PackEnd) (status : ℕ) → is_broken_by is_damage ended ≡ false → (is_broken_by is_fault ended ≡ true → ⊥) → status ≡ packed_status ended → IsDone status
packed_done (Ok (All end)) status undamaged quiet is = inl is
packed_done (Ok Full) status undamaged quiet is = inr (inl is)
packed_done (Err outcome) status undamaged quiet is = zero_done outcome status undamaged quiet is

-- ---- a fault that is shown is one of the lines

abbrev FaultsAmong : Shows → Type 0
FaultsAmong shows = (lines : List Line) → has_line is_fault (shows.decide lines) ≡ true → has_line is_fault lines ≡ true

either_true : (a b : Bool) → (a ≡ true) ⊎ (b ≡ true) → (a || b) ≡ true
either_true true b is = refl
either_true false b (inl bad) = cc
either_true false b (inr is) = is

behind_faults : FaultsAmong (shows_of shown.PastOpening)
behind_faults [] bad = bad
behind_faults (line ∷ lines) bad = elim (is_reader line.outcome) as (λ b. has_line is_fault (if b then lines else line ∷ []) ≡ true → (is_fault line.outcome || has_line is_fault lines) ≡ true) [
  | true ↦ λ is. either_true (is_fault line.outcome) (has_line is_fault lines) (inr is)
  | false ↦ λ is. either_true (is_fault line.outcome) (has_line is_fault lines) (inl (alone (is_fault line.outcome) is))
] bad

shown_faults : (s : Shown) → FaultsAmong (shows_of s)
shown_faults shown.All = λ lines bad. bad
shown_faults shown.PastOpening = behind_faults
shown_faults shown.Summed = λ lines bad. bad

last_fault : (lines : List Line) (last : Line) → has_line is_fault (last ∷ []) ≡ true → has_line is_fault (lines ++ last ∷ []) ≡ true
last_fault lines last bad = list_any-append (λ (line : Line). is_fault line.outcome) lines (last ∷ []) ∙ either_true (has_line is_fault lines) (has_line is_fault (last ∷ [])) (inr bad)

-- ---- courses

module _ (given after : Given) (e : Ends) (quiet : HadNoTrouble given after e) (sound : TellsSoundTree e.stored) where
  no_fault : (way : Way) (script : Script) (lines : List Line) → IsPlayedAs way script lines e → has_line is_fault lines ≡ true → ⊥
  no_fault way script lines p bad = quiet.store p.after p.left (p.cause bad)

  -- what came behind some text that was taken wasn't cut off
  written : (text : List ℕ) (mid : Taking) → mid.faults ≡ e.taking.faults → mid.stalls ≡ e.taking.stalls → IsCutOff text mid e.taking_after → ⊥
  written text mid faults stalls part = elim part.cause as (λ _. ⊥) [
    | inl risen ↦ quiet.sink (risen_since e.taking.faults mid.faults e.taking_after.faults (omega (arith, faults)) risen)
    | inr stalled ↦ quiet.stalls (risen_since e.taking.stalls mid.stalls e.taking_after.stalls (omega (arith, stalls)) stalled)
  ]

  play_done : (way : Way) (script : Script) (shows : Shows) (status : ℕ) → ShowsNone shows → FaultsAmong shows → PlayCourse way script shows e status → IsDone status
  play_done way script shows status keeps among (printed lines p all is) = done_so (shows.decide lines) status (keeps lines (p.undamaged sound)) (λ bad. no_fault way script lines p (among lines bad)) is
  play_done way script shows status keeps among (cut_off lines p part is) = absurd (written (shows.text lines) e.taking refl refl part)
  play_done way script shows status keeps among (exhausted left same is) = inr (inr is)

  input_done : (way : Way) (bytes : List ℕ) (status : ℕ) → ((fault : Fault) → HasFault bytes fault → ⊥) → InputCourse way bytes e status → IsDone status
  input_done way bytes status faultless (faulty fault has same says is) = absurd (faultless fault has)
  input_done way bytes status faultless (played script reads play) = play_done way script all_lines status (shown_none shown.All) (shown_faults shown.All) play
  input_done way bytes status faultless (unplayed same none is) = inr (inr is)

  last_done : (way : Way) (script : Script) (lines : List Line) (last : Line) (status : ℕ) → IsPlayedAs way script (lines ++ last ∷ []) e → status ≡ status_of (last ∷ []) → IsDone status
  last_done way script lines last status p is = done_so (last ∷ []) status (last_undamaged lines last (p.undamaged sound)) (λ bad. no_fault way script (lines ++ last ∷ []) p (last_fault lines last bad)) is

  cat_done : (name : List ℕ) (status : ℕ) → CatCourse name e status → IsDone status
  cat_done name status (unopened line p none all is) = last_done by_turns _ [] line status p.played is
  cat_done name status (unsaid line p none part is) = absurd (written (text_of (line ∷ [])) e.taking refl refl part)
  cat_done name status (whole opened reads size tells p all out is) = inl is
  cat_done name status (stuck opened reads last size tells within p all not_read out is) = last_done by_turns _ (opened ∷ reads) last status p.played is
  cat_done name status (broken opened reads last size mid tells within p all last_read out part is) = absurd (written (content_of last.outcome) mid out.faults out.stalls part)
  cat_done name status (starved opened reads b all out is) = inr (inr is)
  cat_done name status (wants left same is) = inr (inr is)

  migrate_done : (name : List ℕ) (status : ℕ) → MigrateCourse name e status → IsDone status
  migrate_done name status (told_whole said m all is) = said_done said status (m.undamaged sound) (λ bad. quiet.store m.after m.left (m.cause bad)) is
  migrate_done name status (told_part said m part is) = absurd (written (said_text said) e.taking refl refl part)
  migrate_done name status (untold left same is) = inr (inr is)

  small_done : {R : Type 0} (name : Name) (Reads : Does R) (Broken : Begins) (Holds : Claims R) (tells : Result R ScanStuck → Told) (status : ℕ) → IsLogicalName name → TellsUnitsOf e.stored name → ReadCourse name Reads Broken Holds tells e status → IsDone status
  small_done name Reads Broken Holds tells status logical units (read_whole told t all is) = told_done told status (t.undamaged logical units) (λ bad. quiet.store t.after t.left (t.cause bad)) is
  small_done name Reads Broken Holds tells status logical units (read_part told t part is) = absurd (written (told_text told) e.taking refl refl part)
  small_done name Reads Broken Holds tells status logical units (unread_so left same is) = inr (inr is)

  pack_done : (name : List ℕ) (region : ℕ) (files : List NamedFile) (status : ℕ) → IsLogicalName name → TellsUnitsOf e.stored name → PackCourse name region files e status → IsDone status
  pack_done name region files status logical units (told_of_packing ended p all is) = packed_done ended status (p.undamaged logical units) (λ bad. quiet.store p.after p.left (p.cause bad)) is
  pack_done name region files status logical units (told_in_part ended p part is) = absurd (written (packed_text files ended) e.taking refl refl part)
  pack_done name region files status logical units (broken_packing left same is) = inr (inr is)

  pack_input_done : (name : List ℕ) (region : ℕ) (bytes : List ℕ) (status : ℕ) → IsLogicalName name → TellsUnitsOf e.stored name → ((fault : InputFault) → HasInputFault bytes fault → ⊥) → PackInputCourse name region bytes e status → IsDone status
  pack_input_done name region bytes status logical units packable (faulty_input fault has same says is) = absurd (packable fault has)
  pack_input_done name region bytes status logical units packable (packed_input files input course) = pack_done name region files status logical units course
  pack_input_done name region bytes status logical units packable (unpacked same none is) = inr (inr is)

  pub course_done : (Serves : Command → Type 0) (words : List (List ℕ)) (status : ℕ) → AskForUnits words e.stored → IsAsked Serves words given after → Course Serves words given after e status → IsDone status
  course_done Serves words status units asked (usage none same untouched says is) = absurd (none asked.command asked.served asked.spelled)
  course_done Serves words status units asked (unread way served command risen untouched none is) = absurd (quiet.source risen)
  course_done Serves words status units asked (read way bytes served command input course) = input_done way bytes status (λ fault. asked.faultless way bytes fault command input) course
  course_done Serves words status units asked (planned command plan spelled plans same play) = play_done by_turns plan.script (shows_of plan.shown) status (shown_none plan.shown) (shown_faults plan.shown) play
  course_done Serves words status units asked (cats name command same cat) = cat_done name status cat
  course_done Serves words status units asked (migrates name command same course) = migrate_done name status course
  course_done Serves words status units asked (packs_unread name region command risen untouched none is) = absurd (quiet.source risen)
  course_done Serves words status units asked (packs name region bytes command input course) =
      pack_input_done name region bytes status command.1 (units (Pack name region) name command refl) (λ fault. asked.packable name region bytes fault command input) course
  course_done Serves words status units asked (unpacks name file command same u) = small_done _ _ _ _ _ status command.1 (units (Unpack name file) name command refl) u
  course_done Serves words status units asked (names_all name command same n) = small_done _ _ _ _ _ status command.1 (units (Names name) name command refl) n
  course_done Serves words status units asked (hungry well untouched none is) = inr (inr is)
