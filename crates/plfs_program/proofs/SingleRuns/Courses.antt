-- Two runs with the same words that begin alike print the same, where the faulted acts left the same.
use Rattle.std.proofs.Common.{◌≡◌, ℕ, ◌+◌, ◌^◌, inl, inr, List, Option, Some, sym, ap, ◌∙◌, subst}
use Rattle.std.specs.List.{AllByRecursion}
use Rattle.edge_io.specs.Source.{Given}
use Rattle.store_api.specs.Acts.{Stored}
use Rattle.step_laws.specs.Alike.{StillCounts}
use Rattle.script_lang.specs.declared.script.Script.{Script}
use Rattle.script_lang.specs.Faults.{Fault}
use Rattle.script_lang.specs.Laws.{OneScript, OneFault, NeverBoth}
use Rattle.pack_input.specs.Input.{Fault as PackFault}
use Rattle.pack_input.specs.declared.files.NamedFile.{NamedFile}
use Rattle.pack_input.specs.Laws.{OneInput, OneFault as OnePackFault, NeverBoth as NeverPacked}
use Rattle.command_line.specs.declared.commands.Command.{Command}
use Rattle.command_line.specs.declared.commands.Command.TheVariants as command
use Rattle.command_line.specs.Commands.{IsCommand}
use Rattle.plfs_program.specs.Catting.{CatCourse}
use Rattle.plfs_program.specs.Commands.{IsBuiltCommand, plan_of}
use Rattle.plfs_program.specs.Course.{Course, InputCourse, IsInput, faulty, played, starved, usage, unread, read, planned, cats, migrates, packs_unread, packs, unpacks, names_all, hungry}
use Rattle.program_ends.specs.Usage.{usage_line}
use Rattle.program_ends.specs.Ends.{Ends, IsSaid, IsUntouched}
use Rattle.plfs_program.specs.Failures.{cat_failures, failures_of, input_failures, migrate_failures, pack_failures, pack_input_failures, play_failures, read_failures}
use Rattle.plfs_program.specs.Faults.{fault_line}
use Rattle.plfs_program.specs.LoneCalls.{naming_calls, unpacking_calls}
use Rattle.plfs_program.specs.Migrating.{MigrateCourse}
use Rattle.plfs_program.specs.Packing.{PackCourse, PackInputCourse, pack_fault_line}
use Rattle.plfs_program.specs.Packing as packing
use Rattle.plfs_program.specs.Playing.{PlayCourse}
use Rattle.plfs_program.specs.Showing.{Shows, all_lines, shows_of}
use Rattle.plfs_program.specs.SmallFiles.{NamesCourse, UnpackCourse}
use Rattle.program_ends.specs.Output.{IsPrinted}
use Rattle.plfs_program.specs.Ways.{by_turns, on_threads}
use Rattle.plfs_program.specs.declared.commands.Plan.{Plan}
use Rattle.plfs_program.specs.Twice.{BeginAlike, HadNoStreamTrouble, PrintAlike}
use Rattle.plfs_program.proofs.SingleRuns.Cats.{cat_twice}
use Rattle.plfs_program.proofs.SingleRuns.Each.{migrate_twice, pack_twice, play_twice, read_twice}
use Rattle.plfs_program.proofs.SingleRuns.Finds.{Isolated, unpack_one_way}
use Rattle.plfs_program.proofs.Facts.{input_one, one_command}
use Rattle.plfs_program.proofs.SingleRuns.Packs.{pack_one_way}
use Rattle.plfs_program.proofs.SingleRuns.Scans.{names_one_way}
use Rattle.plfs_program.proofs.SingleRuns.Twice.{none_some, not_cut, print_both, some_one}

-- ---- what a run does whose words are a command

-- a script that its words alone tell was played, and shown so
pub record PlaysSo {P : Type 0} (of : Command → Option P) (script_of : P → Script) (shows_so : P → Shows) (asked : Command) (e : Ends) (status : ℕ) (failures : List Stored) : Type 0 where
  pub plan : P
  pub has : of asked ≡ Some plan
  pub course : PlayCourse by_turns (script_of plan) (shows_so plan) e status
  pub fails : play_failures course ≡ Some failures

abbrev pub PlansSo : Command → Ends → ℕ → List Stored → Type 0
PlansSo asked e status failures = PlaysSo plan_of (λ p. p.script) (λ p. shows_of p.shown) asked e status failures

-- an input was read, and this became of it
pub record Plays (given after : Given) (e : Ends) (status : ℕ) (failures : List Stored) : Type 0 where
  pub bytes : List ℕ
  pub input : IsInput bytes given after
  pub course : InputCourse by_turns bytes e status
  pub fails : input_failures course ≡ Some failures

-- small files were read, and this became of them
pub record PacksSo (name : List ℕ) (region : ℕ) (given after : Given) (e : Ends) (status : ℕ) (failures : List Stored) : Type 0 where
  pub bytes : List ℕ
  pub input : IsInput bytes given after
  pub course : PackInputCourse name region bytes e status
  pub fails : pack_input_failures course ≡ Some failures

abbrev pub DoesSo : Command → Given → Given → Ends → ℕ → List Stored → Type 0
DoesSo command.Run given after e status failures = ⊥
DoesSo command.Play given after e status failures = Plays given after e status failures
DoesSo (command.Cat name) given after e status failures = (course : CatCourse name e status) × (cat_failures course ≡ Some failures)
DoesSo (command.Migrate name) given after e status failures = (course : MigrateCourse name e status) × (migrate_failures course ≡ Some failures)
DoesSo (command.Pack name region) given after e status failures = PacksSo name region given after e status failures
DoesSo (command.Unpack name file) given after e status failures = (course : UnpackCourse name file e status) × (read_failures (unpacking_calls name file) course ≡ Some failures)
DoesSo (command.Names name) given after e status failures = (course : NamesCourse name e status) × (read_failures (naming_calls name) course ≡ Some failures)
DoesSo asked given after e status failures = PlansSo asked e status failures

-- the words are a command's, which did so; or they are none's, and the usage line was said
pub data WentSo (words : List (List ℕ)) (given after : Given) (e : Ends) (status : ℕ) (failures : List Stored) : Type 0 where
  did : (asked : Command) → IsBuiltCommand asked → IsCommand words asked → DoesSo asked given after e status failures → WentSo words given after e status failures
  none : ((asked : Command) → IsBuiltCommand asked → IsCommand words asked → ⊥) → IsUntouched e → IsSaid usage_line e → status ≡ 2 → WentSo words given after e status failures

unplanned : {given after : Given} {e : Ends} {status : ℕ} {failures : List Stored} (words : List (List ℕ)) (asked : Command) → IsCommand words asked → PlansSo asked e status failures → WentSo words given after e status failures
unplanned words command.Run is p = absurd (none_some p.plan p.has)
unplanned words command.Play is p = absurd (none_some p.plan p.has)
unplanned words (command.Cat name) is p = absurd (none_some p.plan p.has)
unplanned words (command.Migrate name) is p = absurd (none_some p.plan p.has)
unplanned words (command.Pack name region) is p = absurd (none_some p.plan p.has)
unplanned words (command.Unpack name file) is p = absurd (none_some p.plan p.has)
unplanned words (command.Names name) is p = absurd (none_some p.plan p.has)
unplanned words (command.Gen writers) is p = did (command.Gen writers) (p.plan, p.has) is p
unplanned words (command.Stat name) is p = did (command.Stat name) (p.plan, p.has) is p
unplanned words (command.Map name) is p = did (command.Map name) (p.plan, p.has) is p
unplanned words (command.Flatten name) is p = did (command.Flatten name) (p.plan, p.has) is p
unplanned words (command.Recover name) is p = did (command.Recover name) (p.plan, p.has) is p
unplanned words (command.Trunc name size) is p = did (command.Trunc name size) (p.plan, p.has) is p
unplanned words (command.Rename name to) is p = did (command.Rename name to) (p.plan, p.has) is p
unplanned words command.Ls is p = did command.Ls (p.plan, p.has) is p

went : (words : List (List ℕ)) (given after : Given) (e : Ends) (status : ℕ) (failures : List Stored) → HadNoStreamTrouble given after e → (course : Course IsBuiltCommand words given after e status) → failures_of course ≡ Some failures
    → WentSo words given after e status failures
went words given after e status failures calm (usage missing same kept said two) fails = none missing kept said two
went words given after e status failures calm (unread way served spelled risen kept same five) fails = absurd (calm.source risen)
went words given after e status failures calm (read by_turns bytes served spelled input course) fails = did command.Play tt spelled (record { bytes = bytes; input = input; course = course; fails = fails })
went words given after e status failures calm (read on_threads bytes served spelled input course) fails = absurd (none_some served.0 served.1)
went words given after e status failures calm (planned asked plan spelled has same course) fails = unplanned words asked spelled (record { plan = plan; has = has; course = course; fails = fails })
went words given after e status failures calm (cats name spelled same course) fails = did (command.Cat name) tt spelled (course, fails)
went words given after e status failures calm (migrates name spelled same course) fails = did (command.Migrate name) tt spelled (course, fails)
went words given after e status failures calm (packs_unread name region spelled risen kept same five) fails = absurd (calm.source risen)
went words given after e status failures calm (packs name region bytes spelled input course) fails = did (command.Pack name region) tt spelled (record { bytes = bytes; input = input; course = course; fails = fails })
went words given after e status failures calm (unpacks name file spelled same course) fails = did (command.Unpack name file) tt spelled (course, fails)
went words given after e status failures calm (names_all name spelled same course) fails = did (command.Names name) tt spelled (course, fails)
went words given after e status failures calm (hungry well kept same three) fails = absurd (none_some failures fails)

-- a line that was said is printed
said_whole : (given after : Given) (e : Ends) (line : List ℕ) → HadNoStreamTrouble given after e → IsSaid line e → IsPrinted line e.taking e.taking_after
said_whole given after e line calm (inl whole) = whole
said_whole given after e line calm (inr part) = absurd (not_cut given after e line calm part)

module _ (one_script : OneScript) (one_fault : OneFault) (never : NeverBoth) (one_files : OneInput) (one_pack_fault : OnePackFault) (never_packed : NeverPacked) (isolated : Isolated) (given after another later : Given) (e f : Ends) (alike : BeginAlike e f)
    (calm : HadNoStreamTrouble given after e) (calm_too : HadNoStreamTrouble another later f) (failures : List Stored) (still : AllByRecursion StillCounts failures) where
  -- two plays of one script, where the other is that of this one
  scripts_twice : (script also : Script) (shows : Shows) (status other : ℕ) → also ≡ script → (a : PlayCourse by_turns script shows e status) (b : PlayCourse by_turns also shows f other) → play_failures a ≡ Some failures → play_failures b ≡ Some failures → PrintAlike e f status other
  scripts_twice script also shows status other same a b fails too =
      let P : Script → Type 0 = λ s. (course : PlayCourse by_turns s shows f other) × (play_failures course ≡ Some failures) in
      let twin : (course : PlayCourse by_turns script shows f other) × (play_failures course ≡ Some failures) = subst P same (b, too) in
      play_twice given after another later e f alike calm calm_too failures still script shows status other a twin.0 fails twin.1

  input_twice : (bytes : List ℕ) (status other : ℕ) (a : InputCourse by_turns bytes e status) (b : InputCourse by_turns bytes f other) → input_failures a ≡ Some failures → input_failures b ≡ Some failures → PrintAlike e f status other
  input_twice bytes status other (faulty fault has kept said is) (faulty too has_too kept_too said_too is_too) fails fails_too =
      let same : too ≡ fault = one_fault bytes too fault has_too has in
      let whole = said_whole another later f (fault_line too.line too.kind) calm_too said_too in
      print_both (fault_line fault.line fault.kind) e f status other (said_whole given after e (fault_line fault.line fault.kind) calm said)
      (subst (λ (x : Fault). IsPrinted (fault_line x.line x.kind) f.taking f.taking_after) same whole) (is ∙ sym is_too) (kept ∙ ap Some (sym alike.stored) ∙ sym kept_too)
  input_twice bytes status other (faulty fault has kept said is) (played script spelled course) fails fails_too = absurd (never bytes script fault spelled has)
  input_twice bytes status other (faulty fault has kept said is) (starved kept_too same is_too) fails fails_too = absurd (none_some failures fails_too)
  input_twice bytes status other (played script spelled course) (faulty fault has kept said is) fails fails_too = absurd (never bytes script fault spelled has)
  input_twice bytes status other (played script spelled course) (played too spelled_too course_too) fails fails_too =
      scripts_twice script too all_lines status other (one_script bytes too script spelled_too spelled) course course_too fails fails_too
  input_twice bytes status other (played script spelled course) (starved kept same is) fails fails_too = absurd (none_some failures fails_too)
  input_twice bytes status other (starved kept same is) b fails fails_too = absurd (none_some failures fails)

  plays_twice : (input : List ℕ) (status other : ℕ) → given.left ≡ Some input → another.left ≡ Some input → Plays given after e status failures → Plays another later f other failures → PrintAlike e f status other
  plays_twice input status other told told_too x y =
      let same : y.bytes ≡ x.bytes = input_one (2 ^ 20 + 1) input y.bytes x.bytes another later given after told_too told y.input x.input in
      let P : List ℕ → Type 0 = λ z. (course : InputCourse by_turns z f other) × (input_failures course ≡ Some failures) in
      let twin : (course : InputCourse by_turns x.bytes f other) × (input_failures course ≡ Some failures) = subst P same (y.course, y.fails) in
      input_twice x.bytes status other x.course twin.0 x.fails twin.1

  pack_input_twice : (name : List ℕ) (region : ℕ) (bytes : List ℕ) (status other : ℕ) (a : PackInputCourse name region bytes e status) (b : PackInputCourse name region bytes f other) → pack_input_failures a ≡ Some failures → pack_input_failures b ≡ Some failures
      → PrintAlike e f status other
  pack_input_twice name region bytes status other (packing.faulty fault has kept said is) (packing.faulty too has_too kept_too said_too is_too) fails fails_too =
      let same : too ≡ fault = one_pack_fault bytes too fault has_too has in
      let whole = said_whole another later f (pack_fault_line too) calm_too said_too in
      print_both (pack_fault_line fault) e f status other (said_whole given after e (pack_fault_line fault) calm said)
      (subst (λ (x : PackFault). IsPrinted (pack_fault_line x) f.taking f.taking_after) same whole) (is ∙ sym is_too) (kept ∙ ap Some (sym alike.stored) ∙ sym kept_too)
  pack_input_twice name region bytes status other (packing.faulty fault has kept said is) (packing.packed files input course) fails fails_too = absurd (never_packed bytes files fault input has)
  pack_input_twice name region bytes status other (packing.faulty fault has kept said is) (packing.starved kept_too same is_too) fails fails_too = absurd (none_some failures fails_too)
  pack_input_twice name region bytes status other (packing.packed files input course) (packing.faulty fault has kept said is) fails fails_too = absurd (never_packed bytes files fault input has)
  pack_input_twice name region bytes status other (packing.packed files input course) (packing.packed too input_too course_too) fails fails_too =
      let same : too ≡ files = one_files bytes too files input_too input in
      let P : List NamedFile → Type 0 = λ fs. (course : PackCourse name region fs f other) × (pack_failures course ≡ Some failures) in
      let twin : (course : PackCourse name region files f other) × (pack_failures course ≡ Some failures) = subst P same (course_too, fails_too) in
      pack_twice given after another later e f alike calm calm_too failures still name region files (pack_one_way name region files) status other course twin.0 fails twin.1
  pack_input_twice name region bytes status other (packing.packed files input course) (packing.starved kept same is) fails fails_too = absurd (none_some failures fails_too)
  pack_input_twice name region bytes status other (packing.starved kept same is) b fails fails_too = absurd (none_some failures fails)

  packs_twice : (input : List ℕ) (name : List ℕ) (region : ℕ) (status other : ℕ) → given.left ≡ Some input → another.left ≡ Some input → PacksSo name region given after e status failures → PacksSo name region another later f other failures → PrintAlike e f status other
  packs_twice input name region status other told told_too x y =
      let same : y.bytes ≡ x.bytes = input_one (2 ^ 20 + 1) input y.bytes x.bytes another later given after told_too told y.input x.input in
      let P : List ℕ → Type 0 = λ z. (course : PackInputCourse name region z f other) × (pack_input_failures course ≡ Some failures) in
      let twin : (course : PackInputCourse name region x.bytes f other) × (pack_input_failures course ≡ Some failures) = subst P same (y.course, y.fails) in
      pack_input_twice name region x.bytes status other x.course twin.0 x.fails twin.1

  plans_twice : (asked : Command) (status other : ℕ) → PlansSo asked e status failures → PlansSo asked f other failures → PrintAlike e f status other
  plans_twice asked status other x y =
      let same : y.plan ≡ x.plan = some_one y.plan x.plan (sym y.has ∙ x.has) in
      let P : Plan → Type 0 = λ p. (course : PlayCourse by_turns p.script (shows_of p.shown) f other) × (play_failures course ≡ Some failures) in
      let twin : (course : PlayCourse by_turns x.plan.script (shows_of x.plan.shown) f other) × (play_failures course ≡ Some failures) = subst P same (y.course, y.fails) in
      play_twice given after another later e f alike calm calm_too failures still x.plan.script (shows_of x.plan.shown) status other x.course twin.0 x.fails twin.1

  does_twice : (input : List ℕ) (asked : Command) (status other : ℕ) → given.left ≡ Some input → another.left ≡ Some input → DoesSo asked given after e status failures → DoesSo asked another later f other failures → PrintAlike e f status other
  does_twice input command.Run status other told told_too x y = absurd x
  does_twice input command.Play status other told told_too x y = plays_twice input status other told told_too x y
  does_twice input (command.Cat name) status other told told_too x y = cat_twice given after another later e f alike calm calm_too failures still name status other x.0 y.0 x.1 y.1
  does_twice input (command.Migrate name) status other told told_too x y = migrate_twice given after another later e f alike calm calm_too failures still name status other x.0 y.0 x.1 y.1
  does_twice input (command.Pack name region) status other told told_too x y = packs_twice input name region status other told told_too x y
  does_twice input (command.Unpack name file) status other told told_too x y = read_twice given after another later e f alike calm calm_too failures still _ _ _ _ _ (unpacking_calls name file) (unpack_one_way isolated name file) status other x.0 y.0 x.1 y.1
  does_twice input (command.Names name) status other told told_too x y = read_twice given after another later e f alike calm calm_too failures still _ _ _ _ _ (naming_calls name) (names_one_way name) status other x.0 y.0 x.1 y.1
  does_twice input (command.Gen writers) status other told told_too x y = plans_twice (command.Gen writers) status other x y
  does_twice input (command.Stat name) status other told told_too x y = plans_twice (command.Stat name) status other x y
  does_twice input (command.Map name) status other told told_too x y = plans_twice (command.Map name) status other x y
  does_twice input (command.Flatten name) status other told told_too x y = plans_twice (command.Flatten name) status other x y
  does_twice input (command.Recover name) status other told told_too x y = plans_twice (command.Recover name) status other x y
  does_twice input (command.Trunc name size) status other told told_too x y = plans_twice (command.Trunc name size) status other x y
  does_twice input (command.Rename name to) status other told told_too x y = plans_twice (command.Rename name to) status other x y
  does_twice input command.Ls status other told told_too x y = plans_twice command.Ls status other x y

  pub run_twice : (words : List (List ℕ)) (input : List ℕ) (status other : ℕ) → given.left ≡ Some input → another.left ≡ Some input → WentSo words given after e status failures → WentSo words another later f other failures → PrintAlike e f status other
  run_twice words input status other told told_too (did asked served is x) (did again served_too is_too y) =
      does_twice input asked status other told told_too x (subst (λ c. DoesSo c another later f other failures) (one_command words again asked is_too is) y)
  run_twice words input status other told told_too (did asked served is x) (none missing kept said two) = absurd (missing asked served is)
  run_twice words input status other told told_too (none missing kept said two) (did asked served is x) = absurd (missing asked served is)
  run_twice words input status other told told_too (none missing kept said two) (none missing_too kept_too said_too two_too) =
      print_both usage_line e f status other (said_whole given after e usage_line calm said) (said_whole another later f usage_line calm_too said_too) (two ∙ sym two_too) (kept ∙ ap Some (sym alike.stored) ∙ sym kept_too)

  pub courses_twice : (words : List (List ℕ)) (input : List ℕ) (status other : ℕ) → given.left ≡ Some input → another.left ≡ Some input → (a : Course IsBuiltCommand words given after e status) (b : Course IsBuiltCommand words another later f other)
      → failures_of a ≡ Some failures → failures_of b ≡ Some failures → PrintAlike e f status other
  courses_twice words input status other told told_too a b fails too =
      run_twice words input status other told told_too (went words given after e status failures calm a fails) (went words another later f other failures calm_too b too)
