-- Where nothing failed no act left anything by a fault.
use Rattle.std.proofs.Common.{◌≡◌, ◌≢◌, ℕ, List, [], Option, Some, Result, Err, refl, ap}
use Rattle.edge_io.specs.Source.{Given}
use Rattle.plfs_types.specs.Counts.{HasRisen}
use Rattle.store_api.specs.Acts.{Stored}
use Rattle.migrate_core.specs.Migrating.{migrate_program}
use Rattle.mount_model.specs.Paths.{Name}
use Rattle.pack_files.specs.declared.scan.ScanStuck.{ScanStuck}
use Rattle.pack_input.specs.declared.files.NamedFile.{NamedFile}
use Rattle.program_ends.specs.Ends.{Ends}
use Rattle.script_lang.specs.declared.line.Line.{Line}
use Rattle.script_lang.specs.declared.script.Script.{Script}
use Rattle.plfs_program.specs.Cat as cat
use Rattle.plfs_program.specs.Catting.{CatCourse, IsReadOut}
use Rattle.plfs_program.specs.Commands.{IsBuiltCommand}
use Rattle.plfs_program.specs.Complete.{HadNoTrouble}
use Rattle.plfs_program.specs.Course.{Course, InputCourse, faulty, played, starved, usage, unread, read, planned, cats, migrates, packs_unread, packs, unpacks, names_all, hungry}
use Rattle.plfs_program.specs.Failures.{CallsOf, cat_failures, end_failures, failures_of, input_failures, lines_failures, migrate_failures, pack_failures, pack_input_failures, play_failures, read_failures, said_failures, told_failures}
use Rattle.plfs_program.specs.Lines.{AreLinesOf}
use Rattle.plfs_program.specs.LoneCalls.{naming_calls, unpacking_calls}
use Rattle.plfs_program.specs.Migrating.{MigrateCourse, IsSaidOf, Said, said_of}
use Rattle.plfs_program.specs.Migrating as m
use Rattle.plfs_program.specs.Packing.{IsEndOf, PackCourse, PackEnd, PackInputCourse, end_of}
use Rattle.plfs_program.specs.Packing as packing
use Rattle.plfs_program.specs.Playing.{PlayCourse, IsPlayedAs, printed, cut_off, exhausted}
use Rattle.plfs_program.specs.Showing.{Shows}
use Rattle.plfs_program.specs.SmallFiles.{Begins, Does, Claims, Told, ReadCourse, IsToldOf}
use Rattle.plfs_program.specs.SmallFiles as s
use Rattle.plfs_program.specs.Ways.{by_turns, on_threads}
use Rattle.plfs_program.proofs.SingleRuns.Came.{came_quiet}
use Rattle.plfs_program.proofs.SingleRuns.Each.{PacksBy, migrated, packed_on, read_on}
use Rattle.plfs_program.proofs.SingleRuns.Finds.{Isolated, unpack_one_way}
use Rattle.plfs_program.proofs.SingleRuns.OneWay.{DoneBy, GoesOneWay, MakesBy, makes_one_way}
use Rattle.plfs_program.proofs.SingleRuns.Packs.{pack_one_way}
use Rattle.plfs_program.proofs.SingleRuns.Plays.{PlaysBy, as_they_are, line_of, lines_came, plays_one_way}
use Rattle.plfs_program.proofs.SingleRuns.Scans.{names_one_way}
use Rattle.plfs_program.proofs.SingleRuns.Twice.{none_some}

lines_quiet : (script : Script) (times : Option (List ℕ)) (before after : Stored) (lines : List Line) → (HasRisen before.faults after.faults → ⊥) → (x : AreLinesOf by_turns times before after script lines) → Some (lines_failures x) ≡ Some []
lines_quiet script times before after lines none x =
    ap Some (came_quiet (PlaysBy script) as_they_are line_of times before after lines (lines_failures x) (plays_one_way script) none (lines_came script times before after lines (lines_failures x) x refl))

module _ (given after : Given) (e : Ends) (quiet : HadNoTrouble given after e) where
  played_quiet : (script : Script) (lines : List Line) (p : IsPlayedAs by_turns script lines e) → Some (lines_failures p.in_turn) ≡ Some []
  played_quiet script lines p = lines_quiet script e.times e.stored p.after lines (quiet.store p.after p.left) p.in_turn

  pub play_quiet : (script : Script) (shows : Shows) (status : ℕ) → status ≢ 3 → (course : PlayCourse by_turns script shows e status) → play_failures course ≡ Some []
  play_quiet script shows status fed (printed lines p text is) = played_quiet script lines p
  play_quiet script shows status fed (cut_off lines p part is) = played_quiet script lines p
  play_quiet script shows status fed (exhausted left kept is) = absurd (fed is)

  input_quiet : (bytes : List ℕ) (status : ℕ) → status ≢ 3 → (course : InputCourse by_turns bytes e status) → input_failures course ≡ Some []
  input_quiet bytes status fed (faulty fault has kept said is) = refl
  input_quiet bytes status fed (played script spelled course) = play_quiet script _ status fed course
  input_quiet bytes status fed (starved kept same is) = absurd (fed is)

  out_quiet : (name : List ℕ) (count : ℕ) (lines : List Line) (p : IsReadOut name count lines e) → Some (lines_failures p.played.in_turn) ≡ Some []
  out_quiet name count lines p = played_quiet (cat.cat_script name count) lines p.played

  pub cat_quiet : (name : List ℕ) (status : ℕ) → status ≢ 3 → (course : CatCourse name e status) → cat_failures course ≡ Some []
  cat_quiet name status fed (cat.unopened line out none text is) = out_quiet name 0 _ out
  cat_quiet name status fed (cat.unsaid line out none part is) = out_quiet name 0 _ out
  cat_quiet name status fed (cat.whole opened reads size has out all text is) = out_quiet name _ _ out
  cat_quiet name status fed (cat.stuck opened reads last size has few out all other text is) = out_quiet name _ _ out
  cat_quiet name status fed (cat.broken opened reads last size mid has few out all read_too text part is) = out_quiet name _ _ out
  cat_quiet name status fed (cat.starved opened reads went all text is) = absurd (fed is)
  cat_quiet name status fed (cat.hungry left same is) = absurd (fed is)

  said_quiet : (name : List ℕ) (said : Said) (left : Stored) → e.stored_after ≡ Some left → (x : IsSaidOf e.times e.stored left name said) → Some (said_failures x) ≡ Some []
  said_quiet name said left is x =
      ap Some (came_quiet (MakesBy (migrate_program name)) said_of Err e.times e.stored left said (said_failures x) (makes_one_way (migrate_program name)) (quiet.store left is) (migrated name e.times e.stored left said (said_failures x) x refl))

  migrate_quiet : (name : List ℕ) (status : ℕ) → status ≢ 3 → (course : MigrateCourse name e status) → migrate_failures course ≡ Some []
  migrate_quiet name status fed (m.printed said a text is) = said_quiet name said a.after a.left a.came
  migrate_quiet name status fed (m.cut_off said a part is) = said_quiet name said a.after a.left a.came
  migrate_quiet name status fed (m.exhausted left same is) = absurd (fed is)

  end_quiet : (name : List ℕ) (region : ℕ) (files : List NamedFile) (ended : PackEnd) (left : Stored) → e.stored_after ≡ Some left → (x : IsEndOf e.times e.stored left name region files ended) → Some (end_failures x) ≡ Some []
  end_quiet name region files ended left is x =
      ap Some (came_quiet (PacksBy name region files) end_of Err e.times e.stored left ended (end_failures x) (pack_one_way name region files) (quiet.store left is) (packed_on name region files e.times e.stored left ended (end_failures x) x refl))

  pack_quiet : (name : List ℕ) (region : ℕ) (files : List NamedFile) (status : ℕ) → status ≢ 3 → (course : PackCourse name region files e status) → pack_failures course ≡ Some []
  pack_quiet name region files status fed (packing.printed ended a text is) = end_quiet name region files ended a.after a.left a.came
  pack_quiet name region files status fed (packing.cut_off ended a part is) = end_quiet name region files ended a.after a.left a.came
  pack_quiet name region files status fed (packing.exhausted left same is) = absurd (fed is)

  pack_input_quiet : (name : List ℕ) (region : ℕ) (bytes : List ℕ) (status : ℕ) → status ≢ 3 → (course : PackInputCourse name region bytes e status) → pack_input_failures course ≡ Some []
  pack_input_quiet name region bytes status fed (packing.faulty fault has kept said is) = refl
  pack_input_quiet name region bytes status fed (packing.packed files input course) = pack_quiet name region files status fed course
  pack_input_quiet name region bytes status fed (packing.starved kept same is) = absurd (fed is)

  module _ {R : Type 0} (name : Name) (Did : Does R) (Broken : Begins) (Holds : Claims R) (tells : Result R ScanStuck → Told) (calls : CallsOf Did) (goes : GoesOneWay (DoneBy Did calls)) where
    told_quiet : (told : Told) (left : Stored) → e.stored_after ≡ Some left → (x : IsToldOf Did Holds tells e.times e.stored left told) → Some (told_failures calls x) ≡ Some []
    told_quiet told left is x =
        ap Some (came_quiet (DoneBy Did calls) tells Err e.times e.stored left told (told_failures calls x) goes (quiet.store left is) (read_on Did Holds tells calls e.times e.stored left told (told_failures calls x) x refl))

    read_quiet : (status : ℕ) → status ≢ 3 → (course : ReadCourse name Did Broken Holds tells e status) → read_failures calls course ≡ Some []
    read_quiet status fed (s.printed told a text is) = told_quiet told a.after a.left a.came
    read_quiet status fed (s.cut_off told a part is) = told_quiet told a.after a.left a.came
    read_quiet status fed (s.exhausted left same is) = absurd (fed is)

  pub run_quiet : Isolated → (words : List (List ℕ)) (status : ℕ) → status ≢ 3 → (course : Course IsBuiltCommand words given after e status) → failures_of course ≡ Some []
  run_quiet isolated words status fed (usage missing same kept said two) = refl
  run_quiet isolated words status fed (unread way served spelled risen kept same five) = refl
  run_quiet isolated words status fed (read by_turns bytes served spelled input course) = input_quiet bytes status fed course
  run_quiet isolated words status fed (read on_threads bytes served spelled input course) = absurd (none_some served.0 served.1)
  run_quiet isolated words status fed (planned asked plan spelled has same course) = play_quiet plan.script _ status fed course
  run_quiet isolated words status fed (cats name spelled same course) = cat_quiet name status fed course
  run_quiet isolated words status fed (migrates name spelled same course) = migrate_quiet name status fed course
  run_quiet isolated words status fed (packs_unread name region spelled risen kept same five) = refl
  run_quiet isolated words status fed (packs name region bytes spelled input course) = pack_input_quiet name region bytes status fed course
  run_quiet isolated words status fed (unpacks name file spelled same course) = read_quiet _ _ _ _ _ (unpacking_calls name file) (unpack_one_way isolated name file) status fed course
  run_quiet isolated words status fed (names_all name spelled same course) = read_quiet _ _ _ _ _ (naming_calls name) (names_one_way name) status fed course
  run_quiet isolated words status fed (hungry well kept same three) = absurd (fed three)
