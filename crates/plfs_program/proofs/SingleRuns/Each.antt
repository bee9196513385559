-- Two runs of one command that begin alike print the same, where the faulted acts left the same.
use Rattle.std.proofs.Common.{◌≡◌, ℕ, List, Option, Some, Result, Err, refl, sym, ap, ◌∙◌, subst}
use Rattle.std.specs.List.{AllByRecursion}
use Rattle.edge_io.specs.Source.{Given}
use Rattle.store_api.specs.Acts.{Stored}
use Rattle.script_lang.specs.declared.line.Outcome.{Outcome}
use Rattle.script_lang.specs.declared.script.Script.{Script}
use Rattle.mount_model.specs.Paths.{Name}
use Rattle.migrate_core.specs.Migrating.{migrate_program}
use Rattle.pack_files.specs.declared.scan.ScanStuck.{ScanStuck}
use Rattle.pack_input.specs.declared.files.NamedFile.{NamedFile}
use Rattle.lone_flow.specs.Packing.{Packs}
use Rattle.lone_flow.specs.declared.packing.Packed.{Packed}
use Rattle.step_laws.specs.Alike.{StillCounts}
use Rattle.program_ends.specs.Ends.{Ends}
use Rattle.program_ends.specs.Output.{IsPrinted}
use Rattle.program_ends.specs.Outcomes.{status_of}
use Rattle.plfs_program.specs.Failures.{CallsOf, end_failures, lines_failures, migrate_failures, pack_failures, play_failures, read_failures, said_failures, told_failures}
use Rattle.plfs_program.specs.LoneCalls.{packing_calls}
use Rattle.plfs_program.specs.Migrating.{MigrateCourse, IsSaidOf, Said, said_of, said_text, said_status}
use Rattle.plfs_program.specs.Migrating as m
use Rattle.plfs_program.specs.Packing.{IsEndOf, PackCourse, PackEnd, end_of, packed_status, packed_text}
use Rattle.plfs_program.specs.Packing as packing
use Rattle.plfs_program.specs.Playing.{PlayCourse, printed, cut_off, exhausted}
use Rattle.plfs_program.specs.Showing.{Shows}
use Rattle.plfs_program.specs.SmallFiles.{Begins, Does, Claims, Told, ReadCourse, IsToldOf, told_text, told_status}
use Rattle.plfs_program.specs.SmallFiles as s
use Rattle.plfs_program.specs.Twice.{BeginAlike, HadNoStreamTrouble, PrintAlike}
use Rattle.plfs_program.specs.Ways.{by_turns}
use Rattle.plfs_program.proofs.SingleRuns.OneWay.{Doing, DoneBy, GoesOneWay, MakesBy, makes_one_way}
use Rattle.plfs_program.proofs.SingleRuns.Came.{CameTo, broke, came}
use Rattle.plfs_program.proofs.SingleRuns.Plays.{PlaysBy, as_they_are, both_came, line_of, lines_came, plays_one_way}
use Rattle.plfs_program.proofs.SingleRuns.Twice.{none_some, not_cut, print_both, some_one}

-- ---- what came of a run

pub migrated : (name : List ℕ) (times : Option (List ℕ)) (before left : Stored) (said : Said) (failures : List Stored) (x : IsSaidOf times before left name said) → said_failures x ≡ failures → CameTo (MakesBy (migrate_program name)) said_of Err times before left said failures
migrated name times before left said failures (m.unmounted why outcome failed is says) fails = broke why outcome failed is says fails
migrated name times before left said failures (m.mounted ended on says) fails = came on.start on.end on.made.events ended on.mounted (on.made, refl) on.left says fails

abbrev pub PacksBy : List ℕ → ℕ → List NamedFile → Doing (Result Packed ScanStuck)
PacksBy name region files = DoneBy (Packs name region files) (packing_calls name region files)

pub packed_on : (name : List ℕ) (region : ℕ) (files : List NamedFile) (times : Option (List ℕ)) (before left : Stored) (ended : PackEnd) (failures : List Stored) (x : IsEndOf times before left name region files ended) → end_failures x ≡ failures
    → CameTo (PacksBy name region files) end_of Err times before left ended failures
packed_on name region files times before left ended failures (packing.unmounted why outcome failed is says) fails = broke why outcome failed is says fails
packed_on name region files times before left ended failures (packing.mounted result on says) fails =
    came on.start on.end (packing_calls name region files on.start result on.end on.packs) result on.mounted (on.packs, refl) on.left says fails

module _ {R : Type 0} (Did : Does R) (Holds : Claims R) (tells : Result R ScanStuck → Told) (calls : CallsOf Did) where
  pub read_on : (times : Option (List ℕ)) (before left : Stored) (told : Told) (failures : List Stored) (x : IsToldOf Did Holds tells times before left told) → told_failures calls x ≡ failures → CameTo (DoneBy Did calls) tells Err times before left told failures
  read_on times before left told failures (s.unmounted why outcome failed is says) fails = broke why outcome failed is says fails
  read_on times before left told failures (s.mounted result on says) fails = came on.start on.end (calls on.start result on.end on.reads) result on.mounted (on.reads, refl) on.left says fails

-- ---- two of them

module _ (given after another later_given : Given) (e f : Ends) (alike : BeginAlike e f) (calm : HadNoStreamTrouble given after e) (calm_too : HadNoStreamTrouble another later_given f) (failures : List Stored) (still : AllByRecursion StillCounts failures) where
  -- what came of both is one
  lone_twice : {R S : Type 0} (Did : Doing R) (say : R → S) (bad : Outcome → S) (text : S → List ℕ) (decided : S → ℕ) → GoesOneWay Did → (said too : S) (left later : Stored) (status other : ℕ)
      → e.stored_after ≡ Some left → f.stored_after ≡ Some later → CameTo Did say bad e.times e.stored left said failures → CameTo Did say bad f.times f.stored later too failures
      → IsPrinted (text said) e.taking e.taking_after → IsPrinted (text too) f.taking f.taking_after → status ≡ decided said → other ≡ decided too → PrintAlike e f status other
  lone_twice {R} {S} Did say bad text decided goes said too left later status other is is_too one two text_is text_too decides decides_too =
      let same = both_came Did say bad e f alike left later said too failures still goes one two in
      print_both (text said) e f status other text_is (subst (λ x. IsPrinted (text x) f.taking f.taking_after) (sym same.0) text_too) (decides ∙ ap decided same.0 ∙ sym decides_too) (is ∙ ap Some same.1 ∙ sym is_too)

  -- ---- plays

  pub play_twice : (script : Script) (shows : Shows) (status other : ℕ) (a : PlayCourse by_turns script shows e status) (b : PlayCourse by_turns script shows f other) → play_failures a ≡ Some failures → play_failures b ≡ Some failures → PrintAlike e f status other
  play_twice script shows status other (printed lines p text is) (printed others q text_too is_too) fails too =
      lone_twice (PlaysBy script) as_they_are line_of shows.text (λ lines. status_of (shows.decide lines)) (plays_one_way script) lines others p.after q.after status other p.left q.left
      (lines_came script e.times e.stored p.after lines failures p.in_turn (some_one (lines_failures p.in_turn) failures fails)) (lines_came script f.times f.stored q.after others failures q.in_turn (some_one (lines_failures q.in_turn) failures too))
      text text_too is is_too
  play_twice script shows status other (cut_off lines p part is) b fails too = absurd (not_cut given after e (shows.text lines) calm part)
  play_twice script shows status other (exhausted left kept is) b fails too = absurd (none_some failures fails)
  play_twice script shows status other (printed lines p text is) (cut_off others q part is_too) fails too = absurd (not_cut another later_given f (shows.text others) calm_too part)
  play_twice script shows status other (printed lines p text is) (exhausted left kept is_too) fails too = absurd (none_some failures too)

  -- ---- migrations

  pub migrate_twice : (name : List ℕ) (status other : ℕ) (a : MigrateCourse name e status) (b : MigrateCourse name f other) → migrate_failures a ≡ Some failures → migrate_failures b ≡ Some failures → PrintAlike e f status other
  migrate_twice name status other (m.printed said a text is) (m.printed again b text_too is_too) fails too =
      lone_twice (MakesBy (migrate_program name)) said_of Err said_text said_status (makes_one_way (migrate_program name)) said again a.after b.after status other a.left b.left
      (migrated name e.times e.stored a.after said failures a.came (some_one (said_failures a.came) failures fails)) (migrated name f.times f.stored b.after again failures b.came (some_one (said_failures b.came) failures too))
      text text_too is is_too
  migrate_twice name status other (m.cut_off said a part is) b fails too = absurd (not_cut given after e (said_text said) calm part)
  migrate_twice name status other (m.exhausted left kept is) b fails too = absurd (none_some failures fails)
  migrate_twice name status other (m.printed said a text is) (m.cut_off again b part is_too) fails too = absurd (not_cut another later_given f (said_text again) calm_too part)
  migrate_twice name status other (m.printed said a text is) (m.exhausted left kept is_too) fails too = absurd (none_some failures too)

  -- ---- packings

  pub pack_twice : (name : List ℕ) (region : ℕ) (files : List NamedFile) → GoesOneWay (PacksBy name region files) → (status other : ℕ) (a : PackCourse name region files e status) (b : PackCourse name region files f other)
      → pack_failures a ≡ Some failures → pack_failures b ≡ Some failures → PrintAlike e f status other
  pack_twice name region files goes status other (packing.printed ended a text is) (packing.printed again b text_too is_too) fails too =
      lone_twice (PacksBy name region files) end_of Err (packed_text files) packed_status goes ended again a.after b.after status other a.left b.left
      (packed_on name region files e.times e.stored a.after ended failures a.came (some_one (end_failures a.came) failures fails)) (packed_on name region files f.times f.stored b.after again failures b.came (some_one (end_failures b.came) failures too))
      text text_too is is_too
  pack_twice name region files goes status other (packing.cut_off ended a part is) b fails too = absurd (not_cut given after e (packed_text files ended) calm part)
  pack_twice name region files goes status other (packing.exhausted left kept is) b fails too = absurd (none_some failures fails)
  pack_twice name region files goes status other (packing.printed ended a text is) (packing.cut_off again b part is_too) fails too = absurd (not_cut another later_given f (packed_text files again) calm_too part)
  pack_twice name region files goes status other (packing.printed ended a text is) (packing.exhausted left kept is_too) fails too = absurd (none_some failures too)

  -- ---- small files

  module _ {R : Type 0} (name : Name) (Did : Does R) (Broken : Begins) (Holds : Claims R) (tells : Result R ScanStuck → Told) (calls : CallsOf Did) where
    pub read_twice : GoesOneWay (DoneBy Did calls) → (status other : ℕ) (a : ReadCourse name Did Broken Holds tells e status) (b : ReadCourse name Did Broken Holds tells f other)
        → read_failures calls a ≡ Some failures → read_failures calls b ≡ Some failures → PrintAlike e f status other
    read_twice goes status other (s.printed told a text is) (s.printed again b text_too is_too) fails too =
        lone_twice (DoneBy Did calls) tells Err told_text told_status goes told again a.after b.after status other a.left b.left
        (read_on Did Holds tells calls e.times e.stored a.after told failures a.came (some_one (told_failures calls a.came) failures fails))
        (read_on Did Holds tells calls f.times f.stored b.after again failures b.came (some_one (told_failures calls b.came) failures too)) text text_too is is_too
    read_twice goes status other (s.cut_off told a part is) b fails too = absurd (not_cut given after e (told_text told) calm part)
    read_twice goes status other (s.exhausted left kept is) b fails too = absurd (none_some failures fails)
    read_twice goes status other (s.printed told a text is) (s.cut_off again b part is_too) fails too = absurd (not_cut another later_given f (told_text again) calm_too part)
    read_twice goes status other (s.printed told a text is) (s.exhausted left kept is_too) fails too = absurd (none_some failures too)
