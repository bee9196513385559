-- Runs that read small files tell of the plain machine's file, where nothing breaks.
use Rattle.std.proofs.Common.{◌≡◌, ◌≢◌, ℕ, true, inl, inr, List, Option, Result, Err, sym, ap, ◌∙◌, subst}
use Rattle.plfs_types.specs.Counts.{HasRisen}
use Rattle.edge_io.specs.Source.{Given}
use Rattle.store_api.specs.Acts.{Stored}
use Rattle.mount_model.specs.History.{Event}
use Rattle.mount_model.specs.Mounting.{IsMounted}
use Rattle.mount_model.specs.Paths.{Name}
use Rattle.mount_model.specs.State.{State}
use Rattle.reader_laws.specs.Moments.{Moment}
use Rattle.pack_files.specs.declared.scan.ScanStuck.{ScanStuck}
use Rattle.packing_laws.specs.Told.{AreNames, IsContent}
use Rattle.packing_laws.proofs.Unpacking.Facts.{ReadLaw, ReadTrouble, ScanLaw}
use Rattle.command_line.specs.Commands.{IsCommand}
use Rattle.command_line.specs.declared.commands.Command.{Command}
use Rattle.command_line.specs.declared.commands.Command.TheVariants as command
use Rattle.lone_flow.specs.Driving.{AreMade}
use Rattle.lone_flow.specs.Naming.{BeginsToName, Names}
use Rattle.lone_flow.specs.Unpacking.{BeginsToUnpack, Unpacks}
use Rattle.script_lang.specs.declared.line.Outcome.TheVariants.{Refused}
use Rattle.script_lang.specs.declared.line.Why.TheVariants.{MountsSpent}
use Rattle.script_lang.specs.declared.script.Script.{Script}
use Rattle.plain_machine.specs.Machine.{Plain}
use Rattle.plain_plays.specs.OverStores.{BeginsOver, as_mounted}
use Rattle.plain_plays.specs.Saying.{IsMirrored, MetNoFault}
use Rattle.plain_plays.proofs.Facts.{droppings_so, met_none, mirrored_over}
use Rattle.program_ends.specs.Ends.{Ends}
use Rattle.program_ends.specs.Outcomes.{is_broken_by, is_fault}
use Rattle.program_ends.specs.Output.{IsPrinted}
use Rattle.program_ends.specs.SoundTrees.{TellsSoundTree}
use Rattle.plfs_program.specs.Commands.{IsBuiltCommand, IsPlanned}
use Rattle.plfs_program.specs.Complete.{HadNoTrouble}
use Rattle.plfs_program.specs.Course.{Course, usage, unread, read, planned, cats, migrates, packs_unread, packs, unpacks, names_all, hungry}
use Rattle.plfs_program.specs.PlainLeft.{IsLeftWith}
use Rattle.plfs_program.specs.PlainSmall.{AreNamedPlainly, Finds, IsReadPlainly, IsToldBy, IsToldOverSound, IsUnpackedPlainly, TellsAllNames, TellsContent, spent, told_so}
use Rattle.plfs_program.specs.SmallFiles.{Begins, Claims, Does, IsReadOn, IsToldAs, IsToldOf, NamesCourse, ReadCourse, Told, UnpackCourse, cut_off, exhausted, mounted, printed, told_of_file, told_of_names, told_status, told_text, unmounted}
use Rattle.plfs_program.specs.Ways.{by_turns, on_threads}
use Rattle.plfs_program.proofs.Courses.Lines.{mounting_keeps}
use Rattle.plfs_program.proofs.Courses.LoneRuns.{made_rises}
use Rattle.plfs_program.proofs.Courses.PlainMounts.{mounts_as, unmarked_so}
use Rattle.plfs_program.proofs.Courses.PlainReads.{ReadsPlainly, names_plainly, unpacks_plainly}
use Rattle.plfs_program.proofs.Courses.PlainRuns.{none_some, only_fault}
use Rattle.plfs_program.proofs.Streams.Words.{one_command}

-- ---- what a mount that ended so leaves

-- no call of the mount met a fault
pub met_on : (times : Option (List ℕ)) (before : Stored) (start : State) (events : List Event) (end : State) (after : Stored) → IsMounted 0 times before start → AreMade start events end → end.store ≡ after → (HasRisen before.faults after.faults → ⊥) → MetNoFault start end
met_on times before start events end after made calls left quiet =
    let met = met_none before.faults start.store.faults end.store.faults (mounting_keeps times before start made) (made_rises start events end calls) (subst (λ (s : Stored). HasRisen before.faults s.faults → ⊥) (sym left) quiet) in
    record { none = met.0; counted = met.1 }

pub left_with : (end : State) (after : Stored) (p : Plain) → end.store ≡ after → IsMirrored end p → IsLeftWith p after
left_with end after p left it = record {
  end = end;
  left = left;
  mirrored = it;
  droppings = λ tree told. droppings_so (record { state = end; issued = it.issued }) p it.mirrors tree (ap (λ (s : Stored). s.tree) left ∙ told);
}

-- ---- the run

module _ {R : Type 0} (name : Name) (Reads : Does R) (Broken : Begins) (Holds : Claims R) (Stands : Finds R) (tells : Result R ScanStuck → Told) (law : ReadsPlainly Reads Stands tells name) (given after : Given) (e : Ends) (status : ℕ) (quiet : HadNoTrouble given after e) (fed : status ≢ 3) where
  module _ (told : Told) (t : IsToldAs name Reads Holds tells told e) (all : IsPrinted (told_text told) e.taking e.taking_after) (is : status ≡ told_status told) where
    no_fault : is_broken_by is_fault told ≡ true → ⊥
    no_fault bad = quiet.store t.after t.left (t.cause bad)

    told_by : (script : Script) (p : Plain) (result : Result R ScanStuck) (on : IsReadOn Reads Holds e.times e.stored result t.after) → told ≡ tells result → BeginsOver script e.times e.stored p → IsToldBy Stands tells name p t.after e status
    told_by script p result on same begins =
        let it : IsMirrored on.start p = mirrored_over script e.times e.stored on.start p on.mounted begins in
        let m : Moment = record { state = on.start; issued = it.issued } in
        let none = met_on e.times e.stored on.start on.looked.events on.end t.after on.mounted on.looked.made on.left (quiet.store t.after t.left) in
        let x = law m p result on.end it.mirrors on.reads none (subst (λ r. is_broken_by is_fault r ≡ true → ⊥) same no_fault) in
        record {
          told = tells result;
          is = x.0;
          printed = subst (λ r. IsPrinted (told_text r) e.taking e.taking_after) same all;
          decides = is ∙ ap told_status same;
          leaves = left_with on.end t.after p on.left x.1;
        }

    plain_so : (script : Script) (p : Plain) → IsToldOf Reads Holds tells e.times e.stored t.after told → BeginsOver script e.times e.stored p → IsToldBy Stands tells name p t.after e status
    plain_so script p (mounted result on same) begins = told_by script p result on same begins
    plain_so script p (unmounted why outcome failed of same) begins =
        absurd (no_fault (ap (λ (r : Told). is_broken_by is_fault r) same ∙ ap is_fault (only_fault script e.times e.stored t.after why outcome p begins failed of)))

    sound_so : (script : Script) → IsToldOf Reads Holds tells e.times e.stored t.after told → TellsSoundTree e.stored → IsToldOverSound Stands tells name script t.after e status
    sound_so script (mounted result on same) sound =
        let (p, begins) = mounts_as script e.times e.stored on.start sound on.mounted in
        told_so p begins (told_by script p result on same (as_mounted begins))
    sound_so script (unmounted why outcome failed of same) (tree, there, good) =
        let u = unmarked_so e.stored t.after why outcome tree there good failed of (λ fault. no_fault (ap (λ (r : Told). is_broken_by is_fault r) same ∙ ap is_fault fault)) in
        let line : told ≡ Err (Refused MountsSpent) = same ∙ ap (λ o. Err o) u.1 in
        spent tree there u.0 (subst (λ r. IsPrinted (told_text r) e.taking e.taking_after) line all) (is ∙ ap told_status line)

    plainly_so : IsReadPlainly Stands tells name e status
    plainly_so = record { after = t.after; left = t.left; plain = λ script p begins. plain_so script p t.came begins; sound = λ script sound. sound_so script t.came sound }

  read_plainly : ReadCourse name Reads Broken Holds tells e status → IsReadPlainly Stands tells name e status
  read_plainly (printed told t all is) = plainly_so told t all is
  read_plainly (cut_off told t part is) = elim part.cause as (λ _. IsReadPlainly Stands tells name e status) [
    | inl risen ↦ absurd (quiet.sink risen)
    | inr stalled ↦ absurd (quiet.stalls stalled)
  ]
  read_plainly (exhausted left same is) = absurd (fed is)

-- ---- the two commands

module _ (scan_law : ScanLaw) (read_law : ReadLaw) (read_trouble : ReadTrouble) where
  pub unpacked_plainly : (name file : List ℕ) (given after : Given) (e : Ends) (status : ℕ) → HadNoTrouble given after e → status ≢ 3 → UnpackCourse name file e status → IsUnpackedPlainly name file e status
  unpacked_plainly name file given after e status quiet fed course = read_plainly name (Unpacks name file) (BeginsToUnpack name file) (λ pieces bytes from end result. IsContent pieces bytes file from end result) (TellsContent file) told_of_file (unpacks_plainly scan_law read_law read_trouble name file) given after e status quiet fed course

  pub named_plainly : (name : List ℕ) (given after : Given) (e : Ends) (status : ℕ) → HadNoTrouble given after e → status ≢ 3 → NamesCourse name e status → AreNamedPlainly name e status
  named_plainly name given after e status quiet fed course = read_plainly name (Names name) (BeginsToName name) AreNames TellsAllNames told_of_names (names_plainly scan_law read_law read_trouble name) given after e status quiet fed course

-- ---- what the words ask for

abbrev IsUnpackCommand : Command → Type 0
IsUnpackCommand (command.Unpack name file) = Unit {0}
IsUnpackCommand other = ⊥

abbrev IsNamesCommand : Command → Type 0
IsNamesCommand (command.Names name) = Unit {0}
IsNamesCommand other = ⊥

same_unpack : (a b x y : List ℕ) → command.Unpack a x ≡ command.Unpack b y → (a ≡ b) × (x ≡ y)
same_unpack a b x y same = (cc, cc)

same_names : (a b : List ℕ) → command.Names a ≡ command.Names b → a ≡ b
same_names a b same = cc

module _ (given after : Given) (e : Ends) (status : ℕ) (quiet : HadNoTrouble given after e) (fed : status ≢ 3) (Serves : Command → Type 0) (built : (asked : Command) → IsBuiltCommand asked → Serves asked) (words : List (List ℕ)) where
  module _ (name file : List ℕ) (is : IsCommand words (command.Unpack name file)) (goes : UnpackCourse name file e status → IsUnpackedPlainly name file e status) where
    unpack_words : (asked : Command) → IsCommand words asked → IsUnpackCommand asked
    unpack_words asked other = subst IsUnpackCommand (one_command words (command.Unpack name file) asked is other) tt

    pub course_unpacks : Course Serves words given after e status → IsUnpackedPlainly name file e status
    course_unpacks (usage none same kept said two) = absurd (none (command.Unpack name file) (built (command.Unpack name file) tt) is)
    course_unpacks (unread way served other risen kept same five) = absurd (quiet.source risen)
    course_unpacks (read by_turns input served other whole_input course) = absurd (unpack_words command.Play other)
    course_unpacks (read on_threads input served other whole_input course) = absurd (unpack_words command.Run other)
    course_unpacks (planned asked plan other has same course) = absurd (none_some plan (subst (λ c. IsPlanned c plan) (one_command words asked (command.Unpack name file) other is) has))
    course_unpacks (cats also other same course) = absurd (unpack_words (command.Cat also) other)
    course_unpacks (migrates also other same course) = absurd (unpack_words (command.Migrate also) other)
    course_unpacks (packs_unread also region other risen kept same five) = absurd (quiet.source risen)
    course_unpacks (packs also region input other whole_input course) = absurd (unpack_words (command.Pack also region) other)
    course_unpacks (unpacks also its other same course) =
        let one = same_unpack also name its file (one_command words (command.Unpack also its) (command.Unpack name file) other is) in
        goes (subst (λ f. UnpackCourse name f e status) one.1 (subst (λ n. UnpackCourse n its e status) one.0 course))
    course_unpacks (names_all also other same course) = absurd (unpack_words (command.Names also) other)
    course_unpacks (hungry well kept same three) = absurd (fed three)

  module _ (name : List ℕ) (is : IsCommand words (command.Names name)) (goes : NamesCourse name e status → AreNamedPlainly name e status) where
    names_words : (asked : Command) → IsCommand words asked → IsNamesCommand asked
    names_words asked other = subst IsNamesCommand (one_command words (command.Names name) asked is other) tt

    pub course_names : Course Serves words given after e status → AreNamedPlainly name e status
    course_names (usage none same kept said two) = absurd (none (command.Names name) (built (command.Names name) tt) is)
    course_names (unread way served other risen kept same five) = absurd (quiet.source risen)
    course_names (read by_turns input served other whole_input course) = absurd (names_words command.Play other)
    course_names (read on_threads input served other whole_input course) = absurd (names_words command.Run other)
    course_names (planned asked plan other has same course) = absurd (none_some plan (subst (λ c. IsPlanned c plan) (one_command words asked (command.Names name) other is) has))
    course_names (cats also other same course) = absurd (names_words (command.Cat also) other)
    course_names (migrates also other same course) = absurd (names_words (command.Migrate also) other)
    course_names (packs_unread also region other risen kept same five) = absurd (quiet.source risen)
    course_names (packs also region input other whole_input course) = absurd (names_words (command.Pack also region) other)
    course_names (unpacks also its other same course) = absurd (names_words (command.Unpack also its) other)
    course_names (names_all also other same course) = goes (subst (λ n. NamesCourse n e status) (same_names also name (one_command words (command.Names also) (command.Names name) other is)) course)
    course_names (hungry well kept same three) = absurd (fed three)
