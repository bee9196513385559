-- A run that migrates a file leaves the plain machine its files, where nothing breaks.
use Rattle.std.proofs.Common.{◌≡◌, ◌≢◌, ℕ, true, inl, inr, List, Option, Result, Err, refl, sym, ap, ◌∙◌, subst}
use Rattle.edge_io.specs.Source.{Given}
use Rattle.store_api.specs.Acts.{Stored}
use Rattle.mount_model.specs.declared.stuck.Stuck.{Stuck}
use Rattle.mount_model.specs.History.{AreBy, Event}
use Rattle.mount_model.specs.Paths.{Name}
use Rattle.mount_model.specs.Running.{Runs}
use Rattle.mount_model.specs.State.{State}
use Rattle.mount_sound.specs.Owed.{IsLawful}
use Rattle.reader_laws.specs.Moments.{Moment, moment_after, next_moment}
use Rattle.migrate_core.specs.declared.migrated.Migrated.{Migrated}
use Rattle.migrate_core.specs.Migrating.{migrate_program}
use Rattle.lone_flow.specs.Driving.{Makes}
use Rattle.command_line.specs.Commands.{IsCommand}
use Rattle.command_line.specs.declared.commands.Command.{Command}
use Rattle.command_line.specs.declared.commands.Command.TheVariants as command
use Rattle.script_lang.specs.declared.line.Outcome.TheVariants.{Refused}
use Rattle.script_lang.specs.declared.line.Why.TheVariants.{MountsSpent}
use Rattle.script_lang.specs.declared.script.Script.{Script}
use Rattle.plain_machine.specs.Machine.{Plain}
use Rattle.plain_plays.specs.ByItself.{MigratesByItself, having_drawn, migrated, missing_file}
use Rattle.plain_plays.specs.ByItself as by_itself
use Rattle.plain_plays.specs.Mirrors.{Mirrors}
use Rattle.plain_plays.specs.OverStores.{BeginsOver, as_mounted}
use Rattle.plain_plays.specs.Saying.{IsMirrored, MetNoFault}
use Rattle.plain_plays.specs.Served.{GoesWell}
use Rattle.plain_plays.proofs.Facts.{mirrored_over}
use Rattle.program_ends.specs.Ends.{Ends}
use Rattle.program_ends.specs.Outcomes.{is_broken_by, is_fault}
use Rattle.program_ends.specs.Output.{IsPrinted}
use Rattle.program_ends.specs.SoundTrees.{TellsSoundTree}
use Rattle.plfs_program.specs.Commands.{IsBuiltCommand, IsPlanned}
use Rattle.plfs_program.specs.Complete.{HadNoTrouble}
use Rattle.plfs_program.specs.Course.{Course, usage, unread, read, planned, cats, migrates, packs_unread, packs, unpacks, names_all, hungry}
use Rattle.plfs_program.specs.Migrating.{IsMigratedAs, IsMigratedOn, IsSaidOf, MigrateCourse, Said, cut_off, exhausted, mounted, printed, said_of, said_status, said_text, unmounted}
use Rattle.plfs_program.specs.PlainLeft.{IsLeftWith}
use Rattle.plfs_program.specs.PlainMigrate.{IsMigratedBy, IsMigratedOverSound, IsMigratedPlainly, MigratesPlainly, lacks_file, migrated_so, runs_out, spent}
use Rattle.plfs_program.specs.PlainMigrate as plainly
use Rattle.plfs_program.specs.Ways.{by_turns, on_threads}
use Rattle.plfs_program.proofs.Courses.LoneRuns.{alone, greeted_mirrors}
use Rattle.plfs_program.proofs.Courses.PlainMounts.{mounts_as, unmarked_so}
use Rattle.plfs_program.proofs.Courses.PlainRuns.{none_some, only_fault}
use Rattle.plfs_program.proofs.Courses.PlainSmallRuns.{left_with, met_on}
use Rattle.plfs_program.proofs.Streams.Words.{one_command}

-- ---- what the migration leaves

-- what the law of a migration says beside a plain machine
abbrev pub MigrateLaw : Type 0
MigrateLaw = (m : Moment) (me : ℕ) (p : Plain) (name : Name) (events : List Event) (out : Result Migrated Stuck) → IsLawful m.state events → GoesWell me events → AreBy me events → Mirrors m p → Runs me (migrate_program name) events out → MigratesByItself p name (moment_after m events) out

module _ (name : Name) (p : Plain) (last : Moment) (end : State) (after : Stored) (at : last.state ≡ end) (left : end.store ≡ after) where
  leaves : (q : Plain) → Mirrors last q → IsLeftWith q after
  leaves q o = left_with end after q left (record { issued = last.issued; mirrors = subst (λ (s : State). Mirrors (record { state = s; issued = last.issued }) q) at o })

  said_so : (ended : Result Migrated Stuck) → MigratesByItself p name last ended → MigratesPlainly name p after (said_of ended)
  said_so ended (migrated number room told is there same counts o) = plainly.packs number room told is there (ap said_of same) counts (leaves (having_drawn told.writers p) o)
  said_so ended (by_itself.spent number count is same none o) = runs_out number count is (ap said_of same) none (leaves (having_drawn count p) o)
  said_so ended (missing_file none same o) = lacks_file none (ap said_of same) (leaves p o)

migrates_plainly : MigrateLaw → (name : Name) (m : Moment) (p : Plain) (ended : Result Migrated Stuck) (times : Option (List ℕ)) (before after : Stored) (on : IsMigratedOn times before name ended after) → m.state ≡ on.start → Mirrors m p → MetNoFault on.start on.end → MigratesPlainly name p after (said_of ended)
migrates_plainly law name m p ended times before after on here o none =
    let program = migrate_program name in
    let a = alone program m ended on.end (subst (λ (s : State). Makes program s ended on.end) (sym here) on.made) (subst (λ (s : State). MetNoFault s on.end) (sym here) none) in
    let begun : Moment = next_moment m a.greeting in
    said_so name p (moment_after begun a.events) on.end after a.ends on.left ended (law begun 0 p name a.events ended a.lawful a.well a.by (greeted_mirrors program m ended on.end p a o) a.runs)

-- ---- the run

module _ (law : MigrateLaw) (name : Name) (given after : Given) (e : Ends) (status : ℕ) (quiet : HadNoTrouble given after e) (fed : status ≢ 3) where
  module _ (said : Said) (t : IsMigratedAs name said e) (all : IsPrinted (said_text said) e.taking e.taking_after) (is : status ≡ said_status said) where
    no_fault : is_broken_by is_fault said ≡ true → ⊥
    no_fault bad = quiet.store t.after t.left (t.cause bad)

    migrated_by : (script : Script) (p : Plain) (ended : Result Migrated Stuck) (on : IsMigratedOn e.times e.stored name ended t.after) → said ≡ said_of ended → BeginsOver script e.times e.stored p → IsMigratedBy name p t.after e status
    migrated_by script p ended on same begins =
        let it : IsMirrored on.start p = mirrored_over script e.times e.stored on.start p on.mounted begins in
        let m : Moment = record { state = on.start; issued = it.issued } in
        let none = met_on e.times e.stored on.start on.made.events on.end t.after on.mounted on.made.made on.left (quiet.store t.after t.left) in
        record {
          said = said_of ended;
          is = migrates_plainly law name m p ended e.times e.stored t.after on refl it.mirrors none;
          printed = subst (λ r. IsPrinted (said_text r) e.taking e.taking_after) same all;
          decides = is ∙ ap said_status same;
        }

    plain_so : (script : Script) (p : Plain) → IsSaidOf e.times e.stored t.after name said → BeginsOver script e.times e.stored p → IsMigratedBy name p t.after e status
    plain_so script p (mounted ended on same) begins = migrated_by script p ended on same begins
    plain_so script p (unmounted why outcome failed of same) begins =
        absurd (no_fault (ap (λ (r : Said). is_broken_by is_fault r) same ∙ ap is_fault (only_fault script e.times e.stored t.after why outcome p begins failed of)))

    sound_so : (script : Script) → IsSaidOf e.times e.stored t.after name said → TellsSoundTree e.stored → IsMigratedOverSound name script t.after e status
    sound_so script (mounted ended on same) sound =
        let (p, begins) = mounts_as script e.times e.stored on.start sound on.mounted in
        migrated_so p begins (migrated_by script p ended on same (as_mounted begins))
    sound_so script (unmounted why outcome failed of same) (tree, there, good) =
        let u = unmarked_so e.stored t.after why outcome tree there good failed of (λ fault. no_fault (ap (λ (r : Said). is_broken_by is_fault r) same ∙ ap is_fault fault)) in
        let line : said ≡ Err (Refused MountsSpent) = same ∙ ap (λ o. Err o) u.1 in
        spent tree there u.0 (subst (λ r. IsPrinted (said_text r) e.taking e.taking_after) line all) (is ∙ ap said_status line)

    plainly_so : IsMigratedPlainly name e status
    plainly_so = record { after = t.after; left = t.left; plain = λ script p begins. plain_so script p t.came begins; sound = λ script sound. sound_so script t.came sound }

  pub migrated_plainly : MigrateCourse name e status → IsMigratedPlainly name e status
  migrated_plainly (printed said t all is) = plainly_so said t all is
  migrated_plainly (cut_off said t part is) = elim part.cause as (λ _. IsMigratedPlainly name e status) [
    | inl risen ↦ absurd (quiet.sink risen)
    | inr stalled ↦ absurd (quiet.stalls stalled)
  ]
  migrated_plainly (exhausted left same is) = absurd (fed is)

-- ---- what the words ask for

abbrev IsMigrateCommand : Command → Type 0
IsMigrateCommand (command.Migrate name) = Unit {0}
IsMigrateCommand other = ⊥

same_migrate : (a b : List ℕ) → command.Migrate a ≡ command.Migrate b → a ≡ b
same_migrate a b same = cc

module _ (given after : Given) (e : Ends) (status : ℕ) (quiet : HadNoTrouble given after e) (fed : status ≢ 3) (Serves : Command → Type 0) (built : (asked : Command) → IsBuiltCommand asked → Serves asked) (words : List (List ℕ)) (name : List ℕ) (is : IsCommand words (command.Migrate name)) (goes : MigrateCourse name e status → IsMigratedPlainly name e status) where
  migrate_words : (asked : Command) → IsCommand words asked → IsMigrateCommand asked
  migrate_words asked other = subst IsMigrateCommand (one_command words (command.Migrate name) asked is other) tt

  pub course_migrates : Course Serves words given after e status → IsMigratedPlainly name e status
  course_migrates (usage none same kept said two) = absurd (none (command.Migrate name) (built (command.Migrate name) tt) is)
  course_migrates (unread way served other risen kept same five) = absurd (quiet.source risen)
  course_migrates (read by_turns input served other whole_input course) = absurd (migrate_words command.Play other)
  course_migrates (read on_threads input served other whole_input course) = absurd (migrate_words command.Run other)
  course_migrates (planned asked plan other has same course) = absurd (none_some plan (subst (λ c. IsPlanned c plan) (one_command words asked (command.Migrate name) other is) has))
  course_migrates (cats also other same course) = absurd (migrate_words (command.Cat also) other)
  course_migrates (migrates also other same course) =
      goes (subst (λ n. MigrateCourse n e status) (same_migrate also name (one_command words (command.Migrate also) (command.Migrate name) other is)) course)
  course_migrates (packs_unread also region other risen kept same five) = absurd (quiet.source risen)
  course_migrates (packs also region input other whole_input course) = absurd (migrate_words (command.Pack also region) other)
  course_migrates (unpacks also its other same course) = absurd (migrate_words (command.Unpack also its) other)
  course_migrates (names_all also other same course) = absurd (migrate_words (command.Names also) other)
  course_migrates (hungry well kept same three) = absurd (fed three)
