-- What a run prints is what a plain machine says, where nothing breaks.
use Rattle.std.proofs.Common.{ℕ, ◌≡◌, ◌≢◌, ◌≤◌, ◌+◌, ◌^◌, ◌⊎◌, inl, inr, true, List, [], ◌∷◌, length, Option, Some, None, refl, sym, ap, ◌∙◌, subst, arith}
use Rattle.std.specs.Prelude.{◌-◌}
use Rattle.plfs_types.specs.Counts.{HasRisen}
use Rattle.edge_io.specs.Source.{Given}
use Rattle.store_api.specs.Acts.{Stored}
use Rattle.mount_model.specs.Failing.{FailsToMount}
use Rattle.mount_model.specs.declared.mount_trouble.MountTrouble.{MountTrouble}
use Rattle.mount_model.specs.declared.mount_trouble.MountTrouble.TheVariants as trouble
use Rattle.command_line.specs.Commands.{IsCommand}
use Rattle.command_line.specs.declared.commands.Command.{Command}
use Rattle.command_line.specs.declared.commands.Command.TheVariants as command
use Rattle.script_lang.specs.Grammar.{IsScript}
use Rattle.script_lang.specs.Laws.{NeverBoth, OneScript}
use Rattle.script_lang.specs.declared.line.Line.{Line}
use Rattle.script_lang.specs.declared.line.Outcome.{Outcome}
use Rattle.script_lang.specs.declared.line.Outcome.TheVariants.{Fault}
use Rattle.script_lang.specs.declared.script.Script.{Script}
use Rattle.plain_machine.specs.Machine.{Plain}
use Rattle.plain_plays.specs.OverStores.{BeginsOver, TellsPlainly}
use Rattle.plain_plays.proofs.Facts.{IsBroken, bare_or_mounts}
use Rattle.program_ends.specs.Ends.{Ends}
use Rattle.program_ends.specs.Mounting.{AreWhy, IsUnmounted, unmounted_of}
use Rattle.program_ends.specs.Outcomes.{has_line, is_fault}
use Rattle.program_ends.specs.Reported.{line_zero}
use Rattle.program_ends.proofs.Facts.{why_fails}
use Rattle.plfs_program.specs.Commands.{IsBuiltCommand, IsPlanned}
use Rattle.plfs_program.specs.Complete.{HadNoTrouble}
use Rattle.plfs_program.specs.Course.{Course, InputCourse, faulty, played, starved, usage, unread, read, planned, cats, migrates, packs_unread, packs, unpacks, names_all, hungry}
use Rattle.plfs_program.specs.Lines.{AreLinesOf, unmounted, mounted}
use Rattle.plfs_program.specs.Plainly.{AskToPlay, PrintsPlainly, of_input, of_plan}
use Rattle.plfs_program.specs.Playing.{PlayCourse, printed, cut_off, exhausted}
use Rattle.plfs_program.specs.Showing.{Shows, all_lines, shows_of}
use Rattle.plfs_program.specs.Ways.{Way, by_turns, command_of, on_threads}
use Rattle.plfs_program.specs.declared.commands.Plan.{Plan}
use Rattle.plfs_program.proofs.Courses.PlainMounts.{sound_says}
use Rattle.plfs_program.proofs.Streams.Inputs.{whole_input}
use Rattle.plfs_program.proofs.Streams.Words.{one_command}

-- ---- why a mounting breaks off

not_none : (n : ℕ) → n ≡ 2 ^ 32 - 1 → n ≡ 0 → ⊥
not_none n last none = omega (arith, last, none)

-- no other trouble comes where no mark was listed
of_none : (why : MountTrouble) → AreWhy (Some []) why → IsBroken why
of_none (trouble.Damaged file) least = absurd (let (k, d, lt, same, it) = least.there in omega (arith, lt))
of_none trouble.NoMarks least = absurd (let (k, d, lt, same, it) = least.there in omega (arith, lt))
of_none trouble.Spent last = elim last.reached as (λ _. IsBroken trouble.Spent) [
  | inl none ↦ absurd (not_none (2 ^ 32 - 1) refl none.1)
  | inr some ↦ absurd (let (k, d, lt, same, it) = some in omega (arith, lt))
]
of_none trouble.Fault why = inl refl
of_none trouble.NoMemory why = inr refl

breaks_off : (before after : Stored) (why : MountTrouble) → FailsToMount before why after → (before.tree ≡ Some (record { rooms = [] })) ⊎ ((other : MountTrouble) (left : Stored) → FailsToMount before other left → IsBroken other) → IsBroken why
breaks_off before after why failed (inl bare) = of_none why (why_fails before after why failed (record { rooms = [] }) bare)
breaks_off before after why failed (inr mounts) = mounts why after failed

-- what is told of it is a fault
fault_told : (why : MountTrouble) (outcome : Outcome) → IsBroken why → unmounted_of why ≡ Some outcome → outcome ≡ Fault
fault_told why outcome (inl fault) told = let same : Some Fault ≡ Some outcome = sym (ap unmounted_of fault) ∙ told in let is : Fault ≡ outcome = cc in sym is
fault_told why outcome (inr wants) told = let none : None ≡ Some outcome = sym (ap unmounted_of wants) ∙ told in absurd (cc)

-- where a machine begins over the store, nothing else is told of a mounting that broke off
pub only_fault : (script : Script) (times : Option (List ℕ)) (before after : Stored) (why : MountTrouble) (outcome : Outcome) (p : Plain) → BeginsOver script times before p → FailsToMount before why after → unmounted_of why ≡ Some outcome → outcome ≡ Fault
only_fault script times before after why outcome p begins failed told = fault_told why outcome (breaks_off before after why failed (bare_or_mounts script times before p begins)) told

-- ---- the lines

-- no mounting broke off where a machine begins over the store
pub never_unmounted : (script : Script) (times : Option (List ℕ)) (before after : Stored) (lines : List Line) (why : MountTrouble) (p : Plain) → BeginsOver script times before p → FailsToMount before why after → IsUnmounted why lines
    → (has_line is_fault lines ≡ true → HasRisen before.faults after.faults) → (HasRisen before.faults after.faults → ⊥) → ⊥
never_unmounted script times before after lines why p begins failed (outcome, told, only) cause none =
    none (cause (ap (λ ls. has_line is_fault ls) only ∙ ap (λ o. has_line is_fault (line_zero o ∷ [])) (only_fault script times before after why outcome p begins failed told)))

pub lines_plain : (script : Script) (times : Option (List ℕ)) (before after : Stored) (lines : List Line) → AreLinesOf by_turns times before after script lines → (has_line is_fault lines ≡ true → HasRisen before.faults after.faults)
    → (HasRisen before.faults after.faults → ⊥) → TellsPlainly script times before lines after
lines_plain script times before after lines (mounted on) cause none = on.machine refl none
lines_plain script times before after lines (unmounted why failed says) cause none = λ plain p begins. absurd (never_unmounted script times before after lines why p begins failed says cause none)

-- ---- what the words ask for

pub none_some : (plan : Plan) → None ≡ Some plan → ⊥
none_some plan e = cc

-- a command that has a plan needs no threads
plan_built : (asked : Command) (plan : Plan) → IsPlanned asked plan → IsBuiltCommand asked
plan_built command.Run plan has = absurd (none_some plan has)
plan_built command.Play plan has = tt
plan_built (command.Cat name) plan has = tt
plan_built (command.Migrate name) plan has = tt
plan_built (command.Pack name region) plan has = tt
plan_built (command.Unpack name file) plan has = tt
plan_built (command.Names name) plan has = tt
plan_built (command.Gen writers) plan has = (plan, has)
plan_built (command.Stat name) plan has = (plan, has)
plan_built (command.Map name) plan has = (plan, has)
plan_built (command.Flatten name) plan has = (plan, has)
plan_built (command.Recover name) plan has = (plan, has)
plan_built (command.Trunc name size) plan has = (plan, has)
plan_built (command.Rename name to) plan has = (plan, has)
plan_built command.Ls plan has = (plan, has)

-- the script of an input has no plan beside it
unplanned : (way : Way) (plan : Plan) → IsPlanned (command_of way) plan → ⊥
unplanned by_turns plan has = none_some plan has
unplanned on_threads plan has = none_some plan has

some_plan : (a b : Plan) → Some a ≡ Some b → a ≡ b
some_plan a b e = cc

abbrev IsPlayCommand : Command → Type 0
IsPlayCommand command.Play = Unit {0}
IsPlayCommand other = ⊥

module _ (one_script : OneScript) (never : NeverBoth) (given after : Given) (e : Ends) (status : ℕ) (quiet : HadNoTrouble given after e) (fed : status ≢ 3) (Serves : Command → Type 0) (built : (asked : Command) → IsBuiltCommand asked → Serves asked) (words : List (List ℕ)) where
  play_plain : (script : Script) (shows : Shows) → PlayCourse by_turns script shows e status → PrintsPlainly script shows e status
  play_plain script shows (printed lines p all is) =
      let plain = lines_plain script e.times e.stored p.after lines p.in_turn p.cause (quiet.store p.after p.left) in
      record { lines = lines; are = p; plain = plain; sound = sound_says script e.times e.stored p.after lines p.in_turn p.cause (quiet.store p.after p.left) plain; printed = all; decide = is }
  play_plain script shows (cut_off lines p part is) = elim part.cause as (λ _. PrintsPlainly script shows e status) [
    | inl risen ↦ absurd (quiet.sink risen)
    | inr stalled ↦ absurd (quiet.stalls stalled)
  ]
  play_plain script shows (exhausted left same is) = absurd (fed is)

  input_plain : (bytes : List ℕ) (script : Script) → IsScript bytes script → InputCourse by_turns bytes e status → PrintsPlainly script all_lines e status
  input_plain bytes script spelled (faulty fault has same said is) = absurd (never bytes script fault spelled has)
  input_plain bytes script spelled (played other reads course) = subst (λ s. PrintsPlainly s all_lines e status) (one_script bytes other script reads spelled) (play_plain other all_lines course)
  input_plain bytes script spelled (starved same none is) = absurd (fed is)

  of_read : (bytes : List ℕ) (script : Script) → IsCommand words command.Play → given.left ≡ Some bytes → IsScript bytes script → Course Serves words given after e status → PrintsPlainly script all_lines e status
  of_read bytes script is told spelled (usage none same kept said two) = absurd (none command.Play (built command.Play tt) is)
  of_read bytes script is told spelled (unread way served other risen kept same five) = absurd (quiet.source risen)
  of_read bytes script is told spelled (read by_turns input served other whole course) =
      let same : input ≡ bytes = whole_input (2 ^ 20 + 1) bytes input given after told (let short : length bytes ≤ 2 ^ 20 = spelled.short in omega (arith, short)) whole in
      input_plain bytes script spelled (subst (λ b. InputCourse by_turns b e status) same course)
  of_read bytes script is told spelled (read on_threads input served other whole course) = absurd (subst IsPlayCommand (one_command words command.Play command.Run is other) tt)
  of_read bytes script is told spelled (planned asked plan other has same course) = absurd (none_some plan (subst (λ c. IsPlanned c plan) (one_command words asked command.Play other is) has))
  of_read bytes script is told spelled (cats name other same course) = absurd (subst IsPlayCommand (one_command words command.Play (command.Cat name) is other) tt)
  of_read bytes script is told spelled (migrates name other same course) = absurd (subst IsPlayCommand (one_command words command.Play (command.Migrate name) is other) tt)
  of_read bytes script is told spelled (packs_unread name region other risen kept same five) = absurd (quiet.source risen)
  of_read bytes script is told spelled (packs name region input other whole course) = absurd (subst IsPlayCommand (one_command words command.Play (command.Pack name region) is other) tt)
  of_read bytes script is told spelled (unpacks name file other same course) = absurd (subst IsPlayCommand (one_command words command.Play (command.Unpack name file) is other) tt)
  of_read bytes script is told spelled (names_all name other same course) = absurd (subst IsPlayCommand (one_command words command.Play (command.Names name) is other) tt)
  of_read bytes script is told spelled (hungry well kept same three) = absurd (fed three)

  of_planned : (asked : Command) (plan : Plan) → IsCommand words asked → IsPlanned asked plan → Course Serves words given after e status → PrintsPlainly plan.script (shows_of plan.shown) e status
  of_planned asked plan is has (usage none same kept said two) = absurd (none asked (built asked (plan_built asked plan has)) is)
  of_planned asked plan is has (unread way served other risen kept same five) = absurd (quiet.source risen)
  of_planned asked plan is has (read way input served other whole course) = absurd (unplanned way plan (subst (λ c. IsPlanned c plan) (one_command words asked (command_of way) is other) has))
  of_planned asked plan is has (planned also its other has_too same course) =
      let one : plan ≡ its = some_plan plan its (sym (subst (λ c. IsPlanned c plan) (one_command words asked also is other) has) ∙ has_too) in
      subst (λ (p : Plan). PrintsPlainly p.script (shows_of p.shown) e status) (sym one) (play_plain its.script (shows_of its.shown) course)
  of_planned asked plan is has (cats name other same course) = absurd (none_some plan (subst (λ c. IsPlanned c plan) (one_command words asked (command.Cat name) is other) has))
  of_planned asked plan is has (migrates name other same course) = absurd (none_some plan (subst (λ c. IsPlanned c plan) (one_command words asked (command.Migrate name) is other) has))
  of_planned asked plan is has (packs_unread name region other risen kept same five) = absurd (quiet.source risen)
  of_planned asked plan is has (packs name region input other whole course) = absurd (none_some plan (subst (λ c. IsPlanned c plan) (one_command words asked (command.Pack name region) is other) has))
  of_planned asked plan is has (unpacks name file other same course) = absurd (none_some plan (subst (λ c. IsPlanned c plan) (one_command words asked (command.Unpack name file) is other) has))
  of_planned asked plan is has (names_all name other same course) = absurd (none_some plan (subst (λ c. IsPlanned c plan) (one_command words asked (command.Names name) is other) has))
  of_planned asked plan is has (hungry well kept same three) = absurd (fed three)

  pub course_plain : (script : Script) (shows : Shows) → AskToPlay words given script shows → Course Serves words given after e status → PrintsPlainly script shows e status
  course_plain script shows (of_input bytes is told spelled shown) course = subst (λ s. PrintsPlainly script s e status) (sym shown) (of_read bytes script is told spelled course)
  course_plain script shows (of_plan asked plan is has scripted shown) course =
      let P : Script × Shows → Type 0 = λ z. PrintsPlainly z.0 z.1 e status in
      subst P (λ i. (sym scripted i, sym shown i)) (of_planned asked plan is has course)
