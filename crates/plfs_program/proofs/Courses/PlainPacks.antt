-- Small files are packed as a plain machine has it, where nothing breaks.
use Rattle.std.proofs.Common.{ℕ, ◌≡◌, ◌≢◌, ◌≤◌, ◌<◌, ◌+◌, ◌^◌, ◌||◌, Bool, true, false, List, [], ◌∷◌, length, Option, Some, Result, Ok, Err, inl, inr, refl, sym, ap, ◌∙◌, subst, arith}
use Rattle.plfs_types.specs.Counts.{HasRisen}
use Rattle.edge_io.specs.Sink.{Taking}
use Rattle.edge_io.specs.Source.{Given}
use Rattle.store_api.specs.Acts.{Stored}
use Rattle.store_api.specs.declared.tree.Tree.{Tree}
use Rattle.command_line.specs.Commands.{IsCommand}
use Rattle.command_line.specs.declared.commands.Command.{Command}
use Rattle.command_line.specs.declared.commands.Command.TheVariants as command
use Rattle.mount_model.specs.Failing.{FailsToMount}
use Rattle.mount_model.specs.History.{Event}
use Rattle.mount_model.specs.Mounting.{IsMounted}
use Rattle.mount_model.specs.State.{State}
use Rattle.mount_model.specs.declared.mount_trouble.MountTrouble.{MountTrouble}
use Rattle.mount_model.specs.declared.reply.Refusal.{Refusal}
use Rattle.mount_model.specs.declared.stuck.Stuck.{Stuck}
use Rattle.mount_model.specs.declared.stuck.Stuck.TheVariants as stuck
use Rattle.unit_format.specs.declared.units.TheConstants.{REGIONS}
use Rattle.pack_files.specs.declared.scan.ScanStuck.{ScanStuck}
use Rattle.pack_files.specs.declared.scan.ScanStuck.TheVariants as scan
use Rattle.pack_input.specs.Input.{IsInput}
use Rattle.pack_input.specs.Laws.{NeverBoth, OneInput}
use Rattle.pack_input.specs.declared.files.NamedFile.{NamedFile}
use Rattle.lone_flow.specs.Packing.{Packs}
use Rattle.lone_flow.specs.declared.packing.Packed.{Packed}
use Rattle.lone_flow.specs.declared.packing.Packed.TheVariants as packed
use Rattle.script_lang.specs.declared.line.Outcome.{Outcome}
use Rattle.script_lang.specs.declared.line.Outcome.TheVariants.{Fault, Refused}
use Rattle.script_lang.specs.declared.line.Why.TheVariants.{MountsSpent}
use Rattle.report_text.specs.Text.{text_of}
use Rattle.plain_machine.specs.Machine.{Plain}
use Rattle.plain_plays.specs.OverStores.{BeginsOver, as_mounted}
use Rattle.plain_plays.specs.Packings.{HasByteFile, PacksPlainly, all, broken, full, packer_script, unopened, unwritten}
use Rattle.plain_plays.specs.Saying.{MetNoFault}
use Rattle.plain_plays.proofs.Facts.{faults_rise, met_none}
use Rattle.program_ends.specs.Ends.{Ends}
use Rattle.program_ends.specs.Mounting.{unmounted_of}
use Rattle.program_ends.specs.Outcomes.{has_line, is_broken_by, is_fault}
use Rattle.program_ends.specs.Output.{IsPrinted}
use Rattle.program_ends.specs.Reported.{line_zero}
use Rattle.program_ends.specs.SoundTrees.{TellsSoundTree}
use Rattle.plfs_program.specs.Commands.{IsBuiltCommand, IsPlanned}
use Rattle.plfs_program.specs.Complete.{HadNoTrouble}
use Rattle.plfs_program.specs.Course.{Course, usage, unread, read, planned, cats, migrates, packs_unread, packs, unpacks, names_all, hungry}
use Rattle.plfs_program.specs.LoneCalls.{packing_calls}
use Rattle.plfs_program.specs.Packing.{IsEndOf, IsPackedAs, IsPackedOn, PackCourse, PackEnd, PackInputCourse, cut_off, end_of, exhausted, faulty, mounted, packed_status, packed_text, printed, starved, unmounted}
use Rattle.plfs_program.specs.Packing as packing
use Rattle.plfs_program.specs.PlainPack.{IsPackedBy, IsPackedOverSound, IsPackedPlainly, SaysPacked}
use Rattle.plfs_program.specs.PlainPack as plainly
use Rattle.plfs_program.specs.Ways.{by_turns, on_threads}
use Rattle.plfs_program.proofs.Courses.Lines.{mounting_keeps}
use Rattle.plfs_program.proofs.Courses.PlainMounts.{mounts_as, unmarked_so}
use Rattle.plfs_program.proofs.Courses.PlainRuns.{never_unmounted, none_some}
use Rattle.plfs_program.proofs.SingleRuns.OneWay.{LeadWell}
use Rattle.plfs_program.proofs.SingleRuns.Packs.{pack_one_way}
use Rattle.plfs_program.proofs.Streams.Inputs.{whole_input}
use Rattle.plfs_program.proofs.Streams.Words.{one_command}

-- what the law of packings says
abbrev pub PacksOverStores : Type 0
PacksOverStores = (name : List ℕ) (region : ℕ) (files : List NamedFile) (p : Plain) (times : Option (List ℕ)) (opened : Stored) (start : State) (told : Result Packed ScanStuck) (end : State) → region < REGIONS
    → IsMounted 0 times opened start → BeginsOver (packer_script []) times opened p → HasByteFile p name → Packs name region files start told end → MetNoFault start end → PacksPlainly name region files p told end.store

or_false : (b : Bool) → b || false ≡ true → b ≡ true
or_false true is = refl
or_false false is = is

abbrev Told : Type 0
Told = Result Packed ScanStuck

same_trouble : (told : Told) (a b : Stuck) → told ≡ Err (scan.Stuck a) → told ≡ Err (scan.Stuck b) → a ≡ b
same_trouble told a b x y = cc

not_packed : (told : Told) (made : Packed) (trouble : Stuck) → told ≡ Ok made → told ≡ Err (scan.Stuck trouble) → ⊥
not_packed told made trouble x y = cc

not_broken : (told : Told) (place : ℕ) (trouble : Stuck) → told ≡ Err (scan.Bad place) → told ≡ Err (scan.Stuck trouble) → ⊥
not_broken told place trouble x y = cc

tells_fault : (ended : PackEnd) (outcome : Outcome) → ended ≡ Err outcome → outcome ≡ Fault → is_broken_by is_fault ended ≡ true
tells_fault ended outcome same is = ap (λ (x : PackEnd). is_broken_by is_fault x) same ∙ ap is_fault is

-- ---- what is said

-- no other trouble breaks it off but a refusal
is_refused : (name : List ℕ) (region : ℕ) (files : List NamedFile) (p : Plain) (after : Stored) (trouble : Stuck) (told : Told) → told ≡ Err (scan.Stuck trouble) → PacksPlainly name region files p told after → (because : Refusal) × (trouble ≡ stuck.Refused because)
is_refused name region files p after trouble told is (all at lines units within said well as_told) = absurd (not_packed told _ trouble as_told is)
is_refused name region files p after trouble told is (full at first f rest lines units split within long said well as_told) = absurd (not_packed told _ trouble as_told is)
is_refused name region files p after trouble told is (unopened at line because units said refused as_told) = (because, same_trouble told trouble (stuck.Refused because) is as_told)
is_refused name region files p after trouble told is (unwritten at first f rest lines line because units split within said well refused as_told) = (because, same_trouble told trouble (stuck.Refused because) is as_told)
is_refused name region files p after trouble told is (broken place bad said as_told) = absurd (not_broken told place trouble as_told is)

not_fault : (because : Refusal) → stuck.Fault ≡ stuck.Refused because → ⊥
not_fault because e = cc

not_damaged : (folder file : List ℕ) (place : ℕ) (because : Refusal) → stuck.Damaged folder file place ≡ stuck.Refused because → ⊥
not_damaged folder file place because e = cc

says_so : (name : List ℕ) (region : ℕ) (files : List NamedFile) (p : Plain) (after : Stored) (taking taking_after : Taking) (status : ℕ) (told : Result Packed ScanStuck) → PacksPlainly name region files p told after
    → IsPrinted (packed_text files (end_of told)) taking taking_after → status ≡ packed_status (end_of told) → SaysPacked files told taking taking_after status
says_so name region files p after taking taking_after status (Ok (packed.All end)) done text is = (text, is)
says_so name region files p after taking taking_after status (Ok packed.Full) done text is = (text, is)
says_so name region files p after taking taking_after status (Err (scan.Bad place)) done text is = (text, is)
says_so name region files p after taking taking_after status (Err (scan.Stuck (stuck.Refused because))) done text is = (text, is)
says_so name region files p after taking taking_after status (Err (scan.Stuck stuck.Fault)) done text is = let r = is_refused name region files p after stuck.Fault _ refl done in not_fault r.0 r.1
says_so name region files p after taking taking_after status (Err (scan.Stuck (stuck.Damaged folder file place))) done text is = let r = is_refused name region files p after (stuck.Damaged folder file place) _ refl done in not_damaged folder file place r.0 r.1

-- ---- the run

module _ (law : PacksOverStores) (name : List ℕ) (region : ℕ) (files : List NamedFile) (known : region < REGIONS) (e : Ends) (status : ℕ) where
  -- no call of a packing on a mount met a fault
  quiet_on : (after : Stored) (result : Result Packed ScanStuck) (on : IsPackedOn e.times e.stored name region files result after) → (HasRisen e.stored.faults after.faults → ⊥) → MetNoFault on.start on.end
  quiet_on after result on none =
      let calls : List Event = packing_calls name region files on.start result on.end on.packs in
      let led : LeadWell on.start calls on.end = (pack_one_way name region files).leads on.start calls result on.end (on.packs, refl) in
      let rises : on.start.store.faults ≤ on.end.store.faults = subst (λ (s : State). on.start.store.faults ≤ s.store.faults) led.ends (faults_rise on.start calls led.lawful) in
      let (same, counted) = met_none e.stored.faults on.start.store.faults on.end.store.faults (mounting_keeps e.times e.stored on.start on.mounted) rises
      (subst (λ (s : Stored). HasRisen e.stored.faults s.faults → ⊥) (sym on.left) none) in
      record { none = same; counted = counted }

  module _ (ended : PackEnd) (pa : IsPackedAs name region files ended e) (text : IsPrinted (packed_text files ended) e.taking e.taking_after) (is : status ≡ packed_status ended) (none : HasRisen e.stored.faults pa.after.faults → ⊥) where
    -- as it was packed on a mount
    packed_on : (result : Result Packed ScanStuck) → IsPackedOn e.times e.stored name region files result pa.after → ended ≡ end_of result → (p : Plain) → BeginsOver (packer_script []) e.times e.stored p → HasByteFile p name → IsPackedBy name region files p pa.after e status
    packed_on result on same p begins are =
        let done : PacksPlainly name region files p result pa.after = subst (λ (s : Stored). PacksPlainly name region files p result s) on.left (law name region files p e.times e.stored on.start result on.end known on.mounted begins are on.packs (quiet_on pa.after result on none)) in
        record {
          told = result;
          packs = done;
          says = says_so name region files p pa.after e.taking e.taking_after status result done (subst (λ (x : PackEnd). IsPrinted (packed_text files x) e.taking e.taking_after) same text) (is ∙ ap packed_status same);
        }

    -- a fault would have been the store's
    no_fault : (outcome : Outcome) → ended ≡ Err outcome → has_line is_fault (line_zero outcome ∷ []) ≡ true → HasRisen e.stored.faults pa.after.faults
    no_fault outcome same told = pa.cause (ap (λ (x : PackEnd). is_broken_by is_fault x) same ∙ or_false (is_fault outcome) told)

    packed_by : IsEndOf e.times e.stored pa.after name region files ended → (p : Plain) → BeginsOver (packer_script []) e.times e.stored p → HasByteFile p name → IsPackedBy name region files p pa.after e status
    packed_by (unmounted why outcome failed told same) p begins are =
        absurd (never_unmounted (packer_script []) e.times e.stored pa.after (line_zero outcome ∷ []) why p begins failed (outcome, told, refl) (no_fault outcome same) none)
    packed_by (mounted result on same) p begins are = packed_on result on same p begins are

    over_sound : IsEndOf e.times e.stored pa.after name region files ended → TellsSoundTree e.stored → IsPackedOverSound name region files pa.after e status
    over_sound (unmounted why outcome failed told same) (tree, there, sound) =
        let broke = unmarked_so e.stored pa.after why outcome tree there sound failed told (λ fault. none (pa.cause (tells_fault ended outcome same fault))) in
        let whole : ended ≡ Err (Refused MountsSpent) = same ∙ ap Err broke.1 in
        plainly.spent tree there broke.0 (subst (λ (x : PackEnd). IsPrinted (packed_text files x) e.taking e.taking_after) whole text) (is ∙ ap packed_status whole)
    over_sound (mounted result on same) sound =
        let m = mounts_as (packer_script []) e.times e.stored on.start sound on.mounted in
        plainly.packed m.0 m.1 (λ are. packed_on result on same m.0 (as_mounted m.1) are)

    plainly_so : IsPackedPlainly name region files e status
    plainly_so = record { after = pa.after; left = pa.left; plain = packed_by pa.came; sound = over_sound pa.came }

  pub pack_plain : (given after : Given) → HadNoTrouble given after e → status ≢ 3 → PackCourse name region files e status → IsPackedPlainly name region files e status
  pack_plain given after quiet fed (printed ended pa text is) = plainly_so ended pa text is (quiet.store pa.after pa.left)
  pack_plain given after quiet fed (cut_off ended pa part is) = elim part.cause as (λ _. IsPackedPlainly name region files e status) [
    | inl risen ↦ absurd (quiet.sink risen)
    | inr stalled ↦ absurd (quiet.stalls stalled)
  ]
  pack_plain given after quiet fed (exhausted left same is) = absurd (fed is)

-- ---- what the words ask for

-- only `pack` packs small files
abbrev IsPackCommand : Command → Type 0
IsPackCommand (command.Pack name region) = Unit {0}
IsPackCommand other = ⊥

packs_same : (name other : List ℕ) (region also : ℕ) → command.Pack name region ≡ command.Pack other also → (name ≡ other) × (region ≡ also)
packs_same name other region also same = (cc, cc)

module _ (law : PacksOverStores) (one_input : OneInput) (never : NeverBoth) (given after : Given) (e : Ends) (status : ℕ) (quiet : HadNoTrouble given after e) (fed : status ≢ 3) (Serves : Command → Type 0) (built : (asked : Command) → IsBuiltCommand asked → Serves asked) (words : List (List ℕ)) (name : List ℕ) (region : ℕ) (bytes : List ℕ) (files : List NamedFile) (is : IsCommand words (command.Pack name region)) (told : given.left ≡ Some bytes) (spelled : IsInput bytes files) where
  other_words : (asked : Command) → IsCommand words asked → IsPackCommand asked
  other_words asked other = subst IsPackCommand (one_command words (command.Pack name region) asked is other) tt

  input_plain : PackInputCourse name region bytes e status → IsPackedPlainly name region files e status
  input_plain (faulty fault has same said two) = absurd (never bytes files fault spelled has)
  input_plain (packing.packed others reads course) =
      subst (λ (fs : List NamedFile). IsPackedPlainly name region fs e status) (one_input bytes others files reads spelled) (pack_plain law name region others is.2 e status given after quiet fed course)
  input_plain (starved same none three) = absurd (fed three)

  pub course_packs : Course Serves words given after e status → IsPackedPlainly name region files e status
  course_packs (usage none same kept said two) = absurd (none (command.Pack name region) (built (command.Pack name region) tt) is)
  course_packs (unread way served other risen kept same five) = absurd (quiet.source risen)
  course_packs (read by_turns input served other whole course) = absurd (other_words command.Play other)
  course_packs (read on_threads input served other whole course) = absurd (other_words command.Run other)
  course_packs (planned asked plan other has same course) = absurd (none_some plan (subst (λ c. IsPlanned c plan) (one_command words asked (command.Pack name region) other is) has))
  course_packs (cats also other same course) = absurd (other_words (command.Cat also) other)
  course_packs (migrates also other same course) = absurd (other_words (command.Migrate also) other)
  course_packs (packs_unread also other_region other risen kept same five) = absurd (quiet.source risen)
  course_packs (packs also other_region input other whole course) =
      let same = packs_same also name other_region region (one_command words (command.Pack also other_region) (command.Pack name region) other is) in
      let here : input ≡ bytes = whole_input (2 ^ 20 + 1) bytes input given after told (let short : length bytes ≤ 2 ^ 20 = spelled.short in omega (arith, short)) whole in
      let P : List ℕ × ℕ × List ℕ → Type 0 = λ z. PackInputCourse z.0 z.1 z.2 e status in
      input_plain (subst P (λ i. (same.0 i, same.1 i, here i)) course)
  course_packs (unpacks also file other same course) = absurd (other_words (command.Unpack also file) other)
  course_packs (names_all also other same course) = absurd (other_words (command.Names also) other)
  course_packs (hungry well kept same three) = absurd (fed three)
