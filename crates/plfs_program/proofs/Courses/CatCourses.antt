-- From a file that is written out to the run that did so.
use Rattle.std.proofs.Common.{◌≡◌, ℕ, ◌⊎◌, inl, inr, List, [], ◌∷◌, map, Option, Some, None, Ok, refl, sym, ap, subst, arith}
use Rattle.std.specs.List.{range_with_len}
use Rattle.std.proofs.lemmas.List.Elements.{All-cons, All-map}
use Rattle.plfs_types.specs.Counts.{HasRisen}
use Rattle.store_api.specs.Acts.{Stored}
use Rattle.mount_model.specs.State.{State}
use Rattle.mount_model.specs.Failing.{FailsToMount}
use Rattle.mount_model.specs.Mounting.{IsMounted}
use Rattle.store_api.specs.Names.{marks_folder}
use Rattle.mount_model.specs.declared.mount_trouble.MountTrouble.{MountTrouble}
use Rattle.mount_model.specs.declared.mount_trouble.MountTrouble.TheVariants as trouble
use Rattle.script_lang.specs.declared.line.Line.{Line}
use Rattle.script_lang.specs.declared.line.Outcome.{Outcome}
use Rattle.script_lang.specs.declared.line.Outcome.TheVariants as of
use Rattle.script_lang.specs.declared.line.Why.TheVariants.{MountsSpent}
use Rattle.script_lang.specs.Ranges.{FitsNumbered}
use Rattle.report_text.specs.Text.{HaveText, text_of}
use Rattle.run_core.specs.Conditions.{IsPlayable}
use Rattle.run_core.specs.Play.{IsPlay}
use Rattle.run_core.proofs.Facts.{play_caused, play_has_text}
use Rattle.program_ends.specs.Leaving.{ran, broke_off, IsStoreLeft}
use Rattle.plfs_program.specs.Cat.{unopened, unsaid, hungry, opening, reading, cat_statements, cat_script, reader_size}
use Rattle.plfs_program.specs.Catting.{CatsOn, CatCourse, WentOn, IsLeftBehind, IsReadOut}
use Rattle.program_ends.specs.Ends.{Ends}
use Rattle.plfs_program.specs.Lines.{unmounted, mounted}
use Rattle.program_ends.specs.Mounting.{unmounted_of}
use Rattle.program_ends.specs.Outcomes.{status_of}
use Rattle.program_ends.specs.Output.{IsPrinted, IsCutOff}
use Rattle.plfs_program.specs.ReadOut.{ShowOneFile}
use Rattle.program_ends.specs.SoundTrees.{TellsSoundTree}
use Rattle.plfs_program.specs.Ways.{HasBegun, by_turns}
use Rattle.program_ends.proofs.Facts.{SaidUnmounted, was_run, fault_line_alone, unmounted_undamaged}
use Rattle.plfs_program.proofs.Streams.CatLemmas.{seen_so}
use Rattle.plfs_program.proofs.Streams.CommandLemmas.{statements_fit}
use Rattle.plfs_program.proofs.Courses.Lines.{play_cause}
use Rattle.plfs_program.proofs.Streams.Pieces.{cat_shows}
use Rattle.plfs_program.proofs.Courses.Plain.{counted_on, orderly_on, plain_on, plainly_on, still_on, story_on, undamaged_on}

-- ---- its script is played

pub cat_playable : (name : List ℕ) (count : ℕ) → IsPlayable (cat_script name count)
cat_playable name count =
    let rest = map reading (range_with_len 0 count) in
    record {
      fits = statements_fit (cat_statements name count)
          (All-cons (FitsNumbered 1) (opening name) rest (omega arith, (omega arith, omega arith)) (All-map (FitsNumbered 1) reading (range_with_len 0 count) (λ k d lt. (omega arith, omega arith))));
    }

pub line_text : (name : List ℕ) (start now : State) (line : Line) → IsPlay (cat_script name 0) start (line ∷ []) now → HaveText (line ∷ [])
line_text name start now line play = play_has_text (cat_script name 0) start (line ∷ []) now (cat_playable name 0) play

-- ---- on a mount

-- the pieces are those of one plain file, where the tree was sound
shown_on : (name : List ℕ) (count : ℕ) (times : Option (List ℕ)) (before : Stored) (lines : List Line) (start end : State) → IsMounted 0 times before start → (play : IsPlay (cat_script name count) start lines end) → TellsSoundTree before → ShowOneFile start play.history name lines
shown_on name count times before lines start end made play told =
    cat_shows name count start end lines play (plain_on by_turns times before (cat_script name count) lines start end (cat_playable name count).fits made play told)

pub read_out : (name : List ℕ) (count : ℕ) (lines : List Line) (e : Ends) (start end : State) (after : Stored) → e.stored_after ≡ Some after → IsMounted 0 e.times e.stored start → after ≡ end.store → IsPlay (cat_script name count) start lines end → IsReadOut name count lines e
read_out name count lines e start end after is made left play =
    let fits = (cat_playable name count).fits in
    record {
      played = record {
        after = after;
        left = is;
        in_turn = mounted (record {
          start = start;
          end = end;
          mounted = made;
          play = play;
          left = sym left;
          plain = plain_on by_turns e.times e.stored (cat_script name count) lines start end fits made play;
          counted = counted_on by_turns e.times e.stored (cat_script name count) lines start end fits made play;
          orderly = orderly_on by_turns e.times e.stored (cat_script name count) lines after start end fits made play left;
          still = still_on by_turns e.times e.stored (cat_script name count) lines after start end made play left;
          story = story_on by_turns e.times e.stored (cat_script name count) lines after start end fits made play left;
          machine = plainly_on by_turns e.times e.stored (cat_script name count) lines after start end fits made play left;
        });
        cause = play_cause {E = Unit {0}} e.times e.stored after start end (Ok lines) made left (play_caused (cat_script name count) start lines end (cat_playable name count) play);
        undamaged = undamaged_on by_turns e.times e.stored (cat_script name count) lines start end fits made play;
      };
      plain = shown_on name count e.times e.stored lines start end made play;
    }

pub mounted_so : (name : List ℕ) (e : Ends) (status : ℕ) (start end : State) (after : Stored) → e.stored_after ≡ Some after → IsMounted 0 e.times e.stored start → after ≡ end.store → CatsOn name start e.taking end e.taking_after status → CatCourse name e status
mounted_so name e status start end after is made left cats =
    seen_so name (λ count lines. IsPlay (cat_script name count) start lines end) (λ count lines. IsReadOut name count lines e) (HasBegun by_turns (cat_script name 0) start end) (IsStoreLeft (HasBegun by_turns (cat_script name 0)) e) (λ lines. WentOn name start lines end) (λ lines. IsLeftBehind name lines e)
    (λ count lines play. read_out name count lines e start end after is made left play)
    (λ begun. record { after = after; left = is; lawful = ran (was_run (HasBegun by_turns (cat_script name 0)) e.times e.stored after start end made begun left) })
    (λ lines w. record { after = after; left = is; start = start; end = end; mounted = made; went = w; is = sym left; plain = shown_on name w.count e.times e.stored lines start w.mid made w.play })
    e.taking e.taking_after status cats

-- ---- without a mount

no_reader_size : (why : MountTrouble) (outcome : Outcome) → unmounted_of why ≡ Some outcome → reader_size outcome ≡ None
no_reader_size (trouble.Damaged file) outcome is = let same : outcome ≡ of.Damaged marks_folder file 0 = cc in ap reader_size same
no_reader_size trouble.NoMarks outcome is = let same : outcome ≡ of.Damaged marks_folder [] 0 = cc in ap reader_size same
no_reader_size trouble.Spent outcome is = let same : outcome ≡ of.Refused MountsSpent = cc in ap reader_size same
no_reader_size trouble.Fault outcome is = let same : outcome ≡ of.Fault = cc in ap reader_size same
no_reader_size trouble.NoMemory outcome is = absurd (cc)

pub unmounted_so : (name : List ℕ) (e : Ends) (status : ℕ) (why : MountTrouble) (after : Stored) → e.stored_after ≡ Some after → FailsToMount e.stored why after → (why ≡ trouble.Fault → HasRisen e.stored.faults after.faults)
    → SaidUnmounted why e.taking e.taking_after status → CatCourse name e status
unmounted_so name e status why after is failed cause (inl (lines, (outcome, told, only), said)) =
    let line : Line = record { number = 0; outcome = outcome } in
    let none = no_reader_size why outcome told in
    let played : IsReadOut name 0 (line ∷ []) e = record {
      played = record {
        after = after;
        left = is;
        in_turn = unmounted why failed (outcome, told, refl);
        cause = fault_line_alone why outcome (line ∷ []) (HasRisen e.stored.faults after.faults) told refl cause;
        undamaged = unmounted_undamaged e.stored after why (line ∷ []) failed (outcome, told, refl);
      };
      plain = λ sound. tt;
    } in
    let Says : List Line → Type 0 = λ z. ((status ≡ status_of z) × IsPrinted (text_of z) e.taking e.taking_after) ⊎ ((status ≡ 6) × IsCutOff (text_of z) e.taking e.taking_after) in
    elim (subst Says only said) as (λ _. CatCourse name e status) [
      | inl all ↦ unopened line played none all.1 all.0
      | inr part ↦ unsaid line played none part.1 part.0
    ]
unmounted_so name e status why after is failed cause (inr (told, same)) = hungry (record { after = after; left = is; lawful = broke_off why failed }) same told
