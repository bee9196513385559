-- Lines that are a script are read as it, and the first faulty line is found.
use Rattle.std.proofs.Common.{◌≡◌, ℕ, ◌+◌, ◌^◌, ◌<◌, ◌≤◌, nat_lt, Bool, true, false, cond, List, [], ◌∷◌, ◌++◌, length, get_or, Some, None, Result, Ok, Err, refl, sym, ap, subst, ◌∙◌, inl, inr, arith, append_assoc, length-append}
use Rattle.std.specs.Prelude.{AllPairs}
use Rattle.std.specs.List.{position_or_len}
use Rattle.std.proofs.lemmas.Bool.Decides.{nat_tests}
use Rattle.std.proofs.Math.ListN.{get_or-append}
use Rattle.std.proofs.Math.Seq.{get_or-append_seam}
use Rattle.std.proofs.lemmas.List.{append-nil}
use Rattle.std.proofs.lemmas.List.Sums.{passes_at_first}
use Rattle.script_lang.specs.declared.draft.Draft.{Draft}
use Rattle.script_lang.specs.declared.meaning.Meaning.{Meaning}
use Rattle.script_lang.specs.declared.meaning.Meaning.TheVariants as meaning
use Rattle.script_lang.specs.declared.script.ActorDecl.{ActorDecl}
use Rattle.script_lang.specs.declared.script.Phase.{Phase}
use Rattle.script_lang.specs.declared.script.Script.{Script}
use Rattle.script_lang.specs.declared.trouble.Kind.{Kind}
use Rattle.script_lang.specs.ActorNames.{is_word, actor_place}
use Rattle.script_lang.specs.Drafts.{empty_draft, draft_with, script_in, after_meaning}
use Rattle.script_lang.specs.Faults.{Fault}
use Rattle.script_lang.specs.Declarations.{DeclareAll}
use Rattle.script_lang.specs.Grammar.{read_length, asked, AreScript}
use Rattle.script_lang.specs.Phases.{empty_phase, with_turn, with_statement, MakesPhases, passes, begins, turns, states, MakeAll}
use Rattle.script_lang.specs.Lines.{line_meaning}
use Rattle.script_lang.specs.Scripts.{go_on, lines_draft}
use Rattle.script_lang.proofs.Scripts.DraftLemmas.{Differ, asked_cons, asked_first, onto, onto_nothing, onto_begins, onto_turn, onto_statement}
use Rattle.script_lang.proofs.Lines.LineLemmas.{line_passed, line_says}
use Rattle.script_lang.proofs.Scripts.ScriptLemmas.{step_read, step_again, same_draft, early, one_further}
use Rattle.script_lang.proofs.Lines.WordTests.{same_word}

-- ---- what is a script is read

-- the lines are read, and leave these phases behind those of the draft
pub record Reached (d : Draft) (number : ℕ) (lines : List (List ℕ)) (later : List Phase) : Type 0 where
  pub end : Draft
  pub reads_so : lines_draft number lines d ≡ Ok end
  pub cast_is : end.cast ≡ d.cast
  pub phases_are : end.phases ++ end.phase ∷ [] ≡ d.phases ++ onto d.phase later

some_phases : (actors : List ActorDecl) (number : ℕ) (lines : List (List ℕ)) (phases : List Phase) → MakeAll actors number lines phases → (first : Phase) × (others : List Phase) × (phases ≡ first ∷ others)
some_phases actors number [] phases is = (empty_phase, [], is)
some_phases actors number (line ∷ lines) phases (later, makes, rest) = by makes (some_phases actors (number + 1) lines later rest)
  where
    by : MakesPhases actors number line later phases → (first : Phase) × (others : List Phase) × (later ≡ first ∷ others) → (first : Phase) × (others : List Phase) × (phases ≡ first ∷ others)
    by (passes over is) some = (some.0, some.1, is ∙ some.2)
    by (begins has is) some = (empty_phase, later, is)
    by (turns words turned first others has says later_is is) some = (with_turn turned first, others, is)
    by (states words actor stated first others has says later_is is) some = (with_statement (record { line = number; actor = actor; statement = stated }) first, others, is)

-- a line that is read, before lines that are read
reached_on : (number : ℕ) (line : List ℕ) (lines : List (List ℕ)) (d : Draft) (said : Meaning) (later phases : List Phase) → line_meaning d.cast d.begun d.reads line ≡ Ok said → (draft_with number said d).cast ≡ d.cast → (draft_with number said d).phases ++ onto (draft_with number said d).phase later ≡ d.phases ++ onto d.phase phases
    → Reached (draft_with number said d) (number + 1) lines later → Reached d number (line ∷ lines) phases
reached_on number line lines d said later phases read same_cast same_phases reached = record {
  end = reached.end;
  reads_so = step_again number line lines d said read ∙ reached.reads_so;
  cast_is = reached.cast_is ∙ same_cast;
  phases_are = reached.phases_are ∙ same_phases;
}

work_on : (number : ℕ) (line : List ℕ) (lines : List (List ℕ)) (d : Draft) (later phases : List Phase) → ((e : Draft) → e.cast ≡ d.cast → e.reads + asked later ≤ 2 ^ 28 → Reached e (number + 1) lines later) → (first : Phase) × (others : List Phase) × (later ≡ first ∷ others) → d.reads + asked phases ≤ 2 ^ 28
    → MakesPhases d.cast number line later phases → Reached d number (line ∷ lines) phases
work_on number line lines d later phases rest some few (passes over is) =
    reached_on number line lines d meaning.Passed later phases (line_passed d.cast d.begun d.reads line over) refl (ap (λ (ps : List Phase). d.phases ++ onto d.phase ps) (sym is)) (rest d refl (let same : asked phases ≡ asked later = ap asked is in omega arith))
work_on number line lines d later phases rest some few (begins has is) =
    reached_on number line lines d meaning.Begins later phases (line_says d.cast d.begun d.reads line _ meaning.Begins has refl) refl
    (ap (λ (ps : List Phase). (d.phases ++ d.phase ∷ []) ++ onto empty_phase ps) some.2 ∙ onto_begins d.phases d.phase some.0 some.1 ∙ ap (λ (ps : List Phase). d.phases ++ onto d.phase (empty_phase ∷ ps)) (sym some.2) ∙ ap (λ (ps : List Phase). d.phases ++ onto d.phase ps) (sym is))
    (rest (draft_with number meaning.Begins d) refl (let same : asked phases ≡ asked (empty_phase ∷ later) = ap asked is in let more = asked_cons empty_phase later in omega arith))
work_on number line lines d later phases rest some few (turns words turned first others has says later_is is) =
    reached_on number line lines d (meaning.Turns turned) later phases (line_says d.cast d.begun d.reads line words (meaning.Turns turned) has says) refl
    (ap (λ (ps : List Phase). d.phases ++ onto (draft_with number (meaning.Turns turned) d).phase ps) later_is ∙ onto_turn d.phases d.phase first others turned ∙ ap (λ (ps : List Phase). d.phases ++ onto d.phase ps) (sym is))
    (rest (draft_with number (meaning.Turns turned) d) refl (
    let same : asked phases ≡ asked (with_turn turned first ∷ others) = ap asked is in
    let one : asked later ≡ asked (first ∷ others) = ap asked later_is in
    let more = asked_cons first others in
    let less = asked_cons (with_turn turned first) others in
    omega arith))
work_on number line lines d later phases rest some few (states words actor stated first others has says later_is is) =
    let same : asked phases ≡ asked (with_statement (record { line = number; actor = actor; statement = stated }) first ∷ others) = ap asked is in
    let one : asked later ≡ asked (first ∷ others) = ap asked later_is in
    let more = asked_cons first others in
    let less = asked_cons (with_statement (record { line = number; actor = actor; statement = stated }) first) others in
    let added = asked_first first (record { line = number; actor = actor; statement = stated }) in
    let said : Meaning = meaning.Says actor stated (d.reads + read_length stated) in
    reached_on number line lines d said later phases (line_says d.cast d.begun d.reads line words said has (says, refl, omega arith)) refl
    (ap (λ (ps : List Phase). d.phases ++ onto (draft_with number said d).phase ps) later_is ∙ onto_statement d.phases d.phase first others (record { line = number; actor = actor; statement = stated }) ∙ ap (λ (ps : List Phase). d.phases ++ onto d.phase ps) (sym is))
    (rest (draft_with number said d) refl (omega arith))

work_again : (lines : List (List ℕ)) (number : ℕ) (d : Draft) (phases : List Phase) → MakeAll d.cast number lines phases → d.reads + asked phases ≤ 2 ^ 28 → Reached d number lines phases
work_again [] number d phases is few = record {
  end = d;
  reads_so = refl;
  cast_is = refl;
  phases_are = ap (λ (ps : List Phase). d.phases ++ ps) (sym (onto_nothing d.phase)) ∙ ap (λ (ps : List Phase). d.phases ++ onto d.phase ps) (sym is);
}
work_again (line ∷ lines) number d phases (later, makes, rest) few =
    work_on number line lines d later phases (λ e same limit. work_again lines (number + 1) e later (subst (λ actors. MakeAll actors (number + 1) lines later) (sym same) rest) limit) (some_phases d.cast (number + 1) lines later rest) few makes

-- ---- names that differ

get_left : (cast : List ActorDecl) (more : List ActorDecl) (d : ActorDecl) (k : ℕ) → k < length cast → get_or (cast ++ more) k d ≡ get_or cast k d
get_left cast more d k within = get_or-append cast more d k within

not_taken : (cast : List ActorDecl) (actor : ActorDecl) (later : List ActorDecl) → AllPairs Differ (cast ++ actor ∷ later) → position_or_len (λ (a : ActorDecl). is_word actor.name a.name) cast < length cast → ⊥
not_taken cast actor later differ within =
    let at = position_or_len (λ (a : ActorDecl). is_word actor.name a.name) cast in
    let same = same_word actor.name (get_or cast at actor).name (passes_at_first (λ (a : ActorDecl). is_word actor.name a.name) cast actor within) in
    let long = length-append cast (actor ∷ later) in
    let apart = differ at (length cast) actor within (omega arith) in
    apart (ap (λ (a : ActorDecl). a.name) (get_left cast (actor ∷ later) actor at within) ∙ sym same ∙ ap (λ (a : ActorDecl). a.name) (sym (get_or-append_seam cast actor later actor)))

pub new_name : (cast : List ActorDecl) (actor : ActorDecl) (later : List ActorDecl) → AllPairs Differ (cast ++ actor ∷ later) → actor_place cast actor.name ≡ None
new_name cast actor later differ = by (nat_lt (position_or_len (λ (a : ActorDecl). is_word actor.name a.name) cast) (length cast)) refl
  where
    by : (b : Bool) → nat_lt (position_or_len (λ (a : ActorDecl). is_word actor.name a.name) cast) (length cast) ≡ b → cond (nat_lt (position_or_len (λ (a : ActorDecl). is_word actor.name a.name) cast) (length cast)) (Some (position_or_len (λ (a : ActorDecl). is_word actor.name a.name) cast)) None ≡ None
    by false is = rw is refl
    by true is = absurd (not_taken cast actor later differ (grind (arith, nat_tests)))

-- ---- declarations

declare_again : (declaring working : List (List ℕ)) (number : ℕ) (cast : List ActorDecl) (reads : ℕ) (others : List ActorDecl) → DeclareAll declaring others → AllPairs Differ (cast ++ others) → length (cast ++ others) ≤ 256
    → lines_draft number (declaring ++ working) (early cast reads) ≡ lines_draft (number + length declaring) working (early (cast ++ others) reads)
declare_again [] working number cast reads others is differ few =
    let same : number ≡ number + 0 = omega arith in
    ap (λ (n : ℕ). lines_draft n working (early cast reads)) same ∙ ap (λ actors. lines_draft (number + 0) working (early actors reads)) (sym (append-nil cast) ∙ ap (λ more. cast ++ more) (sym is))
declare_again (line ∷ declaring) working number cast reads others (inl (over, rest)) differ few =
    step_again number line (declaring ++ working) (early cast reads) meaning.Passed (line_passed cast false reads line over)
    ∙ declare_again declaring working (number + 1) cast reads others rest differ few
    ∙ ap (λ (n : ℕ). lines_draft n working (early (cast ++ others) reads)) (one_further number line declaring)
declare_again (line ∷ declaring) working number cast reads others (inr (actor, later, words, is, has, declares, rest)) differ few =
    let differ_so = subst (λ more. AllPairs Differ (cast ++ more)) is differ in
    let few_so : length (cast ++ actor ∷ later) ≤ 256 = subst (λ more. length (cast ++ more) ≤ 256) is few in
    let long = length-append cast (actor ∷ later) in
    let shift = append_assoc cast (actor ∷ []) later in
    step_again number line (declaring ++ working) (early cast reads) (meaning.Declares actor) (line_says cast false reads line words (meaning.Declares actor) has (declares, refl, omega arith, new_name cast actor later differ_so))
    ∙ declare_again declaring working (number + 1) (cast ++ actor ∷ []) reads later rest (subst (λ actors. AllPairs Differ actors) (sym shift) differ_so) (subst (λ (actors : List ActorDecl). length actors ≤ 256) (sym shift) few_so)
    ∙ ap (λ (n : ℕ). lines_draft n working (early ((cast ++ actor ∷ []) ++ later) reads)) (one_further number line declaring)
    ∙ ap (λ actors. lines_draft (number + length (line ∷ declaring)) working (early actors reads)) (shift ∙ ap (λ more. cast ++ more) (sym is))

same_script : (actors others : List ActorDecl) (phases more : List Phase) → actors ≡ others → phases ≡ more → ◌≡◌ {A = Script} (record { actors = actors; phases = phases }) (record { actors = others; phases = more })
same_script actors others phases more ha hp = rw (ha, hp) refl

-- lines that are a script are read as it
pub script_read : (lines : List (List ℕ)) (script : Script) → AreScript lines script → (end : Draft) × (lines_draft 1 lines empty_draft ≡ Ok end) × (script_in end ≡ script)
script_read lines script are =
    let same : length are.declaring + 1 ≡ 1 + length are.declaring = omega arith in
    let made = subst (λ (n : ℕ). MakeAll script.actors n are.working script.phases) same are.made in
    let some = some_phases script.actors (1 + length are.declaring) are.working script.phases made in
    let reached = work_again are.working (1 + length are.declaring) (early script.actors 0) script.phases made (let limit = are.limited in omega arith) in (
      reached.end,
      ap (λ ls. lines_draft 1 ls empty_draft) are.parted ∙ declare_again are.declaring are.working 1 [] 0 script.actors are.declared are.distinct are.few ∙ reached.reads_so,
      same_script reached.end.cast script.actors (reached.end.phases ++ reached.end.phase ∷ []) script.phases reached.cast_is
          (reached.phases_are ∙ ap (λ (ps : List Phase). onto empty_phase ps) some.2 ∙ sym some.2),
    )

-- ---- the first faulty line

-- the lines before this one are read, and it has this fault
pub record FailsAsRead (d : Draft) (number : ℕ) (lines : List (List ℕ)) (fault : Fault) : Type 0 where
  pub before : List (List ℕ)
  pub line : List ℕ
  pub behind : List (List ℕ)
  pub so_far : Draft
  pub parted : lines ≡ before ++ line ∷ behind
  pub reads_so : lines_draft number before d ≡ Ok so_far
  pub counted : fault.line ≡ number + length before
  pub failed : line_meaning so_far.cast so_far.begun so_far.reads line ≡ Err fault.kind

fails_on : (number : ℕ) (line : List ℕ) (lines : List (List ℕ)) (d : Draft) (fault : Fault) (read : Result Meaning Kind) → line_meaning d.cast d.begun d.reads line ≡ read → ((said : Meaning) → lines_draft (number + 1) lines (draft_with number said d) ≡ Err fault → FailsAsRead (draft_with number said d) (number + 1) lines fault)
    → go_on number (lines_draft (number + 1) lines) (after_meaning number read d) ≡ Err fault → FailsAsRead d number (line ∷ lines) fault
fails_on number line lines d fault (Ok said) is rest failed =
    let later = rest said failed in
    record {
      before = line ∷ later.before;
      line = later.line;
      behind = later.behind;
      so_far = later.so_far;
      parted = ap (λ ls. line ∷ ls) later.parted;
      reads_so = step_again number line later.before d said is ∙ later.reads_so;
      counted = later.counted ∙ one_further number line later.before;
      failed = later.failed;
    }
fails_on number line lines d fault (Err kind) is rest failed =
    let this : ◌≡◌ {A = Fault} (record { line = number; kind = kind }) fault = cc in
    let same : number ≡ number + 0 = omega arith in
    record {
      before = [];
      line = line;
      behind = lines;
      so_far = d;
      parted = refl;
      reads_so = refl;
      counted = ap (λ (f : Fault). f.line) (sym this) ∙ same;
      failed = is ∙ ap (λ (f : Fault). Err f.kind) this;
    }

pub fault_found : (lines : List (List ℕ)) (number : ℕ) (d : Draft) (fault : Fault) → lines_draft number lines d ≡ Err fault → FailsAsRead d number lines fault
fault_found [] number d fault is = cc
fault_found (line ∷ lines) number d fault is = fails_on number line lines d fault (line_meaning d.cast d.begun d.reads line) refl (λ said. fault_found lines (number + 1) (draft_with number said d) fault) is

pub fault_again : (before : List (List ℕ)) (number : ℕ) (d end : Draft) (line : List ℕ) (behind : List (List ℕ)) (kind : Kind) → lines_draft number before d ≡ Ok end → line_meaning end.cast end.begun end.reads line ≡ Err kind
    → lines_draft number (before ++ line ∷ behind) d ≡ Err (record { line = number + length before; kind = kind })
fault_again [] number d end line behind kind is failed =
    let same : number ≡ number + 0 = omega arith in
    let failed_so = subst (λ (e : Draft). line_meaning e.cast e.begun e.reads line ≡ Err kind) (sym (same_draft d end is)) failed in
    ap (λ (read : Result Meaning Kind). go_on number (lines_draft (number + 1) behind) (after_meaning number read d)) failed_so ∙ ap (λ (n : ℕ). Err (record { line = n; kind = kind })) same
fault_again (first ∷ before) number d end line behind kind is failed =
    let step = step_read number first before d end is in
    step_again number first (before ++ line ∷ behind) d step.0 step.1
    ∙ fault_again before (number + 1) (draft_with number step.0 d) end line behind kind step.2 failed
    ∙ ap (λ (n : ℕ). Err (record { line = n; kind = kind })) (one_further number first before)

-- an empty line behind the others adds nothing
pub empty_behind : (lines : List (List ℕ)) (number : ℕ) (d end : Draft) → lines_draft number lines d ≡ Ok end → lines_draft number (lines ++ [] ∷ []) d ≡ Ok end
empty_behind [] number d end is = is
empty_behind (line ∷ lines) number d end is =
    let step = step_read number line lines d end is in
    step_again number line (lines ++ [] ∷ []) d step.0 step.1 ∙ empty_behind lines (number + 1) (draft_with number step.0 d) end step.2
