-- Scripts, line after line: what is read is a script, and what is a script is read.
use Rattle.std.proofs.Common.{◌≡◌, ℕ, ◌+◌, true, false, List, [], ◌∷◌, ◌++◌, length, Result, Ok, Err, refl, sym, ap, subst, ◌∙◌, inl, inr, arith, append_assoc}
use Rattle.std.proofs.lemmas.List.{append-nil}
use Rattle.script_lang.specs.declared.draft.Draft.{Draft}
use Rattle.script_lang.specs.declared.meaning.Meaning.{Meaning}
use Rattle.script_lang.specs.declared.meaning.Meaning.TheVariants as meaning
use Rattle.script_lang.specs.declared.script.ActorDecl.{ActorDecl}
use Rattle.script_lang.specs.declared.script.Phase.{Phase}
use Rattle.script_lang.specs.declared.trouble.Kind.{Kind}
use Rattle.script_lang.specs.Drafts.{empty_draft, draft_with, script_in, after_meaning}
use Rattle.script_lang.specs.Faults.{Fault}
use Rattle.script_lang.specs.Declarations.{DeclareAll}
use Rattle.script_lang.specs.Grammar.{AreScript}
use Rattle.script_lang.specs.Phases.{empty_phase, with_turn, with_statement, passes, begins, turns, states, MakeAll}
use Rattle.script_lang.specs.Layout.{HasWords}
use Rattle.script_lang.specs.Lines.{line_meaning}
use Rattle.script_lang.specs.Scripts.{go_on, lines_draft}
use Rattle.script_lang.proofs.Scripts.DraftLemmas.{Holds, holds_first, holds_on, onto, onto_nothing, onto_begins, onto_turn, onto_statement}
use Rattle.script_lang.proofs.Lines.LineLemmas.{LineSays, is_passed_over, has_words, line_said}
use Rattle.script_lang.proofs.Lines.MeaningLemmas.{Says}

-- ---- one line

read_on : (number : ℕ) (later : Draft → Result Draft Fault) (read : Result Meaning Kind) (d end : Draft) → go_on number later (after_meaning number read d) ≡ Ok end → (said : Meaning) × (read ≡ Ok said) × (later (draft_with number said d) ≡ Ok end)
read_on number later (Ok said) d end is = (said, refl, is)
read_on number later (Err kind) d end is = cc

-- a line that is read, and the lines behind it
pub step_read : (number : ℕ) (line : List ℕ) (lines : List (List ℕ)) (d end : Draft) → lines_draft number (line ∷ lines) d ≡ Ok end
    → (said : Meaning) × (line_meaning d.cast d.begun d.reads line ≡ Ok said) × (lines_draft (number + 1) lines (draft_with number said d) ≡ Ok end)
step_read number line lines d end is = read_on number (lines_draft (number + 1) lines) (line_meaning d.cast d.begun d.reads line) d end is

pub step_again : (number : ℕ) (line : List ℕ) (lines : List (List ℕ)) (d : Draft) (said : Meaning) → line_meaning d.cast d.begun d.reads line ≡ Ok said → lines_draft number (line ∷ lines) d ≡ lines_draft (number + 1) lines (draft_with number said d)
step_again number line lines d said is = ap (λ (read : Result Meaning Kind). go_on number (lines_draft (number + 1) lines) (after_meaning number read d)) is

pub same_draft : (d end : Draft) → ◌≡◌ {A = Result Draft Fault} (Ok d) (Ok end) → d ≡ end
same_draft d end is = cc

pub holds_all : (lines : List (List ℕ)) (number : ℕ) (d end : Draft) → Holds d → lines_draft number lines d ≡ Ok end → Holds end
holds_all [] number d end holds is = subst Holds (same_draft d end is) holds
holds_all (line ∷ lines) number d end holds is =
    let step = step_read number line lines d end is in
    holds_all lines (number + 1) (draft_with number step.0 d) end (holds_on number line step.0 d holds (line_said d.cast d.begun d.reads line step.0 step.1)) step.2

-- ---- what is read is a script

-- the lines make phases behind those of a draft
pub record Works (d : Draft) (number : ℕ) (lines : List (List ℕ)) (end : Draft) : Type 0 where
  pub first : Phase
  pub others : List Phase
  pub made : MakeAll d.cast number lines (first ∷ others)
  pub cast_is : end.cast ≡ d.cast
  pub phases_are : end.phases ++ end.phase ∷ [] ≡ d.phases ++ onto d.phase (first ∷ others)

works_on : (number : ℕ) (line : List ℕ) (lines : List (List ℕ)) (said : Meaning) (d end : Draft) → LineSays d.cast d.begun d.reads line said → ((actor : ActorDecl) → said ≡ meaning.Declares actor → ⊥) → Works (draft_with number said d) (number + 1) lines end → Works d number (line ∷ lines) end
works_on number line lines said d end (is_passed_over over is) other works =
    let later = subst (λ (m : Meaning). Works (draft_with number m d) (number + 1) lines end) is works in
    record {
      first = later.first;
      others = later.others;
      made = (later.first ∷ later.others, passes over refl, later.made);
      cast_is = later.cast_is;
      phases_are = later.phases_are;
    }
works_on number line lines meaning.Passed d end (has_words words has says) other works = absurd says
works_on number line lines (meaning.Declares actor) d end (has_words words has says) other works = absurd (other actor refl)
works_on number line lines meaning.Begins d end (has_words words has says) other works = record {
  first = empty_phase;
  others = works.first ∷ works.others;
  made = (works.first ∷ works.others, begins (subst (λ ws. HasWords line ws) says has) refl, works.made);
  cast_is = works.cast_is;
  phases_are = works.phases_are ∙ onto_begins d.phases d.phase works.first works.others;
}
works_on number line lines (meaning.Turns turned) d end (has_words words has says) other works = record {
  first = with_turn turned works.first;
  others = works.others;
  made = (works.first ∷ works.others, turns words turned works.first works.others has says refl refl, works.made);
  cast_is = works.cast_is;
  phases_are = works.phases_are ∙ onto_turn d.phases d.phase works.first works.others turned;
}
works_on number line lines (meaning.Says actor stated reads) d end (has_words words has says) other works = record {
  first = with_statement (record { line = number; actor = actor; statement = stated }) works.first;
  others = works.others;
  made = (works.first ∷ works.others, states words actor stated works.first works.others has says.0 refl refl, works.made);
  cast_is = works.cast_is;
  phases_are = works.phases_are ∙ onto_statement d.phases d.phase works.first works.others (record { line = number; actor = actor; statement = stated });
}

late_line : (d : Draft) (line : List ℕ) (said : Meaning) → d.begun ≡ true → LineSays d.cast d.begun d.reads line said → (actor : ActorDecl) → said ≡ meaning.Declares actor → ⊥
late_line d line said late (is_passed_over over is) actor same = cc
late_line d line said late (has_words words has says) actor same =
    let declared = subst (λ (m : Meaning). Says d.cast d.begun d.reads words m) same says in
    let early = declared.1 in
    cc

still_begun : (number : ℕ) (said : Meaning) (d : Draft) → d.begun ≡ true → (draft_with number said d).begun ≡ true
still_begun number meaning.Passed d late = late
still_begun number (meaning.Declares actor) d late = late
still_begun number meaning.Begins d late = refl
still_begun number (meaning.Turns turned) d late = refl
still_begun number (meaning.Says actor made reads) d late = refl

works_so : (lines : List (List ℕ)) (number : ℕ) (d end : Draft) → d.begun ≡ true → lines_draft number lines d ≡ Ok end → Works d number lines end
works_so [] number d end late is =
    subst (λ (e : Draft). Works d number [] e) (same_draft d end is) (record {
      first = empty_phase;
      others = [];
      made = refl;
      cast_is = refl;
      phases_are = ap (λ (ps : List Phase). d.phases ++ ps) (sym (onto_nothing d.phase));
    })
works_so (line ∷ lines) number d end late is =
    let step = step_read number line lines d end is in
    let says = line_said d.cast d.begun d.reads line step.0 step.1 in
    works_on number line lines step.0 d end says (late_line d line step.0 late says) (works_so lines (number + 1) (draft_with number step.0 d) end (still_begun number step.0 d late) step.2)

-- before a line other than a declaration
abbrev pub early : List ActorDecl → ℕ → Draft
early cast reads = record { cast = cast; phases = []; phase = empty_phase; begun = false; reads = reads }

-- the lines declare actors behind these, and make phases
pub record Parts (cast : List ActorDecl) (number : ℕ) (lines : List (List ℕ)) (end : Draft) : Type 0 where
  pub declaring : List (List ℕ)
  pub working : List (List ℕ)
  pub others : List ActorDecl
  pub phases : List Phase
  pub parted : lines ≡ declaring ++ working
  pub declared : DeclareAll declaring others
  pub cast_is : end.cast ≡ cast ++ others
  pub made : MakeAll end.cast (number + length declaring) working phases
  pub phases_are : end.phases ++ end.phase ∷ [] ≡ phases

from_works : (cast : List ActorDecl) (reads number : ℕ) (lines : List (List ℕ)) (end : Draft) → Works (early cast reads) number lines end → Parts cast number lines end
from_works cast reads number lines end works = record {
  declaring = [];
  working = lines;
  others = [];
  phases = works.first ∷ works.others;
  parted = refl;
  declared = refl;
  cast_is = works.cast_is ∙ sym (append-nil cast);
  made =
      let same : number ≡ number + 0 = omega arith in
      subst (λ (n : ℕ). MakeAll end.cast n lines (works.first ∷ works.others)) same (subst (λ actors. MakeAll actors number lines (works.first ∷ works.others)) (sym works.cast_is) works.made);
  phases_are = works.phases_are;
}

pub one_further : (number : ℕ) (line : List ℕ) (declaring : List (List ℕ)) → (number + 1) + length declaring ≡ number + length (line ∷ declaring)
one_further number line declaring = omega arith

parts_on : (cast : List ActorDecl) (reads number : ℕ) (line : List ℕ) (lines : List (List ℕ)) (end : Draft) → ((more : List ActorDecl) → lines_draft (number + 1) lines (early more reads) ≡ Ok end → Parts more (number + 1) lines end)
    → (said : Meaning) → LineSays cast false reads line said → lines_draft (number + 1) lines (draft_with number said (early cast reads)) ≡ Ok end → Parts cast number (line ∷ lines) end
parts_on cast reads number line lines end rest said (is_passed_over over is) read =
    let parts = rest cast (ap (λ (m : Meaning). lines_draft (number + 1) lines (draft_with number m (early cast reads))) (sym is) ∙ read) in
    record {
      declaring = line ∷ parts.declaring;
      working = parts.working;
      others = parts.others;
      phases = parts.phases;
      parted = ap (λ ls. line ∷ ls) parts.parted;
      declared = inl (over, parts.declared);
      cast_is = parts.cast_is;
      made = subst (λ (n : ℕ). MakeAll end.cast n parts.working parts.phases) (one_further number line parts.declaring) parts.made;
      phases_are = parts.phases_are;
    }
parts_on cast reads number line lines end rest meaning.Passed (has_words words has says) read = absurd says
parts_on cast reads number line lines end rest (meaning.Declares actor) (has_words words has says) read =
    let parts = rest (cast ++ actor ∷ []) read in
    record {
      declaring = line ∷ parts.declaring;
      working = parts.working;
      others = actor ∷ parts.others;
      phases = parts.phases;
      parted = ap (λ ls. line ∷ ls) parts.parted;
      declared = inr (actor, parts.others, words, refl, has, says.0, parts.declared);
      cast_is = parts.cast_is ∙ append_assoc cast (actor ∷ []) parts.others;
      made = subst (λ (n : ℕ). MakeAll end.cast n parts.working parts.phases) (one_further number line parts.declaring) parts.made;
      phases_are = parts.phases_are;
    }
parts_on cast reads number line lines end rest meaning.Begins (has_words words has says) read =
    from_works cast reads number (line ∷ lines) end (works_on number line lines meaning.Begins (early cast reads) end (has_words words has says) (λ actor same. cc) (works_so lines (number + 1) (draft_with number meaning.Begins (early cast reads)) end refl read))
parts_on cast reads number line lines end rest (meaning.Turns turned) (has_words words has says) read =
    from_works cast reads number (line ∷ lines) end (works_on number line lines (meaning.Turns turned) (early cast reads) end (has_words words has says) (λ actor same. cc) (works_so lines (number + 1) (draft_with number (meaning.Turns turned) (early cast reads)) end refl read))
parts_on cast reads number line lines end rest (meaning.Says actor stated sum) (has_words words has says) read =
    from_works cast reads number (line ∷ lines) end (works_on number line lines (meaning.Says actor stated sum) (early cast reads) end (has_words words has says) (λ actor same. cc) (works_so lines (number + 1) (draft_with number (meaning.Says actor stated sum) (early cast reads)) end refl read))

parts_so : (lines : List (List ℕ)) (number : ℕ) (cast : List ActorDecl) (reads : ℕ) (end : Draft) → lines_draft number lines (early cast reads) ≡ Ok end → Parts cast number lines end
parts_so [] number cast reads end is =
    subst (λ (e : Draft). Parts cast number [] e) (same_draft (early cast reads) end is) (record {
      declaring = [];
      working = [];
      others = [];
      phases = empty_phase ∷ [];
      parted = refl;
      declared = refl;
      cast_is = sym (append-nil cast);
      made = refl;
      phases_are = refl;
    })
parts_so (line ∷ lines) number cast reads end is =
    let step = step_read number line lines (early cast reads) end is in
    parts_on cast reads number line lines end (λ more. parts_so lines (number + 1) more reads end) step.0 (line_said cast false reads line step.0 step.1) step.2

pub is_script : (lines : List (List ℕ)) (end : Draft) → lines_draft 1 lines empty_draft ≡ Ok end → AreScript lines (script_in end)
is_script lines end is =
    let parts = parts_so lines 1 [] 0 end is in
    let holds = holds_all lines 1 empty_draft end holds_first is in
    let same : 1 + length parts.declaring ≡ length parts.declaring + 1 = omega arith in
    record {
      declaring = parts.declaring;
      working = parts.working;
      parted = parts.parted;
      declared = subst (λ actors. DeclareAll parts.declaring actors) (sym parts.cast_is) parts.declared;
      distinct = holds.distinct;
      few = holds.few;
      made = subst (λ (phases : List Phase). MakeAll end.cast (length parts.declaring + 1) parts.working phases) (sym parts.phases_are) (subst (λ (n : ℕ). MakeAll end.cast n parts.working parts.phases) same parts.made);
      limited = let sum = holds.sum in let limit = holds.limit in omega arith;
    }
