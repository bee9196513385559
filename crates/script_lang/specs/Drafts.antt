-- Scripts, as far as their lines are read.
use Rattle.std.specs.Prelude.{◌≡◌, ℕ, ◌≤◌, ◌^◌, true, false, All, List, [], ◌∷◌, ◌++◌, length, Result, Ok, Err}
use Rattle.script_lang.specs.declared.draft.Draft.{Draft}
use Rattle.script_lang.specs.declared.flaw.Flaw.{Flaw}
use Rattle.script_lang.specs.declared.meaning.Meaning.{Meaning}
use Rattle.script_lang.specs.declared.meaning.Meaning.TheVariants as meaning
use Rattle.script_lang.specs.declared.script.Script.{Script}
use Rattle.script_lang.specs.declared.trouble.Kind.{Kind}
use Rattle.script_lang.specs.Phases.{empty_phase}
use Rattle.script_lang.specs.Lines.{line_meaning}
use Rattle.script_lang.specs.Ranges.{FitsActor, FitsPhase}
use Rattle.script_lang.specs.Reading.{FailsAsRead}

-- before the first line
abbrev pub empty_draft : Draft
empty_draft = record { cast = []; phases = []; phase = empty_phase; begun = false; reads = 0 }

-- after a line of this number that says this
abbrev pub draft_with : ℕ → Meaning → Draft → Draft
draft_with number meaning.Passed d = d
draft_with number (meaning.Declares actor) d = record { cast = d.cast ++ actor ∷ []; phases = d.phases; phase = d.phase; begun = d.begun; reads = d.reads }
draft_with number meaning.Begins d = record { cast = d.cast; phases = d.phases ++ d.phase ∷ []; phase = empty_phase; begun = true; reads = d.reads }
draft_with number (meaning.Turns turned) d = record {
  cast = d.cast;
  phases = d.phases;
  phase = record { turns = d.phase.turns ++ turned ∷ []; statements = d.phase.statements };
  begun = true;
  reads = d.reads;
}
draft_with number (meaning.Says actor statement reads) d = record {
  cast = d.cast;
  phases = d.phases;
  phase = record { turns = d.phase.turns; statements = d.phase.statements ++ record { line = number; actor = actor; statement = statement } ∷ [] };
  begun = true;
  reads = reads;
}

-- the script, where no line is left
abbrev pub script_in : Draft → Script
script_in d = record { actors = d.cast; phases = d.phases ++ d.phase ∷ [] }

-- the draft after a line, or the line's fault
abbrev pub after_meaning : ℕ → Result Meaning Kind → Draft → Result Draft Kind
after_meaning number (Ok said) d = Ok (draft_with number said d)
after_meaning number (Err kind) d = Err kind

abbrev pub line_draft : ℕ → List ℕ → Draft → Result Draft Kind
line_draft number line d = after_meaning number (line_meaning d.cast d.begun d.reads line) d

-- the draft that was left is the one that reading gives, but for want of memory
abbrev pub FollowsAsRead : {A : Type 0} → Result A Flaw → Draft → Result Draft Kind → Type 0
FollowsAsRead (Ok _) left read = read ≡ Ok left
FollowsAsRead (Err flaw) left read = FailsAsRead flaw read

-- what a draft keeps: all is in its ranges, and nothing is said before the last declaration
pub record FitsDraft (d : Draft) : Type 0 where
  pub few : length d.cast ≤ 256
  pub declared : All FitsActor d.cast
  pub waits : d.begun ≡ false → (d.phases ≡ []) × (d.phase ≡ empty_phase)
  pub ended : All (FitsPhase (length d.cast)) d.phases
  pub open_phase : FitsPhase (length d.cast) d.phase
  pub reads : d.reads ≤ 2 ^ 28
