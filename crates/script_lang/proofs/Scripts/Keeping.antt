-- What a draft keeps as its lines are taken.
use Rattle.std.proofs.Common.{ℕ, zero, suc, List, [], ◌∷◌, ◌++◌, length, arith, length-append}
use Rattle.std.specs.Prelude.{All}
use Rattle.std.proofs.lemmas.List.Elements.{All-append}
use Rattle.script_lang.specs.declared.draft.Draft.{Draft}
use Rattle.script_lang.specs.declared.meaning.Meaning.{Meaning}
use Rattle.script_lang.specs.declared.meaning.Meaning.TheVariants as meaning
use Rattle.script_lang.specs.Drafts.{FitsDraft, draft_with, script_in}
use Rattle.script_lang.specs.Phases.{empty_phase}
use Rattle.script_lang.specs.Lines.{IsFit}
use Rattle.script_lang.specs.Ranges.{FitsActor, FitsTurned, FitsNumbered, FitsPhase, FitsScript}

All-none : {X : Type 0} (P : X → Type 0) → All P []
All-none P k d within = absurd (omega arith)

All-one : {X : Type 0} (P : X → Type 0) (x : X) → P x → All P (x ∷ [])
All-one P x is zero d within = is
All-one P x is (suc k) d within = absurd (omega arith)

All-push : {X : Type 0} (P : X → Type 0) (xs : List X) (x : X) → All P xs → P x → All P (xs ++ x ∷ [])
All-push P xs x all is = All-append P xs (x ∷ []) all (All-one P x is)

pub nothing_said : (count : ℕ) → FitsPhase count empty_phase
nothing_said count = record { turned = All-none (FitsTurned count); numbered = All-none (FitsNumbered count) }

-- what a line says is taken
pub still_fits : (number : ℕ) (said : Meaning) (d : Draft) → FitsDraft d → IsFit d.cast d.begun said → FitsDraft (draft_with number said d)
still_fits number meaning.Passed d fits fit = fits
still_fits number (meaning.Declares actor) d fits fit =
    let waits = fits.waits fit.1 in record {
      few = omega (arith, length-append d.cast (actor ∷ []), fit.2);
      declared = All-push FitsActor d.cast actor fits.declared fit.3;
      waits = fits.waits;
      ended = rw waits.0 (All-none (FitsPhase (length (d.cast ++ actor ∷ []))));
      open_phase = rw waits.1 (nothing_said (length (d.cast ++ actor ∷ [])));
      reads = fits.reads;
    }
still_fits number meaning.Begins d fits fit = record {
  few = fits.few;
  declared = fits.declared;
  waits = λ begun. absurd cc;
  ended = All-push (FitsPhase (length d.cast)) d.phases d.phase fits.ended fits.open_phase;
  open_phase = nothing_said (length d.cast);
  reads = fits.reads;
}
still_fits number (meaning.Turns turned) d fits fit = record {
  few = fits.few;
  declared = fits.declared;
  waits = λ begun. absurd cc;
  ended = fits.ended;
  open_phase = record { turned = All-push (FitsTurned (length d.cast)) d.phase.turns turned fits.open_phase.turned fit; numbered = fits.open_phase.numbered };
  reads = fits.reads;
}
still_fits number (meaning.Says actor made reads) d fits fit = record {
  few = fits.few;
  declared = fits.declared;
  waits = λ begun. absurd cc;
  ended = fits.ended;
  open_phase = record { turned = fits.open_phase.turned; numbered = All-push (FitsNumbered (length d.cast)) d.phase.statements (record { line = number; actor = actor; statement = made }) fits.open_phase.numbered (fit.0, fit.1) };
  reads = fit.2;
}

-- and the script that is left is in its ranges
pub script_fits : (d : Draft) → FitsDraft d → FitsScript (script_in d)
script_fits d fits = record {
  few = fits.few;
  declared = fits.declared;
  begun = omega (arith, length-append d.phases (d.phase ∷ []));
  phased = All-push (FitsPhase (length d.cast)) d.phases d.phase fits.ended fits.open_phase;
}
