-- The scripts of commands are in their ranges.
use Rattle.std.proofs.Common.{List, [], arith}
use Rattle.std.specs.Prelude.{All}
use Rattle.std.proofs.lemmas.List.Elements.{All-nil, All-cons}
use Rattle.script_lang.specs.declared.script.Numbered.{Numbered}
use Rattle.script_lang.specs.declared.script.Phase.{Phase}
use Rattle.script_lang.specs.Ranges.{FitsActor, FitsNumbered, FitsPhase, FitsScript, FitsTurned}
use Rattle.plfs_program.specs.Commands.{actor, script_of}

pub statements_fit : (statements : List Numbered) → All (FitsNumbered 1) statements → FitsScript (script_of statements)
statements_fit statements fits =
    let phase : Phase = record { turns = []; statements = statements } in
    record {
      few = omega arith;
      declared = All-cons FitsActor actor [] (omega arith, omega arith) (All-nil FitsActor);
      begun = omega arith;
      phased = All-cons (FitsPhase 1) phase [] (record { turned = All-nil (FitsTurned 1); numbered = fits }) (All-nil (FitsPhase 1));
    }
