use Rattle.std.proofs.Common.{◌∙◌, subst, sym, arith, List, drop}
use Rattle.std.proofs.lemmas.List.{take_rest}
use Rattle.plain_file.specs.declared.pieces.Piece.{Piece}
use Rattle.plain_file.specs.Runs.{AreRuns}
use Rattle.read_plan.proofs.RangeLemmas.{AreRuns-drop}
use Rattle.read_plan.proofs.PlanLemmas.{filled-nothing}
use Rattle.read_plan.proofs.planning.parts_between.Goals as goal

pub push_parts-requires-clause-runs : goal.push_parts-requires-clause-runs
push_parts-requires-clause-runs c =
    let pieces : List Piece = c.as_slice-pieces.result.now in
    let i = c.first_past-first.result in
    let P : List Piece → Type 0 = λ ps. AreRuns ps in
    let Q : List Piece → Type 0 = λ ps. AreRuns (drop i ps) in
    subst P (sym (take_rest pieces i)) (subst Q (sym c.as_slice-pieces.ensures.value) (AreRuns-drop i c.args.pieces.now c.as_slice-pieces.ensures.runs))

pub returns-then-at-until-clause-exact : goal.returns-then-at-until-clause-exact
returns-then-at-until-clause-exact c =
    c.new.ensures ∙ sym (filled-nothing c.args.at c.args.until c.args.pieces.now c.as_slice-pieces.ensures.runs (omega arith))
