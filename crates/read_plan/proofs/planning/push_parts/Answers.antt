use Rattle.std.proofs.Common.{◌≡◌, ◌∷◌, ◌++◌, [], List, ◌-◌, ◌+◌, refl, ap, ◌∙◌, sym, subst, arith, drop, get_or, OnOk}
use Rattle.std.proofs.lemmas.List.{drop_more, drop_all}
use Rattle.plain_file.specs.declared.pieces.Piece.{Piece}
use Rattle.plain_file.proofs.Facts.{Starts}
use Rattle.read_plan.specs.declared.part.Part.{Part}
use Rattle.read_plan.specs.declared.part.Part.TheVariants.{From}
use Rattle.read_plan.specs.Ranges.{pieces_in_range}
use Rattle.read_plan.specs.Plan.{hole, filled}
use Rattle.read_plan.proofs.RangeLemmas.{Lies-in_range}
use Rattle.read_plan.proofs.StepLemmas.{Planning, Planning-step, Planning-end}
use Rattle.read_plan.proofs.planning.push_parts.Goals.{else-loop-piece-test, then-loop-piece-test+then-piece-until}
use Rattle.read_plan.proofs.planning.push_parts.Goals as goal

pub loop-piece-init : goal.loop-piece-init
loop-piece-init c = record {
  told = refl;
  lies = Lies-in_range c.args.at c.args.until c.args.pieces.now c.requires.runs (omega arith);
  runs = c.requires.runs;
  first = c.requires.first;
  range = omega arith;
}

pub loop-piece-preserved : goal.loop-piece-preserved
loop-piece-preserved c =
    let none : Piece = record { at = 0; len = 0; physical = 0; stamp = 0; writer = 0 } in
    let pieces = c.args.pieces.now in
    let i = c.loop-piece.piece-index in
    let p : Piece = get_or pieces i none in
    let rest = drop (i + 1) pieces in
    let at = c.args.at in
    let until = c.args.until in
    let begin = c.max-begin.result in
    let end = c.min-end.result in
    let from = c.loop-piece.from in
    let all = c.args.parts.now ++ filled at until (pieces_in_range at until pieces) in
    let P : List Piece → Type 0 = λ ps. Planning c.loop-piece.parts all ps at until from in
    let Q : List Part → Type 0 = λ parts. Planning parts all rest at until end in
    let plan : Planning c.loop-piece.parts all (p ∷ rest) at until from = subst P (drop_more pieces i none (omega arith)) c.loop-piece.invariant in
    let part : Part = From p.writer (p.physical + (begin - p.at)) (end - begin) in
    let made : c.push.new.self ≡ (c.loop-piece.parts ++ hole (begin - from)) ++ part ∷ [] =
    c.in_ok-push.ensures.ok ∙ ap (λ front. front ++ part ∷ []) c.in_ok-push_hole.ensures in
    subst Q (sym made) (Planning-step c.loop-piece.parts all p rest at until from begin end c.requires.range c.if-piece-until.false c.max-begin.ensures c.min-end.ensures plan)

pub returns : goal.returns
returns c =
    let none : Piece = record { at = 0; len = 0; physical = 0; stamp = 0; writer = 0 } in
    let pieces = c.args.pieces.now in
    let i = c.loop-piece.piece-index in
    let at = c.args.at in
    let until = c.args.until in
    let all = c.args.parts.now ++ filled at until (pieces_in_range at until pieces) in
    let S : List Piece → Type 0 = λ ps. Starts until ps in
    let R : List Part → Type 0 = λ parts. OnOk c.push_hole-2.result (c.push_hole-2.new.parts ≡ parts) in
    let starts : Starts until (drop i pieces) =
    elim c.loop-piece-test.branch [
      | else-loop-piece-test w ↦ subst S (sym (drop_all i pieces (omega arith))) tt
      | then-loop-piece-test+then-piece-until w ↦ subst S (sym (drop_more pieces i none (omega arith))) w.if-piece-until.true
    ] in
    subst R (Planning-end c.loop-piece.parts all (drop i pieces) at until c.loop-piece.from c.loop-piece.invariant starts) c.push_hole-2.ensures
