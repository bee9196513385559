use Rattle.std.proofs.Common.{◌≡◌, ◌++◌, List, ap, ◌∙◌, sym, subst, arith}
use Rattle.std.proofs.lemmas.List.{drop_all, append-nil}
use Rattle.plain_file.specs.declared.pieces.Piece.{Piece}
use Rattle.plain_file.specs.Sources.{source_at}
use Rattle.plain_file.specs.Runs.{AreRuns}
use Rattle.interval_merge.proofs.ClipLemmas.{clipped, AreRuns-clipped, clipped-says}
use Rattle.interval_merge.proofs.clipping.clipped_runs.Goals as goal

pub returns-clause-runs : goal.returns-clause-runs
returns-clause-runs c =
    let truncs = c.args.truncs.now in
    let pieces = c.args.pieces.now in
    let all : c.loop-piece.clipped ≡ clipped truncs pieces =
    sym (ap (λ ps. c.loop-piece.clipped ++ clipped truncs ps) (drop_all c.loop-piece.piece-index pieces (omega arith)) ∙ append-nil c.loop-piece.clipped) ∙ c.loop-piece.invariant.told in
    let P : List Piece → Type 0 = λ ps. AreRuns ps in
    subst P (sym all) (AreRuns-clipped truncs pieces c.requires.pieces)

pub returns-clause-kept : goal.returns-clause-kept
returns-clause-kept c = λ x.
    let truncs = c.args.truncs.now in
    let pieces = c.args.pieces.now in
    let all : c.loop-piece.clipped ≡ clipped truncs pieces =
    sym (ap (λ ps. c.loop-piece.clipped ++ clipped truncs ps) (drop_all c.loop-piece.piece-index pieces (omega arith)) ∙ append-nil c.loop-piece.clipped) ∙ c.loop-piece.invariant.told in
    ap (λ ps. source_at ps x) all ∙ clipped-says truncs pieces c.requires.pieces x
