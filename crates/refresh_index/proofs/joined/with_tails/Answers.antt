use Rattle.std.proofs.Common.{◌≡◌, ap, ◌∙◌}
use Rattle.plain_file.specs.Size.{size_from}
use Rattle.plain_file.specs.Sources.{source_at, newer_source, kept_source}
use Rattle.index_reader.proofs.Indices.RunLemmas.{runs_of-is}
use Rattle.refresh_index.specs.Refreshing.{merged, clipped}
use Rattle.refresh_index.proofs.joined.with_tails.Goals as goal

pub returns-clause-pieces : goal.returns-clause-pieces
returns-clause-pieces c =
    let all : c.in_ok-merged.merged ≡ merged c.args.held.now c.args.tails.now =
    runs_of-is (λ x. newer_source (source_at c.args.held.now x) (source_at c.args.tails.now x)) c.in_ok-merged.merged c.in_ok-merged.ensures.runs c.in_ok-merged.ensures.newer in
    runs_of-is (λ x. kept_source c.args.truncs.now x (source_at c.in_ok-merged.merged x)) c.in_ok-pieces.pieces c.in_ok-pieces.ensures.runs c.in_ok-pieces.ensures.kept
    ∙ ap (clipped c.args.truncs.now) all

pub returns-clause-size : goal.returns-clause-size
returns-clause-size c =
    let all : c.in_ok-merged.merged ≡ merged c.args.held.now c.args.tails.now =
    runs_of-is (λ x. newer_source (source_at c.args.held.now x) (source_at c.args.tails.now x)) c.in_ok-merged.merged c.in_ok-merged.ensures.runs c.in_ok-merged.ensures.newer in
    c.size-size.ensures.from_pieces ∙ ap (λ ps. size_from ps c.args.truncs.now) all
