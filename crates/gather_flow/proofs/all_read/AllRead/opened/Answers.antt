use Rattle.std.proofs.Common.{List, ap, ◌∙◌, subst}
use Rattle.plain_file.specs.declared.pieces.Piece.{Piece}
use Rattle.plain_file.specs.Runs.{AreRuns}
use Rattle.gather_flow.specs.OneIndex.{reader_of}
use Rattle.gather_flow.proofs.ReaderLemmas.{reader_is}
use Rattle.gather_flow.proofs.all_read.AllRead.opened.Goals as goal

pub returns : goal.returns
returns c =
    let reader = c.in_ok-reader.ensures in
    let P : List Piece → Type 0 = λ pieces. AreRuns pieces in
    reader_is c.take.result c.args.self.shares c.args.self.truncs c.in_ok-gathered.gathered c.in_ok-reader.reader
    c.in_ok-gathered.ensures c.as_slice-merged.ensures.runs
    (record { room = reader.room; hosts = reader.hosts; covers = reader.covers; truncs = reader.truncs; size = reader.size; kept = reader.kept })
    (subst P c.pieces.ensures c.as_slice-clipped.ensures.runs)
    ∙ ap (λ listing. reader_of listing c.args.self.shares c.args.self.truncs) c.take.ensures.value
