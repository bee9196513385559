use Rattle.std.proofs.Common.{ap, ◌∙◌}
use Rattle.gather_flow.specs.OneIndex.{gathered_of}
use Rattle.gather_flow.proofs.ReaderLemmas.{gathered_is}
use Rattle.gather_flow.proofs.all_read.AllRead.gathered.Goals as goal

pub returns-clause-gathered : goal.returns-clause-gathered
returns-clause-gathered c =
    gathered_is c.take.result c.args.self.shares c.args.self.truncs c.in_ok-gathered.gathered
    c.in_ok-gathered.ensures c.as_slice-merged.ensures.runs
    ∙ ap (λ listing. gathered_of listing c.args.self.shares c.args.self.truncs) c.take.ensures.value
