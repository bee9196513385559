use Rattle.std.proofs.Common.{ap, ◌∙◌}
use Rattle.std.proofs.lemmas.Result.{IfOk-weaker}
use Rattle.gather_flow.specs.OneIndex.{attr_of}
use Rattle.gather_flow.proofs.ReaderLemmas.{attr_is}
use Rattle.gather_flow.proofs.all_read.AllRead.told.Goals as goal

pub returns : goal.returns
returns c =
    IfOk-weaker c.attr_of-attr.result _ _
    (λ attr told. attr_is c.take.result c.args.self.shares c.args.self.truncs c.in_ok-gathered.gathered attr
    c.in_ok-gathered.ensures c.as_slice-merged.ensures.runs told
    ∙ ap (λ listing. attr_of listing c.args.self.shares c.args.self.truncs) c.take.ensures.value)
    c.attr_of-attr.ensures.told
