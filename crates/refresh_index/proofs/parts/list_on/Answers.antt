use Rattle.std.proofs.Common.{refl, sym, ◌∙◌}
use Rattle.index_reader.specs.OpenStages.{open_standing}
use Rattle.mount_model.proofs.Flows.Composing.{through}
use Rattle.refresh_index.proofs.parts.list_on.Goals.{in-Some, in-None}
use Rattle.refresh_index.proofs.parts.list_on.Goals as goal

pub list_over-requires : goal.list_over-requires
list_over-requires c = through (open_standing c.args.scan) (open_standing c.args.scan) tt (sym c.in-None.is ∙ c.call.ensures) refl

pub returns-clause-goes_on : goal.returns-clause-goes_on
returns-clause-goes_on c = elim c.match-call.branch [ in-Some w ↦ rw w.result-is refl | in-None w ↦ rw w.result-is w.list_over.ensures.goes_on ]
