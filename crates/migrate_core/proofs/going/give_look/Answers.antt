use Rattle.std.proofs.Common.{sym, ◌∙◌}
use Rattle.index_reader.specs.OpenStages.{open_standing}
use Rattle.mount_model.proofs.Flows.Composing.{next_then}
use Rattle.migrate_core.proofs.going.give_look.Goals as goal

pub returns-clause-call : goal.returns-clause-call
returns-clause-call c = λ k. c.in-Ok.ensures.call ∙ sym (next_then k (open_standing c.args.scan) c.requires)
