use Rattle.index_reader.specs.OpenStages.{open_standing}
use Rattle.mount_model.proofs.Flows.Composing.{same_rest}
use Rattle.refresh_index.specs.Refreshing.{if_listed}
use Rattle.refresh_index.proofs.giving.give_look.Goals as goal

pub returns-in-Ok-clause-rest : goal.returns-in-Ok-clause-rest
returns-in-Ok-clause-rest c = same_rest (if_listed c.args.held) (open_standing c.in-Ok.scan) (open_standing c.args.scan) c.in-Ok.ensures.rest
