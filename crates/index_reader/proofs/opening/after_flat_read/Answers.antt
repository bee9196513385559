use Rattle.index_reader.specs.OpenStages.{after_flat, open_left}
use Rattle.index_reader.proofs.Containers.OpenLemmas.{flat_later}
use Rattle.index_reader.proofs.opening.after_flat_read.Goals as goal

pub returns-clause-goes_on : goal.returns-clause-goes_on
returns-clause-goes_on c =
    flat_later c.args.room c.args.read c.args.reply (after_flat c.args.room c.in_ok-after.after) (open_left c.stage_of.result) (c.in_ok-after.ensures.goes_on c.args.room) c.stage_of.ensures.goes_on
