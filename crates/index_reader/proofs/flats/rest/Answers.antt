use Rattle.index_reader.specs.FileStages.{part_left}
use Rattle.index_reader.specs.OpenStages.{after_flat}
use Rattle.index_reader.proofs.Containers.FileLemmas.{flat_rest_goes_on}
use Rattle.index_reader.proofs.flats.rest.Goals as goal

pub returns-clause-goes_on : goal.returns-clause-goes_on
returns-clause-goes_on c = λ room.
    flat_rest_goes_on room c.args.id c.args.told c.flat_path.result c.args.first (part_left room c.in_ok-part.part) (after_flat room c.in_ok-after.after)
    c.flat_path.ensures (c.in_ok-part.ensures.goes_on room) (c.in_ok-after.ensures.goes_on room)
