use Rattle.index_reader.specs.FileStages.{part_left}
use Rattle.index_reader.specs.Stages.{after_left}
use Rattle.index_reader.proofs.Containers.FileLemmas.{pack_rests}
use Rattle.index_reader.proofs.packs.read_rest.Goals as goal

pub returns-clause-goes_on : goal.returns-clause-goes_on
returns-clause-goes_on c = λ room.
    pack_rests room c.args.path.now c.args.cover.now c.args.told c.args.head (part_left room c.read_on-part.result) (after_left room c.in_ok-after.after)
    (c.read_on-part.ensures.goes_on room) (c.in_ok-after.ensures.goes_on room)
