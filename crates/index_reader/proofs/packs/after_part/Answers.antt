use Rattle.std.proofs.Common.{refl}
use Rattle.index_reader.specs.declared.steps.PackStep.TheVariants.{Rest}
use Rattle.index_reader.specs.FileStages.{part_left}
use Rattle.index_reader.specs.Stages.{after_left}
use Rattle.index_reader.proofs.Containers.FileLemmas.{pack_goes_on}
use Rattle.index_reader.proofs.packs.after_part.Goals as goal

pub returns-clause-goes_on : goal.returns-clause-goes_on
returns-clause-goes_on c = λ room.
    pack_goes_on room c.args.path c.args.cover c.args.read (Rest c.args.read) c.args.reply (part_left room c.in_ok-part.part) (after_left room c.in_ok-after.after)
    refl (c.in_ok-part.ensures.goes_on room) (c.in_ok-after.ensures.goes_on room)
