use Rattle.std.proofs.Common.{refl}
use Rattle.index_reader.specs.declared.flats.FlatStep.TheVariants.{Bytes}
use Rattle.index_reader.specs.FileStages.{part_left}
use Rattle.index_reader.specs.OpenStages.{after_flat}
use Rattle.index_reader.proofs.Containers.FileLemmas.{flat_goes_on}
use Rattle.index_reader.proofs.flats.after_part.Goals as goal

pub returns-clause-goes_on : goal.returns-clause-goes_on
returns-clause-goes_on c = λ room.
    flat_goes_on room c.args.id c.args.read (Bytes c.args.read) c.args.reply (part_left room c.in_ok-part.part) (after_flat room c.in_ok-after.after)
    refl (c.in_ok-part.ensures.goes_on room) (c.in_ok-after.ensures.goes_on room)
