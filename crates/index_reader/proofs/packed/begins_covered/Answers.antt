use Rattle.index_reader.proofs.Indices.PackedLemmas.{first_of_one}
use Rattle.index_reader.proofs.packed.begins_covered.Goals as goal

pub end_of-bytes-requires : goal.end_of-bytes-requires
end_of-bytes-requires c = first_of_one c.min-count.result c.args.entries.now c.requires
