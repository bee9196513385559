use Rattle.std.proofs.Common.{take}
use Rattle.index_reader.specs.Firsts.{HasFirsts}
use Rattle.index_reader.proofs.firsts.by_writer.Given as goal

abbrev pub invariant-loop-cover : goal.invariant-loop-cover
invariant-loop-cover l = HasFirsts (take l.cover-index l.told) l.firsts
