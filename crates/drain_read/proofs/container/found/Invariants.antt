use Rattle.std.proofs.Common.{◌≡◌, drop}
use Rattle.plfs_types.specs.declared.entries.Cover.{Cover}
use Rattle.index_reader.specs.Found.{item_of}
use Rattle.drain_read.proofs.container.found.Given as goal

abbrev pub invariant-loop-cover : goal.invariant-loop-cover
invariant-loop-cover l = item_of (λ (c : Cover). c.writer) l.writer (drop l.cover-index l.covers) ≡ item_of (λ (c : Cover). c.writer) l.writer l.covers
