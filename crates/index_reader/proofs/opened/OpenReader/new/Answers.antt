use Rattle.std.proofs.Common.{List, [], subst}
use Rattle.plfs_types.specs.declared.entries.Entry.{Entry}
use Rattle.plfs_types.specs.declared.entries.Trunc.{Trunc}
use Rattle.plain_file.specs.Runs.{ArePieces}
use Rattle.index_reader.proofs.opened.OpenReader.new.Goals as goal

pub returns-clause-truncated : goal.returns-clause-truncated
returns-clause-truncated c =
    subst (λ (ts : List Trunc). (entries : List Entry) → ArePieces entries [] c.args.gathered.flat.pieces → ArePieces entries ts c.in-Ok.clipped) c.as_slice-2.ensures c.in-Ok.ensures.truncated
