use Rattle.std.proofs.Common.{◌≡◌, drop}
use Rattle.index_reader.specs.Opening.{lone_pack}
use Rattle.index_reader.proofs.owners.first_of.Given as goal

abbrev pub invariant-loop-owner : goal.invariant-loop-owner
invariant-loop-owner l = lone_pack l.others (drop l.owner-index l.list) ≡ lone_pack l.others l.list
