use Rattle.std.proofs.Common.{◌≡◌, ◌++◌, ◌-◌, map}
use Rattle.std.specs.List.{range_with_len}
use Rattle.container_layout.specs.Paths.{hostdir_of}
use Rattle.index_reader.specs.Tops.{top_names}
use Rattle.index_reader.proofs.tops.top_names.Given as goal

abbrev pub invariant-loop-host : goal.invariant-loop-host
invariant-loop-host l = l.names ++ map hostdir_of (range_with_len l.host (32 - l.host)) ≡ top_names
