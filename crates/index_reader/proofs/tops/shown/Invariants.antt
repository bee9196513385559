use Rattle.std.proofs.Common.{◌≡◌, ◌≤◌, ◌++◌, ◌-◌, length}
use Rattle.std.specs.List.{range_with_len}
use Rattle.index_reader.specs.Tops.{shown}
use Rattle.container_layout.specs.Paths.{hostdirs}
use Rattle.index_reader.proofs.tops.shown.Given as goal

abbrev pub invariant-loop-folder : goal.invariant-loop-folder
invariant-loop-folder l = record {
  few : length l.list.items ≤ l.folder;
  same : l.list.items ++ shown l.names (range_with_len l.folder (32 - l.folder)) ≡ shown l.names hostdirs;
}
