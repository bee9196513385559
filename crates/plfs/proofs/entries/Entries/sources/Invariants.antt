use Rattle.std.proofs.Common.{◌≡◌, ◌++◌, drop, map}
use Rattle.std.specs.Prelude.{filter_map}
use Rattle.plfs_types.specs.Names.{name_of}
use Rattle.plfs.proofs.entries.Entries.sources.Given as goal

-- the sources of the names so far, and those of the rest, are all
abbrev pub invariant-loop-name : goal.invariant-loop-name
invariant-loop-name l = map (λ source. source.name) l.sources.items ++ filter_map name_of (drop l.name-index l.self.names.items) ≡ filter_map name_of l.self.names.items
