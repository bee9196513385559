use Rattle.std.proofs.Common.{◌≡◌, ◌++◌, map, take}
use Rattle.shape_check.specs.Shape.{in_folder}
use Rattle.shape_check.proofs.shape.push_names.Given as goal

-- the paths so far were added
abbrev pub invariant-loop-name : goal.invariant-loop-name
invariant-loop-name l = l.paths ≡ l.fn.paths ++ map (in_folder l.folder) (take l.name-index l.names)
