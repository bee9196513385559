use Rattle.std.proofs.Common.{◌≡◌, length}
use Rattle.std.specs.Prelude.{vec_len}
use Rattle.system_edge.proofs.inputs.open_files.Given as goal

-- one for each file so far
abbrev pub invariant-loop-file : goal.invariant-loop-file
invariant-loop-file l = vec_len l.opened ≡ length l.yielded
