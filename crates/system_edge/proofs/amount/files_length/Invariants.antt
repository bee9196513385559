use Rattle.std.proofs.Common.{◌≡◌}
use Rattle.system_edge.proofs.amount.files_length.Given as goal

-- before the first file there is none
abbrev pub invariant-loop-file : goal.invariant-loop-file
invariant-loop-file l = l.file-index ≡ 0 → l.all ≡ 0
