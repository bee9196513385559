use Rattle.std.proofs.Common.{◌≡◌, map}
use Rattle.std.specs.List.{range_with_len}
use Rattle.script_lang.specs.Generated.{writer}
use Rattle.script_lang.proofs.generated.writers.Given as goal

abbrev pub invariant-loop-i : goal.invariant-loop-i
invariant-loop-i l = record { so_far : l.actors ≡ map writer (range_with_len 0 l.i) }
