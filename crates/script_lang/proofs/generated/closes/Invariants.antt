use Rattle.std.proofs.Common.{◌≡◌, map}
use Rattle.std.specs.List.{range_with_len}
use Rattle.script_lang.specs.declared.script.Statement.TheVariants.{Close}
use Rattle.script_lang.specs.Generated.{said, on_lines}
use Rattle.script_lang.proofs.generated.closes.Given as goal

abbrev pub invariant-loop-i : goal.invariant-loop-i
invariant-loop-i l = record {
  line : l.written.first ≡ l.first;
  so_far : l.written.list ≡ on_lines l.first (map (λ i. said i Close) (range_with_len 0 l.i));
}
