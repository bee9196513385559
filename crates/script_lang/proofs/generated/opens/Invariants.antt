use Rattle.std.proofs.Common.{◌≡◌, map}
use Rattle.std.specs.List.{range_with_len}
use Rattle.script_lang.specs.declared.script.Statement.TheVariants.{Open}
use Rattle.script_lang.specs.Generated.{file_of, said, on_lines}
use Rattle.script_lang.proofs.generated.opens.Given as goal

abbrev pub invariant-loop-i : goal.invariant-loop-i
invariant-loop-i l = record {
  line : l.written.first ≡ l.first;
  so_far : l.written.list ≡ on_lines l.first (map (λ i. said i (Open (file_of l.n))) (range_with_len 0 l.i));
}
