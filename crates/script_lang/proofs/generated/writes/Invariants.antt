use Rattle.std.proofs.Common.{◌≡◌, ◌%◌, map}
use Rattle.std.specs.List.{range_with_len}
use Rattle.script_lang.specs.declared.script.Statement.TheVariants.{Write}
use Rattle.script_lang.specs.Generated.{block_place, block, said, on_lines}
use Rattle.script_lang.proofs.generated.writes.Given as goal

abbrev pub invariant-loop-k : goal.invariant-loop-k
invariant-loop-k l = record {
  line : l.written.first ≡ l.first;
  so_far : l.written.list ≡ on_lines l.first (map (λ k. said (k % l.n) (Write (block_place k) (block l.n k))) (range_with_len 0 l.k));
}
