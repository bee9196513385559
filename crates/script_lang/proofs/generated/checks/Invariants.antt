use Rattle.std.proofs.Common.{◌≡◌, [], ◌∷◌, ◌++◌, map}
use Rattle.std.specs.List.{range_with_len}
use Rattle.script_lang.specs.declared.script.Statement.TheVariants.{Ropen, Verify}
use Rattle.script_lang.specs.Generated.{file_of, block_place, block, said, on_lines}
use Rattle.script_lang.proofs.generated.checks.Given as goal

abbrev pub invariant-loop-k : goal.invariant-loop-k
invariant-loop-k l = record {
  line : l.written.first ≡ l.first;
  so_far : l.written.list ≡ on_lines l.first ((said 0 (Ropen (file_of l.n) 4) ∷ []) ++ map (λ k. said 0 (Verify (block_place k) (block l.n k))) (range_with_len 0 l.k));
}
