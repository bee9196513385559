use Rattle.std.proofs.Common.{◌≡◌, ◌*◌, [], ◌∷◌, ◌++◌, ◌+◌, length, ◌∙◌, arith}
use Rattle.script_lang.specs.declared.script.Statement.TheVariants.{Ropen, Verify, Stat}
use Rattle.script_lang.specs.Generated.{file_of, block_place, block, said, on_lines}
use Rattle.script_lang.proofs.Scripts.GeneratedLemmas.{lines_so_far, says_more, says_last}
use Rattle.script_lang.proofs.generated.checks.Goals as goal

pub say-requires-in-loop-k : goal.say-requires-in-loop-k
say-requires-in-loop-k c = let count = lines_so_far (said 0 (Ropen (file_of c.args.n) 4) ∷ []) (λ k. said 0 (Verify (block_place k) (block c.args.n k))) c.args.first c.loop-k.k c.loop-k.written.list c.loop-k.invariant.so_far in omega (arith, count, c.loop-k.invariant.line, c.requires.first, c.requires.few, c.loop-k.auto.k-end)

pub say-requires-2 : goal.say-requires-2
say-requires-2 c = let count = lines_so_far (said 0 (Ropen (file_of c.args.n) 4) ∷ []) (λ k. said 0 (Verify (block_place k) (block c.args.n k))) c.args.first c.loop-k.k c.loop-k.written.list c.loop-k.invariant.so_far in omega (arith, count, c.loop-k.invariant.line, c.requires.first, c.requires.few, c.loop-k.auto.k-end)

pub loop-k-preserved : goal.loop-k-preserved
loop-k-preserved c = record {
  line = c.in_ok-say-2.ensures.first ∙ c.loop-k.invariant.line;
  so_far = says_more (said 0 (Ropen (file_of c.args.n) 4) ∷ []) (λ k. said 0 (Verify (block_place k) (block c.args.n k))) c.args.first c.loop-k.written.first c.loop-k.k c.loop-k.written.list c.say-in-loop-k.new.self.list _ c.loop-k.invariant.line c.loop-k.invariant.so_far c.in_ok-say-2.ensures.list (λ i. said 0 (Verify (c.from-at.ensures i * 47008) (c.block-content.ensures i)));
}

pub returns : goal.returns
returns c =
    let all : c.loop-k.k ≡ 32 * c.args.n = omega (arith, c.loop-k.auto.k-end, c.loop-k-test.false) in
    says_last (said 0 (Ropen (file_of c.args.n) 4) ∷ []) (λ k. said 0 (Verify (block_place k) (block c.args.n k))) c.args.first c.loop-k.written.first c.loop-k.k (32 * c.args.n) c.loop-k.written.list c.say-2.new.self.list _
    c.loop-k.invariant.line c.loop-k.invariant.so_far all (c.in_ok-say-3.ensures.list ∙ (λ i. c.loop-k.written.list ++ on_lines (c.loop-k.written.first + length c.loop-k.written.list) (said 0 (Stat (c.in_ok-name.ensures i)) ∷ [])))
