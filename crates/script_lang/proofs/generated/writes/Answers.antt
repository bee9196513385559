use Rattle.std.proofs.Common.{◌%◌, ◌*◌, [], ◌∙◌, arith}
use Rattle.script_lang.specs.declared.script.Statement.TheVariants.{Write}
use Rattle.script_lang.specs.Generated.{block_place, block, said}
use Rattle.script_lang.proofs.Scripts.GeneratedLemmas.{lines_so_far, says_more}
use Rattle.script_lang.proofs.generated.writes.Goals as goal

pub say-requires : goal.say-requires
say-requires c = let count = lines_so_far ([]) (λ k. said (k % c.args.n) (Write (block_place k) (block c.args.n k))) c.args.first c.loop-k.k c.loop-k.written.list c.loop-k.invariant.so_far in omega (arith, count, c.loop-k.invariant.line, c.requires.first, c.requires.few, c.loop-k.auto.k-end)

pub loop-k-preserved : goal.loop-k-preserved
loop-k-preserved c = record {
  line = c.in_ok-say.ensures.first ∙ c.loop-k.invariant.line;
  so_far = says_more ([]) (λ k. said (k % c.args.n) (Write (block_place k) (block c.args.n k))) c.args.first c.loop-k.written.first c.loop-k.k c.loop-k.written.list c.say.new.self.list _ c.loop-k.invariant.line c.loop-k.invariant.so_far c.in_ok-say.ensures.list (λ i. said (c.loop-k.k % c.args.n) (Write (c.from-at.ensures i * 47008) (c.block-content.ensures i)));
}
