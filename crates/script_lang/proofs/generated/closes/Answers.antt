use Rattle.std.proofs.Common.{[], ◌∙◌, refl, arith}
use Rattle.script_lang.specs.declared.script.Statement.TheVariants.{Close}
use Rattle.script_lang.specs.Generated.{said}
use Rattle.script_lang.proofs.Scripts.GeneratedLemmas.{lines_so_far, says_more}
use Rattle.script_lang.proofs.generated.closes.Goals as goal

pub say-requires : goal.say-requires
say-requires c = let count = lines_so_far ([]) (λ i. said i Close) c.args.first c.loop-i.i c.loop-i.written.list c.loop-i.invariant.so_far in omega (arith, count, c.loop-i.invariant.line, c.requires.first, c.requires.few, c.loop-i.auto.i-end)

pub loop-i-preserved : goal.loop-i-preserved
loop-i-preserved c = record {
  line = c.in_ok-say.ensures.first ∙ c.loop-i.invariant.line;
  so_far = says_more ([]) (λ i. said i Close) c.args.first c.loop-i.written.first c.loop-i.i c.loop-i.written.list c.say.new.self.list _ c.loop-i.invariant.line c.loop-i.invariant.so_far c.in_ok-say.ensures.list refl;
}
