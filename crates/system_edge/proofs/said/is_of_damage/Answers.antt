use Rattle.std.proofs.Common.{◌∙◌}
use Rattle.system_edge.proofs.Texts.{is_text, of_damage}
use Rattle.system_edge.proofs.said.is_of_damage.Goals as goal

pub returns-then-starts_with : goal.returns-then-starts_with
returns-then-starts_with c = of_damage c.args.line.now c.from_space.result.now c.starts_with.result c.is_ok.result c.from_space.ensures c.starts_with.ensures.value c.if-starts_with.true (c.is_ok.ensures.value ∙ is_text c.args.line.now c.from_utf8.result c.from_utf8.ensures.cases)
