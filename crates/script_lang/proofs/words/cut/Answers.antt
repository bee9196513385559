use Rattle.std.proofs.Common.{◌==◌, sym}
use Rattle.script_lang.proofs.Scripts.Cuts.{parts-cut, parts-whole}
use Rattle.script_lang.proofs.words.cut.Goals as goal

pub returns-in-Some-clause-parts : goal.returns-in-Some-clause-parts
returns-in-Some-clause-parts c = parts-cut (λ b. b == c.args.at) c.args.bytes.now c.in-Some.place (sym c.in-Some.ensures.place)

pub returns-in-None-clause-parts : goal.returns-in-None-clause-parts
returns-in-None-clause-parts c = parts-whole (λ b. b == c.args.at) c.args.bytes.now (sym c.in-None.ensures.place)
