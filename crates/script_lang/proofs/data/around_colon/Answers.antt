use Rattle.std.proofs.Common.{◌==◌, sym}
use Rattle.script_lang.proofs.Scripts.Cuts.{before-cut, after-cut, before-whole, after-whole}
use Rattle.script_lang.proofs.data.around_colon.Goals as goal

pub returns-in-Some-clause-before : goal.returns-in-Some-clause-before
returns-in-Some-clause-before c = before-cut (λ b. b == 58) c.args.pair.now c.in-Some.place (sym c.in-Some.ensures.place)

pub returns-in-Some-clause-after : goal.returns-in-Some-clause-after
returns-in-Some-clause-after c = after-cut (λ b. b == 58) c.args.pair.now c.in-Some.place (sym c.in-Some.ensures.place)

pub returns-in-None-clause-before : goal.returns-in-None-clause-before
returns-in-None-clause-before c = before-whole (λ b. b == 58) c.args.pair.now (sym c.in-None.ensures.place)

pub returns-in-None-clause-after : goal.returns-in-None-clause-after
returns-in-None-clause-after c = after-whole (λ b. b == 58) c.args.pair.now (sym c.in-None.ensures.place)
